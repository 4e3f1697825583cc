use Rattle.dds_groups.proofs.Members.{has-some}
use Rattle.dds_groups.proofs.made.joined.Goals as goal

pub push-requires-clause-new : goal.push-requires-clause-new
push-requires-clause-new c = has-some c.args.old.now.list c.args.live.now c.args.joiner c.requires.members c.requires.new
