use Rattle.dds_table.proofs.Meeting.{added}
use Rattle.dds_table.proofs.met.add.Goals as goal

pub returns : goal.returns
returns c = added c.args.numbers.now c.insert.new.self c.args.number c.in_ok-insert.ensures.updates
