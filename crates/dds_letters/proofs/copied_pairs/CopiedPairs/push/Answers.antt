use Rattle.std.proofs.Common.{None, length, IsTrue, ◌<◌}
use Rattle.dds_base.specs.Place.{is_after, last_key}
use Rattle.dds_letters.proofs.Copied.{copied-push}
use Rattle.dds_letters.proofs.copied_pairs.CopiedPairs.push.Goals as goal

pub invariant_of-self-2 : goal.invariant_of-self-2
invariant_of-self-2 c =
    let room : length c.self.inside.pairs < 32 = rw c.self.view_is c.requires.room in
    let next : IsTrue (is_after (last_key None c.self.inside.pairs) c.args.pair.key) = rw c.self.view_is c.requires.rises in
    copied-push c.self.inside.pairs c.push.new.self c.args.pair c.in_ok-push.ensures.ok room c.self.invariant.1 next
