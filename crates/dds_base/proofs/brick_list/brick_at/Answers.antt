use Rattle.std.proofs.Common.{arith}
use Rattle.std.proofs.lemmas.Bool.Decides.{nat_tests}
use Rattle.std.proofs.lemmas.Grind.{common_steps}
use Rattle.dds_base.proofs.Bricks.{brick-at}
use Rattle.dds_base.proofs.brick_list.brick_at.Goals as goal

pub unwrap-requires : goal.unwrap-requires
unwrap-requires c =
    let below = brick-at c.args.members c.args.place c.requires.bricks c.requires.within in
    grind (arith, nat_tests, common_steps)
