use Rattle.std.proofs.Common.{◌≡◌, OnOk, subst, sym}
use Rattle.dds_letters.specs.declared.letter.Letter.{Letter}
use Rattle.dds_core.specs.Brick.{live_brick_turn}
use Rattle.dds_core.proofs.Going.{ok-stays}
use Rattle.dds_core.proofs.brick.live_brick_turn.Goals as goal

pub returns-in-Get-clause-state : goal.returns-in-Get-clause-state
returns-in-Get-clause-state c =
    subst (λ (l : Letter). OnOk c.get_row.result (c.args.state.now ≡ (live_brick_turn c.args.state.now c.args.from l).state)) (sym c.in-Get.is)
    (ok-stays c.get_row.result c.args.state.now c.args.from c.in-Get.txn c.in-Get.key _)
