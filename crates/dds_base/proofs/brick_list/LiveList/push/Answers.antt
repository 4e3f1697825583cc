use Rattle.std.proofs.Common.{◌≡◌, false}
use Rattle.dds_base.specs.BrickList.{has}
use Rattle.dds_base.proofs.Bricks.{bricks-push}
use Rattle.dds_base.proofs.brick_list.LiveList.push.Goals as goal

pub invariant_of-self : goal.invariant_of-self
invariant_of-self c =
    let new : has c.self.inside.members c.args.brick ≡ false = rw c.self.view_is c.requires.new in
    rw c.push.ensures (rw c.number.ensures.value (bricks-push c.self.inside.members c.args.brick c.self.invariant c.requires.brick new))
