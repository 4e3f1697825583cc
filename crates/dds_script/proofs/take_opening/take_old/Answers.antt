use Rattle.std.proofs.Common.{sym, ◌∙◌}
use Rattle.dds_script.proofs.Taking.{old-moves}
use Rattle.dds_script.proofs.take_opening.take_old.Goals as goal

pub returns : goal.returns
returns c =
    old-moves c.args.reader.now c.args.library.now c.args.name.now c.args.list.now c.in-Some-Some.library c.in-Some-Some.name c.in-Bricks.list _
    c.stale_leaf.result (sym c.takes_old.ensures ∙ c.if-not-takes_old.false) c.in_default-unopened.ensures c.in-Some-Some.ensures c.in-Some-Some.ensures'
    (rw c.in-Bricks.is at c.in_ok-read_group.ensures) (rw (c.stale_at-number.ensures, c.as_slice.ensures) at c.stale_leaf.ensures) c.in_ok-push.ensures.ok
