use Rattle.std.proofs.Common.{sym}
use Rattle.dds_script.proofs.Taking.{leaf-moves}
use Rattle.dds_script.proofs.take_opening.take_leaf.Goals as goal

pub returns : goal.returns
returns c =
    leaf-moves c.args.reader.now c.args.name_word.now c.args.list_word.now c.in-Some.name c.in-Bricks.list _ c.opening_leaf.result c.in-Leaves.is
    c.in-Some.ensures (rw c.in-Bricks.is at c.in_ok-read_group.ensures) (sym (rw c.as_slice.ensures at c.if-meets.ensures))
    (rw c.len-number.ensures at c.opening_leaf.ensures) c.in_ok-push.ensures.ok
