use Rattle.dds_script.proofs.Groups.{list-twice}
use Rattle.dds_script.proofs.group_word.read_group.Goals as goal

pub returns-in-Some : goal.returns-in-Some
returns-in-Some c =
    list-twice c.args.bricks c.args.word.now c.in-Some.list.items c.of.result c.requires (rw c.in-Some.is at c.in_ok-list.ensures) c.in-None-of.is
    (rw c.as_slice.ensures.value at c.of.ensures)
