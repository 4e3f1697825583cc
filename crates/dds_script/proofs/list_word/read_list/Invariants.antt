use Rattle.std.proofs.Common.{◌≡◌, ◌-◌, ◌≤◌, ◌++◌, length, map}
use Rattle.std.specs.Fmt.{decimal}
use Rattle.dds_script.specs.Cutting.{cut_rest}
use Rattle.dds_script.specs.Ranges.{AreBelow}
use Rattle.dds_script.specs.Words.{cut}
use Rattle.dds_script.proofs.list_word.read_list.Given as goal

abbrev pub invariant-reading : goal.invariant-reading
invariant-reading l = record {
  parts : cut 44 l.word ≡ map decimal l.list.items ++ cut_rest 44 l.left;
  most : length l.list.items ≤ 8;
  below : AreBelow l.bricks l.list.items;
}

abbrev pub decreases-reading : goal.decreases-reading
decreases-reading l = 8 - length l.list.items
