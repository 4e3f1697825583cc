use Rattle.std.proofs.Common.{◌≡◌, drop}
use Rattle.std.specs.FinMap as map
use Rattle.dds_maps.specs.Judge.{put_all}
use Rattle.dds_maps.proofs.maps.Maps.new.Given as goal

abbrev pub invariant-loop-leaf : goal.invariant-loop-leaf
invariant-loop-leaf l = put_all l.trie (drop l.leaf-index l.leaves) ≡ put_all map.empty l.leaves
