use Rattle.std.specs.Prelude.{◌&&◌, List, [], ◌∷◌, Option, Some, None, if◌then◌else◌}
use Rattle.dds_base.specs.Name.{Name, same_name}
use Rattle.dds_base.specs.Number.{StampOf}
use Rattle.dds_base.specs.declared.leaf.Leaf.{Leaf}
use Rattle.dds_groups.specs.Leaves.{same_stamp, newer}
use Rattle.dds_trie.specs.Trie.{LeafMap, put}
use Rattle.dds_maps.specs.declared.maps.Standing.{Standing}
use Rattle.dds_maps.specs.declared.maps.Standing.TheVariants as standing
use Rattle.dds_maps.specs.declared.maps.Judgement.{Judgement}
use Rattle.dds_maps.specs.declared.maps.Judgement.TheVariants as judgement

-- the map with these leaves put into it in turn
abbrev pub put_all : LeafMap → List Leaf → LeafMap
put_all m [] = m
put_all m (l ∷ ls) = put_all (put m l) ls

-- how a leaf that was used stands against the one that covers its key here
abbrev pub standing_of : Option Leaf → Name → StampOf → Standing
standing_of None name stamp = standing.NotHere
standing_of (Some leaf) name stamp =
    if same_name leaf.name name && same_stamp leaf.stamp stamp then standing.Same else standing.Other leaf

-- which of two maps' leaves for a key is behind the other
abbrev pub judged : Leaf → Option Leaf → Judgement
judged mine None = judgement.NotHere
judged mine (Some theirs) =
    if same_name mine.name theirs.name && same_stamp mine.stamp theirs.stamp then judgement.Same
    else (if newer mine theirs then judgement.BrickBehind else judgement.LibraryStale)
