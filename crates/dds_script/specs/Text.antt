-- Bricks, partitions and lists of bricks, as scripts and transcripts spell them.
use Rattle.std.specs.Prelude.{ℕ, ◌++◌, List, [], ◌∷◌, codes}
use Rattle.std.specs.Fmt.{decimal}
use Rattle.std.specs.List.{flat_map}
use Rattle.dds_base.specs.Name.{Name}

-- a brick: `b` and its number
abbrev pub brick_text : ℕ → List ℕ
brick_text brick = codes "b" ++ decimal brick

-- a partition: its bits, `/` and its depth
abbrev pub name_text : Name → List ℕ
name_text name = decimal name.bits ++ (codes "/" ++ decimal name.depth)

-- a comma and a brick's number
abbrev pub further_text : ℕ → List ℕ
further_text brick = codes "," ++ decimal brick

-- the numbers of bricks, parted by commas
abbrev pub list_text : List ℕ → List ℕ
list_text [] = []
list_text (brick ∷ bricks) = decimal brick ++ flat_map further_text bricks
