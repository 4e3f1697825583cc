-- How much of the keys a name covers.
use Rattle.std.specs.Prelude.{ℕ, ◌+◌, ◌-◌, ◌^◌, List, [], ◌∷◌}
use Rattle.dds_base.specs.Name.{Name}
use Rattle.dds_base.specs.declared.leaf.Leaf.{Leaf}

-- how many of the 65,536 endings of a key the name covers
abbrev pub share : Name → ℕ
share name = 2 ^ (16 - name.depth)

abbrev pub shares : List Leaf → ℕ
shares [] = 0
shares (leaf ∷ leaves) = share leaf.name + shares leaves
