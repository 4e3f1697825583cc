use Rattle.std.specs.Prelude.{ℕ, Bool, ◌==◌, ◌-◌, ◌^◌, bit_or, nat_lt, if◌then◌else◌}
use Rattle.std.specs.Int.{bit_at}
use Rattle.dds_base.specs.declared.node_set.NodeSet.{NodeSet}

-- the node is in the set: bricks 0 to 63 have a bit in the first word, libraries one in the second
abbrev pub has_node : NodeSet → ℕ → Bool
has_node s node = if nat_lt node 64 then bit_at s.bricks node == 1 else bit_at s.libraries (node - 64) == 1

-- the set of no node
abbrev pub no_nodes : NodeSet
no_nodes = record { bricks = 0; libraries = 0 }

-- the set with a node more
abbrev pub with_node : NodeSet → ℕ → NodeSet
with_node s node =
    if nat_lt node 64 then record s { bricks = bit_or s.bricks (2 ^ node) }
    else record s { libraries = bit_or s.libraries (2 ^ (node - 64)) }
