use Rattle.std.specs.Prelude.{Bool, ◌==◌, ◌&&◌, ◌+◌, ◌-◌, ◌^◌, nat_lt, if◌then◌else◌}
use Rattle.dds_base.specs.Name.{Name, covers}

-- the half of a name's keys whose next bit is 0
abbrev pub low_half : Name → Name
low_half n = record { bits = n.bits; depth = n.depth + 1 }

-- the half of a name's keys whose next bit is 1
abbrev pub high_half : Name → Name
high_half n = record { bits = n.bits + 2 ^ n.depth; depth = n.depth + 1 }

-- the second name is one of the two halves of the first
abbrev pub is_half : Name → Name → Bool
is_half whole half = half.depth == whole.depth + 1 && covers whole half.bits

-- the other half of the same whole: the name that differs in its top bit alone
abbrev pub other_half : Name → Name
other_half n =
    record n { bits = (if nat_lt n.bits (2 ^ (n.depth - 1)) then n.bits + 2 ^ (n.depth - 1) else n.bits - 2 ^ (n.depth - 1)) }
