use Rattle.std.specs.Prelude.{ℕ, ◌≡◌, ◌<◌, ◌≤◌, List, length, Result, Ok, Err}
use Rattle.dds_base.specs.declared.value.Value.{Value}
use Rattle.dds_base.specs.declared.value.ValueFault.{ValueFault}
use Rattle.dds_base.specs.declared.value.ValueFault.TheVariants.{TooLong, Memory}

-- what making a value of these bytes answers: a value of more than 60,000 bytes is refused with its length, and else
-- only want of memory is
abbrev pub IsValueOf : List ℕ → Result Value ValueFault → Type 0
IsValueOf bytes (Ok value) = (value ≡ bytes) × (length bytes ≤ 60000)
IsValueOf bytes (Err (TooLong len)) = (len ≡ length bytes) × (60000 < length bytes)
IsValueOf bytes (Err Memory) = length bytes ≤ 60000
