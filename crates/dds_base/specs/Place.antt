-- The order in which a brick's pairs stand.
use Rattle.std.specs.Prelude.{ℕ, Bool, true, ◌==◌, ◌&&◌, ◌||◌, ◌*◌, ◌%◌, ◌/◌, ◌^◌, List, [], ◌∷◌, Option, Some, None, nat_lt}
use Rattle.dds_base.specs.declared.pair.Pair.{Pair}

-- a key's bucket: the top byte of the key's product with the multiplier, in 64 bits
unfoldable pub bucket : ℕ → ℕ
bucket key = key * 11400714819323198485 % 2 ^ 64 / 2 ^ 56

-- the first key's place, its bucket and then the key, is before the second's
abbrev pub is_before : ℕ → ℕ → Bool
is_before a b = nat_lt (bucket a) (bucket b) || (bucket a == bucket b && nat_lt a b)

-- the key's place is after that of another, if there is one
abbrev pub is_after : Option ℕ → ℕ → Bool
is_after None key = true
is_after (Some other) key = is_before other key

-- the pairs' places rise strictly, from after that of a key, if there is one
abbrev pub rise_after : Option ℕ → List Pair → Bool
rise_after after [] = true
rise_after after (p ∷ ps) = is_after after p.key && rise_after (Some p.key) ps

-- the key of the last pair, or another where there are none
abbrev pub last_key : Option ℕ → List Pair → Option ℕ
last_key after [] = after
last_key after (p ∷ ps) = last_key (Some p.key) ps
