use Rattle.std.specs.Prelude.{ℕ, Bool, true, false, ◌&&◌, ◌||◌, ◌==◌, List, [], ◌∷◌, length, nat_lt, nat_le, not}

-- the number stands in the list
abbrev pub has : List ℕ → ℕ → Bool
has [] n = false
has (x ∷ xs) n = x == n || has xs n

-- each number is a brick's, and none stands twice
abbrev pub are_bricks : List ℕ → Bool
are_bricks [] = true
are_bricks (x ∷ xs) = nat_lt x 64 && (not (has xs x) && are_bricks xs)

-- 1 to 8 bricks, each once
abbrev pub is_brick_list : List ℕ → Bool
is_brick_list xs = nat_le 1 (length xs) && (nat_le (length xs) 8 && are_bricks xs)
