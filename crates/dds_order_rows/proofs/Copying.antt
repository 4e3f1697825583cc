-- Laws of the pairs of one letter of a copy.
use Rattle.std.proofs.Common.{◌≡◌, ℕ, List, take, length, min, arith}
use Rattle.std.proofs.lemmas.Grind.{common_steps}

-- as many first items as there are, at most a number of them
pub take-least : {X : Type 0} (xs : List X) (n k : ℕ) → k ≡ min (length xs) n → take k xs ≡ take n xs
take-least xs n k is = rw is (grind (arith, common_steps))
