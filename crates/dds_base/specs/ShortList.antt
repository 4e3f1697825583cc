use Rattle.std.specs.Prelude.{◌≡◌, ℕ, ◌-◌, ◌≤◌, ◌++◌, List, length, take, drop, replicate}
use Rattle.std.proofs.Common.{arith}
use Rattle.std.proofs.lemmas.Grind.{common_steps}

-- an array of eight of which `len` places are used, and the others are 0
pub record IsPadded (items : List ℕ) (len : ℕ) : Type 0 where
  pub all : length items ≡ 8
  pub within : len ≤ 8
  pub rest : drop len items ≡ replicate (8 - len) 0

pub unpadded : (items : List ℕ) (len : ℕ) → IsPadded items len → length (take len items) ≡ len
unpadded items len h = grind (arith, common_steps, h.all, h.within)

pub padded : (items : List ℕ) (len : ℕ) → IsPadded items len → take len items ++ replicate (8 - length (take len items)) 0 ≡ items
padded items len h = rw (unpadded items len h, ← h.rest) (grind (arith, common_steps))
