-- The root page of a table.
use Rattle.std.specs.Prelude.{ℕ, suc, zero, ◌+◌, ◌==◌, ◌≡◌, not, List, [], ◌∷◌, ◌++◌, flat_map, nat_lt, Option, Some, None, Result, Ok, Err}
use Rattle.dds_pages.specs.declared.fault.PageFault.{PageFault}
use Rattle.dds_pages.specs.declared.fault.PageFault.TheVariants.{NotAPage, Memory}
use Rattle.dds_pages.specs.Fields.{number_at, spelled, zero_from, padded, first_fault}

-- how many pairs a table has, and the first page of each bucket
pub record Root : Type 0 where
  pub pairs : ℕ
  pub firsts : List ℕ

-- the n numbers of 8 bytes from a place
unfoldable pub numbers_at : List ℕ → ℕ → ℕ → List ℕ
numbers_at bytes at zero = []
numbers_at bytes at (suc n) = number_at bytes at 8 ∷ numbers_at bytes (at + 8) n

-- the first field of a root page that isn't accepted
abbrev pub root_fault : ℕ → List ℕ → Option ℕ
root_fault version bytes =
    first_fault
    ((not (number_at bytes 0 1 == 1), 0) ∷ (not (number_at bytes 1 1 == version), 1) ∷ (not (number_at bytes 2 2 == 0), 2)
    ∷ (nat_lt 16384 (number_at bytes 4 4), 4)
    ∷ (not (number_at bytes 8 8 == 0), 8) ∷ (not (zero_from bytes 2064), 2064) ∷ [])

-- what an accepted root page says
abbrev pub root_of : List ℕ → Root
root_of bytes = record { pairs = number_at bytes 4 4; firsts = numbers_at bytes 16 256 }

-- the bytes of a root page before its first pages
abbrev pub root_head : ℕ → ℕ → List ℕ
root_head version pairs = spelled 1 1 ++ (spelled 1 version ++ (spelled 2 0 ++ (spelled 4 pairs ++ spelled 8 0)))

-- the bytes of a root page
abbrev pub root_bytes : ℕ → Root → List ℕ
root_bytes version root =
    padded (spelled 1 1 ++ (spelled 1 version ++ (spelled 2 0 ++ (spelled 4 root.pairs ++ (spelled 8 0 ++ flat_map (spelled 8) root.firsts)))))

-- what reading a root page answers
abbrev pub IsRootRead : ℕ → List ℕ → Result Root PageFault → Type 0
IsRootRead version bytes (Ok root) = (root_fault version bytes ≡ None) × (root ≡ root_of bytes)
IsRootRead version bytes (Err (NotAPage at)) = root_fault version bytes ≡ Some at
IsRootRead version bytes (Err Memory) = ⊥
