-- A page of a long value's bytes.
use Rattle.std.specs.Prelude.{ℕ, ◌+◌, ◌==◌, ◌≡◌, ◌||◌, not, List, [], ◌∷◌, ◌++◌, length, drop, take, nat_lt, Option, Some, None, Result, Ok, Err}
use Rattle.dds_pages.specs.declared.fault.PageFault.{PageFault}
use Rattle.dds_pages.specs.declared.fault.PageFault.TheVariants.{NotAPage, Memory}
use Rattle.dds_pages.specs.Fields.{number_at, spelled, zero_from, padded, first_fault}

-- some bytes of a value, and the page of the next ones
pub record Overflow : Type 0 where
  pub bytes : List ℕ
  pub next : ℕ

-- the first field of an overflow page that isn't accepted
abbrev pub overflow_fault : List ℕ → Option ℕ
overflow_fault page =
    first_fault
    ((not (number_at page 0 1 == 3), 0) ∷ (not (number_at page 1 1 == 2), 1) ∷ (number_at page 2 2 == 0 || nat_lt 4080 (number_at page 2 2), 2)
    ∷ (not (number_at page 12 4 == 0), 12) ∷ (not (zero_from page (16 + number_at page 2 2)), 16 + number_at page 2 2) ∷ [])

-- what an accepted overflow page says
abbrev pub overflow_of : List ℕ → Overflow
overflow_of page = record { bytes = take (number_at page 2 2) (drop 16 page); next = number_at page 4 8 }

-- the bytes of an overflow page
abbrev pub overflow_bytes : Overflow → List ℕ
overflow_bytes over =
    padded (spelled 1 3 ++ (spelled 1 2 ++ (spelled 2 (length over.bytes) ++ (spelled 8 over.next ++ (spelled 4 0 ++ over.bytes)))))

-- what reading an overflow page answers; want of memory comes only where the page is accepted
abbrev pub IsOverflowRead : List ℕ → Result Overflow PageFault → Type 0
IsOverflowRead page (Ok over) = (overflow_fault page ≡ None) × (over ≡ overflow_of page)
IsOverflowRead page (Err (NotAPage at)) = overflow_fault page ≡ Some at
IsOverflowRead page (Err Memory) = overflow_fault page ≡ None
