-- Fields of a page: numbers written big-endian, and zeros.
use Rattle.std.specs.Prelude.{ℕ, ◌≡◌, ◌≤◌, ◌-◌, Bool, true, false, List, [], ◌∷◌, ◌++◌, length, drop, replicate, nat_eq, Option, Some, None, if◌then◌else◌}
use Rattle.std.specs.List.{list_all}
use Rattle.dds_pages.specs.declared.fields.Form.{Form}
use Rattle.byteorder.specs.Endian.{big_number, big_bytes}

-- the number in the n bytes from a place
unfoldable pub number_at : List ℕ → ℕ → ℕ → ℕ
number_at bytes at n = big_number n (drop at bytes)

-- the n bytes of a number
unfoldable pub spelled : ℕ → ℕ → List ℕ
spelled n x = big_bytes n x

-- each byte from a place on is zero
abbrev pub zero_from : List ℕ → ℕ → Bool
zero_from bytes at = list_all (λ byte. nat_eq byte 0) (drop at bytes)

-- the bytes, and zeros to the page's end
unfoldable pub padded : List ℕ → List ℕ
padded bytes = bytes ++ replicate (4096 - length bytes) 0

-- a page of which the first bytes were written is zero behind them
pub record IsWritten (page : List ℕ) (at : ℕ) : Type 0 where
  pub long : length page ≡ 4096
  pub within : at ≤ 4096
  pub zeros : drop at page ≡ replicate (4096 - at) 0

-- the place of the first field that isn't accepted; each field stands with whether it is wrong
abbrev pub first_fault : List (Bool × ℕ) → Option ℕ
first_fault [] = None
first_fault (field ∷ rest) = if field.0 then Some field.1 else first_fault rest

-- the bucket pages that are written
abbrev pub form_2 : Form
form_2 = record { version = 2; chained = true }

-- the bucket pages that an older store wrote
abbrev pub form_1 : Form
form_1 = record { version = 1; chained = false }
