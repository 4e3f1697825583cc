-- What a cache holds of its disk's pages.
use Rattle.std.specs.Prelude.{ℕ, ◌≡◌, ◌+◌, ◌<◌, ◌≤◌, List, ◌∷◌, length, take, nat_eq, refl, Option, None, Some}
use Rattle.std.specs.Coded.{Coded, code_by, coded×, coded_ℕ, coded_list}
use Rattle.std.specs.Map.{lookup, remove_entry}
use Rattle.dds_disk.specs.Pages.{Pages, page_at}

-- pages with their numbers, the most recently used first
abbrev pub Kept : Type 0
Kept = List (ℕ × List ℕ)

-- the page of this number, where it is held
abbrev pub held : Kept → ℕ → Option (List ℕ)
held kept number = lookup (nat_eq number) kept

-- the page stands first, with these bytes
abbrev pub first_used : Kept → ℕ → List ℕ → Kept
first_used kept number bytes = (number, bytes) ∷ remove_entry (nat_eq number) kept

-- the page stands first, with these bytes, and of more pages than the capacity the last one leaves
abbrev pub after_use : ℕ → Kept → ℕ → List ℕ → Kept
after_use capacity kept number bytes = take capacity (first_used kept number bytes)

-- each page that is held is the disk's, where the disk tells its pages
abbrev pub IsOfDisk : Option Pages → Kept → Type 0
IsOfDisk None kept = Unit {0}
IsOfDisk (Some pages) kept = (number : ℕ) (bytes : List ℕ) → held kept number ≡ Some bytes → bytes ≡ page_at pages number

-- what is true of a cache: it has room for one page more than it may hold
pub record IsSound (told : Option Pages) (kept : Kept) (room capacity : ℕ) : Type 0 where
  pub one_more : room ≡ capacity + 1
  pub within : length kept ≤ capacity
  pub some : 0 < capacity
  pub few : capacity ≤ 4096
  pub of_disk : IsOfDisk told kept

-- a cache: its disk, the pages that it holds, and how many it may hold
pub record CacheState (D : Type 0) : Type 0 where
  pub disk : D
  pub kept : Kept
  pub capacity : ℕ

abbrev pub cache_code : {D : Type 0} → Coded D → Coded (CacheState D)
cache_code {D = D} d =
    code_by (D × (Kept × ℕ)) (coded× d (coded× (coded_list (coded× coded_ℕ (coded_list coded_ℕ))) coded_ℕ))
    (λ c. (c.disk, (c.kept, c.capacity))) (λ p. record { disk = p.0; kept = p.1.0; capacity = p.1.1 }) (λ _. refl)
