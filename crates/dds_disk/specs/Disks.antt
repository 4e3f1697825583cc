-- What contracts see of the disks that this crate makes.
use Rattle.std.specs.Prelude.{ℕ, List, refl, nat_lt, if◌then◌else◌}
use Rattle.std.specs.Coded.{Coded, code_by, coded×, coded_ℕ, coded_list}
use Rattle.std.specs.FinMap as map
use Rattle.dds_disk.specs.Pages.{Pages, page_at, zero_page}

-- the code of pages
abbrev pub pages_code : Coded Pages
pages_code = map.code coded_ℕ (coded_list coded_ℕ)

-- a disk over memory: its pages, the numbers of the calls that are to fail, the number of the next
-- call, and the count of faults
pub record MemoryDiskState : Type 0 where
  pub pages : Pages
  pub failing : List ℕ
  pub calls : ℕ
  pub faults : ℕ

abbrev pub memory_disk_code : Coded MemoryDiskState
memory_disk_code =
    code_by (Pages × (List ℕ × (ℕ × ℕ))) (coded× pages_code (coded× (coded_list coded_ℕ) (coded× coded_ℕ coded_ℕ)))
    (λ d. (d.pages, (d.failing, (d.calls, d.faults)))) (λ p. record { pages = p.0; failing = p.1.0; calls = p.1.1.0; faults = p.1.1.1 }) (λ _. refl)

-- a disk that forgets: its pages, and how many reads it still answers with them
pub record ZeroDiskState : Type 0 where
  pub written : Pages
  pub honest : ℕ

abbrev pub zero_disk_code : Coded ZeroDiskState
zero_disk_code =
    code_by (Pages × ℕ) (coded× pages_code coded_ℕ) (λ d. (d.written, d.honest)) (λ p. record { written = p.0; honest = p.1 }) (λ _. refl)

-- what a disk that forgets gives: the page while it is honest, and zeros then
abbrev pub given_by : ZeroDiskState → ℕ → List ℕ
given_by disk number = if nat_lt 0 disk.honest then page_at disk.written number else zero_page
