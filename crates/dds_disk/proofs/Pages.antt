-- Laws of pages under reads and writes.
use Rattle.std.proofs.Common.{ℕ, ◌≡◌, ◌==◌, cond, List, length, Option, Some, None, refl, ◌∙◌, ap, arith, unwrap_or, Bool, true, false}
use Rattle.std.proofs.lemmas.List.{length-replicate}
use Rattle.std.proofs.lemmas.Bool.Decides.{nat_tests}
use Rattle.std.specs.Ordering.{nat_cmp, eq_by_cmp}
use Rattle.std.proofs.lemmas.Cmp.{nat_cmp_total}
use Rattle.std.specs.FinMap.{get, insert, get-insert}
use Rattle.dds_disk.specs.Pages.{Pages, zero_page, page_at, ReadPage, WrotePage}

-- a page of zeros has 4,096 bytes
pub length-zero_page : length zero_page ≡ 4096
unfolding zero_page
length-zero_page = length-replicate {A = ℕ} 4096 0

-- the order of numbers ties just equal ones
pub alike : (q k : ℕ) → eq_by_cmp nat_cmp q k ≡ (k == q)
alike q k = grind (arith, nat_tests)

chosen : (b : Bool) (bytes : List ℕ) (o : Option (List ℕ)) (d : List ℕ) → unwrap_or (cond b (Some bytes) o) d ≡ cond b bytes (unwrap_or o d)
chosen b bytes o d = elim b as (λ b. unwrap_or (cond b (Some bytes) o) d ≡ cond b bytes (unwrap_or o d)) [ true ↦ refl | false ↦ refl ]

-- a write makes its page the bytes, and no other
pub page_at-insert : (pages : Pages) (number : ℕ) (bytes : List ℕ) (q : ℕ) → page_at (insert pages number bytes) q ≡ cond (number == q) bytes (page_at pages q)
page_at-insert pages number bytes q =
    ap (λ o. unwrap_or o zero_page) (get-insert nat_cmp_total pages number bytes q ∙ ap (λ b. cond b (Some bytes) (get pages q)) (alike q number))
    ∙ chosen (number == q) bytes (get pages q) zero_page

-- a read changes nothing
pub read-same : (a b : Option Pages) (number : ℕ) (bytes : List ℕ) → ReadPage a number bytes b → b ≡ a
read-same None None number bytes h = refl
read-same None (Some b) number bytes h = absurd h
read-same (Some a) None number bytes h = absurd h
read-same (Some a) (Some b) number bytes h = ap (λ (p : Pages). Some p) h.1

-- a read of pages that are told gives the page
pub read-told : (pages : Pages) (b : Option Pages) (number : ℕ) (bytes : List ℕ) → ReadPage (Some pages) number bytes b → bytes ≡ page_at pages number
read-told pages None number bytes h = absurd h
read-told pages (Some b) number bytes h = h.0

-- after a write to pages that are told, the pages are told
pub wrote-told : (pages : Pages) (b : Option Pages) (number : ℕ) (bytes : List ℕ) → WrotePage (Some pages) number bytes b → b ≡ Some (insert pages number bytes)
wrote-told pages None number bytes h = absurd h
wrote-told pages (Some b) number bytes h = ap (λ (p : Pages). Some p) h
