-- Counting how often pages are used.
use Rattle.std.proofs.Common.{ℕ, zero, suc, ◌≡◌, ◌+◌, ◌<◌, ◌≤◌, ◌≢◌, if◌then◌else◌, List, [], ◌∷◌, ◌++◌, length, get_or, set, nat_le}
use Rattle.std.proofs.Common.{Option, Some, None, refl, sym, ◌∙◌, arith}
use Rattle.std.proofs.lemmas.Bool.Decides.{nat_tests}
use Rattle.std.proofs.lemmas.List.{append-nil}
use Rattle.std.specs.Option.{option_to_list}
use Rattle.dds_chains.specs.Index.{same, times, chain_uses, buckets_use, vacant}
use Rattle.dds_chains.specs.declared.table.Slot.{Slot}

pub times-append : (q : ℕ) (xs ys : List ℕ) → times q (xs ++ ys) ≡ times q xs + times q ys
times-append q [] ys = omega arith
times-append q (x ∷ xs) ys = let h = times-append q xs ys in omega arith

from-next : (q fresh : ℕ) → (if nat_le (fresh + 1) q then 1 else 0) + same q fresh ≡ (if nat_le fresh q then 1 else 0)
from-next q fresh = grind (arith, nat_tests)

-- a page that was taken back before is handed out
pub take-free : (q page fresh : ℕ) (free was : List ℕ) → was ≡ free ++ page ∷ [] → vacant q free fresh + same q page ≡ vacant q was fresh
take-free q page fresh free was e = let h = times-append q free (page ∷ []) in rw e (omega (arith, h))

-- a page is taken back
pub give-free : (q page fresh : ℕ) (free now : List ℕ) → now ≡ free ++ page ∷ [] → vacant q now fresh ≡ vacant q free fresh + same q page
give-free q page fresh free now e = sym (take-free q page fresh free now e)

-- a page that was never in use is handed out
pub take-fresh : (q page fresh next : ℕ) (free now : List ℕ) → now ≡ free → next ≡ fresh + 1 → page ≡ fresh →
    vacant q now next + same q page ≡ vacant q free fresh
take-fresh q page fresh next free now e f g = let h = from-next q fresh in rw (e, f, g) (omega (arith, h))

-- a page that stands in a list is counted
pub same-self : (q : ℕ) → same q q ≡ 1
same-self q = grind (arith, nat_tests)

pub same-other : (q p : ℕ) → same q p ≡ 0 → q ≢ p
same-other q p h = grind (arith, nat_tests)

pub same-most : (q p : ℕ) → same q p ≤ 1
same-most q p = grind (arith, nat_tests)

-- a bucket's chain in a table's place
pub buckets-set : (q : ℕ) (buckets : List (List Slot)) (b : ℕ) (slots : List Slot) → b < length buckets →
    buckets_use q (set buckets b slots) + chain_uses q (get_or buckets b []) ≡ buckets_use q buckets + chain_uses q slots
buckets-set q [] b slots h = absurd (omega arith)
buckets-set q (x ∷ xs) zero slots h = omega arith
buckets-set q (x ∷ xs) (suc b) slots h = let r = buckets-set q xs b slots (omega arith) in omega arith

pub bucket-within : (q : ℕ) (buckets : List (List Slot)) (b : ℕ) → chain_uses q (get_or buckets b []) ≤ buckets_use q buckets
bucket-within q [] b = omega arith
bucket-within q (x ∷ xs) zero = omega arith
bucket-within q (x ∷ xs) (suc b) = let r = bucket-within q xs b in omega arith

-- nothing was taken back before
pub popped-none : (free was : List ℕ) (o : Option ℕ) → was ≡ free ++ option_to_list o → o ≡ None → free ≡ was
popped-none free was o e h = sym (e ∙ rw h (append-nil free))

pub popped-some : (free was : List ℕ) (o : Option ℕ) (page : ℕ) → was ≡ free ++ option_to_list o → o ≡ Some page → was ≡ free ++ page ∷ []
popped-some free was o page e h = e ∙ rw h refl
