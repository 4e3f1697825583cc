-- What a page that was read says.
use Rattle.std.proofs.Common.{ℕ, ◌≡◌, ◌-◌, ◌^◌, ◌<◌, ◌≤◌, List, [], ◌∷◌, ◌++◌, Some, None, Ok, Err, refl, sym, ap, arith}
use Rattle.std.proofs.lemmas.Bool.Decides.{nat_tests}
use Rattle.dds_pages.specs.Fields.{form_2}
use Rattle.dds_pages.specs.declared.fault.PageFault.{PageFault}
use Rattle.dds_pages.specs.Bucket.{Bucket, IsBucketRead}
use Rattle.dds_pages.specs.Overflow.{Overflow, IsOverflowRead}
use Rattle.dds_pages.specs.Said.{bucket_in, overflow_in}
use Rattle.dds_pages.specs.declared.fault.PageFault.TheVariants.{NotAPage, Memory}
use Rattle.dds_chains.specs.Index.{vacant}
use Rattle.dds_chains.proofs.Uses.{take-free, same-self}

pub over-accepted : (bytes : List ℕ) (over : Overflow) → IsOverflowRead bytes (Ok over) → overflow_in bytes ≡ Some over
unfolding overflow_in
over-accepted bytes over h = rw h.0 (ap (λ (x : Overflow). Some x) (sym h.1))

pub over-refused : (bytes : List ℕ) (e : PageFault) (at : ℕ) → e ≡ NotAPage at → IsOverflowRead bytes (Err e) → overflow_in bytes ≡ None
unfolding overflow_in
over-refused bytes (NotAPage at) k e h = rw h refl
over-refused bytes Memory k e h = cc

pub bucket-accepted : (bytes : List ℕ) (bucket : Bucket) → IsBucketRead form_2 bytes (Ok bucket) → bucket_in bytes ≡ Some bucket
unfolding bucket_in
bucket-accepted bytes bucket h = rw h.0 (ap (λ (x : Bucket). Some x) (sym h.1))

pub bucket-refused : (bytes : List ℕ) (e : PageFault) (at : ℕ) → e ≡ NotAPage at → IsBucketRead form_2 bytes (Err e) → bucket_in bytes ≡ None
unfolding bucket_in
bucket-refused bytes (NotAPage at) k e h = rw h refl
bucket-refused bytes Memory k e h = cc

below-fresh : (fresh page : ℕ) → vacant page [] fresh ≡ 0 → page < fresh
below-fresh fresh page h = grind (arith, nat_tests)

-- a page that was taken back isn't the last number
pub free-below : (page fresh : ℕ) (free was : List ℕ) → ((n : ℕ) → vacant n was fresh ≤ 1) → was ≡ free ++ page ∷ [] → fresh < 2 ^ 64 → page < 2 ^ 64 - 1
free-below page fresh free was single e f =
    let t = take-free page page fresh free was e in
    let s = same-self page in
    let m = single page in
    let b = below-fresh fresh page (omega (arith, t, s, m)) in
    omega arith
