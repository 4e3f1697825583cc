-- Writing a value's bytes to overflow pages, the last ones first.
use Rattle.std.proofs.Common.{ℕ, ◌≡◌, ◌+◌, ◌-◌, ◌*◌, ◌/◌, ◌^◌, ◌<◌, ◌≤◌, ◌==◌, cond, Bool, true, false, min, List, [], ◌∷◌, length, take}
use Rattle.std.proofs.Common.{drop, Option, Some, None, refl, sym, ap, subst, ◌∙◌, arith, length-drop}
use Rattle.std.proofs.lemmas.List.{drop-drop, take_min}
use Rattle.std.proofs.Math.ListN.{drop_of_length-le}
use Rattle.std.proofs.lemmas.Bool.Decides.{nat_tests}
use Rattle.std.specs.FinMap.{insert}
use Rattle.dds_disk.specs.Pages.{Pages, page_at}
use Rattle.dds_disk.proofs.Pages.{page_at-insert}
use Rattle.dds_pages.specs.Overflow.{overflow_bytes}
use Rattle.dds_pages.specs.declared.bucket.Held.TheVariants.{Here, Chain}
use Rattle.dds_chains.specs.Index.{same, times, vacant, first_number, IsSpread}
use Rattle.dds_chains.specs.Answers.{WroteChain, WroteValue}
use Rattle.dds_chains.proofs.Uses.{same-self}
use Rattle.dds_chains.proofs.Chains.{Kept, spread-kept}

-- what is known while a value's bytes are written
pub record IsWriting (told0 told : Option Pages) (free0 : List ℕ) (fresh0 : ℕ) (free : List ℕ) (fresh : ℕ) (bytes : List ℕ) (left : ℕ) (pages : List ℕ)
    (next : ℕ) : Type 0 where
  pub within : left * 4080 < length bytes + 4080
  pub few : length pages + left ≤ 15
  pub next_is : next ≡ first_number pages
  pub below : left * 4080 < length bytes → next < 2 ^ 64 - 1
  pub number : (n : ℕ) → vacant n free fresh + times n pages ≡ vacant n free0 fresh0
  pub untold : told0 ≡ None → told ≡ None
  pub wrote : (a : Pages) → told0 ≡ Some a → WroteChain a free0 fresh0 told pages (drop (left * 4080) bytes)

same-not : (n q : ℕ) → same n q ≡ 0 → (q == n) ≡ false
same-not n q h = grind (arith, nat_tests)

is-same : (q : ℕ) → (q == q) ≡ true
is-same q = grind (arith, nat_tests)

-- a page that was written is those bytes, and the others are as before
pub page-new : (a : Pages) (q : ℕ) (bytes : List ℕ) → page_at (insert a q bytes) q ≡ bytes
page-new a q bytes = page_at-insert a q bytes q ∙ ap (λ (t : Bool). cond t bytes (page_at a q)) (is-same q)

pub page-other : (a : Pages) (q : ℕ) (bytes : List ℕ) (n : ℕ) → same n q ≡ 0 → page_at (insert a q bytes) n ≡ page_at a n
page-other a q bytes n h = page_at-insert a q bytes n ∙ ap (λ (t : Bool). cond t bytes (page_at a n)) (same-not n q h)

not-used : (uses : ℕ → ℕ) (n q : ℕ) → 0 < uses n → uses q ≡ 0 → (n == q) ≡ true → ⊥
not-used uses n q used h t = let e : n ≡ q = grind (arith, nat_tests) in let f : uses n ≡ 0 = ap uses e ∙ h in omega arith

differs : (n q : ℕ) → (n == q) ≡ false → same n q ≡ 0
differs n q h = rw h refl

pub other-zero : (uses : ℕ → ℕ) (n q : ℕ) → 0 < uses n → uses q ≡ 0 → same n q ≡ 0
other-zero uses n q used h = (elim (n == q) as (λ t. (n == q) ≡ t → same n q ≡ 0)
    [ true ↦ λ t. absurd (not-used uses n q used h t) | false ↦ λ t. differs n q t ]) refl

-- a page that isn't used was written
pub kept-insert : (a : Pages) (q : ℕ) (bytes : List ℕ) (uses : ℕ → ℕ) → uses q ≡ 0 → Kept a (insert a q bytes) uses
kept-insert a q bytes uses h = λ n used. page-other a q bytes n (other-zero uses n q used h)

start-within : (len : ℕ) → (len + 4080 - 1) / 4080 * 4080 < len + 4080
start-within len = omega arith

pub writing-start : (told : Option Pages) (free : List ℕ) (fresh : ℕ) (bytes : List ℕ) (left next : ℕ) (pages : List ℕ) → pages ≡ [] →
    left ≡ (length bytes + 4080 - 1) / 4080 → length bytes ≤ 60000 → next ≡ 2 ^ 64 - 1 →
    IsWriting told told free fresh free fresh bytes left pages next
writing-start told free fresh bytes left next pages none l most n = rw none record {
  within = omega arith;
  few = omega arith;
  next_is = n;
  below = λ some. absurd (omega arith);
  number = λ q. omega arith;
  untold = λ is. is;
  wrote = λ a is. record { b = a; is_told = is; spread = drop_of_length-le bytes (omega arith); kept = λ q v. refl };
}

chunk-is : (bytes : List ℕ) (start : ℕ) → take (min (start + 4080) (length bytes) - start) (drop start bytes) ≡ take 4080 (drop start bytes)
chunk-is bytes start =
    let l = length-drop start bytes in
    let e : min (start + 4080) (length bytes) - start ≡ min 4080 (length (drop start bytes)) = omega arith in
    ap (λ (n : ℕ). take n (drop start bytes)) e ∙ take_min 4080 (drop start bytes)

-- one page more was written
pub writing-more : (told0 told1 told2 : Option Pages) (free0 free1 free2 : List ℕ) (fresh0 fresh1 fresh2 : ℕ) (bytes chunk : List ℕ) (left was end : ℕ)
    (pages now : List ℕ) (next page : ℕ) →
    IsWriting told0 told1 free0 fresh0 free1 fresh1 bytes was pages next → was ≡ left + 1 → ((n : ℕ) → vacant n free0 fresh0 ≤ 1) →
    ((n : ℕ) → vacant n free2 fresh2 + same n page ≡ vacant n free1 fresh1) → page < 2 ^ 64 - 1 →
    ((a : Pages) → told1 ≡ Some a → told2 ≡ Some (insert a page (overflow_bytes (record { bytes = chunk; next = next })))) →
    end ≡ min (left * 4080 + 4080) (length bytes) → chunk ≡ take (end - left * 4080) (drop (left * 4080) bytes) → now ≡ page ∷ pages →
    (told1 ≡ None → told2 ≡ None) →
    IsWriting told0 told2 free0 fresh0 free2 fresh2 bytes left now page
writing-more told0 told1 told2 free0 free1 free2 fresh0 fresh1 fresh2 bytes chunk left was end pages now next page h e single number below told m c n hidden =
    let l = length-drop (left * 4080) bytes in
    let within : left * 4080 < length bytes = omega (arith, h.within) in
    let unused : times page pages ≡ 0 = omega (arith, number page, h.number page, single page, same-self page) in
    let step : drop (was * 4080) bytes ≡ drop 4080 (drop (left * 4080) bytes) = ap (λ (i : ℕ). drop i bytes) (omega arith)
    ∙ sym (drop-drop 4080 (left * 4080) bytes) in
    rw n record {
      within = omega arith;
      few = omega (arith, h.few);
      next_is = refl;
      below = λ some. below;
      number = λ q. omega (arith, number q, h.number q);
      untold = λ is. hidden (h.untold is);
      wrote = λ a is.
          let w = h.wrote a is in
          let new : List ℕ = overflow_bytes (record { bytes = chunk; next = next }) in
          let same_page : page_at (insert w.b page new) page
          ≡ overflow_bytes (record { bytes = take 4080 (drop (left * 4080) bytes); next = first_number pages }) = page-new w.b page new
          ∙ (λ i. overflow_bytes (record {
            bytes =
                (c ∙ ap (λ (x : ℕ). take (x - left * 4080) (drop (left * 4080) bytes)) m ∙ chunk-is bytes (left * 4080)) i;
            next = h.next_is i;
          })) in
          let rest = spread-kept w.b (insert w.b page new) pages (drop (was * 4080) bytes) w.spread (kept-insert w.b page new (λ q. times q pages) unused) in
          record {
            b = insert w.b page new;
            is_told = told w.b w.is_told;
            spread = (same_page, omega (arith, l, within), below, subst (λ (r : List ℕ). IsSpread (insert w.b page new) pages r) step rest);
            kept = λ q v. page-other w.b page new q (omega (arith, number q, h.number q, v)) ∙ w.kept q v;
          };
    }

-- all pages were written
pub writing-done : {told0 told : Option Pages} {free0 : List ℕ} {fresh0 : ℕ} {free : List ℕ} {fresh : ℕ} {bytes : List ℕ} {left : ℕ} {pages : List ℕ}
    {next : ℕ} → IsWriting told0 told free0 fresh0 free fresh bytes left pages next → left ≤ 0 →
    (a : Pages) → told0 ≡ Some a → WroteChain a free0 fresh0 told pages bytes
writing-done {told = told} {free0 = free0} {fresh0 = fresh0} {bytes = bytes} {left = left} {pages = pages} h none a is =
    let e : left * 4080 ≡ 0 = omega arith in
    subst (λ (n : ℕ). WroteChain a free0 fresh0 told pages (drop n bytes)) e (h.wrote a is)

pub writing-first : {told0 told : Option Pages} {free0 : List ℕ} {fresh0 : ℕ} {free : List ℕ} {fresh : ℕ} {bytes : List ℕ} {left : ℕ} {pages : List ℕ}
    {next : ℕ} → IsWriting told0 told free0 fresh0 free fresh bytes left pages next → left ≤ 0 →
    0 < length bytes → first_number pages < 2 ^ 64 - 1
writing-first {bytes = bytes} {left = left} {pages = pages} {next = next} h none some = let b : next < 2 ^ 64 - 1 = h.below (omega arith) in
    let n = h.next_is in omega arith

-- a long value was written
pub chain-placed : (a : Pages) (free : List ℕ) (fresh : ℕ) (told : Option Pages) (pages bytes value : List ℕ) (first : ℕ) →
    WroteChain a free fresh told pages bytes → first ≡ first_number pages → length pages ≤ 15 → bytes ≡ value →
    WroteValue a free fresh told (Chain (length bytes) first) pages value
chain-placed a free fresh told pages bytes value first w f few e = record {
  b = w.b;
  is_told = w.is_told;
  placed = (ap length e, f, few, subst (λ (v : List ℕ). IsSpread w.b pages v) e w.spread);
  kept = w.kept;
}

-- a short value stands in its bucket page, and nothing was written
pub here-placed : (a : Pages) (free : List ℕ) (fresh : ℕ) (told : Option Pages) (pages copy value : List ℕ) → told ≡ Some a → pages ≡ [] → copy ≡ value →
    WroteValue a free fresh told (Here copy) pages value
here-placed a free fresh told pages copy value is none e = record { b = a; is_told = is; placed = (e, none); kept = λ n v. refl }
