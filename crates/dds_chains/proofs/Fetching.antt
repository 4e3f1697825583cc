-- Reading a value's bytes from overflow pages.
use Rattle.std.proofs.Common.{ℕ, suc, ◌≡◌, ◌+◌, ◌-◌, ◌<◌, ◌≤◌, min, List, [], ◌∷◌, ◌++◌, length, take, drop, get_or, Option, Some, Err}
use Rattle.std.proofs.Common.{refl, sym, ap, subst, ◌∙◌, arith, append_assoc, length-append, drop-cons, add-one}
use Rattle.std.proofs.lemmas.List.{length-take, take-append-drop, append-nil}
use Rattle.std.proofs.Math.ListN.{drop_of_length-le}
use Rattle.dds_disk.specs.Pages.{Pages, page_at}
use Rattle.dds_pages.specs.Overflow.{Overflow}
use Rattle.dds_chains.specs.Answers.{IsReadAs, IsNoPage}
use Rattle.dds_chains.specs.declared.fault.TableFault.{TableFault}
use Rattle.dds_chains.specs.declared.fault.TableFault.TheVariants.{Disk, Page, Memory}
use Rattle.dds_pages.specs.Said.{overflow_in}
use Rattle.dds_chains.specs.Index.{first_number, IsSpread}
use Rattle.dds_pages.proofs.ReadBack.{overflow-back}
use Rattle.dds_chains.proofs.Chains.{first-number-small}

-- what is known while a value's bytes are read
pub record IsReading (a : Pages) (overflow : List ℕ) (i : ℕ) (value bytes : List ℕ) : Type 0 where
  pub rest : List ℕ
  pub joined : bytes ++ rest ≡ value
  pub spread : IsSpread a (drop i overflow) rest

pub reading-start : (a : Pages) (overflow value bytes : List ℕ) → bytes ≡ [] → IsSpread a overflow value → IsReading a overflow 0 value bytes
reading-start a overflow value bytes e h = record { rest = value; joined = rw e refl; spread = h }

-- what the next page says
pub next-piece : {a : Pages} {overflow : List ℕ} {i : ℕ} {value bytes : List ℕ} (r : IsReading a overflow i value bytes) (page : ℕ) → i < length overflow →
    page ≡ get_or overflow i 0 →
    (overflow_in (page_at a page) ≡ Some (record { bytes = take 4080 r.rest; next = first_number (drop (suc i) overflow) })) × (0 < length r.rest)
    × IsSpread a (drop (suc i) overflow) (drop 4080 r.rest)
next-piece {a = a} {overflow = overflow} {i = i} r page below is =
    let c : drop i overflow ≡ get_or overflow i 0 ∷ drop (suc i) overflow = drop-cons overflow i 0 below in
    let h : IsSpread a (get_or overflow i 0 ∷ drop (suc i) overflow) r.rest = subst (λ (ps : List ℕ). IsSpread a ps r.rest) c r.spread in
    let l = length-take 4080 r.rest in
    let back = overflow-back (take 4080 r.rest) (first_number (drop (suc i) overflow)) (first-number-small a (drop (suc i) overflow) (drop 4080 r.rest) h.3)
    (omega (arith, l, h.1)) (omega (arith, l)) in
    (ap (λ (p : ℕ). overflow_in (page_at a p)) is ∙ ap overflow_in h.0 ∙ back, h.1, h.3)

same-over : (o : Option Overflow) (x y : Overflow) → o ≡ Some x → o ≡ Some y → x ≡ y
same-over o x y e f = cc

-- the next page has the bytes that the value's length asks
pub next-bytes : {a : Pages} {overflow : List ℕ} {i : ℕ} {value bytes : List ℕ} (r : IsReading a overflow i value bytes) (page : ℕ) (over : Overflow)
    (piece : List ℕ) → i < length overflow → page ≡ get_or overflow i 0 → overflow_in (page_at a page) ≡ Some over → piece ≡ over.bytes →
    (piece ≡ take 4080 r.rest) × (length piece ≡ min 4080 (length value - length bytes))
next-bytes {value = value} {bytes = bytes} r page over piece below is said p =
    let n = next-piece r page below is in
    let e : piece ≡ take 4080 r.rest = p ∙ ap (λ (o : Overflow). o.bytes) (same-over _ over _ said n.0) in
    let l = length-take 4080 r.rest in
    let j = ap length r.joined in
    let k = length-append bytes r.rest in
    let m = ap length e in
    (e, omega (arith, l, j, k, m))

pub reading-more : {a : Pages} {overflow : List ℕ} {i : ℕ} {value bytes : List ℕ} (r : IsReading a overflow i value bytes) (page : ℕ) (over : Overflow)
    (piece now : List ℕ) → i < length overflow → page ≡ get_or overflow i 0 → overflow_in (page_at a page) ≡ Some over → piece ≡ over.bytes →
    now ≡ bytes ++ piece →
    IsReading a overflow (i + 1) value now
reading-more {a = a} {overflow = overflow} {i = i} {value = value} {bytes = bytes} r page over piece now below is said p n =
    let k = next-piece r page below is in
    let b = next-bytes r page over piece below is said p in
    let whole : (bytes ++ piece) ++ drop 4080 r.rest ≡ value = append_assoc bytes piece (drop 4080 r.rest)
    ∙ ap (λ (x : List ℕ). bytes ++ (x ++ drop 4080 r.rest)) b.0 ∙ ap (λ (x : List ℕ). bytes ++ x) (take-append-drop 4080 r.rest) ∙ r.joined in
    rw n record { rest = drop 4080 r.rest; joined = whole; spread = rw add-one k.2 }

pub reading-done : {a : Pages} {overflow : List ℕ} {i : ℕ} {value bytes : List ℕ} → IsReading a overflow i value bytes → length overflow ≤ i → bytes ≡ value
reading-done {a = a} {overflow = overflow} {i = i} {value = value} {bytes = bytes} r done =
    let d : drop i overflow ≡ [] = drop_of_length-le overflow done in
    let s : r.rest ≡ [] = subst (λ (ps : List ℕ). IsSpread a ps r.rest) d r.spread in
    sym (append-nil bytes) ∙ ap (λ (x : List ℕ). bytes ++ x) (sym s) ∙ r.joined

-- a page that says something isn't refused
pub no-refusal : {X : Type 0} (o : Option X) (x : X) (page : ℕ) (e : TableFault) → o ≡ Some x → IsReadAs o page (Err e) → IsNoPage e
no-refusal o x page Disk is h = tt
no-refusal o x page (Page p) is h = let n = h.1 in cc
no-refusal o x page Memory is h = tt
