use Rattle.std.proofs.Common.{◌≡◌, ℕ, ◌+◌, ◌<◌, ◌≤◌, inl, inr, ◌==◌, ◌++◌, true, false, cond, Some, None, List, [], ◌∷◌, refl, sym, ap, ◌∙◌, arith}
use Rattle.std.proofs.lemmas.Bool.{and_parts, cases_Bool, eq-eqb, eqb-true}
use Rattle.std.proofs.lemmas.List.Sums.{sum_by-append}
use Rattle.std.specs.List.{AllByRecursion}
use Rattle.std.specs.Prelude.{if◌then◌else◌}
use Rattle.dds_base.specs.Number.{StampOf}
use Rattle.dds_base.specs.declared.leaf.Leaf.{Leaf}
use Rattle.dds_core.proofs.Lists.{all-append, all-both, all-map}
use Rattle.dds_groups.specs.Leaves.{same_stamp}
use Rattle.dds_net.proofs.Pairwise.{Pairwise, pairs-append}
use Rattle.dds_script.specs.Opening.{AreOpeningLeaves, AreStaleLeaves, IsOpening, OpeningOf, stale_at}
use Rattle.dds_law_leaf.proofs.Book.{Book, Known, body}
use Rattle.dds_law_leaf.proofs.Making.{stamp-self}

-- The book of the opening: its leaves' stamps differ, and none is a brick's.

abbrev pub book_of : List Leaf → Book
book_of [] st = None
book_of (l ∷ ls) st = if same_stamp l.stamp st then Some (body l) else book_of ls st

abbrev Differ : Leaf → Leaf → Type 0
Differ a b = same_stamp a.stamp b.stamp ≡ false

book-all : (ls : List Leaf) → Pairwise Differ ls → AllByRecursion (Known (book_of ls)) ls
book-all [] d = tt
book-all (l ∷ ls) d = (
  ap (λ c. if c then Some (body l) else book_of ls l.stamp) (stamp-self l.stamp),
  all-map (λ x. Differ l x × Known (book_of ls) x) (Known (book_of (l ∷ ls))) ls
      (λ x h. ap (λ c. if c then Some (body l) else book_of ls x.stamp) h.0 ∙ h.1) (all-both (Differ l) (Known (book_of ls)) ls d.0 (book-all ls d.1)),
)

stamps-apart : (a b : StampOf) → (a.maker ≡ b.maker → a.count ≡ b.count → ⊥) → same_stamp a b ≡ false
stamps-apart a b f = elim (cases_Bool (same_stamp a b)) [
  | inl e ↦ let p = and_parts (a.maker == b.maker) (a.count == b.count) e in absurd (f (eqb-true a.maker b.maker p.0) (eqb-true a.count b.count p.1))
  | inr e ↦ e
]

-- the opening leaves are counted
opening-from : (n : ℕ) (ls : List Leaf) → AreOpeningLeaves n ls → AllByRecursion (λ (l : Leaf). (l.stamp.maker ≡ 255) × (n ≤ l.stamp.count)) ls
opening-from n [] h = tt
opening-from n (l ∷ ls) h =
    let count : l.stamp.count ≡ n = ap (λ (x : Leaf). x.stamp.count) h.0 in (
      (ap (λ (x : Leaf). x.stamp.maker) h.0, omega (arith, count)),
      all-map _ _ ls (λ (x : Leaf) k. (k.0, let j = k.1 in omega (arith, j))) (opening-from (n + 1) ls h.1),
    )

opening-apart : (n : ℕ) (ls : List Leaf) → AreOpeningLeaves n ls → Pairwise Differ ls
opening-apart n [] h = tt
opening-apart n (l ∷ ls) h =
    let count : l.stamp.count ≡ n = ap (λ (x : Leaf). x.stamp.count) h.0 in (
      all-map _ (Differ l) ls (λ (x : Leaf) k. stamps-apart l.stamp x.stamp (λ e f. let j = k.1 in omega (arith, j, f, count))) (opening-from (n + 1) ls h.1),
      opening-apart (n + 1) ls h.1,
    )

-- so are the stale ones of each library
stale-count : (k : ℕ) (before : List Leaf) (l : Leaf) → stale_at k (before ++ l ∷ []) ≡ stale_at k before + stale_at k (l ∷ [])
stale-count k before l = sum_by-append (λ (leaf : Leaf). cond (leaf.stamp.maker == 64 + k) 1 0) before (l ∷ [])

one-more : (k : ℕ) (l : Leaf) → l.stamp.maker ≡ 64 + k → stale_at k (l ∷ []) ≡ 1
one-more k l e = let c : (l.stamp.maker == 64 + k) ≡ true = eq-eqb l.stamp.maker (64 + k) e in rw c refl

stale-from : (k libraries : ℕ) (before ls : List Leaf) → AreStaleLeaves libraries before ls
    → AllByRecursion (λ (l : Leaf). l.stamp.maker ≡ 64 + k → stale_at k before ≤ l.stamp.count) ls
stale-from k libraries before [] h = tt
stale-from k libraries before (l ∷ ls) h =
    let lib = h.0.0 in
    let maker : l.stamp.maker ≡ 64 + lib = ap (λ (x : Leaf). x.stamp.maker) h.0.2 in
    let count : l.stamp.count ≡ stale_at lib before = ap (λ (x : Leaf). x.stamp.count) h.0.2 in
    let more = stale-count k before l in (
      (λ e. let same : lib ≡ k = omega (arith, e, maker) in
          let at : stale_at lib before ≡ stale_at k before = ap (λ i. stale_at i before) same in omega (arith, count, at)),
      all-map _ _ ls (λ (x : Leaf) f e. let j = f e in omega (arith, j, more)) (stale-from k libraries (before ++ l ∷ []) ls h.1),
    )

stale-apart : (libraries : ℕ) (before ls : List Leaf) → AreStaleLeaves libraries before ls → Pairwise Differ ls
stale-apart libraries before [] h = tt
stale-apart libraries before (l ∷ ls) h =
    let lib = h.0.0 in
    let maker : l.stamp.maker ≡ 64 + lib = ap (λ (x : Leaf). x.stamp.maker) h.0.2 in
    let count : l.stamp.count ≡ stale_at lib before = ap (λ (x : Leaf). x.stamp.count) h.0.2 in
    let more = stale-count lib before l in
    let one = one-more lib l maker in (
      all-map _ (Differ l) ls
          (λ (x : Leaf) f. stamps-apart l.stamp x.stamp (λ e g. let j = f (sym e ∙ maker) in omega (arith, j, more, one, g, count)))
          (stale-from lib libraries (before ++ l ∷ []) ls h.1),
      stale-apart libraries (before ++ l ∷ []) ls h.1,
    )

stale-makers : (libraries : ℕ) (before ls : List Leaf) → libraries ≤ 16 → AreStaleLeaves libraries before ls
    → AllByRecursion (λ (l : Leaf). (64 ≤ l.stamp.maker) × (l.stamp.maker < 80)) ls
stale-makers libraries before [] some h = tt
stale-makers libraries before (l ∷ ls) some h =
    let maker : l.stamp.maker ≡ 64 + h.0.0 = ap (λ (x : Leaf). x.stamp.maker) h.0.2 in
    let below = h.0.1 in
    ((omega (arith, maker), omega (arith, maker, below, some)), stale-makers libraries (before ++ l ∷ []) ls some h.1)

-- all leaves of the opening
abbrev pub all_leaves : OpeningOf → List Leaf
all_leaves o = o.leaves ++ o.old

all-apart : (o : OpeningOf) → IsOpening o → Pairwise Differ (all_leaves o)
all-apart o h =
    let makers = stale-makers o.libraries [] o.old h.ranges.libraries h.old_numbers in
    pairs-append Differ o.leaves o.old (opening-apart 0 o.leaves h.numbers) (stale-apart o.libraries [] o.old h.old_numbers)
    (all-map _ (λ (l : Leaf). AllByRecursion (Differ l) o.old) o.leaves
    (λ (l : Leaf) k. all-map _ (Differ l) o.old
    (λ (x : Leaf) m. stamps-apart l.stamp x.stamp (λ e f. let i = k.0 in let j = m.1 in omega (arith, i, j, e))) makers)
    (opening-from 0 o.leaves h.numbers))

pub opening-known : (o : OpeningOf) → IsOpening o → AllByRecursion (Known (book_of (all_leaves o))) (all_leaves o)
opening-known o h = book-all (all_leaves o) (all-apart o h)

all-high : (o : OpeningOf) → IsOpening o → AllByRecursion (λ (l : Leaf). 64 ≤ l.stamp.maker) (all_leaves o)
all-high o h =
    all-append (λ (l : Leaf). 64 ≤ l.stamp.maker) o.leaves o.old
    (all-map _ (λ (l : Leaf). 64 ≤ l.stamp.maker) o.leaves (λ (l : Leaf) k. let i = k.0 in omega (arith, i)) (opening-from 0 o.leaves h.numbers))
    (all-map _ (λ (l : Leaf). 64 ≤ l.stamp.maker) o.old (λ (l : Leaf) k. k.0) (stale-makers o.libraries [] o.old h.ranges.libraries h.old_numbers))

none-low : (ls : List Leaf) (st : StampOf) → st.maker < 64 → AllByRecursion (λ (l : Leaf). 64 ≤ l.stamp.maker) ls → book_of ls st ≡ None
none-low [] st h k = refl
none-low (l ∷ ls) st h k =
    let up = k.0 in
    ap (λ c. if c then Some (body l) else book_of ls st) (stamps-apart l.stamp st (λ e f. omega (arith, e, h, up))) ∙ none-low ls st h k.1

pub opening-none : (o : OpeningOf) (st : StampOf) → IsOpening o → st.maker < 64 → book_of (all_leaves o) st ≡ None
opening-none o st h low = none-low (all_leaves o) st low (all-high o h)
