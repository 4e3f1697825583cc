use Rattle.std.proofs.Common.{◌≡◌, ℕ, ◌+◌, ◌-◌, ◌%◌, ◌^◌, ◌<◌, ◌≤◌, ◌==◌, ◌&&◌, ◌||◌, ◌⊎◌, inl, inr, Bool, true, false, cond, Option, Some, None}
use Rattle.std.proofs.Common.{refl, sym, ap, ◌∙◌, subst, arith}
use Rattle.std.proofs.Math.Nat.{mod-eq-sub-mod, mod-eq_of_lt, mod-lt}
use Rattle.std.proofs.lemmas.Bool.{both_ways, cases_Bool, eq-eqb, eqb-true}
use Rattle.std.proofs.lemmas.Bool.Decides.{nat_tests}
use Rattle.std.proofs.lemmas.Nat.{pow_pos}
use Rattle.std.specs.FinMap.{get, remove}
use Rattle.std.specs.Prelude.{is_some, nat_lt, if◌then◌else◌}
use Rattle.dds_base.specs.Name.{Name, covers}
use Rattle.dds_base.specs.declared.leaf.Leaf.{Leaf}
use Rattle.dds_base.specs.declared.name.TheConstants.{DEPTH}
use Rattle.dds_brick_rows.specs.Take.{high_of, is_low, low_of, replaced}
use Rattle.dds_groups.proofs.NameHalves.{halves-cover, other-low}
use Rattle.dds_groups.specs.Leaves.{sibling}
use Rattle.dds_groups.specs.Names.{high_half, low_half, other_half}
use Rattle.dds_law_leaf.proofs.Book.{InMap}
use Rattle.dds_law_leaf.proofs.Maps.{each-is}
use Rattle.dds_law_own.proofs.Changes.{own}
use Rattle.dds_law_own.proofs.Disjoint.{Has, Replaces, half, replaces, same_name}
use Rattle.dds_law_own.proofs.Halves.{twice}
use Rattle.dds_law_own.proofs.Parted.{IsBoth}
use Rattle.dds_maps.specs.Own.{whole}
use Rattle.dds_orders.proofs.Covered.{finds}
use Rattle.dds_orders.proofs.Over.{has-itself, has-left, has-with, kept-if, name-is, within-covers}
use Rattle.dds_orders.proofs.Standing.{keyed}
use Rattle.dds_parents.proofs.Served.{covered-by}
use Rattle.dds_pending.proofs.Leads.{Leads, ends, installs, rests, splits, takes_it}
use Rattle.dds_pending.proofs.OrderLeaves.{served_as}
use Rattle.dds_script.specs.Ranges.{IsName}
use Rattle.dds_states.specs.Leaf.{leaf_for}
use Rattle.dds_states.specs.declared.brick_state.BrickState.{BrickState}
use Rattle.dds_states.specs.declared.brick_state.Task.{Task}
use Rattle.dds_states.specs.declared.brick_state.Task.TheVariants.{Join, Split}
use Rattle.dds_trie.proofs.Cuts.{get-with}
use Rattle.dds_trie.specs.Trie.{LeafMap, cut, is_under, name_at, put}
use Rattle.dds_law_own.proofs.Owned.{made_name}
use Rattle.dds_pairs.proofs.NameTurns.{Keyed}
use Rattle.dds_pairs.proofs.Names.{IsFit}

-- A brick's leaves cover after a turn what they covered before it.

-- a leaf of the map has the key under its name
pub record Over (m : LeafMap) (key : ℕ) : Type 0 where
  pub name : Name
  pub there : Has m name
  pub over : covers name key ≡ true

some-leaf : (q : Option Leaf) → is_some q ≡ true → (leaf : Leaf) × (q ≡ Some leaf)
some-leaf None h = cc
some-leaf (Some leaf) h = (leaf, refl)

pub over-of : (m : LeafMap) (key : ℕ) → is_some (leaf_for m key) ≡ true → Over m key
over-of m key h =
    let leaf = some-leaf (leaf_for m key) h in
    let at = covered-by m key leaf.0 leaf.1 in
    record { name = at.name; there = ap is_some at.there; over = at.over }

pub cover-of : (m : LeafMap) (key : ℕ) → Keyed m → InMap IsFit m → Over m key → is_some (leaf_for m key) ≡ true
cover-of m key keys fit o =
    let leaf = some-leaf (get m o.name) o.there in
    let named : IsName o.name = subst IsName (keys o.name leaf.0 leaf.1) (each-is IsFit (get m o.name) leaf.0 leaf.1 (fit o.name)) in
    let bits : key % 2 ^ o.name.depth ≡ o.name.bits = eqb-true (key % 2 ^ o.name.depth) o.name.bits o.over in
    let is : o.name ≡ name_at key o.name.depth = (λ i. record { bits = sym bits i; depth = o.name.depth }) in
    finds m DEPTH key o.name.depth named.depth (subst (Has m) is o.there)

-- a leaf is put
put-if : (m : LeafMap) (leaf : Leaf) (key : ℕ) (q : Name) (c : Bool) → is_under leaf.name q ≡ c → Has m q → covers q key ≡ true → Over (put m leaf) key
put-if m leaf key q true e there over = record { name = leaf.name; there = has-itself m leaf; over = within-covers leaf.name q key (inr e) over }
put-if m leaf key q false e there over =
    let same = q.bits == leaf.name.bits && q.depth == leaf.name.depth in
    record { name = q; there = has-with m leaf q same false refl e (kept-if same false leaf (get m q) refl there); over = over }

pub put-over : (m : LeafMap) (leaf : Leaf) (key : ℕ) → Over m key → Over (put m leaf) key
put-over m leaf key o = put-if m leaf key o.name (is_under leaf.name o.name) refl o.there o.over

-- two halves are put in the place of a name
name-eq : (a b : Name) → (a ≡ b) ⊎ (a ≡ b → ⊥)
name-eq a b = elim (cases_Bool (a.bits == b.bits && a.depth == b.depth)) [
  | inl e ↦ inl (name-is a b e)
  | inr e ↦ inr (λ is.
      both_ways (a.bits == b.bits && a.depth == b.depth) e (subst (λ x. (a.bits == x.bits && a.depth == x.depth) ≡ true) is (grind (arith, nat_tests))))
]

halves-over : (m : LeafMap) (w : Name) (x y : Leaf) (key : ℕ)
    → (covers w key ≡ true → (covers x.name key ≡ true) ⊎ (covers y.name key ≡ true)) → Over m key → Over (put (put (remove m w) x) y) key
halves-over m w x y key split o = elim (name-eq o.name w) [
  | inl is ↦ elim (split (subst (λ n. covers n key ≡ true) is o.over)) [
    | inl k ↦ put-over (put (remove m w) x) y key (record { name = x.name; there = has-itself (remove m w) x; over = k })
    | inr k ↦ record { name = y.name; there = has-itself (put (remove m w) x) y; over = k }
  ]
  | inr ne ↦ put-over (put (remove m w) x) y key (put-over (remove m w) x key (record { name = o.name; there = has-left m w o.name ne o.there; over = o.over }))
]

-- a key of a name is under one of its halves
or-either : (a b : Bool) → (a || b) ≡ true → (a ≡ true) ⊎ (b ≡ true)
or-either true b h = inl refl
or-either false b h = inr h

few-of : (w : Name) (key : ℕ) → covers w key ≡ true → w.bits < 2 ^ w.depth
few-of w key h =
    subst (λ x. x < 2 ^ w.depth) (eqb-true (key % 2 ^ w.depth) w.bits h) (mod-lt key (pow_pos w.depth))

in-halves : (w : Name) (key : ℕ) → covers w key ≡ true → (covers (low_half w) key ≡ true) ⊎ (covers (high_half w) key ≡ true)
in-halves w key h = or-either (covers (low_half w) key) (covers (high_half w) key) (sym (halves-cover w key (few-of w key h)) ∙ h)

pub split-over : (w : Name) (made : Leaf) (key : ℕ) → made.name ≡ low_half w → covers w key ≡ true
    → (covers made.name key ≡ true) ⊎ (covers (sibling made).name key ≡ true)
split-over w made key is h = elim (in-halves w key h) [
  | inl k ↦ inl (subst (λ n. covers n key ≡ true) (sym is) k)
  | inr k ↦ inr (subst (λ n. covers (other_half n) key ≡ true) (sym is) (subst (λ n. covers n key ≡ true) (sym (other-low w (few-of w key h))) k))
]

-- a name is the low or the high half of its whole, and its other half is the other one
pub data HalfOf (n : Name) : Type 0 where
  low : low_half (whole n) ≡ n → high_half (whole n) ≡ other_half n → HalfOf n
  high : high_half (whole n) ≡ n → low_half (whole n) ≡ other_half n → HalfOf n

named : (a b d e : ℕ) → a ≡ b → d ≡ e → ◌≡◌ {A = Name} (record { bits = a; depth = d }) (record { bits = b; depth = e })
named a b d e p q = λ i. record { bits = p i; depth = q i }

if-true : (c : Bool) (x y : ℕ) → c ≡ true → (if c then x else y) ≡ x
if-true true x y e = refl
if-true false x y e = cc

if-false : (c : Bool) (x y : ℕ) → c ≡ false → (if c then x else y) ≡ y
if-false true x y e = cc
if-false false x y e = refl

half-of : (n : Name) → IsName n → 1 ≤ n.depth → HalfOf n
half-of n h le =
    let p = 2 ^ (n.depth - 1) in
    let both : 2 ^ n.depth ≡ p + p = twice n.depth le in
    let deep : n.depth - 1 + 1 ≡ n.depth = omega (arith, le) in
    let few : n.bits < p + p = subst (λ k. n.bits < k) both h.bits in
    elim (cases_Bool (nat_lt n.bits p)) [
      | inl e ↦
          let lt : n.bits < p = grind (arith, nat_tests, e) in
          let is : n.bits % p ≡ n.bits = mod-eq_of_lt lt in
          low (named (n.bits % p) n.bits (n.depth - 1 + 1) n.depth is deep)
          (named (n.bits % p + p) (other_half n).bits (n.depth - 1 + 1) n.depth
          (ap (λ x. x + p) is ∙ sym (if-true (nat_lt n.bits p) (n.bits + p) (n.bits - p) e)) deep)
      | inr e ↦
          let ge : p ≤ n.bits = grind (arith, nat_tests, e) in
          let less : n.bits - p < p = omega (arith, ge, few) in
          let is : n.bits % p ≡ n.bits - p = mod-eq-sub-mod ge ∙ mod-eq_of_lt less in
          let back : n.bits - p + p ≡ n.bits = omega (arith, ge) in
          high (named (n.bits % p + p) n.bits (n.depth - 1 + 1) n.depth (ap (λ x. x + p) is ∙ back) deep)
          (named (n.bits % p) (other_half n).bits (n.depth - 1 + 1) n.depth
          (is ∙ sym (if-false (nat_lt n.bits p) (n.bits + p) (n.bits - p) e)) deep)
    ]

half-over : (n : Name) (key : ℕ) → IsName n → 1 ≤ n.depth → covers (whole n) key ≡ true → (covers n key ≡ true) ⊎ (covers (other_half n) key ≡ true)
half-over n key h le over = from (half-of n h le)
  where
    from : HalfOf n → (covers n key ≡ true) ⊎ (covers (other_half n) key ≡ true)
    from (low a b) = elim (in-halves (whole n) key over) [
      | inl k ↦ inl (subst (λ x. covers x key ≡ true) a k)
      | inr k ↦ inr (subst (λ x. covers x key ≡ true) b k)
    ]
    from (high a b) = elim (in-halves (whole n) key over) [
      | inl k ↦ inr (subst (λ x. covers x key ≡ true) b k)
      | inr k ↦ inl (subst (λ x. covers x key ≡ true) a k)
    ]

either-if : (c : Bool) (x y : Leaf) (key : ℕ) → (covers x.name key ≡ true) ⊎ (covers y.name key ≡ true)
    → (covers (if c then x else y).name key ≡ true) ⊎ (covers (if c then y else x).name key ≡ true)
either-if true x y key h = h
either-if false x y key (inl h) = inr h
either-if false x y key (inr h) = inl h

-- a leaf is replaced
replaced-if : (m : LeafMap) (mine leaf : Leaf) (key : ℕ) (c : Bool) → (c ≡ false → Over (put (put (remove m mine.name) (low_of leaf)) (high_of leaf)) key)
    → Over m key → Over (if c then put m leaf else put (put (remove m mine.name) (low_of leaf)) (high_of leaf)) key
replaced-if m mine leaf key true f o = put-over m leaf key o
replaced-if m mine leaf key false f o = f refl

-- what is put last is there
same-self : (n : Name) → (n.bits == n.bits && n.depth == n.depth) ≡ true
same-self n = grind (arith, nat_tests)

get-put : (m : LeafMap) (leaf : Leaf) → get (put m leaf) leaf.name ≡ Some leaf
get-put m leaf =
    get-with (cut m leaf.name) leaf.name leaf leaf.name ∙ ap (λ c. cond c (Some leaf) (get (cut m leaf.name) leaf.name)) (same-self leaf.name)

last-named : (m : LeafMap) (leaf : Leaf) → InMap IsFit (put m leaf) → IsName leaf.name
last-named m leaf h = each-is IsFit (get (put m leaf) leaf.name) leaf (get-put m leaf) (h leaf.name)

-- where the high one's name is a partition's, so is the leaf's
from-high : (leaf : Leaf) (c : Bool) → is_low leaf.name ≡ c → 1 ≤ leaf.name.depth → IsName (if c then sibling leaf else leaf).name → IsName leaf.name
from-high leaf true e le h =
    let p = 2 ^ (leaf.name.depth - 1) in
    let lt : leaf.name.bits < p = grind (arith, nat_tests, e) in
    let both : 2 ^ leaf.name.depth ≡ p + p = twice leaf.name.depth le in
    record { depth = h.depth; bits = subst (λ k. leaf.name.bits < k) (sym both) (omega (arith, lt)) }
from-high leaf false e le h = h

named-if : (m : LeafMap) (mine leaf : Leaf) (c : Bool) → c ≡ false → 1 ≤ leaf.name.depth
    → InMap IsFit (if c then put m leaf else put (put (remove m mine.name) (low_of leaf)) (high_of leaf)) → IsName leaf.name
named-if m mine leaf true e le h = cc
named-if m mine leaf false e le h =
    from-high leaf (is_low leaf.name) refl le (last-named (put (remove m mine.name) (low_of leaf)) (high_of leaf) h)

replaced-over : (m : LeafMap) (mine leaf : Leaf) (key : ℕ) → Replaces m mine leaf → InMap IsFit (replaced m mine leaf) → Over m key
    → Over (replaced m mine leaf) key
replaced-over m mine leaf key (same_name there is) fit o =
    replaced-if m mine leaf key (mine.name.depth == leaf.name.depth) (λ e. absurd (both_ways (mine.name.depth == leaf.name.depth) e
    (eq-eqb mine.name.depth leaf.name.depth (ap (λ (n : Name). n.depth) is)))) o
replaced-over m mine leaf key (half there is deep) fit o =
    replaced-if m mine leaf key (mine.name.depth == leaf.name.depth) (λ e.
    let name = named-if m mine leaf (mine.name.depth == leaf.name.depth) e deep fit in
    halves-over m mine.name (low_of leaf) (high_of leaf) key
    (λ over. either-if (is_low leaf.name) leaf (sibling leaf) key (half-over leaf.name key name deep (subst (λ n. covers n key ≡ true) is over))) o) o

-- a turn
served-over : (m : LeafMap) (name : Name) (made : Leaf) (t : Task) (key : ℕ) → made.name ≡ made_name name t → Over m key → Over (served_as m name made t) key
served-over m name made (Join via) key is o = put-over m made key o
served-over m name made Split key is o = halves-over m name made (sibling made) key (split-over name made key is) o

leads-over : (me : ℕ) (s : BrickState) (k : LeafMap) (key : ℕ) → IsBoth me (own s) → InMap IsFit k → Leads s k → Over s.leaves key → Over k key
leads-over me s k key b fit (rests e) o = subst (λ m. Over m key) (sym e) o
leads-over me s k key b fit (takes_it mine leaf may e) o =
    let r = replaces s.leaves mine leaf (keyed me (own s) mine b.0) may.there in
    subst (λ m. Over m key) (sym e) (replaced-over s.leaves mine leaf key r (subst (InMap IsFit) e fit) o)
leads-over me s k key b fit (installs mine leaf from may e) o =
    let r = replaces s.leaves mine leaf (keyed me (own s) mine b.0) may.there in
    subst (λ m. Over m key) (sym e) (replaced-over s.leaves mine leaf key r (subst (InMap IsFit) e fit) o)
leads-over me s k key b fit (ends o made there name e) over = subst (λ m. Over m key) (sym e) (served-over s.leaves o.name made o.task key name over)
leads-over me s k key b fit (splits at leaf made there free name e) over =
    subst (λ m. Over m key) (sym e) (served-over s.leaves leaf.name made Split key name over)

-- what was covered is covered
abbrev pub Grows : LeafMap → LeafMap → Type 0
Grows m k = (key : ℕ) → is_some (leaf_for m key) ≡ true → is_some (leaf_for k key) ≡ true

pub leads-grows : (me : ℕ) (s : BrickState) (k : LeafMap) → IsBoth me (own s) → Keyed k → InMap IsFit k → Leads s k → Grows s.leaves k
leads-grows me s k b keys fit h key covered = cover-of k key keys fit (leads-over me s k key b fit h (over-of s.leaves key covered))
