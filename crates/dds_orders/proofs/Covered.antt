use Rattle.std.proofs.Common.{◌≡◌, ℕ, zero, suc, ◌%◌, ◌^◌, ◌≤◌, ◌==◌, ◌&&◌, ◌||◌, ◌⊎◌, inl, inr, Bool, true, false, Option, Some, None}
use Rattle.std.proofs.Common.{List, [], ◌∷◌, refl, sym, ap, ◌∙◌, subst, arith}
use Rattle.std.proofs.lemmas.Bool.{and_parts, both_ways, cases_Bool, cases_lt, eq-eqb}
use Rattle.std.specs.FinMap.{get, remove}
use Rattle.std.specs.List.{AllByRecursion}
use Rattle.std.specs.Prelude.{is_some, if◌then◌else◌}
use Rattle.dds_base.specs.BrickList.{has}
use Rattle.dds_base.specs.Name.{Name, covers, overlaps}
use Rattle.dds_base.specs.Name as names
use Rattle.dds_base.specs.Op.{the_key}
use Rattle.dds_base.specs.declared.leaf.Leaf.{Leaf}
use Rattle.dds_base.specs.declared.name.TheConstants.{DEPTH}
use Rattle.dds_base.specs.declared.number.NodeNo.{NodeNo}
use Rattle.dds_base.specs.declared.pending.Pending.{Pending}
use Rattle.dds_brick_rows.specs.Refusal.{is_join}
use Rattle.dds_brick_rows.specs.Take.{replaced}
use Rattle.dds_core.proofs.Lists.{all-append, all-both, all-map}
use Rattle.dds_groups.specs.Leaves.{sibling}
use Rattle.dds_groups.specs.Names.{other_half}
use Rattle.dds_law_own.proofs.Changes.{MayInstall, Own, served}
use Rattle.dds_law_own.proofs.Disjoint.{Has, Replaces, half, replaces, same_name}
use Rattle.dds_law_own.proofs.Halves.{over-high, over-low, over-whole, overlap-sym}
use Rattle.dds_law_own.proofs.Lists.{Each, all-first, none-passes}
use Rattle.dds_law_own.proofs.Owned.{Free, IsOrderly, made_name, orderly}
use Rattle.dds_law_own.proofs.Parted.{IsBoth}
use Rattle.dds_letters.specs.declared.letter.Letter.{Letter}
use Rattle.dds_locks.specs.Leases as lease
use Rattle.dds_locks.specs.Pending as locks
use Rattle.dds_locks.specs.declared.leases.Lease.{Lease}
use Rattle.dds_maps.specs.Own.{own_leaf, whole}
use Rattle.dds_states.specs.Leaf.{leaf_for}
use Rattle.dds_states.specs.declared.brick_state.OpenOrder.{OpenOrder}
use Rattle.dds_states.specs.declared.brick_state.Task.{Task}
use Rattle.dds_states.specs.declared.brick_state.Task.TheVariants.{Join, Split}
use Rattle.dds_trie.proofs.Lookups.{within-more, within-none}
use Rattle.dds_trie.specs.Trie.{LeafMap, leaf_within, name_at, or_else, put}
use Rattle.dds_world.specs.Groups as world
use Rattle.dds_orders.proofs.Deeds.{Deed, Path, Seat, asks_more, closes, copies, drops, fixes, joins, loses, makes, over, pends, says, serves, splits, step}
use Rattle.dds_orders.proofs.Deeds.{takes}
use Rattle.dds_orders.proofs.Leases.{same-is}
use Rattle.dds_orders.proofs.Over.{IsOver, Within, has-beside, has-left, overlaps-self, stays-replaced, within-covers}
use Rattle.dds_orders.proofs.Standing.{Standing, Stood, deed-both, deed-stands, heard-stood, keyed, order-is}
use Rattle.dds_orders.proofs.Turns.{Hears, copies_not, denies, gives, grants, grants_not, hears_other, installed_not, installs, installs_not}
use Rattle.dds_orders.proofs.Turns.{is_installed, is_refused, learns, refused_not, releases, sends_none, sends_part}
use Rattle.dds_orders.proofs.Turns.{copies as copies_part}
use Rattle.dds_orders.specs.Law.{asked_of}

-- The invariant, of one brick by itself: each pending key is covered by an own leaf.
--
-- | part | why it is needed | which rows keep it |
-- |---|---|---|
-- | a pending key is one of an own | claimed | Prepare; what changes leaves: no pending key lies under a leaf that is replaced, since nothing |
-- | leaf                           |         | is under way on its name (Push, Lease), or a lease stands over it (Install, a split's end)   |

-- a look-up finds a leaf where one of the key's names has one
found-if : (m : LeafMap) (n key : ℕ) (x y : Option Leaf) → get m (name_at key (suc n)) ≡ x → is_some (or_else x y) ≡ true
    → (Has m (name_at key (suc n))) ⊎ (is_some y ≡ true)
found-if m n key None y e h = inr h
found-if m n key (Some leaf) y e h = inl (ap is_some e)

pub record Found (m : LeafMap) (n key : ℕ) : Type 0 where
  pub depth : ℕ
  pub low : depth ≤ n
  pub there : Has m (name_at key depth)

pub found : (m : LeafMap) (n key : ℕ) → is_some (leaf_within m n key) ≡ true → Found m n key
found m zero key h = record { depth = 0; low = omega arith; there = sym (ap is_some (within-none m key)) ∙ h }
found m (suc n) key h = elim (found-if m n key (get m (name_at key (suc n))) (leaf_within m n key) refl (sym (ap is_some (within-more m n key)) ∙ h)) [
  | inl k ↦ record { depth = suc n; low = omega arith; there = k }
  | inr k ↦ (let f = found m n key k in let low = f.low in record { depth = f.depth; low = omega (arith, low); there = f.there })
]

or-first : (x y : Option Leaf) → is_some x ≡ true → is_some (or_else x y) ≡ true
or-first None y h = cc
or-first (Some leaf) y h = refl

or-second : (x y : Option Leaf) → is_some y ≡ true → is_some (or_else x y) ≡ true
or-second None y h = h
or-second (Some leaf) y h = refl

pub finds : (m : LeafMap) (n key d : ℕ) → d ≤ n → Has m (name_at key d) → is_some (leaf_within m n key) ≡ true
finds m zero key d le h =
    let is : d ≡ 0 = omega (arith, le) in
    ap is_some (within-none m key) ∙ subst (λ i. Has m (name_at key i)) is h
finds m (suc n) key d le h = elim (cases_lt n d) [
  | inl lt ↦
      let is : d ≡ suc n = omega (arith, le, lt) in
      ap is_some (within-more m n key) ∙ or-first (get m (name_at key (suc n))) (leaf_within m n key) (subst (λ i. Has m (name_at key i)) is h)
  | inr lower ↦ ap is_some (within-more m n key) ∙ or-second (get m (name_at key (suc n))) (leaf_within m n key) (finds m n key d lower h)
]

abbrev pub Covers : LeafMap → Pending → Type 0
Covers m p = is_some (leaf_for m (the_key p.op)) ≡ true

-- where the leaves over a key stay
stays-covered : (m k : LeafMap) (p : Pending) → ((q : Name) → Has m q → covers q (the_key p.op) ≡ true → Has k q) → Covers m p → Covers k p
stays-covered m k p f h =
    let key = the_key p.op in
    let at = found m DEPTH key h in
    finds k DEPTH key at.depth at.low (f (name_at key at.depth) at.there (eq-eqb (key % 2 ^ at.depth) (key % 2 ^ at.depth) refl))

abbrev pub Covering : Own → Type 0
Covering x = AllByRecursion (Covers x.leaves) x.pending

-- a leaf without pending keys is replaced
abbrev pub Unlocked : Name → Pending → Type 0
Unlocked name p = covers name (the_key p.op) ≡ false

replaced-covers : (me : ℕ) (x : Own) (mine leaf : Leaf) → IsBoth me x → own_leaf x.leaves leaf.name ≡ Some mine
    → AllByRecursion (Unlocked mine.name) x.pending → Covering x → AllByRecursion (Covers (replaced x.leaves mine leaf)) x.pending
replaced-covers me x mine leaf b there free h =
    let r = replaces x.leaves mine leaf (keyed me x mine b.0) there in
    all-map (λ (p : Pending). Unlocked mine.name p × Covers x.leaves p) (Covers (replaced x.leaves mine leaf)) x.pending
    (λ p k. stays-covered x.leaves (replaced x.leaves mine leaf) p
    (λ q in_it c. stays-replaced x.leaves mine leaf q b.1.leaves r in_it
    (λ e. both_ways (covers mine.name (the_key p.op)) k.0 (subst (λ n. covers n (the_key p.op) ≡ true) e c))) k.1)
    (all-both (Unlocked mine.name) (Covers x.leaves) x.pending free h)

-- a lease overlaps the name
pub record Meets (P : Lease → Type 0) (name : Name) (h : ℕ) : Type 0 where
  pub lease : Lease
  pub meets : overlaps lease.name name ≡ true
  pub holder : (lease.holder == h) ≡ true
  pub is : P lease

meets-if : (P : Lease → Type 0) (c : Bool) (l : Lease) (name : Name) (h : ℕ) (rest : Option Name) → (l.holder == h && overlaps l.name name) ≡ c → P l
    → (is_some rest ≡ true → Meets P name h) → is_some (if c then Some l.name else rest) ≡ true → Meets P name h
meets-if P true l name h rest e p f k = record {
  lease = l;
  meets = (and_parts (l.holder == h) (overlaps l.name name) e).1;
  holder = (and_parts (l.holder == h) (overlaps l.name name) e).0;
  is = p;
}
meets-if P false l name h rest e p f k = f k

pub lease-meets : (P : Lease → Type 0) (ls : List Lease) (name : Name) (h : ℕ) → AllByRecursion P ls → is_some (lease.lease_of ls name h) ≡ true
    → Meets P name h
lease-meets P [] name h all k = cc
lease-meets P (l ∷ ls) name h all k =
    meets-if P (l.holder == h && overlaps l.name name) l name h (lease.lease_of ls name h) refl all.0 (lease-meets P ls name h all.1) k

-- no pending key lies under a leaf over which a lease stands
abbrev Leased : Own → Lease → Type 0
Leased x l = IsOver x.leaves l.name × Free x.pending l

pub not-either : (a b : Bool) → a ≡ false → (b ≡ true → a ≡ true) → b ≡ false
not-either a true e f = sym (f refl) ∙ e
not-either a false e f = refl

under-free : (x : Own) (l : Lease) (q : Name) → Within l.name q → Free x.pending l → AllByRecursion (Unlocked q) x.pending
under-free x l q within free =
    all-map (λ (p : Pending). covers l.name (the_key p.op) ≡ false) (Unlocked q) x.pending
    (λ p k. not-either (covers l.name (the_key p.op)) (covers q (the_key p.op)) k (within-covers l.name q (the_key p.op) within))
    (none-passes (λ (p : Pending). covers l.name (the_key p.op)) x.pending free)

pub mine-meets : (m : LeafMap) (mine leaf : Leaf) (top : Name) → Replaces m mine leaf → overlaps top leaf.name ≡ true
    → Has m mine.name × (overlaps mine.name top ≡ true)
mine-meets m mine leaf top (same_name there is) h =
    (subst (Has m) (sym is) there, subst (λ n. overlaps n top ≡ true) (sym is) (overlap-sym top leaf.name h))
mine-meets m mine leaf top (half there is deep) h =
    (subst (Has m) (sym is) there, subst (λ n. overlaps n top ≡ true) (sym is) (overlap-sym top (whole leaf.name) (over-whole top leaf.name h)))

installs-free : (me : ℕ) (x : Own) (mine leaf : Leaf) (from : NodeNo) → IsBoth me x → Standing x → MayInstall x mine leaf from
    → AllByRecursion (Unlocked mine.name) x.pending
installs-free me x mine leaf from b h may =
    let r = replaces x.leaves mine leaf (keyed me x mine b.0) may.there in
    let all = all-both (λ (l : Lease). IsOver x.leaves l.name) (Free x.pending) x.leases h.over b.0.free in
    let it = lease-meets (Leased x) x.leases leaf.name from all may.leased in
    let k = mine-meets x.leaves mine leaf it.lease.name r it.meets in
    under-free x it.lease mine.name (it.is.0.under mine.name k.0 k.1) it.is.1

-- a lease of this name and holder
pub given-is : (P : Lease → Type 0) (ls : List Lease) (name : Name) (h : ℕ) → AllByRecursion P ls → lease.is_given ls name h ≡ true
    → (l : Lease) × (l.name ≡ name) × P l
given-is P [] name h all k = cc
given-is P (l ∷ ls) name h all k = elim (cases_Bool (lease.is_lease name h l)) [
  | inl e ↦ (l, same-is l.name name (and_parts (l.holder == h) (names.same_name l.name name) e).1, all.0)
  | inr e ↦ given-is P ls name h all.1 (sym (ap (λ c. c || lease.is_given ls name h) e) ∙ k)
]

pub false-of : (c : Bool) → (c ≡ true → ⊥) → c ≡ false
false-of true f = absurd (f refl)
false-of false f = refl

served-covers : (me : ℕ) (x : Own) (o : OpenOrder) (made : Leaf) (t : Task) → o.task ≡ t → x.order ≡ Some o → made.name ≡ made_name o.name t → IsBoth me x
    → Standing x → Covering x → AllByRecursion (Covers (served x.leaves o made t)) x.pending
served-covers me x o made (Join via) e there name b s h =
    all-map (Covers x.leaves) (Covers (put x.leaves made)) x.pending
    (λ p k. stays-covered x.leaves (put x.leaves made) p (λ q in_it c. has-beside x.leaves made q
    (false-of (overlaps q made.name) (λ over_it. both_ways (is_join o.task)
    ((order-is x.leaves x.order o there b.1.order) q in_it (subst (λ n. overlaps q n ≡ true) name over_it)).0 (ap is_join e))) in_it) k) h
served-covers me x o made Split e there name b s h =
    let all = all-both (λ (l : Lease). IsOver x.leaves l.name) (Free x.pending) x.leases s.over b.0.free in
    let its = given-is (Leased x) x.leases o.name x.number all (s.held o there (ap is_join e)) in
    let leaves = put (put (remove x.leaves o.name) made) (sibling made) in
    let l = its.0 in
    let meets = (λ (q : Name) (in_it : Has x.leaves q) (p : Pending) (c : covers q (the_key p.op) ≡ true) (free : covers l.name (the_key p.op) ≡ false)
    (m : overlaps q o.name ≡ true).
    both_ways (covers l.name (the_key p.op)) free
    (within-covers l.name q (the_key p.op) (its.2.0.under q in_it (subst (λ n. overlaps q n ≡ true) (sym its.1) m)) c)) in
    all-map (λ (p : Pending). (covers l.name (the_key p.op) ≡ false) × Covers x.leaves p) (Covers leaves) x.pending
    (λ p k. stays-covered x.leaves leaves p (λ q in_it c.
    let none = meets q in_it p c k.0 in
    has-beside (put (remove x.leaves o.name) made) (sibling made) q
    (false-of (overlaps q (sibling made).name) (λ f. none (over-high q o.name (subst (λ n. overlaps q (other_half n) ≡ true) name f))))
    (has-beside (remove x.leaves o.name) made q (false-of (overlaps q made.name) (λ f. none (over-low q o.name (subst (λ n. overlaps q n ≡ true) name f))))
    (has-left x.leaves o.name q (λ is. none (subst (λ n. overlaps q n ≡ true) is (overlaps-self q))) in_it))) k.1)
    (all-both (λ (p : Pending). covers l.name (the_key p.op) ≡ false) (Covers x.leaves) x.pending
    (none-passes (λ (p : Pending). covers l.name (the_key p.op)) x.pending its.2.1) h)

deed-covers : (me : ℕ) (x y : Seat) (ls : List (NodeNo × Letter)) → Deed x ls y → IsBoth me x.own → Standing x.own → Covering x.own → Covering y.own
deed-covers me x _ ls (says _ others) b s h = h
deed-covers me x y ls (takes mine leaf may) b s h =
    replaced-covers me x.own mine leaf b may.there (none-passes (λ (p : Pending). covers mine.name (the_key p.op)) x.own.pending may.free.unlocked) h
deed-covers me x y ls (pends p may) b s h = all-append (Covers x.own.leaves) x.own.pending (p ∷ []) h (ap is_some may.covers, tt)
deed-covers me x y ls (drops txn) b s h = all-first (Covers x.own.leaves) (locks.is_numbered txn) x.own.pending h
deed-covers me x y ls (joins name via may) b s h = h
deed-covers me x y ls (splits leaf may) b s h = h
deed-covers me x y ls (loses o n e k) b s h = h
deed-covers me x y ls (fixes o from leaf e may) b s h = h
deed-covers me x y ls (copies o leaf source e may) b s h = h
deed-covers me x _ ls (asks_more o source e phase) b s h = h
deed-covers me x y ls (makes o made nodes e may) b s h = h
deed-covers me x y ls (closes o e) b s h = h
deed-covers me x y ls (serves o made e phase) b s h =
    let it : IsOrderly me o = orderly me x.own.order o e b.0.order in
    let name = subst (λ i. Each (λ (l : Leaf). (l.name ≡ made_name o.name o.task) × (has l.list me ≡ true)) (world.made_leaf i)) phase it.made in
    served-covers me x.own o made o.task refl e name.0 b s h

-- a brick with its leases and pending keys, along the deeds of a turn
pub record Kept (me : ℕ) (x : Seat) : Type 0 where
  pub stood : Stood me x
  pub covers : Covering x.own

pub path-kept : (me : ℕ) (x z : Seat) (ls : List (NodeNo × Letter)) → Path x ls z → Kept me x → Kept me z
path-kept me x _ _ (over _) h = h
path-kept me x z _ (step _ y _ ls ms d w) h =
    let b = h.stood.both in
    let s = h.stood.stands in
    path-kept me y z ms w (record {
      stood = record { both = deed-both me x y ls d b; stands = deed-stands me x y ls d b s };
      covers = deed-covers me x y ls d b s h.covers;
    })

heard-covers : (me from : ℕ) (l : Letter) (x y : Seat) (ls : List (NodeNo × Letter)) → Hears from x l ls y → IsBoth me x.own → Standing x.own
    → Covering x.own → Covering y.own
heard-covers me from l x y ls (gives number what leaf there free stamp unknown) b s h = h
heard-covers me from l x _ ls (denies number what why) b s h = h
heard-covers me from l x y ls (releases number name) b s h = h
heard-covers me from l x _ ls (sends_part number name place last pairs given there) b s h = h
heard-covers me from l x _ ls (sends_none number name place e) b s h = h
heard-covers me from l x y ls (installs number leaf mine may) b s h =
    replaced-covers me x.own mine leaf b may.there (installs-free me x.own mine leaf from b s may) h
heard-covers me from l x _ ls (installs_not number leaf f) b s h = h
heard-covers me from l x y ls (grants number leaf o f) b s h = h
heard-covers me from l x _ ls (grants_not number leaf e) b s h = h
heard-covers me from l x y ls (is_refused number why o f) b s h = h
heard-covers me from l x _ ls (refused_not number why e) b s h = h
heard-covers me from l x y ls (copies_part number last pairs o f) b s h = h
heard-covers me from l x _ ls (copies_not number last pairs e) b s h = h
heard-covers me from l x y ls (is_installed number name o f) b s h = h
heard-covers me from l x _ ls (installed_not number name e) b s h = h
heard-covers me from l x y ls (learns below other) b s h = h
heard-covers me from l x _ ls (hears_other _ e) b s h = h

pub heard-kept : (me from : ℕ) (l : Letter) (x y : Seat) (ls : List (NodeNo × Letter)) → Hears from x l ls y
    → ((number : ℕ) → asked_of l ≡ Some number → from ≡ me → ⊥) → Kept me x → Kept me y
heard-kept me from l x y ls d ne h =
    record { stood = heard-stood me from l x y ls d ne h.stood; covers = heard-covers me from l x y ls d h.stood.both h.stood.stands h.covers }
