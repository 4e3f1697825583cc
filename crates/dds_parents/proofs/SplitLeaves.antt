use Rattle.std.proofs.Common.{◌≡◌, ℕ, ◌==◌, ◌||◌, ◌++◌, ◌⊎◌, inl, inr, true, false, Option, Some, None, List, [], ◌∷◌, refl, sym, ap, ◌∙◌, subst}
use Rattle.std.proofs.lemmas.Bool.{and_parts, cases_Bool, eqb-true}
use Rattle.std.specs.FinMap.{get}
use Rattle.std.specs.List.{AllByRecursion}
use Rattle.dds_base.specs.Name.{Name, overlaps, same_name}
use Rattle.dds_base.specs.declared.leaf.Leaf.{Leaf}
use Rattle.dds_base.specs.declared.number.NodeNo.{NodeNo}
use Rattle.dds_brick_rows.specs.Refusal.{is_join}
use Rattle.dds_core.proofs.Lists.{all-both, all-map}
use Rattle.dds_law_own.proofs.Changes.{MayInstall, Own}
use Rattle.dds_law_own.proofs.Disjoint.{replaces}
use Rattle.dds_law_own.proofs.Halves.{overlap-sym}
use Rattle.dds_law_own.proofs.Owned.{Apart, none-leased}
use Rattle.dds_law_own.proofs.Parted.{IsBoth}
use Rattle.dds_letters.specs.declared.letter.Letter.{Letter}
use Rattle.dds_locks.specs.Leases as lease
use Rattle.dds_locks.specs.declared.leases.Lease.{Lease}
use Rattle.dds_net.proofs.Pairwise.{Pairwise}
use Rattle.dds_order_rows.specs.OwnOrder as order
use Rattle.dds_orders.proofs.Covered.{given-is, lease-meets, mine-meets, not-either}
use Rattle.dds_orders.proofs.Deeds.{Deed, Path, Seat, asks_more, closes, copies, drops, fixes, joins, loses, makes, over, pends, says, serves}
use Rattle.dds_orders.proofs.Deeds.{splits, step, takes}
use Rattle.dds_orders.proofs.Leased.{replaced-apart}
use Rattle.dds_orders.proofs.Leases.{Clear, clear-rest, given-apart, same-is}
use Rattle.dds_orders.proofs.Numbers.{the-order}
use Rattle.dds_orders.proofs.Over.{IsOver, meets-over}
use Rattle.dds_orders.proofs.Standing.{Standing, Stood, deed-both, deed-stands, heard-stood, keyed}
use Rattle.dds_orders.proofs.Turns.{Hears, copies_not, denies, gives, grants, grants_not, hears_other, installed_not, installs, installs_not}
use Rattle.dds_orders.proofs.Turns.{is_installed, is_refused, learns, refused_not, releases, sends_none, sends_part}
use Rattle.dds_orders.proofs.Turns.{copies as copies_part}
use Rattle.dds_orders.specs.Law.{asked_of}
use Rattle.dds_states.specs.Turn.{without}
use Rattle.dds_states.specs.declared.brick_state.OpenOrder.{OpenOrder}
use Rattle.dds_states.specs.declared.brick_state.OrderPhase.TheVariants.{Copying, Installing}
use Rattle.dds_trie.specs.Trie.{LeafMap}
use Rattle.dds_parents.specs.SplitLeaves.{HasSplitLeaf}

-- The invariant, of one brick by itself: while a split is open, the order's leaf is one of the brick's. The order Split finds it there;
-- since the brick's own lease of the split's name stands, no leaf with a key of it is taken or installed.

abbrev pub SplitsIn : LeafMap → Option OpenOrder → Type 0
SplitsIn m q = (o : OpenOrder) → q ≡ Some o → is_join o.task ≡ false → HasSplitLeaf m o

none-open : (m : LeafMap) → SplitsIn m None
none-open m o e j = cc

that-open : (m : LeafMap) (p : OpenOrder) → (is_join p.task ≡ false → HasSplitLeaf m p) → SplitsIn m (Some p)
that-open m p h o e j = let is = the-order p o e in subst (HasSplitLeaf m) is (h (ap (λ (x : OpenOrder). is_join x.task) is ∙ j))

-- the order goes on
goes-on : (m : LeafMap) (q : Option OpenOrder) (o p : OpenOrder) → q ≡ Some o → p.task ≡ o.task → p.leaf ≡ o.leaf → p.name ≡ o.name → SplitsIn m q
    → SplitsIn m (Some p)
goes-on m q o p e task leaf name h =
    that-open m p (λ j. let it = h o e (ap is_join (sym task) ∙ j) in record {
      leaf = it.leaf;
      fixed = leaf ∙ it.fixed;
      there = ap (get m) name ∙ it.there;
    })

-- other leaves change
leaf-stays : (m k : LeafMap) (q : Option OpenOrder) → ((o : OpenOrder) → q ≡ Some o → is_join o.task ≡ false → get k o.name ≡ get m o.name) → SplitsIn m q
    → SplitsIn k q
leaf-stays m k q f h o e j = let it = h o e j in record { leaf = it.leaf; fixed = it.fixed; there = f o e j ∙ it.there }

leased-apart : (ls : List Lease) (x y : Name) (j : ℕ) → lease.leased ls y ≡ None → lease.is_given ls x j ≡ true → overlaps x y ≡ false
leased-apart ls x y j e g =
    let it = given-is (λ (l : Lease). overlaps l.name y ≡ false) ls x j (none-leased ls y e) g in subst (λ n. overlaps n y ≡ false) it.1 it.2

-- beside a lease, the others have nothing in common with it
clear-by : (ls : List Lease) (n : Name) (j : ℕ) → Pairwise Apart ls → lease.is_given ls n j ≡ true
    → AllByRecursion (λ (l : Lease). (lease.is_lease n j l ≡ true) ⊎ Clear n l) ls
clear-by [] n j a g = tt
clear-by (l ∷ ls) n j a g = elim (cases_Bool (lease.is_lease n j l)) [
  | inl e ↦ (
    inl e,
    all-map (Clear n) (λ (k : Lease). (lease.is_lease n j k ≡ true) ⊎ Clear n k) ls (λ k c. inr c)
        (clear-rest ls l n (same-is l.name n (and_parts (l.holder == j) (same_name l.name n) e).1) a.0),
  )
  | inr e ↦ (let h : lease.is_given ls n j ≡ true = sym (ap (λ c. c || lease.is_given ls n j) e) ∙ g in
      (inr (given-apart ls l n j h a.0), clear-by ls n j a.1 h))
]

its-clear : (l : Lease) (n : Name) (j from : ℕ) → (from ≡ j → ⊥) → (l.holder == from) ≡ true → (lease.is_lease n j l ≡ true) ⊎ Clear n l → Clear n l
its-clear l n j from ne h (inl e) =
    absurd (ne (sym (eqb-true l.holder from h) ∙ eqb-true l.holder j (and_parts (l.holder == j) (same_name l.name n) e).0))
its-clear l n j from ne h (inr c) = c

installs-apart : (me from : ℕ) (x : Own) (mine leaf : Leaf) (n : Name) (j : ℕ) → IsBoth me x → Standing x → MayInstall x mine leaf from → (from ≡ j → ⊥)
    → lease.is_given x.leases n j ≡ true → overlaps n mine.name ≡ false
installs-apart me from x mine leaf n j b s may ne g =
    let all = all-both (λ (l : Lease). IsOver x.leaves l.name) (λ (l : Lease). (lease.is_lease n j l ≡ true) ⊎ Clear n l) x.leases s.over
    (clear-by x.leases n j b.0.apart g) in
    let it = lease-meets (λ (l : Lease). IsOver x.leaves l.name × ((lease.is_lease n j l ≡ true) ⊎ Clear n l)) x.leases leaf.name from all may.leased in
    let r = replaces x.leaves mine leaf (keyed me x mine b.0) may.there in
    let k = mine-meets x.leaves mine leaf it.lease.name r it.meets in
    let clear = its-clear it.lease n j from ne it.holder it.is.1 in
    not-either (overlaps it.lease.name n) (overlaps n mine.name) clear
    (λ e. meets-over mine.name it.lease.name n (it.is.0.all mine.name k.0 k.1) k.1 (overlap-sym n mine.name e))

-- deeds
deed-splits : (me : ℕ) (x y : Seat) (ls : List (NodeNo × Letter)) → Deed x ls y → IsBoth me x.own → Standing x.own
    → SplitsIn x.own.leaves x.own.order → SplitsIn y.own.leaves y.own.order
deed-splits me x _ ls (says _ others) b s h = h
deed-splits me x y ls (takes mine leaf may) b s h =
    let r = replaces x.own.leaves mine leaf (keyed me x.own mine b.0) may.there in
    leaf-stays x.own.leaves _ x.own.order (λ o e j. replaced-apart x.own.leaves mine leaf o.name r
    (leased-apart x.own.leases o.name mine.name x.own.number may.free.unleased (s.held o e j))) h
deed-splits me x y ls (pends p may) b s h = h
deed-splits me x y ls (drops txn) b s h = h
deed-splits me x y ls (joins name via may) b s h = that-open x.own.leaves _ (λ j. cc)
deed-splits me x y ls (splits leaf may) b s h =
    that-open x.own.leaves _ (λ j. record {
      leaf = leaf;
      fixed = refl;
      there = ap (get x.own.leaves) (keyed me x.own leaf b.0 may.at may.there) ∙ may.there;
    })
deed-splits me x y ls (loses o m e k) b s h = goes-on x.own.leaves x.own.order o (record o { waiting = without o.waiting m }) e refl refl refl h
deed-splits me x y ls (fixes o from leaf e may) b s h =
    that-open x.own.leaves _ (λ j. let no : true ≡ false = sym may.may.join ∙ j in cc)
deed-splits me x y ls (copies o leaf source e may) b s h =
    goes-on x.own.leaves x.own.order o (record o { copied = []; phase = Copying source }) e refl refl refl h
deed-splits me x _ ls (asks_more o source e phase) b s h = h
deed-splits me x y ls (makes o made nodes e may) b s h =
    goes-on x.own.leaves x.own.order o (record o { waiting = nodes; phase = Installing made }) e refl refl refl h
deed-splits me x y ls (closes o e) b s h = none-open x.own.leaves
deed-splits me x y ls (serves o made e phase) b s h = none-open _

-- a brick along the deeds of a turn
pub record Splitting (me : ℕ) (x : Seat) : Type 0 where
  pub stood : Stood me x
  pub splits : SplitsIn x.own.leaves x.own.order

pub path-splits : (me : ℕ) (x z : Seat) (ls : List (NodeNo × Letter)) → Path x ls z → Splitting me x → Splitting me z
path-splits me x _ _ (over _) h = h
path-splits me x z _ (step _ y _ ls ms d w) h =
    let b = h.stood.both in
    let s = h.stood.stands in
    path-splits me y z ms w (record {
      stood = record { both = deed-both me x y ls d b; stands = deed-stands me x y ls d b s };
      splits = deed-splits me x y ls d b s h.splits;
    })

hears-splits : (me from : ℕ) (l : Letter) (x y : Seat) (ls : List (NodeNo × Letter)) → Hears from x l ls y
    → ((number : ℕ) → asked_of l ≡ Some number → from ≡ me → ⊥) → Stood me x → SplitsIn x.own.leaves x.own.order → SplitsIn y.own.leaves y.own.order
hears-splits me from l x y ls (gives number what leaf there free stamp unknown) ne b h = h
hears-splits me from l x _ ls (denies number what why) ne b h = h
hears-splits me from l x y ls (releases number name) ne b h = h
hears-splits me from l x _ ls (sends_part number name place last pairs given there) ne b h = h
hears-splits me from l x _ ls (sends_none number name place e) ne b h = h
hears-splits me from l x y ls (installs number leaf mine may) ne b h =
    let r = replaces x.own.leaves mine leaf (keyed me x.own mine b.both.0) may.there in
    leaf-stays x.own.leaves _ x.own.order (λ o e j. replaced-apart x.own.leaves mine leaf o.name r
    (installs-apart me from x.own mine leaf o.name x.own.number b.both b.stands may (λ f. ne number refl (f ∙ b.both.0.number)) (b.stands.held o e j))) h
hears-splits me from l x _ ls (installs_not number leaf f) ne b h = h
hears-splits me from l x y ls (grants number leaf o f) ne b h = goes-on x.own.leaves x.own.order o (order.with_grant o from) f.there refl refl refl h
hears-splits me from l x _ ls (grants_not number leaf e) ne b h = h
hears-splits me from l x y ls (is_refused number why o f) ne b h = none-open x.own.leaves
hears-splits me from l x _ ls (refused_not number why e) ne b h = h
hears-splits me from l x y ls (copies_part number last pairs o f) ne b h =
    goes-on x.own.leaves x.own.order o (record o { copied = o.copied ++ pairs }) f.there refl refl refl h
hears-splits me from l x _ ls (copies_not number last pairs e) ne b h = h
hears-splits me from l x y ls (is_installed number name o f) ne b h =
    goes-on x.own.leaves x.own.order o (record o { waiting = without o.waiting from }) f.there refl refl refl h
hears-splits me from l x _ ls (installed_not number name e) ne b h = h
hears-splits me from l x y ls (learns below other) ne b h = h
hears-splits me from l x _ ls (hears_other _ e) ne b h = h

pub heard-splits : (me from : ℕ) (l : Letter) (x y : Seat) (ls : List (NodeNo × Letter)) → Hears from x l ls y
    → ((number : ℕ) → asked_of l ≡ Some number → from ≡ me → ⊥) → Splitting me x → Splitting me y
heard-splits me from l x y ls d ne h =
    record { stood = heard-stood me from l x y ls d ne h.stood; splits = hears-splits me from l x y ls d ne h.stood h.splits }
