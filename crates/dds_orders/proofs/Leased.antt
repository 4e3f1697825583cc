use Rattle.std.proofs.Common.{◌≡◌, ℕ, ◌-◌, ◌≤◌, ◌==◌, ◌&&◌, ◌||◌, Bool, true, false, not, cond, Option, Some, None, List, [], ◌∷◌, refl, sym, ap, ◌∙◌}
use Rattle.std.proofs.Common.{inl, inr, ◌⊎◌, subst, arith}
use Rattle.std.proofs.lemmas.Bool.{and_parts, both_ways, cases_Bool, cases_eq, eq-eqb, eqb-true, ne_eqb}
use Rattle.std.specs.FinMap.{get, remove}
use Rattle.std.specs.List.{AllByRecursion}
use Rattle.std.specs.Prelude.{is_some, if◌then◌else◌}
use Rattle.dds_base.specs.BrickList.{has}
use Rattle.dds_base.specs.Name as names
use Rattle.dds_base.specs.Name.{Name, overlaps}
use Rattle.dds_base.specs.declared.leaf.Leaf.{Leaf}
use Rattle.dds_base.specs.declared.number.NodeNo.{NodeNo}
use Rattle.dds_brick_rows.specs.Refusal.{is_join}
use Rattle.dds_brick_rows.specs.Take.{high_of, is_low, low_of, replaced}
use Rattle.dds_core.proofs.Lists.{all-both, all-map}
use Rattle.dds_groups.specs.Leaves.{sibling}
use Rattle.dds_groups.specs.Names.{other_half}
use Rattle.dds_law_own.proofs.Changes.{MayInstall, Own, served}
use Rattle.dds_law_own.proofs.Disjoint.{Replaces, half, replaces, same_name}
use Rattle.dds_law_own.proofs.Halves.{over-high, over-low, over-other, over-whole, overlap-sym}
use Rattle.dds_law_own.proofs.Lists.{Each}
use Rattle.dds_law_own.proofs.Owned.{Apart, IsOrderly, made_name, orderly}
use Rattle.dds_law_own.proofs.Parted.{IsBoth}
use Rattle.dds_letters.specs.declared.letter.Letter.{Letter}
use Rattle.dds_letters.specs.declared.letter.Letter.TheVariants as letter
use Rattle.dds_locks.specs.Leases as lease
use Rattle.dds_locks.specs.declared.leases.Lease.{Lease}
use Rattle.dds_maps.specs.Own.{whole}
use Rattle.dds_net.proofs.Pairwise.{Pairwise}
use Rattle.dds_states.specs.Turn.{BrickTurn}
use Rattle.dds_states.specs.declared.brick_state.OpenOrder.{OpenOrder}
use Rattle.dds_states.specs.declared.brick_state.Task.{Task}
use Rattle.dds_states.specs.declared.brick_state.Task.TheVariants.{Join, Split}
use Rattle.dds_trie.proofs.Cuts.{get-cut, get-with, get-without}
use Rattle.dds_trie.specs.Trie.{LeafMap, cut, is_under, put}
use Rattle.dds_world.specs.Groups as world
use Rattle.dds_orders.proofs.Covered.{given-is, lease-meets, mine-meets}
use Rattle.dds_orders.proofs.Deeds.{Deed, Path, Seat, asks_more, closes, copies, drops, fixes, joins, loses, makes, over, pends, says, serves, splits, step}
use Rattle.dds_orders.proofs.Deeds.{seat, takes}
use Rattle.dds_orders.proofs.Leases.{Clear, clear-others, clear-rest, given-apart, given-more, given-other, other-holder, same-is}
use Rattle.dds_orders.proofs.Over.{IsOver, meets-over, name-is, not-under, overlaps-self}
use Rattle.dds_orders.proofs.Standing.{Standing, Stood, deed-both, deed-stands, heard-stood, keyed, order-is, path-stood}
use Rattle.dds_orders.proofs.Turns.{Hears, Turns, copies_not, denies, gives, grants, grants_not, hears_other, installed_not, installs, installs_not}
use Rattle.dds_orders.proofs.Turns.{is_installed, is_refused, learns, refused_not, releases, sends_none, sends_part}
use Rattle.dds_orders.proofs.Turns.{copies as copies_part}
use Rattle.dds_orders.specs.Law.{asked_of}

-- A brick's own leaves in the name of a lease that it gave to another brick stay as they are, whatever it does of itself.

-- leaves apart from what is put or removed
put-if : (c u : Bool) (leaf : Leaf) (x : Option Leaf) → c ≡ false → u ≡ false → cond c (Some leaf) (cond (not u) x None) ≡ x
put-if true u leaf x e f = cc
put-if false true leaf x e f = cc
put-if false false leaf x e f = refl

other-name : (q n : Name) → overlaps q n ≡ false → (q.bits == n.bits && q.depth == n.depth) ≡ false
other-name q n e = elim (cases_Bool (q.bits == n.bits && q.depth == n.depth)) [
  | inl h ↦ absurd (both_ways (overlaps q n) e (subst (λ k. overlaps q k ≡ true) (name-is q n h) (overlaps-self q)))
  | inr h ↦ h
]

pub put-apart : (m : LeafMap) (leaf : Leaf) (q : Name) → overlaps q leaf.name ≡ false → get (put m leaf) q ≡ get m q
put-apart m leaf q e =
    get-with (cut m leaf.name) leaf.name leaf q
    ∙ ap (λ x. cond (q.bits == leaf.name.bits && q.depth == leaf.name.depth) (Some leaf) x) (get-cut m leaf.name q)
    ∙ put-if (q.bits == leaf.name.bits && q.depth == leaf.name.depth) (is_under leaf.name q) leaf (get m q) (other-name q leaf.name e) (not-under leaf.name q e)

gone-if : (c : Bool) (x : Option Leaf) → c ≡ false → cond c None x ≡ x
gone-if true x e = cc
gone-if false x e = refl

pub remove-apart : (m : LeafMap) (n q : Name) → overlaps q n ≡ false → get (remove m n) q ≡ get m q
remove-apart m n q e = get-without m n q ∙ gone-if (q.bits == n.bits && q.depth == n.depth) (get m q) (other-name q n e)

not-either : (a b : Bool) → a ≡ false → (b ≡ true → a ≡ true) → b ≡ false
not-either a true e f = sym (f refl) ∙ e
not-either a false e f = refl

either-apart : (c : Bool) (x y : Leaf) (q : Name) → overlaps q x.name ≡ false → overlaps q y.name ≡ false → overlaps q (if c then x else y).name ≡ false
either-apart true x y q e f = e
either-apart false x y q e f = f

same-case : (m : LeafMap) (mine leaf : Leaf) (c : Bool) (q : Name) → c ≡ true
    → get (if c then put m leaf else put (put (remove m mine.name) (low_of leaf)) (high_of leaf)) q ≡ get (put m leaf) q
same-case m mine leaf true q e = refl
same-case m mine leaf false q e = cc

half-case : (m : LeafMap) (mine leaf : Leaf) (c : Bool) (q : Name) → c ≡ false
    → get (if c then put m leaf else put (put (remove m mine.name) (low_of leaf)) (high_of leaf)) q
    ≡ get (put (put (remove m mine.name) (low_of leaf)) (high_of leaf)) q
half-case m mine leaf true q e = cc
half-case m mine leaf false q e = refl

pub replaced-apart : (m : LeafMap) (mine leaf : Leaf) (q : Name) → Replaces m mine leaf → overlaps q mine.name ≡ false
    → get (replaced m mine leaf) q ≡ get m q
replaced-apart m mine leaf q (same_name there is) e =
    same-case m mine leaf (mine.name.depth == leaf.name.depth) q (eq-eqb mine.name.depth leaf.name.depth (ap (λ (n : Name). n.depth) is))
    ∙ put-apart m leaf q (subst (λ n. overlaps q n ≡ false) is e)
replaced-apart m mine leaf q (half there is deep) e =
    let depth : mine.name.depth ≡ leaf.name.depth - 1 = ap (λ (n : Name). n.depth) is in
    let other = ne_eqb mine.name.depth leaf.name.depth (λ f. omega (arith, deep, f, depth)) in
    let w : overlaps q (whole leaf.name) ≡ false = subst (λ n. overlaps q n ≡ false) is e in
    let first = not-either (overlaps q (whole leaf.name)) (overlaps q leaf.name) w (over-whole q leaf.name) in
    let second = not-either (overlaps q (whole leaf.name)) (overlaps q (other_half leaf.name)) w (over-other q leaf.name) in
    half-case m mine leaf (mine.name.depth == leaf.name.depth) q other
    ∙ put-apart (put (remove m mine.name) (low_of leaf)) (high_of leaf) q (either-apart (is_low leaf.name) (sibling leaf) leaf q second first)
    ∙ put-apart (remove m mine.name) (low_of leaf) q (either-apart (is_low leaf.name) leaf (sibling leaf) q first second)
    ∙ remove-apart m mine.name q e

-- a name in that of a lease
pub record In (n q : Name) : Type 0 where
  pub meets : overlaps q n ≡ true
  pub deep : n.depth ≤ q.depth

pub in-apart : (n q k : Name) → In n q → overlaps n k ≡ false → overlaps q k ≡ false
in-apart n q k i e = not-either (overlaps n k) (overlaps q k) e (meets-over q n k i.deep i.meets)

-- leases of others
leased-if : (c : Bool) (l : Lease) (ls : List Lease) (x y : Name) (j : ℕ) → overlaps l.name y ≡ c → lease.is_lease x j l ≡ true
    → (if c then Some l.holder else lease.leased ls y) ≡ None → overlaps x y ≡ false
leased-if true l ls x y j o g e = cc
leased-if false l ls x y j o g e =
    subst (λ n. overlaps n y ≡ false) (same-is l.name x (and_parts (l.holder == j) (names.same_name l.name x) g).1) o

rest-if : (c : Bool) (l : Lease) (ls : List Lease) (y : Name) → (if c then Some l.holder else lease.leased ls y) ≡ None → lease.leased ls y ≡ None
rest-if true l ls y e = cc
rest-if false l ls y e = e

leased-apart : (ls : List Lease) (x y : Name) (j : ℕ) → lease.leased ls y ≡ None → lease.is_given ls x j ≡ true → overlaps x y ≡ false
leased-apart [] x y j e g = cc
leased-apart (l ∷ ls) x y j e g = elim (cases_Bool (lease.is_lease x j l)) [
  | inl k ↦ leased-if (overlaps l.name y) l ls x y j refl k e
  | inr k ↦ leased-apart ls x y j (rest-if (overlaps l.name y) l ls y e) (sym (ap (λ c. c || lease.is_given ls x j) k) ∙ g)
]

own-apart : (me : ℕ) (x : Own) (n k : Name) (j : ℕ) → IsBoth me x → (j ≡ x.number → ⊥) → lease.is_given x.leases n j ≡ true
    → lease.is_given x.leases k x.number ≡ true → overlaps n k ≡ false
own-apart me x n k j b ne g mine =
    let rest = lease.released x.leases k x.number in
    let still : lease.is_given rest n j ≡ true =
    given-other x.leases n k j x.number (other-holder n k j x.number (λ e. ne (sym e))) ∙ g in
    let it = given-is (Clear k) rest n j (clear-others x.leases k x.number mine b.0.apart) still in
    subst (λ i. overlaps i k ≡ false) it.1 it.2

-- the leaves that stay, and the lease that stands afterwards exactly where it stood before
abbrev pub LeafStays : Name → LeafMap → LeafMap → Type 0
LeafStays n m k = (q : Name) (leaf : Leaf) → In n q → get m q ≡ Some leaf → get k q ≡ Some leaf

kept-given : (x : Own) (o : OpenOrder) (n : Name) (j : ℕ) (c : Bool) → (j ≡ x.number → ⊥)
    → lease.is_given (if c then x.leases else lease.released x.leases o.name x.number) n j ≡ lease.is_given x.leases n j
kept-given x o n j true ne = refl
kept-given x o n j false ne = given-other x.leases n o.name j x.number (other-holder n o.name j x.number (λ e. ne (sym e)))

other-lease : (n k : Name) (j h : ℕ) → (j ≡ h → ⊥) → lease.is_lease n j (record { name = k; holder = h }) ≡ false
other-lease n k j h ne = ap (λ c. c && names.same_name k n) (ne_eqb h j (λ e. ne (sym e)))

or-none : (a : Bool) → (a || false) ≡ a
or-none true = refl
or-none false = refl

pub deed-given : (me : ℕ) (x y : Seat) (ls : List (NodeNo × Letter)) (n : Name) (j : ℕ) → Deed x ls y → (j ≡ x.own.number → ⊥)
    → lease.is_given y.own.leases n j ≡ lease.is_given x.own.leases n j
deed-given me x _ ls n j (says _ others) ne = refl
deed-given me x y ls n j (takes mine leaf may) ne = refl
deed-given me x y ls n j (pends p may) ne = refl
deed-given me x y ls n j (drops txn) ne = refl
deed-given me x y ls n j (joins name via may) ne = refl
deed-given me x y ls n j (splits leaf may) ne =
    given-more x.own.leases (record { name = leaf.name; holder = x.own.number }) n j
    ∙ ap (λ c. lease.is_given x.own.leases n j || c) (other-lease n leaf.name j x.own.number ne) ∙ or-none (lease.is_given x.own.leases n j)
deed-given me x y ls n j (loses o m e k) ne = refl
deed-given me x y ls n j (fixes o from leaf e may) ne = refl
deed-given me x y ls n j (copies o leaf source e may) ne = refl
deed-given me x _ ls n j (asks_more o source e phase) ne = refl
deed-given me x y ls n j (makes o made nodes e may) ne = refl
deed-given me x y ls n j (closes o e) ne = kept-given x.own o n j (is_join o.task) ne
deed-given me x y ls n j (serves o made e phase) ne = kept-given x.own o n j (is_join o.task) ne

served-stays : (me : ℕ) (x : Own) (o : OpenOrder) (made : Leaf) (t : Task) (n : Name) (j : ℕ) → o.task ≡ t → x.order ≡ Some o
    → made.name ≡ made_name o.name t → IsBoth me x → Standing x → (j ≡ x.number → ⊥) → lease.is_given x.leases n j ≡ true
    → LeafStays n x.leaves (served x.leaves o made t)
served-stays me x o made (Join via) n j e there name b s ne g q leaf i is =
    let apart : overlaps q made.name ≡ false = false-of (overlaps q made.name) (λ f. both_ways (is_join o.task)
    ((order-is x.leaves x.order o there b.1.order) q (ap is_some is) (subst (λ k. overlaps q k ≡ true) name f)).0 (ap is_join e)) in
    put-apart x.leaves made q apart ∙ is
  where
    false-of : (c : Bool) → (c ≡ true → ⊥) → c ≡ false
    false-of true f = absurd (f refl)
    false-of false f = refl
served-stays me x o made Split n j e there name b s ne g q leaf i is =
    let apart = in-apart n q o.name i (own-apart me x n o.name j b ne g (s.held o there (ap is_join e))) in
    let low = not-either (overlaps q o.name) (overlaps q made.name) apart (λ f. over-low q o.name (subst (λ k. overlaps q k ≡ true) name f)) in
    let high = not-either (overlaps q o.name) (overlaps q (sibling made).name) apart
    (λ f. over-high q o.name (subst (λ k. overlaps q (other_half k) ≡ true) name f)) in
    put-apart (put (remove x.leaves o.name) made) (sibling made) q high ∙ put-apart (remove x.leaves o.name) made q low
    ∙ remove-apart x.leaves o.name q apart ∙ is

pub deed-stays : (me : ℕ) (x y : Seat) (ls : List (NodeNo × Letter)) (n : Name) (j : ℕ) → Deed x ls y → IsBoth me x.own → Standing x.own
    → (j ≡ x.own.number → ⊥) → lease.is_given x.own.leases n j ≡ true → LeafStays n x.own.leaves y.own.leaves
deed-stays me x _ ls n j (says _ others) b s ne g = λ q leaf i is. is
deed-stays me x y ls n j (takes mine leaf may) b s ne g =
    let r = replaces x.own.leaves mine leaf (keyed me x.own mine b.0) may.there in
    let apart = leased-apart x.own.leases n mine.name j may.free.unleased g in
    λ q l i is. replaced-apart x.own.leaves mine leaf q r (in-apart n q mine.name i apart) ∙ is
deed-stays me x y ls n j (pends p may) b s ne g = λ q leaf i is. is
deed-stays me x y ls n j (drops txn) b s ne g = λ q leaf i is. is
deed-stays me x y ls n j (joins name via may) b s ne g = λ q leaf i is. is
deed-stays me x y ls n j (splits leaf may) b s ne g = λ q leaf i is. is
deed-stays me x y ls n j (loses o m e k) b s ne g = λ q leaf i is. is
deed-stays me x y ls n j (fixes o from leaf e may) b s ne g = λ q leaf i is. is
deed-stays me x y ls n j (copies o leaf source e may) b s ne g = λ q leaf i is. is
deed-stays me x _ ls n j (asks_more o source e phase) b s ne g = λ q leaf i is. is
deed-stays me x y ls n j (makes o made nodes e may) b s ne g = λ q leaf i is. is
deed-stays me x y ls n j (closes o e) b s ne g = λ q leaf i is. is
deed-stays me x y ls n j (serves o made e phase) b s ne g =
    let it : IsOrderly me o = orderly me x.own.order o e b.0.order in
    let name = subst (λ i. Each (λ (l : Leaf). (l.name ≡ made_name o.name o.task) × (has l.list me ≡ true)) (world.made_leaf i)) phase it.made in
    served-stays me x.own o made o.task n j refl e name.0 b s ne g

pub path-given : (me : ℕ) (x z : Seat) (ls : List (NodeNo × Letter)) (n : Name) (j : ℕ) → Path x ls z → IsBoth me x.own → (j ≡ me → ⊥)
    → lease.is_given z.own.leases n j ≡ lease.is_given x.own.leases n j
path-given me x _ _ n j (over _) b ne = refl
path-given me x z _ n j (step _ y _ ls ms d w) b ne =
    path-given me y z ms n j w (deed-both me x y ls d b) ne ∙ deed-given me x y ls n j d (λ e. ne (e ∙ b.0.number))

pub path-stays : (me : ℕ) (x z : Seat) (ls : List (NodeNo × Letter)) (n : Name) (j : ℕ) → Path x ls z → Stood me x → (j ≡ me → ⊥)
    → lease.is_given x.own.leases n j ≡ true → LeafStays n x.own.leaves z.own.leaves
path-stays me x _ _ n j (over _) h ne g = λ q leaf i is. is
path-stays me x z _ n j (step _ y _ ls ms d w) h ne g =
    let other = (λ (e : j ≡ x.own.number). ne (e ∙ h.both.0.number)) in
    let first = deed-stays me x y ls n j d h.both h.stands other g in
    let next : Stood me y = record { both = deed-both me x y ls d h.both; stands = deed-stands me x y ls d h.both h.stands } in
    let rest = path-stays me y z ms n j w next ne (deed-given me x y ls n j d other ∙ g) in
    λ q leaf i is. rest q leaf i (first q leaf i is)

-- a letter of the holder changes them alone that has it install a leaf
pub record IsInstall (from j : ℕ) (l : Letter) : Type 0 where
  pub same : from ≡ j
  pub number : ℕ
  pub made : Leaf
  pub is : l ≡ letter.Install number made

-- beside a lease, the others have nothing in common with it
pub clear-by : (ls : List Lease) (n : Name) (j : ℕ) → Pairwise Apart ls → lease.is_given ls n j ≡ true
    → AllByRecursion (λ (l : Lease). (lease.is_lease n j l ≡ true) ⊎ Clear n l) ls
clear-by [] n j a g = tt
clear-by (l ∷ ls) n j a g = elim (cases_Bool (lease.is_lease n j l)) [
  | inl e ↦ (
    inl e,
    all-map (Clear n) (λ (k : Lease). (lease.is_lease n j k ≡ true) ⊎ Clear n k) ls (λ k c. inr c)
        (clear-rest ls l n (same-is l.name n (and_parts (l.holder == j) (names.same_name l.name n) e).1) a.0),
  )
  | inr e ↦ (let h : lease.is_given ls n j ≡ true = sym (ap (λ c. c || lease.is_given ls n j) e) ∙ g in
      (inr (given-apart ls l n j h a.0), clear-by ls n j a.1 h))
]

its-clear : (l : Lease) (n : Name) (j from : ℕ) → (from ≡ j → ⊥) → (l.holder == from) ≡ true → (lease.is_lease n j l ≡ true) ⊎ Clear n l → Clear n l
its-clear l n j from ne h (inl e) =
    absurd (ne (sym (eqb-true l.holder from h) ∙ eqb-true l.holder j (and_parts (l.holder == j) (names.same_name l.name n) e).0))
its-clear l n j from ne h (inr c) = c

installs-apart : (me from : ℕ) (x : Own) (mine leaf : Leaf) (n : Name) (j : ℕ) → IsBoth me x → Standing x → MayInstall x mine leaf from → (from ≡ j → ⊥)
    → lease.is_given x.leases n j ≡ true → overlaps n mine.name ≡ false
installs-apart me from x mine leaf n j b s may ne g =
    let all = all-both (λ (l : Lease). IsOver x.leaves l.name) (λ (l : Lease). (lease.is_lease n j l ≡ true) ⊎ Clear n l) x.leases s.over
    (clear-by x.leases n j b.0.apart g) in
    let it = lease-meets (λ (l : Lease). IsOver x.leaves l.name × ((lease.is_lease n j l ≡ true) ⊎ Clear n l)) x.leases leaf.name from all may.leased in
    let r = replaces x.leaves mine leaf (keyed me x mine b.0) may.there in
    let k = mine-meets x.leaves mine leaf it.lease.name r it.meets in
    let clear = its-clear it.lease n j from ne it.holder it.is.1 in
    let lies : In it.lease.name mine.name = record { meets = k.1; deep = it.is.0.all mine.name k.0 k.1 } in
    let apart = in-apart it.lease.name mine.name n lies clear in
    not-either (overlaps mine.name n) (overlaps n mine.name) apart (overlap-sym n mine.name)

pub heard-stays : (me from : ℕ) (l : Letter) (x y : Seat) (ls : List (NodeNo × Letter)) (n : Name) (j : ℕ) → Hears from x l ls y → Stood me x
    → (j ≡ me → ⊥) → lease.is_given x.own.leases n j ≡ true → LeafStays n x.own.leaves y.own.leaves ⊎ IsInstall from j l
heard-stays me from l x y ls n j (gives number what leaf there free stamp unknown) h ne g = inl (λ q k i is. is)
heard-stays me from l x _ ls n j (denies number what why) h ne g = inl (λ q k i is. is)
heard-stays me from l x y ls n j (releases number name) h ne g = inl (λ q k i is. is)
heard-stays me from l x _ ls n j (sends_part number name place last pairs given there) h ne g = inl (λ q k i is. is)
heard-stays me from l x _ ls n j (sends_none number name place e) h ne g = inl (λ q k i is. is)
heard-stays me from l x y ls n j (installs number leaf mine may) h ne g = elim (cases_eq from j) [
  | inl e ↦ inr (record { same = e; number = number; made = leaf; is = refl })
  | inr other ↦
      let apart = installs-apart me from x.own mine leaf n j h.both h.stands may other g in
      let r = replaces x.own.leaves mine leaf (keyed me x.own mine h.both.0) may.there in
      inl (λ q k i is. replaced-apart x.own.leaves mine leaf q r (in-apart n q mine.name i apart) ∙ is)
]
heard-stays me from l x _ ls n j (installs_not number leaf f) h ne g = inl (λ q k i is. is)
heard-stays me from l x y ls n j (grants number leaf o f) h ne g = inl (λ q k i is. is)
heard-stays me from l x _ ls n j (grants_not number leaf e) h ne g = inl (λ q k i is. is)
heard-stays me from l x y ls n j (is_refused number why o f) h ne g = inl (λ q k i is. is)
heard-stays me from l x _ ls n j (refused_not number why e) h ne g = inl (λ q k i is. is)
heard-stays me from l x y ls n j (copies_part number last pairs o f) h ne g = inl (λ q k i is. is)
heard-stays me from l x _ ls n j (copies_not number last pairs e) h ne g = inl (λ q k i is. is)
heard-stays me from l x y ls n j (is_installed number name o f) h ne g = inl (λ q k i is. is)
heard-stays me from l x _ ls n j (installed_not number name e) h ne g = inl (λ q k i is. is)
heard-stays me from l x y ls n j (learns below other) h ne g = inl (λ q k i is. is)
heard-stays me from l x _ ls n j (hears_other _ e) h ne g = inl (λ q k i is. is)

-- a whole turn
pub turn-stays : (me from : ℕ) (l : Letter) (x : Seat) (t : BrickTurn) (n : Name) (j : ℕ) → Turns from x l t
    → ((number : ℕ) → asked_of l ≡ Some number → from ≡ me → ⊥) → Stood me x → (j ≡ me → ⊥) → lease.is_given x.own.leases n j ≡ true
    → lease.is_given (seat t.state).own.leases n j ≡ true → LeafStays n x.own.leaves (seat t.state).own.leaves ⊎ IsInstall from j l
turn-stays me from l x t n j u self h ne g also =
    let a = path-stood me x u.first [] u.takes h in
    let b = heard-stood me from l u.first u.next u.answers u.hears self a in
    let first = path-stays me x u.first [] n j u.takes h ne g in
    let given = path-given me x u.first [] n j u.takes h.both ne ∙ g in
    let next = sym (path-given me u.next (seat t.state) u.letters n j u.goes b.both ne) ∙ also in
    let rest = path-stays me u.next (seat t.state) u.letters n j u.goes b ne next in
    elim (heard-stays me from l u.first u.next u.answers n j u.hears a ne given) [
      | inl heard ↦ inl (λ q k i is. rest q k i (heard q k i (first q k i is)))
      | inr i ↦ inr i
    ]
