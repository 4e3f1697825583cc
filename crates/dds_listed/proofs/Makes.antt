use Rattle.std.proofs.Common.{◌≡◌, ℕ, ◌^◌, ◌<◌, ◌==◌, Bool, true, false, not, Option, Some, None, List, [], ◌∷◌, refl, sym, ap, ◌∙◌, subst}
use Rattle.std.proofs.lemmas.Bool.{eq-eqb}
use Rattle.std.specs.Prelude.{filter, is_some, if◌then◌else◌}
use Rattle.dds_base.specs.BrickList.{has}
use Rattle.dds_base.specs.NodeSet.{has_node}
use Rattle.dds_base.specs.declared.leaf.Leaf.{Leaf}
use Rattle.dds_base.specs.declared.number.NodeNo.{NodeNo}
use Rattle.dds_brick_rows.specs.Refusal.{is_join}
use Rattle.dds_groups.proofs.Steps.{joined-successor, low-successor}
use Rattle.dds_groups.specs.Leaves.{is_some_of, live, successor}
use Rattle.dds_law_own.proofs.Lists.{each-is}
use Rattle.dds_law_own.proofs.Owned.{IsOrderly, orderly}
use Rattle.dds_law_own.proofs.Parted.{IsBoth}
use Rattle.dds_letters.specs.declared.letter.Letter.{Letter}
use Rattle.dds_net.specs.Net.{Node, nowhere, a_brick, a_library}
use Rattle.dds_order_rows.specs.OwnOrder as order
use Rattle.dds_orders.proofs.Counting.{not-none}
use Rattle.dds_orders.proofs.Deeds.{Deed, Path, Seat, asks_more, closes, copies, drops, fixes, joins, loses, makes, over, pends, says}
use Rattle.dds_orders.proofs.Deeds.{serves, splits, step, takes}
use Rattle.dds_orders.proofs.Numbers.{the-order}
use Rattle.dds_orders.proofs.Standing.{deed-both}
use Rattle.dds_orders.proofs.Turns.{Hears, copies_not, denies, gives, grants, grants_not, hears_other, installed_not, installs, installs_not}
use Rattle.dds_orders.proofs.Turns.{is_installed, is_refused, learns, refused_not, releases, sends_none, sends_part}
use Rattle.dds_orders.proofs.Turns.{copies as copies_part}
use Rattle.dds_states.specs.declared.brick_state.BrickState.{BrickState}
use Rattle.dds_states.specs.declared.brick_state.OpenOrder.{OpenOrder}
use Rattle.dds_states.specs.declared.brick_state.OrderPhase.{OrderPhase}
use Rattle.dds_states.specs.declared.brick_state.OrderPhase.TheVariants.{Copying, Installing, Leasing}
use Rattle.dds_states.specs.declared.brick_state.Task.{Task}
use Rattle.dds_states.specs.declared.brick_state.Task.TheVariants.{Join, Split}

-- The leaf that an open order has made is a successor of the order's leaf, where that has a partition's name: each deed and each letter
-- keeps it.

-- some members of a list
then-if : (c : Bool) (a b : Bool) → a ≡ true → b ≡ true → (if c then a else b) ≡ true
then-if true a b h k = h
then-if false a b h k = k

first-if : (c : Bool) (a b : Bool) → (b ≡ true → a ≡ true) → (if c then a else b) ≡ true → a ≡ true
first-if true a b f h = h
first-if false a b f h = f h

some-tail : (xs ys : List ℕ) (y : ℕ) → is_some_of xs (y ∷ ys) ≡ true → is_some_of xs ys ≡ true
some-tail [] ys y h = cc
some-tail (x ∷ xs) [] y h = refl
some-tail (x ∷ xs) (z ∷ zs) y h =
    let k = first-if (x == y) (is_some_of xs (z ∷ zs)) (is_some_of xs (y ∷ z ∷ zs)) (some-tail xs (z ∷ zs) y) h in
    then-if (x == z) (is_some_of xs zs) (is_some_of xs (z ∷ zs)) (some-tail xs zs z k) k

some-skip : (x : ℕ) (xs ys : List ℕ) → is_some_of xs ys ≡ true → is_some_of (x ∷ xs) ys ≡ true
some-skip x xs [] h = refl
some-skip x xs (y ∷ ys) h = then-if (x == y) (is_some_of xs ys) (is_some_of xs (y ∷ ys)) (some-tail xs ys y h) h

some-with : (c : Bool) (x : ℕ) (xs ys : List ℕ) → is_some_of xs ys ≡ true → is_some_of (x ∷ xs) (if c then x ∷ ys else ys) ≡ true
some-with true x xs ys h = ap (λ c. if c then is_some_of xs ys else is_some_of xs (x ∷ ys)) (eq-eqb x x refl) ∙ h
some-with false x xs ys h = some-skip x xs ys h

some-known : (c : Bool) (p : ℕ → Bool) (x : ℕ) (xs rest : List ℕ) → is_some_of xs (filter p rest) ≡ true
    → is_some_of (x ∷ xs) (filter p (if c then rest else x ∷ rest)) ≡ true
some-known true p x xs rest h = some-skip x xs (filter p rest) h
some-known false p x xs rest h = some-with (p x) x xs (filter p rest) h

some-kept : (p known : ℕ → Bool) (xs : List ℕ) → is_some_of xs (filter p (live xs known)) ≡ true
some-kept p known [] = refl
some-kept p known (x ∷ xs) = some-known (known x) p x xs (live xs known) (some-kept p known xs)

-- the leaf that is made
made-comes : (t : Task) (me : ℕ) (s : BrickState) (o : OpenOrder) (leaf : Leaf) → s.number ≡ me → leaf.name.bits < 2 ^ leaf.name.depth
    → has leaf.list me ≡ not (is_join t) → has (order.made_leaf s o leaf t).list me ≡ true
    → is_some (successor leaf (order.made_leaf s o leaf t)) ≡ true
made-comes (Join via) me s o leaf is range mine made =
    ap is_some (joined-successor leaf (order.parting s o leaf) s.number s.made (some-kept (order.takes_part s o) (has_node s.known) leaf.list)
    (ap (has leaf.list) is ∙ mine))
made-comes Split me s o leaf is range mine made =
    ap is_some (low-successor leaf (order.parting s o leaf) s.number s.made range (some-kept (order.takes_part s o) (has_node s.known) leaf.list)
    (ap (has (order.parting s o leaf)) is ∙ made))

abbrev pub Makes : OpenOrder → Type 0
Makes o =
    (leaf made : Leaf) → o.leaf ≡ Some leaf → o.phase ≡ Installing made → leaf.name.bits < 2 ^ leaf.name.depth → is_some (successor leaf made) ≡ true

abbrev pub OrderMakes : Option OpenOrder → Type 0
OrderMakes q = (o : OpenOrder) → q ≡ Some o → Makes o

abbrev pub NodeMakes : ℕ → Node → Type 0
NodeMakes k nowhere = Unit {0}
NodeMakes k (a_brick s) = OrderMakes s.order
NodeMakes k (a_library s) = Unit {0}

-- phases
leasing-not : (made : Leaf) → Leasing ≡ Installing made → ⊥
leasing-not made e = cc

copying-not : (source : ℕ) (made : Leaf) → Copying source ≡ Installing made → ⊥
copying-not source made e = cc

not-made : (p : OrderPhase) (made : Leaf) → order.is_leasing p ≡ true → p ≡ Installing made → ⊥
not-made Leasing made h e = cc
not-made (Copying source) made h e = cc
not-made (Installing other) made h e = cc

made-is : (a b : Leaf) → Installing a ≡ Installing b → a ≡ b
made-is a b e = cc

some-is : (a b : Leaf) → Some a ≡ Some b → a ≡ b
some-is a b e = cc

that-makes : (p : OpenOrder) → Makes p → OrderMakes (Some p)
that-makes p h o e = subst Makes (the-order p o e) h

pub none-makes : OrderMakes None
none-makes o e = absurd (not-none o e)

deed-makes : (me : ℕ) (x y : Seat) (ls : List (NodeNo × Letter)) → Deed x ls y → IsBoth me x.own → OrderMakes x.own.order → OrderMakes y.own.order
deed-makes me x _ ls (says _ others) b h = h
deed-makes me x y ls (takes mine leaf may) b h = h
deed-makes me x y ls (pends p may) b h = h
deed-makes me x y ls (drops txn) b h = h
deed-makes me x y ls (joins name via may) b h = that-makes _ (λ leaf made f i r. absurd (leasing-not made i))
deed-makes me x y ls (splits leaf may) b h = that-makes _ (λ l made f i r. absurd (leasing-not made i))
deed-makes me x y ls (loses o m e known) b h = that-makes _ (λ leaf made f i r. h o e leaf made f i r)
deed-makes me x y ls (fixes o from leaf e may) b h = that-makes _ (λ l made f i r. absurd (not-made o.phase made may.leasing i))
deed-makes me x y ls (copies o leaf source e may) b h = that-makes _ (λ l made f i r. absurd (copying-not source made i))
deed-makes me x _ ls (asks_more o source e phase) b h = h
deed-makes me x y ls (makes o made nodes e may) b h =
    let m = may.may in
    let p = record o { waiting = nodes; phase = Installing made } in
    let after = deed-both me x y ls (makes o made nodes e may) b in
    let it : IsOrderly me p = orderly me (Some p) p refl after.0.order in
    let was : IsOrderly me o = orderly me x.own.order o e b.0.order in
    let mine = (each-is (λ (l : Leaf). (l.name ≡ o.name) × (has l.list me ≡ not (is_join o.task))) o.leaf m.leaf m.fixed was.leaf).1 in
    that-makes p (λ leaf other f i range.
    let is : made ≡ other = made-is made other i in
    let same : leaf ≡ m.leaf = some-is leaf m.leaf (sym f ∙ m.fixed) in
    subst (λ q. is_some (successor leaf q) ≡ true) (sym m.is ∙ is)
    (subst (λ q. is_some (successor q (order.made_leaf m.state o m.leaf o.task)) ≡ true) (sym same)
    (made-comes o.task me m.state o m.leaf (m.number ∙ b.0.number) (subst (λ (q : Leaf). q.name.bits < 2 ^ q.name.depth) same range) mine
    (subst (λ (q : Leaf). has q.list me ≡ true) m.is it.made.1))))
deed-makes me x y ls (closes o e) b h = none-makes
deed-makes me x y ls (serves o made e phase) b h = none-makes

pub path-makes : (me : ℕ) (x z : Seat) (ls : List (NodeNo × Letter)) → Path x ls z → IsBoth me x.own → OrderMakes x.own.order
    → IsBoth me z.own × OrderMakes z.own.order
path-makes me x _ _ (over _) b h = (b, h)
path-makes me x z _ (step _ y _ ls ms d w) b h = path-makes me y z ms w (deed-both me x y ls d b) (deed-makes me x y ls d b h)

pub heard-makes : (from : ℕ) (l : Letter) (x y : Seat) (ls : List (NodeNo × Letter)) → Hears from x l ls y → OrderMakes x.own.order → OrderMakes y.own.order
heard-makes from l x y ls (gives number what leaf there free stamp unknown) h = h
heard-makes from l x _ ls (denies number what why) h = h
heard-makes from l x y ls (releases number name) h = h
heard-makes from l x _ ls (sends_part number name place last pairs given there) h = h
heard-makes from l x _ ls (sends_none number name place e) h = h
heard-makes from l x y ls (installs number leaf mine may) h = h
heard-makes from l x _ ls (installs_not number leaf f) h = h
heard-makes from l x y ls (grants number leaf o f) h = that-makes _ (λ k made e i r. h o f.there k made e i r)
heard-makes from l x _ ls (grants_not number leaf e) h = h
heard-makes from l x y ls (is_refused number why o f) h = none-makes
heard-makes from l x _ ls (refused_not number why e) h = h
heard-makes from l x y ls (copies_part number last pairs o f) h = that-makes _ (λ k made e i r. h o f.there k made e i r)
heard-makes from l x _ ls (copies_not number last pairs e) h = h
heard-makes from l x y ls (is_installed number name o f) h = that-makes _ (λ k made e i r. h o f.there k made e i r)
heard-makes from l x _ ls (installed_not number name e) h = h
heard-makes from l x y ls (learns below other) h = h
heard-makes from l x _ ls (hears_other _ e) h = h
