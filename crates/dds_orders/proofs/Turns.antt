use Rattle.std.proofs.Common.{◌≡◌, ℕ, ◌<◌, ◌==◌, ◌&&◌, ◌||◌, ◌++◌, Bool, true, false, not, Option, Some, None, List, [], ◌∷◌, refl, sym, ap, ◌∙◌, subst}
use Rattle.std.proofs.lemmas.Bool.{and_parts, eq-eqb, eqb-true}
use Rattle.std.specs.FinMap.{get}
use Rattle.std.specs.Prelude.{is_some, if◌then◌else◌}
use Rattle.dds_base.specs.BrickList.{has}
use Rattle.dds_base.specs.Name.{Name}
use Rattle.dds_base.specs.NodeSet.{has_node, with_node}
use Rattle.dds_base.specs.Number.{StampOf}
use Rattle.dds_base.specs.declared.leaf.Leaf.{Leaf}
use Rattle.dds_base.specs.declared.number.NodeNo.{NodeNo}
use Rattle.dds_base.specs.declared.op.Order.{Order}
use Rattle.dds_base.specs.declared.op.Order.TheVariants as the_order
use Rattle.dds_base.specs.declared.op.OrderReply.TheVariants as answered
use Rattle.dds_base.specs.declared.pair.Pair.{Pair}
use Rattle.dds_brick_rows.specs.Refusal.{is_found, joins_over, lease_refusal}
use Rattle.dds_brick_rows.specs.Take as takes
use Rattle.dds_brick_rows.specs.declared.resolution.News.TheVariants as news
use Rattle.dds_core.proofs.Known.{has-with}
use Rattle.dds_core.specs.Brick.{brick_input, live_brick_turn}
use Rattle.dds_core.specs.Notice as notices
use Rattle.dds_groups.specs.Leaves.{successor}
use Rattle.dds_law_own.proofs.Changes.{IsFree, MayInstall, kept_leases, own}
use Rattle.dds_law_own.proofs.Lists.{has-last}
use Rattle.dds_law_own.proofs.LetterWays.{IsOfAnother}
use Rattle.dds_law_own.proofs.Ways.{first-none, free-lease, take-known, when-none}
use Rattle.dds_letters.specs.declared.letter.Letter.{Letter}
use Rattle.dds_letters.specs.declared.letter.Letter.TheVariants as letter
use Rattle.dds_letters.specs.declared.refusal.Refusal.{Refusal}
use Rattle.dds_letters.specs.declared.refusal.Refusal.TheVariants as refusal
use Rattle.dds_letters.specs.declared.refusal.Wanted.{Wanted}
use Rattle.dds_letters.specs.declared.refusal.Wanted.TheVariants as wanted
use Rattle.dds_locks.specs.Leases as lease
use Rattle.dds_locks.specs.Leases.{lease_of}
use Rattle.dds_maps.specs.Own.{own_leaf}
use Rattle.dds_order_rows.specs.Orders as orders
use Rattle.dds_order_rows.specs.OwnOrder as order
use Rattle.dds_states.specs.Leaf.{leaf_for}
use Rattle.dds_states.specs.Turn.{BrickTurn, still, when, to_each, unknown, without}
use Rattle.dds_states.specs.declared.brick_state.BrickState.{BrickState}
use Rattle.dds_states.specs.declared.brick_state.OpenOrder.{OpenOrder}
use Rattle.dds_states.specs.declared.brick_state.OrderPhase.{OrderPhase}
use Rattle.dds_states.specs.declared.brick_state.OrderPhase.TheVariants.{Copying, Installing, Leasing}
use Rattle.dds_orders.proofs.Deeds.{Goes, GoesFrom, Path, Seat, Stage, Trip, after, arrives, goes, goes-then, goes-when, is_of_orders, nothing_owed, over}
use Rattle.dds_orders.proofs.Deeds.{owed_at, part_owed, path-of, plain, seat, through, told_order}
use Rattle.dds_orders.proofs.Deeds.{wanted_name, wanted_stamp}
use Rattle.dds_orders.proofs.Deeds.{with_order}
use Rattle.dds_orders.proofs.OwnRows as own_rows
use Rattle.dds_orders.proofs.OwnRows.{holding}
use Rattle.dds_orders.proofs.Rows as rows
use Rattle.dds_orders.proofs.Rows.{Idle}

-- What a brick does at a letter, before other deeds: one constructor for each letter of orders that does something, and one for each
-- that doesn't; a notice; and any other letter.

-- the order that an own letter finds
pub record Finds (x : Seat) (number : ℕ) (test : OpenOrder → Bool) (o : OpenOrder) : Type 0 where
  pub there : x.own.order ≡ Some o
  pub same : o.number ≡ number
  pub passes : test o ≡ true

pub data Hears (from : NodeNo) (x : Seat) : Letter → List (NodeNo × Letter) → Seat → Type 0 where
  gives : (number : ℕ) (what : Wanted) (leaf : Leaf) → get x.own.leaves (wanted_name what) ≡ Some leaf → IsFree x.own (wanted_name what)
      → is_found (wanted_stamp what) (Some leaf) ≡ true → has_node x.own.known from ≡ false
      → Hears from x (letter.Lease number what) ((from, letter.Granted number leaf) ∷ [])
      (record x { own = record x.own { leases = x.own.leases ++ record { name = wanted_name what; holder = from } ∷ [] } })
  denies : (number : ℕ) (what : Wanted) (why : Refusal)
      → Hears from x (letter.Lease number what) ((from, letter.LeaseRefused number why) ∷ []) x
  releases : (number : ℕ) (name : Name)
      → Hears from x (letter.Release number name) [] (record x { own = record x.own { leases = lease.released x.own.leases name from } })
  sends_part : (number : ℕ) (name : Name) (place : Option ℕ) (last : Bool) (pairs : List Pair) → lease.is_given x.own.leases name from ≡ true
      → is_some (get x.own.leaves name) ≡ true
      → Hears from x (letter.CopyAsk number name place) ((from, letter.CopyPart number last pairs) ∷ []) x
  sends_none : (number : ℕ) (name : Name) (place : Option ℕ) → (lease.is_given x.own.leases name from && is_some (get x.own.leaves name)) ≡ false
      → Hears from x (letter.CopyAsk number name place) [] x
  installs : (number : ℕ) (leaf mine : Leaf) → MayInstall x.own mine leaf from
      → Hears from x (letter.Install number leaf) ((from, letter.Installed number mine.name) ∷ [])
      (record x { own = record x.own { leaves = takes.replaced x.own.leaves mine leaf } })
  installs_not : (number : ℕ) (leaf : Leaf) → ((mine : Leaf) → MayInstall x.own mine leaf from → ⊥) → Hears from x (letter.Install number leaf) [] x
  grants : (number : ℕ) (leaf : Leaf) (o : OpenOrder) → Finds x number (order.takes_grant x.own.number leaf) o
      → Hears from x (letter.Granted number leaf) [] (with_order x (order.with_grant o from))
  grants_not : (number : ℕ) (leaf : Leaf) → order.is_at number (order.takes_grant x.own.number leaf) x.own.order ≡ false
      → Hears from x (letter.Granted number leaf) [] x
  is_refused : (number : ℕ) (why : Refusal) (o : OpenOrder) → Finds x number (λ q. order.is_leasing q.phase) o
      → Hears from x (letter.LeaseRefused number why) (to_each (unknown o.asked x.own.known) (letter.Release o.number o.name))
      (record x { own = record x.own { order = None; leases = kept_leases x.own o } })
  refused_not : (number : ℕ) (why : Refusal) → order.is_at number (λ q. order.is_leasing q.phase) x.own.order ≡ false
      → Hears from x (letter.LeaseRefused number why) [] x
  copies : (number : ℕ) (last : Bool) (pairs : List Pair) (o : OpenOrder) → Finds x number (λ q. order.is_source from q.phase && order.fits q pairs) o
      → Hears from x (letter.CopyPart number last pairs) [] (with_order x (record o { copied = o.copied ++ pairs }))
  copies_not : (number : ℕ) (last : Bool) (pairs : List Pair)
      → order.is_at number (λ q. order.is_source from q.phase && order.fits q pairs) x.own.order ≡ false
      → Hears from x (letter.CopyPart number last pairs) [] x
  is_installed : (number : ℕ) (name : Name) (o : OpenOrder) → Finds x number (λ q. order.is_installing q.phase) o
      → Hears from x (letter.Installed number name) [] (with_order x (record o { waiting = without o.waiting from }))
  installed_not : (number : ℕ) (name : Name) → order.is_at number (λ q. order.is_installing q.phase) x.own.order ≡ false
      → Hears from x (letter.Installed number name) [] x
  learns : from < 80 → (from ≡ x.own.number → ⊥)
      → Hears from x letter.Notice []
      (record x { own = record x.own { known = with_node x.own.known from; leases = lease.released_all x.own.leases from } })
  hears_other : (l : Letter) → is_of_orders l ≡ false → Hears from x l [] x

-- what a letter that was heard makes owed
abbrev pub owed : {from : NodeNo} {x y : Seat} {l : Letter} {ls : List (NodeNo × Letter)} → Hears from x l ls y → Stage
owed {from = from} (grants number leaf o finds) = owed_at o.leaf from leaf
owed (copies number last pairs o finds) = part_owed
owed other = nothing_owed

-- a turn at a letter: leaves may be taken first, then the letter is heard, then other deeds follow
pub record Turns (from : NodeNo) (x : Seat) (l : Letter) (t : BrickTurn) : Type 0 where
  pub first : Seat
  pub next : Seat
  pub answers : List (NodeNo × Letter)
  pub letters : List (NodeNo × Letter)
  pub takes : Path x [] first
  pub hears : Hears from first l answers next
  pub goes : Path next letters (seat t.state)
  pub idle : Idle x first
  pub first_order : first.own.order ≡ x.own.order
  pub trip : Trip (owed hears) next letters nothing_owed (seat t.state)
  pub all : t.out.letters ≡ answers ++ letters

turns : {from : NodeNo} {x y : Seat} {l : Letter} {ls : List (NodeNo × Letter)} (t : BrickTurn) (h : Hears from x l ls y) → owed h ≡ nothing_owed
    → t.out.letters ≡ ls ++ [] → seat t.state ≡ y → Turns from x l t
turns {x = x} {y = y} {ls = ls} t h q e is =
    let w = subst (λ a. Trip a y [] nothing_owed (seat t.state)) (sym q) (subst (Trip nothing_owed y [] nothing_owed) (sym is) (arrives nothing_owed y)) in
    record {
      first = x;
      next = y;
      answers = ls;
      letters = [];
      takes = over x;
      hears = h;
      goes = path-of w;
      idle = arrives nothing_owed x;
      first_order = refl;
      trip = w;
      all = e;
    }

turns-on : {from : NodeNo} {x y : Seat} {l : Letter} (t : BrickTurn) (h : Hears from x l [] y) → GoesFrom (owed h) y t → Turns from x l t
turns-on {x = x} {y = y} t h g =
    record {
      first = x;
      next = y;
      answers = [];
      letters = t.out.letters;
      takes = over x;
      hears = h;
      goes = g.path;
      idle = arrives nothing_owed x;
      first_order = refl;
      trip = g.trip;
      all = refl;
    }

taken-then : {from : NodeNo} {x y : Seat} {l : Letter} (t : BrickTurn) → Idle x y → y.own.order ≡ x.own.order → Turns from y l t → Turns from x l t
taken-then t p e h =
    record {
      first = h.first;
      next = h.next;
      answers = h.answers;
      letters = h.letters;
      takes = path-of (through p h.idle);
      hears = h.hears;
      goes = h.goes;
      idle = through p h.idle;
      first_order = h.first_order ∙ e;
      trip = h.trip;
      all = h.all;
    }

turns-when : {from : NodeNo} {x : Seat} {l : Letter} (c : Bool) {t u : BrickTurn} → (c ≡ true → Turns from x l t) → (c ≡ false → Turns from x l u)
    → Turns from x l (if c then t else u)
turns-when true f g = f refl
turns-when false f g = g refl

-- orders of other bricks
not-false : (c : Bool) → not c ≡ false → c ≡ true
not-false true h = refl
not-false false h = cc

found-leaf : (s : BrickState) (name : Name) (stamp : Option StampOf) → lease_refusal s name stamp ≡ None → is_found stamp (get s.leaves name) ≡ true
found-leaf s name stamp e =
    let a = first-none (when (joins_over s.order name) refusal.Lease) _ e in
    let b = first-none (when (not (is_found stamp (get s.leaves name))) (refusal.Stale (leaf_for s.leaves name.bits))) _ a.1 in
    not-false (is_found stamp (get s.leaves name)) (when-none _ (refusal.Stale (leaf_for s.leaves name.bits)) b.0)

granting : (s : BrickState) (from : NodeNo) (number : ℕ) (what : Wanted) (leaf : Option Leaf) → get s.leaves (wanted_name what) ≡ leaf
    → is_found (wanted_stamp what) leaf ≡ true → IsFree (own s) (wanted_name what) → has_node s.known from ≡ false
    → Turns from (seat s) (letter.Lease number what) (orders.granted s from number (wanted_name what) leaf)
granting s from number what None e f free u = cc
granting s from number what (Some leaf) e f free u = turns _ (gives number what leaf e free f u) refl refl refl

answering : (s : BrickState) (from : NodeNo) (number : ℕ) (what : Wanted) (r : Option Refusal)
    → lease_refusal s (wanted_name what) (wanted_stamp what) ≡ r → has_node s.known from ≡ false
    → Turns from (seat s) (letter.Lease number what) (orders.lease_answered s from number (wanted_name what) r)
answering s from number what None e u =
    granting s from number what (get s.leaves (wanted_name what)) refl (found-leaf s (wanted_name what) (wanted_stamp what) e)
    (free-lease s (wanted_name what) (wanted_stamp what) e) u
answering s from number what (Some why) e u = turns _ (denies number what why) refl refl refl

lease_row : (s : BrickState) (from : NodeNo) (number : ℕ) (what : Wanted) → has_node s.known from ≡ false
    → Turns from (seat s) (letter.Lease number what) (orders.lease_row s from number what)
lease_row s from number (wanted.Name name) u = answering s from number (wanted.Name name) (lease_refusal s name None) refl u
lease_row s from number (wanted.Leaf leaf) u =
    let t = takes.take s leaf in
    let known : has_node t.known from ≡ false = ap (λ k. has_node k from) (take-known s leaf (own_leaf s.leaves leaf.name)) ∙ u in
    taken-then _ (rows.take s leaf) (rows.take-order s leaf) (answering t from number (wanted.Leaf leaf)
    (lease_refusal t leaf.name (Some leaf.stamp)) refl known)

copy_ask_row : (s : BrickState) (from : NodeNo) (number : ℕ) (name : Name) (place : Option ℕ)
    → Turns from (seat s) (letter.CopyAsk number name place) (orders.copy_ask_row s from number name place)
copy_ask_row s from number name place =
    turns-when (lease.is_given s.locks.leases name from && is_some (get s.leaves name))
    (λ e. let p = and_parts (lease.is_given s.locks.leases name from) (is_some (get s.leaves name)) e in
    turns _ (sends_part number name place _ _ p.0 p.1) refl refl refl)
    (λ e. turns _ (sends_none number name place e) refl refl refl)

false-is : (c : Bool) → c ≡ false → c ≡ true → ⊥
false-is c e f = let no : true ≡ false = sym f ∙ e in cc

pub same-leaf : (q : Option Leaf) (a b : Leaf) → q ≡ Some a → q ≡ Some b → a ≡ b
same-leaf q a b e f = let no : Some a ≡ Some b = sym e ∙ f in cc

installing : (s : BrickState) (from : NodeNo) (number : ℕ) (leaf : Leaf) (mine : Option Leaf) → own_leaf s.leaves leaf.name ≡ mine
    → is_some (lease_of s.locks.leases leaf.name from) ≡ true → has leaf.list s.number ≡ true
    → Turns from (seat s) (letter.Install number leaf) (orders.installed_over s from number leaf mine)
installing s from number leaf None there e f =
    turns _ (installs_not number leaf (λ m may. let no : Some m ≡ None = sym may.there ∙ there in cc)) refl refl refl
installing s from number leaf (Some mine) there e f =
    turns-when (is_some (successor mine leaf))
    (λ g. turns _ (installs number leaf mine (record { there = there; leased = e; lists = f; comes = g })) refl refl refl)
    (λ g. turns _ (installs_not number leaf (λ m may.
    let is : m ≡ mine = same-leaf (own_leaf s.leaves leaf.name) m mine may.there there in
    false-is (is_some (successor mine leaf)) g (subst (λ (k : Leaf). is_some (successor k leaf) ≡ true) is may.comes))) refl refl refl)

not-both : (a b : Bool) → (a && b) ≡ false → a ≡ true → b ≡ true → ⊥
not-both true true h e f = cc
not-both true false h e f = cc
not-both false b h e f = cc

install_row : (s : BrickState) (from : NodeNo) (number : ℕ) (leaf : Leaf)
    → Turns from (seat s) (letter.Install number leaf) (orders.install_row s from number leaf)
install_row s from number leaf =
    turns-when (is_some (lease_of s.locks.leases leaf.name from) && has leaf.list s.number)
    (λ e. let p = and_parts (is_some (lease_of s.locks.leases leaf.name from)) (has leaf.list s.number) e in
    installing s from number leaf (own_leaf s.leaves leaf.name) refl p.0 p.1)
    (λ e. turns _ (installs_not number leaf (λ m may. not-both (is_some (lease_of s.locks.leases leaf.name from)) (has leaf.list s.number) e may.leased
    may.lists)) refl refl refl)

-- a letter to the open order
abbrev Owes : NodeNo → BrickState → Letter → (OpenOrder → Bool) → (BrickState → OpenOrder → BrickTurn) → ℕ → Type 0
Owes from s l test row number = (o : OpenOrder) → Finds (seat s) number test o → Turns from (seat s) l (row (record s { order = None }) o)

finding : (s : BrickState) (number : ℕ) (test : OpenOrder → Bool) (q : Option OpenOrder) (o : OpenOrder) → s.order ≡ q → q ≡ Some o
    → order.is_at number test q ≡ true → Finds (seat s) number test o
finding s number test None o e f h = cc
finding s number test (Some k) o e f h =
    let is : k ≡ o = cc in
    let p = and_parts (k.number == number) (test k) h in
    subst (Finds (seat s) number test) is (record { there = e; same = eqb-true k.number number p.0; passes = p.1 })

with-order : {from : NodeNo} {l : Letter} (s : BrickState) (number : ℕ) (test : OpenOrder → Bool) (row : BrickState → OpenOrder → BrickTurn)
    (q : Option OpenOrder) → s.order ≡ q → order.is_at number test q ≡ true → Owes from s l test row number → Turns from (seat s) l (order.with_order s row q)
with-order s number test row None e h f = cc
with-order s number test row (Some o) e h f = f o (finding s number test (Some o) o e refl h)

at-order : {from : NodeNo} {l : Letter} (s : BrickState) (number : ℕ) (test : OpenOrder → Bool) (row : BrickState → OpenOrder → BrickTurn)
    → Owes from s l test row number → (order.is_at number test s.order ≡ false → Turns from (seat s) l (still s))
    → Turns from (seat s) l (order.at_order s number test row)
at-order s number test row f g =
    turns-when (order.is_at number test s.order) (λ h. with-order s number test row s.order refl h f) g

granted_row : (s : BrickState) (from : NodeNo) (number : ℕ) (leaf : Leaf)
    → Turns from (seat s) (letter.Granted number leaf) (order.granted_row s from number leaf)
granted_row s from number leaf =
    at-order s number (order.takes_grant s.number leaf) (λ t o. order.grants t (order.with_grant o from) from leaf o.task)
    (λ o f. turns-on _ (grants number leaf o f) (own_rows.granting (record s { order = None }) (order.with_grant o from) from leaf o.task refl f.passes
    (has-last o.granted from)))
    (λ h. turns _ (grants_not number leaf h) refl refl refl)

lease_refused_row : (s : BrickState) (from : NodeNo) (number : ℕ) (why : Refusal)
    → Turns from (seat s) (letter.LeaseRefused number why) (order.lease_refused_row s from number why)
lease_refused_row s from number why =
    at-order s number (λ o. order.is_leasing o.phase) (λ t o. order.ends t o (answered.Refused (order.met_of why from)))
    (λ o f. turns _ (is_refused number why o f) refl refl (own_rows.ended-seat (record s { order = None }) o (answered.Refused (order.met_of why from))))
    (λ h. turns _ (refused_not number why h) refl refl refl)

pub source-is : (from : NodeNo) (p : OrderPhase) → order.is_source from p ≡ true → p ≡ Copying from
source-is from Leasing h = cc
source-is from (Copying source) h = ap Copying (sym (eqb-true from source h))
source-is from (Installing made) h = cc

copy_part_row : (s : BrickState) (from : NodeNo) (number : ℕ) (last : Bool) (pairs : List Pair)
    → Turns from (seat s) (letter.CopyPart number last pairs) (order.copy_part_row s from number last pairs)
copy_part_row s from number last pairs =
    at-order s number (λ o. order.is_source from o.phase && order.fits o pairs)
    (λ t o. order.copied_on t (record o { copied = o.copied ++ pairs }) from last)
    (λ o f. turns-on _ (copies number last pairs o f)
    (own_rows.copied_on (record s { order = None }) (record o { copied = o.copied ++ pairs }) from last
    (source-is from o.phase (and_parts (order.is_source from o.phase) (order.fits o pairs) f.passes).0)))
    (λ h. turns _ (copies_not number last pairs h) refl refl refl)

installed_in : (s : BrickState) (o : OpenOrder) (phase : OrderPhase) → o.phase ≡ phase → order.is_installing phase ≡ true
    → Goes (holding s o) (order.installed_in s o phase)
installed_in s o Leasing e h = cc
installed_in s o (Copying source) e h = cc
installed_in s o (Installing made) e h = own_rows.installs_on s o made e

installed_row : (s : BrickState) (from : NodeNo) (number : ℕ) (name : Name)
    → Turns from (seat s) (letter.Installed number name) (order.installed_row s from number)
installed_row s from number name =
    at-order s number (λ o. order.is_installing o.phase) (λ t o. order.installed_in t (record o { waiting = without o.waiting from }) o.phase)
    (λ o f. turns-on _ (is_installed number name o f)
    (installed_in (record s { order = None }) (record o { waiting = without o.waiting from }) o.phase refl f.passes))
    (λ h. turns _ (installed_not number name h) refl refl refl)

-- a notice
copied-known : (s : BrickState) (y n : NodeNo) (o : OpenOrder) → o.phase ≡ Copying n → has_node s.known y ≡ true → notices.concerns y o ≡ true
    → has_node s.known n ≡ true
copied-known s y n o e k c =
    let same : (n == y) ≡ true = sym (ap (notices.concerns_in o y) e) ∙ c in ap (has_node s.known) (eqb-true n y same) ∙ k

with-some : (s : BrickState) (y : NodeNo) (q : Option OpenOrder) → s.order ≡ q → has_node s.known y ≡ true → notices.concerns_some y q ≡ true
    → Goes (seat s) (order.with_order s (λ t o. notices.order_goes t o y o.phase) q)
with-some s y None e k c = plain _ refl tt
with-some s y (Some o) e k c =
    goes _ (subst (λ x. Trip nothing_owed x (notices.order_goes (record s { order = None }) o y o.phase).out.letters nothing_owed
    (seat (notices.order_goes (record s { order = None }) o y o.phase).state)) (sym (ap (λ q. record (seat s) { own = record (own s) { order = q } }) e))
    (own_rows.order_goes (record s { order = None }) o y o.phase refl k (λ n f. copied-known s y n o f k c)).trip)

pub order_part : (s : BrickState) (y : NodeNo) → has_node s.known y ≡ true → Goes (seat s) (notices.order_part s y)
order_part s y k = goes-when (notices.concerns_some y s.order) (λ c. with-some s y s.order refl k c) (λ c. plain _ refl tt)

notice_row : (s : BrickState) (y : NodeNo) → y < 80 → (y ≡ s.number → ⊥) → Turns y (seat s) letter.Notice (notices.notice_row s y)
notice_row s y below ne =
    let a = notices.learns s y in
    let known : has_node a.known y ≡ true = has-with s.known y y below ∙ ap (λ c. c || has_node s.known y) (eq-eqb y y refl) in
    let b = (notices.order_part a y).state in
    let c = (notices.resolving_part b y).state in
    let d = (notices.deferred_part c).state in
    turns-on _ (learns below ne) (goes-then _ (λ t. notices.pending_part t y) (goes-then _ notices.deferred_part
    (goes-then _ (λ t. notices.resolving_part t y) (order_part a y known) (rows.all_hear b y news.Stopped)) (rows.deferred_part c)) (rows.pending_part d y))

-- each letter at a live brick. The sender isn't known to have stopped, and the letter is no notice of the brick itself
pub letter-turns : (s : BrickState) (from : NodeNo) (l : Letter) → IsOfAnother s from l → Turns from (seat s) l (live_brick_turn s from l)
letter-turns s from (letter.Get txn caller call key name stamp) h = turns-on _ (hears_other _ refl) (rows.get_row s from txn key name stamp)
letter-turns s from (letter.Prepare txn caller call below name stamp list op) h =
    turns-on _ (hears_other _ refl) (rows.prepare_row s from (record { txn = txn; caller = caller; call = call; op = op; list = list }) below name stamp)
letter-turns s from (letter.Commit txn) h = turns-on _ (hears_other _ refl) (rows.commit_row s from txn)
letter-turns s from (letter.Abort txn) h = turns-on _ (hears_other _ refl) (rows.abort_row s from txn)
letter-turns s from (letter.Push leaf) h =
    turns-on _ (hears_other _ refl) (after (takes.push_row s leaf) (rows.take s leaf) (plain (takes.push_row s leaf) refl tt))
letter-turns s from (letter.MapAsk txn caller call key) h = turns-on _ (hears_other _ refl) (plain _ refl (refl, tt))
letter-turns s from (letter.Help txn list) h = turns-on _ (hears_other _ refl) (rows.help_row s from txn list)
letter-turns s from (letter.Query txn list) h = turns-on _ (hears_other _ refl) (rows.query_row s from txn list)
letter-turns s from (letter.Status txn status) h = turns-on _ (hears_other _ refl) (rows.all_hear s from (news.Told txn status))
letter-turns s from (letter.Outcome txn commit) h = turns-on _ (hears_other _ refl) (rows.outcome_row s txn commit)
letter-turns s from (letter.Lease number what) h = lease_row s from number what h.unknown
letter-turns s from (letter.Granted number leaf) h = granted_row s from number leaf
letter-turns s from (letter.LeaseRefused number why) h = lease_refused_row s from number why
letter-turns s from (letter.Release number name) h = turns _ (releases number name) refl refl refl
letter-turns s from (letter.CopyAsk number name place) h = copy_ask_row s from number name place
letter-turns s from (letter.CopyPart number last pairs) h = copy_part_row s from number last pairs
letter-turns s from (letter.Install number leaf) h = install_row s from number leaf
letter-turns s from (letter.Installed number name) h = installed_row s from number name
letter-turns s from letter.Notice h = notice_row s from h.below (h.other refl)
letter-turns s from (letter.Got txn a) h = turns _ (hears_other _ refl) refl refl refl
letter-turns s from (letter.Vote txn vote) h = turns _ (hears_other _ refl) refl refl refl
letter-turns s from (letter.Applied txn was) h = turns _ (hears_other _ refl) refl refl refl
letter-turns s from (letter.Aborted txn) h = turns _ (hears_other _ refl) refl refl refl
letter-turns s from (letter.MapTell txn leaf) h = turns _ (hears_other _ refl) refl refl refl

pub order-goes : (s : BrickState) (o : Order) → GoesFrom told_order (seat s) (brick_input s o)
order-goes s (the_order.Join brick name via) = own_rows.join_order s name via
order-goes s (the_order.Split brick name) = own_rows.split_order s name
