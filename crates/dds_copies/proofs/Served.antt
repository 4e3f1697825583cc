use Rattle.std.proofs.Common.{◌≡◌, ℕ, ◌+◌, ◌&&◌, ◌==◌, ◌++◌, inl, inr, Bool, true, false, not, Option, Some, None, is_some, List, []}
use Rattle.std.proofs.Common.{◌∷◌, refl, sym, ap, ◌∙◌, subst}
use Rattle.std.proofs.lemmas.Bool.{and_parts, both_ways, eqb-true}
use Rattle.std.specs.FinMap.{get}
use Rattle.std.specs.Prelude.{if◌then◌else◌}
use Rattle.dds_base.specs.BrickList.{has}
use Rattle.dds_base.specs.Name.{covers}
use Rattle.dds_base.specs.declared.leaf.Leaf.{Leaf}
use Rattle.dds_base.specs.declared.number.NodeNo.{NodeNo}
use Rattle.dds_base.specs.declared.op.OrderReply.{OrderReply}
use Rattle.dds_base.specs.declared.op.OrderReply.TheVariants as answered
use Rattle.dds_base.specs.declared.pair.Pair.{Pair}
use Rattle.dds_brick_rows.specs.Refusal.{is_join}
use Rattle.dds_cluster.specs.declared.trace.Made.{Made}
use Rattle.dds_core.specs.Brick.{live_brick_turn}
use Rattle.dds_core.specs.Notice as notices
use Rattle.dds_history.specs.Map.{Map}
use Rattle.dds_law_leaf.proofs.Book.{InMap}
use Rattle.dds_law_own.proofs.Disjoint.{has-put}
use Rattle.dds_law_own.proofs.Lists.{each-is}
use Rattle.dds_law_own.proofs.Owned.{IsOrderly, made_name}
use Rattle.dds_letters.specs.declared.letter.Letter.{Letter}
use Rattle.dds_letters.specs.declared.letter.Letter.TheVariants as letter
use Rattle.dds_order_rows.specs.Orders as orders
use Rattle.dds_order_rows.specs.Orders.{pairs_after}
use Rattle.dds_order_rows.specs.OwnOrder as order
use Rattle.dds_order_rows.specs.OwnOrder.{bound}
use Rattle.dds_orders.proofs.Turns.{source-is}
use Rattle.dds_pairs.proofs.Grows.{cover-of, over-of}
use Rattle.dds_pairs.proofs.NameTurns.{Keyed}
use Rattle.dds_pairs.proofs.Names.{IsFit}
use Rattle.dds_share.proofs.JoinTurns.{grants, letter-goes}
use Rattle.dds_share.proofs.Joins.{JoinGoes, at_once, begins, ended, goes_on, installed, leases}
use Rattle.dds_share.proofs.Joins.{copies as copies_more}
use Rattle.dds_states.specs.Leaf.{leaf_for}
use Rattle.dds_states.specs.Turn.{BrickTurn, is_none_left, still, without}
use Rattle.dds_states.specs.declared.brick_state.BrickState.{BrickState}
use Rattle.dds_states.specs.declared.brick_state.OpenOrder.{OpenOrder}
use Rattle.dds_states.specs.declared.brick_state.OrderPhase.{OrderPhase}
use Rattle.dds_states.specs.declared.brick_state.OrderPhase.TheVariants.{Copying, Installing, Leasing}
use Rattle.dds_states.specs.declared.brick_state.Task.{Task}
use Rattle.dds_states.specs.declared.brick_state.Task.TheVariants.{Join, Split}
use Rattle.dds_trie.specs.Trie.{LeafMap, put}
use Rattle.dds_values.specs.Below.{ComesHeld}
use Rattle.dds_values.specs.Values.{table}
use Rattle.dds_world.specs.Groups as world
use Rattle.dds_world.specs.Values.{AreCopied}
use Rattle.dds_copies.proofs.Finishes.{finish-holds}
use Rattle.dds_copies.proofs.Parts.{all-copied, with_part}
use Rattle.dds_copies.specs.Copies.{TellsNext}

-- Where a brick's own join goes on, the brick's leaves stay, or it serves the leaf that the join made, with all of the table's pairs under
-- the join's name.

pub data Serves (table : Map) (m : LeafMap) (pairs : Map) (p : OpenOrder) (u : BrickState) : Type 0 where
  stays : u.leaves ≡ m → Serves table m pairs p u
  serves :
      (made : Leaf) (copied : List Pair) → made.name ≡ p.name → copied ≡ pairs_after table p.name None → u.leaves ≡ put m made
      → u.pairs ≡ bound pairs copied → Serves table m pairs p u

-- the rows, of the join at a later moment
module _ (table : Map) (p : OpenOrder) where
  abbrev At : BrickState → BrickTurn → Type 0
  At s t = Serves table s.leaves s.pairs p t.state

  at-if : (s : BrickState) (c : Bool) (t u : BrickTurn) → At s t → At s u → At s (if c then t else u)
  at-if s true t u h g = h
  at-if s false t u h g = g

  -- the order at that moment has the join's name, and is a join
  record Is (o : OpenOrder) : Type 0 where
    name : o.name ≡ p.name
    join : is_join o.task ≡ true

  -- a leaf of that name; and where it installs, the made leaf is of that name, and all was copied
  abbrev Named : Option Leaf → Type 0
  Named q = (leaf : Leaf) → q ≡ Some leaf → leaf.name ≡ p.name

  abbrev HasAll : OpenOrder → OrderPhase → Type 0
  HasAll o phase = (made : Leaf) → phase ≡ Installing made → (made.name ≡ p.name) × (o.copied ≡ pairs_after table p.name None)

  finish-of : (s : BrickState) (o : OpenOrder) (made : Leaf) (t : Task) (c : Bool) → is_join t ≡ true → made.name ≡ p.name
      → o.copied ≡ pairs_after table p.name None
      → Serves table s.leaves s.pairs p
      (record (if c then order.serving s o made t else orders.releasing (order.serving s o made t) o.name (order.serving s o made t).number) { order = None })
  finish-of s o made (Join via) true e name all = serves made o.copied name all refl refl
  finish-of s o made (Join via) false e name all = serves made o.copied name all refl refl
  finish-of s o made Split c e name all = cc

  finishes : (s : BrickState) (o : OpenOrder) (made : Leaf) → Is o → made.name ≡ p.name → o.copied ≡ pairs_after table p.name None
      → At s (order.finishes s o made)
  finishes s o made is name all = finish-of s o made o.task (is_join o.task) is.join name all

  installs_on : (s : BrickState) (o : OpenOrder) (made : Leaf) → Is o → made.name ≡ p.name → o.copied ≡ pairs_after table p.name None
      → At s (order.installs_on s o made)
  installs_on s o made is name all =
      at-if s (is_none_left o.waiting) (order.finishes s o made) (still (order.going_on s o)) (finishes s o made is name all) (stays refl)

  made-name : (s : BrickState) (o : OpenOrder) (leaf : Leaf) (t : Task) → is_join t ≡ true → (order.made_leaf s o leaf t).name ≡ leaf.name
  made-name s o leaf (Join via) e = refl
  made-name s o leaf Split e = cc

  installs_from : (s : BrickState) (count : ℕ) (o : OpenOrder) (made : Leaf) (nodes : List NodeNo) → Is o → made.name ≡ p.name
      → o.copied ≡ pairs_after table p.name None → At s (order.installs_from (record s { made = count }) o made nodes)
  installs_from s count o made [] is name all = finishes (record s { made = count }) o made is name all
  installs_from s count o made (n ∷ ns) is name all = stays refl

  copied_all : (s : BrickState) (o : OpenOrder) (leaf : Option Leaf) → Is o → Named leaf → o.copied ≡ pairs_after table p.name None
      → At s (order.copied_all s o leaf)
  copied_all s o None is name all = stays refl
  copied_all s o (Some leaf) is name all =
      installs_from s (s.made + 1) o (order.made_leaf s o leaf o.task) (without (order.parting s o leaf) s.number) is
      (made-name s o leaf o.task is.join ∙ name leaf refl) all

  copied_on : (s : BrickState) (o : OpenOrder) (source : NodeNo) (last : Bool) → Is o → Named o.leaf
      → (last ≡ true → o.copied ≡ pairs_after table p.name None) → At s (order.copied_on s o source last)
  copied_on s o source true is name all = copied_all s o o.leaf is name (all refl)
  copied_on s o source false is name all = stays refl

  installed_in : (s : BrickState) (o : OpenOrder) (phase : OrderPhase) → Is o → HasAll o phase → At s (order.installed_in s o phase)
  installed_in s o Leasing is all = stays refl
  installed_in s o (Copying source) is all = stays refl
  installed_in s o (Installing made) is all = installs_on s o made is (all made refl).0 (all made refl).1

  -- a notice
  ends-of : (s : BrickState) (o : OpenOrder) (c : Bool) → (record (if c then s else orders.releasing s o.name s.number) { order = None }).leaves ≡ s.leaves
  ends-of s o true = refl
  ends-of s o false = refl

  ends : (s : BrickState) (o : OpenOrder) (reply : OrderReply) → At s (order.ends s o reply)
  ends s o reply = stays (ends-of s o (is_join o.task))

  copies_from : (s : BrickState) (o : OpenOrder) (nodes : List NodeNo) → At s (order.copies_from s o nodes)
  copies_from s o [] = ends s o answered.NoSource
  copies_from s o (n ∷ ns) = stays refl

  leased_all : (s : BrickState) (o : OpenOrder) (leaf : Leaf) (t : Task) → is_join t ≡ true → At s (order.leased_all s o leaf t)
  leased_all s o leaf (Join via) e = copies_from s o (order.sources s o leaf)
  leased_all s o leaf Split e = cc

  leased_all_at : (s : BrickState) (o : OpenOrder) (leaf : Option Leaf) → Is o → At s (order.leased_all_at s o leaf)
  leased_all_at s o None is = stays refl
  leased_all_at s o (Some leaf) is = leased_all s o leaf o.task is.join

  leases_on : (s : BrickState) (o : OpenOrder) → Is o → At s (order.leases_on s o)
  leases_on s o is =
      at-if s (is_none_left o.waiting) (order.leased_all_at s o o.leaf) (still (order.going_on s o)) (leased_all_at s o o.leaf is) (stays refl)

  copies_again : (s : BrickState) (o : OpenOrder) (leaf : Option Leaf) → At s (notices.copies_again s o leaf)
  copies_again s o None = stays refl
  copies_again s o (Some leaf) = copies_from s o (order.sources s o leaf)

  order_goes : (s : BrickState) (o : OpenOrder) (y : NodeNo) (phase : OrderPhase) → Is o → HasAll o phase → At s (notices.order_goes s o y phase)
  order_goes s o y Leasing is all =
      let q = record o { waiting = without o.waiting y } in
      at-if s (notices.is_lost o y o.task) (order.ends s o answered.NoSource) (order.leases_on s q) (ends s o answered.NoSource)
      (leases_on s q (record { name = is.name; join = is.join }))
  order_goes s o y (Copying source) is all = copies_again s o o.leaf
  order_goes s o y (Installing made) is all =
      installs_on s (record o { waiting = without o.waiting y }) made (record { name = is.name; join = is.join }) (all made refl).0 (all made refl).1

-- at a letter at which the join goes on: for a notice, where the order has gone on
abbrev pub ServesAt : Map → BrickState → OpenOrder → NodeNo → Letter → Type 0
ServesAt table s p from (letter.Granted number leaf) = Serves table s.leaves s.pairs p (live_brick_turn s from (letter.Granted number leaf)).state
ServesAt table s p from (letter.CopyPart number last pairs) =
    Serves table s.leaves s.pairs p (live_brick_turn s from (letter.CopyPart number last pairs)).state
ServesAt table s p from (letter.Installed number name) = Serves table s.leaves s.pairs p (live_brick_turn s from (letter.Installed number name)).state
ServesAt table s p from letter.Notice = Serves table s.leaves s.pairs p (notices.order_part (notices.learns s from) from).state
ServesAt table s p from other = Unit {0}

made-is : (name : _) (t : Task) → is_join t ≡ true → made_name name t ≡ name
made-is name (Join via) e = refl
made-is name Split e = cc

module _ (table : Map) (s : BrickState) (p : OpenOrder) (there : s.order ≡ Some p) (join : is_join p.task ≡ true) (me : ℕ) (orderly : IsOrderly me p)
    (copied : AreCopied table p p.phase) where
  abbrev Own : BrickTurn → Type 0
  Own t = Serves table s.leaves s.pairs p t.state

  itself : Is table p p
  itself = record { name = refl; join = join }

  its-leaf : Named table p p.leaf
  its-leaf leaf e = (each-is (λ (l : Leaf). (l.name ≡ p.name) × (has l.list me ≡ not (is_join p.task))) p.leaf leaf e orderly.leaf).0

  its-made : HasAll table p p p.phase
  its-made made e = (
    (each-is (λ (l : Leaf). (l.name ≡ made_name p.name p.task) × (has l.list me ≡ true)) (world.made_leaf p.phase) made (ap world.made_leaf e) orderly.made).0
        ∙ made-is p.name p.task join,
    subst (AreCopied table p) e copied,
  )

  same-order : {o : OpenOrder} → Some o ≡ Some p → o ≡ p
  same-order e = cc

  at-some : (number : ℕ) (test : OpenOrder → Bool) (row : BrickState → OpenOrder → BrickTurn) (q : Option OpenOrder) (c : Bool) → q ≡ Some p
      → order.is_at number test q ≡ c → (p.number ≡ number → test p ≡ true → Own (row (record s { order = None }) p))
      → Own (if c then order.with_order s row q else still s)
  at-some number test row q false e i f = stays refl
  at-some number test row None true e i f = cc
  at-some number test row (Some o) true e i f =
      let is = same-order e in
      let k = and_parts (o.number == number) (test o) i in
      subst (λ (x : OpenOrder). Own (row (record s { order = None }) x)) (sym is)
      (f (ap (λ (x : OpenOrder). x.number) (sym is) ∙ eqb-true o.number number k.0) (subst (λ (x : OpenOrder). test x ≡ true) is k.1))

  at-order : (number : ℕ) (test : OpenOrder → Bool) (row : BrickState → OpenOrder → BrickTurn)
      → (p.number ≡ number → test p ≡ true → Own (row (record s { order = None }) p)) → Own (order.at_order s number test row)
  at-order number test row f = at-some number test row s.order (order.is_at number test s.order) there refl f

  -- a grant ends no join
  granted : (from : NodeNo) (number : ℕ) (leaf : Leaf) → Own (live_brick_turn s from (letter.Granted number leaf))
  granted from number leaf = by (letter-goes s p there join from (letter.Granted number leaf) (grants number leaf))
    where
      by : JoinGoes s.number s.known s.leaves p from (letter.Granted number leaf) (live_brick_turn s from (letter.Granted number leaf))
          → Own (live_brick_turn s from (letter.Granted number leaf))
      by (leases o e same leasing leaves) = stays leaves
      by (goes_on o e same phase same_copied same_leaf leaves) = stays leaves
      by (begins o source e same empty phase fixed leaves) = stays leaves
      by (copies_more o e same phase part same_leaf leaves) = stays leaves
      by (ended e leaves) = stays leaves
      by (installed made phase none answer e leaves) = elim answer [ ]
      by (at_once made v o phase part fixed gave number_is known_is none e leaves) = elim part [ ]

  heard : (from : NodeNo) (number : ℕ) (last : Bool) (pairs : List Pair)
      → (p.phase ≡ Copying from → TellsNext table p (letter.CopyPart number last pairs))
      → Own (live_brick_turn s from (letter.CopyPart number last pairs))
  heard from number last pairs hears =
      at-order number (λ o. order.is_source from o.phase && order.fits o pairs)
      (λ t o. order.copied_on t (record o { copied = o.copied ++ pairs }) from last)
      (λ same e.
      let phase = source-is from p.phase (and_parts (order.is_source from p.phase) (order.fits p pairs) e).0 in
      copied_on table p (record s { order = None }) (with_part p pairs) from last (record { name = refl; join = join }) its-leaf
      (λ f. all-copied table p from pairs (subst (AreCopied table p) phase copied)
      (subst (λ b. TellsNext table p (letter.CopyPart number b pairs)) f (hears phase) (sym same))))

  installed-in : (from : NodeNo) (number : ℕ) (name : _) → Own (live_brick_turn s from (letter.Installed number name))
  installed-in from number name =
      at-order number (λ o. order.is_installing o.phase) (λ t o. order.installed_in t (record o { waiting = without o.waiting from }) o.phase)
      (λ same e.
      installed_in table p (record s { order = None }) (record p { waiting = without p.waiting from }) p.phase (record { name = refl; join = join }) its-made)

  noticed-if : (y : NodeNo) (q : Option OpenOrder) (c : Bool) → q ≡ Some p
      → Own (if c then order.with_order (notices.learns s y) (λ t o. notices.order_goes t o y o.phase) q else still (notices.learns s y))
  noticed-if y q false e = stays refl
  noticed-if y None true e = cc
  noticed-if y (Some o) true e =
      subst (λ (x : OpenOrder). Own (notices.order_goes (record (notices.learns s y) { order = None }) x y x.phase)) (sym (same-order e))
      (order_goes table p (record (notices.learns s y) { order = None }) p y p.phase itself its-made)

  pub own-serves : (from : NodeNo) (l : Letter) → (p.phase ≡ Copying from → TellsNext table p l) → ServesAt table s p from l
  own-serves from (letter.Granted number leaf) hears = granted from number leaf
  own-serves from (letter.CopyPart number last pairs) hears = heard from number last pairs hears
  own-serves from (letter.Installed number name) hears = installed-in from number name
  own-serves from letter.Notice hears = noticed-if from s.order (notices.concerns_some from s.order) there
  own-serves from other hears = tt

-- so the brick holds the table for the keys that it comes to cover
pub serves-held : (made : List Made) (s u : BrickState) (p : OpenOrder) → Keyed s.leaves → InMap IsFit s.leaves
    → ((key : ℕ) → covers p.name key ≡ true → get s.pairs key ≡ None) → Serves (table made) s.leaves s.pairs p u → ComesHeld made s u
serves-held made s u p keyed fit none (stays e) key now was =
    absurd (both_ways (is_some (leaf_for s.leaves key)) was (ap (λ m. is_some (leaf_for m key)) (sym e) ∙ now))
serves-held made s u p keyed fit none (serves leaf copied name all leaves pairs) key now was =
    let there = over-of (put s.leaves leaf) key (ap (λ m. is_some (leaf_for m key)) (sym leaves) ∙ now) in
    let under : covers p.name key ≡ true = elim (has-put s.leaves leaf there.name there.there) [
      | inl is ↦ subst (λ n. covers n key ≡ true) (is ∙ name) there.over
      | inr old ↦ absurd (both_ways (is_some (leaf_for s.leaves key)) was
          (cover-of s.leaves key keyed fit (record { name = there.name; there = old.0; over = there.over })))
    ] in
    ap (λ m. get m key) pairs ∙ finish-holds (table made) s (record p { copied = copied }) key all none under
