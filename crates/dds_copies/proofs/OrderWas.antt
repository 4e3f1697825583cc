use Rattle.std.proofs.Common.{◌≡◌, ℕ, ◌<◌, ◌==◌, ◌&&◌, ◌||◌, ◌++◌, Bool, true, false, Option, Some, None, List, [], ◌∷◌, refl, sym, ap, ◌∙◌, subst}
use Rattle.std.proofs.lemmas.Bool.{and_parts, both_ways, eq-eqb, eqb-true}
use Rattle.std.specs.List.{AllByRecursion}
use Rattle.std.specs.Prelude.{if◌then◌else◌}
use Rattle.dds_base.specs.BrickList.{has}
use Rattle.dds_base.specs.NodeSet.{has_node, with_node}
use Rattle.dds_base.specs.declared.leaf.Leaf.{Leaf}
use Rattle.dds_base.specs.declared.number.NodeNo.{NodeNo}
use Rattle.dds_base.specs.declared.op.OrderReply.TheVariants as answered
use Rattle.dds_brick_rows.specs.Refusal.{is_join}
use Rattle.dds_core.proofs.Known.{has-with}
use Rattle.dds_core.proofs.Lists.{all-filter}
use Rattle.dds_core.specs.Brick.{live_brick_turn}
use Rattle.dds_core.specs.Notice as notices
use Rattle.dds_groups.specs.Leaves.{live}
use Rattle.dds_law_leaf.proofs.Book.{Leafing}
use Rattle.dds_letters.specs.declared.letter.Letter.{Letter}
use Rattle.dds_letters.specs.declared.letter.Letter.TheVariants as letter
use Rattle.dds_order_rows.specs.OwnOrder as order
use Rattle.dds_orders.proofs.Counting.{not-none}
use Rattle.dds_orders.proofs.Numbers.{the-order}
use Rattle.dds_orders.proofs.Turns.{source-is}
use Rattle.dds_share.proofs.JoinTurns.{IsOfOrder, Rests, copies_on, grants, letter-goes, letter-rests, notice-same, of_order, refuses, rests, says_so, tells}
use Rattle.dds_share.proofs.Joins.{JoinGoes, Same, at_once, begins, ended, goes_on, installed, leases, same-order}
use Rattle.dds_share.proofs.Joins.{copies as copies_more}
use Rattle.dds_share.proofs.Tasks.{letter-stays}
use Rattle.dds_share.proofs.Together.{is_part}
use Rattle.dds_states.specs.Turn.{BrickTurn, still, without}
use Rattle.dds_states.specs.declared.brick_state.BrickState.{BrickState}
use Rattle.dds_states.specs.declared.brick_state.OpenOrder.{OpenOrder}
use Rattle.dds_states.specs.declared.brick_state.OrderPhase.{OrderPhase}
use Rattle.dds_states.specs.declared.brick_state.OrderPhase.TheVariants.{Copying}

-- A join that is open after a letter was open before it, with its number and name; and one that copies from the same member before and
-- after is as it was, or has heard a part of that member.

pub record WasJoin (s : BrickState) (o : OpenOrder) : Type 0 where
  pub before : OpenOrder
  pub there : s.order ≡ Some before
  pub join : is_join before.task ≡ true
  pub same : Same before o

module _ (s : BrickState) (from : NodeNo) (l : Letter) (o : OpenOrder) (open_after : (live_brick_turn s from l).state.order ≡ Some o)
    (join_after : is_join o.task ≡ true) where
  with-same : (p q : OpenOrder) → s.order ≡ Some p → is_join p.task ≡ true → (live_brick_turn s from l).state.order ≡ Some q → Same p q → WasJoin s o
  with-same p q there join e same =
      record { before = p; there = there; join = join; same = subst (Same p) (the-order q o (sym e ∙ open_after)) same }

  none-after : (live_brick_turn s from l).state.order ≡ None → WasJoin s o
  none-after e = absurd (not-none o (sym e ∙ open_after))

  goes-was : (p : OpenOrder) → s.order ≡ Some p → is_join p.task ≡ true → JoinGoes s.number s.known s.leaves p from l (live_brick_turn s from l) → WasJoin s o
  goes-was p there join (leases q e same leasing leaves) = with-same p q there join e same
  goes-was p there join (goes_on q e same phase same_copied same_leaf leaves) = with-same p q there join e same
  goes-was p there join (begins q source e same empty phase fixed leaves) = with-same p q there join e same
  goes-was p there join (copies_more q e same phase part same_leaf leaves) = with-same p q there join e same
  goes-was p there join (ended e leaves) = none-after e
  goes-was p there join (installed made phase none answer e leaves) = none-after e
  goes-was p there join (at_once made v q phase part fixed gave number_is known_is none e leaves) = none-after e

  no-join : ((p : OpenOrder) → s.order ≡ Some p → is_join p.task ≡ false) → WasJoin s o
  no-join k = absurd (both_ways (is_join o.task) ((letter-stays false s from l k).is o open_after) join_after)

  by-letter : (p : OpenOrder) → s.order ≡ Some p → is_join p.task ≡ true → Rests s l (live_brick_turn s from l) → WasJoin s o
  by-letter p there join (rests e take) = with-same p p there join (e ∙ there) (same-order p)
  by-letter p there join (of_order k) = goes-was p there join (letter-goes s p there join from l k)

  by-task : (p : OpenOrder) (c : Bool) → s.order ≡ Some p → is_join p.task ≡ c → WasJoin s o
  by-task p true there join = by-letter p there join (letter-rests s from l)
  by-task p false there join = no-join (λ q e. subst (λ (x : OpenOrder). is_join x.task ≡ false) (the-order p q (sym there ∙ e)) join)

  by-order : (q : Option OpenOrder) → s.order ≡ q → WasJoin s o
  by-order None e = no-join (λ p k. absurd (not-none p (sym e ∙ k)))
  by-order (Some p) e = by-task p (is_join p.task) e refl

  pub was-join : WasJoin s o
  was-join = by-order s.order refl

-- one that copies from the same member
pub data Stays (p : OpenOrder) (from source : NodeNo) (l : Letter) (o : OpenOrder) : Type 0 where
  as_it_was : o ≡ p → Stays p from source l o
  hears : from ≡ source → is_part p.number l ≡ true → Stays p from source l o

-- who is copied from anew isn't known to have stopped
unknown-if : (known : ℕ → Bool) (n : ℕ) (ns : List ℕ) (c : Bool) → known n ≡ c → AllByRecursion (λ m. known m ≡ false) ns
    → AllByRecursion (λ m. known m ≡ false) (if c then ns else n ∷ ns)
unknown-if known n ns true e h = h
unknown-if known n ns false e h = (e, h)

live-unknown : (list : List ℕ) (known : ℕ → Bool) → AllByRecursion (λ n. known n ≡ false) (live list known)
live-unknown [] known = tt
live-unknown (n ∷ ns) known = unknown-if known n (live ns known) (known n) refl (live-unknown ns known)

sources-unknown : (s : BrickState) (o : OpenOrder) (leaf : Leaf) → AllByRecursion (λ n. has_node s.known n ≡ false) (order.sources s o leaf)
sources-unknown s o leaf =
    all-filter (λ n. has_node s.known n ≡ false) (λ node. has o.granted node) (live leaf.list (has_node s.known)) (live-unknown leaf.list (has_node s.known))

copying-is : {a b : NodeNo} → Copying a ≡ Copying b → a ≡ b
copying-is e = cc

module _ (s : BrickState) (p o : OpenOrder) (from source : NodeNo) (there : s.order ≡ Some p) (phase : p.phase ≡ Copying source)
    (phase_after : o.phase ≡ Copying source) where
  abbrev After : Letter → BrickTurn → Type 0
  After l t = t.state.order ≡ Some o → Stays p from source l o

  rested : (l : Letter) (t : BrickTurn) → t.state.order ≡ Some p → After l t
  rested l t e f = as_it_was (the-order o p (sym f ∙ e))

  at-some : (l : Letter) (number : ℕ) (test : OpenOrder → Bool) (row : BrickState → OpenOrder → BrickTurn) (q : Option OpenOrder) (c : Bool) → q ≡ Some p
      → order.is_at number test q ≡ c → (p.number ≡ number → test p ≡ true → After l (row (record s { order = None }) p))
      → After l (if c then order.with_order s row q else still s)
  at-some l number test row q false e i f = rested l (still s) there
  at-some l number test row None true e i f = cc
  at-some l number test row (Some x) true e i f =
      let is = the-order x p e in
      let k = and_parts (x.number == number) (test x) i in
      subst (λ (y : OpenOrder). After l (row (record s { order = None }) y)) (sym is)
      (f (ap (λ (y : OpenOrder). y.number) (sym is) ∙ eqb-true x.number number k.0) (subst (λ (y : OpenOrder). test y ≡ true) is k.1))

  at-order : (l : Letter) (number : ℕ) (test : OpenOrder → Bool) (row : BrickState → OpenOrder → BrickTurn)
      → (p.number ≡ number → test p ≡ true → After l (row (record s { order = None }) p)) → After l (order.at_order s number test row)
  at-order l number test row f = at-some l number test row s.order (order.is_at number test s.order) there refl f

  not-copying : {X : Type 0} (c : Bool) → c ≡ true → c ≡ false → X
  not-copying c e f = absurd (both_ways c f e)

  -- it begins again with another member
  again-from : (l : Letter) (u : BrickState) (nodes : List NodeNo) → AllByRecursion (λ n. has_node u.known n ≡ false) nodes
      → has_node u.known source ≡ true → After l (order.copies_from u p nodes)
  again-from l u [] all known f = absurd (not-none o f)
  again-from l u (n ∷ ns) all known f =
      let is = copying-is (ap (λ (x : OpenOrder). x.phase) (the-order (record p { copied = []; phase = Copying n }) o f) ∙ phase_after) in
      absurd (both_ways (has_node u.known source) (subst (λ i. has_node u.known i ≡ false) is all.0) known)

  again : (l : Letter) (u : BrickState) (leaf : Option Leaf) → has_node u.known source ≡ true → After l (notices.copies_again u p leaf)
  again l u None known = rested l (still (order.going_on u p)) refl
  again l u (Some leaf) known = again-from l u (order.sources u p leaf) (sources-unknown u p leaf) known

  goes : (l : Letter) (u : BrickState) (phase_is : OrderPhase) → p.phase ≡ phase_is → (notices.concerns_in p from phase_is ≡ true) → from < 80
      → u.known ≡ with_node s.known from → After l (notices.order_goes u p from phase_is)
  goes l u phase_is e concerned low known =
      subst (λ q. notices.concerns_in p from q ≡ true → After l (notices.order_goes u p from q)) (sym phase ∙ e)
      (λ c. again l u p.leaf (ap (λ k. has_node k source) known ∙ has-with s.known from source low
      ∙ ap (λ b. b || has_node s.known source) c)) concerned

  noticed-if : (q : Option OpenOrder) (c : Bool) → q ≡ Some p → notices.concerns_some from q ≡ c → from < 80
      → After letter.Notice
      (if c then order.with_order (notices.learns s from) (λ t x. notices.order_goes t x from x.phase) q else still (notices.learns s from))
  noticed-if q false e i low = rested letter.Notice (still (notices.learns s from)) there
  noticed-if None true e i low = cc
  noticed-if (Some x) true e i low =
      let is = the-order x p e in
      subst (λ (y : OpenOrder). After letter.Notice (notices.order_goes (record (notices.learns s from) { order = None }) y from y.phase)) (sym is)
      (goes letter.Notice (record (notices.learns s from) { order = None }) p.phase refl
      (subst (λ (y : OpenOrder). notices.concerns_in y from y.phase ≡ true) is i) low refl)

  of-order : (l : Letter) → IsOfOrder l → from < 80 → After l (live_brick_turn s from l)
  of-order _ (grants number leaf) low =
      at-order (letter.Granted number leaf) number (order.takes_grant s.number leaf) (λ t x. order.grants t (order.with_grant x from) from leaf x.task)
      (λ e h. not-copying (order.is_leasing p.phase) (and_parts (order.is_leasing p.phase) _ h).0 (ap order.is_leasing phase))
  of-order _ (refuses number why) low =
      at-order (letter.LeaseRefused number why) number (λ x. order.is_leasing x.phase) (λ t x. order.ends t x (answered.Refused (order.met_of why from)))
      (λ e h. not-copying (order.is_leasing p.phase) h (ap order.is_leasing phase))
  of-order _ (copies_on number last pairs) low =
      at-order (letter.CopyPart number last pairs) number (λ x. order.is_source from x.phase && order.fits x pairs)
      (λ t x. order.copied_on t (record x { copied = x.copied ++ pairs }) from last)
      (λ e h f.
      let same = source-is from p.phase (and_parts (order.is_source from p.phase) (order.fits p pairs) h).0 in
      hears (copying-is (sym same ∙ phase)) (eq-eqb number p.number (sym e)))
  of-order _ (says_so number name) low =
      at-order (letter.Installed number name) number (λ x. order.is_installing x.phase)
      (λ t x. order.installed_in t (record x { waiting = without x.waiting from }) x.phase)
      (λ e h. not-copying (order.is_installing p.phase) h (ap order.is_installing phase))
  of-order _ tells low =
      λ f. noticed-if s.order (notices.concerns_some from s.order) there refl low (sym (ap (λ (x : Leafing). x.order) (notice-same s from)) ∙ f)

  by : (l : Letter) → Rests s l (live_brick_turn s from l) → from < 80 → After l (live_brick_turn s from l)
  by l (rests e take) low = rested l (live_brick_turn s from l) (e ∙ there)
  by l (of_order k) low = of-order l k low

  pub still-copies : (l : Letter) → from < 80 → (live_brick_turn s from l).state.order ≡ Some o → Stays p from source l o
  still-copies l low f = by l (letter-rests s from l) low f
