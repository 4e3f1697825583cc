use Rattle.std.proofs.Common.{◌≡◌, ℕ, ◌<◌, ◌==◌, ◌&&◌, ◌||◌, Bool, true, false, Option, Some, None, [], refl, ap, ◌∙◌}
use Rattle.std.proofs.lemmas.Bool.{eq-eqb}
use Rattle.std.specs.FinMap.{get, keys}
use Rattle.std.specs.List.{list_any}
use Rattle.std.specs.Prelude.{is_some, if◌then◌else◌}
use Rattle.dds_base.specs.BrickList.{has}
use Rattle.dds_base.specs.Name.{Name, overlaps}
use Rattle.dds_base.specs.NodeSet.{has_node, with_node}
use Rattle.dds_base.specs.Number.{Txn}
use Rattle.dds_base.specs.declared.leaf.Leaf.{Leaf}
use Rattle.dds_base.specs.declared.node_set.NodeSet.{NodeSet}
use Rattle.dds_base.specs.declared.number.NodeNo.{NodeNo}
use Rattle.dds_base.specs.declared.op.Order.{Order}
use Rattle.dds_base.specs.declared.op.Order.TheVariants as the_order
use Rattle.dds_base.specs.declared.pending.Pending.{Pending}
use Rattle.dds_brick_rows.specs.Calls as calls
use Rattle.dds_brick_rows.specs.Refusal.{get_refusal, lease_refusal, update_denial}
use Rattle.dds_brick_rows.specs.Take as takes
use Rattle.dds_brick_rows.specs.declared.resolution.News.TheVariants as news
use Rattle.dds_core.proofs.Known.{has-with}
use Rattle.dds_core.specs.Brick.{brick_input, live_brick_turn}
use Rattle.dds_core.specs.Notice as notices
use Rattle.dds_groups.specs.Leaves.{successor}
use Rattle.dds_groups.specs.Take.{may_take}
use Rattle.dds_law_leaf.proofs.Book.{InLetter, InMap, InOrder, Leafing, leafing}
use Rattle.dds_law_leaf.proofs.Plain as plain
use Rattle.dds_law_leaf.proofs.Turns.{Plain}
use Rattle.dds_law_notice.proofs.Views as views
use Rattle.dds_law_own.proofs.LetterWays.{IsOfAnother}
use Rattle.dds_letters.specs.declared.letter.Letter.{Letter}
use Rattle.dds_letters.specs.declared.letter.Letter.TheVariants as letter
use Rattle.dds_letters.specs.declared.refusal.Denial.{Denial}
use Rattle.dds_letters.specs.declared.refusal.Refusal.{Refusal}
use Rattle.dds_letters.specs.declared.refusal.Wanted.{Wanted}
use Rattle.dds_letters.specs.declared.refusal.Wanted.TheVariants as wanted
use Rattle.dds_locks.specs.Leases.{is_given, lease_of}
use Rattle.dds_maps.specs.Own.{own_leaf}
use Rattle.dds_net.specs.Net.{a_brick}
use Rattle.dds_order_rows.specs.Orders as orders
use Rattle.dds_orders.proofs.Asked.{Orderly, heard-asked}
use Rattle.dds_orders.proofs.Deeds.{seat}
use Rattle.dds_orders.proofs.Turns.{learns}
use Rattle.dds_states.specs.Turn.{BrickTurn}
use Rattle.dds_states.specs.declared.brick_state.BrickState.{BrickState}
use Rattle.dds_parents.proofs.Makes.{Makes, MakesFrom, makes-as, makes-when, no_leaf}
use Rattle.dds_parents.proofs.OwnOrders as own

-- The leaf that a brick makes at a letter, or where it is told an order.

-- whom a brick knows after a letter
abbrev pub known_after : BrickState → NodeNo → Letter → NodeSet
known_after s from l = (views.learns from l (views.view (a_brick s))).known

-- rows that make none
got-made : (s : BrickState) (from : NodeNo) (txn : Txn) (key : ℕ) (r : Option Refusal) → (calls.got s from txn key r).state.made ≡ s.made
got-made s from txn key None = refl
got-made s from txn key (Some why) = refl

voted-made : (s : BrickState) (from : NodeNo) (p : Pending) (d : Option Denial) → (calls.voted s from p d).state.made ≡ s.made
voted-made s from p None = refl
voted-made s from p (Some d) = refl

made-if : (c : Bool) (s u : BrickState) → u.made ≡ s.made → (if c then u else s).made ≡ s.made
made-if true s u e = e
made-if false s u e = refl

took-made : (s : BrickState) (leaf : Leaf) (mine : Option Leaf) → (takes.take_over s leaf mine).made ≡ s.made
took-made s leaf None = refl
took-made s leaf (Some mine) =
    made-if (may_take s.number mine leaf (has_node s.known) (takes.is_free s mine.name)) s (record s { leaves = takes.replaced s.leaves mine leaf }) refl

granted-made : (s : BrickState) (from : NodeNo) (number : ℕ) (name : Name) (leaf : Option Leaf) → (orders.granted s from number name leaf).state.made ≡ s.made
granted-made s from number name None = refl
granted-made s from number name (Some leaf) = refl

answered-made : (s : BrickState) (from : NodeNo) (number : ℕ) (name : Name) (r : Option Refusal)
    → (orders.lease_answered s from number name r).state.made ≡ s.made
answered-made s from number name None = granted-made s from number name (get s.leaves name)
answered-made s from number name (Some why) = refl

lease-made : (s : BrickState) (from : NodeNo) (number : ℕ) (what : Wanted) → (orders.lease_row s from number what).state.made ≡ s.made
lease-made s from number (wanted.Name name) = answered-made s from number name (lease_refusal s name None)
lease-made s from number (wanted.Leaf leaf) =
    let t = takes.take s leaf in
    answered-made t from number leaf.name (lease_refusal t leaf.name (Some leaf.stamp)) ∙ took-made s leaf (own_leaf s.leaves leaf.name)

module _ (Old : Leaf → Type 0) (me : ℕ) where
  plain-makes : (s : BrickState) (t : BrickTurn) → Plain (leafing s) t → MakesFrom Old s t
  plain-makes s t p = no_leaf (ap (λ (x : Leafing). x.made) p.same)

  installed_over : (s : BrickState) (from : NodeNo) (number : ℕ) (leaf : Leaf) (mine : Option Leaf)
      → MakesFrom Old s (orders.installed_over s from number leaf mine)
  installed_over s from number leaf None = no_leaf refl
  installed_over s from number leaf (Some mine) = makes-when Old s (is_some (successor mine leaf)) (λ e. no_leaf refl) (λ e. no_leaf refl)

  -- a notice: the parts behind the order's have nothing to do with leaves
  notice_row : (s : BrickState) (y : NodeNo) → y < 80 → (y ≡ s.number → ⊥) → InOrder Old s.order → Orderly me (seat s)
      → Makes Old (with_node s.known y) s.number s.made (notices.notice_row s y)
  notice_row s y below ne first h =
      let a = notices.learns s y in
      let known : has_node a.known y ≡ true = has-with s.known y y below ∙ ap (λ c. c || has_node s.known y) (eq-eqb y y refl) in
      let b = (notices.order_part a y).state in
      let c = (notices.resolving_part b y).state in
      let d = (notices.deferred_part c).state in
      let same : leafing (notices.pending_part d y).state ≡ leafing b =
      (plain.pending_part d y).same ∙ (plain.deferred_part c).same ∙ (plain.all_hear b y news.Stopped).same in
      makes-as Old (with_node s.known y) s.number s.made (notices.order_part a y) (notices.notice_row s y) same
      (own.order_part Old me a y known first (heard-asked me y letter.Notice (seat s) _ [] (learns below ne) h))

  pub letter-makes : (s : BrickState) (from : NodeNo) (l : Letter) → IsOfAnother s from l → InOrder Old s.order → InLetter Old l → Orderly me (seat s)
      → Makes Old (known_after s from l) s.number s.made (live_brick_turn s from l)
  letter-makes s from (letter.Get txn caller call key name stamp) a first k h = no_leaf (got-made s from txn key (get_refusal s key name stamp))
  letter-makes s from (letter.Prepare txn caller call below name stamp list op) a first k h =
      no_leaf (voted-made (calls.trim s txn.library below) from (record { txn = txn; caller = caller; call = call; op = op; list = list })
      (update_denial s op name stamp))
  letter-makes s from (letter.Commit txn) a first k h = plain-makes s _ (plain.commit_row s from txn)
  letter-makes s from (letter.Abort txn) a first k h = plain-makes s _ (plain.abort_row s from txn)
  letter-makes s from (letter.Push leaf) a first k h = no_leaf (took-made s leaf (own_leaf s.leaves leaf.name))
  letter-makes s from (letter.Help txn list) a first k h = plain-makes s _ (plain.help_row s from txn list)
  letter-makes s from (letter.Query txn list) a first k h = plain-makes s _ (plain.query_row s from txn list)
  letter-makes s from (letter.Status txn status) a first k h = plain-makes s _ (plain.all_hear s from (news.Told txn status))
  letter-makes s from (letter.Outcome txn commit) a first k h = plain-makes s _ (plain.outcome_row s txn commit)
  letter-makes s from (letter.Lease number what) a first k h = no_leaf (lease-made s from number what)
  letter-makes s from (letter.Granted number leaf) a first k h = own.granted_row Old me s from number leaf first k h
  letter-makes s from (letter.LeaseRefused number why) a first k h = own.lease_refused_row Old me s from number why
  letter-makes s from (letter.CopyAsk number name place) a first k h =
      makes-when Old s (is_given s.locks.leases name from && is_some (get s.leaves name)) (λ e. no_leaf refl) (λ e. no_leaf refl)
  letter-makes s from (letter.CopyPart number last pairs) a first k h = own.copy_part_row Old me s from number last pairs first h
  letter-makes s from (letter.Install number leaf) a first k h =
      makes-when Old s (is_some (lease_of s.locks.leases leaf.name from) && has leaf.list s.number)
      (λ e. installed_over s from number leaf (own_leaf s.leaves leaf.name)) (λ e. no_leaf refl)
  letter-makes s from (letter.Installed number name) a first k h = own.installed_row Old me s from number
  letter-makes s from letter.Notice a first k h = notice_row s from a.below (a.other refl) first h
  letter-makes s from other a first k h = no_leaf refl

  pub order-makes : (s : BrickState) (o : Order) → InMap Old s.leaves → Orderly me (seat s) → MakesFrom Old s (brick_input s o)
  order-makes s (the_order.Join brick name via) old h =
      makes-when Old s s.stopped (λ e. no_leaf refl) (λ e. makes-when Old s (is_some s.order) (λ f. no_leaf refl)
      (λ f. makes-when Old s (list_any (λ other. overlaps other name) (keys s.leaves)) (λ g. no_leaf refl)
      (λ g. makes-when Old s (via == s.number || has_node s.known via) (λ i. no_leaf refl) (λ i. no_leaf refl))))
  order-makes s (the_order.Split brick name) old h = own.split_order Old me s name old h
