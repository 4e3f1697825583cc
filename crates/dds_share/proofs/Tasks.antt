use Rattle.std.proofs.Common.{◌≡◌, ℕ, ◌+◌, ◌&&◌, ◌++◌, Bool, true, false, Option, Some, None, List, [], ◌∷◌, refl, sym, ap, ◌∙◌}
use Rattle.std.specs.Prelude.{nat_le, length, if◌then◌else◌}
use Rattle.dds_base.specs.NodeSet.{has_node}
use Rattle.dds_base.specs.declared.brick_list.TheConstants.{MEMBERS}
use Rattle.dds_base.specs.declared.leaf.Leaf.{Leaf}
use Rattle.dds_base.specs.declared.number.NodeNo.{NodeNo}
use Rattle.dds_base.specs.declared.op.OrderReply.TheVariants as answered
use Rattle.dds_brick_rows.specs.Refusal.{is_join}
use Rattle.dds_core.specs.Brick.{live_brick_turn}
use Rattle.dds_core.specs.Notice as notices
use Rattle.dds_groups.specs.Leaves.{live}
use Rattle.dds_law_leaf.proofs.Book.{Leafing}
use Rattle.dds_letters.specs.declared.letter.Letter.{Letter}
use Rattle.dds_order_rows.specs.OwnOrder as order
use Rattle.dds_orders.proofs.Counting.{not-none}
use Rattle.dds_orders.proofs.Numbers.{the-order}
use Rattle.dds_states.specs.Turn.{BrickTurn, is_none_left, without}
use Rattle.dds_states.specs.declared.brick_state.BrickState.{BrickState}
use Rattle.dds_states.specs.declared.brick_state.OpenOrder.{OpenOrder}
use Rattle.dds_states.specs.declared.brick_state.OrderPhase.{OrderPhase}
use Rattle.dds_states.specs.declared.brick_state.OrderPhase.TheVariants.{Copying, Installing, Leasing}
use Rattle.dds_states.specs.declared.brick_state.Task.{Task}
use Rattle.dds_states.specs.declared.brick_state.Task.TheVariants.{Join, Split}
use Rattle.dds_share.proofs.JoinTurns.{IsOfOrder, Rests, copies_on, grants, letter-rests, notice-same, of_order, refuses, rests, says_so, tells}

-- No letter makes a join of what wasn't one: an order that is open after a letter is of the task of the one that was open before.

pub record Stays (c : Bool) (t : BrickTurn) : Type 0 where
  pub is : (o : OpenOrder) → t.state.order ≡ Some o → is_join o.task ≡ c

abbrev pub AllOf : Bool → Option OpenOrder → Type 0
AllOf c q = (o : OpenOrder) → q ≡ Some o → is_join o.task ≡ c

none-open : (c : Bool) (t : BrickTurn) → t.state.order ≡ None → Stays c t
none-open c t e = record { is = λ o f. absurd (not-none o (sym e ∙ f)) }

some-open : (c : Bool) (t : BrickTurn) (p : OpenOrder) → t.state.order ≡ Some p → is_join p.task ≡ c → Stays c t
some-open c t p e j =
    record { is = λ o f. sym (ap (λ (x : OpenOrder). is_join x.task) (the-order p o (sym e ∙ f))) ∙ j }

stays-if : (c b : Bool) {t u : BrickTurn} → Stays c t → Stays c u → Stays c (if b then t else u)
stays-if c true h k = h
stays-if c false h k = k

module _ (c : Bool) where
  installs_from : (s : BrickState) (o : OpenOrder) (made : Leaf) (nodes : List NodeNo) → is_join o.task ≡ c → Stays c (order.installs_from s o made nodes)
  installs_from s o made [] j = none-open c _ refl
  installs_from s o made (n ∷ ns) j = some-open c _ (record o { waiting = n ∷ ns; phase = Installing made }) refl j

  installs : (s : BrickState) (o : OpenOrder) (leaf : Leaf) → is_join o.task ≡ c → Stays c (order.installs s o leaf)
  installs s o leaf j =
      installs_from (record s { made = s.made + 1 }) o (order.made_leaf s o leaf o.task) (without (order.parting s o leaf) s.number) j

  copies_from : (s : BrickState) (o : OpenOrder) (nodes : List NodeNo) → is_join o.task ≡ c → Stays c (order.copies_from s o nodes)
  copies_from s o [] j = none-open c _ refl
  copies_from s o (n ∷ ns) j = some-open c _ (record o { copied = []; phase = Copying n }) refl j

  leased_all : (s : BrickState) (o : OpenOrder) (leaf : Leaf) (t : Task) → is_join o.task ≡ c → Stays c (order.leased_all s o leaf t)
  leased_all s o leaf (Join via) j = copies_from s o (order.sources s o leaf) j
  leased_all s o leaf Split j = installs s o leaf j

  leased_all_at : (s : BrickState) (o : OpenOrder) (leaf : Option Leaf) → is_join o.task ≡ c → Stays c (order.leased_all_at s o leaf)
  leased_all_at s o None j = some-open c _ o refl j
  leased_all_at s o (Some leaf) j = leased_all s o leaf o.task j

  leases_on : (s : BrickState) (o : OpenOrder) → is_join o.task ≡ c → Stays c (order.leases_on s o)
  leases_on s o j = stays-if c (is_none_left o.waiting) (leased_all_at s o o.leaf j) (some-open c _ o refl j)

  fixes : (s : BrickState) (o : OpenOrder) (from : NodeNo) (leaf : Leaf) → is_join o.task ≡ c → Stays c (order.fixes s o from leaf)
  fixes s o from leaf j =
      stays-if c (order.is_worn leaf) (none-open c _ refl) (stays-if c (nat_le MEMBERS (length (live leaf.list (has_node s.known)))) (none-open c _ refl)
      (record { is = (leases_on s (order.widened s o from leaf) j).is }))

  granted_join : (s : BrickState) (o : OpenOrder) (from : NodeNo) (leaf : Leaf) (q : Option Leaf) → is_join o.task ≡ c
      → Stays c (order.granted_join s o from leaf q)
  granted_join s o from leaf None j = fixes s o from leaf j
  granted_join s o from leaf (Some fixed) j = leases_on s o j

  granting : (s : BrickState) (o : OpenOrder) (from : NodeNo) (leaf : Leaf) (t : Task) → is_join o.task ≡ c → Stays c (order.grants s o from leaf t)
  granting s o from leaf (Join via) j = granted_join s o from leaf o.leaf j
  granting s o from leaf Split j = leases_on s o j

  copied_all : (s : BrickState) (o : OpenOrder) (leaf : Option Leaf) → is_join o.task ≡ c → Stays c (order.copied_all s o leaf)
  copied_all s o None j = some-open c _ o refl j
  copied_all s o (Some leaf) j = installs s o leaf j

  copied_on : (s : BrickState) (o : OpenOrder) (source : NodeNo) (last : Bool) → is_join o.task ≡ c → Stays c (order.copied_on s o source last)
  copied_on s o source true j = copied_all s o o.leaf j
  copied_on s o source false j = some-open c _ o refl j

  installs_on : (s : BrickState) (o : OpenOrder) (made : Leaf) → is_join o.task ≡ c → Stays c (order.installs_on s o made)
  installs_on s o made j = stays-if c (is_none_left o.waiting) (none-open c _ refl) (some-open c _ o refl j)

  installed_in : (s : BrickState) (o : OpenOrder) (phase : OrderPhase) → s.order ≡ None → is_join o.task ≡ c → Stays c (order.installed_in s o phase)
  installed_in s o Leasing e j = none-open c _ e
  installed_in s o (Copying source) e j = none-open c _ e
  installed_in s o (Installing made) e j = installs_on s o made j

  copies_again : (s : BrickState) (o : OpenOrder) (leaf : Option Leaf) → is_join o.task ≡ c → Stays c (notices.copies_again s o leaf)
  copies_again s o None j = some-open c _ o refl j
  copies_again s o (Some leaf) j = copies_from s o (order.sources s o leaf) j

  order_goes : (s : BrickState) (o : OpenOrder) (y : NodeNo) (phase : OrderPhase) → is_join o.task ≡ c → Stays c (notices.order_goes s o y phase)
  order_goes s o y Leasing j =
      stays-if c (notices.is_lost o y o.task) (none-open c _ refl) (leases_on s (record o { waiting = without o.waiting y }) j)
  order_goes s o y (Copying source) j = copies_again s o o.leaf j
  order_goes s o y (Installing made) j = installs_on s (record o { waiting = without o.waiting y }) made j

  -- a letter
  with-order : (s : BrickState) (row : BrickState → OpenOrder → BrickTurn) (q : Option OpenOrder) → s.order ≡ q → AllOf c q
      → ((o : OpenOrder) → is_join o.task ≡ c → Stays c (row (record s { order = None }) o)) → Stays c (order.with_order s row q)
  with-order s row None e h f = none-open c _ e
  with-order s row (Some o) e h f = f o (h o refl)

  at-order : (s : BrickState) (number : ℕ) (test : OpenOrder → Bool) (row : BrickState → OpenOrder → BrickTurn) → AllOf c s.order
      → ((o : OpenOrder) → is_join o.task ≡ c → Stays c (row (record s { order = None }) o)) → Stays c (order.at_order s number test row)
  at-order s number test row h f = stays-if c (order.is_at number test s.order) (with-order s row s.order refl h f) (record { is = h })

  of-order : (s : BrickState) (from : NodeNo) (l : Letter) → IsOfOrder l → AllOf c s.order → Stays c (live_brick_turn s from l)
  of-order s from _ (grants number leaf) h =
      at-order s number (order.takes_grant s.number leaf) (λ t o. order.grants t (order.with_grant o from) from leaf o.task) h
      (λ o j. granting (record s { order = None }) (order.with_grant o from) from leaf o.task j)
  of-order s from _ (refuses number why) h =
      at-order s number (λ o. order.is_leasing o.phase) (λ t o. order.ends t o (answered.Refused (order.met_of why from))) h
      (λ o j. none-open c (order.ends (record s { order = None }) o (answered.Refused (order.met_of why from))) refl)
  of-order s from _ (copies_on number last pairs) h =
      at-order s number (λ o. order.is_source from o.phase && order.fits o pairs)
      (λ t o. order.copied_on t (record o { copied = o.copied ++ pairs }) from last) h
      (λ o j. copied_on (record s { order = None }) (record o { copied = o.copied ++ pairs }) from last j)
  of-order s from _ (says_so number name) h =
      at-order s number (λ o. order.is_installing o.phase)
      (λ t o. order.installed_in t (record o { waiting = without o.waiting from }) o.phase) h
      (λ o j. installed_in (record s { order = None }) (record o { waiting = without o.waiting from }) o.phase refl j)
  of-order s from _ tells h =
      let a = notices.learns s from in
      let part = stays-if c (notices.concerns_some from a.order)
      (with-order a (λ t o. notices.order_goes t o from o.phase) a.order refl h (λ o j. order_goes (record a { order = None }) o from o.phase j))
      (record { is = h }) in
      record { is = λ o e. part.is o (sym (ap (λ (x : Leafing). x.order) (notice-same s from)) ∙ e) }

  pub letter-stays : (s : BrickState) (from : NodeNo) (l : Letter) → AllOf c s.order → Stays c (live_brick_turn s from l)
  letter-stays s from l h = by (letter-rests s from l)
    where
      by : Rests s l (live_brick_turn s from l) → Stays c (live_brick_turn s from l)
      by (rests e take) = record { is = λ o f. h o (sym e ∙ f) }
      by (of_order k) = of-order s from l k h
