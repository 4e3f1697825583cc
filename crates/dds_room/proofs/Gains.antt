use Rattle.std.proofs.Common.{◌≡◌, ℕ, ◌+◌, ◌≤◌, ◌&&◌, ◌++◌, Bool, true, false, Option, Some, None, List, [], ◌∷◌, refl, sym, ap, ◌∙◌, subst, arith}
use Rattle.std.proofs.lemmas.Bool.{and_parts}
use Rattle.std.proofs.lemmas.Bool.Decides.{nat_tests}
use Rattle.std.proofs.lemmas.List.{length-append}
use Rattle.std.specs.List.{list_all}
use Rattle.std.specs.Prelude.{length, nat_le, if◌then◌else◌}
use Rattle.dds_base.specs.Name.{Name, covers}
use Rattle.dds_base.specs.NodeSet.{has_node}
use Rattle.dds_base.specs.Place.{last_key}
use Rattle.dds_base.specs.declared.brick_list.TheConstants.{MEMBERS}
use Rattle.dds_base.specs.declared.leaf.Leaf.{Leaf}
use Rattle.dds_base.specs.declared.number.NodeNo.{NodeNo}
use Rattle.dds_base.specs.declared.op.OrderReply.{OrderReply}
use Rattle.dds_base.specs.declared.op.OrderReply.TheVariants as answered
use Rattle.dds_base.specs.declared.pair.Pair.{Pair}
use Rattle.dds_brick_rows.specs.Refusal.{is_join}
use Rattle.dds_brick_rows.specs.declared.refusal.TheConstants.{PAIRS}
use Rattle.dds_core.proofs.Lists.{all-append}
use Rattle.dds_core.specs.Notice as notices
use Rattle.dds_groups.specs.Leaves.{live}
use Rattle.dds_history.specs.Map.{Map}
use Rattle.dds_letters.specs.declared.refusal.Refusal.{Refusal}
use Rattle.dds_law_own.proofs.OrderWays.{test-at}
use Rattle.dds_order_rows.specs.OwnOrder as order
use Rattle.dds_order_rows.specs.Orders as orders
use Rattle.dds_pairs.proofs.Binds.{AllUnder}
use Rattle.dds_pairs.proofs.Copies.{all-pass}
use Rattle.dds_states.specs.Turn.{BrickTurn, is_none_left, still, without}
use Rattle.dds_states.specs.declared.brick_state.BrickState.{BrickState}
use Rattle.dds_states.specs.declared.brick_state.OpenOrder.{OpenOrder}
use Rattle.dds_states.specs.declared.brick_state.OrderPhase.{OrderPhase}
use Rattle.dds_states.specs.declared.brick_state.OrderPhase.TheVariants.{Copying, Installing, Leasing}
use Rattle.dds_states.specs.declared.brick_state.Task.{Task}
use Rattle.dds_states.specs.declared.brick_state.Task.TheVariants.{Join, Split}

-- What a brick's own order adds to its pairs: nothing, or a join that ends adds those that it copied, which are at most the limit.

-- what an order has copied lies under its name, and is at most the limit
pub record IsSmall (name : Name) (ps : List Pair) : Type 0 where
  pub under : AllUnder name ps
  pub few : length ps ≤ PAIRS

-- from these pairs
pub data Bound (m : Map) (p : OpenOrder) (u : BrickState) : Type 0 where
  kept : u.pairs ≡ m → Bound m p u
  bound : (ps : List Pair) → is_join p.task ≡ true → IsSmall p.name ps → u.pairs ≡ order.bound m ps → Bound m p u

module _ (m : Map) (p : OpenOrder) where
  abbrev Row : BrickTurn → Type 0
  Row t = Bound m p t.state

  -- the order at a later moment
  record Is (o : OpenOrder) : Type 0 where
    task : o.task ≡ p.task
    small : IsSmall p.name o.copied

  row-if : (c : Bool) (t u : BrickTurn) → Row t → Row u → Row (if c then t else u)
  row-if true t u h k = h
  row-if false t u h k = k

  -- the order is over
  closed-pairs : (s : BrickState) (o : OpenOrder) (c : Bool) → (if c then s else orders.releasing s o.name s.number).pairs ≡ s.pairs
  closed-pairs s o true = refl
  closed-pairs s o false = refl

  ends : (s : BrickState) (o : OpenOrder) (reply : OrderReply) → s.pairs ≡ m → Row (order.ends s o reply)
  ends s o reply e = kept (closed-pairs s o (is_join o.task) ∙ e)

  serving : (s : BrickState) (o : OpenOrder) (made : Leaf) (t : Task) (u : BrickState) → o.task ≡ t → s.pairs ≡ m → Is o
      → u.pairs ≡ (order.serving s o made t).pairs → Bound m p u
  serving s o made (Join via) u t e is f =
      bound o.copied (ap is_join (sym is.task ∙ t)) is.small (f ∙ ap (λ k. order.bound k o.copied) e)
  serving s o made Split u t e is f = kept (f ∙ e)

  finishes : (s : BrickState) (o : OpenOrder) (made : Leaf) → s.pairs ≡ m → Is o → Row (order.finishes s o made)
  finishes s o made e is =
      serving s o made o.task (order.finishes s o made).state refl e is (closed-pairs (order.serving s o made o.task) o (is_join o.task))

  -- it goes on
  installs_from : (s : BrickState) (o : OpenOrder) (made : Leaf) (nodes : List NodeNo) → s.pairs ≡ m → Is o → Row (order.installs_from s o made nodes)
  installs_from s o made [] e is = finishes s o made e is
  installs_from s o made (n ∷ ns) e is = kept e

  installs : (s : BrickState) (o : OpenOrder) (leaf : Leaf) → s.pairs ≡ m → Is o → Row (order.installs s o leaf)
  installs s o leaf e is =
      installs_from (record s { made = s.made + 1 }) o (order.made_leaf s o leaf o.task) (without (order.parting s o leaf) s.number) e is

  copies_from : (s : BrickState) (o : OpenOrder) (nodes : List NodeNo) → s.pairs ≡ m → Row (order.copies_from s o nodes)
  copies_from s o [] e = ends s o answered.NoSource e
  copies_from s o (n ∷ ns) e = kept e

  leased_all : (s : BrickState) (o : OpenOrder) (leaf : Leaf) (t : Task) → s.pairs ≡ m → Is o → Row (order.leased_all s o leaf t)
  leased_all s o leaf (Join via) e is = copies_from s o (order.sources s o leaf) e
  leased_all s o leaf Split e is = installs s o leaf e is

  leased_all_at : (s : BrickState) (o : OpenOrder) (leaf : Option Leaf) → s.pairs ≡ m → Is o → Row (order.leased_all_at s o leaf)
  leased_all_at s o None e is = kept e
  leased_all_at s o (Some leaf) e is = leased_all s o leaf o.task e is

  leases_on : (s : BrickState) (o : OpenOrder) → s.pairs ≡ m → Is o → Row (order.leases_on s o)
  leases_on s o e is =
      row-if (is_none_left o.waiting) (order.leased_all_at s o o.leaf) (still (order.going_on s o)) (leased_all_at s o o.leaf e is) (kept e)

  copies_again : (s : BrickState) (o : OpenOrder) (leaf : Option Leaf) → s.pairs ≡ m → Row (notices.copies_again s o leaf)
  copies_again s o None e = kept e
  copies_again s o (Some leaf) e = copies_from s o (order.sources s o leaf) e

  installs_on : (s : BrickState) (o : OpenOrder) (made : Leaf) → s.pairs ≡ m → Is o → Row (order.installs_on s o made)
  installs_on s o made e is = row-if (is_none_left o.waiting) (order.finishes s o made) (still (order.going_on s o)) (finishes s o made e is) (kept e)

  installed_in : (s : BrickState) (o : OpenOrder) (phase : OrderPhase) → s.pairs ≡ m → Is o → Row (order.installed_in s o phase)
  installed_in s o Leasing e is = kept e
  installed_in s o (Copying source) e is = kept e
  installed_in s o (Installing made) e is = installs_on s o made e is

  copied_all : (s : BrickState) (o : OpenOrder) (leaf : Option Leaf) → s.pairs ≡ m → Is o → Row (order.copied_all s o leaf)
  copied_all s o None e is = kept e
  copied_all s o (Some leaf) e is = installs s o leaf e is

  copied_on : (s : BrickState) (o : OpenOrder) (source : NodeNo) (last : Bool) → s.pairs ≡ m → Is o → Row (order.copied_on s o source last)
  copied_on s o source true e is = copied_all s o o.leaf e is
  copied_on s o source false e is = kept e

  fixes : (s : BrickState) (o : OpenOrder) (from : NodeNo) (leaf : Leaf) → s.pairs ≡ m → Is o → Row (order.fixes s o from leaf)
  fixes s o from leaf e is =
      row-if (order.is_worn leaf) (order.ends s o answered.Worn) _ (ends s o answered.Worn e)
      (row-if (nat_le MEMBERS (length (live leaf.list (has_node s.known)))) (order.ends s o answered.GroupFull) (order.fixed s o from leaf)
      (ends s o answered.GroupFull e)
      (let k = leases_on s (order.widened s o from leaf) e (record { task = is.task; small = is.small }) in k))

  granted_join : (s : BrickState) (o : OpenOrder) (from : NodeNo) (leaf : Leaf) (q : Option Leaf) → s.pairs ≡ m → Is o
      → Row (order.granted_join s o from leaf q)
  granted_join s o from leaf None e is = fixes s o from leaf e is
  granted_join s o from leaf (Some x) e is = leases_on s o e is

  grants : (s : BrickState) (o : OpenOrder) (from : NodeNo) (leaf : Leaf) (t : Task) → s.pairs ≡ m → Is o → Row (order.grants s o from leaf t)
  grants s o from leaf (Join via) e is = granted_join s o from leaf o.leaf e is
  grants s o from leaf Split e is = leases_on s o e is

  order_goes : (s : BrickState) (o : OpenOrder) (y : NodeNo) (phase : OrderPhase) → s.pairs ≡ m → Is o → Row (notices.order_goes s o y phase)
  order_goes s o y Leasing e is =
      let q = record o { waiting = without o.waiting y } in
      row-if (notices.is_lost o y o.task) (order.ends s o answered.NoSource) (order.leases_on s q) (ends s o answered.NoSource e)
      (leases_on s q e (record { task = is.task; small = is.small }))
  order_goes s o y (Copying source) e is = copies_again s o o.leaf e
  order_goes s o y (Installing made) e is =
      installs_on s (record o { waiting = without o.waiting y }) made e (record { task = is.task; small = is.small })

-- the pairs of a turn: as before, or with those that the open join copied
pub data Gains (s u : BrickState) : Type 0 where
  none : u.pairs ≡ s.pairs → Gains s u
  gains : (p : OpenOrder) (ps : List Pair) → s.order ≡ Some p → is_join p.task ≡ true → IsSmall p.name ps → u.pairs ≡ order.bound s.pairs ps → Gains s u

gains-of : (s u : BrickState) (p : OpenOrder) → s.order ≡ Some p → Bound s.pairs p u → Gains s u
gains-of s u p e (kept is) = none is
gains-of s u p e (bound ps join small is) = gains p ps e join small is

gains-if : (s : BrickState) (c : Bool) (t u : BrickTurn) → (c ≡ true → Gains s t.state) → (c ≡ false → Gains s u.state)
    → Gains s (if c then t else u).state
gains-if s true t u f g = f refl
gains-if s false t u f g = g refl

abbrev pub OrderSmall : Option OpenOrder → Type 0
OrderSmall q = (o : OpenOrder) → q ≡ Some o → IsSmall o.name o.copied

with-order : (s : BrickState) (test : OpenOrder → Bool) (row : BrickState → OpenOrder → BrickTurn) (q : Option OpenOrder) → s.order ≡ q
    → ((o : OpenOrder) → q ≡ Some o → test o ≡ true)
    → ((o : OpenOrder) → s.order ≡ Some o → test o ≡ true → Bound s.pairs o (row (record s { order = None }) o).state)
    → Gains s (order.with_order s row q).state
with-order s test row None e k f = none refl
with-order s test row (Some o) e k f = gains-of s (row (record s { order = None }) o).state o e (f o e (k o refl))

at-order : (s : BrickState) (number : ℕ) (test : OpenOrder → Bool) (row : BrickState → OpenOrder → BrickTurn)
    → ((o : OpenOrder) → s.order ≡ Some o → test o ≡ true → Bound s.pairs o (row (record s { order = None }) o).state)
    → Gains s (order.at_order s number test row).state
at-order s number test row f =
    gains-if s (order.is_at number test s.order) _ _ (λ e. with-order s test row s.order refl (λ o i. test-at number test s.order o e i) f) (λ e. none refl)

-- what a part adds fits
pub part-small : (from : NodeNo) (o : OpenOrder) (pairs : List Pair) → (order.is_source from o.phase && order.fits o pairs) ≡ true
    → IsSmall o.name o.copied → IsSmall o.name (o.copied ++ pairs)
part-small from o pairs e h =
    let a = and_parts (order.is_source from o.phase) (order.fits o pairs) e in
    let all = list_all (λ (p : Pair). covers o.name p.key) pairs in
    let room = nat_le (length o.copied + length pairs) PAIRS in
    let b = and_parts all (order.starts_after (last_key None o.copied) pairs && room) a.1 in
    let c = and_parts (order.starts_after (last_key None o.copied) pairs) room b.1 in
    let le : length o.copied + length pairs ≤ PAIRS = le-of (length o.copied + length pairs) PAIRS c.1 in
    record {
      under = all-append (λ (p : Pair). covers o.name p.key ≡ true) o.copied pairs h.under (all-pass (λ (p : Pair). covers o.name p.key) pairs b.0);
      few = subst (λ k. k ≤ PAIRS) (sym (length-append o.copied pairs)) le;
    }
  where
    le-of : (a b : ℕ) → nat_le a b ≡ true → a ≤ b
    le-of a b e = grind (arith, nat_tests, e)

module _ (s : BrickState) (small : OrderSmall s.order) where
  pub granted_row : (from : NodeNo) (number : ℕ) (leaf : Leaf) → Gains s (order.granted_row s from number leaf).state
  granted_row from number leaf =
      at-order s number (order.takes_grant s.number leaf) (λ t o. order.grants t (order.with_grant o from) from leaf o.task)
      (λ o there e.
      grants s.pairs o (record s { order = None }) (order.with_grant o from) from leaf o.task refl (record { task = refl; small = small o there }))

  pub lease_refused_row : (from : NodeNo) (number : ℕ) (why : Refusal) → Gains s (order.lease_refused_row s from number why).state
  lease_refused_row from number why =
      at-order s number (λ o. order.is_leasing o.phase) (λ t o. order.ends t o (answered.Refused (order.met_of why from)))
      (λ o there e. ends s.pairs o (record s { order = None }) o (answered.Refused (order.met_of why from)) refl)

  pub copy_part_row : (from : NodeNo) (number : ℕ) (last : Bool) (pairs : List Pair) → Gains s (order.copy_part_row s from number last pairs).state
  copy_part_row from number last pairs =
      at-order s number (λ o. order.is_source from o.phase && order.fits o pairs)
      (λ t o. order.copied_on t (record o { copied = o.copied ++ pairs }) from last)
      (λ o there e.
      copied_on s.pairs o (record s { order = None }) (record o { copied = o.copied ++ pairs }) from last refl
      (record { task = refl; small = part-small from o pairs e (small o there) }))

  pub installed_row : (from : NodeNo) (number : ℕ) → Gains s (order.installed_row s from number).state
  installed_row from number =
      at-order s number (λ o. order.is_installing o.phase) (λ t o. order.installed_in t (record o { waiting = without o.waiting from }) o.phase)
      (λ o there e.
      installed_in s.pairs o (record s { order = None }) (record o { waiting = without o.waiting from }) o.phase refl
      (record { task = refl; small = small o there }))

  -- a notice
  goes : (y : NodeNo) (q : Option OpenOrder) → s.order ≡ q
      → Gains s (order.with_order (notices.learns s y) (λ t o. notices.order_goes t o y o.phase) q).state
  goes y None e = none refl
  goes y (Some o) e =
      let u = record (notices.learns s y) { order = None } in
      gains-of s (notices.order_goes u o y o.phase).state o e (order_goes s.pairs o u o y o.phase refl (record { task = refl; small = small o e }))

  pub order_part : (y : NodeNo) → Gains s (notices.order_part (notices.learns s y) y).state
  order_part y = gains-if s (notices.concerns_some y s.order) _ _ (λ e. goes y s.order refl) (λ e. none refl)
