use Rattle.std.proofs.Common.{◌≡◌, ℕ, ◌==◌, ◌&&◌, ◌++◌, Bool, true, false, Option, Some, None, List, refl, sym, ap, ◌∙◌, subst}
use Rattle.std.proofs.lemmas.Bool.{and_parts, eqb-true}
use Rattle.std.specs.FinMap.{get}
use Rattle.std.specs.Prelude.{is_some, if◌then◌else◌}
use Rattle.dds_base.specs.BrickList.{has}
use Rattle.dds_base.specs.Name.{Name}
use Rattle.dds_base.specs.Number.{Txn}
use Rattle.dds_base.specs.NodeSet.{has_node}
use Rattle.dds_base.specs.declared.leaf.Leaf.{Leaf}
use Rattle.dds_base.specs.declared.number.NodeNo.{NodeNo}
use Rattle.dds_base.specs.declared.op.OrderReply.TheVariants as answered
use Rattle.dds_base.specs.declared.pair.Pair.{Pair}
use Rattle.dds_base.specs.declared.pending.Pending.{Pending}
use Rattle.dds_brick_rows.specs.Calls as calls
use Rattle.dds_brick_rows.specs.Refusal.{get_refusal, is_join, lease_refusal, update_denial}
use Rattle.dds_brick_rows.specs.Take as takes
use Rattle.dds_brick_rows.specs.declared.resolution.News.TheVariants as news
use Rattle.dds_core.specs.Brick.{live_brick_turn}
use Rattle.dds_core.specs.Notice as notices
use Rattle.dds_groups.specs.Leaves.{successor}
use Rattle.dds_groups.specs.Take.{may_take}
use Rattle.dds_law_leaf.proofs.Book.{Leafing, leafing}
use Rattle.dds_law_leaf.proofs.Plain as plain
use Rattle.dds_law_leaf.proofs.Turns.{Plain}
use Rattle.dds_letters.specs.declared.letter.Letter.{Letter}
use Rattle.dds_letters.specs.declared.letter.Letter.TheVariants as letter
use Rattle.dds_letters.specs.declared.refusal.Denial.{Denial}
use Rattle.dds_letters.specs.declared.refusal.Refusal.{Refusal}
use Rattle.dds_letters.specs.declared.refusal.Wanted.{Wanted}
use Rattle.dds_letters.specs.declared.refusal.Wanted.TheVariants as wanted
use Rattle.dds_locks.specs.Leases.{is_given, lease_of}
use Rattle.dds_maps.specs.Own.{own_leaf}
use Rattle.dds_net.proofs.Puts.{if-keeps}
use Rattle.dds_order_rows.specs.Orders as orders
use Rattle.dds_order_rows.specs.OwnOrder as order
use Rattle.dds_orders.proofs.Turns.{source-is}
use Rattle.dds_states.specs.Turn.{BrickTurn, without}
use Rattle.dds_states.specs.declared.brick_state.BrickState.{BrickState}
use Rattle.dds_states.specs.declared.brick_state.OpenOrder.{OpenOrder}
use Rattle.dds_serving.proofs.Once as once
use Rattle.dds_serving.specs.Once.{TakeOnce}
use Rattle.dds_serving.specs.Once.TakeOnce.{stays}
use Rattle.dds_world.specs.Groups.{letter_leaf}
use Rattle.dds_share.proofs.Joins as joins
use Rattle.dds_share.proofs.Joins.{IsAnswer, JoinGoes, at_once, begins, copies, ended, goes_on, installed, installs, is_part, leases, same-order, stops}

-- Each letter at a brick with an open join.

-- a letter about an open order of the brick, or a notice
pub data IsOfOrder : Letter → Type 0 where
  grants : (number : ℕ) (leaf : Leaf) → IsOfOrder (letter.Granted number leaf)
  refuses : (number : ℕ) (why : Refusal) → IsOfOrder (letter.LeaseRefused number why)
  copies_on : (number : ℕ) (last : Bool) (pairs : List Pair) → IsOfOrder (letter.CopyPart number last pairs)
  says_so : (number : ℕ) (name : Name) → IsOfOrder (letter.Installed number name)
  tells : IsOfOrder letter.Notice

-- another letter leaves the order alone, and may have the brick take a leaf
pub data Rests (s : BrickState) (l : Letter) (t : BrickTurn) : Type 0 where
  rests : t.state.order ≡ s.order → TakeOnce s (letter_leaf l) t → Rests s l t
  of_order : IsOfOrder l → Rests s l t

still : (s : BrickState) (l : Letter) (t : BrickTurn) → t.state.order ≡ s.order → t.state.leaves ≡ s.leaves → Rests s l t
still s l t e f = rests e (stays f)

order-if : (c : Bool) (s : BrickState) (t u : BrickTurn) → t.state.order ≡ s.order → u.state.order ≡ s.order
    → (if c then t else u).state.order ≡ s.order
order-if true s t u e f = e
order-if false s t u e f = f

leaves-if : (c : Bool) (s : BrickState) (t u : BrickTurn) → t.state.leaves ≡ s.leaves → u.state.leaves ≡ s.leaves
    → (if c then t else u).state.leaves ≡ s.leaves
leaves-if true s t u e f = e
leaves-if false s t u e f = f

got : (s : BrickState) (from : NodeNo) (l : Letter) (txn : Txn) (key : ℕ) (r : Option Refusal) → Rests s l (calls.got s from txn key r)
got s from l txn key None = still s l _ refl refl
got s from l txn key (Some why) = still s l _ refl refl

voted : (s u : BrickState) (from : NodeNo) (l : Letter) (q : Pending) (d : Option Denial) → u.order ≡ s.order → u.leaves ≡ s.leaves
    → Rests s l (calls.voted u from q d)
voted s u from l q None e f = still s l _ e f
voted s u from l q (Some d) e f = still s l _ e f

took-if : (c : Bool) (s u : BrickState) → u.order ≡ s.order → (if c then u else s).order ≡ s.order
took-if true s u e = e
took-if false s u e = refl

took : (s : BrickState) (leaf : Leaf) (mine : Option Leaf) → (takes.take_over s leaf mine).order ≡ s.order
took s leaf None = refl
took s leaf (Some mine) =
    took-if (may_take s.number mine leaf (has_node s.known) (takes.is_free s mine.name)) s (record s { leaves = takes.replaced s.leaves mine leaf }) refl

granted : (s : BrickState) (from : NodeNo) (number : ℕ) (name : Name) (leaf : Option Leaf) → (orders.granted s from number name leaf).state.order ≡ s.order
granted s from number name None = refl
granted s from number name (Some leaf) = refl

lease_answered : (s : BrickState) (from : NodeNo) (number : ℕ) (name : Name) (r : Option Refusal)
    → (orders.lease_answered s from number name r).state.order ≡ s.order
lease_answered s from number name None = granted s from number name (get s.leaves name)
lease_answered s from number name (Some why) = refl

lease_row : (s : BrickState) (from : NodeNo) (number : ℕ) (what : Wanted) → (orders.lease_row s from number what).state.order ≡ s.order
lease_row s from number (wanted.Name name) = lease_answered s from number name (lease_refusal s name None)
lease_row s from number (wanted.Leaf leaf) =
    lease_answered (takes.take s leaf) from number leaf.name (lease_refusal (takes.take s leaf) leaf.name (Some leaf.stamp))
    ∙ took s leaf (own_leaf s.leaves leaf.name)

installed_over : (s : BrickState) (from : NodeNo) (number : ℕ) (leaf : Leaf) (mine : Option Leaf)
    → (orders.installed_over s from number leaf mine).state.order ≡ s.order
installed_over s from number leaf None = refl
installed_over s from number leaf (Some mine) = order-if (is_some (successor mine leaf)) s _ _ refl refl

plainly : (s : BrickState) (l : Letter) (t : BrickTurn) → Plain (leafing s) t → Rests s l t
plainly s l t h = still s l t (ap (λ (x : Leafing). x.order) h.same) (ap (λ (x : Leafing). x.leaves) h.same)

pub letter-rests : (s : BrickState) (from : NodeNo) (l : Letter) → Rests s l (live_brick_turn s from l)
letter-rests s from (letter.Get txn caller call key name stamp) = got s from _ txn key (get_refusal s key name stamp)
letter-rests s from (letter.Prepare txn caller call below name stamp list op) =
    voted s (calls.trim s txn.library below) from _ (record { txn = txn; caller = caller; call = call; op = op; list = list })
    (update_denial s op name stamp) refl refl
letter-rests s from (letter.Commit txn) = plainly s _ _ (plain.commit_row s from txn)
letter-rests s from (letter.Abort txn) = plainly s _ _ (plain.abort_row s from txn)
letter-rests s from (letter.Push leaf) =
    rests (took s leaf (own_leaf s.leaves leaf.name)) (once.took s leaf (takes.push_row s leaf) (own_leaf s.leaves leaf.name) refl refl)
letter-rests s from (letter.Help txn list) = plainly s _ _ (plain.help_row s from txn list)
letter-rests s from (letter.Query txn list) = plainly s _ _ (plain.query_row s from txn list)
letter-rests s from (letter.Status txn status) = plainly s _ _ (plain.all_hear s from (news.Told txn status))
letter-rests s from (letter.Outcome txn commit) = plainly s _ _ (plain.outcome_row s txn commit)
letter-rests s from (letter.Lease number what) = rests (lease_row s from number what) (once.lease_row s from number what)
letter-rests s from (letter.Granted number leaf) = of_order (grants number leaf)
letter-rests s from (letter.LeaseRefused number why) = of_order (refuses number why)
letter-rests s from (letter.CopyAsk number name place) =
    let c = is_given s.locks.leases name from && is_some (get s.leaves name) in
    still s _ _ (order-if c s _ _ refl refl) (leaves-if c s _ _ refl refl)
letter-rests s from (letter.CopyPart number last pairs) = of_order (copies_on number last pairs)
letter-rests s from (letter.Install number leaf) =
    let c = is_some (lease_of s.locks.leases leaf.name from) && has leaf.list s.number in
    rests (order-if c s _ _ (installed_over s from number leaf (own_leaf s.leaves leaf.name)) refl) (once.install_row s from number leaf)
letter-rests s from (letter.Installed number name) = of_order (says_so number name)
letter-rests s from letter.Notice = of_order tells
letter-rests s from other = still s _ _ refl refl

-- the parts of a notice behind the order's
pub notice-same : (s : BrickState) (y : NodeNo) → leafing (notices.notice_row s y).state ≡ leafing (notices.order_part (notices.learns s y) y).state
notice-same s y =
    let b = (notices.order_part (notices.learns s y) y).state in
    let c = (notices.resolving_part b y).state in
    let d = (notices.deferred_part c).state in
    (plain.pending_part d y).same ∙ (plain.deferred_part c).same ∙ (plain.all_hear b y news.Stopped).same

module _ (s : BrickState) (p : OpenOrder) (there : s.order ≡ Some p) (join : is_join p.task ≡ true) (from : NodeNo) where
  abbrev Goes : Letter → BrickTurn → Type 0
  Goes l t = JoinGoes s.number s.known s.leaves p from l t

  -- a letter to the open order
  with-order : (l : Letter) (row : BrickState → OpenOrder → BrickTurn) (q : Option OpenOrder) → s.order ≡ q
      → Goes l (row (record s { order = None }) p) → Goes l (order.with_order s row q)
  with-order l row None e h = let no : None ≡ Some p = sym e ∙ there in cc
  with-order l row (Some o) e h =
      let is : p ≡ o = same (sym there ∙ e) in subst (λ (x : OpenOrder). Goes l (row (record s { order = None }) x)) is h
    where
      same : {o : OpenOrder} → Some p ≡ Some o → p ≡ o
      same f = cc

  is-at : (number : ℕ) (test : OpenOrder → Bool) (q : Option OpenOrder) → q ≡ Some p → order.is_at number test q ≡ true
      → (p.number ≡ number) × (test p ≡ true)
  is-at number test None e h = cc
  is-at number test (Some o) e h =
      let is : o ≡ p = cc in
      let k = and_parts (o.number == number) (test o) h in
      (ap (λ (x : OpenOrder). x.number) (sym is) ∙ eqb-true o.number number k.0, subst (λ (x : OpenOrder). test x ≡ true) is k.1)

  at-order : (number : ℕ) (l : Letter) (test : OpenOrder → Bool) (row : BrickState → OpenOrder → BrickTurn)
      → (p.number ≡ number → test p ≡ true → Goes l (row (record s { order = None }) p)) → Goes l (order.at_order s number test row)
  at-order number l test row f =
      if-keeps (Goes l) (order.is_at number test s.order) _ _
      (λ e. let k = is-at number test s.order there e in with-order l row s.order refl (f k.0 k.1))
      (λ e. goes_on p there (same-order p) refl refl refl refl)

  notice_row : Goes letter.Notice (notices.notice_row s from)
  notice_row =
      let a = notices.learns s from in
      let same = notice-same s from in
      like (ap (λ (x : Leafing). x.order) same) (ap (λ (x : Leafing). x.leaves) same)
      (if-keeps (Goes letter.Notice) (notices.concerns_some from a.order) _ _
      (λ e. with-order-of (joins.order_goes p join from letter.Notice s.number s.known (record a { order = None }) p.phase refl stops))
      (λ e. goes_on p there (same-order p) refl refl refl refl))
    where
      like : {t u : BrickTurn} → u.state.order ≡ t.state.order → u.state.leaves ≡ t.state.leaves → Goes letter.Notice t → Goes letter.Notice u
      like e f (leases o g h i j) = leases o (e ∙ g) h i (f ∙ j)
      like e f (goes_on o g h i j k n) = goes_on o (e ∙ g) h i j k (f ∙ n)
      like e f (begins o n g h i j k q) = begins o n (e ∙ g) h i j k (f ∙ q)
      like e f (copies o g h i j k n) = copies o (e ∙ g) h i j k (f ∙ n)
      like e f (ended g h) = ended (e ∙ g) (f ∙ h)
      like e f (installed made g h i j k) = installed made g h i (e ∙ j) (f ∙ k)
      like e f (at_once leaf v o g h i j k w n q r) = at_once leaf v o g h i j k w n (e ∙ q) (f ∙ r)

      with-order-of : Goes letter.Notice (notices.order_goes (record (notices.learns s from) { order = None }) p from p.phase)
          → Goes letter.Notice (order.with_order (notices.learns s from) (λ t o. notices.order_goes t o from o.phase) s.order)
      with-order-of h = subst (λ q. Goes letter.Notice (order.with_order (notices.learns s from) (λ t o. notices.order_goes t o from o.phase) q)) (sym there) h

  pub letter-goes : (l : Letter) → IsOfOrder l → Goes l (live_brick_turn s from l)
  letter-goes _ (grants number leaf) =
      at-order number _ (order.takes_grant s.number leaf) (λ t o. order.grants t (order.with_grant o from) from leaf o.task)
      (λ e h. joins.granted p join from _ s.number s.known s from leaf h)
  letter-goes _ (refuses number why) =
      at-order number _ (λ o. order.is_leasing o.phase) (λ t o. order.ends t o (answered.Refused (order.met_of why from)))
      (λ e h. joins.ends p join from _ s.number s.known (record s { order = None }) p (answered.Refused (order.met_of why from)))
  letter-goes _ (copies_on number last pairs) =
      at-order number _ (λ o. order.is_source from o.phase && order.fits o pairs)
      (λ t o. order.copied_on t (record o { copied = o.copied ++ pairs }) from last)
      (λ e h. subst (λ i. Goes (letter.CopyPart i last pairs) (order.copied_on (record s { order = None }) (record p { copied = p.copied ++ pairs }) from last))
      e (joins.copied_on p join from _ s.number s.known (record s { order = None }) (record p { copied = p.copied ++ pairs }) from last refl
      (source-is from p.phase (and_parts (order.is_source from p.phase) (order.fits p pairs) h).0) (is_part last pairs) refl refl refl refl
      (record { number = refl; name = refl; granted = λ n k. k })))
  letter-goes _ (says_so number name) =
      let row = order.installed_in (record s { order = None }) (record p { waiting = without p.waiting from }) p.phase in
      at-order number _ (λ o. order.is_installing o.phase) (λ t o. order.installed_in t (record o { waiting = without o.waiting from }) o.phase)
      (λ e h. subst (λ i. Goes (letter.Installed i name) row) e (joins.installed_in p join from _ s.number s.known s p.phase refl (installs name)))
  letter-goes _ tells = notice_row
