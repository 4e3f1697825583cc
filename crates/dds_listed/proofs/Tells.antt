use Rattle.std.proofs.Common.{◌≡◌, ℕ, ◌++◌, Option, Some, None, [], ◌∷◌, refl, subst}
use Rattle.std.specs.FinMap.{get}
use Rattle.dds_base.specs.Name.{Name}
use Rattle.dds_base.specs.Number.{Txn}
use Rattle.dds_base.specs.declared.leaf.Leaf.{Leaf}
use Rattle.dds_base.specs.declared.number.NodeNo.{NodeNo}
use Rattle.dds_base.specs.declared.op.OrderReply.TheVariants as answered
use Rattle.dds_base.specs.declared.pending.Pending.{Pending}
use Rattle.dds_brick_rows.specs.Calls as calls
use Rattle.dds_brick_rows.specs.Refusal.{get_refusal, has_no_room, lease_refusal, update_denial, update_refusal}
use Rattle.dds_brick_rows.specs.Take as takes
use Rattle.dds_brick_rows.specs.declared.resolution.News.TheVariants as news
use Rattle.dds_core.specs.Brick.{live_brick_turn}
use Rattle.dds_core.specs.Notice as notices
use Rattle.dds_law_leaf.proofs.Book.{Each, InMap}
use Rattle.dds_law_leaf.proofs.Bricks.{OfDenial, OfRefusal, no-leaf, of-denial, of-get, of-lease, of-update}
use Rattle.dds_law_leaf.proofs.Maps.{in-for}
use Rattle.dds_law_leaf.proofs.Plain as plain
use Rattle.dds_letters.specs.declared.letter.Letter.{Letter}
use Rattle.dds_letters.specs.declared.letter.Letter.TheVariants as letter
use Rattle.dds_letters.specs.declared.refusal.Denial.{Denial}
use Rattle.dds_letters.specs.declared.refusal.Refusal.{Refusal}
use Rattle.dds_letters.specs.declared.refusal.Wanted.{Wanted}
use Rattle.dds_letters.specs.declared.refusal.Wanted.TheVariants as wanted
use Rattle.dds_maps.specs.Own.{own_leaf}
use Rattle.dds_order_rows.specs.OwnOrder as own_order
use Rattle.dds_order_rows.specs.Orders as orders
use Rattle.dds_states.specs.Turn.{sends, without}
use Rattle.dds_states.specs.declared.brick_state.BrickState.{BrickState}
use Rattle.dds_listed.proofs.TellsOrders.{TellsOwn, after, at_order, copied_on, either, ends, grants, installed_in, order_goes}
use Rattle.dds_listed.proofs.TellsOrders.{plain-tells, quiet, tells, with_order}

-- Which leaves a brick tells: but for Lease and Install, each letter of a turn that has a leaf has one of the brick's own leaves after the
-- turn.

module _ (P : Leaf → Type 0) where
  -- a notice
  notice_row : (s : BrickState) (y : NodeNo) → TellsOwn P (notices.notice_row s y)
  notice_row s y =
      let a = notices.learns s y in
      after _ (λ t. notices.pending_part t y) (after _ notices.deferred_part (after (notices.order_part a y) (λ t. notices.resolving_part t y)
      (either _ (with_order a (λ t o. notices.order_goes t o y o.phase) a.order (λ t o. order_goes t o y o.phase)) (quiet a))
      (λ u. plain-tells u _ (plain.all_hear u y news.Stopped))) (λ u. plain-tells u _ (plain.deferred_part u))) (λ u. plain-tells u _ (plain.pending_part u y))

  -- calls
  got-leaves : (s : BrickState) (from : NodeNo) (txn : Txn) (key : ℕ) (r : Option Refusal) → (calls.got s from txn key r).state.leaves ≡ s.leaves
  got-leaves s from txn key None = refl
  got-leaves s from txn key (Some why) = refl

  got : (s : BrickState) (from : NodeNo) (txn : Txn) (key : ℕ) (r : Option Refusal) → OfRefusal P r → TellsOwn P (calls.got s from txn key r)
  got s from txn key None h = record { letters = (no-leaf P txn (get s.pairs key), tt) }
  got s from txn key (Some why) h = record { letters = (h, tt) }

  voted-leaves : (s : BrickState) (from : NodeNo) (p : Pending) (d : Option Denial) → (calls.voted s from p d).state.leaves ≡ s.leaves
  voted-leaves s from p None = refl
  voted-leaves s from p (Some d) = refl

  voted : (s : BrickState) (from : NodeNo) (p : Pending) (d : Option Denial) → OfDenial P d → TellsOwn P (calls.voted s from p d)
  voted s from p None h = record { letters = (tt, tt) }
  voted s from p (Some d) h = record { letters = (h, tt) }

  -- leases and leaves of other bricks' orders
  granted-leaves : (s : BrickState) (from : NodeNo) (number : ℕ) (name : Name) (leaf : Option Leaf)
      → (orders.granted s from number name leaf).state.leaves ≡ s.leaves
  granted-leaves s from number name None = refl
  granted-leaves s from number name (Some leaf) = refl

  lease-leaves : (s : BrickState) (from : NodeNo) (number : ℕ) (name : Name) (r : Option Refusal)
      → (orders.lease_answered s from number name r).state.leaves ≡ s.leaves
  lease-leaves s from number name None = granted-leaves s from number name (get s.leaves name)
  lease-leaves s from number name (Some why) = refl

  granted : (s : BrickState) (from : NodeNo) (number : ℕ) (name : Name) (leaf : Option Leaf) → Each P leaf
      → TellsOwn P (orders.granted s from number name leaf)
  granted s from number name None h = quiet s
  granted s from number name (Some leaf) h = record { letters = (h, tt) }

  lease_answered : (s : BrickState) (from : NodeNo) (number : ℕ) (name : Name) (r : Option Refusal) → InMap P s.leaves → OfRefusal P r
      → TellsOwn P (orders.lease_answered s from number name r)
  lease_answered s from number name None h k = granted s from number name (get s.leaves name) (h name)
  lease_answered s from number name (Some why) h k = record { letters = (k, tt) }

  lease_row : (s : BrickState) (from : NodeNo) (number : ℕ) (what : Wanted) → InMap P (orders.lease_row s from number what).state.leaves
      → TellsOwn P (orders.lease_row s from number what)
  lease_row s from number (wanted.Name name) h =
      let its = subst (InMap P) (lease-leaves s from number name (lease_refusal s name None)) h in
      lease_answered s from number name (lease_refusal s name None) its (of-lease P s name None its)
  lease_row s from number (wanted.Leaf leaf) h =
      let t = takes.take s leaf in
      let why = lease_refusal t leaf.name (Some leaf.stamp) in
      let its = subst (InMap P) (lease-leaves t from number leaf.name why) h in
      lease_answered t from number leaf.name why its (of-lease P t leaf.name (Some leaf.stamp) its)

  installed_over : (s : BrickState) (from : NodeNo) (number : ℕ) (leaf : Leaf) (mine : Option Leaf) → TellsOwn P (orders.installed_over s from number leaf mine)
  installed_over s from number leaf None = quiet s
  installed_over s from number leaf (Some mine) =
      either _ (tells (sends (record s { leaves = takes.replaced s.leaves mine leaf }) ((from, letter.Installed number mine.name) ∷ [])) (tt, tt)) (quiet s)

  pub tells-own : (s : BrickState) (from : NodeNo) (l : Letter) → InMap P (live_brick_turn s from l).state.leaves → TellsOwn P (live_brick_turn s from l)
  tells-own s from (letter.Get txn caller call key name stamp) h =
      let why = get_refusal s key name stamp in
      got s from txn key why (of-get P s key name stamp (subst (InMap P) (got-leaves s from txn key why) h))
  tells-own s from (letter.Prepare txn caller call below name stamp list op) h =
      let u = calls.trim s txn.library below in
      let p : Pending = record { txn = txn; caller = caller; call = call; op = op; list = list } in
      let why = update_denial s op name stamp in
      let its : InMap P s.leaves = subst (InMap P) (voted-leaves u from p why) h in
      voted u from p why (of-denial P (update_refusal s _ name stamp) (has_no_room s op) (of-update P s _ name stamp its))
  tells-own s from (letter.Commit txn) h = plain-tells s _ (plain.commit_row s from txn)
  tells-own s from (letter.Abort txn) h = plain-tells s _ (plain.abort_row s from txn)
  tells-own s from (letter.MapAsk txn caller call key) h = record { letters = (in-for P s.leaves key h, tt) }
  tells-own s from (letter.Help txn list) h = plain-tells s _ (plain.help_row s from txn list)
  tells-own s from (letter.Query txn list) h = plain-tells s _ (plain.query_row s from txn list)
  tells-own s from (letter.Status txn status) h = plain-tells s _ (plain.all_hear s from (news.Told txn status))
  tells-own s from (letter.Outcome txn commit) h = plain-tells s _ (plain.outcome_row s txn commit)
  tells-own s from (letter.Lease number what) h = lease_row s from number what h
  tells-own s from (letter.Granted number leaf) h =
      at_order s number (own_order.takes_grant s.number leaf) _ (λ t o. grants t (own_order.with_grant o from) from leaf o.task)
  tells-own s from (letter.LeaseRefused number why) h = at_order s number _ _ (λ t o. ends t o (answered.Refused (own_order.met_of why from)))
  tells-own s from (letter.CopyAsk number name place) h =
      either _ (tells (orders.copy_part (orders.pairs_after s.pairs name place) from number s) (tt, tt)) (quiet s)
  tells-own s from (letter.CopyPart number last pairs) h = at_order s number _ _ (λ t o. copied_on t (record o { copied = o.copied ++ pairs }) from last)
  tells-own s from (letter.Install number leaf) h = either _ (installed_over s from number leaf (own_leaf s.leaves leaf.name)) (quiet s)
  tells-own s from (letter.Installed number name) h =
      at_order s number _ _ (λ t o. installed_in t (record o { waiting = without o.waiting from }) o.phase)
  tells-own s from letter.Notice h = notice_row s from
  tells-own s from other h = record { letters = tt }
