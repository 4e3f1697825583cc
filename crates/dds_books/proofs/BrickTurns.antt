use Rattle.std.proofs.Common.{ℕ, ◌==◌, Bool, true, false, Option, Some, None, List, [], ◌∷◌}
use Rattle.std.specs.List.{AllByRecursion}
use Rattle.std.specs.Prelude.{if◌then◌else◌}
use Rattle.dds_base.specs.NodeSet.{has_node}
use Rattle.dds_base.specs.Number.{Txn}
use Rattle.dds_base.specs.declared.leaf.Leaf.{Leaf}
use Rattle.dds_base.specs.declared.number.NodeNo.{NodeNo}
use Rattle.dds_base.specs.declared.op.OrderReply.TheVariants as answered
use Rattle.dds_base.specs.declared.pending.Pending.{Pending}
use Rattle.dds_brick_rows.specs.declared.resolution.News.TheVariants as news
use Rattle.dds_core.specs.Brick.{live_brick_turn}
use Rattle.dds_core.specs.Notice as notices
use Rattle.dds_letters.specs.declared.letter.Letter.{Letter}
use Rattle.dds_letters.specs.declared.letter.Letter.TheVariants as letter
use Rattle.dds_locks.specs.Leases.{released_all}
use Rattle.dds_locks.specs.declared.leases.Lease.{Lease}
use Rattle.dds_net.specs.Net.{Sizes}
use Rattle.dds_states.specs.Turn.{unknown, without}
use Rattle.dds_states.specs.declared.brick_state.BrickState.{BrickState}
use Rattle.dds_states.specs.declared.brick_state.Deferred.{Deferred}
use Rattle.dds_states.specs.declared.brick_state.OpenOrder.{OpenOrder}
use Rattle.dds_states.specs.declared.brick_state.OrderPhase.{OrderPhase}
use Rattle.dds_states.specs.declared.brick_state.OrderPhase.TheVariants.{Leasing, Copying, Installing}
use Rattle.dds_states.specs.declared.brick_state.Question.{Question}
use Rattle.dds_states.specs.declared.brick_state.Question.TheVariants.{Help, Query}
use Rattle.dds_books.proofs.BrickRows as rows
use Rattle.dds_books.proofs.Fine.{Fine, between, fine-if, fine-sends, fine-still, fine-then, with-leases}
use Rattle.dds_books.proofs.Numbers.{all-live}
use Rattle.dds_books.proofs.OrderRows as orders
use Rattle.dds_books.proofs.OrderLetters as letters
use Rattle.dds_books.proofs.OrderLetters.{with-order-fine}
use Rattle.dds_books.proofs.OrderRows.{all-bricks, with-steps}
use Rattle.dds_books.specs.Placed.{AreBricks, BrickOk, DeferredOk, IsBrick, LeafOk, LetterOk, OfSome, OrderOk, OrderPhaseOk, PendingOk}

-- A live brick's turn at each letter keeps the numbers in range.

all-released-if : (z : Sizes) (c : Bool) (l : Lease) (ls : List Lease) → IsBrick z l.holder → AllByRecursion (λ (x : Lease). IsBrick z x.holder) ls
    → AllByRecursion (λ (x : Lease). IsBrick z x.holder) (if c then ls else l ∷ ls)
all-released-if z true l ls h k = k
all-released-if z false l ls h k = (h, k)

all-released : (z : Sizes) (ls : List Lease) (y : ℕ) → AllByRecursion (λ (x : Lease). IsBrick z x.holder) ls
    → AllByRecursion (λ (x : Lease). IsBrick z x.holder) (released_all ls y)
all-released z [] y h = tt
all-released z (l ∷ ls) y h = all-released-if z (l.holder == y) l (released_all ls y) h.0 (all-released z ls y h.1)

-- pending transactions that a notice treats
abbrev NumberedOk : (Txn → Type 0) → Sizes → Txn × List ℕ → Type 0
NumberedOk T z p = T p.0 × AreBricks z p.1

numbered-ok : (T : Txn → Type 0) (z : Sizes) (at : ℕ) (ps : List Pending) → AllByRecursion (PendingOk T z at) ps
    → AllByRecursion (NumberedOk T z) (notices.numbered ps)
numbered-ok T z at [] h = tt
numbered-ok T z at (p ∷ ps) h = ((h.0.0, h.0.1), numbered-ok T z at ps h.1)

module _ {T : Txn → Type 0} {z : Sizes} {at : ℕ} where
  learns-ok : (s : BrickState) (y : NodeNo) → BrickOk T z at s → BrickOk T z at (notices.learns s y)
  learns-ok s y h = with-leases s _ h (all-released z s.locks.leases y h.its_locks.1)

  copies_again : (s : BrickState) (o : OpenOrder) (leaf : Option Leaf) → BrickOk T z at s → OrderOk z at o → OfSome (LeafOk z) leaf
      → Fine T z at (notices.copies_again s o leaf)
  copies_again s o None h k m = orders.going_on s o h k
  copies_again s o (Some leaf) h k m = orders.copies s o leaf h k m

  order_goes : (s : BrickState) (o : OpenOrder) (y : NodeNo) (p : OrderPhase) → BrickOk T z at s → OrderOk z at o → OrderPhaseOk z p
      → Fine T z at (notices.order_goes s o y p)
  order_goes s o y Leasing h k m =
      fine-if _ (orders.ends s o answered.NoSource h k) (orders.leases_on s (record o { waiting = without o.waiting y }) h
      (with-steps o (without o.waiting y) o.phase k (all-bricks z o.waiting y k.its_waiting) k.its_step))
  order_goes s o y (Copying source) h k m = copies_again s o o.leaf h k k.its_leaf
  order_goes s o y (Installing made) h k m =
      letters.installs_on s (record o { waiting = without o.waiting y }) made h
      (with-steps o (without o.waiting y) o.phase k (all-bricks z o.waiting y k.its_waiting) k.its_step) m

  order_part : (s : BrickState) (y : NodeNo) → BrickOk T z at s → Fine T z at (notices.order_part s y)
  order_part s y h =
      fine-if _ (with-order-fine s _ s.order h h.its_order (λ t o is g same k. order_goes t o y o.phase g k k.its_step)) (fine-still s h)

  asked_again : (s : BrickState) (d : Deferred) (q : Question) → BrickOk T z at s → DeferredOk T z d → Fine T z at (notices.asked_again s d q)
  asked_again s d Help h k = rows.help_row s d.from d.txn d.list h k.0 k.1 k.2
  asked_again s d Query h k = rows.query_row s d.from d.txn d.list h k.0 k.1 k.2

  asked_all_again : (s : BrickState) (ds : List Deferred) → BrickOk T z at s → AllByRecursion (DeferredOk T z) ds
      → Fine T z at (notices.asked_all_again s ds)
  asked_all_again s [] h k = fine-still s h
  asked_all_again s (d ∷ ds) h k = fine-then _ _ (asked_again s d d.question h k.0) (λ u g. asked_all_again u ds g k.1)

  deferred_part : (s : BrickState) → BrickOk T z at s → Fine T z at (notices.deferred_part s)
  deferred_part s h =
      asked_all_again (record s { deferred = [] }) s.deferred (record {
        its_number = h.its_number;
        inside = h.inside;
        its_leaves = h.its_leaves;
        its_locks = h.its_locks;
        its_deferred = tt;
        its_resolving = h.its_resolving;
        its_order = h.its_order;
      }) h.its_deferred

  helped_by : (s : BrickState) (y : NodeNo) (txn : Txn) (list fs : List ℕ) → BrickOk T z at s → T txn → AreBricks z list → AllByRecursion (IsBrick z) fs
      → Fine T z at (notices.helped_by s y txn list fs)
  helped_by s y txn list [] h made k bricks = fine-still s h
  helped_by s y txn list (f ∷ fs) h made k bricks =
      fine-if _ (rows.resolve s txn list h made k) (fine-if _
      (fine-sends s ((f, letter.Help txn list) ∷ []) h ((between z at f h.inside bricks.0, made, k), tt)) (fine-still s h))

  pending_goes : (s : BrickState) (y : NodeNo) (txn : Txn) (list : List ℕ) → BrickOk T z at s → T txn → AreBricks z list
      → Fine T z at (notices.pending_goes s y txn list)
  pending_goes s y txn list h made k =
      fine-if _ (helped_by s y txn list (unknown list s.known) h made k (all-live (IsBrick z) list (has_node s.known) k.bricks))
      (fine-still s h)

  pendings_go : (s : BrickState) (y : NodeNo) (ps : List (Txn × List ℕ)) → BrickOk T z at s → AllByRecursion (NumberedOk T z) ps
      → Fine T z at (notices.pendings_go s y ps)
  pendings_go s y [] h k = fine-still s h
  pendings_go s y (p ∷ ps) h k = fine-then _ _ (pending_goes s y p.0 p.1 h k.0.0 k.0.1) (λ u g. pendings_go u y ps g k.1)

  pending_part : (s : BrickState) (y : NodeNo) → BrickOk T z at s → Fine T z at (notices.pending_part s y)
  pending_part s y h = pendings_go s y (notices.numbered s.locks.pending) h (numbered-ok T z at s.locks.pending h.its_locks.0)

  notice_row : (s : BrickState) (y : NodeNo) → BrickOk T z at s → Fine T z at (notices.notice_row s y)
  notice_row s y h =
      let l = notices.learns s y in
      let first = fine-then _ (λ t. notices.resolving_part t y) (order_part l y (learns-ok s y h)) (λ u g. rows.all_hear u y news.Stopped g) in
      let second = fine-then _ notices.deferred_part first (λ u g. deferred_part u g) in
      fine-then _ (λ t. notices.pending_part t y) second (λ u g. pending_part u y g)

  pub turn-fine : (s : BrickState) (from : NodeNo) (l : Letter) → BrickOk T z at s → LetterOk T z from at l → Fine T z at (live_brick_turn s from l)
  turn-fine s from (letter.Get txn caller call key name stamp) h k = rows.get_row s from txn key name stamp h k
  turn-fine s from (letter.Prepare txn caller call below name stamp list op) h k =
      rows.prepare_row s from (record { txn = txn; caller = caller; call = call; op = op; list = list }) below name stamp h k.0 (k.0.made, k.1, k.2)
  turn-fine s from (letter.Commit txn) h k = rows.commit_row s from txn h k
  turn-fine s from (letter.Abort txn) h k = rows.abort_row s from txn h k
  turn-fine s from (letter.Push leaf) h k = rows.push_row s leaf h k.1
  turn-fine s from (letter.MapAsk txn caller call key) h k = rows.map_ask_row s from txn key h k
  turn-fine s from (letter.Help txn list) h k = rows.help_row s from txn list h k.0.sender k.1 k.2
  turn-fine s from (letter.Query txn list) h k = rows.query_row s from txn list h k.0.sender k.1 k.2
  turn-fine s from (letter.Status txn status) h k = rows.all_hear s from (news.Told txn status) h
  turn-fine s from (letter.Outcome txn commit) h k = rows.outcome_row s txn commit h
  turn-fine s from (letter.Lease number what) h k = orders.lease_row s from number what h k.0.sender k.1
  turn-fine s from (letter.Granted number leaf) h k = letters.granted_row s from number leaf h k.0.sender k.1
  turn-fine s from (letter.LeaseRefused number why) h k = letters.lease_refused_row s from number why h
  turn-fine s from (letter.Release number name) h k = orders.release_row s from name h
  turn-fine s from (letter.CopyAsk number name after) h k = orders.copy_ask_row s from number name after h k.sender
  turn-fine s from (letter.CopyPart number last pairs) h k = letters.copy_part_row s from number last pairs h k.sender
  turn-fine s from (letter.Install number leaf) h k = orders.install_row s from number leaf h k.0.sender k.1
  turn-fine s from (letter.Installed number name) h k = letters.installed_row s from number h
  turn-fine s from letter.Notice h k = notice_row s from h
  turn-fine s from other h k = fine-still s h
