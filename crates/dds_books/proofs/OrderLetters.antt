use Rattle.std.proofs.Common.{◌≡◌, ℕ, ◌++◌, ◌==◌, Bool, true, false, Option, Some, None, List, refl, subst}
use Rattle.std.proofs.lemmas.Bool.{and_parts}
use Rattle.dds_base.specs.Name.{same_name}
use Rattle.dds_base.specs.declared.leaf.Leaf.{Leaf}
use Rattle.dds_base.specs.declared.number.NodeNo.{NodeNo}
use Rattle.dds_base.specs.declared.op.OrderReply.TheVariants as answered
use Rattle.dds_base.specs.declared.pair.Pair.{Pair}
use Rattle.dds_letters.specs.declared.letter.Letter.TheVariants as letter
use Rattle.dds_letters.specs.declared.refusal.Refusal.{Refusal}
use Rattle.dds_letters.specs.declared.refusal.Wanted.TheVariants as wanted
use Rattle.dds_net.specs.Net.{Sizes}
use Rattle.dds_order_rows.specs.OwnOrder as own_order
use Rattle.dds_states.specs.Turn.{BrickTurn, to_each, unknown_others, without}
use Rattle.dds_states.specs.declared.brick_state.BrickState.{BrickState}
use Rattle.dds_states.specs.declared.brick_state.OpenOrder.{OpenOrder}
use Rattle.dds_states.specs.declared.brick_state.OrderPhase.{OrderPhase}
use Rattle.dds_states.specs.declared.brick_state.OrderPhase.TheVariants.{Leasing, Copying, Installing}
use Rattle.dds_states.specs.declared.brick_state.Task.{Task}
use Rattle.dds_states.specs.declared.brick_state.Task.TheVariants as task
use Rattle.dds_base.specs.Number.{Txn}
use Rattle.dds_books.proofs.Fine.{Fine, between, fine-if, fine-when, fine-sends, fine-still, fine-then}
use Rattle.dds_books.proofs.Fine.{said-each}
use Rattle.dds_books.proofs.Numbers.{bricks-others}
use Rattle.dds_books.specs.Placed.{BrickOk, IsBrick, LeafOk, OfSome, OrderOk, OrderPhaseOk, TaskOk}
use Rattle.dds_books.proofs.OrderRows.{all-bricks, ends, finishes, going_on, grant-task, installs, leases_on, widened-ok, with-grant-ok}
use Rattle.dds_books.proofs.OrderRows.{with-order, with-steps}

-- Letters to a brick's open order keep the numbers in range.

module _ {T : Txn → Type 0} {z : Sizes} {at : ℕ} where
  -- Letters to the open order

  pub with-order-fine : (s : BrickState) (row : BrickState → OpenOrder → BrickTurn) (o : Option OpenOrder) → BrickOk T z at s → OfSome (OrderOk z at) o
      → ((t : BrickState) (x : OpenOrder) → o ≡ Some x → BrickOk T z at t → t.number ≡ s.number → OrderOk z at x → Fine T z at (row t x))
      → Fine T z at (own_order.with_order s row o)
  with-order-fine s row None h k f = fine-still s h
  with-order-fine s row (Some o) h k f = f (record s { order = None }) o refl (with-order s None h tt) refl k

  at-order : (s : BrickState) (number : ℕ) (test : OpenOrder → Bool) (row : BrickState → OpenOrder → BrickTurn) → BrickOk T z at s
      → ((t : BrickState) (x : OpenOrder) → test x ≡ true → BrickOk T z at t → OrderOk z at x → Fine T z at (row t x))
      → Fine T z at (own_order.at_order s number test row)
  at-order s number test row h f =
      fine-when _ _ _ (λ e. with-order-fine s row s.order h h.its_order (λ t x is g same k. f t x (tested s.order x e is) g k)) (λ e. fine-still s h)
    where
      tested : (o : Option OpenOrder) (x : OpenOrder) → own_order.is_at number test o ≡ true → o ≡ Some x → test x ≡ true
      tested None x e is = cc
      tested (Some o) x e is = let same : o ≡ x = cc in subst (λ y. test y ≡ true) same (and_parts (o.number == number) (test o) e).1

  fixed : (s : BrickState) (o : OpenOrder) (from : NodeNo) (leaf : Leaf) → BrickOk T z at s → OrderOk z at o → LeafOk z leaf
      → TaskOk at o.task (Some leaf) → Fine T z at (own_order.fixed s o from leaf)
  fixed s o from leaf h k m e =
      let asked = unknown_others leaf.list from s.known in
      fine-then _ _ (fine-sends s (to_each asked (letter.Lease o.number (wanted.Leaf leaf))) h
      (said-each T z at asked (letter.Lease o.number (wanted.Leaf leaf)) (IsBrick z) (bricks-others leaf.list from s.known m).bricks
      (λ n there. (between z at n h.inside there, m)))) (λ u g. leases_on u (own_order.widened s o from leaf) g (widened-ok s o from leaf k m e))

  fixes : (s : BrickState) (o : OpenOrder) (from : NodeNo) (leaf : Leaf) → BrickOk T z at s → OrderOk z at o → LeafOk z leaf
      → TaskOk at o.task (Some leaf) → Fine T z at (own_order.fixes s o from leaf)
  fixes s o from leaf h k m e =
      fine-if _ (ends s o answered.Worn h k) (fine-if _ (ends s o answered.GroupFull h k) (fixed s o from leaf h k m e))

  granted_join : (s : BrickState) (o : OpenOrder) (from : NodeNo) (leaf : Leaf) (own : Option Leaf) → BrickOk T z at s → OrderOk z at o → LeafOk z leaf
      → TaskOk at o.task (Some leaf) → Fine T z at (own_order.granted_join s o from leaf own)
  granted_join s o from leaf None h k m e = fixes s o from leaf h k m e
  granted_join s o from leaf (Some own) h k m e = leases_on s o h k

  grants : (s : BrickState) (o : OpenOrder) (from : NodeNo) (leaf : Leaf) (t : Task) → BrickOk T z at s → OrderOk z at o → LeafOk z leaf
      → TaskOk at o.task (Some leaf) → Fine T z at (own_order.grants s o from leaf t)
  grants s o from leaf (task.Join via) h k m e = granted_join s o from leaf o.leaf h k m e
  grants s o from leaf task.Split h k m e = leases_on s o h k

  pub granted_row : (s : BrickState) (from : NodeNo) (number : ℕ) (leaf : Leaf) → BrickOk T z at s → IsBrick z from → LeafOk z leaf
      → Fine T z at (own_order.granted_row s from number leaf)
  granted_row s from number leaf h there m =
      at-order s number (own_order.takes_grant s.number leaf) _ h (λ t o e g k.
      let both = and_parts (own_order.is_leasing o.phase) _ e in
      let fits = grant-task s.number leaf o.task (same_name leaf.name o.name) both.1 in
      grants t (own_order.with_grant o from) from leaf o.task g (with-grant-ok o from k there) m
      (subst (λ i. TaskOk i o.task (Some leaf)) h.its_number fits))

  pub lease_refused_row : (s : BrickState) (from : NodeNo) (number : ℕ) (r : Refusal) → BrickOk T z at s
      → Fine T z at (own_order.lease_refused_row s from number r)
  lease_refused_row s from number r h = at-order s number _ _ h (λ t o e g k. ends t o (answered.Refused (own_order.met_of r from)) g k)

  copied_all : (s : BrickState) (o : OpenOrder) (leaf : Option Leaf) → BrickOk T z at s → OrderOk z at o → OfSome (LeafOk z) leaf → TaskOk at o.task leaf
      → Fine T z at (own_order.copied_all s o leaf)
  copied_all s o None h k m e = going_on s o h k
  copied_all s o (Some leaf) h k m e = installs s o leaf h k m e

  copied_on : (s : BrickState) (o : OpenOrder) (source : NodeNo) (last : Bool) → BrickOk T z at s → OrderOk z at o → IsBrick z source
      → Fine T z at (own_order.copied_on s o source last)
  copied_on s o source true h k there = copied_all s o o.leaf h k k.its_leaf k.its_task
  copied_on s o source false h k there = record { after = with-order s (Some o) h k; letters = (between z at source h.inside there, tt) }

  pub copy_part_row : (s : BrickState) (from : NodeNo) (number : ℕ) (last : Bool) (pairs : List Pair) → BrickOk T z at s → IsBrick z from
      → Fine T z at (own_order.copy_part_row s from number last pairs)
  copy_part_row s from number last pairs h there =
      at-order s number _ _ h (λ t o e g k. copied_on t (record o { copied = o.copied ++ pairs }) from last g
      (with-steps o o.waiting o.phase k k.its_waiting k.its_step) there)

  pub installs_on : (s : BrickState) (o : OpenOrder) (made : Leaf) → BrickOk T z at s → OrderOk z at o → LeafOk z made
      → Fine T z at (own_order.installs_on s o made)
  installs_on s o made h k m = fine-if _ (finishes s o made h k m) (going_on s o h k)

  installed_in : (s : BrickState) (o : OpenOrder) (p : OrderPhase) → BrickOk T z at s → OrderOk z at o → OrderPhaseOk z p
      → Fine T z at (own_order.installed_in s o p)
  installed_in s o Leasing h k m = fine-still s h
  installed_in s o (Copying source) h k m = fine-still s h
  installed_in s o (Installing made) h k m = installs_on s o made h k m

  pub installed_row : (s : BrickState) (from : NodeNo) (number : ℕ) → BrickOk T z at s → Fine T z at (own_order.installed_row s from number)
  installed_row s from number h =
      at-order s number _ _ h (λ t o e g k. installed_in t (record o { waiting = without o.waiting from }) o.phase g
      (with-steps o (without o.waiting from) o.phase k (all-bricks z o.waiting from k.its_waiting) k.its_step) k.its_step)
