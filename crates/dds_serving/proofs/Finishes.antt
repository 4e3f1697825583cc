use Rattle.std.proofs.Common.{◌≡◌, ◌⊎◌, inl, inr, ℕ, ◌+◌, Bool, true, false, Option, Some, None, List, [], ◌∷◌, refl, sym, ap, ◌∙◌}
use Rattle.std.proofs.lemmas.Bool.{both_ways}
use Rattle.std.specs.FinMap.{remove}
use Rattle.std.specs.Prelude.{if◌then◌else◌}
use Rattle.dds_base.specs.declared.leaf.Leaf.{Leaf}
use Rattle.dds_base.specs.declared.number.NodeNo.{NodeNo}
use Rattle.dds_base.specs.declared.op.OrderReply.{OrderReply}
use Rattle.dds_base.specs.declared.op.OrderReply.TheVariants as answered
use Rattle.dds_brick_rows.specs.Refusal.{is_join}
use Rattle.dds_core.specs.Notice as notices
use Rattle.dds_groups.specs.Leaves.{live, sibling}
use Rattle.dds_base.specs.NodeSet.{has_node}
use Rattle.dds_base.specs.declared.brick_list.TheConstants.{MEMBERS}
use Rattle.std.specs.Prelude.{nat_le, length}
use Rattle.dds_law_own.proofs.Changes.{Own, served}
use Rattle.dds_law_own.proofs.OrderWays.{closed-if, served-if}
use Rattle.dds_net.proofs.Puts.{if-keeps}
use Rattle.dds_order_rows.specs.OwnOrder as order
use Rattle.dds_states.specs.Turn.{BrickTurn, is_none_left, without}
use Rattle.dds_states.specs.declared.brick_state.BrickState.{BrickState}
use Rattle.dds_states.specs.declared.brick_state.OpenOrder.{OpenOrder}
use Rattle.dds_states.specs.declared.brick_state.OrderPhase.{OrderPhase}
use Rattle.dds_states.specs.declared.brick_state.OrderPhase.TheVariants.{Copying, Installing, Leasing}
use Rattle.dds_states.specs.declared.brick_state.Task.{Task}
use Rattle.dds_states.specs.declared.brick_state.Task.TheVariants.{Join, Split}
use Rattle.dds_trie.specs.Trie.{LeafMap, put}
use Rattle.dds_serving.specs.Once.{HasMadeLeaf, IsOf}
use Rattle.dds_serving.specs.Once.HasMadeLeaf.{at_once, before}

-- What the rows of a brick's own order do to its leaves: nothing, or the order's leaf is served.

pub data Finish (number count : ℕ) (m : LeafMap) (p : OpenOrder) (t : BrickTurn) : Type 0 where
  goes_on : t.state.leaves ≡ m → Finish number count m p t
  finish : (made : Leaf) → HasMadeLeaf number count p made → t.state.leaves ≡ served m p made p.task → Finish number count m p t

abbrev pub FinishOf : OpenOrder → BrickState → BrickTurn → Type 0
FinishOf p s t = Finish s.number s.made s.leaves p t

served-same : (m : LeafMap) (o p : OpenOrder) (made : Leaf) (t : Task) → o.name ≡ p.name → served m o made t ≡ served m p made t
served-same m o p made (Join via) e = refl
served-same m o p made Split e = ap (λ n. put (put (remove m n) made) (sibling made)) e

module _ (p : OpenOrder) where
  pub finish-when : (s : BrickState) (c : Bool) {t u : BrickTurn} → (c ≡ true → FinishOf p s t) → (c ≡ false → FinishOf p s u)
      → FinishOf p s (if c then t else u)
  finish-when s c {t = t} {u = u} f g = if-keeps (FinishOf p s) c t u f g

  pub ends : (s : BrickState) (o : OpenOrder) (reply : OrderReply) → FinishOf p s (order.ends s o reply)
  ends s o reply = goes_on (ap (λ (x : Own). x.leaves) (closed-if s o (is_join o.task)))

  finishes : (s : BrickState) (count : ℕ) (o : OpenOrder) (made : Leaf) → IsOf p o → HasMadeLeaf s.number count p made
      → Finish s.number count s.leaves p (order.finishes s o made)
  finishes s count o made same has_made =
      finish made has_made (ap (λ (x : Own). x.leaves) (served-if s o made o.task)
      ∙ served-same s.leaves o p made o.task same.1 ∙ ap (served s.leaves p made) same.2)

  installs_from : (s : BrickState) (o : OpenOrder) (made : Leaf) (nodes : List NodeNo) → IsOf p o → (nodes ≡ [] → HasMadeLeaf s.number s.made p made)
      → FinishOf p s (order.installs_from (record s { made = s.made + 1 }) o made nodes)
  installs_from s o made [] same has_made = finishes (record s { made = s.made + 1 }) s.made o made same (has_made refl)
  installs_from s o made (n ∷ ns) same has_made = goes_on refl

  installs : (s : BrickState) (o : OpenOrder) (leaf : Leaf) → IsOf p o → p.leaf ≡ Some leaf → o.leaf ≡ Some leaf → FinishOf p s (order.installs s o leaf)
  installs s o leaf same was fixed =
      installs_from s o (order.made_leaf s o leaf o.task) (without (order.parting s o leaf) s.number) same
      (λ alone. at_once o leaf s same was fixed refl refl alone refl)

  installs_on : (s : BrickState) (o : OpenOrder) (made : Leaf) → IsOf p o → p.phase ≡ Installing made → FinishOf p s (order.installs_on s o made)
  installs_on s o made same e = finish-when s (is_none_left o.waiting) (λ f. finishes s s.made o made same (before e)) (λ f. goes_on refl)

  copies_from : (s : BrickState) (o : OpenOrder) (nodes : List NodeNo) → FinishOf p s (order.copies_from s o nodes)
  copies_from s o [] = ends s o answered.NoSource
  copies_from s o (n ∷ ns) = goes_on refl

  -- only a join's leaf changes
  was-fixed : (o : OpenOrder) (leaf : Leaf) → o.task ≡ Split → o.leaf ≡ Some leaf → (o.leaf ≡ p.leaf) ⊎ (is_join o.task ≡ true) → p.leaf ≡ Some leaf
  was-fixed o leaf split fixed (inl same) = sym same ∙ fixed
  was-fixed o leaf split fixed (inr join) = absurd (both_ways (is_join o.task) (ap is_join split) join)

  leased_all : (s : BrickState) (o : OpenOrder) (leaf : Leaf) (t : Task) → o.task ≡ t → IsOf p o → o.leaf ≡ Some leaf
      → FinishOf p s (order.leased_all s o leaf t)
  leased_all s o leaf (Join via) is same fixed = copies_from s o (order.sources s o leaf)
  leased_all s o leaf Split is same fixed = installs s o leaf same (was-fixed o leaf is fixed same.3) fixed

  leased_all_at : (s : BrickState) (o : OpenOrder) (leaf : Option Leaf) → IsOf p o → o.leaf ≡ leaf → FinishOf p s (order.leased_all_at s o leaf)
  leased_all_at s o None same fixed = goes_on refl
  leased_all_at s o (Some leaf) same fixed = leased_all s o leaf o.task refl same fixed

  pub leases_on : (s : BrickState) (o : OpenOrder) → IsOf p o → FinishOf p s (order.leases_on s o)
  leases_on s o same = finish-when s (is_none_left o.waiting) (λ e. leased_all_at s o o.leaf same refl) (λ e. goes_on refl)

  fixing : (s : BrickState) (o : OpenOrder) (from : NodeNo) (leaf : Leaf) → is_join o.task ≡ true → IsOf p o → FinishOf p s (order.fixes s o from leaf)
  fixing s o from leaf join same =
      finish-when s (order.is_worn leaf) (λ e. ends s o answered.Worn)
      (λ e. finish-when s (nat_le MEMBERS (length (live leaf.list (has_node s.known)))) (λ f. ends s o answered.GroupFull)
      (λ f. widening (leases_on s (order.widened s o from leaf) (same.0, same.1, same.2, inr join))))
    where
      widening : FinishOf p s (order.leases_on s (order.widened s o from leaf)) → FinishOf p s (order.fixed s o from leaf)
      widening (goes_on e) = goes_on e
      widening (finish made h e) = finish made h e

  granted_join : (s : BrickState) (o : OpenOrder) (from : NodeNo) (leaf : Leaf) (q : Option Leaf) → is_join o.task ≡ true
      → IsOf p o → FinishOf p s (order.granted_join s o from leaf q)
  granted_join s o from leaf None join same = fixing s o from leaf join same
  granted_join s o from leaf (Some fixed) join same = leases_on s o same

  pub grants : (s : BrickState) (o : OpenOrder) (from : NodeNo) (leaf : Leaf) (t : Task) → o.task ≡ t → IsOf p o
      → FinishOf p s (order.grants s o from leaf t)
  grants s o from leaf (Join via) e same = granted_join s o from leaf o.leaf (ap is_join e) same
  grants s o from leaf Split e same = leases_on s o same

  copied_all : (s : BrickState) (o : OpenOrder) (leaf : Option Leaf) → IsOf p o → p.leaf ≡ leaf → o.leaf ≡ leaf → FinishOf p s (order.copied_all s o leaf)
  copied_all s o None same was fixed = goes_on refl
  copied_all s o (Some leaf) same was fixed = installs s o leaf same was fixed

  pub copied_on : (s : BrickState) (o : OpenOrder) (source : NodeNo) (last : Bool) → IsOf p o → o.leaf ≡ p.leaf
      → FinishOf p s (order.copied_on s o source last)
  copied_on s o source true same still = copied_all s o o.leaf same (sym still) refl
  copied_on s o source false same still = goes_on refl

  pub installed_in : (s : BrickState) (o : OpenOrder) (phase : OrderPhase) → p.phase ≡ phase → IsOf p o → FinishOf p s (order.installed_in s o phase)
  installed_in s o Leasing e same = goes_on refl
  installed_in s o (Copying source) e same = goes_on refl
  installed_in s o (Installing made) e same = installs_on s o made same e

  copies_again : (s : BrickState) (o : OpenOrder) (leaf : Option Leaf) → FinishOf p s (notices.copies_again s o leaf)
  copies_again s o None = goes_on refl
  copies_again s o (Some leaf) = copies_from s o (order.sources s o leaf)

  pub order_goes : (s : BrickState) (y : NodeNo) (phase : OrderPhase) → p.phase ≡ phase → FinishOf p s (notices.order_goes s p y phase)
  order_goes s y Leasing e =
      finish-when s (notices.is_lost p y p.task) (λ f. ends s p answered.NoSource)
      (λ f. leases_on s (record p { waiting = without p.waiting y }) (refl, refl, refl, inl refl))
  order_goes s y (Copying source) e = copies_again s p p.leaf
  order_goes s y (Installing made) e = installs_on s (record p { waiting = without p.waiting y }) made (refl, refl, refl, inl refl) e
