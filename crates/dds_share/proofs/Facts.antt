use Rattle.std.proofs.Common.{◌≡◌, ℕ, inl, inr, true, false, Some, List, sym, ap, ◌∙◌, subst}
use Rattle.std.proofs.lemmas.Bool.{cases_Bool}
use Rattle.std.specs.FinMap.{get}
use Rattle.dds_base.specs.BrickList.{has}
use Rattle.dds_base.specs.Name.{Name, overlaps}
use Rattle.dds_base.specs.NodeSet.{has_node}
use Rattle.dds_base.specs.declared.leaf.Leaf.{Leaf}
use Rattle.dds_law_notice.proofs.Views.{knows, view}
use Rattle.dds_law_own.proofs.Changes.{own}
use Rattle.dds_law_own.proofs.Keeps.{NodeOk}
use Rattle.dds_law_own.proofs.Lists.{each-is}
use Rattle.dds_law_own.proofs.Owned.{Apart, Named}
use Rattle.dds_law_own.proofs.Parted.{IsBoth}
use Rattle.dds_locks.specs.Leases as lease
use Rattle.dds_locks.specs.declared.leases.Lease.{Lease}
use Rattle.dds_net.proofs.Letters.{AllSent}
use Rattle.dds_net.proofs.Pairwise.{Pairwise}
use Rattle.dds_net.proofs.Runs.{IsBuilt}
use Rattle.dds_net.specs.Net.{Net, Sizes, a_brick, is_in, nowhere}
use Rattle.dds_order_talk.proofs.Letters as within
use Rattle.dds_order_talk.proofs.Letters.{AreWithin}
use Rattle.dds_order_talk.proofs.Members.{AskedOk}
use Rattle.dds_order_talk.specs.Seen.{OrdersTalk}
use Rattle.dds_orders.proofs.Asked.{AskedBy, Asking}
use Rattle.dds_orders.proofs.Asks.{NodeAsks}
use Rattle.dds_orders.proofs.Covered.{given-is}
use Rattle.dds_orders.proofs.Leases.{Clear, clear-others, given-other, other-holder}
use Rattle.dds_parents.proofs.Keeps.{AreListed, Gone, known-gone}
use Rattle.dds_parents.proofs.Splits.{AreSplit}
use Rattle.dds_states.specs.declared.brick_state.BrickState.{BrickState}
use Rattle.dds_states.specs.declared.brick_state.OpenOrder.{OpenOrder}
use Rattle.dds_share.proofs.Parts.{FromBrick}
use Rattle.dds_share.proofs.Turned.{lives-not}

-- What the laws below say of the nodes of a net.

pub record AreLow (z : Sizes) (n : Net) : Type 0 where
  pub listed : AreListed z n
  pub split : AreSplit z n
  pub within : AreWithin n
  pub parts : AllSent FromBrick n

-- with the conversations of orders and their members
pub record AreAll (z : Sizes) (n : Net) : Type 0 where
  pub low : AreLow z n
  pub built : IsBuilt z n
  pub talk : OrdersTalk n

-- two leases of two holders
pub leases-apart : (ls : List Lease) (x y : Name) (j k : ℕ) → Pairwise Apart ls → (j ≡ k → ⊥) → lease.is_given ls x j ≡ true → lease.is_given ls y k ≡ true
    → overlaps x y ≡ false
leases-apart ls x y j k apart ne g h =
    let rest = lease.released ls y k in
    let still : lease.is_given rest x j ≡ true = given-other ls x y j k (other-holder x y j k (λ e. ne (sym e))) ∙ g in
    let it = given-is (Clear y) rest x j (clear-others ls y k h apart) still in
    subst (λ i. overlaps i y ≡ false) it.1 it.2

module _ (z : Sizes) (n : Net) (g : AreAll z n) where
  pub both-of : (k : ℕ) (s : BrickState) → n.node k ≡ a_brick s → IsBoth k (own s)
  both-of k s here = subst (NodeOk k) here (g.low.listed.asked.own k)

  pub lists-itself : (k : ℕ) (s : BrickState) (q : Name) (leaf : Leaf) → n.node k ≡ a_brick s → get s.leaves q ≡ Some leaf → has leaf.list k ≡ true
  lists-itself k s q leaf here e = (each-is (Named k q) (get s.leaves q) leaf e ((both-of k s here).0.leaves q)).1

  pub asking-of : (k : ℕ) (s : BrickState) (o : OpenOrder) → n.node k ≡ a_brick s → s.order ≡ Some o → Asking k s.known o
  asking-of k s o here e = let all : AskedBy k s.known s.order = subst (NodeAsks k) here (g.low.listed.asked.asks k) in all o e

  pub asked-of : (k : ℕ) (s : BrickState) (o : OpenOrder) → n.node k ≡ a_brick s → s.order ≡ Some o → AskedOk k s.orders o
  asked-of k s o here e = let ok : within.BrickOk k s = subst (within.NodeOk k) here (g.low.within.nodes k) in ok.is.order o e

  pub inside-of : (k : ℕ) (s : BrickState) → n.node k ≡ a_brick s → is_in z k ≡ true
  inside-of k s here = elim (cases_Bool (is_in z k)) [
    | inl e ↦ e
    | inr e ↦ let no : nowhere ≡ a_brick s = sym (g.built.outside k e) ∙ here in cc
  ]

  pub gone-of : (j b : ℕ) (s : BrickState) → n.node j ≡ a_brick s → has_node s.known b ≡ true → Gone n b
  gone-of j b s here k = known-gone z n j b g.low.listed.asked.links (inside-of j s here) (ap (λ x. knows (view x) b) here ∙ k)

  pub unknown-of : (j b : ℕ) (s t : BrickState) → n.node j ≡ a_brick s → n.node b ≡ a_brick t → t.stopped ≡ false → has_node s.known b ≡ false
  unknown-of j b s t here there live = elim (cases_Bool (has_node s.known b)) [
    | inl k ↦ absurd (lives-not n b t there live (gone-of j b s here k))
    | inr k ↦ k
  ]
