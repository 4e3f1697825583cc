use Rattle.std.proofs.Common.{◌≡◌, ◌+◌, ◌^◌, ◌<◌, ◌≤◌, ℕ, inl, inr, true, not, Some, is_some, List, sym, ap, ◌∙◌, subst, arith}
use Rattle.std.specs.FinMap.{get, remove}
use Rattle.dds_base.specs.BrickList.{has}
use Rattle.dds_base.specs.Name.{Name, overlaps}
use Rattle.dds_base.specs.declared.leaf.Leaf.{Leaf}
use Rattle.dds_base.specs.declared.name.TheConstants.{DEPTH}
use Rattle.dds_brick_rows.specs.Refusal.{is_join}
use Rattle.dds_cluster.specs.declared.trace.Made.{Made}
use Rattle.dds_groups.specs.Leaves.{sibling}
use Rattle.dds_groups.specs.Names.{low_half, other_half}
use Rattle.dds_law_leaf.proofs.Maps.{each-is}
use Rattle.dds_law_own.proofs.Changes.{own, served}
use Rattle.dds_law_own.proofs.Disjoint.{Has, has-put, has-removed}
use Rattle.dds_law_own.proofs.Halves.{over-high, over-low}
use Rattle.dds_law_own.proofs.Lists.{each-is as own-is}
use Rattle.dds_law_own.proofs.Owned.{IsOrderly, Named, made_name, orderly}
use Rattle.dds_law_own.proofs.Parted.{IsBoth}
use Rattle.dds_orders.proofs.Covered.{finds, found}
use Rattle.dds_orders.proofs.Over.{overlaps-self}
use Rattle.dds_order_rows.specs.OwnOrder.{made_leaf}
use Rattle.dds_pairs.proofs.Copies.{OrderCopied}
use Rattle.dds_pairs.proofs.Names.{Fit, IsFit}
use Rattle.dds_parents.proofs.SplitLeaves.{SplitsIn}
use Rattle.dds_parents.specs.SplitLeaves.{HasSplitLeaf}
use Rattle.dds_script.specs.Ranges.{IsName}
use Rattle.dds_serving.proofs.Finishes.{Finish}
use Rattle.dds_serving.proofs.Finishes.Finish.{finish, goes_on}
use Rattle.dds_serving.specs.Once.{HasMadeLeaf, IsOpen}
use Rattle.dds_serving.specs.Once.HasMadeLeaf.{at_once, before}
use Rattle.dds_serving.specs.Once.IsOpen.{opens, was_open}
use Rattle.dds_states.specs.Turn.{BrickTurn}
use Rattle.dds_states.specs.declared.brick_state.BrickState.{BrickState}
use Rattle.dds_states.specs.declared.brick_state.OpenOrder.{OpenOrder}
use Rattle.dds_states.specs.declared.brick_state.OrderPhase.TheVariants.{Installing}
use Rattle.dds_states.specs.declared.brick_state.Task.TheVariants.{Split}
use Rattle.dds_trie.specs.Trie.{LeafMap, name_at, put}
use Rattle.dds_values.proofs.Leaves.{IsServed, keeps-none-new, same-keeps, whole-of}
use Rattle.dds_values.specs.Below.{LeavesKeepHeld}
use Rattle.dds_world.specs.Groups as world

-- At the end of its own split a brick serves two halves in the place of the split's leaf: they cover only keys that it covered, and pairs stay.

-- what the laws of leaves say of a brick: its leaves stand under their names, which are partitions', and an open split's is one of them; what
-- an order has copied lies under its name
pub record IsPlaced (me : ℕ) (s : BrickState) : Type 0 where
  pub both : IsBoth me (own s)
  pub named : Fit s
  pub copied : OrderCopied s.order
  pub splits : SplitsIn s.leaves s.order

-- a leaf over one of a key's names covers the key
served-over : (m : LeafMap) (name : Name) (key depth : ℕ) → name.bits < 2 ^ name.depth → depth ≤ DEPTH → name.depth ≤ depth
    → overlaps (name_at key depth) name ≡ true → Has m name → IsServed m key
served-over m name key depth few low lower over there =
    finds m DEPTH key name.depth (omega (arith, low, lower)) (subst (Has m) (sym (whole-of key depth name few lower over)) there)

halves-served : (m : LeafMap) (name : Name) (made : Leaf) (key : ℕ) → made.name ≡ low_half name → name.bits < 2 ^ name.depth → Has m name
    → IsServed (put (put (remove m name) made) (sibling made)) key → IsServed m key
halves-served m name made key half few there h =
    let at = found (put (put (remove m name) made) (sibling made)) DEPTH key h in
    let q = name_at key at.depth in
    let below = (λ (same : at.depth ≡ name.depth + 1) (over : overlaps q name ≡ true).
    let lower : name.depth ≤ at.depth = omega (arith, same) in served-over m name key at.depth few at.low lower over there) in
    elim (has-put (put (remove m name) made) (sibling made) q at.there) [
      | inl e ↦
          let is : q ≡ other_half (low_half name) = e ∙ ap other_half half in
          below (ap (λ (n : Name). n.depth) is) (over-high q name (subst (λ n. overlaps q n ≡ true) is (overlaps-self q)))
      | inr k ↦ elim (has-put (remove m name) made q k.0) [
        | inl e ↦
            let is : q ≡ low_half name = e ∙ half in
            below (ap (λ (n : Name). n.depth) is) (over-low q name (subst (λ n. overlaps q n ≡ true) is (overlaps-self q)))
        | inr j ↦ finds m DEPTH key at.depth at.low (has-removed m name q j.0).0
      ]
    ]

-- an open split: its leaf is one of the brick's, and what it has made is its low half
record IsOfBrick (s : BrickState) (p : OpenOrder) : Type 0 where
  leaf : Leaf
  fixed : p.leaf ≡ Some leaf
  name : leaf.name ≡ p.name
  there : get s.leaves p.name ≡ Some leaf
  made : (x : Leaf) → p.phase ≡ Installing x → x.name ≡ low_half p.name

of-brick : (me : ℕ) (s : BrickState) (p : OpenOrder) → IsPlaced me s → IsOpen s p → p.task ≡ Split → IsOfBrick s p
of-brick me s p h (was_open e) split =
    let it : HasSplitLeaf s.leaves p = h.splits p e (ap is_join split) in
    let its : IsOrderly me p = orderly me s.order p e h.both.0.order in
    record {
      leaf = it.leaf;
      fixed = it.fixed;
      name = (own-is (λ (l : Leaf). (l.name ≡ p.name) × (has l.list me ≡ not (is_join p.task))) p.leaf it.leaf it.fixed its.leaf).0;
      there = it.there;
      made = λ x phase.
          (own-is (λ (l : Leaf). (l.name ≡ made_name p.name p.task) × (has l.list me ≡ true)) (world.made_leaf p.phase) x
          (ap world.made_leaf phase) its.made).0
          ∙ ap (made_name p.name) split;
    }
of-brick me s p h (opens at leaf none there fixed name task phase) split =
    let is : leaf.name ≡ at = (own-is (Named me at) (get s.leaves at) leaf there (h.both.0.leaves at)).0 in
    record {
      leaf = leaf;
      fixed = fixed;
      name = sym name;
      there = ap (get s.leaves) (name ∙ is) ∙ there;
      made = λ x e. cc;
    }

-- what it serves is its low half
made-half : (s : BrickState) (p : OpenOrder) (made : Leaf) → IsOfBrick s p → p.task ≡ Split → HasMadeLeaf s.number s.made p made
    → made.name ≡ low_half p.name
made-half s p made h split (before phase) = h.made made phase
made-half s p made h split (at_once o leaf u it was fixed number count alone e) =
    let is : leaf ≡ h.leaf = the-leaf leaf h.leaf (sym was ∙ h.fixed) in
    ap (λ (l : Leaf). l.name) (e ∙ ap (made_leaf u o leaf) (it.2 ∙ split)) ∙ ap low_half (ap (λ (l : Leaf). l.name) is ∙ h.name)
  where
    the-leaf : (x y : Leaf) → Some x ≡ Some y → x ≡ y
    the-leaf x y e = cc

served-split : (m : LeafMap) (p : OpenOrder) (made : Leaf) → p.task ≡ Split
    → served m p made p.task ≡ put (put (remove m p.name) made) (sibling made)
served-split m p made e = ap (served m p made) e

pub split-keeps : (ms : List Made) (me : ℕ) (s : BrickState) (p : OpenOrder) (t : BrickTurn) → IsPlaced me s → IsOpen s p → p.task ≡ Split
    → Finish s.number s.made s.leaves p t → t.state.pairs ≡ s.pairs → LeavesKeepHeld ms s t.state
split-keeps ms me s p t h is_open split (goes_on e) pairs = same-keeps ms s t.state e pairs
split-keeps ms me s p t h is_open split (finish made has_made e) pairs =
    let it = of-brick me s p h is_open split in
    let fit : IsName it.leaf.name = each-is IsFit (get s.leaves p.name) it.leaf it.there (h.named.is.0 p.name) in
    let few : p.name.bits < 2 ^ p.name.depth = subst (λ (n : Name). n.bits < 2 ^ n.depth) it.name fit.bits in
    let half = made-half s p made it split has_made in
    keeps-none-new ms s t.state pairs
    (λ key now.
    halves-served s.leaves p.name made key half few (ap is_some it.there)
    (subst (λ m. IsServed m key) (e ∙ served-split s.leaves p made split) now))
