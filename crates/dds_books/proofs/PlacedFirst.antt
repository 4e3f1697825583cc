use Rattle.std.proofs.Common.{◌≡◌, ℕ, ◌+◌, ◌-◌, ◌≤◌, inl, inr, ◌==◌, ◌&&◌, Bool, true, false, not, Option, Some, None, List, [], ◌∷◌, refl, sym}
use Rattle.std.proofs.Common.{ap, ◌∙◌, subst, arith}
use Rattle.std.proofs.lemmas.Bool.{and_parts, cases_Bool}
use Rattle.std.specs.FinMap.{empty}
use Rattle.std.specs.List.{AllByRecursion}
use Rattle.std.specs.Prelude.{filter, length, nat_le, nat_lt}
use Rattle.dds_base.specs.BrickList.{are_bricks, has}
use Rattle.dds_base.specs.Number.{Txn}
use Rattle.dds_base.specs.declared.leaf.Leaf.{Leaf}
use Rattle.dds_cluster.proofs.Sizes.{IsSized, sized-start}
use Rattle.dds_cluster.specs.Trace.{start}
use Rattle.dds_cluster.specs.World.{World, library_at, new_brick, new_library}
use Rattle.dds_core.proofs.Lists.{all-filter, all-map}
use Rattle.dds_maps.specs.Judge.{put_all}
use Rattle.dds_net.proofs.Nodes.{Which, brick, brick-node, library, library-node, no-brick, which}
use Rattle.dds_net.proofs.Opening.{IsNew, new_a_brick, new_a_library, no_node, start-channel, start-node}
use Rattle.dds_net.proofs.Pairwise.{Pairwise}
use Rattle.dds_net.proofs.Places.{in-parts, is-in}
use Rattle.dds_net.proofs.Runs.{net-built, run-keeps}
use Rattle.dds_net.specs.Net.{nowhere, a_brick, a_library, Sizes, is_in, net, node_at, node_in, sizes_of}
use Rattle.dds_script.specs.Opening.{IsOpening, IsPlaced, OpeningOf}
use Rattle.dds_states.specs.declared.brick_state.BrickState.{BrickState}
use Rattle.dds_states.specs.declared.library_state.LibraryState.{LibraryState}
use Rattle.dds_trie.specs.Trie.{LeafMap, put}
use Rattle.dds_books.proofs.Numbers.{empty-ok, not-there, put-ok}
use Rattle.dds_books.proofs.Placing.{placed-kept}
use Rattle.dds_books.specs.Placed.{ArePlaced, BrickOk, IsBrick, LeafOk, LeavesOk, LetterOk, LibraryOk, Made, NodeOk}
use Rattle.dds_books.specs.Law.{NodesArePlaced}

-- The opening: its leaves are groups of bricks, and each node has its number.

list-apart : (list : List ℕ) → are_bricks list ≡ true → Pairwise (λ m n. m ≡ n → ⊥) list
list-apart [] h = tt
list-apart (x ∷ xs) h =
    let p = and_parts (nat_lt x 64) (not (has xs x) && are_bricks xs) h in
    let q = and_parts (not (has xs x)) (are_bricks xs) p.1 in
    (all-map (λ y. y ≡ x → ⊥) (λ y. x ≡ y → ⊥) xs (λ y ne e. ne (sym e)) (not-there xs x (no-true (has xs x) q.0)), list-apart xs q.1)
  where
    no-true : (b : Bool) → not b ≡ true → b ≡ false
    no-true true e = cc
    no-true false e = refl

opening-leaf : (o : OpeningOf) (leaf : Leaf) → IsPlaced o.bricks leaf → LeafOk (sizes_of o) leaf
opening-leaf o leaf h =
    let list = leaf.list in
    let p = and_parts (nat_le 1 (length list)) (nat_le (length list) 8 && are_bricks list) h.list.group in
    let q = and_parts (nat_le (length list) 8) (are_bricks list) p.1 in
    record { bricks = h.list.below; apart = list-apart list q.1 }

put-all-ok : (z : Sizes) (m : LeafMap) (ls : List Leaf) → LeavesOk z m → AllByRecursion (LeafOk z) ls → LeavesOk z (put_all m ls)
put-all-ok z m [] h k = h
put-all-ok z m (l ∷ ls) h k = put-all-ok z (put m l) ls (put-ok z m l h k.0) k.1

opening-leaves : (o : OpeningOf) (ls : List Leaf) → AllByRecursion (IsPlaced o.bricks) ls → AllByRecursion (LeafOk (sizes_of o)) ls
opening-leaves o ls h = all-map (IsPlaced o.bricks) (LeafOk (sizes_of o)) ls (λ l k. opening-leaf o l k) h

-- the nodes
new-brick-ok : (T : Txn → Type 0) (o : OpeningOf) (k : ℕ) → IsOpening o → IsBrick (sizes_of o) k → BrickOk T (sizes_of o) k (new_brick o.leaves k)
new-brick-ok T o k h inside =
    record {
      its_number = refl;
      inside = inside;
      its_leaves = put-all-ok (sizes_of o) empty (filter (λ (l : Leaf). has l.list k) o.leaves) (empty-ok (sizes_of o))
          (all-filter (LeafOk (sizes_of o)) (λ (l : Leaf). has l.list k) o.leaves (opening-leaves o o.leaves h.leaves));
      its_locks = (tt, tt);
      its_deferred = tt;
      its_resolving = tt;
      its_order = tt;
    }

new-library-ok : (o : OpeningOf) (k : ℕ) → IsOpening o → 64 ≤ k → is_in (sizes_of o) k ≡ true → LibraryOk (sizes_of o) k (new_library o (k - 64))
new-library-ok o k h high inside =
    record {
      its_number = omega (arith, high);
      inside = inside;
      high = high;
      its_bricks = refl;
      leaves = put-all-ok (sizes_of o) (put_all empty o.leaves) (filter (λ (l : Leaf). l.stamp.maker == 64 + (k - 64)) o.old)
          (put-all-ok (sizes_of o) empty o.leaves (empty-ok (sizes_of o)) (opening-leaves o o.leaves h.leaves))
          (all-filter (LeafOk (sizes_of o)) (λ (l : Leaf). l.stamp.maker == 64 + (k - 64)) o.old (opening-leaves o o.old h.old));
      apart = tt;
      calls = tt;
    }

-- which numbers they have
a-brick-in : (z : Sizes) (w : World) (k : ℕ) (s : BrickState) → IsSized z.bricks z.libraries w → node_at w k ≡ a_brick s → is_in z k ≡ true
a-brick-in z w k s g e = elim (cases_Bool (is_in z k)) [
  | inl h ↦ h
  | inr h ↦ let no : nowhere ≡ a_brick s = sym ((net-built z w g).outside k h) ∙ e in cc
]

a-library-in : (z : Sizes) (w : World) (k : ℕ) (s : LibraryState) → IsSized z.bricks z.libraries w → node_at w k ≡ a_library s → is_in z k ≡ true
a-library-in z w k s g e = elim (cases_Bool (is_in z k)) [
  | inl h ↦ h
  | inr h ↦ let no : nowhere ≡ a_library s = sym ((net-built z w g).outside k h) ∙ e in cc
]

nowhere-out : (z : Sizes) (w : World) (k : ℕ) → IsSized z.bricks z.libraries w → node_at w k ≡ nowhere → is_in z k ≡ false
nowhere-out z w k g e = elim (cases_Bool (is_in z k)) [
  | inl h ↦ absurd (found (which w k (is-in z w k g ∙ h)))
  | inr h ↦ h
]
  where
    found : Which w k → ⊥
    found (brick s b) = let no : nowhere ≡ a_brick s = sym e ∙ brick-node w k s b in cc
    found (library s b) = let no : nowhere ≡ a_library s = sym e ∙ library-node w k s b in cc

no-library-brick : (o : Option LibraryState) (s : BrickState) → node_in None o ≡ a_brick s → ⊥
no-library-brick None s e = cc
no-library-brick (Some x) s e = cc

is-a-brick : (z : Sizes) (w : World) (k : ℕ) (s : BrickState) → IsSized z.bricks z.libraries w → node_at w k ≡ a_brick s → IsBrick z k
is-a-brick z w k s g e = elim (in-parts z k (a-brick-in z w k s g e)) [
  | inl h ↦ h
  | inr h ↦ absurd (no-library-brick (library_at w k) s (sym (ap (λ o. node_in o (library_at w k)) (no-brick w k h.0)) ∙ e))
]

new-node : (T : Txn → Type 0) (o : OpeningOf) (k : ℕ) → IsOpening o → IsNew o k (node_at (start o).world k)
    → NodeOk T (sizes_of o) k (node_at (start o).world k)
new-node T o k h (no_node e) = subst (NodeOk T (sizes_of o) k) (sym e) (nowhere-out (sizes_of o) (start o).world k (sized-start o) e)
new-node T o k h (new_a_brick e) =
    subst (NodeOk T (sizes_of o) k) (sym e) (new-brick-ok T o k h (is-a-brick (sizes_of o) (start o).world k (new_brick o.leaves k) (sized-start o) e))
new-node T o k h (new_a_library high e) =
    subst (NodeOk T (sizes_of o) k) (sym e)
    (new-library-ok o k h high (a-library-in (sizes_of o) (start o).world k (new_library o (k - 64)) (sized-start o) e))

pub start-placed : (o : OpeningOf) → IsOpening o → ArePlaced (sizes_of o) (net (sizes_of o) (start o).world)
start-placed o h =
    let n = net (sizes_of o) (start o).world in
    record {
      nodes = λ k. new-node (Made n) o k h (start-node o k);
      letters = λ a b. subst (AllByRecursion (LetterOk (Made n) (sizes_of o) a b)) (sym (start-channel o a b)) tt;
    }

pub nodes-are-placed : NodesArePlaced
nodes-are-placed o journal h run =
    let z = sizes_of o in
    (run-keeps z (Unit {0}) (λ h n e b. tt) (λ h n b. ArePlaced z n) journal (start o) h.ranges.bricks (placed-kept z h.ranges.bricks h.ranges.libraries)
    (record { sized = sized-start o; books = tt; is = start-placed o h }) run).is
