use Rattle.std.proofs.Common.{◌≡◌, ℕ, ◌+◌, ◌-◌, ◌<◌, ◌==◌, ◌++◌, List, [], ◌∷◌, refl, sym, ◌∙◌, subst}
use Rattle.std.specs.List.{AllByRecursion}
use Rattle.std.specs.Prelude.{filter, nat_lt}
use Rattle.dds_base.specs.BrickList.{has}
use Rattle.dds_base.specs.declared.leaf.Leaf.{Leaf}
use Rattle.dds_cluster.specs.Trace.{start}
use Rattle.dds_cluster.specs.World.{World, new_brick, new_library}
use Rattle.dds_core.proofs.Lists.{all-filter, all-front}
use Rattle.dds_net.proofs.Nodes.{brick-low}
use Rattle.dds_net.proofs.Opening.{IsNew, new_a_brick, new_a_library, no_node, start-channel, start-node}
use Rattle.dds_net.proofs.Ways.{NodeIs, is_brick, is_library, is_nowhere, node-is}
use Rattle.dds_net.specs.Net.{Node, a_brick, net, node_at, sizes_of}
use Rattle.dds_script.specs.Opening.{IsOpening, OpeningOf}
use Rattle.dds_states.specs.declared.brick_state.BrickState.{BrickState}
use Rattle.dds_law_leaf.proofs.Book.{AreKnown, Book, BrickOk, InLibrary, InMap, IsBred, Known, LetterOk, NodeOk}
use Rattle.dds_law_leaf.proofs.Maps.{in-all, in-empty}
use Rattle.dds_law_leaf.proofs.Stamps.{all_leaves, book_of, opening-known, opening-none}

-- Before the first step each leaf is one of the opening's.

pub all-back : (P : Leaf → Type 0) (xs ys : List Leaf) → AllByRecursion P (xs ++ ys) → AllByRecursion P ys
all-back P [] ys h = h
all-back P (x ∷ xs) ys h = all-back P xs ys h.1

-- a brick's number is low
low-if : (w : World) (k : ℕ) (s : BrickState) → NodeIs w k → node_at w k ≡ a_brick s → k < 64
low-if w k s (is_nowhere e) is = let no = sym e ∙ is in cc
low-if w k s (is_brick x there e) is = brick-low w k x (nat_lt k 64) refl there
low-if w k s (is_library x there e) is = let no = sym e ∙ is in cc

abbrev first_book : OpeningOf → Book
first_book o = book_of (all_leaves o)

pub start-brick : (o : OpeningOf) (k : ℕ) → IsOpening o → k < 64 → BrickOk k (first_book o) (new_brick o.leaves k)
start-brick o k h low =
    let P = Known (first_book o) in
    let mine = filter (λ (l : Leaf). has l.list k) o.leaves in
    let all = all-filter P (λ (l : Leaf). has l.list k) o.leaves (all-front P o.leaves o.old (opening-known o h)) in
    let leaves : InMap P (new_brick o.leaves k).leaves = in-all P _ mine all (in-empty P) in
    record {
      leaves = leaves;
      order = tt;
      live = λ e. record { number = refl; fresh = λ c le. opening-none o (record { maker = k; count = c }) h low; leaves = leaves; order = tt };
    }

pub start-library : (o : OpeningOf) (n : ℕ) → IsOpening o → InLibrary (Known (first_book o)) (new_library o n)
start-library o n h =
    let P = Known (first_book o) in
    let mine = filter (λ (l : Leaf). l.stamp.maker == 64 + n) o.old in
    let old = all-filter P (λ (l : Leaf). l.stamp.maker == 64 + n) o.old (all-back P o.leaves o.old (opening-known o h)) in
    record { map = in-all P _ mine old (in-all P _ o.leaves (all-front P o.leaves o.old (opening-known o h)) (in-empty P)); calls = tt }

start-ok : (o : OpeningOf) (k : ℕ) (x : Node) → IsOpening o → node_at (start o).world k ≡ x → IsNew o k x → NodeOk (first_book o) k x
start-ok o k x h is (no_node e) = subst (NodeOk (first_book o) k) (sym e) tt
start-ok o k x h is (new_a_brick e) =
    let low = low-if (start o).world k (new_brick o.leaves k) (node-is (start o).world k) (is ∙ e) in
    subst (NodeOk (first_book o) k) (sym e) (start-brick o k h low)
start-ok o k x h is (new_a_library high e) = subst (NodeOk (first_book o) k) (sym e) (start-library o (k - 64) h)

pub none-bred : (o : OpeningOf) → IsOpening o → IsBred (first_book o)
none-bred o h st x low e = let no = sym (opening-none o st h low) ∙ e in cc

pub start-known : (o : OpeningOf) → IsOpening o → AreKnown (net (sizes_of o) (start o).world)
start-known o h =
    record {
      book = first_book o;
      bred = none-bred o h;
      nodes = λ k. start-ok o k _ h refl (start-node o k);
      letters = λ a b. subst (AllByRecursion (LetterOk (first_book o) a b)) (sym (start-channel o a b)) tt;
    }
