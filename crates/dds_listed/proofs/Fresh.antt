use Rattle.std.proofs.Common.{◌≡◌, ℕ, ◌+◌, ◌≤◌, true, List, [], ◌∷◌, sym, ap, subst}
use Rattle.std.proofs.Common.{arith}
use Rattle.std.specs.FinMap.{get}
use Rattle.std.specs.List.{AllByRecursion}
use Rattle.std.specs.Prelude.{filter}
use Rattle.dds_base.specs.BrickList.{has}
use Rattle.dds_base.specs.declared.leaf.Leaf.{Leaf}
use Rattle.dds_base.specs.declared.number.NodeNo.{NodeNo}
use Rattle.dds_cluster.proofs.Sizes.{sized-start}
use Rattle.dds_cluster.specs.Trace.{is_run, start}
use Rattle.dds_cluster.specs.World.{new_brick}
use Rattle.dds_cluster.specs.declared.step.Step.{Step}
use Rattle.dds_cluster.specs.declared.trace.Caller.{Caller}
use Rattle.dds_core.proofs.Lists.{all-filter, all-map}
use Rattle.dds_law_leaf.proofs.Book.{InMap, InOrder}
use Rattle.dds_law_leaf.proofs.Maps.{each-is, in-all, in-empty}
use Rattle.dds_law_own.proofs.Changes.{own}
use Rattle.dds_law_own.proofs.Keeps as law_own
use Rattle.dds_law_own.proofs.Keeps.{of-another}
use Rattle.dds_law_own.proofs.Parted.{IsBoth}
use Rattle.dds_letters.specs.declared.letter.Letter.{Letter}
use Rattle.dds_net.proofs.Carried.{AllCarried, Becomes, News, Sends, letters-moved, nodes-moved}
use Rattle.dds_net.proofs.Letters.{first-all}
use Rattle.dds_net.proofs.Opening.{IsNew, new_a_brick, new_a_library, no_node, start-channel, start-node}
use Rattle.dds_net.proofs.Runs.{IsKept, run-keeps}
use Rattle.dds_net.specs.Event.{Event, nothing, unheard, unasked, brick_takes, brick_told, brick_stops, library_takes, library_asked, library_stops}
use Rattle.dds_net.specs.Event.{Fits, moved}
use Rattle.dds_net.specs.Net.{Net, Node, nowhere, a_brick, a_library, Sizes, lands, net, sizes_of}
use Rattle.dds_orders.proofs.Deeds.{seat}
use Rattle.dds_orders.proofs.LibraryLetters.{asked-others, library-others}
use Rattle.dds_orders.proofs.Turns.{letter-turns, order-goes}
use Rattle.dds_pairs.proofs.NameKeeps.{AreNamed, named-kept, start-names}
use Rattle.dds_script.specs.Opening.{AreOpeningLeaves, IsOpening, OpeningOf}
use Rattle.dds_world.specs.Places.{reached}
use Rattle.dds_listed.proofs.Unlisted.{OwnAreNew}
use Rattle.dds_listed.proofs.FreshTurns.{FreshLetter, FreshLetters, FreshSeat, IsFresh, letter-fresh, others-fresh, trip-fresh}

-- No leaf of a brick is one of the opening's stale leaves, which libraries alone have and push.
--
-- | part                               | why it is needed                    | what keeps it                                                              |
-- |---|---|---|
-- | `nodes`, of own leaves             | claimed                             | what is taken or installed comes in the place of an own leaf, in its epoch |
-- |                                    |                                     | or one on; what an order made is served                                    |
-- | `nodes`, of an order's leaves      | what it made is served, and is told | a split's leaf is an own one, and a join's one came with its first grant;  |
-- |                                    | in Install                          | a made leaf is one epoch on                                                |
-- | `letters`: Granted, Lease, Install | a join's leaf comes from Granted    | Granted tells an own leaf, Lease and Install an order's                    |

abbrev pub NodeFresh : ℕ → Node → Type 0
NodeFresh k nowhere = Unit {0}
NodeFresh k (a_brick s) = InMap IsFresh s.leaves × InOrder IsFresh s.order
NodeFresh k (a_library s) = Unit {0}

abbrev pub LetterFresh : ℕ → ℕ → Letter → Type 0
LetterFresh a b l = FreshLetter l

pub record BricksFresh (n : Net) : Type 0 where
  pub nodes : (k : ℕ) → NodeFresh k (n.node k)
  pub letters : AllCarried LetterFresh n

news : (z : Sizes) (at : ℕ) (ls : List (NodeNo × Letter)) → FreshLetters ls → News LetterFresh z at ls
news z at ls h b inside = all-map (λ (p : NodeNo × Letter). FreshLetter p.1) (λ p. lands z p.0 b ≡ true → FreshLetter p.1) ls (λ p k e. k) h

record Owes (z : Sizes) (e : Event) : Type 0 where
  becomes : Becomes NodeFresh e
  sends : Sends LetterFresh z e

owes : (z : Sizes) (cs : List Caller) (n : Net) (e : Event) → z.bricks ≤ 64 → z.libraries ≤ 16 → AreNamed z n → Fits z cs n e → BricksFresh n → Owes z e
owes z cs n nothing few some named f g = record { becomes = tt; sends = tt }
owes z cs n (unheard at from l) few some named f g = record { becomes = tt; sends = tt }
owes z cs n (unasked at caller call o) few some named f g = record { becomes = tt; sends = tt }
owes z cs n (brick_takes at from l s) few some named f g =
    let both : IsBoth at (own s) = subst (law_own.NodeOk at) f.here (named.copied.own at) in
    let it : FreshSeat (seat s) = subst (NodeFresh at) f.here (g.nodes at) in
    let t = letter-fresh s from l (letter-turns s from l (of-another z n at from l s few some named.copied.links f both.0.number))
    (first-all (LetterFresh from at) z n at from l f.letter (g.letters from at)) it in
    record { becomes = t.0; sends = news z at _ t.1 }
owes z cs n (brick_told at o s) few some named f g =
    let t = trip-fresh (order-goes s o).trip tt (subst (NodeFresh at) f.here (g.nodes at)) in
    record { becomes = t.0; sends = news z at _ t.1 }
owes z cs n (brick_stops at s kept) few some named f g = record { becomes = (in-empty IsFresh, tt); sends = λ b. tt }
owes z cs n (library_takes at from l s) few some named f g =
    record { becomes = tt; sends = news z at _ (others-fresh _ (library-others s from l)) }
owes z cs n (library_asked at caller call o s) few some named f g =
    record { becomes = tt; sends = news z at _ (others-fresh _ (asked-others s caller call o)) }
owes z cs n (library_stops at s kept) few some named f g = record { becomes = tt; sends = λ b. tt }

pub bricks-fresh : (z : Sizes) (cs : List Caller) (n : Net) (e : Event) → z.bricks ≤ 64 → z.libraries ≤ 16 → AreNamed z n → Fits z cs n e
    → BricksFresh n → BricksFresh (moved z n e)
bricks-fresh z cs n e few some named f g =
    let k = owes z cs n e few some named f g in
    record { nodes = nodes-moved NodeFresh z n e g.nodes k.becomes; letters = letters-moved LetterFresh z cs n e f g.letters k.sends }

-- the opening
opening-fresh : (number : ℕ) (ls : List Leaf) → AreOpeningLeaves number ls → AllByRecursion IsFresh ls
opening-fresh number [] h = tt
opening-fresh number (l ∷ ls) h =
    (subst (λ n. 1 ≤ n) (sym (ap (λ (x : Leaf). x.epoch) h.0)) (omega arith), opening-fresh (number + 1) ls h.1)

new-fresh : (o : OpeningOf) (k : ℕ) (x : Node) → IsOpening o → IsNew o k x → NodeFresh k x
new-fresh o k x h (no_node e) = subst (NodeFresh k) (sym e) tt
new-fresh o k x h (new_a_brick e) =
    let mine = all-filter IsFresh (λ (l : Leaf). has l.list k) o.leaves (opening-fresh 0 o.leaves h.numbers) in
    let leaves : InMap IsFresh (new_brick o.leaves k).leaves = in-all IsFresh _ (filter (λ (l : Leaf). has l.list k) o.leaves) mine (in-empty IsFresh) in
    subst (NodeFresh k) (sym e) (leaves, tt)
new-fresh o k x h (new_a_library high e) = subst (NodeFresh k) (sym e) tt

pub start-fresh : (o : OpeningOf) → IsOpening o → BricksFresh (net (sizes_of o) (start o).world)
start-fresh o h =
    record {
      nodes = λ k. new-fresh o k _ h (start-node o k);
      letters = λ a b. subst (AllByRecursion (LetterFresh a b)) (sym (start-channel o a b)) tt;
    }

-- along a run
fresh-kept : (z : Sizes) → z.bricks ≤ 64 → z.libraries ≤ 16 → IsKept z (Unit {0}) (λ h n e u. tt) (λ h n u. AreNamed z n × BricksFresh n)
fresh-kept z few some h n e u built f g = (named-kept z few some h n e u built f g.0, bricks-fresh z h.callers n e few some g.0 f g.1)

pub run-fresh : (o : OpeningOf) (journal : List Step) → IsOpening o → is_run o journal ≡ true → BricksFresh (net (sizes_of o) (reached o journal))
run-fresh o journal h run =
    let z = sizes_of o in
    (run-keeps z (Unit {0}) (λ h n e u. tt) (λ h n u. AreNamed z n × BricksFresh n) journal (start o) h.ranges.bricks
    (fresh-kept z h.ranges.bricks h.ranges.libraries) (record { sized = sized-start o; books = tt; is = (start-names o h, start-fresh o h) }) run).is.1

pub own-new : (n : Net) → BricksFresh n → OwnAreNew n
own-new n g k s at leaf here there =
    let its : NodeFresh k (a_brick s) = subst (NodeFresh k) here (g.nodes k) in each-is IsFresh (get s.leaves at) leaf there (its.0 at)
