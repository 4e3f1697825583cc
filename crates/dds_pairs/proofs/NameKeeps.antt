use Rattle.std.proofs.Common.{◌≡◌, ℕ, ◌≤◌, ◌⊎◌, inl, inr, true, Option, Some, List, [], refl, sym, subst}
use Rattle.std.specs.FinMap.{get}
use Rattle.std.specs.List.{AllByRecursion}
use Rattle.std.specs.Prelude.{filter, ◌+◌, ◌-◌, ◌==◌}
use Rattle.dds_base.specs.BrickList.{has}
use Rattle.dds_base.specs.declared.leaf.Leaf.{Leaf}
use Rattle.dds_base.specs.declared.number.NodeNo.{NodeNo}
use Rattle.dds_cluster.proofs.Sizes.{IsSized, sized-start}
use Rattle.dds_cluster.specs.Trace.{is_run, start}
use Rattle.dds_cluster.specs.World.{World, new_brick}
use Rattle.dds_cluster.specs.declared.step.Step.{Step}
use Rattle.dds_cluster.specs.declared.trace.Caller.{Caller}
use Rattle.dds_core.proofs.Lists.{all-filter, all-is, all-map}
use Rattle.dds_law_leaf.proofs.Book.{Each, InCall, InLetter, InLibrary, InMap}
use Rattle.dds_law_leaf.proofs.Libraries.{asked-goes, library-goes}
use Rattle.dds_law_leaf.proofs.Maps.{each-is, in-all, in-empty}
use Rattle.dds_law_own.proofs.Changes.{own}
use Rattle.dds_law_own.proofs.Keeps.{NodeOk}
use Rattle.dds_law_own.proofs.Lists.{each-is as each-named}
use Rattle.dds_law_own.proofs.Owned.{Named}
use Rattle.dds_law_own.proofs.Parted.{IsBoth}
use Rattle.dds_letters.specs.declared.letter.Letter.{Letter}
use Rattle.dds_net.proofs.Carried.{AllCarried, Becomes, News, Sends, letters-moved, nodes-moved}
use Rattle.dds_net.proofs.Letters.{first-all}
use Rattle.dds_net.proofs.Nodes.{brick-node, library-node}
use Rattle.dds_net.proofs.Opening.{IsNew, new_a_brick, new_a_library, no_node, start-channel, start-node}
use Rattle.dds_net.proofs.Runs.{IsKept, run-keeps, sized-run}
use Rattle.dds_net.proofs.Ways.{travels}
use Rattle.dds_net.specs.Event.{Event, nothing, unheard, unasked, brick_takes, brick_told, brick_stops, library_takes, library_asked, library_stops}
use Rattle.dds_net.specs.Event.{Fits as Happens}
use Rattle.dds_net.specs.Net.{Net, Node, nowhere, a_brick, a_library, Sizes, lands, net, sizes_of}
use Rattle.dds_script.specs.Opening.{IsOpening, IsPlaced, OpeningOf}
use Rattle.dds_states.specs.declared.brick_state.BrickState.{BrickState}
use Rattle.dds_world.specs.Groups.{HasLeaf, call_leaf, letter_leaf, made_leaf}
use Rattle.dds_world.specs.Groups.HasLeaf.{in_brick, in_order, in_map, in_call, in_letter}
use Rattle.dds_world.specs.Places.{reached}
use Rattle.dds_pairs.proofs.Keeps.{AreCopied, copied-kept, run-copied}
use Rattle.dds_pairs.proofs.NameTurns.{Keyed, brick-fits, order-fits}
use Rattle.dds_pairs.proofs.Names.{Fit, FitLetters, FitOrder, IsFit}
use Rattle.dds_pairs.specs.Names.{LeavesHaveNames}

-- Each event keeps that leaves have partitions' names, over what is so of one brick's leaves; and what it says of runs.

abbrev pub NodeNamed : ℕ → Node → Type 0
NodeNamed k nowhere = Unit {0}
NodeNamed k (a_brick s) = Fit s
NodeNamed k (a_library s) = InLibrary IsFit s

abbrev LetterNamed : ℕ → ℕ → Letter → Type 0
LetterNamed a b l = InLetter IsFit l

pub record AreNamed (z : Sizes) (n : Net) : Type 0 where
  pub copied : AreCopied z n
  pub nodes : (k : ℕ) → NodeNamed k (n.node k)
  pub letters : AllCarried LetterNamed n

news : (z : Sizes) (at : ℕ) (ls : List (NodeNo × Letter)) → FitLetters ls → News LetterNamed z at ls
news z at ls h b inside =
    all-map (λ (p : NodeNo × Letter). InLetter IsFit p.1) (λ p. lands z p.0 b ≡ true → InLetter IsFit p.1) ls (λ p k e. k) h

pub keyed-at : (at : ℕ) (s : BrickState) → IsBoth at (own s) → Keyed s.leaves
keyed-at at s h name leaf e = (each-named (Named at name) (get s.leaves name) leaf e (h.0.leaves name)).0

-- what a brick and a library owe
record Owes (z : Sizes) (n : Net) (e : Event) : Type 0 where
  becomes : Becomes NodeNamed e
  sends : Sends LetterNamed z e

owes : (z : Sizes) (cs : List Caller) (n : Net) (e : Event) → Happens z cs n e → AreNamed z n → Owes z n e
owes z cs n nothing f g = record { becomes = tt; sends = tt }
owes z cs n (unheard at from l) f g = record { becomes = tt; sends = tt }
owes z cs n (unasked at caller call o) f g = record { becomes = tt; sends = tt }
owes z cs n (brick_takes at from l s) f g =
    let both : IsBoth at (own s) = subst (NodeOk at) f.here (g.copied.own at) in
    let it : Fit s = subst (NodeNamed at) f.here (g.nodes at) in
    let t = brick-fits s from l (keyed-at at s both) it (first-all (LetterNamed from at) z n at from l f.letter (g.letters from at)) in
    record { becomes = t.state; sends = news z at _ t.letters }
owes z cs n (brick_told at o s) f g =
    let it : Fit s = subst (NodeNamed at) f.here (g.nodes at) in
    let t = order-fits s o it in
    record { becomes = t.state; sends = news z at _ t.letters }
owes z cs n (brick_stops at s kept) f g = record { becomes = record { is = (in-empty IsFit, tt) }; sends = λ b. tt }
owes z cs n (library_takes at from l s) f g =
    let it : InLibrary IsFit s = subst (NodeNamed at) f.here (g.nodes at) in
    let t = library-goes IsFit s from l it (first-all (LetterNamed from at) z n at from l f.letter (g.letters from at)) in
    record { becomes = t.has; sends = news z at _ t.letters }
owes z cs n (library_asked at caller call o s) f g =
    let t = asked-goes IsFit s caller call o (subst (NodeNamed at) f.here (g.nodes at)) in
    record { becomes = t.has; sends = news z at _ t.letters }
owes z cs n (library_stops at s kept) f g =
    let it : InLibrary IsFit s = subst (NodeNamed at) f.here (g.nodes at) in
    record { becomes = record { map = it.map; calls = it.calls }; sends = λ b. tt }

pub named-kept : (z : Sizes) → z.bricks ≤ 64 → z.libraries ≤ 16 → IsKept z (Unit {0}) (λ h n e u. tt) (λ h n u. AreNamed z n)
named-kept z few some h n e u built f g =
    let k = owes z h.callers n e f g in
    record {
      copied = copied-kept z few some h n e u built f g.copied;
      nodes = nodes-moved NodeNamed z n e g.nodes k.becomes;
      letters = letters-moved LetterNamed z h.callers n e f g.letters k.sends;
    }

-- the opening
opening-fit : (o : OpeningOf) → IsOpening o → AllByRecursion IsFit o.leaves
opening-fit o h = all-map (IsPlaced o.bricks) IsFit o.leaves (λ l k. k.name) h.leaves

start-named : (o : OpeningOf) (k : ℕ) (x : Node) → IsOpening o → IsNew o k x → NodeNamed k x
start-named o k x h (no_node e) = subst (NodeNamed k) (sym e) tt
start-named o k x h (new_a_brick e) =
    let mine = all-filter IsFit (λ (l : Leaf). has l.list k) o.leaves (opening-fit o h) in
    let leaves : InMap IsFit (new_brick o.leaves k).leaves = in-all IsFit _ (filter (λ (l : Leaf). has l.list k) o.leaves) mine (in-empty IsFit) in
    subst (NodeNamed k) (sym e) (record { is = (leaves, tt) })
start-named o k x h (new_a_library high e) =
    let n = k - 64 in
    let old = all-map (IsPlaced o.bricks) IsFit o.old (λ l i. i.name) h.old in
    let mine = all-filter IsFit (λ (l : Leaf). l.stamp.maker == 64 + n) o.old old in
    subst (NodeNamed k) (sym e) (record {
      map = in-all IsFit _ (filter (λ (l : Leaf). l.stamp.maker == 64 + n) o.old) mine (in-all IsFit _ o.leaves (opening-fit o h) (in-empty IsFit));
      calls = tt;
    })

pub start-names : (o : OpeningOf) → IsOpening o → AreNamed (sizes_of o) (net (sizes_of o) (start o).world)
start-names o h =
    record {
      copied = run-copied o [] h refl;
      nodes = λ k. start-named o k _ h (start-node o k);
      letters = λ a b. subst (AllByRecursion (LetterNamed a b)) (sym (start-channel o a b)) tt;
    }

pub run-named : (o : OpeningOf) (journal : List Step) → IsOpening o → is_run o journal ≡ true → AreNamed (sizes_of o) (net (sizes_of o) (reached o journal))
run-named o journal h run =
    let z = sizes_of o in
    (run-keeps z (Unit {0}) (λ h n e u. tt) (λ h n u. AreNamed z n) journal (start o) h.ranges.bricks (named-kept z h.ranges.bricks h.ranges.libraries)
    (record { sized = sized-start o; books = tt; is = start-names o h }) run).is

-- each leaf of a world
of-order : (x y : Option Leaf) (leaf : Leaf) → Each IsFit x → Each IsFit y → (x ≡ Some leaf) ⊎ (y ≡ Some leaf) → IsFit leaf
of-order x y leaf h k (inl e) = each-is IsFit x leaf e h
of-order x y leaf h k (inr e) = each-is IsFit y leaf e k

named-leaf : (z : Sizes) (w : World) (leaf : Leaf) → IsSized z.bricks z.libraries w → AreNamed z (net z w) → HasLeaf w leaf → IsFit leaf
named-leaf z _ _ sized g (in_brick w leaf it) =
    let ok : Fit it.state = subst (NodeNamed it.brick) (brick-node w it.brick it.state it.there) (g.nodes it.brick) in
    each-is IsFit (get it.state.leaves it.name) leaf it.is (ok.is.0 it.name)
named-leaf z _ _ sized g (in_order w leaf it) =
    let ok : Fit it.state = subst (NodeNamed it.brick) (brick-node w it.brick it.state it.there) (g.nodes it.brick) in
    let its : FitOrder (Some it.order) = subst FitOrder it.open_order ok.is.1 in
    of-order it.order.leaf (made_leaf it.order.phase) leaf its.0 its.1 it.is
named-leaf z _ _ sized g (in_map w leaf it) =
    let ok : InLibrary IsFit it.state = subst (NodeNamed it.node) (library-node w it.node it.state it.there) (g.nodes it.node) in
    each-is IsFit (get it.state.map it.name) leaf it.is (ok.map it.name)
named-leaf z _ _ sized g (in_call w leaf it) =
    let ok : InLibrary IsFit it.state = subst (NodeNamed it.node) (library-node w it.node it.state it.there) (g.nodes it.node) in
    each-is IsFit (call_leaf it.call.phase) leaf it.is (all-is (InCall IsFit) it.state.calls it.at it.call ok.calls it.open_call)
named-leaf z _ _ sized g (in_letter w leaf it) =
    each-is IsFit (letter_leaf it.sent) leaf it.is (travels (LetterNamed it.from it.to) z w it.from it.to it.sent sized it.travels (g.letters it.from it.to))

pub leaves-named : LeavesHaveNames
leaves-named o journal leaf h run there = named-leaf (sizes_of o) (reached o journal) leaf (sized-run o journal) (run-named o journal h run) there
