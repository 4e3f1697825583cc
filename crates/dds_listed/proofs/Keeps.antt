use Rattle.std.proofs.Common.{◌≡◌, ℕ, true, false, Option, Some, None, List, refl, sym, subst}
use Rattle.std.specs.List.{AllByRecursion}
use Rattle.dds_base.specs.declared.leaf.Leaf.{Leaf}
use Rattle.dds_base.specs.declared.number.NodeNo.{NodeNo}
use Rattle.dds_cluster.specs.declared.trace.Caller.{Caller}
use Rattle.dds_core.proofs.Lists.{all-map}
use Rattle.dds_core.specs.Brick.{brick_input, live_brick_turn}
use Rattle.dds_law_leaf.proofs.Book.{InCall, InLetter, InLibrary, InOrder}
use Rattle.dds_law_leaf.proofs.Libraries.{asked-goes, library-goes}
use Rattle.dds_law_leaf.proofs.Maps.{each-map, in-empty}
use Rattle.dds_letters.specs.declared.letter.Letter.{Letter}
use Rattle.dds_net.proofs.Carried.{AllCarried, Becomes, News, Sends, letters-moved, nodes-moved}
use Rattle.dds_net.proofs.Letters.{first-all}
use Rattle.dds_net.specs.Event.{Event, nothing, unheard, unasked, brick_takes, brick_told, brick_stops, library_takes, library_asked, library_stops}
use Rattle.dds_net.specs.Event.{Fits, moved}
use Rattle.dds_net.specs.Net.{Net, Node, nowhere, a_brick, a_library, Sizes, lands}
use Rattle.dds_states.specs.Turn.{BrickTurn}
use Rattle.dds_states.specs.declared.brick_state.BrickState.{BrickState}
use Rattle.dds_states.specs.declared.brick_state.OpenOrder.{OpenOrder}
use Rattle.dds_states.specs.declared.library_state.LibraryState.{LibraryState}
use Rattle.dds_states.specs.declared.library_state.OpenCall.{OpenCall}
use Rattle.dds_world.specs.Groups.{call_leaf, letter_leaf, made_leaf}
use Rattle.dds_listed.proofs.Listed.{AllAnswer, LetterOk, MembersAnswer, NodeOk}
use Rattle.dds_listed.specs.Answers.{Answers}

-- Each event keeps the invariant, where a brick's turn keeps what that brick answers for, and where what it leaves and sends has leaves
-- whose live members answer.

-- a live brick lived before, and answers for all that it answered for
pub record Before (n : Net) (k : ℕ) (t : BrickState) : Type 0 where
  pub state : BrickState
  pub here : n.node k ≡ a_brick state
  pub live : state.stopped ≡ false
  pub keeps : (leaf : Leaf) → Answers state leaf → Answers t leaf

abbrev pub WasSo : Net → ℕ → Node → Type 0
WasSo n k nowhere = Unit {0}
WasSo n k (a_brick t) = t.stopped ≡ false → Before n k t
WasSo n k (a_library s) = Unit {0}

pub itself-was : (n : Net) (k : ℕ) (x : Node) → n.node k ≡ x → WasSo n k x
itself-was n k nowhere e = tt
itself-was n k (a_brick t) e = λ live. record { state = t; here = e; live = live; keeps = λ leaf h. h }
itself-was n k (a_library s) e = tt

pub members-later : (n m : Net) → ((k : ℕ) → WasSo n k (m.node k)) → (leaf : Leaf) → MembersAnswer n leaf → MembersAnswer m leaf
members-later n m was leaf h new b t here live lists =
    let w : Before n b t = (let f : WasSo n b (a_brick t) = subst (WasSo n b) here (was b) in f live) in
    w.keeps leaf (h new b w.state w.here w.live lists)

-- what is so of all leaves of a node
pub in-order : (P Q : Leaf → Type 0) (q : Option OpenOrder) → ((leaf : Leaf) → P leaf → Q leaf) → InOrder P q → InOrder Q q
in-order P Q None f h = tt
in-order P Q (Some o) f h = (each-map P Q o.leaf f h.0, each-map P Q (made_leaf o.phase) f h.1)

in-library : (P Q : Leaf → Type 0) (s : LibraryState) → ((leaf : Leaf) → P leaf → Q leaf) → InLibrary P s → InLibrary Q s
in-library P Q s f h =
    record {
      map = λ name. each-map P Q _ f (h.map name);
      calls = all-map (InCall P) (InCall Q) s.calls (λ (x : OpenCall) q. each-map P Q (call_leaf x.phase) f q) h.calls;
    }

node-later : (n m : Net) (k : ℕ) (x : Node) → ((leaf : Leaf) → MembersAnswer n leaf → MembersAnswer m leaf) → NodeOk n k x → NodeOk m k x
node-later n m k nowhere f h = tt
node-later n m k (a_brick s) f h =
    (λ name. each-map (MembersAnswer n) (MembersAnswer m) _ f (h.0 name), in-order (MembersAnswer n) (MembersAnswer m) s.order f h.1)
node-later n m k (a_library s) f h = in-library (MembersAnswer n) (MembersAnswer m) s f h

-- what is owed of a brick's turn
pub record Gives (n m : Net) (at : ℕ) (t : BrickTurn) : Type 0 where
  pub was : WasSo n at (a_brick t.state)
  pub state : NodeOk m at (a_brick t.state)
  pub letters : AllByRecursion (λ (p : NodeNo × Letter). InLetter (MembersAnswer m) p.1) t.out.letters

abbrev pub Owes : Sizes → Net → Event → Type 0
Owes z n nothing = Unit {0}
Owes z n (unheard at from l) = Unit {0}
Owes z n (unasked at caller call o) = Unit {0}
Owes z n (brick_takes at from l s) = Gives n (moved z n (brick_takes at from l s)) at (live_brick_turn s from l)
Owes z n (brick_told at o s) = Gives n (moved z n (brick_told at o s)) at (brick_input s o)
Owes z n (brick_stops at s kept) = Unit {0}
Owes z n (library_takes at from l s) = Unit {0}
Owes z n (library_asked at caller call o s) = Unit {0}
Owes z n (library_stops at s kept) = Unit {0}

pub was-so : (z : Sizes) (n : Net) (e : Event) → Owes z n e → (k : ℕ) → WasSo n k ((moved z n e).node k)
was-so z n e h = nodes-moved (WasSo n) z n e (λ k. itself-was n k (n.node k) refl) (becomes e h)
  where
    becomes : (e : Event) → Owes z n e → Becomes (WasSo n) e
    becomes nothing h = tt
    becomes (unheard at from l) h = tt
    becomes (unasked at caller call o) h = tt
    becomes (brick_takes at from l s) h = h.was
    becomes (brick_told at o s) h = h.was
    becomes (brick_stops at s kept) h = λ live. cc
    becomes (library_takes at from l s) h = tt
    becomes (library_asked at caller call o s) h = tt
    becomes (library_stops at s kept) h = tt

news : (m : Net) (z : Sizes) (at : ℕ) (ls : List (NodeNo × Letter)) → AllByRecursion (λ (p : NodeNo × Letter). InLetter (MembersAnswer m) p.1) ls
    → News (LetterOk m) z at ls
news m z at ls h b inside =
    all-map (λ (p : NodeNo × Letter). InLetter (MembersAnswer m) p.1) (λ p. lands z p.0 b ≡ true → InLetter (MembersAnswer m) p.1) ls (λ p k e. k) h

record Done (m : Net) (z : Sizes) (e : Event) : Type 0 where
  becomes : Becomes (NodeOk m) e
  sends : Sends (LetterOk m) z e

-- all leaves that were there before
record Still (n m : Net) : Type 0 where
  nodes : (k : ℕ) → NodeOk m k (n.node k)
  letters : AllCarried (LetterOk m) n

still : (n m : Net) → ((k : ℕ) → WasSo n k (m.node k)) → AllAnswer n → Still n m
still n m was g =
    let f = members-later n m was in
    record {
      nodes = λ k. node-later n m k (n.node k) f (g.nodes k);
      letters = λ a b. all-map (LetterOk n a b) (LetterOk m a b) (n.channel a b)
          (λ (l : Letter) k. each-map (MembersAnswer n) (MembersAnswer m) (letter_leaf l) f k) (g.letters a b);
    }

done : (z : Sizes) (cs : List Caller) (n m : Net) (e : Event) → Fits z cs n e → Owes z n e → m ≡ moved z n e → Still n m → Done m z e
done z cs n m nothing f h is g = record { becomes = tt; sends = tt }
done z cs n m (unheard at from l) f h is g = record { becomes = tt; sends = tt }
done z cs n m (unasked at caller call o) f h is g = record { becomes = tt; sends = tt }
done z cs n m (brick_takes at from l s) f h is g =
    let k = subst (λ x. Gives n x at (live_brick_turn s from l)) (sym is) h in record { becomes = k.state; sends = news m z at _ k.letters }
done z cs n m (brick_told at o s) f h is g =
    let k = subst (λ x. Gives n x at (brick_input s o)) (sym is) h in record { becomes = k.state; sends = news m z at _ k.letters }
done z cs n m (brick_stops at s kept) f h is g = record { becomes = (in-empty (MembersAnswer m), tt); sends = λ b. tt }
done z cs n m (library_takes at from l s) f h is g =
    let it : InLibrary (MembersAnswer m) s = subst (NodeOk m at) f.here (g.nodes at) in
    let t = library-goes (MembersAnswer m) s from l it (first-all (LetterOk m from at) z n at from l f.letter (g.letters from at)) in
    record { becomes = t.has; sends = news m z at _ t.letters }
done z cs n m (library_asked at caller call o s) f h is g =
    let t = asked-goes (MembersAnswer m) s caller call o (subst (NodeOk m at) f.here (g.nodes at)) in
    record { becomes = t.has; sends = news m z at _ t.letters }
done z cs n m (library_stops at s kept) f h is g =
    let it : InLibrary (MembersAnswer m) s = subst (NodeOk m at) f.here (g.nodes at) in
    record { becomes = record { map = it.map; calls = it.calls }; sends = λ b. tt }

pub event-keeps : (z : Sizes) (cs : List Caller) (n : Net) (e : Event) → Fits z cs n e → Owes z n e → AllAnswer n → AllAnswer (moved z n e)
event-keeps z cs n e f h g =
    let m = moved z n e in
    let old = still n m (was-so z n e h) g in
    let d = done z cs n m e f h refl old in
    record {
      nodes = nodes-moved (NodeOk m) z n e old.nodes d.becomes;
      letters = letters-moved (LetterOk m) z cs n e f old.letters d.sends;
    }
