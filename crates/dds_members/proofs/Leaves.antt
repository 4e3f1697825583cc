use Rattle.std.proofs.Common.{◌≡◌, ℕ, ◌-◌, ◌⊎◌, inl, inr, true, Option, Some, None, List, refl, sym, subst}
use Rattle.std.specs.FinMap.{get}
use Rattle.dds_base.specs.Number.{Txn}
use Rattle.dds_base.specs.declared.leaf.Leaf.{Leaf}
use Rattle.dds_books.proofs.Numbers.{is-ok}
use Rattle.dds_books.proofs.PlacedFirst.{start-placed}
use Rattle.dds_books.proofs.Placing.{placed-kept}
use Rattle.dds_books.specs.Placed.{AnswerOk, ArePlaced, BallotOk, BrickOk, DenialOk, LeafOk, LeavesOk, LetterOk, LibraryOk, Made, NodeOk, OfSome, OrderOk}
use Rattle.dds_books.specs.Placed.{OrderPhaseOk, RefusalOk, WantedOk}
use Rattle.dds_cluster.proofs.Sizes.{IsSized, sized-start}
use Rattle.dds_cluster.specs.Trace.{is_run, start}
use Rattle.dds_cluster.specs.World.{World, new_library}
use Rattle.dds_cluster.specs.declared.step.Step.{Step}
use Rattle.dds_cluster.specs.declared.trace.Caller.{Caller}
use Rattle.dds_core.proofs.Lists.{all-is}
use Rattle.dds_law_leaf.proofs.Book.{Each, InCall, InLetter, InLibrary, InMap}
use Rattle.dds_law_leaf.proofs.Libraries.{asked-goes, library-goes}
use Rattle.dds_law_leaf.proofs.Maps.{each-is}
use Rattle.dds_letters.specs.declared.letter.Letter.{Letter}
use Rattle.dds_letters.specs.declared.letter.Letter.TheVariants as letter
use Rattle.dds_letters.specs.declared.refusal.Answer.{Answer}
use Rattle.dds_letters.specs.declared.refusal.Answer.TheVariants as answer
use Rattle.dds_letters.specs.declared.refusal.Ballot.{Ballot}
use Rattle.dds_letters.specs.declared.refusal.Ballot.TheVariants as ballot
use Rattle.dds_letters.specs.declared.refusal.Denial.{Denial}
use Rattle.dds_letters.specs.declared.refusal.Denial.TheVariants as denial
use Rattle.dds_letters.specs.declared.refusal.Refusal.{Refusal}
use Rattle.dds_letters.specs.declared.refusal.Refusal.TheVariants as refusal
use Rattle.dds_letters.specs.declared.refusal.Wanted.{Wanted}
use Rattle.dds_letters.specs.declared.refusal.Wanted.TheVariants as wanted
use Rattle.dds_net.proofs.Carried.{Becomes, nodes-moved}
use Rattle.dds_net.proofs.Letters.{first-all}
use Rattle.dds_net.proofs.Nodes.{brick-node, library-node}
use Rattle.dds_net.proofs.Opening.{IsNew, new_a_brick, new_a_library, no_node, start-node}
use Rattle.dds_net.proofs.Rungs.{Both, IsKeptOver, both_books, kept-over}
use Rattle.dds_net.proofs.Runs.{run-keeps, sized-run}
use Rattle.dds_net.proofs.Ways.{travels}
use Rattle.dds_net.specs.Event.{Event, nothing, unheard, unasked, brick_takes, brick_told, brick_stops, library_takes, library_asked, library_stops}
use Rattle.dds_net.specs.Event.{Fits}
use Rattle.dds_net.specs.Net.{Net, Node, nowhere, a_brick, a_library, Sizes, net, node_at, sizes_of}
use Rattle.dds_script.specs.Opening.{IsOpening, OpeningOf}
use Rattle.dds_states.specs.declared.brick_state.OrderPhase.{OrderPhase}
use Rattle.dds_states.specs.declared.brick_state.OrderPhase.TheVariants.{Copying, Installing, Leasing}
use Rattle.dds_trie.specs.Trie.{LeafMap}
use Rattle.dds_world.specs.Groups.{HasLeaf, answer_leaf, ballot_leaf, call_leaf, denial_leaf, letter_leaf, made_leaf, refusal_leaf, wanted_leaf}
use Rattle.dds_world.specs.Groups.HasLeaf.{in_brick, in_order, in_map, in_call, in_letter}
use Rattle.dds_world.specs.Places.{reached}
use Rattle.dds_members.specs.Law.{LeavesListOnce}

-- Each leaf that stands anywhere lists bricks of the cluster, each once. The law of nodes' places has it of what bricks and letters hold; of
-- the leaves in a library's open calls it is kept here.

-- leaves in letters
some-each : (P : Leaf → Type 0) (q : Option Leaf) → OfSome P q → Each P q
some-each P None h = tt
some-each P (Some leaf) h = h

each-some : (P : Leaf → Type 0) (q : Option Leaf) → ((leaf : Leaf) → q ≡ Some leaf → P leaf) → Each P q
each-some P None f = tt
each-some P (Some leaf) f = f leaf refl

refusal-each : (z : Sizes) (r : Refusal) → RefusalOk z r → Each (LeafOk z) (refusal_leaf r)
refusal-each z refusal.Lease h = tt
refusal-each z refusal.Lock h = tt
refusal-each z (refusal.Stale leaf) h = some-each (LeafOk z) leaf h

denial-each : (z : Sizes) (d : Denial) → DenialOk z d → Each (LeafOk z) (denial_leaf d)
denial-each z (denial.Refused why) h = refusal-each z why h
denial-each z denial.Full h = tt

answer-each : (z : Sizes) (a : Answer) → AnswerOk z a → Each (LeafOk z) (answer_leaf a)
answer-each z answer.Absent h = tt
answer-each z (answer.Value value) h = tt
answer-each z (answer.Refused why) h = refusal-each z why h

ballot-each : (z : Sizes) (b : Ballot) → BallotOk z b → Each (LeafOk z) (ballot_leaf b)
ballot-each z ballot.Yes h = tt
ballot-each z (ballot.No why) h = denial-each z why h

wanted-each : (z : Sizes) (w : Wanted) → WantedOk z w → Each (LeafOk z) (wanted_leaf w)
wanted-each z (wanted.Name name) h = tt
wanted-each z (wanted.Leaf leaf) h = h

letter-each : (T : Txn → Type 0) (z : Sizes) (a b : ℕ) (l : Letter) → LetterOk T z a b l → InLetter (LeafOk z) l
letter-each T z a b (letter.Push leaf) h = h.1
letter-each T z a b (letter.Got txn what) h = answer-each z what h.1
letter-each T z a b (letter.Vote txn vote) h = ballot-each z vote h.1
letter-each T z a b (letter.MapTell txn leaf) h = some-each (LeafOk z) leaf h.1
letter-each T z a b (letter.Lease number what) h = wanted-each z what h.1
letter-each T z a b (letter.Granted number leaf) h = h.1
letter-each T z a b (letter.LeaseRefused number why) h = refusal-each z why h.1
letter-each T z a b (letter.Install number leaf) h = h.1
letter-each T z a b other h = tt

phase-each : (z : Sizes) (p : OrderPhase) → OrderPhaseOk z p → Each (LeafOk z) (made_leaf p)
phase-each z Leasing h = tt
phase-each z (Copying source) h = tt
phase-each z (Installing made) h = h

in-map : (z : Sizes) (m : LeafMap) → LeavesOk z m → InMap (LeafOk z) m
in-map z m h name = each-some (LeafOk z) (get m name) (h name)

-- leaves at libraries
abbrev NodeLists : Sizes → ℕ → Node → Type 0
NodeLists z k nowhere = Unit {0}
NodeLists z k (a_brick s) = Unit {0}
NodeLists z k (a_library s) = InLibrary (LeafOk z) s

abbrev LibrariesList : Sizes → Net → Type 0
LibrariesList z n = (k : ℕ) → NodeLists z k (n.node k)

becomes : (z : Sizes) (cs : List Caller) (n : Net) (e : Event) → Fits z cs n e → ArePlaced z n → LibrariesList z n → Becomes (NodeLists z) e
becomes z cs n nothing f g h = tt
becomes z cs n (unheard at from l) f g h = tt
becomes z cs n (unasked at caller call o) f g h = tt
becomes z cs n (brick_takes at from l s) f g h = tt
becomes z cs n (brick_told at o s) f g h = tt
becomes z cs n (brick_stops at s kept) f g h = tt
becomes z cs n (library_takes at from l s) f g h =
    (library-goes (LeafOk z) s from l (subst (NodeLists z at) f.here (h at))
    (letter-each (Made n) z from at l (first-all (LetterOk (Made n) z from at) z n at from l f.letter (g.letters from at)))).has
becomes z cs n (library_asked at caller call o s) f g h =
    (asked-goes (LeafOk z) s caller call o (subst (NodeLists z at) f.here (h at))).has
becomes z cs n (library_stops at s kept) f g h =
    let ok : InLibrary (LeafOk z) s = subst (NodeLists z at) f.here (h at) in record { map = ok.map; calls = ok.calls }

lists-over : (z : Sizes) → IsKeptOver z (Unit {0}) (λ h n e a. tt) (λ h n a. ArePlaced z n) (Unit {0}) (λ h n e a b. tt) (λ h n a b. LibrariesList z n)
lists-over z h n e a b built f before after g = nodes-moved (NodeLists z) z n e g (becomes z h.callers n e f before g)

-- the opening
new-lists : (T : Txn → Type 0) (o : OpeningOf) (k : ℕ) (x : Node) → NodeOk T (sizes_of o) k x → IsNew o k x → NodeLists (sizes_of o) k x
new-lists T o k x h (no_node e) = subst (NodeLists (sizes_of o) k) (sym e) tt
new-lists T o k x h (new_a_brick e) = subst (NodeLists (sizes_of o) k) (sym e) tt
new-lists T o k x h (new_a_library high e) =
    let s = new_library o (k - 64) in
    let ok : LibraryOk (sizes_of o) k s = subst (NodeOk T (sizes_of o) k) e h in
    subst (NodeLists (sizes_of o) k) (sym e) (record { map = in-map (sizes_of o) s.map ok.leaves; calls = tt })

pub record AllList (z : Sizes) (n : Net) : Type 0 where
  pub placed : ArePlaced z n
  pub libraries : (k : ℕ) → NodeLists z k (n.node k)

pub run-lists : (o : OpeningOf) (journal : List Step) → IsOpening o → is_run o journal ≡ true → AllList (sizes_of o) (net (sizes_of o) (reached o journal))
run-lists o journal h run =
    let z = sizes_of o in
    let first = start-placed o h in
    let kept = kept-over z (Unit {0}) (λ h n e a. tt) (λ h n a. ArePlaced z n) (Unit {0}) (λ h n e a b. tt) (λ h n a b. LibrariesList z n)
    (placed-kept z h.ranges.bricks h.ranges.libraries) (lists-over z) in
    let is = (run-keeps z (Unit {0} × Unit {0}) (both_books (λ h n e a. tt) (λ h n e a b. tt)) (Both (λ h n a. ArePlaced z n) (λ h n a b. LibrariesList z n))
    journal (start o) h.ranges.bricks kept (record {
      sized = sized-start o;
      books = (tt, tt);
      is = (first, λ k. new-lists _ o k (node_at (start o).world k) (first.nodes k) (start-node o k));
    }) run).is in
    record { placed = is.0; libraries = is.1 }

-- each leaf of a world
of-order : (z : Sizes) (at : ℕ) (x y : Option Leaf) (leaf : Leaf) → Each (LeafOk z) x → Each (LeafOk z) y → (x ≡ Some leaf) ⊎ (y ≡ Some leaf) → LeafOk z leaf
of-order z at x y leaf h k (inl e) = each-is (LeafOk z) x leaf e h
of-order z at x y leaf h k (inr e) = each-is (LeafOk z) y leaf e k

pub leaf-lists : (z : Sizes) (w : World) (leaf : Leaf) → IsSized z.bricks z.libraries w → AllList z (net z w) → HasLeaf w leaf → LeafOk z leaf
leaf-lists z _ _ sized g (in_brick w leaf it) =
    let T = Made (net z w) in
    let ok : BrickOk T z it.brick it.state = subst (NodeOk T z it.brick) (brick-node w it.brick it.state it.there) (g.placed.nodes it.brick) in
    ok.its_leaves it.name leaf it.is
leaf-lists z _ _ sized g (in_order w leaf it) =
    let T = Made (net z w) in
    let ok : BrickOk T z it.brick it.state = subst (NodeOk T z it.brick) (brick-node w it.brick it.state it.there) (g.placed.nodes it.brick) in
    let its : OrderOk z it.brick it.order = is-ok (OrderOk z it.brick) it.state.order it.order ok.its_order it.open_order in
    of-order z it.brick it.order.leaf (made_leaf it.order.phase) leaf (some-each (LeafOk z) it.order.leaf its.its_leaf)
    (phase-each z it.order.phase its.its_step) it.is
leaf-lists z _ _ sized g (in_map w leaf it) =
    let ok : InLibrary (LeafOk z) it.state = subst (NodeLists z it.node) (library-node w it.node it.state it.there) (g.libraries it.node) in
    each-is (LeafOk z) (get it.state.map it.name) leaf it.is (ok.map it.name)
leaf-lists z _ _ sized g (in_call w leaf it) =
    let ok : InLibrary (LeafOk z) it.state = subst (NodeLists z it.node) (library-node w it.node it.state it.there) (g.libraries it.node) in
    each-is (LeafOk z) (call_leaf it.call.phase) leaf it.is (all-is (InCall (LeafOk z)) it.state.calls it.at it.call ok.calls it.open_call)
leaf-lists z _ _ sized g (in_letter w leaf it) =
    let T = Made (net z w) in
    each-is (LeafOk z) (letter_leaf it.sent) leaf it.is
    (letter-each T z it.from it.to it.sent (travels (LetterOk T z it.from it.to) z w it.from it.to it.sent sized it.travels (g.placed.letters it.from it.to)))

pub leaves-list : LeavesListOnce
leaves-list o journal leaf h run there =
    (leaf-lists (sizes_of o) (reached o journal) leaf (sized-run o journal) (run-lists o journal h run) there).apart
