use Rattle.std.proofs.Common.{◌≡◌, ℕ, zero, suc, ◌≤◌, ◌⊎◌, inl, inr, true, Option, Some, List, [], ◌∷◌, refl, sym, ap, ◌∙◌, subst, arith}
use Rattle.std.proofs.lemmas.Bool.{cases_lt}
use Rattle.std.specs.FinMap.{get}
use Rattle.std.specs.Prelude.{drop, take}
use Rattle.dds_base.specs.declared.leaf.Leaf.{Leaf}
use Rattle.dds_cluster.proofs.Sizes.{IsSized, sized-start}
use Rattle.dds_cluster.specs.Trace.{is_run, run_of, start}
use Rattle.dds_cluster.specs.World.{World}
use Rattle.dds_cluster.specs.declared.step.Step.{Step}
use Rattle.dds_core.proofs.Lists.{all-is}
use Rattle.dds_net.proofs.Nodes.{brick-node, library-node}
use Rattle.dds_net.proofs.Prefixes.{run-drop, run-split, run-take}
use Rattle.dds_net.proofs.Runs.{IsKept, run-keeps, sized-run}
use Rattle.dds_net.proofs.Ways.{travels}
use Rattle.dds_net.specs.Net.{Net, Sizes, net, sizes_of}
use Rattle.dds_script.specs.Opening.{IsOpening, OpeningOf}
use Rattle.dds_world.specs.Groups.{HasLeaf, call_leaf, letter_leaf, made_leaf}
use Rattle.dds_world.specs.Groups.HasLeaf.{in_brick, in_order, in_map, in_call, in_letter}
use Rattle.dds_world.specs.Places.{reached, world_at}
use Rattle.dds_law_leaf.proofs.Book.{AreKnown, Body, Book, BrickOk, Each, Grows, InCall, InLibrary, InOrder, Known, LetterOk, NodeOk, body}
use Rattle.dds_law_leaf.proofs.Keeps.{step-known}
use Rattle.dds_law_leaf.proofs.Maps.{each-is}
use Rattle.dds_law_leaf.proofs.Openings.{start-known}
use Rattle.dds_law_leaf.specs.Law.{LeavesAreOne}

-- The invariant holds along each run, and its book only grows; what that says of leaves in two worlds of the run.

-- there is a book that has all of an earlier one
pub record Since (b : Book) (n : Net) : Type 0 where
  pub known : AreKnown n
  pub grows : Grows b known.book

pub since-kept : (z : Sizes) (b : Book) → IsKept z (Unit {0}) (λ h n e u. tt) (λ h n u. Since b n)
since-kept z b h n e u built f g =
    let k = step-known z h.callers n e g.known f in
    record { known = k.known; grows = λ st x is. k.grows st x (g.grows st x is) }

pub known-kept : (z : Sizes) → IsKept z (Unit {0}) (λ h n e u. tt) (λ h n u. AreKnown n)
known-kept z h n e u built f g = (step-known z h.callers n e g f).known

run-known : (o : OpeningOf) (journal : List Step) → IsOpening o → is_run o journal ≡ true → AreKnown (net (sizes_of o) (reached o journal))
run-known o journal h run =
    (run-keeps (sizes_of o) (Unit {0}) (λ h n e u. tt) (λ h n u. AreKnown n) journal (start o) h.ranges.bricks (known-kept (sizes_of o))
    (record { sized = sized-start o; books = tt; is = start-known o h }) run).is

-- from a place of the run on
take-front : (journal : List Step) (at also : ℕ) → at ≤ also → take at (take also journal) ≡ take at journal
take-front journal zero also h = refl
take-front journal (suc at) zero h = absurd (omega (arith, h))
take-front [] (suc at) (suc also) h = refl
take-front (x ∷ journal) (suc at) (suc also) h = ap (λ steps. x ∷ steps) (take-front journal at also (omega (arith, h)))

later-known : (o : OpeningOf) (journal : List Step) (at : ℕ) → IsOpening o → is_run o journal ≡ true → (g : AreKnown (net (sizes_of o) (world_at o journal at)))
    → Since g.book (net (sizes_of o) (reached o journal))
later-known o journal at h run g =
    let z = sizes_of o in
    let t = run_of o (take at journal) in
    let r = run-keeps z (Unit {0}) (λ h n e u. tt) (λ h n u. Since g.book n) (drop at journal) t h.ranges.bricks (since-kept z g.book)
    (record { sized = sized-run o (take at journal); books = tt; is = record { known = g; grows = λ st x e. e } }) (run-drop (start o) journal at run) in
    subst (λ (u : _). Since g.book (net z u.world)) (run-split (start o) journal at) r.is

-- each leaf of a world is known
pub of-order : (P : Leaf → Type 0) (x y : Option Leaf) (leaf : Leaf) → Each P x × Each P y → (x ≡ Some leaf) ⊎ (y ≡ Some leaf) → P leaf
of-order P x y leaf h (inl e) = each-is P x leaf e h.0
of-order P x y leaf h (inr e) = each-is P y leaf e h.1

pub known-leaf : (z : Sizes) (w : World) (leaf : Leaf) → IsSized z.bricks z.libraries w → (g : AreKnown (net z w)) → HasLeaf w leaf → Known g.book leaf
known-leaf z _ _ sized g (in_brick w leaf it) =
    let ok : BrickOk it.brick g.book it.state = subst (NodeOk g.book it.brick) (brick-node w it.brick it.state it.there) (g.nodes it.brick) in
    each-is (Known g.book) (get it.state.leaves it.name) leaf it.is (ok.leaves it.name)
known-leaf z _ _ sized g (in_order w leaf it) =
    let ok : BrickOk it.brick g.book it.state = subst (NodeOk g.book it.brick) (brick-node w it.brick it.state it.there) (g.nodes it.brick) in
    of-order (Known g.book) it.order.leaf (made_leaf it.order.phase) leaf (subst (InOrder (Known g.book)) it.open_order ok.order) it.is
known-leaf z _ _ sized g (in_map w leaf it) =
    let ok : InLibrary (Known g.book) it.state = subst (NodeOk g.book it.node) (library-node w it.node it.state it.there) (g.nodes it.node) in
    each-is (Known g.book) (get it.state.map it.name) leaf it.is (ok.map it.name)
known-leaf z _ _ sized g (in_call w leaf it) =
    let ok : InLibrary (Known g.book) it.state = subst (NodeOk g.book it.node) (library-node w it.node it.state it.there) (g.nodes it.node) in
    each-is (Known g.book) (call_leaf it.call.phase) leaf it.is (all-is (InCall (Known g.book)) it.state.calls it.at it.call ok.calls it.open_call)
known-leaf z _ _ sized g (in_letter w leaf it) =
    each-is (Known g.book) (letter_leaf it.sent) leaf it.is
    (travels (LetterOk g.book it.from it.to) z w it.from it.to it.sent sized it.travels (g.letters it.from it.to))

-- two leaves by one book
same-body : (x : Option Body) (a b : Body) → x ≡ Some a → x ≡ Some b → a ≡ b
same-body x a b e f = let g : Some a ≡ Some b = sym e ∙ f in cc

bodies : (c : Book) (a b : Leaf) → Known c a → Known c b → a.stamp ≡ b.stamp → body a ≡ body b
bodies c a b h k e = same-body (c b.stamp) (body a) (body b) (sym (ap c e) ∙ h) k

alike : (c : Book) (a b : Leaf) → Known c a → Known c b → a.stamp ≡ b.stamp → record a { name = b.name } ≡ b
alike c a b h k e =
    let p = bodies c a b h k e in
    λ i. record { name = b.name; epoch = (p i).epoch; stamp = e i; prev = (p i).prev; list = (p i).list }

renamed : (a b : Leaf) → a.name ≡ b.name → a ≡ record a { name = b.name }
renamed a b e = λ i. record { name = e i; epoch = a.epoch; stamp = a.stamp; prev = a.prev; list = a.list }

-- the first one at an earlier place than the second one, or at the same one
before : (o : OpeningOf) (journal : List Step) (at : ℕ) (a b : Leaf) → IsOpening o → is_run o journal ≡ true → HasLeaf (world_at o journal at) a
    → HasLeaf (reached o journal) b → a.stamp ≡ b.stamp → record a { name = b.name } ≡ b
before o journal at a b h run there here e =
    let z = sizes_of o in
    let g = run-known o (take at journal) h (run-take (start o) journal at run) in
    let s = later-known o journal at h run g in
    let first = known-leaf z (world_at o journal at) a (sized-run o (take at journal)) g there in
    alike s.known.book a b (s.grows a.stamp (body a) first) (known-leaf z (reached o journal) b (sized-run o journal) s.known here) e

ordered : (o : OpeningOf) (journal : List Step) (at also : ℕ) (a b : Leaf) → at ≤ also → IsOpening o → is_run o journal ≡ true
    → HasLeaf (world_at o journal at) a → HasLeaf (world_at o journal also) b → a.stamp ≡ b.stamp → record a { name = b.name } ≡ b
ordered o journal at also a b le h run there here e =
    before o (take also journal) at a b h (run-take (start o) journal also run)
    (subst (λ steps. HasLeaf (reached o steps) a) (sym (take-front journal at also le)) there) here e

swapped : (a b : Leaf) → record b { name = a.name } ≡ a → record a { name = b.name } ≡ b
swapped a b p = sym (ap (λ (x : Leaf). record x { name = b.name }) p)

ever : (o : OpeningOf) (journal : List Step) (at also : ℕ) (a b : Leaf) → (at ≤ also) ⊎ (also ≤ at) → IsOpening o → is_run o journal ≡ true
    → HasLeaf (world_at o journal at) a → HasLeaf (world_at o journal also) b → a.stamp ≡ b.stamp → record a { name = b.name } ≡ b
ever o journal at also a b (inl le) h run there here e = ordered o journal at also a b le h run there here e
ever o journal at also a b (inr le) h run there here e = swapped a b (ordered o journal also at b a le h run here there (sym e))

either : (at also : ℕ) → (at ≤ also) ⊎ (also ≤ at)
either at also = elim (cases_lt at also) [ inl h ↦ inl (omega (arith, h)) | inr h ↦ inr h ]

here : (o : OpeningOf) (journal : List Step) (a b : Leaf) → IsOpening o → is_run o journal ≡ true → HasLeaf (reached o journal) a
    → HasLeaf (reached o journal) b → a.name ≡ b.name → a.stamp ≡ b.stamp → a ≡ b
here o journal a b h run at also name e =
    let g = run-known o journal h run in
    let z = sizes_of o in
    let first = known-leaf z (reached o journal) a (sized-run o journal) g at in
    renamed a b name ∙ alike g.book a b first (known-leaf z (reached o journal) b (sized-run o journal) g also) e

pub leaves-are-one : LeavesAreOne
leaves-are-one o journal h run =
    record {
      here = λ a b at also name e. here o journal a b h run at also name e;
      ever = λ at also a b there now e. ever o journal at also a b (either at also) h run there now e;
    }
