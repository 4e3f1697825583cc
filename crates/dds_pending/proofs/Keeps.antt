use Rattle.std.proofs.Common.{◌≡◌, ℕ, ◌≤◌, inl, inr, List, refl, sym, ap, ◌∙◌, subst}
use Rattle.std.proofs.lemmas.Bool.{eq-eqb}
use Rattle.std.specs.Prelude.{if◌then◌else◌}
use Rattle.dds_base.specs.NodeSet.{has_node}
use Rattle.dds_base.specs.declared.node_set.NodeSet.{NodeSet}
use Rattle.dds_base.specs.declared.number.NodeNo.{NodeNo}
use Rattle.dds_cluster.specs.declared.trace.Caller.{Caller}
use Rattle.dds_core.proofs.CallTurns.{heard}
use Rattle.dds_core.proofs.LetterTells.{Says, letter-tells}
use Rattle.dds_core.proofs.Lists.{all-map}
use Rattle.dds_core.proofs.OrderTells.{order-tells}
use Rattle.dds_core.specs.Brick.{brick_input, live_brick_turn}
use Rattle.dds_core.specs.LibraryTurn.{live_library_turn}
use Rattle.dds_law_leaf.proofs.Book.{Book, BrickOk, Grows, InLibrary, Known, LetterOk, NodeOk}
use Rattle.dds_law_leaf.proofs.Keeps.{step-known}
use Rattle.dds_law_notice.proofs.Keeps.{AreLinked}
use Rattle.dds_law_notice.proofs.Views.{View, knows, learns, library-takes, view}
use Rattle.dds_law_own.proofs.Changes.{own}
use Rattle.dds_law_own.proofs.Keeps as owns
use Rattle.dds_law_own.proofs.Parted.{IsBoth}
use Rattle.dds_letters.specs.declared.letter.Letter.{Letter}
use Rattle.dds_letters.specs.declared.letter.Letter.TheVariants as letter
use Rattle.dds_net.proofs.Carried.{AllCarried, Becomes, News, Sends, letters-moved, nodes-moved}
use Rattle.dds_net.proofs.Letters.{first-all}
use Rattle.dds_net.proofs.Runs.{IsKept}
use Rattle.dds_net.specs.Event.{Event, nothing, unheard, unasked, brick_takes, brick_told, brick_stops, library_takes, library_asked, library_stops}
use Rattle.dds_net.specs.Event.{Fits, moved}
use Rattle.dds_net.specs.Net.{Net, Node, nowhere, a_brick, a_library, Sizes, put}
use Rattle.dds_orders.proofs.Covered.{Covering}
use Rattle.dds_orders.proofs.Standing.{Standing}
use Rattle.dds_orders.proofs.Stood.{stood-kept}
use Rattle.dds_parents.proofs.Keeps.{Gone, gone-later, known-gone}
use Rattle.dds_states.specs.declared.brick_state.BrickState.{BrickState}
use Rattle.dds_states.specs.declared.library_state.LibraryState.{LibraryState}
use Rattle.dds_pending.proofs.Fits.{AreFitting, NodeFits, PrepareOk}
use Rattle.dds_pending.proofs.Fits as fit
use Rattle.dds_pending.proofs.Prepares.{AreOk, asked-ok, brick-ok, library-ok}
use Rattle.dds_pending.proofs.Turns.{Before, fits-later, letter-fits, order-fits}

-- Each event keeps the invariant, over the laws of notices, of leaves' stamps, of own leaves and of leases.

-- Prepares on their way
prepare-later : (b c : Book) (gone later : ℕ → Type 0) (l : Letter) → Grows b c → ((k : ℕ) → gone k → later k) → PrepareOk b gone l → PrepareOk c later l
prepare-later b c gone later (letter.Prepare txn caller call below name stamp list op) g f h =
    record { body = h.body; there = g stamp h.body h.there; lists = λ n k. elim (h.lists n k) [ inl i ↦ inl i | inr i ↦ inr (f n i) ] }
prepare-later b c gone later other g f h = tt

prepares-later : (n : Net) (b c : Book) (gone later : ℕ → Type 0) → Grows b c → ((k : ℕ) → gone k → later k) → AllCarried (λ x y l. PrepareOk b gone l) n
    → AllCarried (λ x y l. PrepareOk c later l) n
prepares-later n b c gone later g f h x y =
    all-map (PrepareOk b gone) (PrepareOk c later) (n.channel x y) (λ l k. prepare-later b c gone later l g f k) (h x y)

news : (b : Book) (gone : ℕ → Type 0) (z : Sizes) (at : ℕ) (ls : List (NodeNo × Letter)) → AreOk b gone ls → News (λ x y l. PrepareOk b gone l) z at ls
news b gone z at ls h to inside = all-map _ _ ls (λ (p : NodeNo × Letter) k lands. k) h

put-same : (nodes : ℕ → Node) (at : ℕ) (y : Node) → put at y nodes at ≡ y
put-same nodes at y = ap (λ c. if c then y else nodes at) (eq-eqb at at refl)

heard-known : (s : LibraryState) (from : NodeNo) (l : Letter) → (heard s from l).known ≡ (learns from l (view (a_library s))).known
heard-known s from letter.Notice = refl
heard-known s from other = refl

sends : (z : Sizes) (cs : List Caller) (n : Net) (e : Event) (g : AreFitting z n) → Fits z cs n e → AreLinked z (moved z n e)
    → Sends (λ x y l. PrepareOk g.known.book (Gone (moved z n e)) l) z e
sends z cs n nothing g f links = tt
sends z cs n (unheard at from l) g f links = tt
sends z cs n (unasked at caller call o) g f links = tt
sends z cs n (brick_takes at from l s) g f links =
    let later = Gone (moved z n (brick_takes at from l s)) in
    news g.known.book later z at _ (brick-ok g.known.book later (Says s from l) _ (letter-tells s from l).letters)
sends z cs n (brick_told at o s) g f links =
    let later = Gone (moved z n (brick_told at o s)) in
    news g.known.book later z at _ (brick-ok g.known.book later (λ to m. ⊥) _ (order-tells {L = λ to m. ⊥} s o).letters)
sends z cs n (brick_stops at s left) g f links = λ i. tt
sends z cs n (library_takes at from l s) g f links =
    let b = g.known.book in
    let after = moved z n (library_takes at from l s) in
    let its : InLibrary (Known b) s = subst (NodeOk b at) f.here (g.known.nodes at) in
    let letter_ok = first-all (LetterOk b from at) z n at from l f.letter (g.known.letters from at) in
    let same : view (after.node at) ≡ learns from l (view (a_library s)) =
    ap view (put-same n.node at (a_library (live_library_turn s from l).state)) ∙ (library-takes s from l f.live).after in
    news b (Gone after) z at _ (library-ok b (Gone after) s from l its letter_ok
    (λ i h. known-gone z after at i links f.letter.receiver
    (ap (λ (v : View). knows v i) same ∙ sym (ap (λ (k : NodeSet). has_node k i) (heard-known s from l)) ∙ h)))
sends z cs n (library_asked at caller call o s) g f links =
    let b = g.known.book in
    let e = library_asked at caller call o s in
    let its : InLibrary (Known b) s = subst (NodeOk b at) f.here (g.known.nodes at) in
    news b (Gone (moved z n e)) z at _ (asked-ok b (Gone (moved z n e)) s caller call o its.map
    (λ i h. gone-later z cs n e f i (known-gone z n at i g.stood.links f.inside (ap (λ x. knows (view x) i) f.here ∙ h))))
sends z cs n (library_stops at s left) g f links = λ i. tt

-- nodes
node-later : (gone later : ℕ → Type 0) (x : Node) → ((k : ℕ) → gone k → later k) → NodeFits gone x → NodeFits later x
node-later gone later nowhere f h = tt
node-later gone later (a_brick s) f h =
    all-map (fit.Fits gone s.leaves) (fit.Fits later s.leaves) s.locks.pending (λ p k. fits-later gone later s.leaves p f k) h
node-later gone later (a_library s) f h = tt

abbrev Stands : ℕ → Node → Type 0
Stands k nowhere = Unit {0}
Stands k (a_brick s) = Standing (own s) × Covering (own s)
Stands k (a_library s) = Unit {0}

before : (z : Sizes) (cs : List Caller) (n : Net) (e : Event) (at : ℕ) (s : BrickState) → AreFitting z n → Fits z cs n e → n.node at ≡ a_brick s
    → Before at (Gone n) (Gone (moved z n e)) s
before z cs n e at s g f here =
    let it : Standing (own s) × Covering (own s) = subst (Stands at) here (g.stood.stands at) in
    record {
      both = subst (owns.NodeOk at) here (g.stood.own at);
      stands = it.0;
      covers = it.1;
      fit = subst (NodeFits (Gone n)) here (g.pending at);
      more = gone-later z cs n e f;
    }

becomes : (z : Sizes) (cs : List Caller) (n : Net) (e : Event) (g : AreFitting z n) → Fits z cs n e → owns.AreOwn (moved z n e)
    → Becomes (λ k x. NodeFits (Gone (moved z n e)) x) e
becomes z cs n nothing g f after = tt
becomes z cs n (unheard at from l) g f after = tt
becomes z cs n (unasked at caller call o) g f after = tt
becomes z cs n (brick_takes at from l s) g f after =
    let b = g.known.book in
    let e = brick_takes at from l s in
    let t = live_brick_turn s from l in
    let its : BrickOk at b s = subst (NodeOk b at) f.here (g.known.nodes at) in
    let both : IsBoth at (own t.state) = subst (owns.NodeOk at) (put-same n.node at (a_brick t.state)) (after at) in
    let ok = first-all (PrepareOk b (Gone n)) z n at from l f.letter (g.prepares from at) in
    letter-fits at b (Gone n) (Gone (moved z n e)) s from l (before z cs n e at s g f f.here) its.leaves
    (prepare-later b b (Gone n) (Gone (moved z n e)) l (λ st x i. i) (gone-later z cs n e f) ok) both.1.leaves
becomes z cs n (brick_told at o s) g f after =
    let e = brick_told at o s in
    let t = brick_input s o in
    let both : IsBoth at (own t.state) = subst (owns.NodeOk at) (put-same n.node at (a_brick t.state)) (after at) in
    order-fits at (Gone n) (Gone (moved z n e)) s o (before z cs n e at s g f f.here) both.1.leaves
becomes z cs n (brick_stops at s left) g f after = tt
becomes z cs n (library_takes at from l s) g f after = tt
becomes z cs n (library_asked at caller call o s) g f after = tt
becomes z cs n (library_stops at s left) g f after = tt

pub fitting-kept : (z : Sizes) → z.bricks ≤ 64 → z.libraries ≤ 16 → IsKept z (Unit {0}) (λ h n e u. tt) (λ h n u. AreFitting z n)
fitting-kept z few some h n e u built f g =
    let after = moved z n e in
    let b = g.known.book in
    let later = gone-later z h.callers n e f in
    let stood = stood-kept z few some h n e tt built f g.stood in
    let known = step-known z h.callers n e g.known f in
    let old = prepares-later n b b (Gone n) (Gone after) (λ st x i. i) later g.prepares in
    let new = letters-moved (λ x y l. PrepareOk b (Gone after) l) z h.callers n e f old (sends z h.callers n e g f stood.links) in
    record {
      stood = stood;
      known = known.known;
      prepares = prepares-later after b known.known.book (Gone after) (Gone after) known.grows (λ k i. i) new;
      pending = nodes-moved (λ k x. NodeFits (Gone after) x) z n e (λ k. node-later (Gone n) (Gone after) (n.node k) later (g.pending k))
          (becomes z h.callers n e g f stood.own);
    }
