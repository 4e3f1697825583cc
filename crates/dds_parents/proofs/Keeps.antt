use Rattle.std.proofs.Common.{◌≡◌, ℕ, ◌<◌, ◌≤◌, ◌==◌, Bool, true, false, not, List, refl, sym, ap, ◌∙◌, subst}
use Rattle.std.proofs.lemmas.Bool.{and_parts, both_ways, eq-eqb}
use Rattle.std.specs.FinMap.{get}
use Rattle.std.specs.Prelude.{if◌then◌else◌}
use Rattle.dds_base.specs.NodeSet.{has_node}
use Rattle.dds_base.specs.declared.node_set.NodeSet.{NodeSet}
use Rattle.dds_base.specs.declared.op.Order.{Order}
use Rattle.dds_cluster.specs.declared.trace.Caller.{Caller}
use Rattle.dds_core.proofs.Lists.{all-map}
use Rattle.dds_core.specs.Brick.{brick_input, live_brick_turn}
use Rattle.dds_law_leaf.proofs.Book.{AreKnown, Book, BrickOk, Grows, InCall, InLibrary, Known, Leafed, LetterOk, NodeOk}
use Rattle.dds_law_leaf.proofs.Bricks.{brick-turned, order-turned}
use Rattle.dds_law_leaf.proofs.Libraries.{asked-goes, library-goes}
use Rattle.dds_law_leaf.proofs.Maps.{each-map, in-empty}
use Rattle.dds_law_leaf.proofs.Turns.{Grown, Turned, known-grown, map-grown, order-grown}
use Rattle.dds_law_notice.proofs.Keeps.{AreLinked}
use Rattle.dds_law_notice.proofs.Views.{View, brick-does, brick-takes, knows, learns, view}
use Rattle.dds_law_own.proofs.Changes.{own}
use Rattle.dds_law_own.proofs.Keeps as owns
use Rattle.dds_law_own.proofs.Keeps.{of-another}
use Rattle.dds_law_own.proofs.Parted.{IsBoth}
use Rattle.dds_letters.specs.declared.letter.Letter.{Letter}
use Rattle.dds_net.proofs.Carried.{AllCarried, Becomes, News, Sends, letters-moved, nodes-moved}
use Rattle.dds_net.proofs.Puts.{at-put}
use Rattle.dds_net.proofs.Runs.{IsKept}
use Rattle.dds_net.specs.Event.{Event, nothing, unheard, unasked, brick_takes, brick_told, brick_stops, library_takes, library_asked, library_stops}
use Rattle.dds_net.specs.Event.{Fits, moved}
use Rattle.dds_net.specs.Net.{Net, Node, nowhere, a_brick, a_library, Sizes, is_in, put}
use Rattle.dds_orders.proofs.Asked.{AskedBy}
use Rattle.dds_orders.proofs.Asks.{AreAsked, NodeAsks, asked-kept, over-is}
use Rattle.dds_states.specs.Turn.{BrickTurn}
use Rattle.dds_states.specs.declared.brick_state.BrickState.{BrickState}
use Rattle.dds_states.specs.declared.library_state.OpenCall.{OpenCall}
use Rattle.dds_world.specs.Groups.{call_leaf, letter_leaf}
use Rattle.dds_law_leaf.proofs.Keeps.{heard, news, stopped-order}
use Rattle.dds_parents.proofs.Lists.{AllList, HasGiven, given-later, lists-later, turned-given, turned-lists}
use Rattle.dds_parents.proofs.Makes.{Makes}
use Rattle.dds_parents.proofs.Turns.{known_after, letter-makes, order-makes}

-- Each event keeps what leaves list, with the book of stamps or one that has more.

abbrev pub Gone : Net → ℕ → Type 0
Gone n k = (view (n.node k)).stopped ≡ true

pub record Gives (b : Book) (k : ℕ) (s : BrickState) : Type 0 where
  pub low : k < 64
  pub given : s.stopped ≡ false → HasGiven b k s.made

abbrev pub NodeGives : Book → ℕ → Node → Type 0
NodeGives b k nowhere = Unit {0}
NodeGives b k (a_brick s) = Gives b k s
NodeGives b k (a_library s) = Unit {0}

pub record AreListed (z : Sizes) (n : Net) : Type 0 where
  pub asked : AreAsked z n
  pub known : AreKnown n
  pub gives : (k : ℕ) → NodeGives known.book k (n.node k)
  pub lists : AllList known.book (Gone n)

-- who has stopped stays so
pub stopped-still : (n : Net) (at : ℕ) (x : Node) → n.node at ≡ x → (view x).stopped ≡ false → Gone n at → ⊥
stopped-still n at x here live gone = both_ways (view x).stopped live (ap (λ y. (view y).stopped) (sym here) ∙ gone)

abbrev pub StillGone : Net → ℕ → Node → Type 0
StillGone n k x = Gone n k → (view x).stopped ≡ true

pub gone-owed : (z : Sizes) (cs : List Caller) (n : Net) (e : Event) → Fits z cs n e → Becomes (StillGone n) e
gone-owed z cs n nothing f = tt
gone-owed z cs n (unheard at from l) f = tt
gone-owed z cs n (unasked at caller call o) f = tt
gone-owed z cs n (brick_takes at from l s) f = λ h. absurd (stopped-still n at (a_brick s) f.here f.live h)
gone-owed z cs n (brick_told at o s) f =
    λ h. ap (λ (v : View). v.stopped) (brick-does s o).after ∙ ap (λ x. (view x).stopped) (sym f.here) ∙ h
gone-owed z cs n (brick_stops at s kept) f = λ h. refl
gone-owed z cs n (library_takes at from l s) f = λ h. absurd (stopped-still n at (a_library s) f.here f.live h)
gone-owed z cs n (library_asked at caller call o s) f = λ h. absurd (stopped-still n at (a_library s) f.here f.live h)
gone-owed z cs n (library_stops at s kept) f = λ h. refl

pub gone-later : (z : Sizes) (cs : List Caller) (n : Net) (e : Event) → Fits z cs n e → (k : ℕ) → Gone n k → Gone (moved z n e) k
gone-later z cs n e f = nodes-moved (StillGone n) z n e (λ k h. h) (gone-owed z cs n e f)

pub known-gone : (z : Sizes) (n : Net) (at k : ℕ) → AreLinked z n → is_in z at ≡ true → knows (view (n.node at)) k ≡ true → Gone n k
known-gone z n at k links inside known = (and_parts (view (n.node k)).stopped (not (k == at)) (over-is _ (links k at inside) known)).0

letters-later : (n : Net) (g : AreKnown n) (c : Book) → Grows g.book c → AllCarried (LetterOk c) n
letters-later n g c grows a b =
    all-map (LetterOk g.book a b) (LetterOk c a b) (n.channel a b)
    (λ l k. each-map (Known g.book) (Known c) (letter_leaf l) (known-grown g.book c grows) k) (g.letters a b)

-- nodes
node-later : (at k : ℕ) (b c : Book) (x : Node) → Grown at b c → (k ≡ at → ⊥) → NodeOk b k x → NodeOk c k x
node-later at k b c nowhere g ne h = tt
node-later at k b c (a_brick s) g ne h =
    let leaves = map-grown b c s g.grows h.leaves in
    let order = order-grown b c s.order g.grows h.order in
    record {
      leaves = leaves;
      order = order;
      live = λ e.
          let l = h.live e in
          record { number = l.number; fresh = λ i le. g.others (record { maker = k; count = i }) ne ∙ l.fresh i le; leaves = leaves; order = order };
    }
node-later at k b c (a_library s) g ne h =
    record {
      map = λ name. each-map (Known b) (Known c) (get s.map name) (known-grown b c g.grows) (h.map name);
      calls = all-map (InCall (Known b)) (InCall (Known c)) s.calls
          (λ (x : OpenCall) q. each-map (Known b) (Known c) (call_leaf x.phase) (known-grown b c g.grows) q) h.calls;
    }

gives-later : (b c : Book) (k : ℕ) (x : Node) → Grows b c → NodeGives b k x → NodeGives c k x
gives-later b c k nowhere g h = tt
gives-later b c k (a_brick s) g h = record { low = h.low; given = λ e. given-later b c k s.made g (h.given e) }
gives-later b c k (a_library s) g h = tt

-- the book stays
stays : (z : Sizes) (cs : List Caller) (n : Net) (e : Event) (g : AreListed z n) → Fits z cs n e → AreAsked z (moved z n e)
    → Becomes (NodeOk g.known.book) e → Sends (LetterOk g.known.book) z e → Becomes (NodeGives g.known.book) e → AreListed z (moved z n e)
stays z cs n e g f asked becomes sends gives =
    let b = g.known.book in
    record {
      asked = asked;
      known = record {
        book = b;
        bred = g.known.bred;
        nodes = nodes-moved (NodeOk b) z n e g.known.nodes becomes;
        letters = letters-moved (LetterOk b) z cs n e f g.known.letters sends;
      };
      gives = nodes-moved (NodeGives b) z n e g.gives gives;
      lists = λ st x is. lists-later b b (Gone n) (Gone (moved z n e)) st x (λ q y i. i) (gone-later z cs n e f) (g.lists st x is);
    }

-- a live brick has a turn
turns : (z : Sizes) (cs : List Caller) (n : Net) (e : Event) (at : ℕ) (s : BrickState) (t : BrickTurn) (known : NodeSet) (g : AreListed z n)
    → Fits z cs n e → n.node at ≡ a_brick s → s.stopped ≡ false → (moved z n e).node ≡ put at (a_brick t.state) n.node
    → (h : Turned at g.known.book t) → Sends (LetterOk h.next) z e → AreAsked z (moved z n e)
    → ((k : ℕ) → has_node known k ≡ true → Gone (moved z n e) k) → Makes (Known g.known.book) known at s.made t
    → AreListed z (moved z n e)
turns z cs n e at s t known g f here live is h sends asked stops m =
    let b = g.known.book in
    let c = h.next in
    let gives : Gives b at s = subst (NodeGives b at) here (g.gives at) in
    let bred = h.bred g.known.bred in
    let after = moved z n e in
    let later = gone-later z cs n e f in
    record {
      asked = asked;
      known = record {
        book = c;
        bred = bred;
        nodes = subst (λ (nodes : ℕ → Node). (k : ℕ) → NodeOk c k (nodes k)) (sym is)
            (at-put (NodeOk c) at (a_brick t.state) n.node (record { leaves = h.state.leaves; order = h.state.order; live = λ e. h.state })
            (λ k ne. node-later at k b c (n.node k) h.grown ne (g.known.nodes k)));
        letters = letters-moved (LetterOk c) z cs n e f (letters-later n g.known c h.grown.grows) sends;
      };
      gives = subst (λ (nodes : ℕ → Node). (k : ℕ) → NodeGives c k (nodes k)) (sym is)
          (at-put (NodeGives c) at (a_brick t.state) n.node (record {
            low = gives.low;
            given = λ e. turned-given at s.made b c known t (Gone n) (Gone after) gives.low h.grown bred h.state (gives.given live) later stops m;
          }) (λ k ne. gives-later b c k (n.node k) h.grown.grows (g.gives k)));
      lists = turned-lists at s.made b c known t (Gone n) (Gone after) gives.low h.grown bred h.state (gives.given live) later stops m g.lists;
    }

put-same : (nodes : ℕ → Node) (at : ℕ) (y : Node) → put at y nodes at ≡ y
put-same nodes at y = ap (λ c. if c then y else nodes at) (eq-eqb at at refl)

ordered : (z : Sizes) (cs : List Caller) (n : Net) (at : ℕ) (o : Order) (s : BrickState) (c : Bool) (g : AreListed z n) → Fits z cs n (brick_told at o s)
    → AreAsked z (moved z n (brick_told at o s)) → s.stopped ≡ c → AreListed z (moved z n (brick_told at o s))
ordered z cs n at o s true g f asked e =
    let b = g.known.book in
    let same = stopped-order s o e in
    stays z cs n (brick_told at o s) g f asked
    (subst (λ (t : BrickTurn). BrickOk at b t.state) (sym same) (subst (NodeOk b at) f.here (g.known.nodes at)))
    (subst (λ (t : BrickTurn). News (LetterOk b) z at t.out.letters) (sym same) (λ b inside. tt))
    (subst (λ (t : BrickTurn). Gives b at t.state) (sym same) (subst (NodeGives b at) f.here (g.gives at)))
ordered z cs n at o s false g f asked e =
    let b = g.known.book in
    let ok : BrickOk at b s = subst (NodeOk b at) f.here (g.known.nodes at) in
    let leafed : Leafed at b s = ok.live e in
    let h = order-turned s o leafed in
    let both : IsBoth at (own s) = subst (owns.NodeOk at) f.here (g.asked.own at) in
    let asks : AskedBy at s.known s.order = subst (NodeAsks at) f.here (g.asked.asks at) in
    let m = order-makes (Known b) at s o leafed.leaves (record { both = both; asked = asks }) in
    turns z cs n (brick_told at o s) at s (brick_input s o) s.known g f f.here e refl h (news h.next z at _ h.letters) asked
    (λ k i. gone-later z cs n (brick_told at o s) f k
    (known-gone z n at k g.asked.links f.inside (ap (λ x. knows (view x) k) f.here ∙ i)))
    (subst (λ i. Makes (Known b) s.known i s.made (brick_input s o)) both.0.number m)

takes : (z : Sizes) (cs : List Caller) (n : Net) (at from : ℕ) (l : Letter) (s : BrickState) → z.bricks ≤ 64 → z.libraries ≤ 16 → (g : AreListed z n)
    → Fits z cs n (brick_takes at from l s) → AreAsked z (moved z n (brick_takes at from l s)) → AreListed z (moved z n (brick_takes at from l s))
takes z cs n at from l s few some g f asked =
    let b = g.known.book in
    let e = brick_takes at from l s in
    let t = live_brick_turn s from l in
    let ok : BrickOk at b s = subst (NodeOk b at) f.here (g.known.nodes at) in
    let leafed : Leafed at b s = ok.live f.live in
    let of_known = heard z n at from l g.known f.letter in
    let h = brick-turned s from l leafed of_known in
    let both : IsBoth at (own s) = subst (owns.NodeOk at) f.here (g.asked.own at) in
    let asks : AskedBy at s.known s.order = subst (NodeAsks at) f.here (g.asked.asks at) in
    let other = of-another z n at from l s few some g.asked.links f both.0.number in
    let m = letter-makes (Known b) at s from l other leafed.order of_known (record { both = both; asked = asks }) in
    let after : view ((moved z n e).node at) ≡ learns from l (view (a_brick s)) =
    ap view (put-same n.node at (a_brick t.state)) ∙ (brick-takes s from l f.live).after in
    turns z cs n e at s t (known_after s from l) g f f.here f.live refl h (news h.next z at _ h.letters) asked
    (λ k i. known-gone z (moved z n e) at k asked.links f.letter.receiver (ap (λ (v : View). knows v k) after ∙ i))
    (subst (λ i. Makes (Known b) (known_after s from l) i s.made t) both.0.number m)

step-lists : (z : Sizes) (cs : List Caller) (n : Net) (e : Event) → z.bricks ≤ 64 → z.libraries ≤ 16 → (g : AreListed z n) → Fits z cs n e
    → AreAsked z (moved z n e) → AreListed z (moved z n e)
step-lists z cs n nothing few some g f asked = stays z cs n nothing g f asked tt tt tt
step-lists z cs n (unheard at from l) few some g f asked = stays z cs n (unheard at from l) g f asked tt tt tt
step-lists z cs n (unasked at caller call o) few some g f asked = stays z cs n (unasked at caller call o) g f asked tt tt tt
step-lists z cs n (brick_takes at from l s) few some g f asked = takes z cs n at from l s few some g f asked
step-lists z cs n (brick_told at o s) few some g f asked = ordered z cs n at o s s.stopped g f asked refl
step-lists z cs n (brick_stops at s kept) few some g f asked =
    let b = g.known.book in
    let gives : Gives b at s = subst (NodeGives b at) f.here (g.gives at) in
    stays z cs n (brick_stops at s kept) g f asked (record { leaves = in-empty (Known b); order = tt; live = λ e. cc }) (λ i. tt)
    (record { low = gives.low; given = λ e. cc })
step-lists z cs n (library_takes at from l s) few some g f asked =
    let b = g.known.book in
    let t = library-goes (Known b) s from l (subst (NodeOk b at) f.here (g.known.nodes at)) (heard z n at from l g.known f.letter) in
    stays z cs n (library_takes at from l s) g f asked t.has (news b z at _ t.letters) tt
step-lists z cs n (library_asked at caller call o s) few some g f asked =
    let b = g.known.book in
    let t = asked-goes (Known b) s caller call o (subst (NodeOk b at) f.here (g.known.nodes at)) in
    stays z cs n (library_asked at caller call o s) g f asked t.has (news b z at _ t.letters) tt
step-lists z cs n (library_stops at s kept) few some g f asked =
    let ok : InLibrary (Known g.known.book) s = subst (NodeOk g.known.book at) f.here (g.known.nodes at) in
    stays z cs n (library_stops at s kept) g f asked (record { map = ok.map; calls = ok.calls }) (λ i. tt) tt

pub listed-kept : (z : Sizes) → z.bricks ≤ 64 → z.libraries ≤ 16 → IsKept z (Unit {0}) (λ h n e u. tt) (λ h n u. AreListed z n)
listed-kept z few some h n e u built f g = step-lists z h.callers n e few some g f (asked-kept z few some h n e tt built f g.asked)
