use Rattle.std.proofs.Common.{◌≡◌, ℕ, Bool, true, false, List, refl, sym, ◌∙◌, subst}
use Rattle.std.specs.List.{AllByRecursion}
use Rattle.std.specs.FinMap.{get}
use Rattle.dds_base.specs.declared.number.NodeNo.{NodeNo}
use Rattle.dds_base.specs.declared.op.Order.{Order}
use Rattle.dds_base.specs.declared.op.Order.TheVariants as order
use Rattle.dds_base.specs.declared.op.OrderReply.TheVariants as answered
use Rattle.dds_cluster.specs.declared.trace.Caller.{Caller}
use Rattle.dds_core.proofs.Lists.{all-map}
use Rattle.dds_core.specs.Brick.{brick_input, live_brick_turn}
use Rattle.dds_letters.specs.declared.letter.Letter.{Letter}
use Rattle.dds_net.proofs.Carried.{Becomes, News, Sends, letters-moved, nodes-moved}
use Rattle.dds_net.proofs.Letters.{first-all}
use Rattle.dds_net.proofs.Puts.{at-put}
use Rattle.dds_net.specs.Event.{Event, nothing, unheard, unasked, brick_takes, brick_told, brick_stops, library_takes, library_asked, library_stops}
use Rattle.dds_net.specs.Event.{Fits, IsFirst, moved}
use Rattle.dds_net.specs.Net.{Net, Node, nowhere, a_brick, a_library, Sizes, put}
use Rattle.dds_order_rows.specs.OwnOrder.{answers}
use Rattle.dds_states.specs.Turn.{BrickTurn}
use Rattle.dds_states.specs.declared.brick_state.BrickState.{BrickState}
use Rattle.dds_states.specs.declared.library_state.OpenCall.{OpenCall}
use Rattle.dds_world.specs.Groups.{call_leaf, letter_leaf}
use Rattle.dds_law_leaf.proofs.Book.{AreKnown, Book, BrickOk, Grows, InCall, InLetter, InLibrary, Known, LetterOk, NodeOk}
use Rattle.dds_law_leaf.proofs.Bricks.{brick-turned, order-turned}
use Rattle.dds_law_leaf.proofs.Libraries.{asked-goes, library-goes}
use Rattle.dds_law_leaf.proofs.Maps.{each-map, in-empty}
use Rattle.dds_law_leaf.proofs.Turns.{Grown, Letters, Turned, known-grown, map-grown, order-grown}

-- Each event keeps the invariant, with the book or one that has more.

pub record Goes (n : Net) (g : AreKnown n) (m : Net) : Type 0 where
  pub known : AreKnown m
  pub grows : Grows g.book known.book

-- the letters that a node sends, wherever they come
pub news : (b : Book) (z : Sizes) (at : ℕ) (ls : List (NodeNo × Letter)) → Letters b ls → News (LetterOk b) z at ls
news b z at ls h to inside = all-map _ _ ls (λ (p : NodeNo × Letter) k lands. k) h

pub heard : (z : Sizes) (n : Net) (at from : ℕ) (l : Letter) (g : AreKnown n) → IsFirst z n at from l → InLetter (Known g.book) l
heard z n at from l g f = first-all (LetterOk g.book from at) z n at from l f (g.letters from at)

-- the book stays
stays : (z : Sizes) (cs : List Caller) (n : Net) (e : Event) (g : AreKnown n) → Fits z cs n e → Becomes (NodeOk g.book) e → Sends (LetterOk g.book) z e
    → Goes n g (moved z n e)
stays z cs n e g f becomes sends =
    record {
      known = record {
        book = g.book;
        bred = g.bred;
        nodes = nodes-moved (NodeOk g.book) z n e g.nodes becomes;
        letters = letters-moved (LetterOk g.book) z cs n e f g.letters sends;
      };
      grows = λ st x h. h;
    }

-- what another node's making leaves
node-grown : (at k : ℕ) (b c : Book) (x : Node) → Grown at b c → (k ≡ at → ⊥) → NodeOk b k x → NodeOk c k x
node-grown at k b c nowhere g ne h = tt
node-grown at k b c (a_brick s) g ne h =
    let leaves = map-grown b c s g.grows h.leaves in
    let order = order-grown b c s.order g.grows h.order in
    record {
      leaves = leaves;
      order = order;
      live = λ e.
          let l = h.live e in
          record { number = l.number; fresh = λ i le. g.others (record { maker = k; count = i }) ne ∙ l.fresh i le; leaves = leaves; order = order };
    }
node-grown at k b c (a_library s) g ne h =
    record {
      map = λ name. each-map (Known b) (Known c) (get s.map name) (known-grown b c g.grows) (h.map name);
      calls = all-map (InCall (Known b)) (InCall (Known c)) s.calls
          (λ (x : OpenCall) q. each-map (Known b) (Known c) (call_leaf x.phase) (known-grown b c g.grows) q) h.calls;
    }

nodes-turned : (n : Net) (at : ℕ) (g : AreKnown n) (t : BrickTurn) (h : Turned at g.book t) → (k : ℕ) → NodeOk h.next k (put at (a_brick t.state) n.node k)
nodes-turned n at g t h =
    at-put (NodeOk h.next) at (a_brick t.state) n.node (record { leaves = h.state.leaves; order = h.state.order; live = λ e. h.state })
    (λ k ne. node-grown at k g.book h.next (n.node k) h.grown ne (g.nodes k))

letters-later : (n : Net) (g : AreKnown n) (c : Book) → Grows g.book c → (a b : ℕ) → AllByRecursion (LetterOk c a b) (n.channel a b)
letters-later n g c grows a b =
    all-map (LetterOk g.book a b) (LetterOk c a b) (n.channel a b)
    (λ l k. each-map (Known g.book) (Known c) (letter_leaf l) (known-grown g.book c grows) k) (g.letters a b)

takes : (z : Sizes) (cs : List Caller) (n : Net) (at from : ℕ) (l : Letter) (s : BrickState) (g : AreKnown n) → Fits z cs n (brick_takes at from l s)
    → Turned at g.book (live_brick_turn s from l) → Goes n g (moved z n (brick_takes at from l s))
takes z cs n at from l s g f h =
    record {
      known = record {
        book = h.next;
        bred = h.bred g.bred;
        nodes = nodes-turned n at g (live_brick_turn s from l) h;
        letters = letters-moved (LetterOk h.next) z cs n (brick_takes at from l s) f (letters-later n g h.next h.grown.grows) (news h.next z at _ h.letters);
      };
      grows = h.grown.grows;
    }

does : (z : Sizes) (cs : List Caller) (n : Net) (at : ℕ) (o : Order) (s : BrickState) (g : AreKnown n) → Fits z cs n (brick_told at o s)
    → Turned at g.book (brick_input s o) → Goes n g (moved z n (brick_told at o s))
does z cs n at o s g f h =
    record {
      known = record {
        book = h.next;
        bred = h.bred g.bred;
        nodes = nodes-turned n at g (brick_input s o) h;
        letters = letters-moved (LetterOk h.next) z cs n (brick_told at o s) f (letters-later n g h.next h.grown.grows) (news h.next z at _ h.letters);
      };
      grows = h.grown.grows;
    }

-- an order at a stopped brick
pub stopped-order : (s : BrickState) (o : Order) → s.stopped ≡ true → brick_input s o ≡ answers s answered.Stopped
stopped-order s (order.Join brick name via) e = rw e refl
stopped-order s (order.Split brick name) e = rw e refl

told : (z : Sizes) (cs : List Caller) (n : Net) (at : ℕ) (o : Order) (s : BrickState) (c : Bool) (g : AreKnown n) → Fits z cs n (brick_told at o s)
    → s.stopped ≡ c → BrickOk at g.book s → Goes n g (moved z n (brick_told at o s))
told z cs n at o s false g f e h = does z cs n at o s g f (order-turned s o (h.live e))
told z cs n at o s true g f e h =
    let same = stopped-order s o e in
    stays z cs n (brick_told at o s) g f (subst (λ (t : BrickTurn). BrickOk at g.book t.state) (sym same) h)
    (subst (λ (t : BrickTurn). News (LetterOk g.book) z at t.out.letters) (sym same) (λ b inside. tt))

pub step-known : (z : Sizes) (cs : List Caller) (n : Net) (e : Event) (g : AreKnown n) → Fits z cs n e → Goes n g (moved z n e)
step-known z cs n nothing g f = stays z cs n nothing g f tt tt
step-known z cs n (unheard at from l) g f = stays z cs n (unheard at from l) g f tt tt
step-known z cs n (unasked at caller call o) g f = stays z cs n (unasked at caller call o) g f tt tt
step-known z cs n (brick_takes at from l s) g f =
    let ok : BrickOk at g.book s = subst (NodeOk g.book at) f.here (g.nodes at) in
    takes z cs n at from l s g f (brick-turned s from l (ok.live f.live) (heard z n at from l g f.letter))
step-known z cs n (brick_told at o s) g f = told z cs n at o s s.stopped g f refl (subst (NodeOk g.book at) f.here (g.nodes at))
step-known z cs n (brick_stops at s kept) g f =
    stays z cs n (brick_stops at s kept) g f (record { leaves = in-empty (Known g.book); order = tt; live = λ e. cc }) (λ b. tt)
step-known z cs n (library_takes at from l s) g f =
    let t = library-goes (Known g.book) s from l (subst (NodeOk g.book at) f.here (g.nodes at)) (heard z n at from l g f.letter) in
    stays z cs n (library_takes at from l s) g f t.has (news g.book z at _ t.letters)
step-known z cs n (library_asked at caller call o s) g f =
    let t = asked-goes (Known g.book) s caller call o (subst (NodeOk g.book at) f.here (g.nodes at)) in
    stays z cs n (library_asked at caller call o s) g f t.has (news g.book z at _ t.letters)
step-known z cs n (library_stops at s kept) g f =
    let ok : InLibrary (Known g.book) s = subst (NodeOk g.book at) f.here (g.nodes at) in
    stays z cs n (library_stops at s kept) g f (record { map = ok.map; calls = ok.calls }) (λ b. tt)
