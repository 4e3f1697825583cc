use Rattle.std.proofs.Common.{◌≡◌, ℕ, ◌≤◌, ◌==◌, ◌&&◌, Bool, true, false, not, List, [], ◌∷◌, refl, sym, ap, ◌∙◌, subst}
use Rattle.std.proofs.lemmas.Bool.{and_parts}
use Rattle.std.specs.List.{AllByRecursion}
use Rattle.dds_base.specs.NodeSet.{has_node, no_nodes}
use Rattle.dds_base.specs.Number.{Txn}
use Rattle.dds_base.specs.declared.number.NodeNo.{NodeNo}
use Rattle.dds_cluster.specs.World.{emptied}
use Rattle.dds_core.proofs.LetterTells.{Any}
use Rattle.dds_core.proofs.Lists.{all-append, all-front, all-map}
use Rattle.dds_core.proofs.OrderTells.{order-rests}
use Rattle.dds_core.proofs.Rests.{Whole}
use Rattle.dds_core.proofs.Tells.{is_notice}
use Rattle.dds_core.specs.Brick.{brick_input, live_brick_turn}
use Rattle.dds_core.specs.LibraryTurn.{live_library_turn}
use Rattle.dds_law_notice.proofs.Keeps.{AreLinked}
use Rattle.dds_law_notice.proofs.Link.{Link, lives, told, over}
use Rattle.dds_law_notice.proofs.Views.{knows, none-known, view}
use Rattle.dds_letters.specs.declared.letter.Letter.{Letter}
use Rattle.dds_letters.specs.declared.letter.Letter.TheVariants as letter
use Rattle.dds_net.proofs.Places.{node-below}
use Rattle.dds_net.proofs.Puts.{at-put, pairs-changed}
use Rattle.dds_net.specs.Event.{Event, Fits, History, moved, nothing, unheard, unasked, brick_takes, brick_told, brick_stops, library_takes}
use Rattle.dds_net.specs.Event.{library_asked, library_stops}
use Rattle.dds_net.specs.Event.{IsFirst, IsFront, asked_turn, does, notice_to, stops, takes, without_first}
use Rattle.dds_net.specs.Net.{Net, Node, nowhere, a_brick, a_library, Sizes, changed, gains, is_in, when_in}
use Rattle.dds_states.specs.declared.brick_state.BrickState.{BrickState}
use Rattle.dds_talk.specs.Books.{Books, adds}
use Rattle.dds_resolve.proofs.TeamTurns.{AllOk, Good, not-both}
use Rattle.dds_resolve.proofs.TeamNotices.{NoticeOk, brick-good, silent-ok}
use Rattle.dds_resolve.specs.Team.{Ground, LetterOk}
use Rattle.dds_resolve.specs.Teams.{BrickIs, NodeOk, OpensOf, SaysOf, Teams, ground, is_frozen, is_stopped}
use Rattle.dds_resolve.proofs.Grounds.{Within, letter-more, brick-more, node-more, all-more, told-same, gains-ok, rest-ok, begins, ends}
use Rattle.dds_resolve.proofs.Grounds.{within, put-stays, live-stays}

-- Each event keeps who resolves an attempt of a stopped library.

-- a node takes a letter
takes-teams : (z : Sizes) (n : Net) (at from : ℕ) (y : Node) (ls : List (NodeNo × Letter)) (b c : Txn → List ℕ) → z.bricks ≤ 64 →
    Within (ground z n b) (ground z (changed n (takes z n at from y ls)) c) → NodeOk (ground z (changed n (takes z n at from y ls)) c) at y →
    AllOk (ground z (changed n (takes z n at from y ls)) c) at ls → Teams z n b → Teams z (changed n (takes z n at from y ls)) c
takes-teams z n at from y ls b c few w node new t =
    let m = changed n (takes z n at from y ls) in
    let k = ground z m c in
    let old = (λ (a d : ℕ). all-map (LetterOk (ground z n b) a d) (LetterOk k a d) (n.channel a d) (λ l h. letter-more w a d l h) (t.letters a d)) in
    let mine = (λ (d : ℕ). all-append (LetterOk k at d) (without_first n at from at d) (gains z ls d) (rest-ok (LetterOk k at d) n at from at d (old at d))
    (gains-ok z m c at d ls few new)) in
    record {
      nodes = at-put (NodeOk k) at y n.node node (λ a ne. node-more w a (n.node a) (t.nodes a));
      letters = λ a d. pairs-changed (λ a d x y e f. AllByRecursion (LetterOk k a d) e) n (takes z n at from y ls)
          (record { own = mine at; from = λ d nd. mine d; to = λ a na. rest-ok (LetterOk k a at) n at from a at (old a at) }) old a d;
    }

does-teams : (z : Sizes) (n : Net) (at : ℕ) (y : Node) (ls : List (NodeNo × Letter)) (b c : Txn → List ℕ) → z.bricks ≤ 64 →
    Within (ground z n b) (ground z (changed n (does z n at y ls)) c) → NodeOk (ground z (changed n (does z n at y ls)) c) at y →
    AllOk (ground z (changed n (does z n at y ls)) c) at ls → Teams z n b → Teams z (changed n (does z n at y ls)) c
does-teams z n at y ls b c few w node new t =
    let m = changed n (does z n at y ls) in
    let k = ground z m c in
    let old = (λ (a d : ℕ). all-map (LetterOk (ground z n b) a d) (LetterOk k a d) (n.channel a d) (λ l h. letter-more w a d l h) (t.letters a d)) in
    let mine = (λ (d : ℕ). all-append (LetterOk k at d) (n.channel at d) (gains z ls d) (old at d) (gains-ok z m c at d ls few new)) in
    record {
      nodes = at-put (NodeOk k) at y n.node node (λ a ne. node-more w a (n.node a) (t.nodes a));
      letters = λ a d. pairs-changed (λ a d x y e f. AllByRecursion (LetterOk k a d) e) n (does z n at y ls)
          (record { own = mine at; from = λ d nd. mine d; to = λ a na. old a at }) old a d;
    }

stops-teams : (z : Sizes) (n : Net) (at : ℕ) (y : Node) (left : ℕ → List Letter) (b c : Txn → List ℕ) → ((d : ℕ) → IsFront (left d) (n.channel at d)) →
    Within (ground z n b) (ground z (changed n (stops z n at y left)) c) → NodeOk (ground z (changed n (stops z n at y left)) c) at y → Teams z n b →
    Teams z (changed n (stops z n at y left)) c
stops-teams z n at y left b c f w node t =
    let m = changed n (stops z n at y left) in
    let k = ground z m c in
    let old = (λ (a d : ℕ). all-map (LetterOk (ground z n b) a d) (LetterOk k a d) (n.channel a d) (λ l h. letter-more w a d l h) (t.letters a d)) in
    let mine = (λ (d : ℕ). all-append (LetterOk k at d) (left d) (notice_to z at d)
    (all-front (LetterOk k at d) (left d) (f d).gone (subst (AllByRecursion (LetterOk k at d)) (f d).is (old at d)))
    (told k d (is_in z d && not (d == at)))) in
    record {
      nodes = at-put (NodeOk k) at y n.node node (λ a ne. node-more w a (n.node a) (t.nodes a));
      letters = λ a d. pairs-changed (λ a d x y e f. AllByRecursion (LetterOk k a d) e) n (stops z n at y left)
          (record { own = mine at; from = λ d nd. mine d; to = λ a na. old a at }) old a d;
    }
  where
    told : (k : Ground) (d : ℕ) (x : Bool) → AllByRecursion (LetterOk k at d) (when_in x (letter.Notice ∷ []))
    told k d true = (tt, tt)
    told k d false = tt

-- a notice is of a stopped node
pub noticed : {deaf k : Bool} (s : Bool) (l : Letter) (c : List Letter) → is_notice l ≡ true → Link deaf (l ∷ c) s k → s ≡ true
noticed s l c e (lives h) = absurd (not-both (is_notice l) e h.0)
noticed s l c e (told front is h) = refl
noticed s l c e (over known is h) = refl

pub same-stopped : (x : Node) → (view x).stopped ≡ is_stopped x
same-stopped nowhere = refl
same-stopped (a_brick s) = refl
same-stopped (a_library s) = refl

pub notice-ok : (z : Sizes) (n : Net) (list : Txn → List ℕ) (at from : ℕ) (l : Letter) → z.bricks ≤ 64 → z.libraries ≤ 16 → IsFirst z n at from l →
    AreLinked z n → NoticeOk (ground z n list) from l
notice-ok z n list at from letter.Notice few some f links =
    let k = subst (λ c. Link (view (n.node at)).stopped c ((view (n.node from)).stopped && not (from == at)) (knows (view (n.node at)) from)) f.first
    (links from at f.receiver) in (
      node-below z from few some f.sender,
      sym (same-stopped (n.node from))
          ∙ (and_parts (view (n.node from)).stopped (not (from == at))
          (noticed ((view (n.node from)).stopped && not (from == at)) letter.Notice f.others refl k)).0,
    )
notice-ok z n list at from other few some f links = tt

-- nothing changes but the book
more-teams : (z : Sizes) (h : History) (n : Net) (e : Event) (b : Books) → Teams z n b.list → Teams z n (adds h n e b).list
more-teams z h n e b t =
    let w = within z h n n e b (record { stopped = λ a i. i; frozen = λ a u i. i }) in
    record {
      nodes = λ a. node-more w a (n.node a) (t.nodes a);
      letters = λ a d. all-map (LetterOk (ground z n b.list) a d) (LetterOk (ground z n (adds h n e b).list) a d) (n.channel a d)
          (λ l i. letter-more w a d l i) (t.letters a d);
    }

-- a turn of a live brick, over the ground before it
pub turn-good : (z : Sizes) (n : Net) (list : Txn → List ℕ) (at from : ℕ) (l : Letter) (s : BrickState) → z.bricks ≤ 64 → z.libraries ≤ 16 →
    n.node at ≡ a_brick s → IsFirst z n at from l → AreLinked z n → OpensOf (ground z n list) (brick_takes at from l s) → Teams z n list →
    Good (ground z n list) at (live_brick_turn s from l)
turn-good z n list at from l s few some here f links opens t =
    let first = subst (AllByRecursion (LetterOk (ground z n list) from at)) f.first (t.letters from at) in
    brick-good s from l (begins s (subst (NodeOk (ground z n list) at) here (t.nodes at)) opens.0) first.0 (notice-ok z n list at from l few some f links)
    opens.1

pub teams-kept : (z : Sizes) → z.bricks ≤ 64 → z.libraries ≤ 16 → (h : History) (n : Net) (e : Event) (b : Books) → Fits z h.callers n e → AreLinked z n →
    SaysOf (ground z (moved z n e) (adds h n e b).list) e → OpensOf (ground z n b.list) e → Teams z n b.list → Teams z (moved z n e) (adds h n e b).list
teams-kept z few some h n nothing b f links says opens t = more-teams z h n nothing b t
teams-kept z few some h n (unasked at caller call o) b f links says opens t = more-teams z h n (unasked at caller call o) b t
teams-kept z few some h n (unheard at from l) b f links says opens t =
    let m = changed n (takes z n at from (n.node at) []) in
    let w = within z h n m (unheard at from l) b (put-stays n m at (n.node at) refl (λ i. i) (λ u i. i)) in
    takes-teams z n at from (n.node at) [] b.list _ few w (node-more w at (n.node at) (t.nodes at)) tt t
teams-kept z few some h n (brick_takes at from l s) b f links says opens t =
    let r = live_brick_turn s from l in
    let y = a_brick r.state in
    let m = changed n (takes z n at from y r.out.letters) in
    let w = within z h n m (brick_takes at from l s) b (live-stays n m at y refl (ap is_stopped f.here ∙ f.live)) in
    let good = turn-good z n b.list at from l s few some f.here f.letter links opens t in
    takes-teams z n at from y r.out.letters b.list _ few w (brick-more w at r.state (ends r.state good.state)) (all-more w at r.out.letters good.letters) t
teams-kept z few some h n (brick_told at o s) b f links says opens t =
    let r = brick_input s o in
    let frame = order-rests {L = Any} s o in
    let y = a_brick r.state in
    let m = changed n (does z n at y r.out.letters) in
    let w = within z h n m (brick_told at o s) b
    (put-stays n m at y refl (λ i. ap (λ (q : Whole). q.who.stopped) frame.same ∙ (sym (ap is_stopped f.here) ∙ i))
    (λ u i. absurd (not-both (is_frozen (n.node at) u) i (ap (λ x. is_frozen x u) f.here)))) in
    let was : BrickIs (ground z n b.list) at s = subst (NodeOk (ground z n b.list) at) f.here (t.nodes at) in
    does-teams z n at y r.out.letters b.list _ few w (brick-more w at r.state (told-same r.state s frame.same was))
    (all-more w at r.out.letters (silent-ok (ground z n b.list) at r.out.letters frame.letters)) t
teams-kept z few some h n (brick_stops at s left) b f links says opens t =
    let y = a_brick (emptied s.number) in
    let m = changed n (stops z n at y left) in
    let w = within z h n m (brick_stops at s left) b (live-stays n m at y refl (ap is_stopped f.here ∙ f.live)) in
    let was : BrickIs (ground z n b.list) at s = subst (NodeOk (ground z n b.list) at) f.here (t.nodes at) in
    stops-teams z n at y left b.list _ f.left.front w
    (record { number = was.number; known = λ k i. absurd (not-both (has_node no_nodes k) i (none-known k)); pending = tt; deferred = tt; resolving = tt })
    t
teams-kept z few some h n (library_takes at from l s) b f links says opens t =
    let r = live_library_turn s from l in
    let m = changed n (takes z n at from (a_library r.state) r.out.letters) in
    let w = within z h n m (library_takes at from l s) b (live-stays n m at (a_library r.state) refl (ap is_stopped f.here ∙ f.live)) in
    takes-teams z n at from (a_library r.state) r.out.letters b.list _ few w tt says t
teams-kept z few some h n (library_asked at caller call o s) b f links says opens t =
    let r = asked_turn s caller call o in
    let m = changed n (does z n at (a_library r.state) r.out.letters) in
    let w = within z h n m (library_asked at caller call o s) b (live-stays n m at (a_library r.state) refl (ap is_stopped f.here ∙ f.live)) in
    does-teams z n at (a_library r.state) r.out.letters b.list _ few w tt says t
teams-kept z few some h n (library_stops at s left) b f links says opens t =
    let y = a_library (record s { stopped = true }) in
    let m = changed n (stops z n at y left) in
    let w = within z h n m (library_stops at s left) b (live-stays n m at y refl (ap is_stopped f.here ∙ f.live)) in
    stops-teams z n at y left b.list _ f.left.front w tt t
