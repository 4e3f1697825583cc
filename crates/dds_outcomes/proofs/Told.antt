use Rattle.std.proofs.Common.{◌≡◌, ℕ, ◌≤◌, ◌<◌, ◌==◌, ◌||◌, ◌⊎◌, inr, ◌++◌, Bool, true, false, List, [], ◌∷◌, refl, sym, ap, ◌∙◌, subst}
use Rattle.std.proofs.lemmas.Bool.{eqb-true}
use Rattle.std.specs.List.{AllByRecursion}
use Rattle.std.specs.Prelude.{if◌then◌else◌}
use Rattle.dds_base.specs.BrickList.{has}
use Rattle.dds_base.specs.NodeSet.{has_node}
use Rattle.dds_base.specs.Number.{Txn}
use Rattle.dds_base.specs.declared.node_set.NodeSet.{NodeSet}
use Rattle.dds_base.specs.declared.number.NodeNo.{NodeNo}
use Rattle.dds_base.specs.declared.op.Order.{Order}
use Rattle.dds_base.specs.declared.pending.TxnStatus.{TxnStatus}
use Rattle.dds_brick_rows.specs.Resolution.{is_ready}
use Rattle.dds_cluster.specs.Trace.{run_of}
use Rattle.dds_cluster.specs.World.{emptied}
use Rattle.dds_cluster.specs.declared.step.Step.{Step}
use Rattle.dds_cluster.specs.declared.trace.Caller.{Caller}
use Rattle.dds_core.proofs.LetterTells.{Any, heard}
use Rattle.dds_core.proofs.Lists.{all-append, all-map}
use Rattle.dds_core.proofs.OrderTells.{order-rests}
use Rattle.dds_core.proofs.Rests.{Whole}
use Rattle.dds_core.specs.Brick.{brick_input, live_brick_turn}
use Rattle.dds_letters.specs.declared.letter.Letter.{Letter}
use Rattle.dds_letters.specs.declared.letter.Letter.TheVariants as letter
use Rattle.dds_net.proofs.Journals.{net_of}
use Rattle.dds_net.proofs.Nodes.{brick-node}
use Rattle.dds_net.proofs.OneWay.{AllWays, Way, does-ways, stops-ways, takes-ways}
use Rattle.dds_net.proofs.Opening.{start-channel}
use Rattle.dds_net.proofs.Places.{node-below, one-place}
use Rattle.dds_net.proofs.Runs.{sized-run}
use Rattle.dds_net.proofs.Ways.{travels}
use Rattle.dds_net.specs.Event.{Event, Fits, moved, nothing, notice_to, unheard, unasked, brick_takes, brick_told, brick_stops, library_takes}
use Rattle.dds_net.specs.Event.{asked_turn, library_asked, library_stops}
use Rattle.dds_core.specs.LibraryTurn.{live_library_turn}
use Rattle.dds_net.specs.Net.{Net, Node, a_brick, a_library, Sizes, gains, is_in, landing, lands, place_in, sizes_of, when_in}
use Rattle.dds_resolve.proofs.MemberSteps.{grown-ready, learns-more}
use Rattle.dds_resolve.specs.Team.{AskedOk, DeferredOk, LetterOk, Members}
use Rattle.dds_resolve.specs.Teams.{BrickIs, NodeOk, ground}
use Rattle.dds_script.specs.Opening.{OpeningOf, ranges_of}
use Rattle.dds_script.specs.Ranges.{IsRanges}
use Rattle.dds_states.specs.declared.brick_state.BrickState.{BrickState}
use Rattle.dds_states.specs.declared.brick_state.Deferred.{Deferred}
use Rattle.dds_states.specs.declared.brick_state.Question.{Question}
use Rattle.dds_states.specs.declared.brick_state.Question.TheVariants.{Help, Query}
use Rattle.dds_states.specs.declared.library_state.LibraryState.{LibraryState}
use Rattle.dds_talk.specs.Books.{Books}
use Rattle.dds_world.specs.Outcomes.{HasMembers}
use Rattle.dds_world.specs.Places.{IsLive, Travels, reached}
use Rattle.dds_outcomes.proofs.Facts.{members-listed, stays-list}
use Rattle.dds_outcomes.proofs.Grows.{list-through}
use Rattle.dds_outcomes.proofs.Places.{event-goes, kept-holds}
use Rattle.dds_outcomes.proofs.Statuses.{AllStatus, IsListed, LetterListed, StatusOk, orders-ok, turn-ok}
use Rattle.dds_outcomes.specs.Kept.{Holds, Kept}
use Rattle.dds_outcomes.specs.Kept.Kept.{first, grown}

-- Each status on its way from a live brick goes to a member for whom the attempt is ready, as that brick knows.

-- by the members that attempts have
abbrev Answers : Sizes → (Txn → List ℕ) → Way
Answers z L a b x y c = (s : BrickState) → x ≡ a_brick s → s.stopped ≡ false → AllByRecursion (StatusOk z s.known L b) c

-- a brick that knows more
more-ok : (z : Sizes) (K N : NodeSet) (L : Txn → List ℕ) (b : ℕ) → ((n : ℕ) → has_node K n ≡ true → has_node N n ≡ true)
    → (l : Letter) → StatusOk z K L b l → StatusOk z N L b l
more-ok z K N L b more (letter.Status txn st) h = (h.0, grown-ready K N txn (L txn) b more h.1)
more-ok z K N L b more other h = tt

-- letters where they land
lands-at : (z : Sizes) (K : NodeSet) (L : Txn → List ℕ) (to b : ℕ) (l : Letter) → z.bricks ≤ 64 → is_in z b ≡ true → lands z to b ≡ true
    → StatusOk z K L to l → StatusOk z K L b l
lands-at z K L to b (letter.Status txn st) few inside e h =
    let same : to ≡ b = one-place z to b few h.0 inside (eqb-true (place_in z.bricks to) (place_in z.bricks b) e) in
    subst (λ k. (is_in z k ≡ true) × (is_ready K txn (L txn) k ≡ true)) same h
lands-at z K L to b other few inside e h = tt

land-if : (P : Letter → Type 0) (c : Bool) (l : Letter) (ls : List Letter) → (c ≡ true → P l) → AllByRecursion P ls
    → AllByRecursion P (if c then l ∷ ls else ls)
land-if P true l ls f h = (f refl, h)
land-if P false l ls f h = h

landing-ok : (z : Sizes) (K : NodeSet) (L : Txn → List ℕ) (b : ℕ) (ls : List (NodeNo × Letter)) → z.bricks ≤ 64 → is_in z b ≡ true → AllStatus z K L ls
    → AllByRecursion (StatusOk z K L b) (landing z b ls)
landing-ok z K L b [] few inside h = tt
landing-ok z K L b (l ∷ ls) few inside h =
    land-if (StatusOk z K L b) (lands z l.0 b) l.1 (landing z b ls) (λ e. lands-at z K L l.0 b l.1 few inside e h.0)
    (landing-ok z K L b ls few inside h.1)

when-ok : (P : Letter → Type 0) (c : Bool) (ls : List Letter) → (c ≡ true → AllByRecursion P ls) → AllByRecursion P (when_in c ls)
when-ok P true ls f = f refl
when-ok P false ls f = tt

gains-ok : (z : Sizes) (K : NodeSet) (L : Txn → List ℕ) (b : ℕ) (ls : List (NodeNo × Letter)) → z.bricks ≤ 64 → AllStatus z K L ls
    → AllByRecursion (StatusOk z K L b) (gains z ls b)
gains-ok z K L b ls few h = when-ok (StatusOk z K L b) (is_in z b) (landing z b ls) (λ e. landing-ok z K L b ls few e h)

-- what a brick says
brick-is : (u s : BrickState) → a_brick u ≡ a_brick s → u ≡ s
brick-is u s e = cc

brick-says : (z : Sizes) (L : Txn → List ℕ) (b : ℕ) (x : Node) (s u : BrickState) (ls : List (NodeNo × Letter)) (c : List Letter) → z.bricks ≤ 64
    → x ≡ a_brick s → (u.stopped ≡ false → s.stopped ≡ false) → ((n : ℕ) → has_node s.known n ≡ true → has_node u.known n ≡ true)
    → AllStatus z u.known L ls
    → ((y : BrickState) → x ≡ a_brick y → y.stopped ≡ false → AllByRecursion (StatusOk z y.known L b) c)
    → (y : BrickState) → a_brick u ≡ a_brick y → y.stopped ≡ false → AllByRecursion (StatusOk z y.known L b) (c ++ gains z ls b)
brick-says z L b x s u ls c few here live more new old y e lives =
    let same = brick-is u y e in
    let now : u.stopped ≡ false = ap (λ (v : BrickState). v.stopped) same ∙ lives in
    subst (λ (v : BrickState). AllByRecursion (StatusOk z v.known L b) (c ++ gains z ls b)) same
    (all-append (StatusOk z u.known L b) c (gains z ls b)
    (all-map (StatusOk z s.known L b) (StatusOk z u.known L b) c (more-ok z s.known u.known L b more) (old s here (live now)))
    (gains-ok z u.known L b ls few new))

-- the letter and the deferred ones have the attempts' members
abbrev Fitting : Books → (Txn → List ℕ) → Type 0
Fitting c L = (t : Txn) → (c.list t ≡ []) ⊎ (L t ≡ c.list t)

fits-list : (z : Sizes) (n : Net) (c : Books) (L : Txn → List ℕ) (t : Txn) (list : List ℕ) (m : ℕ) → Fitting c L
    → Members (ground z n c.list) t list m → L t ≡ list
fits-list z n c L t list m f h = stays-list (c.list t) (L t) list m (f t) h.listed h.member

letter-listed : (z : Sizes) (n : Net) (c : Books) (L : Txn → List ℕ) (from at : ℕ) (l : Letter) → Fitting c L → LetterOk (ground z n c.list) from at l
    → LetterListed L l
letter-listed z n c L from at (letter.Help txn list) f h = fits-list z n c L txn list from f h.members
letter-listed z n c L from at (letter.Query txn list) f h = fits-list z n c L txn list at f h.0.members
letter-listed z n c L from at other f h = tt

one-has : (P : ℕ → Type 0) (n k : ℕ) (rest c : Bool) → (n == k) ≡ c → (c || rest) ≡ true → P n → (rest ≡ true → P k) → P k
one-has P n k rest true e h p f = subst P (eqb-true n k e) p
one-has P n k rest false e h p f = f h

has-all : (P : ℕ → Type 0) (list : List ℕ) (k : ℕ) → AllByRecursion P list → has list k ≡ true → P k
has-all P [] k h e = cc
has-all P (n ∷ ns) k h e = one-has P n k (has ns k) (n == k) refl e h.0 (λ i. has-all P ns k h.1 i)

asked-listed : (z : Sizes) (n : Net) (c : Books) (L : Txn → List ℕ) (at : ℕ) (d : Deferred) (q : Question) → Fitting c L
    → AskedOk (ground z n c.list) at d q → IsListed z L d
asked-listed z n c L at d Help f h =
    (has-all (λ k. is_in z k ≡ true) d.list d.from h.members.inside h.members.member, fits-list z n c L d.txn d.list d.from f h.members)
asked-listed z n c L at d Query f h =
    (has-all (λ k. is_in z k ≡ true) d.list d.from h.0.members.inside h.0.resolver, fits-list z n c L d.txn d.list at f h.0.members)

heard-more : (s : BrickState) (from : ℕ) (l : Letter) → from < 80 → (n : ℕ) → has_node s.known n ≡ true → has_node (heard s from l).known n ≡ true
heard-more s from letter.Notice low n h = learns-more s from low n h
heard-more s from other low n h = h

-- a brick takes a letter
takes-told : (z : Sizes) (cs : List Caller) (n : Net) (at from : ℕ) (l : Letter) (s : BrickState) (c : Books) (L : Txn → List ℕ) → z.bricks ≤ 64
    → z.libraries ≤ 16 → Fits z cs n (brick_takes at from l s) → Holds z n c → Fitting c L → AllWays (Answers z L) n
    → AllWays (Answers z L) (moved z n (brick_takes at from l s))
takes-told z cs n at from l s c L few some f holds fit g =
    let r = live_brick_turn s from l in
    let gr = ground z n c.list in
    let own : BrickIs gr at s = subst (NodeOk gr at) f.here (holds.parts.teams.nodes at) in
    let ok : LetterOk gr from at l = (subst (AllByRecursion (LetterOk gr from at)) f.letter.first (holds.parts.teams.letters from at)).0 in
    let t = turn-ok z L s from l f.letter.sender (letter-listed z n c L from at l fit ok)
    (all-map (DeferredOk gr at) (IsListed z L) s.deferred (λ d h. asked-listed z n c L at d d.question fit h) own.deferred) in
    takes-ways (Answers z L) z n at from l (a_brick r.state) r.out.letters f.letter (record {
      stays = λ a x d ne k. k;
      hears = λ x d k y e lives. (k y e lives).1;
      says = λ b x d k. brick-says z L b (n.node at) s r.state r.out.letters d few f.here (λ e. f.live)
          (λ m h. ap (λ v. has_node v m) t.state.known ∙ heard-more s from l (node-below z from few some f.letter.sender) m h)
          (subst (λ v. AllStatus z v L r.out.letters) (sym t.state.known) t.letters) k;
    }) g

told-told : (z : Sizes) (cs : List Caller) (n : Net) (at : ℕ) (o : Order) (s : BrickState) (L : Txn → List ℕ)
    → z.bricks ≤ 64 → Fits z cs n (brick_told at o s) → AllWays (Answers z L) n → AllWays (Answers z L) (moved z n (brick_told at o s))
told-told z cs n at o s L few f g =
    let r = brick_input s o in
    let k = order-rests {L = Any} s o in
    let known : r.state.known ≡ s.known = ap (λ (w : Whole). w.who.known) k.same in
    does-ways (Answers z L) z n at (a_brick r.state) r.out.letters (record {
      stays = λ a x d h. h;
      says = λ b x d h. brick-says z L b (n.node at) s r.state r.out.letters d few f.here (λ e. sym (ap (λ (w : Whole). w.who.stopped) k.same) ∙ e)
          (λ m i. ap (λ v. has_node v m) known ∙ i) (orders-ok z r.state.known L r.out.letters k.letters) h;
    }) g

-- a library says nothing of this
no-library : (z : Sizes) (L : Txn → List ℕ) (b : ℕ) (u : LibraryState) (c : List Letter) (y : BrickState) → a_library u ≡ a_brick y → y.stopped ≡ false
    → AllByRecursion (StatusOk z y.known L b) c
no-library z L b u c y e lives = cc

no-stopped : (z : Sizes) (L : Txn → List ℕ) (b k : ℕ) (c : List Letter) (y : BrickState) → a_brick (emptied k) ≡ a_brick y → y.stopped ≡ false
    → AllByRecursion (StatusOk z y.known L b) c
no-stopped z L b k c y e lives =
    let no : true ≡ false = ap (λ (v : BrickState). v.stopped) (brick-is (emptied k) y e) ∙ lives in cc

event-told : (z : Sizes) (cs : List Caller) (n : Net) (e : Event) (c : Books) (L : Txn → List ℕ) → z.bricks ≤ 64 → z.libraries ≤ 16 → Fits z cs n e
    → Holds z n c → Fitting c L → AllWays (Answers z L) n → AllWays (Answers z L) (moved z n e)
event-told z cs n nothing c L few some f holds fit g = g
event-told z cs n (unasked at caller call o) c L few some f holds fit g = g
event-told z cs n (unheard at from l) c L few some f holds fit g =
    takes-ways (Answers z L) z n at from l (n.node at) [] f.letter (record {
      stays = λ a x d ne k. k;
      hears = λ x d k y e lives. (k y e lives).1;
      says = λ b x d k y e lives. all-append (StatusOk z y.known L b) d (gains z [] b) (k y e lives) (gains-ok z y.known L b [] few tt);
    }) g
event-told z cs n (brick_takes at from l s) c L few some f holds fit g = takes-told z cs n at from l s c L few some f holds fit g
event-told z cs n (brick_told at o s) c L few some f holds fit g = told-told z cs n at o s L few f g
event-told z cs n (brick_stops at s kept) c L few some f holds fit g =
    stops-ways (Answers z L) z n at (a_brick (emptied s.number)) kept f.left.front (record {
      stays = λ a x d k. k;
      leaves = λ b x d left front k. no-stopped z L b s.number (left ++ notice_to z at b);
    }) g
event-told z cs n (library_takes at from l s) c L few some f holds fit g =
    let r = live_library_turn s from l in
    takes-ways (Answers z L) z n at from l (a_library r.state) r.out.letters f.letter (record {
      stays = λ a x d ne k. k;
      hears = λ x d k y e lives. (k y e lives).1;
      says = λ b x d k. no-library z L b r.state (d ++ gains z r.out.letters b);
    }) g
event-told z cs n (library_asked at caller call o s) c L few some f holds fit g =
    let r = asked_turn s caller call o in
    does-ways (Answers z L) z n at (a_library r.state) r.out.letters (record {
      stays = λ a x d k. k;
      says = λ b x d k. no-library z L b r.state (d ++ gains z r.out.letters b);
    }) g
event-told z cs n (library_stops at s kept) c L few some f holds fit g =
    stops-ways (Answers z L) z n at (a_library (record s { stopped = true })) kept f.left.front (record {
      stays = λ a x d k. k;
      leaves = λ b x d left front k. no-library z L b (record s { stopped = true }) (left ++ notice_to z at b);
    }) g

-- along a run
told-along : (o : OpeningOf) (journal : List Step) (b : Books) (L : Txn → List ℕ) → IsRanges (ranges_of o) → Kept o journal b → Fitting b L
    → AllWays (Answers (sizes_of o) L) (net_of o journal)
told-along o journal b L ranges (first j c e f h) fit =
    subst (λ steps. AllWays (Answers (sizes_of o) L) (net_of o steps)) (sym e)
    (λ a d s is lives. subst (AllByRecursion (StatusOk (sizes_of o) s.known L d)) (sym (start-channel o a d)) tt)
told-along o journal b L ranges (grown j was x e c d k same is next past stays h) fit =
    let z = sizes_of o in
    let grows = event-goes o was e c b is stays in
    let early = (λ (t : Txn). list-through (c.list t) (b.list t) (L t) (grows.list t) (fit t)) in
    subst (λ steps. AllWays (Answers z L) (net_of o steps)) (sym same)
    (subst (AllWays (Answers z L)) (sym next.after)
    (event-told z (run_of o was).callers (net_of o was) e c L ranges.bricks ranges.libraries next.fits (kept-holds o was c k) early
    (told-along o was c L ranges k early)))

pub status-told : (o : OpeningOf) (journal : List Step) (b : Books) → IsRanges (ranges_of o) → Kept o journal b → (t : Txn) (list : List ℕ) (a c : ℕ)
    (s : BrickState) (st : TxnStatus)
    → HasMembers o journal t list → Travels (reached o journal) a c (letter.Status t st) → IsLive (reached o journal) a s
    → is_ready s.known t list c ≡ true
status-told o journal b ranges kept t list a c s st h way live =
    let z = sizes_of o in
    let w = (run_of o journal).world in
    let ways = told-along o journal b b.list ranges kept (λ x. inr refl) in
    let ok = travels (StatusOk z s.known b.list c) z w a c (letter.Status t st) (sized-run o journal) way
    (ways a c s (brick-node w a s live.there) live.live) in
    ap (λ ys. is_ready s.known t ys c) (sym (members-listed o journal b t list kept h)) ∙ ok.1
