use Rattle.std.proofs.Common.{◌≡◌, ℕ, ◌<◌, ◌≤◌, ◌==◌, ◌++◌, Bool, true, false, not, inl, inr, Option, List, [], ◌∷◌, refl, sym, ap, ◌∙◌, subst, arith}
use Rattle.std.proofs.lemmas.Bool.{cases_Bool, ne_eqb}
use Rattle.std.proofs.lemmas.List.{append-nil}
use Rattle.dds_base.specs.Name.{Name}
use Rattle.dds_base.specs.NodeSet.{has_node}
use Rattle.dds_base.specs.declared.number.NodeNo.{NodeNo}
use Rattle.dds_base.specs.declared.op.Order.{Order}
use Rattle.dds_cluster.specs.World.{emptied}
use Rattle.dds_cluster.specs.declared.trace.Caller.{Caller}
use Rattle.dds_core.proofs.Lists.{all-map}
use Rattle.dds_core.specs.Brick.{brick_input, live_brick_turn}
use Rattle.dds_core.specs.LibraryTurn.{live_library_turn}
use Rattle.dds_law_own.proofs.Keeps.{of-another}
use Rattle.dds_letters.specs.declared.letter.Letter.{Letter}
use Rattle.dds_letters.specs.declared.letter.Letter.TheVariants as letter
use Rattle.dds_locks.specs.Leases.{is_given}
use Rattle.dds_net.proofs.PairTakes.{pairs-does, pairs-takes}
use Rattle.dds_net.proofs.Puts.{Pairs, pairs-changed}
use Rattle.dds_net.proofs.Runs.{IsBuilt}
use Rattle.dds_net.specs.Event.{Event, nothing, unheard, unasked, brick_takes, brick_told, brick_stops, library_takes, library_asked, library_stops}
use Rattle.dds_net.specs.Event.{Fits, IsDeaf, IsFirst, Stops, asked_turn, does, moved, notice_to, stops, takes}
use Rattle.dds_net.specs.Net.{Net, Node, nowhere, a_brick, a_library, Sizes, changed, gains, when_in}
use Rattle.dds_orders.proofs.Deeds.{nothing_owed, seat, told_order}
use Rattle.dds_orders.proofs.Numbered as numbered
use Rattle.dds_orders.proofs.Numbered.{told-stopped}
use Rattle.dds_orders.proofs.Turns.{Turns, letter-turns, order-goes}
use Rattle.dds_states.specs.declared.brick_state.BrickState.{BrickState}
use Rattle.dds_states.specs.declared.brick_state.OpenOrder.{OpenOrder}
use Rattle.dds_states.specs.declared.library_state.LibraryState.{LibraryState}
use Rattle.dds_order_talk.proofs.BrickSide.{IsCounted, Other, Side}
use Rattle.dds_order_talk.proofs.BrickTurns.{none-gained, side-trip}
use Rattle.dds_order_talk.proofs.BrickWhole.{path-known}
use Rattle.dds_order_talk.proofs.Kept.{kept-path}
use Rattle.dds_order_talk.proofs.LetterEvents.{from-here, inside-of, letter-talks, talking-self, to-here}
use Rattle.dds_order_talk.proofs.MemberHears.{sent}
use Rattle.dds_order_talk.proofs.MemberSide.{member-path}
use Rattle.dds_order_talk.proofs.MemberTurns.{sent-silent, silent-gains}
use Rattle.dds_order_talk.proofs.Moves.{Tells, member-stops}
use Rattle.dds_order_talk.proofs.Projections.{IsNotAsked, IsNotSaid, says-append}
use Rattle.dds_order_talk.proofs.RightLetters.{LeavesFit, right-of}
use Rattle.dds_order_talk.proofs.Speaking.{Speaks}
use Rattle.dds_order_talk.proofs.Talking.{TalkWith, Talking, Wanted, asks-at, low-at, side-at, speaks-of, stood-at, talk-gone, talk-of, with-of}
use Rattle.dds_order_talk.specs.Seen.{BrickTalk, New, Own, asks, rests, says, view}
use Rattle.dds_order_talk.specs.Table.{Ask, Say, Talks, View}
use Rattle.dds_order_talk.specs.Table.Talks.{lost, gone}

-- The other events: a stopped node ignores a letter, a brick is told an order, a node stops, and what libraries do.

-- of a stopped member nothing is said but its answers
pub lost-any : {x : Name} {Own New OwnAfter NewAfter : Tells} {lives : Bool} {v : View} {o p : List Ask} {given after : Bool} {b : List Say}
    → Talks x Own New lives false v o given b → Talks x OwnAfter NewAfter lives false v p after b
lost-any (lost cut h) = lost cut h
lost-any gone = gone

abbrev Meets : ℕ → ℕ → BrickState → BrickState → Name → List Letter → List Letter → Bool → Type 0
Meets a at sj s x out back lives =
    Talks x (Own s.leaves x) (New s.leaves x) (not sj.stopped) lives (view rests sj.order x at) (asks sj.order x out) (is_given s.locks.leases x a)
    (says sj.order x back)

stopped-member : (a at : ℕ) (sj s t : BrickState) (x : Name) (out after back more : List Letter) → s.stopped ≡ true → t.stopped ≡ true
    → says sj.order x more ≡ says sj.order x back → BrickTalk rests a at x sj s out back → BrickTalk rests a at x sj t after more
stopped-member a at sj s t x out after back more e f said h unknown =
    subst (λ c. Meets a at sj t x after more (not c)) (sym f)
    (subst (λ b. Talks x (Own t.leaves x) (New t.leaves x) (not sj.stopped) false (view rests sj.order x at) (asks sj.order x after)
    (is_given t.locks.leases x a) b) (sym said) (lost-any (subst (λ c. Meets a at sj s x out back (not c)) e (h unknown))))

-- a node that has stopped hears a letter
deaf-brick : (j m : ℕ) (x y : Node) (out back more rest : List Letter) → IsDeaf x → Talking j m x y out back → Talking j m x y more rest
deaf-brick j m nowhere y out back more rest d h = tt
deaf-brick j m (a_library s) y out back more rest d h = tt
deaf-brick j m (a_brick s) nowhere out back more rest d h = tt
deaf-brick j m (a_brick s) (a_library t) out back more rest d h = tt
deaf-brick j m (a_brick s) (a_brick t) out back more rest d h = λ e x. talk-gone j m s t more rest x d

deaf-member : (j m : ℕ) (x y : Node) (l : Letter) (out back : List Letter) → IsDeaf y → Talking j m x y (l ∷ out) back → Talking j m x y out back
deaf-member j m nowhere y l out back d h = tt
deaf-member j m (a_library s) y l out back d h = tt
deaf-member j m (a_brick s) nowhere l out back d h = tt
deaf-member j m (a_brick s) (a_library t) l out back d h = tt
deaf-member j m (a_brick s) (a_brick t) l out back d h = λ e x. stopped-member j m s t t x (l ∷ out) out back back d d refl (h e x)

back-same : (z : Sizes) (j m b : ℕ) (x y : Node) (out back : List Letter) → Talking j m x y out back → Talking j m x y out (back ++ gains z [] b)
back-same z j m b x y out back h =
    subst (Talking j m x y out) (sym (ap (λ g. back ++ g) (none-gained z b) ∙ append-nil back)) h

pub unheard-talks : (z : Sizes) (n : Net) (at from : ℕ) (l : Letter) → IsDeaf (n.node at) → (f : IsFirst z n at from l) → Pairs Talking n
    → Pairs Talking (changed n (takes z n at from (n.node at) []))
unheard-talks z n at from l deaf f g =
    pairs-takes Talking z n at from l (n.node at) [] f (record {
      out = λ b nb nf h. deaf-brick at b (n.node at) (n.node b) (n.channel at b) (n.channel b at) _ _ deaf h;
      back = λ a na nf h. back-same z a at a (n.node a) (n.node at) (n.channel a at) (n.channel at a) h;
      reply = λ ne h. deaf-brick at from (n.node at) (n.node from) (n.channel at from) (l ∷ f.others) _ _ deaf h;
      heard = λ ne h. back-same z from at from (n.node from) (n.node at) f.others (n.channel at from)
          (deaf-member from at (n.node from) (n.node at) l f.others (n.channel at from) deaf h);
      own = λ ne h. talking-self at (n.node at) (n.node at) _ _;
      own_heard = λ e h. talking-self at (n.node at) (n.node at) _ _;
    }) g

-- a library
with-library : (j m : ℕ) (x : Node) (t : LibraryState) (out back : List Letter) → Talking j m x (a_library t) out back
with-library j m nowhere t out back = tt
with-library j m (a_library s) t out back = tt
with-library j m (a_brick s) t out back = tt

pub library-talks : (z : Sizes) (n : Net) (at from : ℕ) (l : Letter) (t : LibraryState) (ls : List (NodeNo × Letter)) (f : IsFirst z n at from l)
    → Pairs Talking n → Pairs Talking (changed n (takes z n at from (a_library t) ls))
library-talks z n at from l t ls f g =
    pairs-takes Talking z n at from l (a_library t) ls f (record {
      out = λ b nb nf h. tt;
      back = λ a na nf h. with-library a at (n.node a) t _ _;
      reply = λ ne h. tt;
      heard = λ ne h. with-library from at (n.node from) t _ _;
      own = λ ne h. tt;
      own_heard = λ e h. tt;
    }) g

pub library-asks : (z : Sizes) (n : Net) (at : ℕ) (t : LibraryState) (ls : List (NodeNo × Letter)) → Pairs Talking n
    → Pairs Talking (changed n (does z n at (a_library t) ls))
library-asks z n at t ls g =
    pairs-does Talking z n at (a_library t) ls
    (record { out = λ b nb h. tt; back = λ a na h. with-library a at (n.node a) t _ _; own = λ h. tt }) g

pub library-gone : (z : Sizes) (n : Net) (at : ℕ) (t : LibraryState) (kept : ℕ → List Letter) → Pairs Talking n
    → Pairs Talking (changed n (stops z n at (a_library t) kept))
library-gone z n at t kept g =
    pairs-changed Talking n (stops z n at (a_library t) kept)
    (record { own = tt; from = λ b nb. tt; to = λ a na. with-library a at (n.node a) t _ _ }) g

-- a brick stops
gone-with : (j m : ℕ) (s : BrickState) (y : Node) (out back : List Letter) → s.stopped ≡ true → TalkWith j m s y out back
gone-with j m s nowhere out back e = tt
gone-with j m s (a_library t) out back e = tt
gone-with j m s (a_brick t) out back e = λ f x. talk-gone j m s t out back x e

notice-says : (q : Option OpenOrder) (x : Name) (c : Bool) → says q x (when_in c (letter.Notice ∷ [])) ≡ []
notice-says q x true = refl
notice-says q x false = refl

stops-member : (z : Sizes) (a at : ℕ) (sj s t : BrickState) (x : Name) (out left cut : List Letter) → s.stopped ≡ false → t.stopped ≡ true
    → BrickTalk rests a at x sj s out (left ++ cut) → BrickTalk rests a at x sj t out (left ++ notice_to z at a)
stops-member z a at sj s t x out left cut e f h unknown =
    let before = subst (λ b. Talks x (Own s.leaves x) (New s.leaves x) (not sj.stopped) true (view rests sj.order x at) (asks sj.order x out)
    (is_given s.locks.leases x a) b) (says-append sj.order x left cut) (subst (λ c. Meets a at sj s x out (left ++ cut) (not c)) e (h unknown)) in
    let said : says sj.order x (left ++ notice_to z at a) ≡ says sj.order x left =
    says-append sj.order x left (notice_to z at a) ∙ ap (λ b. says sj.order x left ++ b) (notice-says sj.order x _) ∙ append-nil (says sj.order x left) in
    subst (λ c. Meets a at sj t x out (left ++ notice_to z at a) (not c)) (sym f)
    (subst (λ b. Talks x (Own t.leaves x) (New t.leaves x) (not sj.stopped) false (view rests sj.order x at) (asks sj.order x out)
    (is_given t.locks.leases x a) b) (sym said) (member-stops (says sj.order x cut) before))

stops-with : (z : Sizes) (a at : ℕ) (y : Node) (s t : BrickState) (out left cut : List Letter) → s.stopped ≡ false → t.stopped ≡ true
    → Talking a at y (a_brick s) out (left ++ cut) → Talking a at y (a_brick t) out (left ++ notice_to z at a)
stops-with z a at nowhere s t out left cut e f h = tt
stops-with z a at (a_library sj) s t out left cut e f h = tt
stops-with z a at (a_brick sj) s t out left cut e f h = λ g x. stops-member z a at sj s t x out left cut e f (h g x)

pub stop-talks : (z : Sizes) (n : Net) (at : ℕ) (s t : BrickState) (kept : ℕ → List Letter) → Stops z n at (a_brick s) kept → t.stopped ≡ true
    → Pairs Talking n → Pairs Talking (changed n (stops z n at (a_brick t) kept))
stop-talks z n at s t kept f e g =
    pairs-changed Talking n (stops z n at (a_brick t) kept) (record {
      own = talking-self at (a_brick t) (a_brick t) (kept at ++ notice_to z at at) (kept at ++ notice_to z at at);
      from = λ b nb. gone-with at b t (n.node b) _ _ e;
      to = λ a na.
          let cut = f.left.front a in
          stops-with z a at (n.node a) s t (n.channel a at) (kept a) cut.gone f.live e
          (subst (Talking a at (n.node a) (a_brick s) (n.channel a at)) cut.is
          (to-here a at (n.node a) (n.node at) s (n.channel a at) (n.channel at a) f.here (g a at)));
    }) g

-- a brick is told an order
below-not : (count number : ℕ) → number < count → (count == number) ≡ false
below-not count number lt = ne_eqb count number (λ e. omega (arith, lt, e))

pub told-side : (z : Sizes) (n : Net) (j m : ℕ) (s t : BrickState) → Wanted z n → n.node j ≡ a_brick s → s.stopped ≡ false
    → Speaks j m t rests s.order (n.channel j m) (n.channel m j) → Side j m t told_order (seat s) (n.channel j m) (n.channel m j)
told-side z n j m s t w here live h =
    let it = side-at z n j m s t (n.channel m j) w here live h in
    record {
      speaks = h;
      stood = it.stood;
      asks = it.asks;
      numbers = it.numbers;
      counted = it.counted;
      fits = it.fits;
      owed = (
        all-map (IsCounted (seat s)) (IsNotAsked s.orders) (n.channel j m) (λ l c number e. below-not s.orders number (c number e).given) it.counted,
        all-map (numbered.LetterOk n.node m j) (IsNotSaid s.orders) (n.channel m j) (λ l ok number e.
            let c : numbered.Counts (a_brick s) number l = subst (λ x. numbered.Counts x number l) here (ok.said number e).1 in
            below-not s.orders number (c live).given) (w.stood.counted.letters m j),
        λ at leaf e. w.once j s at leaf here e,
      );
    }

told-with : (z : Sizes) (n : Net) (at b : ℕ) (o : Order) (s : BrickState) (y : Node) → IsBuilt z n → Wanted z n → n.node at ≡ a_brick s → n.node b ≡ y
    → (b ≡ at → ⊥) → TalkWith at b s y (n.channel at b) (n.channel b at)
    → TalkWith at b (brick_input s o).state y (n.channel at b ++ gains z (brick_input s o).out.letters b) (n.channel b at)
told-with z n at b o s nowhere built w here there ne h = tt
told-with z n at b o s (a_library t) built w here there ne h = tt
told-with z n at b o s (a_brick t) built w here there ne h = λ apart x. elim (cases_Bool s.stopped) [
  | inl stopped ↦
      talk-gone at b (brick_input s o).state t (n.channel at b ++ gains z (brick_input s o).out.letters b) (n.channel b at) x
      (told-stopped s o ∙ stopped)
  | inr alive ↦ λ unknown.
      let path = (order-goes s o).path in
      let known : has_node s.known b ≡ false =
      ap (λ k. has_node k b) (sym (path-known (seat s) (seat (brick_input s o).state) (brick_input s o).out.letters path)) ∙ unknown in
      let other : Other z at b s.known = record { low = low-at z n b t w there; inside = inside-of z n b t built there; other = ne; unknown = known } in
      let side = told-side z n at b s t w here alive (speaks-of at b s t (n.channel at b) (n.channel b at) alive known (h apart)) in
      let after = side-trip z at b t told_order nothing_owed (seat s) (seat (brick_input s o).state) (brick_input s o).out.letters (n.channel at b)
      (n.channel b at) (order-goes s o).trip other side in
      talk-of at b (brick_input s o).state t (n.channel at b ++ gains z (brick_input s o).out.letters b) (n.channel b at) x (told-stopped s o ∙ alive)
      after.speaks unknown
]

told-member : (z : Sizes) (n : Net) (at a : ℕ) (o : Order) (s : BrickState) (sj : BrickState) (x : Name) (out back : List Letter) → IsBuilt z n
    → Wanted z n → n.node at ≡ a_brick s → n.node a ≡ a_brick sj → (a ≡ at → ⊥) → BrickTalk rests a at x sj s out back
    → BrickTalk rests a at x sj (brick_input s o).state out (back ++ gains z (brick_input s o).out.letters a)
told-member z n at a o s sj x out back built w here there ne h =
    let t = brick_input s o in
    let path = (order-goes s o).path in
    let kept = kept-path at (seat s) (seat t.state) t.out.letters path (asks-at z n at s w here) in
    let none = silent-gains z a sj.order x t.out.letters (low-at z n a sj w there) (inside-of z n a sj built there)
    (sent-silent a (seat t.state) t.out.letters kept.sent) in
    let said : says sj.order x (back ++ gains z t.out.letters a) ≡ says sj.order x back =
    says-append sj.order x back (gains z t.out.letters a) ∙ ap (λ b. says sj.order x back ++ b) none ∙ append-nil (says sj.order x back) in
    elim (cases_Bool s.stopped) [
      | inl stopped ↦
          stopped-member a at sj s t.state x out out back (back ++ gains z t.out.letters a) stopped (told-stopped s o ∙ stopped) said h
      | inr alive ↦ λ unknown.
          let before : Meets a at sj s x out back true = subst (λ d. Meets a at sj s x out back (not d)) alive (h unknown) in
          let after = member-path at a x (seat s) (seat t.state) t.out.letters path (stood-at z n at s w here) ne before in
          subst (λ d. Meets a at sj t.state x out (back ++ gains z t.out.letters a) (not d)) (sym (told-stopped s o ∙ alive))
          (subst (λ b. Talks x (Own t.state.leaves x) (New t.state.leaves x) (not sj.stopped) true (view rests sj.order x at) (asks sj.order x out)
          (is_given t.state.locks.leases x a) b) (sym said) after)
    ]

told-others : (z : Sizes) (n : Net) (at a : ℕ) (o : Order) (s : BrickState) (y : Node) (out back : List Letter) → IsBuilt z n
    → Wanted z n → n.node at ≡ a_brick s → n.node a ≡ y → (a ≡ at → ⊥) → Talking a at y (a_brick s) out back
    → Talking a at y (a_brick (brick_input s o).state) out (back ++ gains z (brick_input s o).out.letters a)
told-others z n at a o s nowhere out back built w here there ne h = tt
told-others z n at a o s (a_library sj) out back built w here there ne h = tt
told-others z n at a o s (a_brick sj) out back built w here there ne h =
    λ e x. told-member z n at a o s sj x out back built w here there ne (h e x)

pub order-talks : (z : Sizes) (n : Net) (at : ℕ) (o : Order) (s : BrickState) → IsBuilt z n → Wanted z n → n.node at ≡ a_brick s → Pairs Talking n
    → Pairs Talking (changed n (does z n at (a_brick (brick_input s o).state) (brick_input s o).out.letters))
order-talks z n at o s built w here g =
    pairs-does Talking z n at (a_brick (brick_input s o).state) (brick_input s o).out.letters (record {
      out = λ b nb h. told-with z n at b o s (n.node b) built w here refl nb
          (from-here at b (n.node at) s (n.node b) (n.channel at b) (n.channel b at) here h);
      back = λ a na h. told-others z n at a o s (n.node a) (n.channel a at) (n.channel at a) built w here refl na
          (to-here a at (n.node a) (n.node at) s (n.channel a at) (n.channel at a) here h);
      own = λ h. talking-self at (a_brick (brick_input s o).state) (a_brick (brick_input s o).state)
          (n.channel at at ++ gains z (brick_input s o).out.letters at) (n.channel at at ++ gains z (brick_input s o).out.letters at);
    }) g

-- each event
abbrev pub MayTake : Net → Event → Type 0
MayTake n (brick_takes at from l s) =
    (sj : BrickState) (x : Name) (u : Turns from (seat s) l (live_brick_turn s from l)) → n.node from ≡ a_brick sj → sj.stopped ≡ false
    → has_node sj.known at ≡ false → LeavesFit from x sj.order l u.first u.next (says sj.order x (sent u.answers))
MayTake n other = Unit {0}

pub talks-kept : (z : Sizes) (cs : List Caller) (n : Net) (e : Event) → z.bricks ≤ 64 → z.libraries ≤ 16 → IsBuilt z n → Fits z cs n e → Wanted z n
    → MayTake n e → Pairs Talking n → Pairs Talking (moved z n e)
talks-kept z cs n nothing few some built f w r g = g
talks-kept z cs n (unasked at caller call o) few some built f w r g = g
talks-kept z cs n (unheard at from l) few some built f w r g = unheard-talks z n at from l f.deaf f.letter g
talks-kept z cs n (brick_takes at from l s) few some built f w r g =
    let another = of-another z n at from l s few some w.stood.links f (stood-at z n at s w f.here).both.0.number in
    letter-talks z n at from l s (record {
      built = built;
      wanted = w;
      takes = f;
      another = another;
      turn = letter-turns s from l another;
      right = λ sj x u e alive unknown. right-of z n at from l s sj x u w f e alive unknown (λ ne y.
          with-of from at sj s (n.node from) (n.node at) (n.channel from at) (n.channel at from) e f.here ne (g from at) y) (r sj x u e alive unknown);
      talks = g;
    })
talks-kept z cs n (brick_told at o s) few some built f w r g = order-talks z n at o s built w f.here g
talks-kept z cs n (brick_stops at s kept) few some built f w r g = stop-talks z n at s (emptied s.number) kept f refl g
talks-kept z cs n (library_takes at from l s) few some built f w r g =
    library-talks z n at from l (live_library_turn s from l).state (live_library_turn s from l).out.letters f.letter g
talks-kept z cs n (library_asked at caller call o s) few some built f w r g =
    library-asks z n at (asked_turn s caller call o).state (asked_turn s caller call o).out.letters g
talks-kept z cs n (library_stops at s kept) few some built f w r g = library-gone z n at (record s { stopped = true }) kept g
