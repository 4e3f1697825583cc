use Rattle.std.proofs.Common.{◌≡◌, ℕ, ◌||◌, inl, inr, ◌++◌, Bool, true, false, List, [], ◌∷◌, take, refl, sym, ap, subst}
use Rattle.std.proofs.lemmas.Bool.{or_left}
use Rattle.std.specs.FinMap.{get}
use Rattle.std.specs.List.{AllByRecursion}
use Rattle.dds_base.specs.Number.{Txn}
use Rattle.dds_base.specs.declared.number.NodeNo.{NodeNo}
use Rattle.dds_cluster.specs.Trace.{run_of}
use Rattle.dds_cluster.specs.World.{emptied}
use Rattle.dds_cluster.specs.declared.step.Step.{Step}
use Rattle.dds_cluster.specs.declared.trace.Caller.{Caller}
use Rattle.dds_core.proofs.LetterTells.{Any}
use Rattle.dds_core.proofs.Lists.{all-append, all-front, all-map}
use Rattle.dds_core.proofs.OrderTells.{order-rests}
use Rattle.dds_core.proofs.Rests.{AllOrders, Orders}
use Rattle.dds_core.specs.Brick.{brick_input, live_brick_turn}
use Rattle.dds_core.specs.LibraryTurn.{live_library_turn}
use Rattle.dds_letters.specs.declared.letter.Letter.{Letter}
use Rattle.dds_letters.specs.declared.letter.Letter.TheVariants as letter
use Rattle.dds_net.proofs.Journals.{net_of}
use Rattle.dds_net.proofs.Letters.{gains-all}
use Rattle.dds_net.proofs.OneWay.{AllWays, Way, does-ways, stops-ways, takes-ways}
use Rattle.dds_net.proofs.Opening.{start-channel}
use Rattle.dds_net.proofs.Runs.{sized-run}
use Rattle.dds_net.proofs.Ways.{travels}
use Rattle.dds_net.specs.Event.{Event, Fits, History, asked_turn, history_of, moved, notice_to, nothing, unheard, unasked, brick_takes, brick_told}
use Rattle.dds_net.specs.Event.{brick_stops, library_takes, library_asked, library_stops}
use Rattle.dds_net.specs.Net.{Net, a_brick, a_library, Sizes, gains, sizes_of, when_in}
use Rattle.dds_script.specs.Opening.{OpeningOf}
use Rattle.dds_states.specs.declared.brick_state.BrickState.{BrickState}
use Rattle.dds_states.specs.declared.library_state.LibraryState.{LibraryState}
use Rattle.dds_talk.specs.Books.{Books, adds, is_yes, with_brick}
use Rattle.dds_world.specs.Outcomes.{DecidedByResolver}
use Rattle.dds_outcomes.proofs.Facts.{IsBooked, members-listed}
use Rattle.dds_outcomes.proofs.Grows.{decided-grows}
use Rattle.dds_outcomes.proofs.Heard.{brick-hears}
use Rattle.dds_outcomes.proofs.Places.{kept-before, kept-holds}
use Rattle.dds_outcomes.proofs.VerdictTurns.{turn-said}
use Rattle.dds_outcomes.proofs.Verdicts.{SaidOk, Sure}
use Rattle.dds_outcomes.specs.Kept.{Holds, IsSpoken, Kept, books_after}
use Rattle.dds_outcomes.specs.Kept.Kept.{first, grown}

-- A commit that is on its way from a resolver was decided.

abbrev SaidIs : (Txn → Bool) → Letter → Type 0
SaidIs D (letter.Outcome txn c) = c ≡ true → D txn ≡ true
SaidIs D other = Unit {0}

abbrev Tells : (Txn → Bool) → Way
Tells D a b x y c = (s : BrickState) → x ≡ a_brick s → AllByRecursion (SaidIs D) c

said-grows : (D E : Txn → Bool) → ((t : Txn) → D t ≡ true → E t ≡ true) → (l : Letter) → SaidIs D l → SaidIs E l
said-grows D E more (letter.Outcome txn c) h = λ e. more txn (h e)
said-grows D E more other h = tt

or-right : (x y : Bool) → y ≡ true → (x || y) ≡ true
or-right true y e = refl
or-right false y e = e

sure-decided : (at : ℕ) (u : BrickState) (b : Books) (t : Txn) → Sure b.decided u.locks t → (with_brick at u b).decided t ≡ true
sure-decided at u b t (inl h) = or_left (b.decided t) (is_yes (get u.locks.outcomes t)) h
sure-decided at u b t (inr h) = or-right (b.decided t) (is_yes (get u.locks.outcomes t)) (ap is_yes h.0)

said-is : (at : ℕ) (u : BrickState) (b : Books) (l : Letter) → SaidOk b.decided u.locks l → SaidIs (with_brick at u b).decided l
said-is at u b (letter.Outcome txn c) h = λ e. sure-decided at u b txn (h e)
said-is at u b other h = tt

order-is : (D : Txn → Bool) (to : NodeNo) (l : Letter) → Orders Any to l → SaidIs D l
order-is D to (letter.Outcome txn c) h = absurd h
order-is D to other h = tt

orders-are : (D : Txn → Bool) (ls : List (NodeNo × Letter)) → AllOrders Any ls → AllByRecursion (λ (p : NodeNo × Letter). SaidIs D p.1) ls
orders-are D [] h = tt
orders-are D (l ∷ ls) h = (order-is D l.0 l.1 h.0, orders-are D ls h.1)

notice-is : (D : Txn → Bool) (c : Bool) → AllByRecursion (SaidIs D) (when_in c (letter.Notice ∷ []))
notice-is D true = (tt, tt)
notice-is D false = tt

no-library : (D : Txn → Bool) (u : LibraryState) (c : List Letter) (y : BrickState) → a_library u ≡ a_brick y → AllByRecursion (SaidIs D) c
no-library D u c y e = cc

-- with what is decided after the event
event-tells : (z : Sizes) (cs : List Caller) (h : History) (n : Net) (e : Event) (b : Books) → Fits z cs n e → Holds z n b
    → AllWays (Tells (adds h n e b).decided) n → AllWays (Tells (adds h n e b).decided) (moved z n e)
event-tells z cs h n nothing b f holds g = g
event-tells z cs h n (unasked at caller call o) b f holds g = g
event-tells z cs h n (unheard at from l) b f holds g =
    takes-ways (Tells b.decided) z n at from l (n.node at) [] f.letter (record {
      stays = λ a x d ne k. k;
      hears = λ x d k y e. (k y e).1;
      says = λ c x d k y e. all-append (SaidIs b.decided) d (gains z [] c) (k y e) (gains-all (SaidIs b.decided) z c [] tt);
    }) g
event-tells z cs h n (brick_takes at from l s) b f holds g =
    let r = live_brick_turn s from l in
    let D = (with_brick at r.state b).decided in
    let hears = brick-hears z cs n b at from l s f holds in
    let said = turn-said b.decided s from l (holds.commit.note at s f.here).once hears.once hears.fair hears.news in
    takes-ways (Tells D) z n at from l (a_brick r.state) r.out.letters f.letter (record {
      stays = λ a x d ne k. k;
      hears = λ x d k y e. (k y e).1;
      says = λ c x d k y e. all-append (SaidIs D) d (gains z r.out.letters c) (k s f.here)
          (gains-all (SaidIs D) z c r.out.letters
          (all-map (λ (p : NodeNo × Letter). SaidOk b.decided r.state.locks p.1) (λ (p : NodeNo × Letter). SaidIs D p.1) r.out.letters
          (λ p i. said-is at r.state b p.1 i) said));
    }) g
event-tells z cs h n (brick_told at o s) b f holds g =
    let r = brick_input s o in
    let D = (with_brick at r.state b).decided in
    does-ways (Tells D) z n at (a_brick r.state) r.out.letters (record {
      stays = λ a x d k. k;
      says = λ c x d k y e. all-append (SaidIs D) d (gains z r.out.letters c) (k s f.here)
          (gains-all (SaidIs D) z c r.out.letters (orders-are D r.out.letters (order-rests {L = Any} s o).letters));
    }) g
event-tells z cs h n (brick_stops at s kept) b f holds g =
    stops-ways (Tells b.decided) z n at (a_brick (emptied s.number)) kept f.left.front (record {
      stays = λ a x d k. k;
      leaves = λ c x d left front k y e. all-append (SaidIs b.decided) left (notice_to z at c)
          (all-front (SaidIs b.decided) left front.gone (subst (AllByRecursion (SaidIs b.decided)) front.is (k s f.here))) (notice-is b.decided _);
    }) g
event-tells z cs h n (library_takes at from l s) b f holds g =
    let r = live_library_turn s from l in
    let D = (adds h n (library_takes at from l s) b).decided in
    takes-ways (Tells D) z n at from l (a_library r.state) r.out.letters f.letter (record {
      stays = λ a x d ne k. k;
      hears = λ x d k y e. (k y e).1;
      says = λ c x d k. no-library D r.state (d ++ gains z r.out.letters c);
    }) g
event-tells z cs h n (library_asked at caller call o s) b f holds g =
    let r = asked_turn s caller call o in
    let D = (adds h n (library_asked at caller call o s) b).decided in
    does-ways (Tells D) z n at (a_library r.state) r.out.letters (record {
      stays = λ a x d k. k;
      says = λ c x d k. no-library D r.state (d ++ gains z r.out.letters c);
    }) g
event-tells z cs h n (library_stops at s kept) b f holds g =
    stops-ways (Tells b.decided) z n at (a_library (record s { stopped = true })) kept f.left.front (record {
      stays = λ a x d k. k;
      leaves = λ c x d left front k. no-library b.decided (record s { stopped = true }) (left ++ notice_to z at c);
    }) g

-- along a run
outs-decided : (o : OpeningOf) (journal : List Step) (b : Books) → Kept o journal b → AllWays (Tells b.decided) (net_of o journal)
outs-decided o journal b (first j c e f h) =
    subst (λ steps. AllWays (Tells b.decided) (net_of o steps)) (sym e)
    (λ a d s is. subst (AllByRecursion (SaidIs b.decided)) (sym (start-channel o a d)) tt)
outs-decided o journal b (grown j was x e c d k same is next past stays h) =
    let z = sizes_of o in
    let n = net_of o was in
    let g = history_of (run_of o was) in
    let D = (books_after o was e c).decided in
    subst (λ steps. AllWays (Tells b.decided) (net_of o steps)) (sym same)
    (subst (AllWays (Tells b.decided)) (sym next.after)
    (subst (λ (y : Books). AllWays (Tells y.decided) (moved z n e)) (sym is)
    (event-tells z (run_of o was).callers g n e c next.fits (kept-holds o was c k)
    (λ a i s here. all-map (SaidIs c.decided) (SaidIs D) (n.channel a i) (said-grows c.decided D (λ t. decided-grows g n e c t))
    (outs-decided o was c k a i s here)))))

pub resolver-booked : (o : OpeningOf) (journal : List Step) (b : Books) (t : Txn) (list : List ℕ) → Kept o journal b → DecidedByResolver o journal t list
    → IsBooked b t list
resolver-booked o journal b t list kept d =
    let early = kept-before o journal d.at b kept in
    let front = take d.at journal in
    let z = sizes_of o in
    let w = (run_of o front).world in
    let l = letter.Outcome t true in
    let holds = kept-holds o front early.books early.kept in
    let brick = travels (IsSpoken (net_of o front) d.from) z w d.from d.to l (sized-run o front) d.told (holds.speaks d.from d.to) in
    let said = travels (SaidIs early.books.decided) z w d.from d.to l (sized-run o front) d.told
    (outs-decided o front early.books early.kept d.from d.to brick.0 brick.1) in
    record { decided = early.grows.decided t (said refl); listed = members-listed o journal b t list kept d.members }
