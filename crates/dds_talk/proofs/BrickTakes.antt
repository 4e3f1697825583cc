use Rattle.std.proofs.Common.{◌≡◌, ℕ, ◌<◌, ◌≤◌, inl, inr, Bool, true, false, not, List, [], ◌∷◌, ◌++◌, Option, Some, None, refl, sym, ap, ◌∙◌}
use Rattle.std.proofs.lemmas.Bool.{cases_eq}
use Rattle.std.specs.Prelude.{if◌then◌else◌}
use Rattle.dds_base.specs.NodeSet.{has_node}
use Rattle.dds_base.specs.Number.{Txn}
use Rattle.dds_base.specs.declared.number.NodeNo.{NodeNo}
use Rattle.dds_brick_rows.specs.Calls as calls
use Rattle.dds_brick_rows.specs.Refusal.{get_refusal}
use Rattle.dds_core.proofs.LetterTells.{Any, Each, letter-rests, order_part}
use Rattle.dds_core.proofs.Rests.{AllOrders, Orders, Rests, Whole}
use Rattle.dds_core.proofs.Tells.{Sent, is_notice}
use Rattle.dds_core.specs.Brick.{live_brick_turn}
use Rattle.dds_core.specs.Notice as notices
use Rattle.dds_law_notice.proofs.Keeps.{AreLinked}
use Rattle.dds_law_notice.proofs.Views.{View, brick-takes, knows, knows-other, knows-sender, learns, same-stopped, view}
use Rattle.dds_letters.specs.declared.letter.Letter.{Letter}
use Rattle.dds_letters.specs.declared.letter.Letter.TheVariants as letter
use Rattle.dds_letters.specs.declared.refusal.Refusal.{Refusal}
use Rattle.dds_net.proofs.Places.{node-below}
use Rattle.dds_net.specs.Event.{Takes, takes}
use Rattle.dds_net.specs.Net.{Net, a_brick, a_library, Sizes, changed}
use Rattle.dds_states.specs.Turn.{BrickTurn}
use Rattle.dds_states.specs.declared.brick_state.BrickState.{BrickState}
use Rattle.dds_states.specs.declared.library_state.LibraryState.{LibraryState}
use Rattle.dds_talk.proofs.BrickDone.{BrickDone}
use Rattle.dds_talk.proofs.BrickEvents.{Asker, Turn, abort-row-done, commit-row-done, prepare-done, rest-done}
use Rattle.dds_talk.proofs.BrickTalks.{Here, no-both}
use Rattle.dds_talk.proofs.Changes.{IsOwn, into-member, is-taken, takes-rest, takes-turned}
use Rattle.dds_talk.proofs.Grounds.{Ground, brick-inside, brick-unknown, library-over}
use Rattle.dds_talk.proofs.Letters.{NoneAbout}
use Rattle.dds_talk.proofs.Locks.{tale-locks}
use Rattle.dds_talk.proofs.TaleDone.{AllSettle, Learns, tale-done}
use Rattle.dds_talk.proofs.Tales.{Done, Tale, help-tale, notice-tale, outcome-tale, query-tale, status-tale, tale-rests}
use Rattle.dds_talk.proofs.Tales.Done.{same, ended}
use Rattle.dds_talk.specs.Books.{Books}
use Rattle.dds_talk.specs.Parts.{Commit}
use Rattle.dds_talk.specs.Seen.{asked, asks, is_open, of, said}
use Rattle.dds_talk.specs.Table.{Ask}
use Rattle.dds_talk.specs.Table.Ask.{prepare, commit, abort}

-- A brick takes a letter.

-- what two-phase commit takes from other parts: a library's letter of an attempt comes from the attempt's library; a prepare's
-- bound is at most each open attempt; and what resolving ends was settled
pub record Origin (n : Net) (from : ℕ) (txn : Txn) : Type 0 where
  pub own : txn.library ≡ from
  pub library : LibraryState
  pub here : n.node from ≡ a_library library

abbrev pub IsBounded : Letter → Txn → Type 0
IsBounded (letter.Prepare txn caller call below name stamp list op) t = t.library ≡ txn.library → below ≤ t.number
IsBounded other t = Unit {0}

abbrev pub Resolves : Letter → Type 0
Resolves (letter.Help txn list) = Unit {0}
Resolves (letter.Query txn list) = Unit {0}
Resolves (letter.Status txn status) = Unit {0}
Resolves (letter.Outcome txn done) = Unit {0}
Resolves letter.Notice = Unit {0}
Resolves other = ⊥

pub record BrickOwes (w v : Net) (at from : ℕ) (l : Letter) (s u : BrickState) (b : Books) : Type 0 where
  pub origin : (txn : Txn) (x : Ask) → asked l ≡ Some (txn, x) → Origin w from txn
  pub bound : (t : Txn) (library : LibraryState) → w.node t.library ≡ a_library library → is_open library t ≡ true → IsBounded l t
  pub settles : Resolves l → AllSettle v at s u b

-- letters of orders say nothing of attempts
order-none : (L : Sent) (to : NodeNo) (l : Letter) → Orders L to l → said l ≡ None
order-none L to (letter.Vote txn vote) h = absurd h
order-none L to (letter.Applied txn was) h = absurd h
order-none L to (letter.Aborted txn) h = absurd h
order-none L to other h = refl

pub orders-none : (L : Sent) (ls : List (NodeNo × Letter)) (t : Txn) → AllOrders L ls → NoneAbout said t ls
orders-none L [] t h = tt
orders-none L (l ∷ ls) t h = (ap (of t) (order-none L l.0 l.1 h.0), orders-none L ls t h.1)

module _ (z : Sizes) (w : Net) (at from : ℕ) (s : BrickState) (b : Books) where
  abbrev r : Letter → BrickTurn
  r l = live_brick_turn s from l

  abbrev v : Letter → Net
  v l = changed w (takes z w at from (a_brick (r l).state) (r l).out.letters)

  pub record Taking (l : Letter) : Type 0 where
    pub before : Ground z w
    pub after : AreLinked z (v l)
    pub fits : Takes z w at from l (a_brick s)
    pub owes : BrickOwes w (v l) at from l s (r l).state b
    pub parts : Commit z w b

  turn : (l : Letter) → Taking l → Turn z w (v l) at s (r l) b
  turn l h =
      let live = h.fits.live in
      record {
        step = takes-turned z w at from (a_brick s) (a_brick (r l).state) (r l).out.letters h.fits.here;
        alive = live;
        stays = ap (λ (x : View). x.stopped) (brick-takes s from l live).after ∙ same-stopped from l (view (a_brick s)) ∙ live;
        unknown = λ k y is. brick-unknown z w k at y s h.before is h.fits.here live;
        parts = h.parts;
      }

  -- a letter that asks nothing
  own-none : (o : Option (Txn × Ask)) → o ≡ None → IsOwn (λ x. x.library) from o
  own-none None e = tt
  own-none (Some p) e = cc

  quiet-into : (l : Letter) → Taking l → asked l ≡ None → (t : Txn) → (t.library ≡ at → ⊥)
      → asks t (w.channel t.library at) ≡ asks t ((v l).channel t.library at)
  quiet-into l h quiet t ne = elim (cases_eq from at) [
    | inl e ↦ ap (asks t) (sym (takes-rest z w at from (a_brick (r l).state) (r l).out.letters t.library ne (λ q. ne (q ∙ e))))
    | inr apart ↦
        into-member asked w (v l) at from l t (is-taken z w at from l (a_brick (r l).state) (r l).out.letters apart h.fits.letter) (own-none (asked l) quiet) ne
        ∙ ap (λ o. of t o ++ asks t ((v l).channel t.library at)) quiet
  ]

  known-after : (l : Letter) → Taking l → (r l).state.known ≡ (learns from l (view (a_brick s))).known
  known-after l h = ap (λ (x : View). x.known) (brick-takes s from l h.fits.live).after

  resting : (l : Letter) → Taking l → asked l ≡ None → (learns from l (view (a_brick s))).known ≡ s.known → (r l).state.locks.pending ≡ s.locks.pending
      → (r l).state.locks.outcomes ≡ s.locks.outcomes → ((t : Txn) → NoneAbout said t (r l).out.letters)
      → BrickDone z w (v l) at s (r l).state (r l).out.letters b
  resting l h quiet knows p o none =
      let t = turn l h in
      rest-done z w (v l) at s (r l) b (record {
        step = t.step;
        stopped = t.stays ∙ sym t.alive;
        knows = known-after l h ∙ knows;
        pending = p;
        outcomes = o;
        quiet = none;
        into = quiet-into l h quiet;
        parts = h.parts;
      })

  order-done : (l : Letter) → Taking l → asked l ≡ None → (learns from l (view (a_brick s))).known ≡ s.known → Orders Any at l
      → BrickDone z w (v l) at s (r l).state (r l).out.letters b
  order-done l h quiet knows is =
      let rests : Rests Any Each s (r l) = letter-rests s from at l is in
      resting l h quiet knows (ap (λ (x : Whole). x.pending) rests.same) (ap (λ (x : Whole). x.outcomes) rests.same)
      (λ t. orders-none Any (r l).out.letters t rests.letters)

  got-pending : (txn : Txn) (key : ℕ) (o : Option Refusal) → (calls.got s from txn key o).state.locks.pending ≡ s.locks.pending
  got-pending txn key None = refl
  got-pending txn key (Some why) = refl

  got-outcomes : (txn : Txn) (key : ℕ) (o : Option Refusal) → (calls.got s from txn key o).state.locks.outcomes ≡ s.locks.outcomes
  got-outcomes txn key None = refl
  got-outcomes txn key (Some why) = refl

  got-none : (txn : Txn) (key : ℕ) (o : Option Refusal) (t : Txn) → NoneAbout said t (calls.got s from txn key o).out.letters
  got-none txn key None t = (refl, tt)
  got-none txn key (Some why) t = (refl, tt)

  -- a library's letter of an attempt
  asker : (l : Letter) (txn : Txn) (x : Ask) → Taking l → asked l ≡ Some (txn, x) → Asker z w (v l) at from l txn
  asker l txn x h e =
      let o = h.owes.origin txn x e in
      let apart : from ≡ at → ⊥ = λ q. no-both (w.node at) o.library s (ap w.node (sym q) ∙ o.here) h.fits.here in
      record {
        taken = is-taken z w at from l (a_brick (r l).state) (r l).out.letters apart h.fits.letter;
        few = h.before.few;
        inside = record { few = h.before.few; inside = h.fits.letter.sender };
        own = o.own;
        library = o.library;
        here = o.here;
      }

  -- what resolves attempts
  learn : (l : Letter) → Taking l → asked l ≡ None → (t : Txn) (y : LibraryState) → Here w t at y s → Learns w (v l) at s (r l).state t y
  learn l h quiet t y here =
      let k = turn l h in
      let library : (v l).node t.library ≡ a_library y = k.step.others t.library here.apart ∙ here.before.library in
      let below : from < 80 = node-below z from h.before.few h.before.some h.fits.letter.sender in
      let after = known-after l h in
      let inside = brick-inside z w at s h.before h.fits.here in
      record {
        knows = λ e. let o = library-over z (v l) t.library at y (r l).state h.after inside library k.step.is e in inr (ap not o.0, ap (asks t) o.1);
        keeps = λ e. ap (λ x. has_node x t.library) after ∙ elim (cases_eq t.library from) [
          | inl q ↦
              ap (λ i. knows (learns from l (view (a_brick s))) i) q ∙ knows-sender from l (view (a_brick s)) below
              ∙ ap (λ x. if is_notice l then true else x) (ap (has_node s.known) (sym q) ∙ e) ∙ either (is_notice l)
          | inr nq ↦ knows-other from t.library l (view (a_brick s)) below nq ∙ e
        ];
        into = quiet-into l h quiet t here.apart;
      }
    where
      either : (c : Bool) → (if c then true else true) ≡ true
      either true = refl
      either false = refl

  tale : (l : Letter) → Taking l → asked l ≡ None → Resolves l → Tale s (r l) → BrickDone z w (v l) at s (r l).state (r l).out.letters b
  tale l h quiet is k =
      let ok = h.parts.note at s h.fits.here in
      tale-done z w (v l) at s (r l) b (turn l h) (k.done ok.once) (tale-locks (b.noted at) s (r l) k ok) k.quiet (learn l h quiet) (h.owes.settles is)

  -- a notice: the brick learns, which leaves what is pending and noted
  from-learnt : (u : BrickState) (t : Txn) → Done (notices.learns s from) u t → Done s u t
  from-learnt u t (same p o) = same p o
  from-learnt u t (ended c p q o) = ended c p q o

  learnt-tale : Tale s (r letter.Notice)
  learnt-tale =
      let y = notices.learns s from in
      let o : Rests Any Each y (notices.order_part y from) = order_part {L = Any} {M = Each} y from in
      let k = notice-tale s from (tale-rests y (notices.order_part y from) (ap (λ (x : Whole). x.pending) o.same) (ap (λ (x : Whole). x.outcomes) o.same)
      (λ t. orders-none Any (notices.order_part y from).out.letters t o.letters)) in
      record { once = k.once; done = λ once t. from-learnt (r letter.Notice).state t (k.done once t); apart = k.apart; quiet = k.quiet }

  pub brick-done : (l : Letter) → Taking l → BrickDone z w (v l) at s (r l).state (r l).out.letters b
  brick-done (letter.Get txn caller call key name stamp) h =
      let l = letter.Get txn caller call key name stamp in
      let o = get_refusal s key name stamp in
      resting l h refl refl (got-pending txn key o) (got-outcomes txn key o) (got-none txn key o)
  brick-done (letter.Prepare txn caller call below name stamp list op) h =
      let l = letter.Prepare txn caller call below name stamp list op in
      prepare-done z w (v l) at from s (record { txn = txn; caller = caller; call = call; op = op; list = list }) below name stamp b
      (asker l txn prepare h refl)
      (turn l h) (known-after l h) (λ t y is up e. h.owes.bound t y is up e)
  brick-done (letter.Commit txn) h =
      let l = letter.Commit txn in
      commit-row-done z w (v l) at from s txn b (asker l txn commit h refl) (turn l h) (known-after l h)
  brick-done (letter.Abort txn) h =
      let l = letter.Abort txn in
      abort-row-done z w (v l) at from s txn b (asker l txn abort h refl) (turn l h) (known-after l h)
  brick-done (letter.MapAsk txn caller call key) h = resting (letter.MapAsk txn caller call key) h refl refl refl refl (λ t. (refl, tt))
  brick-done (letter.Push leaf) h = order-done (letter.Push leaf) h refl refl tt
  brick-done (letter.Lease number what) h = order-done (letter.Lease number what) h refl refl tt
  brick-done (letter.Granted number leaf) h = order-done (letter.Granted number leaf) h refl refl tt
  brick-done (letter.LeaseRefused number why) h = order-done (letter.LeaseRefused number why) h refl refl tt
  brick-done (letter.Release number name) h = order-done (letter.Release number name) h refl refl tt
  brick-done (letter.CopyAsk number name place) h = order-done (letter.CopyAsk number name place) h refl refl tt
  brick-done (letter.CopyPart number last pairs) h = order-done (letter.CopyPart number last pairs) h refl refl tt
  brick-done (letter.Install number leaf) h = order-done (letter.Install number leaf) h refl refl tt
  brick-done (letter.Installed number name) h = order-done (letter.Installed number name) h refl refl tt
  brick-done (letter.Help txn list) h = tale (letter.Help txn list) h refl tt (help-tale s from txn list)
  brick-done (letter.Query txn list) h = tale (letter.Query txn list) h refl tt (query-tale s from txn list)
  brick-done (letter.Status txn status) h = tale (letter.Status txn status) h refl tt (status-tale s from txn status)
  brick-done (letter.Outcome txn done) h = tale (letter.Outcome txn done) h refl tt (outcome-tale s txn done)
  brick-done letter.Notice h = tale letter.Notice h refl tt learnt-tale
  brick-done (letter.Got txn a) h = resting (letter.Got txn a) h refl refl refl refl (λ t. tt)
  brick-done (letter.Vote txn vote) h = resting (letter.Vote txn vote) h refl refl refl refl (λ t. tt)
  brick-done (letter.Applied txn was) h = resting (letter.Applied txn was) h refl refl refl refl (λ t. tt)
  brick-done (letter.Aborted txn) h = resting (letter.Aborted txn) h refl refl refl refl (λ t. tt)
  brick-done (letter.MapTell txn leaf) h = resting (letter.MapTell txn leaf) h refl refl refl refl (λ t. tt)
