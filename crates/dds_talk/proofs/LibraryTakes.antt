use Rattle.std.proofs.Common.{◌≡◌, ℕ, ◌<◌, ◌==◌, inl, inr, Bool, true, false, List, [], ◌∷◌, ◌++◌, Some, None, refl, sym, ap, ◌∙◌}
use Rattle.std.proofs.lemmas.Bool.{both_ways, cases_Bool, cases_eq, ne_eqb}
use Rattle.std.specs.Prelude.{if◌then◌else◌}
use Rattle.dds_base.specs.NodeSet.{has_node}
use Rattle.dds_base.specs.Number.{Txn, same_txn}
use Rattle.dds_base.specs.declared.number.CallNo.{CallNo}
use Rattle.dds_base.specs.declared.op.Op.{Op}
use Rattle.dds_core.proofs.CallTurns.{heard, library-keeps}
use Rattle.dds_core.proofs.CallTurns.Concerns.{its_attempt}
use Rattle.dds_core.specs.LibraryTurn.{attempts, live_library_turn, notice_calls}
use Rattle.dds_core.specs.LibraryTurn as turns
use Rattle.dds_law_notice.proofs.Views.{knows, knows-other, knows-sender}
use Rattle.dds_law_notice.proofs.Views as views
use Rattle.dds_letters.specs.declared.letter.Letter.{Letter}
use Rattle.dds_letters.specs.declared.letter.Letter.TheVariants as letter
use Rattle.dds_net.proofs.Places.{node-below}
use Rattle.dds_net.specs.Event.{Takes, asked_turn, does, takes}
use Rattle.dds_net.specs.Net.{Net, a_brick, a_library, Sizes, changed}
use Rattle.dds_states.specs.Turn.{LibraryTurn, no_out}
use Rattle.dds_states.specs.declared.brick_state.BrickState.{BrickState}
use Rattle.dds_states.specs.declared.library_state.LibraryState.{LibraryState}
use Rattle.dds_talk.proofs.Changes.{does-rest, does-turned, heard_of, into-library, is-taken, takes-rest, takes-turned}
use Rattle.dds_talk.proofs.Folds.{AreGroups, Start}
use Rattle.dds_talk.proofs.Grounds.{Ground, brick-inside, brick-over, brick-unknown, library-unknown}
use Rattle.dds_talk.proofs.Inputs.{asked-saw}
use Rattle.dds_talk.proofs.LibraryKeeps.{start-of}
use Rattle.dds_talk.proofs.LibraryKeeps as keeping
use Rattle.dds_talk.proofs.LibraryTurns.{Guide, Saw, kept-saw, notice-sofar, quiet-saw, said-saw, sofar-saw}
use Rattle.dds_talk.proofs.Many.{says-is}
use Rattle.dds_talk.proofs.Moves.{MaySay}
use Rattle.dds_talk.proofs.Parts.{same-self}
use Rattle.dds_talk.specs.Books.{Books, with_library}
use Rattle.dds_talk.specs.Parts.{Commit}
use Rattle.dds_talk.specs.Seen.{of, one, said, says, view, vote_said}
use Rattle.dds_talk.specs.Table.{Say}
use Rattle.dds_talk.specs.Table.Say.{applied, aborted}

-- A library takes a letter, or is asked a call.

-- who says something of an attempt: a brick, to the attempt's library
pub record Speaker (n : Net) (at from : ℕ) (txn : Txn) : Type 0 where
  pub own : txn.library ≡ at
  pub member : BrickState
  pub here : n.node from ≡ a_brick member

-- what two-phase commit takes from other parts
pub record LibraryOwes (z : Sizes) (n : Net) (at from : ℕ) (l : Letter) (s : LibraryState) : Type 1 where
  pub guide : Guide z from l
  pub good : guide.Good (heard s from l) no_out
  pub speaker : (txn : Txn) (y : Say) → said l ≡ Some (txn, y) → Speaker n at from txn

abbrev no_says : List Say
no_says = []

if-nothing : (c : Bool) → (if c then [] else []) ≡ no_says
if-nothing true = refl
if-nothing false = refl

module _ (z : Sizes) (w : Net) (at from : ℕ) (s : LibraryState) (b : Books) where
  abbrev r : Letter → LibraryTurn
  r l = live_library_turn s from l

  abbrev v : Letter → Net
  v l = changed w (takes z w at from (a_library (r l).state) (r l).out.letters)

  pub record Taking (l : Letter) : Type 1 where
    pub before : Ground z w
    pub fits : Takes z w at from l (a_library s)
    pub owes : LibraryOwes z w at from l s
    pub parts : Commit z w b

  start : (l : Letter) → Taking l → Start z b at s
  start l h = start-of z b at s h.before.few (h.parts.calls at s h.fits.here)

  groups : (l : Letter) → Taking l → AreGroups z (r l).state
  groups l h = h.owes.guide.groups (r l).state (r l).out (library-keeps h.owes.guide.Good s from l h.owes.guide.keeps h.owes.good)

  -- what the member may say
  known-none : (l : Letter) → Taking l → has_node s.known from ≡ false
  known-none l h = elim (cases_Bool (has_node s.known from)) [
    | inl q ↦
        let none = brick-over z w at from s h.before h.fits.here q in
        let bad : [] ≡ l ∷ h.fits.letter.others = sym none ∙ h.fits.letter.first in
        cc
    | inr q ↦ q
  ]

  may : (l : Letter) → Taking l → (txn : Txn) (y : Say) → said l ≡ Some (txn, y) → MaySay (view s (b.list txn) txn from) y
  may l h txn y e =
      let k = h.owes.speaker txn y e in
      let lib : w.node txn.library ≡ a_library s = ap w.node k.own ∙ h.fits.here in
      let self : same_txn txn txn ≡ true = same-self txn in
      let rest = says txn h.fits.letter.others in
      let front : says txn (w.channel from txn.library) ≡ y ∷ says txn h.fits.letter.others =
      ap (λ i. says txn (w.channel from i)) k.own ∙ ap (says txn) h.fits.letter.first ∙ ap (λ o. of txn o ++ says txn h.fits.letter.others) e
      ∙ ap (λ c. one c y ++ says txn h.fits.letter.others) self in
      let alive = h.fits.live in
      let nobody : has_node k.member.known txn.library ≡ false = library-unknown z w txn.library from s k.member h.before lib k.here alive in
      says-is y (says txn h.fits.letter.others) nobody front
      (rw alive at (h.parts.talk txn from s k.member (record { library = lib; member = k.here; unknown = known-none l h })))

  nothing-heard : (l : Letter) → said l ≡ None → (t : Txn) (m : ℕ) → heard_of said from l t m ≡ []
  nothing-heard l q t m = ap (λ o. if m == from then of t o else []) q ∙ if-nothing (m == from)

  -- a notice: the library learns
  abbrev learnt : LibraryState
  learnt = turns.learns s from

  learnt-start : Taking letter.Notice → Start z b at learnt
  learnt-start h =
      let k = start letter.Notice h in
      record {
        few = k.few;
        mid = record {
          number = k.mid.number;
          apart = k.mid.apart;
          calls = λ t c e. let m = k.mid.calls t c e in record { library = m.library; below = m.below; list = m.list };
        };
        stands = k.stands;
        unmade = k.unmade;
        groups = k.groups;
      }

  below : (l : Letter) → Taking l → from < 80
  below l h = node-below z from h.before.few h.before.some h.fits.letter.sender

  other-node : Taking letter.Notice → (m : ℕ) → has_node learnt.known m ≡ false → m ≡ from → ⊥
  other-node h m un e =
      both_ways (has_node learnt.known m) un
      (ap (has_node learnt.known) e ∙ knows-sender from letter.Notice (views.view (a_library s)) (below letter.Notice h))

  was-unknown : Taking letter.Notice → (m : ℕ) → has_node learnt.known m ≡ false → has_node s.known m ≡ false
  was-unknown h m un = sym (knows-other from m letter.Notice (views.view (a_library s)) (below letter.Notice h) (other-node h m un)) ∙ un

  notice-saw : Taking letter.Notice → Saw z b at s (r letter.Notice).state (heard_of said from letter.Notice) (r letter.Notice).out
  notice-saw h =
      let run = sofar-saw z b at learnt (r letter.Notice).state (heard_of said from letter.Notice) (r letter.Notice).out (nothing-heard letter.Notice refl)
      (notice-sofar z b at learnt from h.owes.guide (learnt-start h) (λ m un. ne_eqb m from (other-node h m un)) h.owes.good) in
      record {
        mid = run.mid;
        known = λ m un. was-unknown h m (run.known m un);
        stopped = run.stopped;
        next = run.next;
        stands = run.stands;
        opens = run.opens;
        sees = run.sees;
      }

  pub library-saw : (l : Letter) → Taking l → Saw z b at s (r l).state (heard_of said from l) (r l).out
  library-saw (letter.Got txn a) h =
      let l = letter.Got txn a in
      quiet-saw z b at s from l txn (heard_of said from l) h.owes.guide (λ c e. its_attempt (ap Some (sym e))) (start l h) h.owes.good refl (λ q. cc)
      (nothing-heard l refl)
  library-saw (letter.MapTell txn leaf) h =
      let l = letter.MapTell txn leaf in
      quiet-saw z b at s from l txn (heard_of said from l) h.owes.guide (λ c e. its_attempt (ap Some (sym e))) (start l h) h.owes.good refl (λ q. cc)
      (nothing-heard l refl)
  library-saw (letter.Vote txn vote) h =
      let l = letter.Vote txn vote in
      said-saw z b at s from l txn (vote_said vote) h.owes.guide (λ c e. its_attempt (ap Some (sym e))) (start l h) h.owes.good refl (may l h txn
      (vote_said vote) refl)
  library-saw (letter.Applied txn was) h =
      let l = letter.Applied txn was in
      said-saw z b at s from l txn applied h.owes.guide (λ c e. its_attempt (ap Some (sym e))) (start l h) h.owes.good refl (may l h txn applied refl)
  library-saw (letter.Aborted txn) h =
      let l = letter.Aborted txn in
      said-saw z b at s from l txn aborted h.owes.guide (λ c e. its_attempt (ap Some (sym e))) (start l h) h.owes.good refl (may l h txn aborted refl)
  library-saw letter.Notice h = notice-saw h
  library-saw other h = kept-saw z b at s (heard_of said from other) (start other h) (nothing-heard other refl)

  -- the channels to it
  into : (l : Letter) → Taking l → (t : Txn) (m : ℕ) → (m ≡ at → ⊥) → says t (w.channel m at) ≡ heard_of said from l t m ++ says t ((v l).channel m at)
  into l h t m ne = elim (cases_eq from at) [
    | inl e ↦
        let far : m ≡ from → ⊥ = λ q. ne (q ∙ e) in
        let base : says t (w.channel m at) ≡ says t ((v l).channel m at) =
        ap (says t) (sym (takes-rest z w at from (a_library (r l).state) (r l).out.letters m ne far)) in
        let nothing : heard_of said from l t m ≡ [] = ap (λ c. if c then of t (said l) else []) (ne_eqb m from far) in
        base ∙ ap (λ xs. xs ++ says t ((v l).channel m at)) (sym nothing)
    | inr apart ↦ into-library said w (v l) at from l t m (is-taken z w at from l (a_library (r l).state) (r l).out.letters apart h.fits.letter) ne
  ]

  pub takes-keep : (l : Letter) → Taking l → Commit z (v l) (with_library at (r l).state b)
  takes-keep l h =
      keeping.library-keeps z w (v l) at s (r l).state (heard_of said from l) (r l).out b
      (record {
        step = takes-turned z w at from (a_library s) (a_library (r l).state) (r l).out.letters h.fits.here;
        into = into l h;
        saw = library-saw l h;
        start = start l h;
        alive = h.fits.live;
        unknown = λ m x is. library-unknown z w at m s x h.before h.fits.here is h.fits.live;
        inside = λ m x is. brick-inside z w m x h.before is;
      }) (groups l h) h.parts (λ m x is lives. brick-unknown z w at m s x h.before h.fits.here is lives)

-- a call comes
pub asked-keeps : (z : Sizes) (w : Net) (at : ℕ) (caller : ℕ) (call : CallNo) (o : Op) (s : LibraryState) (b : Books) → Ground z w → w.node at ≡ a_library s
    → s.stopped ≡ false → AreGroups z (asked_turn s caller call o).state → Commit z w b
    → Commit z (changed w (does z w at (a_library (asked_turn s caller call o).state) (asked_turn s caller call o).out.letters))
    (with_library at (asked_turn s caller call o).state b)
asked-keeps z w at caller call o s b g here live groups parts =
    let t = asked_turn s caller call o in
    let start = start-of z b at s g.few (parts.calls at s here) in
    keeping.library-keeps z w (changed w (does z w at (a_library t.state) t.out.letters)) at s t.state (λ t m. []) t.out b
    (record {
      step = does-turned z w at (a_library s) (a_library t.state) t.out.letters here;
      into = λ x m ne. ap (says x) (sym (does-rest z w at (a_library t.state) t.out.letters m ne));
      saw = asked-saw z b at s caller call o start groups;
      start = start;
      alive = live;
      unknown = λ m x is. library-unknown z w at m s x g here is live;
      inside = λ m x is. brick-inside z w m x g is;
    }) groups parts (λ m x is lives. brick-unknown z w at m s x g here is lives)
