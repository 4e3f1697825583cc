use Rattle.std.proofs.Common.{◌≡◌, ℕ, ◌≤◌, ◌⊎◌, inl, inr, Bool, true, false, ◌∷◌, ◌++◌, Option, Some, None, refl, sym, ap, ◌∙◌}
use Rattle.std.proofs.Common.{subst}
use Rattle.std.proofs.lemmas.List.{append-nil}
use Rattle.std.specs.FinMap.{get}
use Rattle.dds_base.specs.NodeSet.{has_node}
use Rattle.dds_base.specs.Name.{Name}
use Rattle.dds_base.specs.Number.{Txn, StampOf, same_txn}
use Rattle.dds_base.specs.declared.number.NodeNo.{NodeNo}
use Rattle.dds_base.specs.declared.pending.Pending.{Pending}
use Rattle.dds_brick_rows.specs.Calls as calls
use Rattle.dds_letters.specs.declared.letter.Letter.{Letter}
use Rattle.dds_letters.specs.declared.letter.Letter.TheVariants as letter
use Rattle.dds_locks.specs.Pending.{first_of}
use Rattle.dds_states.specs.Turn.{BrickTurn, first_some}
use Rattle.dds_states.specs.declared.brick_state.BrickState.{BrickState}
use Rattle.dds_states.specs.declared.library_state.LibraryState.{LibraryState}
use Rattle.dds_net.specs.Net.{Net, a_brick, a_library, Sizes, gains, put}
use Rattle.dds_talk.proofs.BrickDone.{BrickDone, commit-cw, cw-decided, no-outcome}
use Rattle.dds_talk.proofs.BrickRows.{Fits, abort-row, commit-row, prepare-row}
use Rattle.dds_talk.proofs.BrickTalks.{Hearing, Here, apart-from, fits-one, hearing-sure, hearing-talks}
use Rattle.dds_talk.proofs.Changes.{IsOwn, Taken, Turned, into-member, put-here}
use Rattle.dds_talk.proofs.Letters.{IsAsker, NoneAbout, about-append, about-none}
use Rattle.dds_talk.proofs.Locks.{Holds, Locks, abort-done, abort-locks, commit-done, commit-locks, done-holds, prepare-holds, prepare-locks, prepare-old}
use Rattle.dds_talk.proofs.Locks.{rest-holds, rest-locks}
use Rattle.dds_talk.proofs.Parts.{get-other, get-this, is-same, pending-other, same-self}
use Rattle.dds_talk.proofs.Tales.{Done}
use Rattle.dds_talk.proofs.Tales.Done.{same, ended}
use Rattle.dds_talk.specs.Books.{Books, is_yes}
use Rattle.dds_talk.specs.Parts.{BrickOk, Commit, Conversation, Meeting}
use Rattle.dds_talk.specs.Seen.{asked, asks, at, is_open, is_pending, noting, of, one, said, says}
use Rattle.dds_talk.specs.Table.{Ask}
use Rattle.dds_talk.specs.Table.Ask.{prepare, commit, abort}
use Rattle.dds_talk.specs.Table.At.{Unprepared}

-- A brick's turns: at a library's letter of an attempt, at what leaves attempts alone, and what resolves them.

-- a brick that takes a letter, or is told an order; the parts before
pub record Turn (z : Sizes) (w v : Net) (n : ℕ) (s : BrickState) (r : BrickTurn) (b : Books) : Type 0 where
  pub step : Turned z w v n (a_brick s) (a_brick r.state) r.out.letters
  pub alive : s.stopped ≡ false
  pub stays : r.state.stopped ≡ false
  pub unknown : (k : ℕ) (l : LibraryState) → w.node k ≡ a_library l → has_node l.known n ≡ false
  pub parts : Commit z w b

-- where each attempt hears a letter or none, and the outcomes that are new aren't commits, or were decided
pub record Hears (z : Sizes) (w v : Net) (n : ℕ) (s : BrickState) (r : BrickTurn) (b : Books) : Type 0 where
  pub turn : Turn z w v n s r b
  pub knows : r.state.known ≡ s.known
  pub hearing : (t : Txn) (l : LibraryState) → Here w t n l s → Conversation w b t n l s → Hearing z w v n s r.state r.out.letters b t
  pub locks : Locks (b.noted n) r.state
  pub holds : (t : Txn) (l : LibraryState) → w.node t.library ≡ a_library l → is_open l t ≡ true → Holds s r.state t
  pub fresh : (t : Txn) → get r.state.locks.outcomes t ≡ Some true → b.decided t ≡ true
  pub once : (t : Txn) (c : Bool) → get r.state.locks.outcomes t ≡ Some c → (b.noted n t ≡ None) ⊎ (b.noted n t ≡ Some c)

pub hears-done : (z : Sizes) (w v : Net) (n : ℕ) (s : BrickState) (r : BrickTurn) (b : Books) → Hears z w v n s r b
    → BrickDone z w v n s r.state r.out.letters b
hears-done z w v n s r b h =
    record {
      step = h.turn.step;
      lives = λ e. h.turn.alive;
      undecided = λ talk k l t is e le was. no-outcome z w v n s r.state r.out.letters b h.turn.step h.turn.stays h.turn.unknown talk k l t is e le;
      talks = λ t l here was.
          hearing-talks z w v n s r.state r.out.letters b t l h.turn.step h.turn.alive h.turn.stays h.knows here (h.hearing t l here was) was;
      sures = λ t l here dec was.
          hearing-sure z w v n s r.state r.out.letters b t l (h.hearing t l here (h.turn.parts.talk t n l s here.before)) was;
      locks = h.locks;
      holds = h.holds;
      fresh = λ t e. inl (h.fresh t e);
      once = h.once;
    }

-- what stood as an outcome was noted, and a noted commit was decided
pub old-decided : (z : Sizes) (w : Net) (n : ℕ) (s : BrickState) (b : Books) (t : Txn) → Commit z w b → w.node n ≡ a_brick s
    → get s.locks.outcomes t ≡ Some true → b.decided t ≡ true
old-decided z w n s b t parts here e =
    parts.noted n t (sym ((parts.note n s here).agrees t) ∙ stood (get s.locks.outcomes t) (b.noted n t) e)
  where
    stood : (g o : Option Bool) → g ≡ Some true → first_some g o ≡ Some true
    stood None o e = cc
    stood (Some c) o e = e

-- an outcome that stood was noted, and one of an attempt that was pending is its first
stood-noted : (noted : Txn → Option Bool) (s : BrickState) (t : Txn) (c : Bool) → BrickOk noted s → get s.locks.outcomes t ≡ Some c → noted t ≡ Some c
stood-noted noted s t c ok e = sym (ok.agrees t) ∙ ap (λ g. first_some g (noted t)) e

pub done-once : (noted : Txn → Option Bool) (s u : BrickState) (t : Txn) (c : Bool) → BrickOk noted s → Done s u t → get u.locks.outcomes t ≡ Some c
    → (noted t ≡ None) ⊎ (noted t ≡ Some c)
done-once noted s u t c ok (same p o) e = inr (stood-noted noted s t c ok (sym o ∙ e))
done-once noted s u t c ok (ended d p q o) e = inl (ok.free t p)

-- Nothing is heard, and nothing is pending or noted that wasn't

no-yes : (g : Option Bool) → (g ≡ Some true → ⊥) → is_yes g ≡ false
no-yes None f = refl
no-yes (Some true) f = absurd (f refl)
no-yes (Some false) f = refl

not-true : (x : Bool) → x ≡ true → x ≡ false → ⊥
not-true x e f = let q : true ≡ false = sym e ∙ f in cc

pub record Rest (z : Sizes) (w v : Net) (n : ℕ) (s : BrickState) (r : BrickTurn) (b : Books) : Type 0 where
  pub step : Turned z w v n (a_brick s) (a_brick r.state) r.out.letters
  pub stopped : r.state.stopped ≡ s.stopped
  pub knows : r.state.known ≡ s.known
  pub pending : r.state.locks.pending ≡ s.locks.pending
  pub outcomes : r.state.locks.outcomes ≡ s.locks.outcomes
  pub quiet : (t : Txn) → NoneAbout said t r.out.letters
  pub into : (t : Txn) → (t.library ≡ n → ⊥) → asks t (w.channel t.library n) ≡ asks t (v.channel t.library n)
  pub parts : Commit z w b

pub rest-done : (z : Sizes) (w v : Net) (n : ℕ) (s : BrickState) (r : BrickTurn) (b : Books) → Rest z w v n s r b
    → BrickDone z w v n s r.state r.out.letters b
rest-done z w v n s r b h =
    let ok = h.parts.note n s h.step.here in
    let stopped = h.stopped in
    let knows = h.knows in
    let p = h.pending in
    let fresh : (t : Txn) → get r.state.locks.outcomes t ≡ Some true → b.decided t ≡ true =
    λ t e. old-decided z w n s b t h.parts h.step.here (ap (λ m. get m t) (sym h.outcomes) ∙ e) in
    let noted : (t : Txn) → put n (noting r.state.locks.outcomes (b.noted n)) b.noted n t ≡ b.noted n t =
    λ t. ap (λ (f : Txn → Option Bool). f t) (put-here n (noting r.state.locks.outcomes (b.noted n)) b.noted)
    ∙ ap (λ m. noting m (b.noted n) t) h.outcomes ∙ ok.agrees t in
    record {
      step = h.step;
      lives = λ e. sym stopped ∙ e;
      talks = λ t l here was.
          let out : asks t (v.channel t.library n) ≡ asks t (w.channel t.library n) = sym (h.into t here.apart) in
          let back : says t (v.channel n t.library) ≡ says t (w.channel n t.library) =
          ap (says t) (h.step.from t.library here.apart) ∙ about-append said t (w.channel n t.library) (gains z r.out.letters t.library)
          ∙ ap (λ xs. says t (w.channel n t.library) ++ xs) (about-none said t z t.library r.out.letters (h.quiet t))
          ∙ append-nil (says t (w.channel n t.library)) in
          rw (stopped, knows, p, out, back, noted t) was;
      sures = λ t l here dec was.
          let out : asks t (v.channel t.library n) ≡ asks t (w.channel t.library n) = sym (h.into t here.apart) in
          rw (p, out, noted t) was;
      locks = rest-locks (b.noted n) s r.state p h.outcomes ok;
      holds = λ t l is up. rest-holds s r.state t h.outcomes;
      fresh = λ t e. inl (fresh t e);
      once = λ t c e. inr (stood-noted (b.noted n) s t c ok (ap (λ m. get m t) (sym h.outcomes) ∙ e));
      undecided = λ talk k l t is e le was. no-yes (get r.state.locks.outcomes t) (λ q. not-true (b.decided t) (fresh t q) was);
    }

-- A library's letter of an attempt

-- who sent it
pub record Asker (z : Sizes) (w v : Net) (n from : ℕ) (l : Letter) (txn : Txn) : Type 0 where
  pub taken : Taken w v n from l
  pub few : z.bricks ≤ 64
  pub inside : IsAsker z from
  pub own : txn.library ≡ from
  pub library : LibraryState
  pub here : w.node from ≡ a_library library

into-asked : (z : Sizes) (w v : Net) (n from : ℕ) (l : Letter) (txn : Txn) (x : Ask) (t : Txn) → Asker z w v n from l txn → asked l ≡ Some (txn, x)
    → (t.library ≡ n → ⊥) → asks t (w.channel t.library n) ≡ one (same_txn txn t) x ++ asks t (v.channel t.library n)
into-asked z w v n from l txn x t a e ne =
    into-member asked w v n from l t a.taken (own (asked l) e) ne ∙ ap (λ o. of t o ++ asks t (v.channel t.library n)) e
  where
    own : (o : Option (Txn × Ask)) → o ≡ Some (txn, x) → IsOwn (λ y. y.library) from o
    own None f = cc
    own (Some p) f = let q : p ≡ (txn, x) = cc in ap (λ (y : Txn × Ask). y.0.library) q ∙ a.own

-- the conversation of the attempt itself
asker-talk : (z : Sizes) (w v : Net) (n from : ℕ) (s : BrickState) (r : BrickTurn) (b : Books) (l : Letter) (txn : Txn) (a : Asker z w v n from l txn)
    → Turn z w v n s r b → Here w txn n a.library s × Conversation w b txn n a.library s
asker-talk z w v n from s r b l txn a turn =
    let library : w.node txn.library ≡ a_library a.library = ap w.node a.own ∙ a.here in
    let meets : Meeting w txn n a.library s = record { library = library; member = turn.step.here; unknown = turn.unknown txn.library a.library library } in
    (record { before = meets; apart = apart-from w txn n a.library s library turn.step.here }, turn.parts.talk txn n a.library s meets)

fits-alive : (z : Sizes) (w v : Net) (n from : ℕ) (s : BrickState) (r : BrickTurn) (b : Books) (l : Letter) (txn : Txn) (x : Ask) (t : Txn) (y : LibraryState)
    → Asker z w v n from l txn → Turn z w v n s r b → asked l ≡ Some (txn, x) → Here w t n y s → Conversation w b t n y s
    → Fits (one (same_txn txn t) x) (at s.locks.pending (b.noted n t) t)
fits-alive z w v n from s r b l txn x t y a turn e here was =
    let alive = turn.alive in
    fits-one (same_txn txn t) x (asks t (v.channel t.library n)) (into-asked z w v n from l txn x t a e here.apart) (rw alive at was)

pub prepare-done : (z : Sizes) (w v : Net) (n from : ℕ) (s : BrickState) (p : Pending) (below : ℕ) (name : Name) (stamp : StampOf) (b : Books)
    → (a : Asker z w v n from (letter.Prepare p.txn p.caller p.call below name stamp p.list p.op) p.txn)
    → Turn z w v n s (calls.prepare_row s from p below name stamp) b → (calls.prepare_row s from p below name stamp).state.known ≡ s.known
    → ((t : Txn) (l : LibraryState) → w.node t.library ≡ a_library l → is_open l t ≡ true → t.library ≡ p.txn.library → below ≤ t.number)
    → BrickDone z w v n s (calls.prepare_row s from p below name stamp).state (calls.prepare_row s from p below name stamp).out.letters b
prepare-done z w v n from s p below name stamp b a turn knows bound =
    let l = letter.Prepare p.txn p.caller p.call below name stamp p.list p.op in
    let r = calls.prepare_row s from p below name stamp in
    let ok = turn.parts.note n s turn.step.here in
    let it = asker-talk z w v n from s r b l p.txn a turn in
    let self : same_txn p.txn p.txn ≡ true = same-self p.txn in
    let fits = fits-alive z w v n from s r b l p.txn prepare p.txn a.library a turn refl it.0 it.1 in
    let new : at s.locks.pending (b.noted n p.txn) p.txn ≡ Unprepared = subst (λ c. Fits (one c prepare) (at s.locks.pending (b.noted n p.txn) p.txn)) self fits
    in
    hears-done z w v n s r b (record {
      turn = turn;
      knows = knows;
      hearing = λ t y here was. record {
        heard = one (same_txn p.txn t) prepare;
        into = into-asked z w v n from l p.txn prepare t a refl here.apart;
        fits = fits-alive z w v n from s r b l p.txn prepare t y a turn refl here was;
        row = prepare-row z s from p below name stamp (b.noted n) t a.inside (sym a.own) ok.agrees;
      };
      locks = prepare-locks (b.noted n) s from p below name stamp ok new;
      holds = λ t y is up. prepare-holds s from p below name stamp t (bound t y is up);
      fresh = λ t e. old-decided z w n s b t turn.parts turn.step.here (prepare-old s from p below name stamp t true e);
      once = λ t c e. inr (stood-noted (b.noted n) s t c ok (prepare-old s from p below name stamp t c e));
    })

pub commit-fresh : (s : BrickState) (from : NodeNo) (x t : Txn) → same_txn x t ≡ false → Done s (calls.commit_row s from x).state t
    → (calls.commit_row s from x).state.locks.pending ≡ (calls.dropped s x).locks.pending
    → get (calls.commit_row s from x).state.locks.outcomes t ≡ get s.locks.outcomes t
commit-fresh s from x t ne (same p o) e = o
commit-fresh s from x t ne (ended c p q r) e =
    let bad : true ≡ false = sym p ∙ sym (pending-other s.locks.pending x t ne) ∙ ap (λ ps. is_pending ps t) (sym e) ∙ q in cc

pub commit-left : (s : BrickState) (from : NodeNo) (x : Txn) (q : Option Pending)
    → (calls.commit_found (calls.dropped s x) from q).state.locks.pending ≡ (calls.dropped s x).locks.pending
commit-left s from x None = refl
commit-left s from x (Some p) = refl

pub commit-row-done : (z : Sizes) (w v : Net) (n from : ℕ) (s : BrickState) (x : Txn) (b : Books) → (a : Asker z w v n from (letter.Commit x) x)
    → Turn z w v n s (calls.commit_row s from x) b → (calls.commit_row s from x).state.known ≡ s.known
    → BrickDone z w v n s (calls.commit_row s from x).state (calls.commit_row s from x).out.letters b
commit-row-done z w v n from s x b a turn knows =
    let r = calls.commit_row s from x in
    let ok = turn.parts.note n s turn.step.here in
    let it = asker-talk z w v n from s r b (letter.Commit x) x a turn in
    let self : same_txn x x ≡ true = same-self x in
    let front : asks x (w.channel x.library n) ≡ commit ∷ asks x (v.channel x.library n) =
    into-asked z w v n from (letter.Commit x) x commit x a refl it.0.apart ∙ ap (λ c. one c commit ++ asks x (v.channel x.library n)) self in
    let alive = turn.alive in
    let library = ap w.node a.own ∙ a.here in
    let decided : b.decided x ≡ true =
    cw-decided z b x.library a.library x n (turn.parts.calls x.library a.library library) (commit-cw front (rw alive at it.1)) in
    let done : (t : Txn) → Done s r.state t = λ t. commit-done s from x (first_of s.locks.pending x) t refl ok.once in
    hears-done z w v n s r b (record {
      turn = turn;
      knows = knows;
      hearing = λ t y here was. let fits = fits-alive z w v n from s r b (letter.Commit x) x commit t y a turn refl here was in record {
        heard = one (same_txn x t) commit;
        into = into-asked z w v n from (letter.Commit x) x commit t a refl here.apart;
        fits = fits;
        row = commit-row z s from x (b.noted n) t a.inside (sym a.own) ok.agrees ok.once fits;
      };
      locks = commit-locks (b.noted n) s from x ok;
      holds = λ t y is up. done-holds s r.state t (done t);
      fresh = λ t e. elim (same_txn x t) as (λ q. same_txn x t ≡ q → b.decided t ≡ true) [
        | true ↦ λ q. ap b.decided (sym (is-same x t q)) ∙ decided
        | false ↦ λ q. old-decided z w n s b t turn.parts turn.step.here
            (sym (commit-fresh s from x t q (done t) (commit-left s from x (first_of s.locks.pending x))) ∙ e)
      ] refl;
      once = λ t c e. done-once (b.noted n) s r.state t c ok (done t) e;
    })

pub abort-old : (s : BrickState) (x : Txn) (q : Option Pending) (t : Txn) → get (calls.aborted (calls.dropped s x) q).locks.outcomes t ≡ Some true
    → get s.locks.outcomes t ≡ Some true
abort-old s x None t e = e
abort-old s x (Some p) t e = elim (same_txn p.txn t) as (λ q. same_txn p.txn t ≡ q → get s.locks.outcomes t ≡ Some true) [
  | true ↦ λ q.
      let pt = is-same p.txn t q in
      let bad : Some false ≡ Some true =
      sym (ap (λ y. get (calls.noted (calls.dropped s x) y false).locks.outcomes t) pt ∙ get-this s.locks.outcomes t false) ∙ e in
      cc
  | false ↦ λ q. sym (get-other s.locks.outcomes p.txn t false q) ∙ e
] refl

pub abort-row-done : (z : Sizes) (w v : Net) (n from : ℕ) (s : BrickState) (x : Txn) (b : Books) → (a : Asker z w v n from (letter.Abort x) x)
    → Turn z w v n s (calls.abort_row s from x) b → (calls.abort_row s from x).state.known ≡ s.known
    → BrickDone z w v n s (calls.abort_row s from x).state (calls.abort_row s from x).out.letters b
abort-row-done z w v n from s x b a turn knows =
    let r = calls.abort_row s from x in
    let ok = turn.parts.note n s turn.step.here in
    hears-done z w v n s r b (record {
      turn = turn;
      knows = knows;
      hearing = λ t y here was. record {
        heard = one (same_txn x t) abort;
        into = into-asked z w v n from (letter.Abort x) x abort t a refl here.apart;
        fits = fits-alive z w v n from s r b (letter.Abort x) x abort t y a turn refl here was;
        row = abort-row z s from x (b.noted n) t a.inside (sym a.own) ok.agrees ok.once;
      };
      locks = abort-locks (b.noted n) s from x ok;
      holds = λ t y is up. done-holds s r.state t (abort-done s x (first_of s.locks.pending x) t refl ok.once);
      fresh = λ t e. old-decided z w n s b t turn.parts turn.step.here (abort-old s x (first_of s.locks.pending x) t e);
      once = λ t c e. done-once (b.noted n) s r.state t c ok (abort-done s x (first_of s.locks.pending x) t refl ok.once) e;
    })
