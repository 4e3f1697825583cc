use Rattle.std.proofs.Common.{◌≡◌, ℕ, not, cond, Bool, true, false, Option, Some, None, List, [], ◌∷◌, refl, sym, ap, ◌∙◌, subst}
use Rattle.std.proofs.lemmas.List.{append-nil}
use Rattle.std.specs.FinMap.{get}
use Rattle.std.specs.List.{AllByRecursion}
use Rattle.dds_base.specs.Name.{Name}
use Rattle.dds_base.specs.Number.{StampOf, Txn}
use Rattle.dds_base.specs.declared.number.CallNo.{CallNo}
use Rattle.dds_base.specs.declared.number.NodeNo.{NodeNo}
use Rattle.dds_base.specs.declared.op.Op.{Op}
use Rattle.dds_base.specs.declared.op.Op.TheVariants as op
use Rattle.dds_base.specs.declared.pending.Pending.{Pending}
use Rattle.dds_brick_rows.specs.Calls as calls
use Rattle.dds_brick_rows.specs.Refusal.{get_refusal, update_denial}
use Rattle.dds_brick_rows.specs.Resolution as rows
use Rattle.dds_brick_rows.specs.declared.resolution.News.TheVariants as news
use Rattle.dds_cluster.specs.Lists.{is_applied}
use Rattle.dds_cluster.specs.declared.trace.Made.{Made}
use Rattle.dds_core.proofs.LetterTells.{Any, Each, letter-rests, order_part}
use Rattle.dds_core.proofs.Lists.{all-append}
use Rattle.dds_core.proofs.Rests.{Orders, Whole}
use Rattle.dds_core.specs.Brick.{live_brick_turn}
use Rattle.dds_core.specs.Notice as notices
use Rattle.dds_history.specs.Map.{found}
use Rattle.dds_letters.specs.declared.letter.Letter.{Letter}
use Rattle.dds_letters.specs.declared.letter.Letter.TheVariants as letter
use Rattle.dds_letters.specs.declared.refusal.Denial.{Denial}
use Rattle.dds_letters.specs.declared.refusal.Refusal.{Refusal}
use Rattle.dds_locks.proofs.Trims.{get-trimmed}
use Rattle.dds_locks.specs.Outcomes.{is_below}
use Rattle.dds_locks.specs.Pending.{IsApart, first_of}
use Rattle.dds_outcomes.proofs.Pointless.{copy-ask-none, copy-part-none, granted-row-none, install-none, installed-none, lease-none}
use Rattle.dds_outcomes.proofs.Pointless.{order-part-none, refused-none}
use Rattle.dds_states.specs.Turn.{BrickTurn}
use Rattle.dds_states.specs.declared.brick_state.BrickState.{BrickState}
use Rattle.dds_states.specs.declared.turn.Point.{Point}
use Rattle.dds_talk.specs.Seen.{Once}
use Rattle.dds_values.proofs.Befores.{applied-more}
use Rattle.dds_values.proofs.CallRows.{got-legal, prepare-holds, read-holds}
use Rattle.dds_values.proofs.Changes.{LeavesAt, leaves-held}
use Rattle.dds_values.proofs.Folds.{Goes, Rests, Settled, hear, help, notice, query}
use Rattle.dds_values.proofs.Points.{with_points}
use Rattle.dds_values.proofs.Settles.{May, Now, OtherBrick, PointFits}
use Rattle.dds_values.proofs.Turns.{Fold, fold-rests, fold-settled}
use Rattle.dds_values.specs.Below.{IsCovered, LeavesKeepHeld}
use Rattle.dds_values.specs.Values.{HoldsTable}

-- A turn of a live brick: what is so of the points and of the live bricks after it.

-- what a letter needs beside: a Prepare's attempt wasn't applied, a change of leaves keeps what the brick holds, and after a notice's first part
-- what is pending is covered
abbrev pub Asks : List Made → BrickState → NodeNo → Letter → Type 0
Asks made s from (letter.Prepare txn caller call below name stamp list o) = is_applied made txn ≡ false
Asks made s from letter.Notice =
    AllByRecursion (IsCovered (notices.order_part (notices.learns s from) from).state)
    (notices.order_part (notices.learns s from) from).state.locks.pending
Asks made s from other = Unit {0}

module _ (before : List Made) (Beside : BrickState → Type 0) (op_of : Txn → Option Op) (decided : Txn → Bool)
    (besides : (v : BrickState) → Beside v → OtherBrick op_of v) (place : ℕ) where
  abbrev NowAt : List Made → BrickState → Type 0
  NowAt made s = Now Beside op_of decided made s

  -- the brick before its turn, with the outcomes that are noted at its end
  pub record Start (ends : Txn → Option Bool) (s : BrickState) : Type 0 where
    pub once : Once s.locks.pending
    pub apart : IsApart s.locks.pending
    pub may : AllByRecursion (May before Beside op_of decided ends besides) s.locks.pending
    pub covered : AllByRecursion (IsCovered s) s.locks.pending
    pub now : NowAt before s

  abbrev FoldAt : (Txn → Option Bool) → Letter → BrickState → List Point → Type 0
  FoldAt ends l = Fold before Beside op_of decided ends besides place l

  begins : (ends : Txn → Option Bool) (l : Letter) (s : BrickState) → Start ends s → FoldAt ends l s []
  begins ends l s h =
      record {
        once = h.once;
        apart = h.apart;
        may = h.may;
        covered = h.covered;
        now = λ e. subst (λ m. NowAt m s) (sym (append-nil before)) h.now;
      }

  -- a turn that is a list of acts
  acts : (ends : Txn → Option Bool) (l : Letter) (s : BrickState) (t : BrickTurn) → Goes (FoldAt ends l) s t
      → ((x : Txn) (c : Bool) → get t.state.locks.outcomes x ≡ Some c → ends x ≡ Some c) → Start ends s
      → NowAt (with_points before place l t.out.points) t.state
  acts ends l s t goes e h = (goes [] (begins ends l s h)).now (λ x c p o. e x c o)

  rests-at : (ends : Txn → Option Bool) (l : Letter) → Rests (FoldAt ends l)
  rests-at ends l = fold-rests before Beside op_of decided ends besides place l

  settled-at : (ends : Txn → Option Bool) (l : Letter) → Settled (FoldAt ends l)
  settled-at ends l = fold-settled before Beside op_of decided ends besides place l

  -- Commit and Abort do what Outcome does
  commit-ends : (u : BrickState) (from : NodeNo) (q : Option Pending) (x : Txn) (c : Bool) → get (rows.settled u true q).state.locks.outcomes x ≡ Some c
      → get (calls.commit_found u from q).state.locks.outcomes x ≡ Some c
  commit-ends u from None x c o = o
  commit-ends u from (Some p) x c o = o

  commit-as : (l : Letter) (u : BrickState) (from : NodeNo) (q : Option Pending)
      → NowAt (with_points before place l (rows.settled u true q).out.points) (rows.settled u true q).state
      → NowAt (with_points before place l (calls.commit_found u from q).out.points) (calls.commit_found u from q).state
  commit-as l u from None h = h
  commit-as l u from (Some p) h = h

  abort-ends : (u : BrickState) (q : Option Pending) (x : Txn) (c : Bool) → get (rows.settled u false q).state.locks.outcomes x ≡ Some c
      → get (calls.aborted u q).locks.outcomes x ≡ Some c
  abort-ends u None x c o = o
  abort-ends u (Some p) x c o = o

  abort-as : (l : Letter) (u : BrickState) (q : Option Pending)
      → NowAt (with_points before place l (rows.settled u false q).out.points) (rows.settled u false q).state
      → NowAt (with_points before place l []) (calls.aborted u q)
  abort-as l u None h = h
  abort-as l u (Some p) h = h

  -- a turn without points
  pointless : (l : Letter) (t : BrickTurn) → t.out.points ≡ [] → NowAt before t.state → NowAt (with_points before place l t.out.points) t.state
  pointless l t e h =
      subst (λ ps. NowAt (with_points before place l ps) t.state) (sym e) (subst (λ m. NowAt m t.state) (sym (append-nil before)) h)

  -- the leaves change
  leaves-now : (s u : BrickState) → u.locks.pending ≡ s.locks.pending
      → ((t : Txn) → get u.locks.outcomes t ≡ Some true → get s.locks.outcomes t ≡ Some true) → AllByRecursion (IsCovered s) s.locks.pending
      → LeavesKeepHeld before s u → NowAt before s → NowAt before u
  leaves-now s u pending outcomes covered k h =
      record {
        own = leaves-held before s u pending covered k h.own;
        others = h.others;
        legal = h.legal;
        fit = h.fit;
        noted = λ t e. h.noted t (outcomes t e);
      }

  order-now : (ends : Txn → Option Bool) (s : BrickState) (from : NodeNo) (l : Letter) (u : BrickState) → u.locks.pending ≡ s.locks.pending
      → u.locks.outcomes ≡ s.locks.outcomes → LeavesKeepHeld before s u → Start ends s → NowAt before u
  order-now ends s from l u pending outcomes k h =
      leaves-now s u pending (λ t e. sym (ap (λ m. get m t) outcomes) ∙ e) h.covered k h.now

  -- Get
  read-now : (s : BrickState) (from : NodeNo) (txn : Txn) (caller : ℕ) (call : CallNo) (key : ℕ) (name : Name) (stamp : StampOf) (o : Option Refusal)
      → get_refusal s key name stamp ≡ o → NowAt before s
      → NowAt (with_points before place (letter.Get txn caller call key name stamp) (calls.got s from txn key o).out.points) (calls.got s from txn key o).state
  read-now s from txn caller call key name stamp None e h =
      let m : Made = record { place = place; txn = txn; entry = record { caller = caller; call = call; op = op.Get key; reply = found (get s.pairs key) } } in
      record {
        own = read-holds before m key s refl h.own;
        others = λ v b. read-holds before m key v refl (h.others v b);
        legal = got-legal before s from txn caller call key name stamp place None e h.own h.legal;
        fit = all-append (PointFits op_of decided) before (m ∷ []) h.fit (λ g. cc, tt);
        noted = λ t g. applied-more before (m ∷ []) t (h.noted t g);
      }
  read-now s from txn caller call key name stamp (Some why) e h = subst (λ m. NowAt m s) (sym (append-nil before)) h

  -- Prepare
  trim-yes : (b : Bool) (o : Option Bool) → cond b o None ≡ Some true → o ≡ Some true
  trim-yes true o e = e
  trim-yes false o e = cc

  voted-outcomes : (s : BrickState) (from : NodeNo) (p : Pending) (d : Option Denial) → (calls.voted s from p d).state.locks.outcomes ≡ s.locks.outcomes
  voted-outcomes s from p None = refl
  voted-outcomes s from p (Some d) = refl

  voted-none : (s : BrickState) (from : NodeNo) (p : Pending) (d : Option Denial) → (calls.voted s from p d).out.points ≡ []
  voted-none s from p None = refl
  voted-none s from p (Some d) = refl

  prepare-now : (l : Letter) (s : BrickState) (from : NodeNo) (p : Pending) (below : ℕ) (name : Name) (stamp : StampOf) → is_applied before p.txn ≡ false
      → NowAt before s
      → NowAt (with_points before place l (calls.prepare_row s from p below name stamp).out.points) (calls.prepare_row s from p below name stamp).state
  prepare-now l s from p below name stamp new h =
      let t = calls.trim s p.txn.library below in
      let d = update_denial t p.op name stamp in
      let u = (calls.prepare_row s from p below name stamp).state in
      pointless l (calls.prepare_row s from p below name stamp) (voted-none t from p d)
      (record {
        own = subst (λ m. HoldsTable m u) (append-nil before) (prepare-holds before s from p below name stamp new h.own);
        others = h.others;
        legal = h.legal;
        fit = h.fit;
        noted = λ x e. h.noted x (trim-yes (not (is_below p.txn.library below x)) (get s.locks.outcomes x)
            (sym (get-trimmed s.locks.outcomes p.txn.library below x) ∙ sym (ap (λ m. get m x) (voted-outcomes t from p d)) ∙ e));
      })

  -- a notice
  ordered : (ends : Txn → Option Bool) (s : BrickState) (y : NodeNo) → LeavesKeepHeld before s (notices.order_part (notices.learns s y) y).state
      → Asks before s y letter.Notice → Start ends s
      → FoldAt ends letter.Notice (notices.order_part (notices.learns s y) y).state (notices.order_part (notices.learns s y) y).out.points
  ordered ends s y k covered h =
      let r = notices.order_part (notices.learns s y) y in
      let w = (order_part {L = Any} {M = Each} (notices.learns s y) y).same in
      let pending : r.state.locks.pending ≡ s.locks.pending = ap (λ (x : Whole). x.pending) w in
      let outcomes : r.state.locks.outcomes ≡ s.locks.outcomes = ap (λ (x : Whole). x.outcomes) w in
      record {
        once = subst Once (sym pending) h.once;
        apart = subst IsApart (sym pending) h.apart;
        may = subst (AllByRecursion (May before Beside op_of decided ends besides)) (sym pending) h.may;
        covered = covered;
        now = λ e. pointless letter.Notice r (order-part-none (notices.learns s y) y).none
            (order-now ends s y letter.Notice r.state pending outcomes k h);
      }

  notice-now : (ends : Txn → Option Bool) (s : BrickState) (y : NodeNo)
      → ((x : Txn) (c : Bool) → get (notices.notice_row s y).state.locks.outcomes x ≡ Some c → ends x ≡ Some c)
      → LeavesKeepHeld before s (notices.order_part (notices.learns s y) y).state → Asks before s y letter.Notice → Start ends s
      → NowAt (with_points before place letter.Notice (notices.notice_row s y).out.points) (notices.notice_row s y).state
  notice-now ends s y e k covered h =
      (notice (FoldAt ends letter.Notice) (rests-at ends letter.Notice) (settled-at ends letter.Notice) s y [] (ordered ends s y k covered h)).now
      (λ x c p o. e x c o)

  -- a letter of orders
  letter-now : (s : BrickState) (from : NodeNo) (l : Letter) (ends : Txn → Option Bool) → Orders Any from l → (live_brick_turn s from l).out.points ≡ []
      → LeavesKeepHeld before s (live_brick_turn s from l).state → Start ends s
      → NowAt (with_points before place l (live_brick_turn s from l).out.points) (live_brick_turn s from l).state
  letter-now s from l ends its none k h =
      let w = (letter-rests s from from l its).same in
      pointless l (live_brick_turn s from l) none
      (order-now ends s from l (live_brick_turn s from l).state (ap (λ (x : Whole). x.pending) w) (ap (λ (x : Whole). x.outcomes) w) k h)

  abbrev pub ends_of : BrickState → NodeNo → Letter → Txn → Option Bool
  ends_of s from l x = get (live_brick_turn s from l).state.locks.outcomes x

  pub turn-now : (s : BrickState) (from : NodeNo) (l : Letter) → LeavesAt before s from l → Asks before s from l → Start (ends_of s from l) s
      → NowAt (with_points before place l (live_brick_turn s from l).out.points) (live_brick_turn s from l).state
  turn-now s from (letter.Get txn caller call key name stamp) k a h =
      read-now s from txn caller call key name stamp (get_refusal s key name stamp) refl h.now
  turn-now s from (letter.Prepare txn caller call below name stamp list o) k a h =
      prepare-now (letter.Prepare txn caller call below name stamp list o) s from
      (record { txn = txn; caller = caller; call = call; op = o; list = list }) below name stamp a h.now
  turn-now s from (letter.Commit txn) k a h =
      let l = letter.Commit txn in
      let q = first_of s.locks.pending txn in
      commit-as l (calls.dropped s txn) from q
      (acts (ends_of s from l) l s (rows.outcome_row s txn true) (settled-at (ends_of s from l) l s txn true) (commit-ends (calls.dropped s txn) from q) h)
  turn-now s from (letter.Abort txn) k a h =
      let l = letter.Abort txn in
      let q = first_of s.locks.pending txn in
      abort-as l (calls.dropped s txn) q
      (acts (ends_of s from l) l s (rows.outcome_row s txn false) (settled-at (ends_of s from l) l s txn false) (abort-ends (calls.dropped s txn) q) h)
  turn-now s from (letter.Push leaf) k a h = letter-now s from (letter.Push leaf) (ends_of s from (letter.Push leaf)) tt refl k h
  turn-now s from (letter.MapAsk txn caller call key) k a h =
      pointless (letter.MapAsk txn caller call key) (live_brick_turn s from (letter.MapAsk txn caller call key)) refl h.now
  turn-now s from (letter.Got txn answer) k a h = pointless (letter.Got txn answer) (live_brick_turn s from (letter.Got txn answer)) refl h.now
  turn-now s from (letter.Vote txn vote) k a h = pointless (letter.Vote txn vote) (live_brick_turn s from (letter.Vote txn vote)) refl h.now
  turn-now s from (letter.Applied txn was) k a h = pointless (letter.Applied txn was) (live_brick_turn s from (letter.Applied txn was)) refl h.now
  turn-now s from (letter.Aborted txn) k a h = pointless (letter.Aborted txn) (live_brick_turn s from (letter.Aborted txn)) refl h.now
  turn-now s from (letter.MapTell txn leaf) k a h = pointless (letter.MapTell txn leaf) (live_brick_turn s from (letter.MapTell txn leaf)) refl h.now
  turn-now s from (letter.Help txn list) k a h =
      let l = letter.Help txn list in
      let e = ends_of s from l in
      acts e l s (rows.help_row s from txn list) (help (FoldAt e l) (rests-at e l) (settled-at e l) s from txn list) (λ x c o. o) h
  turn-now s from (letter.Query txn list) k a h =
      let l = letter.Query txn list in
      let e = ends_of s from l in
      acts e l s (rows.query_row s from txn list) (query (FoldAt e l) (rests-at e l) (settled-at e l) s from txn list) (λ x c o. o) h
  turn-now s from (letter.Status txn st) k a h =
      let l = letter.Status txn st in
      let e = ends_of s from l in
      acts e l s (rows.status_row s from txn st) (hear (FoldAt e l) (rests-at e l) (settled-at e l) s from (news.Told txn st)) (λ x c o. o) h
  turn-now s from (letter.Outcome txn c) k a h =
      let l = letter.Outcome txn c in
      let e = ends_of s from l in
      acts e l s (rows.outcome_row s txn c) (settled-at e l s txn c) (λ x d o. o) h
  turn-now s from (letter.Lease number what) k a h =
      let l = letter.Lease number what in letter-now s from l (ends_of s from l) tt (lease-none s from number what).none k h
  turn-now s from (letter.Granted number leaf) k a h =
      let l = letter.Granted number leaf in letter-now s from l (ends_of s from l) tt (granted-row-none s from number leaf).none k h
  turn-now s from (letter.LeaseRefused number why) k a h =
      let l = letter.LeaseRefused number why in letter-now s from l (ends_of s from l) tt (refused-none s from number why).none k h
  turn-now s from (letter.Release number name) k a h =
      let l = letter.Release number name in letter-now s from l (ends_of s from l) tt refl k h
  turn-now s from (letter.CopyAsk number name after) k a h =
      let l = letter.CopyAsk number name after in letter-now s from l (ends_of s from l) tt (copy-ask-none s from number name after).none k h
  turn-now s from (letter.CopyPart number last pairs) k a h =
      let l = letter.CopyPart number last pairs in letter-now s from l (ends_of s from l) tt (copy-part-none s from number last pairs).none k h
  turn-now s from (letter.Install number leaf) k a h =
      let l = letter.Install number leaf in letter-now s from l (ends_of s from l) tt (install-none s from number leaf).none k h
  turn-now s from (letter.Installed number name) k a h =
      let l = letter.Installed number name in letter-now s from l (ends_of s from l) tt (installed-none s from number).none k h
  turn-now s from letter.Notice k a h = notice-now (ends_of s from letter.Notice) s from (λ x c o. o) k a h
