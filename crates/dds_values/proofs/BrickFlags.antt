use Rattle.std.proofs.Common.{◌≡◌, ℕ, ◌&&◌, Bool, true, false, not, cond, Option, Some, None, List, [], ◌∷◌, ◌++◌, refl, sym, ap, ◌∙◌, subst}
use Rattle.std.proofs.lemmas.Bool.{and_parts}
use Rattle.std.proofs.lemmas.List.{append-nil}
use Rattle.std.specs.List.{AllByRecursion, find}
use Rattle.std.specs.Prelude.{if◌then◌else◌}
use Rattle.dds_answered.proofs.Silent.{AllSilent, IsSilent, hear-silent, help-silent, notice-silent, orders-silent, outcome-silent, query-silent}
use Rattle.dds_base.specs.Number.{Txn, same_txn}
use Rattle.dds_base.specs.Op.{is_get, the_key}
use Rattle.dds_base.specs.declared.number.NodeNo.{NodeNo}
use Rattle.dds_base.specs.declared.op.Op.{Op}
use Rattle.dds_base.specs.declared.pending.Pending.{Pending}
use Rattle.dds_brick_rows.specs.Calls as calls
use Rattle.dds_brick_rows.specs.Refusal.{get_refusal, update_denial}
use Rattle.dds_brick_rows.specs.declared.resolution.News.TheVariants as news
use Rattle.dds_cluster.specs.Lists.{is_applied, is_update_of}
use Rattle.dds_cluster.specs.Turn.{update_by}
use Rattle.dds_cluster.specs.declared.trace.Made.{Made}
use Rattle.dds_core.proofs.LetterTells.{letter-rests}
use Rattle.dds_core.proofs.Lists.{all-map}
use Rattle.dds_core.specs.Brick.{live_brick_turn}
use Rattle.dds_letters.specs.declared.letter.Letter.{Letter}
use Rattle.dds_letters.specs.declared.letter.Letter.TheVariants as letter
use Rattle.dds_letters.specs.declared.refusal.Denial.{Denial}
use Rattle.dds_letters.specs.declared.refusal.Refusal.{Refusal}
use Rattle.dds_locks.specs.Pending.{first_of}
use Rattle.dds_states.specs.declared.brick_state.BrickState.{BrickState}
use Rattle.dds_talk.proofs.Parts.{is-same}
use Rattle.dds_values.proofs.Bricks.{pending-held}
use Rattle.dds_values.proofs.BrickTurns.{Start, ends_of}
use Rattle.dds_values.proofs.Elsewhere.{found-all}
use Rattle.dds_values.proofs.Flags.{first-flag, further-flag}
use Rattle.dds_values.proofs.Points.{with_points}
use Rattle.dds_values.proofs.Settles.{May, OtherBrick, PointFits, is-update}
use Rattle.dds_values.specs.Values.{HasFlag, LetterFlag}

-- The flag that a brick tells is that of the first point of its update.

abbrev pub AllFlags : List Made → List (NodeNo × Letter) → Type 0
AllFlags made ls = AllByRecursion (λ (q : NodeNo × Letter). LetterFlag made q.1) ls

silent-flag : (made : List Made) (l : Letter) → IsSilent l → LetterFlag made l
silent-flag made (letter.Applied txn was) h = absurd h
silent-flag made other h = tt

pub silent-flags : (made : List Made) (ls : List (NodeNo × Letter)) → AllSilent ls → AllFlags made ls
silent-flags made ls h =
    all-map (λ (q : NodeNo × Letter). IsSilent q.1) (λ (q : NodeNo × Letter). LetterFlag made q.1) ls (λ q k. silent-flag made q.1 k) h

-- a point that is found
found-point : (P : Made → Type 0) (test : Made → Bool) (made : List Made) (m : Made) → AllByRecursion P made → find test made ≡ Some m
    → P m × (test m ≡ true)
found-point P test [] m h e = cc
found-point P test (x ∷ made) m h e = pick (test x) refl e (found-point P test made m h.1)
  where
    pick : (b : Bool) → test x ≡ b → cond b (Some x) (find test made) ≡ Some m → (find test made ≡ Some m → P m × (test m ≡ true))
        → P m × (test m ≡ true)
    pick true f g k = let is : x ≡ m = cc in (subst P is h.0, ap test (sym is) ∙ f)
    pick false f g k = k g

not-true : (b : Bool) → not b ≡ true → b ≡ false
not-true true e = cc
not-true false e = refl

-- the first point of a pending update has its operation
pub point-op : (op_of : Txn → Option Op) (decided : Txn → Bool) (made : List Made) (p : Pending) (m : Made)
    → AllByRecursion (PointFits op_of decided) made → op_of p.txn ≡ Some p.op → find (is_update_of p.txn) made ≡ Some m → m.entry.op ≡ p.op
point-op op_of decided made p m fit op_is e =
    let f = found-point (PointFits op_of decided) (is_update_of p.txn) made m fit e in
    let both = and_parts (same_txn m.txn p.txn) (not (is_get m.entry.op)) f.1 in
    let its = (f.0 (not-true (is_get m.entry.op) both.1)).1 in
    let two : Some m.entry.op ≡ Some p.op = sym its ∙ ap op_of (is-same m.txn p.txn both.0) ∙ op_is in
    cc

module _ (before : List Made) (Beside : BrickState → Type 0) (op_of : Txn → Option Op) (decided : Txn → Bool)
    (besides : (v : BrickState) → Beside v → OtherBrick op_of v) (place : ℕ) where
  abbrev StartAt : (Txn → Option Bool) → BrickState → Type 0
  StartAt ends s = Start before Beside op_of decided besides place ends s

  applied-flag : (ends : Txn → Option Bool) (s : BrickState) (x : Txn) (p : Pending) (b : Bool) → first_of s.locks.pending x ≡ Some p
      → is_applied before p.txn ≡ b → StartAt ends s
      → HasFlag (before ++ ((if not false && b then [] else update_by place (calls.flag_at s p) p ∷ []) ++ [])) p.txn (calls.flag_at s p)
  applied-flag ends s x p true found e h =
      let mine = found-all (May before Beside op_of decided ends besides) s.locks.pending x p h.may found in
      subst (λ m. HasFlag m p.txn (calls.flag_at s p)) (sym (append-nil before))
      (further-flag before s p h.now.legal e mine.update
      (pending-held before s x p h.apart found (the_key p.op) refl (h.now.own.held (the_key p.op) (found-all _ s.locks.pending x p h.covered found)))
      (λ m f. point-op op_of decided before p m h.now.fit mine.op_is f))
  applied-flag ends s x p false found e h =
      let mine = found-all (May before Beside op_of decided ends besides) s.locks.pending x p h.may found in
      first-flag before s p place e (is-update p.txn place (calls.flag_at s p) p refl mine.update)

  commit-flags : (ends : Txn → Option Bool) (s : BrickState) (from : NodeNo) (x : Txn) (q : Option Pending) → first_of s.locks.pending x ≡ q → StartAt ends s
      → AllFlags (with_points before place (letter.Commit x) (calls.commit_found (calls.dropped s x) from q).out.points)
      (calls.commit_found (calls.dropped s x) from q).out.letters
  commit-flags ends s from x None found h = tt
  commit-flags ends s from x (Some p) found h =
      let mine = found-all (May before Beside op_of decided ends besides) s.locks.pending x p h.may found in (
        subst (λ g. HasFlag
            (before ++ ((if not g && is_applied before p.txn then [] else update_by place (calls.flag_at s p) p ∷ []) ++ [])) p.txn (calls.flag_at s p))
            (sym mine.update) (applied-flag ends s x p (is_applied before p.txn) found refl h),
        tt,
      )

  got-flags : (made : List Made) (s : BrickState) (from : NodeNo) (x : Txn) (key : ℕ) (o : Option Refusal)
      → AllFlags made (calls.got s from x key o).out.letters
  got-flags made s from x key None = (tt, tt)
  got-flags made s from x key (Some why) = (tt, tt)

  voted-silent : (s : BrickState) (from : NodeNo) (p : Pending) (d : Option Denial) → AllSilent (calls.voted s from p d).out.letters
  voted-silent s from p None = (tt, tt)
  voted-silent s from p (Some d) = (tt, tt)

  abbrev then_made : BrickState → NodeNo → Letter → List Made
  then_made s from l = with_points before place l (live_brick_turn s from l).out.points

  quiet : (s : BrickState) (from : NodeNo) (l : Letter) → AllSilent (live_brick_turn s from l).out.letters
      → AllFlags (then_made s from l) (live_brick_turn s from l).out.letters
  quiet s from l h = silent-flags (then_made s from l) (live_brick_turn s from l).out.letters h

  pub turn-flags : (s : BrickState) (from : NodeNo) (l : Letter) → StartAt (λ x. ends_of before Beside op_of decided besides place s from l x) s
      → AllFlags (then_made s from l) (live_brick_turn s from l).out.letters
  turn-flags s from (letter.Get txn caller call key name stamp) h =
      got-flags (then_made s from (letter.Get txn caller call key name stamp)) s from txn key (get_refusal s key name stamp)
  turn-flags s from (letter.Commit txn) h =
      commit-flags (λ x. ends_of before Beside op_of decided besides place s from (letter.Commit txn) x) s from txn (first_of s.locks.pending txn) refl h
  turn-flags s from (letter.Prepare txn caller call below name stamp list o) h =
      quiet s from (letter.Prepare txn caller call below name stamp list o)
      (voted-silent (calls.trim s txn.library below) from _ (update_denial (calls.trim s txn.library below) o name stamp))
  turn-flags s from (letter.Abort txn) h = (tt, tt)
  turn-flags s from (letter.MapAsk txn caller call key) h = (tt, tt)
  turn-flags s from (letter.Got txn a) h = tt
  turn-flags s from (letter.Vote txn vote) h = tt
  turn-flags s from (letter.Applied txn was) h = tt
  turn-flags s from (letter.Aborted txn) h = tt
  turn-flags s from (letter.MapTell txn leaf) h = tt
  turn-flags s from (letter.Help txn list) h = quiet s from (letter.Help txn list) (help-silent s from txn list).letters
  turn-flags s from (letter.Query txn list) h = quiet s from (letter.Query txn list) (query-silent s from txn list).letters
  turn-flags s from (letter.Status txn st) h = quiet s from (letter.Status txn st) (hear-silent s from (news.Told txn st)).letters
  turn-flags s from (letter.Outcome txn c) h = quiet s from (letter.Outcome txn c) (outcome-silent s txn c).letters
  turn-flags s from letter.Notice h = quiet s from letter.Notice (notice-silent s from).letters
  turn-flags s from other h =
      quiet s from other (orders-silent (live_brick_turn s from other).out.letters (letter-rests s from from other tt).letters)
