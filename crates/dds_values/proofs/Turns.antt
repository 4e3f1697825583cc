use Rattle.std.proofs.Common.{◌≡◌, ℕ, ◌&&◌, Bool, true, false, not, Option, Some, None, is_some, List, [], ◌∷◌, ◌++◌, refl, sym, ap, ◌∙◌, subst}
use Rattle.std.proofs.lemmas.Bool.{both_ways}
use Rattle.std.proofs.lemmas.List.{append-nil}
use Rattle.std.specs.FinMap.{get}
use Rattle.std.specs.List.{AllByRecursion}
use Rattle.std.specs.Prelude.{if◌then◌else◌}
use Rattle.dds_base.specs.Number.{Txn}
use Rattle.dds_base.specs.Op.{is_get, the_key}
use Rattle.dds_base.specs.declared.op.Op.{Op}
use Rattle.dds_base.specs.declared.pending.Pending.{Pending}
use Rattle.dds_brick_rows.specs.Calls as calls
use Rattle.dds_brick_rows.specs.Resolution as rows
use Rattle.dds_cluster.specs.Lists.{is_applied}
use Rattle.dds_cluster.specs.Trace.{all_kept}
use Rattle.dds_cluster.specs.Turn.{points_made, update_by}
use Rattle.dds_cluster.specs.declared.trace.Made.{Made}
use Rattle.dds_law_own.proofs.Lists.{all-first}
use Rattle.dds_letters.specs.declared.letter.Letter.{Letter}
use Rattle.dds_locks.proofs.Locked.{found-numbered}
use Rattle.dds_locks.specs.Pending.{IsApart, first_of, is_numbered}
use Rattle.dds_locks.specs.State.{LockState}
use Rattle.dds_states.specs.Leaf.{leaf_for}
use Rattle.dds_states.specs.declared.brick_state.BrickState.{BrickState}
use Rattle.dds_states.specs.declared.turn.Point.{Point}
use Rattle.dds_states.specs.declared.turn.Point.TheVariants as point
use Rattle.dds_talk.proofs.Parts.{get-this, is-same, pending-gone}
use Rattle.dds_talk.proofs.Tales.{Done, outcome-tale}
use Rattle.dds_talk.proofs.Tales.Done.{same, ended}
use Rattle.dds_talk.specs.Seen.{Once, is_pending}
use Rattle.dds_values.proofs.Befores.{applied-more}
use Rattle.dds_values.proofs.Elsewhere.{found-all}
use Rattle.dds_values.proofs.Folds.{Rests, Settled}
use Rattle.dds_values.proofs.Points.{then-points, with_points}
use Rattle.dds_values.proofs.Rows.{without-none}
use Rattle.dds_values.proofs.Settles.{May, Now, OtherBrick, aborted-now, first-now, further-now, same-now}
use Rattle.dds_values.specs.Below.{IsCovered}

-- Over a turn's acts: what is so of the points and of the live bricks stays so, where what the acts note is what is noted at the turn's end.

module _ (before : List Made) (Beside : BrickState → Type 0) (op_of : Txn → Option Op) (decided : Txn → Bool) (ends : Txn → Option Bool)
    (besides : (v : BrickState) → Beside v → OtherBrick op_of v) (place : ℕ) (l : Letter) where
  abbrev MayEnd : Pending → Type 0
  MayEnd = May before Beside op_of decided ends besides

  -- what is noted of what is pending no more stays so to the end
  abbrev pub EndsSo : BrickState → Type 0
  EndsSo s = (t : Txn) (c : Bool) → is_pending s.locks.pending t ≡ false → get s.locks.outcomes t ≡ Some c → ends t ≡ Some c

  pub record Fold (s : BrickState) (ps : List Point) : Type 0 where
    pub once : Once s.locks.pending
    pub apart : IsApart s.locks.pending
    pub may : AllByRecursion MayEnd s.locks.pending
    pub covered : AllByRecursion (IsCovered s) s.locks.pending
    pub now : EndsSo s → Now Beside op_of decided (with_points before place l ps) s

  ends-back : (s u : BrickState) → ((t : Txn) → Done s u t) → EndsSo u → EndsSo s
  ends-back s u d e t c p o = by (d t)
    where
      by : Done s u t → ends t ≡ Some c
      by (same a b) = e t c (a ∙ p) (b ∙ o)
      by (ended x a b k) = absurd (both_ways (is_pending s.locks.pending t) p a)

  pub fold-rests : Rests Fold
  fold-rests s u ps e h =
      let pending : u.locks.pending ≡ s.locks.pending = ap (λ (k : LockState). k.pending) e.locks in
      let outcomes : u.locks.outcomes ≡ s.locks.outcomes = ap (λ (k : LockState). k.outcomes) e.locks in
      record {
        once = subst Once (sym pending) h.once;
        apart = subst IsApart (sym pending) h.apart;
        may = subst (AllByRecursion MayEnd) (sym pending) h.may;
        covered = subst (λ m. AllByRecursion (λ p. is_some (leaf_for m (the_key p.op)) ≡ true) u.locks.pending) (sym e.leaves)
            (subst (AllByRecursion (IsCovered s)) (sym pending) h.covered);
        now = λ k.
            same-now before Beside op_of decided ends besides (with_points before place l ps) s u e.leaves e.pairs pending
            (λ t o. sym (ap (λ m. get m t) outcomes) ∙ o)
            (h.now (λ t c p o. k t c (ap (λ ps. is_pending ps t) pending ∙ p) (ap (λ m. get m t) outcomes ∙ o)));
      }

  -- what one transaction's end leaves
  abbrev made : List Point → List Made
  made ps = with_points before place l ps

  none-made : (ps : List Point) (P : List Made → Type 0) → P (made ps) → P (made (ps ++ []))
  none-made ps P h = subst (λ qs. P (made qs)) (sym (append-nil ps)) h

  applied-made : (ps : List Point) (s : BrickState) (x : Txn) (p : Pending) (b : Bool) → is_applied (made ps) p.txn ≡ b → is_get p.op ≡ false
      → Fold s ps → first_of s.locks.pending x ≡ Some p → decided p.txn ≡ true → Now Beside op_of decided (made ps) s
      → Now Beside op_of decided
      (made ps ++ ((if not false && b then [] else update_by place (calls.flag_at s p) p ∷ []) ++ [])) (calls.applied (calls.dropped s x) p).state
  applied-made ps s x p true e update f found sure k =
      subst (λ m. Now Beside op_of decided m (calls.applied (calls.dropped s x) p).state) (sym (append-nil (made ps)))
      (further-now before Beside op_of decided ends besides (made ps) s x p f.apart found e k)
  applied-made ps s x p false e update f found sure k =
      first-now before Beside op_of decided ends besides (made ps) s x p place f.apart found f.may
      (applied-more before (all_kept before (points_made place l ps)) p.txn) sure e (found-all (IsCovered s) s.locks.pending x p f.covered found) k

  now-then : (ps : List Point) (s : BrickState) (x : Txn) (c : Bool) (q : Option Pending) → first_of s.locks.pending x ≡ q → Fold s ps
      → EndsSo (rows.settled (calls.dropped s x) c q).state → Now Beside op_of decided (made ps) s
      → Now Beside op_of decided (made (ps ++ (rows.settled (calls.dropped s x) c q).out.points)) (rows.settled (calls.dropped s x) c q).state
  now-then ps s x c None found f e k =
      none-made ps (λ m. Now Beside op_of decided m (calls.dropped s x))
      (same-now before Beside op_of decided ends besides (made ps) s (calls.dropped s x) refl refl (without-none s.locks.pending x found) (λ t o. o) k)
  now-then ps s x true (Some p) found f e k =
      let mine = found-all MayEnd s.locks.pending x p f.may found in
      let px : p.txn ≡ x = is-same p.txn x (found-numbered s.locks.pending p x found) in
      let end : ends p.txn ≡ Some true =
      e p.txn true (ap (is_pending (calls.dropped s x).locks.pending) px ∙ pending-gone s.locks.pending x f.once)
      (get-this s.locks.outcomes p.txn true) in
      subst (λ m. Now Beside op_of decided m (calls.applied (calls.dropped s x) p).state)
      (sym (then-points before place l ps (point.Applied p (calls.flag_at s p) ∷ [])))
      (subst (λ g. Now Beside op_of decided
      (made ps ++ ((if not g && is_applied (made ps) p.txn then [] else update_by place (calls.flag_at s p) p ∷ []) ++ []))
      (calls.applied (calls.dropped s x) p).state) (sym mine.update)
      (applied-made ps s x p (is_applied (made ps) p.txn) refl mine.update f found (mine.sure end) k))
  now-then ps s x false (Some p) found f e k =
      let mine = found-all MayEnd s.locks.pending x p f.may found in
      let px : p.txn ≡ x = is-same p.txn x (found-numbered s.locks.pending p x found) in
      let end : ends p.txn ≡ Some false =
      e p.txn false (ap (is_pending (calls.dropped s x).locks.pending) px ∙ pending-gone s.locks.pending x f.once)
      (get-this s.locks.outcomes p.txn false) in
      none-made ps (λ m. Now Beside op_of decided m (calls.aborted (calls.dropped s x) (Some p)))
      (aborted-now before Beside op_of decided ends besides (made ps) s x p f.apart found (mine.never end) k)

  -- the settled brick's locks and leaves
  settled-pending : (s : BrickState) (x : Txn) (c : Bool) (q : Option Pending)
      → (rows.settled (calls.dropped s x) c q).state.locks.pending ≡ (calls.dropped s x).locks.pending
  settled-pending s x c None = refl
  settled-pending s x true (Some p) = refl
  settled-pending s x false (Some p) = refl

  settled-leaves : (s : BrickState) (x : Txn) (c : Bool) (q : Option Pending) → (rows.settled (calls.dropped s x) c q).state.leaves ≡ s.leaves
  settled-leaves s x c None = refl
  settled-leaves s x true (Some p) = refl
  settled-leaves s x false (Some p) = refl

  pub fold-settled : Settled Fold
  fold-settled s x c ps h =
      let q = first_of s.locks.pending x in
      let u = (rows.outcome_row s x c).state in
      let tale = outcome-tale s x c in
      let pending = settled-pending s x c q in
      record {
        once = tale.once h.once;
        apart = tale.apart h.apart;
        may = subst (AllByRecursion MayEnd) (sym pending) (all-first MayEnd (is_numbered x) s.locks.pending h.may);
        covered = subst (λ m. AllByRecursion (λ p. is_some (leaf_for m (the_key p.op)) ≡ true) u.locks.pending) (sym (settled-leaves s x c q))
            (subst (AllByRecursion (IsCovered s)) (sym pending) (all-first (IsCovered s) (is_numbered x) s.locks.pending h.covered));
        now = λ e. now-then ps s x c q refl h e (h.now (ends-back s u (tale.done h.once) e));
      }
