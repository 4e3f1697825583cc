use Rattle.std.proofs.Common.{◌≡◌, ℕ, ◌&&◌, ◌||◌, Bool, true, false, not, Option, Some, is_some, List, [], ◌∷◌, ◌++◌, refl, sym, ap, ◌∙◌}
use Rattle.std.proofs.lemmas.Bool.{and_from, both_ways}
use Rattle.std.specs.FinMap.{get, insert}
use Rattle.std.specs.List.{AllByRecursion}
use Rattle.dds_base.specs.Number.{Txn, same_txn}
use Rattle.dds_base.specs.Op.{is_get, the_key}
use Rattle.dds_base.specs.declared.op.Op.{Op}
use Rattle.dds_base.specs.declared.pending.Pending.{Pending}
use Rattle.dds_brick_rows.specs.Calls as calls
use Rattle.dds_cluster.specs.Lists.{is_applied, is_update_of}
use Rattle.dds_cluster.specs.Turn.{update_by}
use Rattle.dds_cluster.specs.declared.trace.Made.{Made}
use Rattle.dds_core.proofs.Lists.{all-append, all-map}
use Rattle.dds_history.specs.History.{IsLegal}
use Rattle.dds_locks.specs.Pending.{IsApart, first_of, holder}
use Rattle.dds_states.specs.Leaf.{leaf_for}
use Rattle.dds_states.specs.declared.brick_state.BrickState.{BrickState}
use Rattle.dds_talk.proofs.Parts.{get-other, get-this, is-same, same-self}
use Rattle.dds_values.proofs.Befores.{applied-more, applied-this, before-all}
use Rattle.dds_values.proofs.Bricks.{found-holder, pending-held}
use Rattle.dds_values.proofs.Elsewhere.{IsFirst, first-at-other, found-all, other-meets, own-meets}
use Rattle.dds_values.proofs.Flags.{first-legal}
use Rattle.dds_values.proofs.Rows.{aborted-at-own, first-at-own, further-at-own, same-at-own}
use Rattle.dds_values.specs.Below.{IsCovered}
use Rattle.dds_values.specs.Values.{HoldsTable, bound_in}
use Rattle.dds_world.specs.Values.{entries_of_points}

-- One transaction is settled at a brick: what it and the other live bricks hold, and what is so of the points.

-- of a pending update its attempt's operation, and of a point
abbrev pub HasItsOp : (Txn → Option Op) → Pending → Type 0
HasItsOp op_of p = op_of p.txn ≡ Some p.op

abbrev pub PointFits : (Txn → Option Op) → (Txn → Bool) → Made → Type 0
PointFits op_of decided m = is_get m.entry.op ≡ false → (decided m.txn ≡ true) × (op_of m.txn ≡ Some m.entry.op)

-- of the other live bricks (`Beside`)
pub record OtherBrick (op_of : Txn → Option Op) (v : BrickState) : Type 0 where
  pub apart : IsApart v.locks.pending
  pub covered : AllByRecursion (IsCovered v) v.locks.pending
  pub ops : AllByRecursion (HasItsOp op_of) v.locks.pending

-- of an update that is pending at the brick when its turn begins, with the outcomes that are noted there when it ends: one that was
-- committed is decided, one that was aborted isn't; and where it is decided and wasn't applied before, it waits at all other live bricks
-- that have a leaf for its key
pub record MayEnd (made : List Made) (Beside : BrickState → Type 0) (op_of : Txn → Option Op) (decided : Txn → Bool) (ends : Txn → Option Bool) (p : Pending)
    : Type 0 where
  pub update : is_get p.op ≡ false
  pub op_is : op_of p.txn ≡ Some p.op
  pub sure : ends p.txn ≡ Some true → decided p.txn ≡ true
  pub never : ends p.txn ≡ Some false → decided p.txn ≡ false
  pub reaches : decided p.txn ≡ true → (is_applied made p.txn ≡ true → ⊥) → (v : BrickState) → Beside v
      → is_some (leaf_for v.leaves (the_key p.op)) ≡ true → holder v.locks.pending (the_key p.op) ≡ Some p.txn

-- what is so of the points and the live bricks
pub record Now (Beside : BrickState → Type 0) (op_of : Txn → Option Op) (decided : Txn → Bool) (made : List Made) (s : BrickState) : Type 0 where
  pub own : HoldsTable made s
  pub others : (v : BrickState) → Beside v → HoldsTable made v
  pub legal : IsLegal (entries_of_points made)
  pub fit : AllByRecursion (PointFits op_of decided) made
  pub noted : (t : Txn) → get s.locks.outcomes t ≡ Some true → is_applied made t ≡ true

-- what isn't decided wasn't applied
neither : (b c : Bool) → b ≡ false → c ≡ false → (b || c) ≡ false
neither true c e f = cc
neither false c e f = f

not-of : (t : Txn) (m : Made) (op_of : Txn → Option Op) (decided : Txn → Bool) → decided t ≡ false → PointFits op_of decided m
    → (c d : Bool) → same_txn m.txn t ≡ c → is_get m.entry.op ≡ d → (c && not d) ≡ false
not-of t m op_of decided un h true true e f = refl
not-of t m op_of decided un h true false e f =
    let is : m.txn ≡ t = is-same m.txn t e in
    absurd (both_ways (decided t) un (ap decided (sym is) ∙ (h f).0))
not-of t m op_of decided un h false d e f = refl

pub undecided : (op_of : Txn → Option Op) (decided : Txn → Bool) (made : List Made) (t : Txn) → AllByRecursion (PointFits op_of decided) made
    → decided t ≡ false → is_applied made t ≡ false
undecided op_of decided [] t h un = refl
undecided op_of decided (m ∷ made) t h un =
    neither (is_update_of t m) (is_applied made t) (not-of t m op_of decided un h.0 (same_txn m.txn t) (is_get m.entry.op) refl refl)
    (undecided op_of decided made t h.1 un)

-- the operation of what is pending elsewhere under its number
same-op : (op_of : Txn → Option Op) (p : Pending) (qs : List Pending) → HasItsOp op_of p → AllByRecursion (HasItsOp op_of) qs
    → AllByRecursion (λ q. q.txn ≡ p.txn → q.op ≡ p.op) qs
same-op op_of p qs h g =
    all-map (HasItsOp op_of) (λ q. q.txn ≡ p.txn → q.op ≡ p.op) qs
    (λ q k e. let two : Some q.op ≡ Some p.op = sym k ∙ ap op_of e ∙ h in cc) g

pub is-update : (t : Txn) (place : ℕ) (was : Bool) (p : Pending) → p.txn ≡ t → is_get p.op ≡ false → is_update_of t (update_by place was p) ≡ true
is-update t place was p e f =
    and_from (same_txn p.txn t) (not (is_get p.op)) (ap (λ x. same_txn x t) e ∙ same-self t) (ap not f)

-- the point is the first one of its transaction, at its own brick and at others
own-first : (made : List Made) (op_of : Txn → Option Op) (s : BrickState) (x : Txn) (p : Pending) (place : ℕ) (was : Bool) → IsApart s.locks.pending
    → first_of s.locks.pending x ≡ Some p → is_get p.op ≡ false → HasItsOp op_of p → AllByRecursion (HasItsOp op_of) s.locks.pending
    → is_applied made p.txn ≡ false → IsFirst made (update_by place was p) s
own-first made op_of s x p place was apart found update op_is ops new =
    let at = found-holder s.locks.pending x p apart found in
    record {
      new = new;
      update = is-update p.txn place was p refl update;
      meets = own-meets s (update_by place was p) apart at;
      ops = same-op op_of p s.locks.pending op_is ops;
      reaches = λ covered. at;
    }

other-first : (made : List Made) (op_of : Txn → Option Op) (v : BrickState) (p : Pending) (place : ℕ) (was : Bool) → OtherBrick op_of v
    → is_get p.op ≡ false → HasItsOp op_of p → is_applied made p.txn ≡ false
    → (is_some (leaf_for v.leaves (the_key p.op)) ≡ true → holder v.locks.pending (the_key p.op) ≡ Some p.txn)
    → IsFirst made (update_by place was p) v
other-first made op_of v p place was o update op_is new reaches =
    record {
      new = new;
      update = is-update p.txn place was p refl update;
      meets = other-meets v (update_by place was p) o.apart o.covered reaches;
      ops = same-op op_of p v.locks.pending op_is o.ops;
      reaches = reaches;
    }

module _ (before : List Made) (Beside : BrickState → Type 0) (op_of : Txn → Option Op) (decided : Txn → Bool) (ends : Txn → Option Bool)
    (besides : (v : BrickState) → Beside v → OtherBrick op_of v) where
  abbrev pub May : Pending → Type 0
  May p = MayEnd before Beside op_of decided ends p

  -- the pending ones have their operations
  ops-of : (s : BrickState) → AllByRecursion May s.locks.pending → AllByRecursion (HasItsOp op_of) s.locks.pending
  ops-of s h = all-map May (HasItsOp op_of) s.locks.pending (λ p k. k.op_is) h

  -- what is noted after one more
  noted-then : (made : List Made) (s : BrickState) (p : Pending) (c : Bool) (t : Txn) (b : Bool) → same_txn p.txn t ≡ b
      → (c ≡ true → is_applied made p.txn ≡ true) → (get s.locks.outcomes t ≡ Some true → is_applied made t ≡ true)
      → get (insert s.locks.outcomes p.txn c) t ≡ Some true → is_applied made t ≡ true
  noted-then made s p c t true e f g k =
      let is : p.txn ≡ t = is-same p.txn t e in
      let two : Some c ≡ Some true = sym (get-this s.locks.outcomes t c) ∙ ap (λ x. get (insert s.locks.outcomes x c) t) (sym is) ∙ k in
      let yes : c ≡ true = cc in
      ap (is_applied made) (sym is) ∙ f yes
  noted-then made s p c t false e f g k = g (sym (get-other s.locks.outcomes p.txn t c e) ∙ k)

  -- applied for the first time
  pub first-now : (made : List Made) (s : BrickState) (x : Txn) (p : Pending) (place : ℕ) → IsApart s.locks.pending → first_of s.locks.pending x ≡ Some p
      → AllByRecursion May s.locks.pending → (is_applied before p.txn ≡ true → is_applied made p.txn ≡ true) → decided p.txn ≡ true
      → is_applied made p.txn ≡ false → IsCovered s p → Now Beside op_of decided made s
      → Now Beside op_of decided (made ++ update_by place (calls.flag_at s p) p ∷ []) (calls.applied (calls.dropped s x) p).state
  first-now made s x p place apart found may grown sure new covered k =
      let m = update_by place (calls.flag_at s p) p in
      let mine = found-all May s.locks.pending x p may found in
      let never : is_applied before p.txn ≡ true → ⊥ = λ e. both_ways (is_applied made p.txn) new (grown e) in
      let key = the_key p.op in
      let now = made ++ m ∷ [] in
      record {
        own = first-at-own made m s x p found refl refl apart
            (own-first made op_of s x p place (calls.flag_at s p) apart found mine.update mine.op_is (ops-of s may) new) k.own;
        others = λ v b. first-at-other made m v
            (other-first made op_of v p place (calls.flag_at s p) (besides v b) mine.update mine.op_is new (mine.reaches sure never v b)) (k.others v b);
        legal = first-legal made s p place mine.update
            (pending-held made s x p apart found key refl (k.own.held key covered) ∙ ap (λ l. bound_in l key) (before-all made p.txn new)) k.legal;
        fit = all-append (PointFits op_of decided) made (m ∷ []) k.fit (λ e. (sure, mine.op_is), tt);
        noted = λ t e. noted-then now s p true t (same_txn p.txn t) refl
            (λ y. applied-this made m p.txn (is-update p.txn place (calls.flag_at s p) p refl mine.update)) (λ g. applied-more made (m ∷ []) t (k.noted t g)) e;
      }

  -- applied again
  pub further-now : (made : List Made) (s : BrickState) (x : Txn) (p : Pending) → IsApart s.locks.pending → first_of s.locks.pending x ≡ Some p
      → is_applied made p.txn ≡ true → Now Beside op_of decided made s → Now Beside op_of decided made (calls.applied (calls.dropped s x) p).state
  further-now made s x p apart found there k =
      record {
        own = further-at-own made s x p apart found there k.own;
        others = k.others;
        legal = k.legal;
        fit = k.fit;
        noted = λ t e. noted-then made s p true t (same_txn p.txn t) refl (λ y. there) (k.noted t) e;
      }

  -- aborted
  pub aborted-now : (made : List Made) (s : BrickState) (x : Txn) (p : Pending) → IsApart s.locks.pending → first_of s.locks.pending x ≡ Some p
      → decided p.txn ≡ false → Now Beside op_of decided made s → Now Beside op_of decided made (calls.aborted (calls.dropped s x) (Some p))
  aborted-now made s x p apart found un k =
      record {
        own = aborted-at-own made s x p apart found (undecided op_of decided made p.txn k.fit un) k.own;
        others = k.others;
        legal = k.legal;
        fit = k.fit;
        noted = λ t e. noted-then made s p false t (same_txn p.txn t) refl (λ y. cc) (k.noted t) e;
      }

  -- a state that differs in nothing of these
  pub same-now : (made : List Made) (s u : BrickState) → u.leaves ≡ s.leaves → u.pairs ≡ s.pairs → u.locks.pending ≡ s.locks.pending
      → ((t : Txn) → get u.locks.outcomes t ≡ Some true → get s.locks.outcomes t ≡ Some true) → Now Beside op_of decided made s
      → Now Beside op_of decided made u
  same-now made s u leaves pairs pending outcomes k =
      record {
        own = same-at-own made s u leaves pairs pending k.own;
        others = k.others;
        legal = k.legal;
        fit = k.fit;
        noted = λ t e. k.noted t (outcomes t e);
      }
