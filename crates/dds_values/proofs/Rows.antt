use Rattle.std.proofs.Common.{◌≡◌, Bool, true, false, cond, Some, None, List, [], ◌∷◌, ◌++◌, refl, sym, ap, ◌∙◌, subst}
use Rattle.std.specs.List.{AllByRecursion}
use Rattle.dds_base.specs.Number.{Txn, same_txn}
use Rattle.dds_base.specs.Op.{the_key}
use Rattle.dds_base.specs.declared.pending.Pending.{Pending}
use Rattle.dds_brick_rows.specs.Calls as calls
use Rattle.dds_cluster.specs.Lists.{is_applied}
use Rattle.dds_cluster.specs.declared.trace.Made.{Made}
use Rattle.dds_core.proofs.Lists.{all-append}
use Rattle.dds_law_own.proofs.Lists.{all-first}
use Rattle.dds_locks.specs.Pending.{IsApart, first_of, holder, is_numbered, without}
use Rattle.dds_states.specs.declared.brick_state.BrickState.{BrickState}
use Rattle.dds_values.proofs.Bricks.{aborted-held, applied-first, applied-further, prepared-held, same-held}
use Rattle.dds_values.proofs.Elsewhere.{IsFirst, first-at-other, found-all}
use Rattle.dds_values.specs.Values.{HoldsTable, IsLeftBy}

-- What each row of two-phase commit keeps at its own brick.

-- an update that is pending is settled: committed for the first time, or again, or aborted
pub first-at-own : (made : List Made) (m : Made) (s : BrickState) (txn : Txn) (p : Pending) → first_of s.locks.pending txn ≡ Some p
    → m.txn ≡ p.txn → m.entry.op ≡ p.op → IsApart s.locks.pending → IsFirst made m s → HoldsTable made s
    → HoldsTable (made ++ m ∷ []) (calls.applied (calls.dropped s txn) p).state
first-at-own made m s txn p found its same apart f h =
    record {
      held = applied-first made s txn p m apart found (ap (is_applied made) (sym its) ∙ f.new) same h.held;
      after = all-first (IsLeftBy (made ++ m ∷ [])) (is_numbered txn) s.locks.pending (first-at-other made m s f h).after;
    }

pub further-at-own : (made : List Made) (s : BrickState) (txn : Txn) (p : Pending) → IsApart s.locks.pending → first_of s.locks.pending txn ≡ Some p
    → is_applied made p.txn ≡ true → HoldsTable made s → HoldsTable made (calls.applied (calls.dropped s txn) p).state
further-at-own made s txn p apart found there h =
    record {
      held = applied-further made s txn p apart found there (found-all (IsLeftBy made) s.locks.pending txn p h.after found) h.held;
      after = all-first (IsLeftBy made) (is_numbered txn) s.locks.pending h.after;
    }

pub aborted-at-own : (made : List Made) (s : BrickState) (txn : Txn) (p : Pending) → IsApart s.locks.pending → first_of s.locks.pending txn ≡ Some p
    → is_applied made p.txn ≡ false → HoldsTable made s → HoldsTable made (calls.aborted (calls.dropped s txn) (Some p))
aborted-at-own made s txn p apart found none h =
    record {
      held = aborted-held made s txn p apart found none h.held;
      after = all-first (IsLeftBy made) (is_numbered txn) s.locks.pending h.after;
    }

-- Prepare
pub prepared-at-own : (made : List Made) (s u : BrickState) (p : Pending) → holder s.locks.pending (the_key p.op) ≡ None → is_applied made p.txn ≡ false
    → u.leaves ≡ s.leaves → u.pairs ≡ s.pairs → u.locks.pending ≡ s.locks.pending ++ p ∷ [] → HoldsTable made s → HoldsTable made u
prepared-at-own made s u p free new leaves pairs more h =
    record {
      held = prepared-held made s u p free new leaves pairs more h.held;
      after = subst (AllByRecursion (IsLeftBy made)) (sym more)
          (all-append (IsLeftBy made) s.locks.pending (p ∷ []) h.after
          (λ e. let never : false ≡ true = sym new ∙ e in cc, tt));
    }

pub same-at-own : (made : List Made) (s u : BrickState) → u.leaves ≡ s.leaves → u.pairs ≡ s.pairs → u.locks.pending ≡ s.locks.pending
    → HoldsTable made s → HoldsTable made u
same-at-own made s u leaves pairs pending h =
    record { held = same-held made s u leaves pairs pending h.held; after = subst (AllByRecursion (IsLeftBy made)) (sym pending) h.after }

-- one that isn't pending
pub without-none : (ps : List Pending) (t : Txn) → first_of ps t ≡ None → without ps t ≡ ps
without-none [] t e = refl
without-none (x ∷ ps) t e = pick (same_txn x.txn t) e (without-none ps t)
  where
    pick : (b : Bool) → cond b (Some x) (first_of ps t) ≡ None → (first_of ps t ≡ None → without ps t ≡ ps)
        → cond b ps (x ∷ without ps t) ≡ x ∷ ps
    pick true f g = cc
    pick false f g = ap (λ l. x ∷ l) (g f)
