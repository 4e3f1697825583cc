use Rattle.std.proofs.Common.{◌≡◌, ℕ, ◌==◌, ◌&&◌, Bool, true, false, not, Option, Some, None, List, [], ◌∷◌, ◌++◌, refl, sym, ap, ◌∙◌, arith}
use Rattle.std.proofs.lemmas.Bool.Decides.{nat_tests}
use Rattle.std.specs.FinMap.{get}
use Rattle.dds_base.specs.Number.{Txn, same_txn}
use Rattle.dds_base.specs.Op.{is_get, the_key}
use Rattle.dds_base.specs.declared.op.Op.{Op}
use Rattle.dds_base.specs.declared.op.Op.TheVariants.{Get, Put, Remove, Swap}
use Rattle.dds_cluster.specs.Lists.{is_applied, is_update_of}
use Rattle.dds_cluster.specs.declared.trace.Made.{Made}
use Rattle.dds_history.specs.Map.{Map, bound_after, flag_of, reply_to, reply_with}
use Rattle.dds_values.proofs.Befores.{applied-other, before-all, before-more, before-this, bound-other, bound-read, bound-this}
use Rattle.dds_values.specs.Values.{IsLeftBy, before, bound_in}
use Rattle.dds_base.specs.declared.pending.Pending.{Pending}
use Rattle.dds_world.specs.Values.{before_entry}

-- What the points before a transaction's leave, with one point more.

-- where a point leaves a key as it was, so it is before each transaction's point
pub before-same : (made : List Made) (m : Made) (key : ℕ) (holder : Option Txn) → bound_in (made ++ m ∷ []) key ≡ bound_in made key
    → bound_in (before (made ++ m ∷ []) holder) key ≡ bound_in (before made holder) key
before-same made m key None e = e
before-same made m key (Some t) e = pick (is_applied made t) (is_update_of t m) refl refl
  where
    pick : (a u : Bool) → is_applied made t ≡ a → is_update_of t m ≡ u
        → bound_in (before_entry (made ++ m ∷ []) t) key ≡ bound_in (before_entry made t) key
    pick true u f g = ap (λ l. bound_in l key) (before-more made (m ∷ []) t f)
    pick false true f g = ap (λ l. bound_in l key) (before-this made m t f g ∙ sym (before-all made t f))
    pick false false f g =
        ap (λ l. bound_in l key) (before-all (made ++ m ∷ []) t (applied-other made m t g ∙ f)) ∙ e ∙ sym (ap (λ l. bound_in l key) (before-all made t f))

pub before-read : (made : List Made) (m : Made) (key : ℕ) (holder : Option Txn) → is_get m.entry.op ≡ true
    → bound_in (before (made ++ m ∷ []) holder) key ≡ bound_in (before made holder) key
before-read made m key holder e = before-same made m key holder (bound-read made m key e)

pub before-other : (made : List Made) (m : Made) (key : ℕ) (holder : Option Txn) → (the_key m.entry.op == key) ≡ false
    → bound_in (before (made ++ m ∷ []) holder) key ≡ bound_in (before made holder) key
before-other made m key holder e = before-same made m key holder (bound-other made m key e)

-- and before a transaction's own first point stands what all points left
pub before-first : (made : List Made) (m : Made) (key : ℕ) (t : Txn) → is_applied made t ≡ false → is_update_of t m ≡ true
    → bound_in (before (made ++ m ∷ []) (Some t)) key ≡ bound_in (before made (Some t)) key
before-first made m key t e f = ap (λ l. bound_in l key) (before-this made m t e f ∙ sym (before-all made t e))

-- what a pending transaction left, with one point more: a read
pub left-read : (made : List Made) (m : Made) (p : Pending) → is_get m.entry.op ≡ true → IsLeftBy made p → IsLeftBy (made ++ m ∷ []) p
left-read made m p e h f =
    let other : is_update_of p.txn m ≡ false = ap (λ g. same_txn m.txn p.txn && not g) e ∙ and-false (same_txn m.txn p.txn) in
    let was : is_applied made p.txn ≡ true = sym (applied-other made m p.txn other) ∙ f in
    bound-read made m (the_key p.op) e ∙ h was
    ∙ sym (ap (λ l. bound_after (bound_in l (the_key p.op)) p.op) (before-more made (m ∷ []) p.txn was))
  where
    and-false : (b : Bool) → (b && false) ≡ false
    and-false true = refl
    and-false false = refl

-- or the first point of an update: one that is on the same key is the same transaction, with the same operation
pub record Meets (m : Made) (p : Pending) : Type 0 where
  pub same_key : (the_key m.entry.op == the_key p.op) ≡ true → is_update_of p.txn m ≡ true
  pub same_op : is_update_of p.txn m ≡ true → p.op ≡ m.entry.op

self-key : (k : ℕ) → (k == k) ≡ true
self-key k = grind (arith, nat_tests)

other-key : (m : Made) (p : Pending) (k : Bool) → Meets m p → (the_key m.entry.op == the_key p.op) ≡ k → is_update_of p.txn m ≡ false → k ≡ false
other-key m p true meets g e = let no : true ≡ false = sym (meets.same_key g) ∙ e in cc
other-key m p false meets g e = refl

pub left-first : (made : List Made) (m : Made) (p : Pending) → is_applied made m.txn ≡ false → (is_update_of p.txn m ≡ true → p.txn ≡ m.txn) → Meets m p
    → IsLeftBy made p → IsLeftBy (made ++ m ∷ []) p
left-first made m p new same meets h f = pick (is_update_of p.txn m) refl
  where
    pick : (u : Bool) → is_update_of p.txn m ≡ u
        → bound_in (made ++ m ∷ []) (the_key p.op) ≡ bound_after (bound_in (before_entry (made ++ m ∷ []) p.txn) (the_key p.op)) p.op
    pick true e =
        let o : p.op ≡ m.entry.op = meets.same_op e in
        let none : is_applied made p.txn ≡ false = ap (is_applied made) (same e) ∙ new in
        bound-this made m (the_key p.op) (ap (λ x. the_key m.entry.op == the_key x) o ∙ self-key (the_key m.entry.op))
        ∙ ap (bound_after (bound_in made (the_key p.op))) (sym o)
        ∙ sym (ap (λ l. bound_after (bound_in l (the_key p.op)) p.op) (before-this made m p.txn none e))
    pick false e =
        let was : is_applied made p.txn ≡ true = sym (applied-other made m p.txn e) ∙ f in
        bound-other made m (the_key p.op) (other-key m p (the_key m.entry.op == the_key p.op) meets refl e) ∙ h was
        ∙ sym (ap (λ l. bound_after (bound_in l (the_key p.op)) p.op) (before-more made (m ∷ []) p.txn was))

-- an update's reply is its flag's
pub reply-flag : (m : Map) (o : Op) → is_get o ≡ false → reply_to m o ≡ reply_with o (flag_of (get m (the_key o)) o)
reply-flag m (Get key) e = cc
reply-flag m (Put key value) e = refl
reply-flag m (Remove key) e = refl
reply-flag m (Swap key expected value) e = refl
