use Rattle.std.proofs.Common.{◌≡◌, ℕ, ◌==◌, Bool, true, false, cond, Option, Some, None, is_some, List, [], ◌∷◌, ◌++◌, refl, sym, ap, ◌∙◌, subst, arith}
use Rattle.std.proofs.lemmas.Bool.{eqb-true}
use Rattle.std.proofs.lemmas.Bool.Decides.{nat_tests}
use Rattle.std.specs.FinMap.{get}
use Rattle.std.specs.Prelude.{if◌then◌else◌}
use Rattle.dds_base.specs.Name.{Name}
use Rattle.dds_base.specs.Number.{StampOf, Txn, same_txn}
use Rattle.dds_base.specs.Op.{is_get, the_key}
use Rattle.dds_base.specs.declared.leaf.Leaf.{Leaf}
use Rattle.dds_base.specs.declared.pending.Pending.{Pending}
use Rattle.dds_brick_rows.specs.Calls as calls
use Rattle.dds_brick_rows.specs.Refusal.{get_refusal, is_locked, joins_key, stale_against}
use Rattle.dds_cluster.specs.Lists.{is_applied, is_update_of}
use Rattle.dds_cluster.specs.declared.trace.Made.{Made}
use Rattle.dds_history.proofs.Bindings.{get-after}
use Rattle.dds_history.specs.Map.{after, bound_after}
use Rattle.dds_letters.specs.declared.refusal.Refusal.TheVariants as refusal
use Rattle.dds_law_own.proofs.Ways.{first-none, is-none, when-none}
use Rattle.dds_locks.proofs.Locked.{holder-push, holder-without}
use Rattle.dds_locks.specs.Pending.{IsApart, first_of, holder, is_numbered, without}
use Rattle.dds_states.specs.Leaf.{leaf_for}
use Rattle.dds_states.specs.Turn.{when}
use Rattle.dds_states.specs.declared.brick_state.BrickState.{BrickState}
use Rattle.dds_values.proofs.Befores.{before-all, bound-this}
use Rattle.dds_values.proofs.Tables.{before-first, before-other, before-read}
use Rattle.dds_values.specs.Values.{IsHeldAt, IsHeldBy, IsLeftBy, before, bound_in}
use Rattle.dds_world.specs.Values.{before_entry}

-- What one brick has, by what a row does there.

-- a transaction that is pending has its key locked
pub self-key : (k : ℕ) → (k == k) ≡ true
self-key k = grind (arith, nat_tests)

behind : (ps : List Pending) (x p : Pending) (b : Bool) → holder ps (the_key x.op) ≡ None → (the_key x.op == the_key p.op) ≡ b
    → holder ps (the_key p.op) ≡ Some p.txn → cond b (Some x.txn) (holder ps (the_key p.op)) ≡ Some p.txn
behind ps x p true free k h =
    let no : None ≡ Some p.txn = sym free ∙ ap (holder ps) (eqb-true (the_key x.op) (the_key p.op) k) ∙ h in cc
behind ps x p false free k h = h

pub found-holder : (ps : List Pending) (t : Txn) (p : Pending) → IsApart ps → first_of ps t ≡ Some p → holder ps (the_key p.op) ≡ Some p.txn
found-holder [] t p a e = cc
found-holder (x ∷ ps) t p a e = pick (same_txn x.txn t) e (found-holder ps t p a.1)
  where
    pick : (b : Bool) → cond b (Some x) (first_of ps t) ≡ Some p → (first_of ps t ≡ Some p → holder ps (the_key p.op) ≡ Some p.txn)
        → holder (x ∷ ps) (the_key p.op) ≡ Some p.txn
    pick true f g =
        let is : x ≡ p = cc in
        subst (λ (y : Pending). holder (x ∷ ps) (the_key y.op) ≡ Some y.txn) is
        (ap (λ b. if b then Some x.txn else holder ps (the_key x.op)) (self-key (the_key x.op)))
    pick false f g = behind ps x p (the_key x.op == the_key p.op) a.0 refl (g f)

-- a transaction that was pending is so no more: at its key the brick has what the points left, and at others what it had
pub ends-held : (made : List Made) (s u : BrickState) (txn : Txn) (p : Pending) → IsApart s.locks.pending → first_of s.locks.pending txn ≡ Some p
    → u.leaves ≡ s.leaves → u.locks.pending ≡ without s.locks.pending txn
    → ((key : ℕ) → the_key p.op ≡ key → is_some (leaf_for s.leaves key) ≡ true → get u.pairs key ≡ bound_in made key)
    → ((key : ℕ) → (the_key p.op == key) ≡ false → is_some (leaf_for s.leaves key) ≡ true
    → get u.pairs key ≡ bound_in (before made (holder s.locks.pending key)) key)
    → IsHeldBy made u
ends-held made s u txn p apart found leaves rest own others key serves =
    pick (the_key p.op == key) refl
    ∙ sym (ap (λ h. bound_in (before made h) key)
    (ap (λ ps. holder ps key) rest ∙ holder-without (is_numbered txn) s.locks.pending p key apart found))
  where
    pick : (b : Bool) → (the_key p.op == key) ≡ b → get u.pairs key ≡ bound_in (before made (cond b None (holder s.locks.pending key))) key
    pick true e = own key (eqb-true (the_key p.op) key e) (sym (ap (λ l. is_some (leaf_for l key)) leaves) ∙ serves)
    pick false e = others key e (sym (ap (λ l. is_some (leaf_for l key)) leaves) ∙ serves)

-- what a brick has at the key of a transaction that is pending there
pub pending-held : (made : List Made) (s : BrickState) (txn : Txn) (p : Pending) → IsApart s.locks.pending → first_of s.locks.pending txn ≡ Some p
    → (key : ℕ) → the_key p.op ≡ key → IsHeldAt made s key → get s.pairs key ≡ bound_in (before_entry made p.txn) key
pending-held made s txn p apart found key k held =
    held ∙ ap (λ h. bound_in (before made h) key) (ap (holder s.locks.pending) (sym k) ∙ found-holder s.locks.pending txn p apart found)

after-this : (s : BrickState) (p : Pending) (key : ℕ) → the_key p.op ≡ key
    → get (after s.pairs p.op) key ≡ bound_after (get s.pairs key) p.op
after-this s p key k =
    get-after s.pairs p.op key
    ∙ ap (λ b. if b then bound_after (get s.pairs key) p.op else get s.pairs key) (ap (λ x. x == key) k ∙ self-key key)

after-other : (s : BrickState) (p : Pending) (key : ℕ) → (the_key p.op == key) ≡ false
    → get (after s.pairs p.op) key ≡ get s.pairs key
after-other s p key e = get-after s.pairs p.op key ∙ ap (λ b. if b then bound_after (get s.pairs key) p.op else get s.pairs key) e

-- Commit and a resolver's commit, where the transaction wasn't applied before: the point is new
pub applied-first : (made : List Made) (s : BrickState) (txn : Txn) (p : Pending) (m : Made) → IsApart s.locks.pending
    → first_of s.locks.pending txn ≡ Some p → is_applied made p.txn ≡ false → m.entry.op ≡ p.op → IsHeldBy made s
    → IsHeldBy (made ++ m ∷ []) (calls.applied (calls.dropped s txn) p).state
applied-first made s txn p m apart found new same held =
    ends-held (made ++ m ∷ []) s (calls.applied (calls.dropped s txn) p).state txn p apart found refl refl
    (λ key k serves.
    after-this s p key k
    ∙ ap (λ v. bound_after v p.op)
    (pending-held made s txn p apart found key k (held key serves) ∙ ap (λ l. bound_in l key) (before-all made p.txn new))
    ∙ ap (bound_after (bound_in made key)) (sym same)
    ∙ sym (bound-this made m key (ap (λ o. the_key o == key) same ∙ ap (λ x. x == key) k ∙ self-key key)))
    (λ key e serves.
    after-other s p key e ∙ held key serves ∙ sym (before-other made m key (holder s.locks.pending key) (ap (λ o. the_key o == key) same ∙ e)))

-- and where it was: the points stay
pub applied-further : (made : List Made) (s : BrickState) (txn : Txn) (p : Pending) → IsApart s.locks.pending
    → first_of s.locks.pending txn ≡ Some p → is_applied made p.txn ≡ true → IsLeftBy made p → IsHeldBy made s
    → IsHeldBy made (calls.applied (calls.dropped s txn) p).state
applied-further made s txn p apart found there left held =
    ends-held made s (calls.applied (calls.dropped s txn) p).state txn p apart found refl refl
    (λ key k serves.
    after-this s p key k ∙ ap (λ v. bound_after v p.op) (pending-held made s txn p apart found key k (held key serves))
    ∙ subst (λ q. bound_after (bound_in (before_entry made p.txn) q) p.op ≡ bound_in made q) k (sym (left there)))
    (λ key e serves. after-other s p key e ∙ held key serves)

-- Abort, and a resolver's abort, of one that wasn't applied
pub aborted-held : (made : List Made) (s : BrickState) (txn : Txn) (p : Pending) → IsApart s.locks.pending
    → first_of s.locks.pending txn ≡ Some p → is_applied made p.txn ≡ false → IsHeldBy made s
    → IsHeldBy made (calls.aborted (calls.dropped s txn) (Some p))
aborted-held made s txn p apart found none held =
    ends-held made s (calls.aborted (calls.dropped s txn) (Some p)) txn p apart found refl refl
    (λ key k serves.
    pending-held made s txn p apart found key k (held key serves) ∙ ap (λ l. bound_in l key) (before-all made p.txn none))
    (λ key e serves. held key serves)

-- at another brick, where the transaction of a new point is pending wherever a leaf covers its key
pub first-elsewhere : (made : List Made) (v : BrickState) (m : Made) (t : Txn) → is_applied made t ≡ false → is_update_of t m ≡ true
    → ((key : ℕ) → the_key m.entry.op ≡ key → is_some (leaf_for v.leaves key) ≡ true → holder v.locks.pending key ≡ Some t)
    → IsHeldBy made v → IsHeldBy (made ++ m ∷ []) v
first-elsewhere made v m t new its waits held key serves = held key serves ∙ sym (pick (the_key m.entry.op == key) refl)
  where
    pick : (b : Bool) → (the_key m.entry.op == key) ≡ b
        → bound_in (before (made ++ m ∷ []) (holder v.locks.pending key)) key ≡ bound_in (before made (holder v.locks.pending key)) key
    pick true e =
        subst (λ h. bound_in (before (made ++ m ∷ []) h) key ≡ bound_in (before made h) key)
        (sym (waits key (eqb-true (the_key m.entry.op) key e) serves)) (before-first made m key t new its)
    pick false e = before-other made m key (holder v.locks.pending key) e

-- a read, at each brick
pub read-held : (made : List Made) (v : BrickState) (m : Made) → is_get m.entry.op ≡ true → IsHeldBy made v → IsHeldBy (made ++ m ∷ []) v
read-held made v m e held key serves = held key serves ∙ sym (before-read made m key (holder v.locks.pending key) e)

-- Prepare, of a free key and a transaction that wasn't applied
pub prepared-held : (made : List Made) (s u : BrickState) (p : Pending) → holder s.locks.pending (the_key p.op) ≡ None → is_applied made p.txn ≡ false
    → u.leaves ≡ s.leaves → u.pairs ≡ s.pairs → u.locks.pending ≡ s.locks.pending ++ p ∷ [] → IsHeldBy made s → IsHeldBy made u
prepared-held made s u p free new leaves pairs more held key serves =
    ap (λ m. get m key) pairs ∙ held key (sym (ap (λ l. is_some (leaf_for l key)) leaves) ∙ serves) ∙ sym (pick (the_key p.op == key) refl)
    ∙ sym (ap (λ h. bound_in (before made h) key) (ap (λ ps. holder ps key) more ∙ holder-push s.locks.pending p key free))
  where
    pick : (b : Bool) → (the_key p.op == key) ≡ b
        → bound_in (before made (cond b (Some p.txn) (holder s.locks.pending key))) key ≡ bound_in (before made (holder s.locks.pending key)) key
    pick true e =
        ap (λ l. bound_in l key) (before-all made p.txn new)
        ∙ sym (ap (λ h. bound_in (before made h) key) (ap (holder s.locks.pending) (sym (eqb-true (the_key p.op) key e)) ∙ free))
    pick false e = refl

-- a turn that changes neither leaves nor pairs nor what is pending
pub same-held : (made : List Made) (s u : BrickState) → u.leaves ≡ s.leaves → u.pairs ≡ s.pairs → u.locks.pending ≡ s.locks.pending
    → IsHeldBy made s → IsHeldBy made u
same-held made s u leaves pairs pending held key serves =
    ap (λ m. get m key) pairs ∙ held key (sym (ap (λ l. is_some (leaf_for l key)) leaves) ∙ serves)
    ∙ sym (ap (λ ps. bound_in (before made (holder ps key)) key) pending)

-- Get: where it isn't refused, a leaf covers the key, and nothing is pending on it; so what it reads is what the points left
not-stale : (l : Option Leaf) (name : Name) (stamp : StampOf) → stale_against l name stamp ≡ None → is_some l ≡ true
not-stale None name stamp e = cc
not-stale (Some leaf) name stamp e = refl

pub read-right : (made : List Made) (s : BrickState) (key : ℕ) (name : Name) (stamp : StampOf) → get_refusal s key name stamp ≡ None → IsHeldBy made s
    → get s.pairs key ≡ bound_in made key
read-right made s key name stamp none held =
    let q = first-none (when (joins_key s.order key) refusal.Lease) _ none in
    let r = first-none (stale_against (leaf_for s.leaves key) name stamp) (when (is_locked s key) refusal.Lock) q.1 in
    held key (not-stale (leaf_for s.leaves key) name stamp r.0)
    ∙ ap (λ h. bound_in (before made h) key) (is-none (holder s.locks.pending key) (when-none (is_locked s key) refusal.Lock r.1))
