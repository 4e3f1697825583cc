use Rattle.std.proofs.Common.{◌≡◌, ℕ, ◌==◌, Bool, true, false, not, cond, Option, Some, None, is_some, List, [], ◌∷◌, ◌++◌, refl, sym, ap, ◌∙◌, subst}
use Rattle.std.proofs.lemmas.Bool.{and_parts, eqb-true}
use Rattle.std.specs.List.{AllByRecursion}
use Rattle.dds_base.specs.Number.{Txn, same_txn}
use Rattle.dds_base.specs.Op.{is_get, the_key}
use Rattle.dds_base.specs.declared.pending.Pending.{Pending}
use Rattle.dds_cluster.specs.Lists.{is_applied, is_update_of}
use Rattle.dds_cluster.specs.declared.trace.Made.{Made}
use Rattle.dds_core.proofs.Lists.{all-both, all-map}
use Rattle.dds_locks.proofs.Locked.{found-numbered}
use Rattle.dds_locks.specs.Pending.{IsApart, first_of, holder}
use Rattle.dds_states.specs.Leaf.{leaf_for}
use Rattle.dds_states.specs.declared.brick_state.BrickState.{BrickState}
use Rattle.dds_talk.proofs.Parts.{is-same}
use Rattle.dds_talk.specs.Parts.{SureAt}
use Rattle.dds_talk.specs.Seen.{at, at_of}
use Rattle.dds_values.proofs.Bricks.{first-elsewhere, found-holder, self-key}
use Rattle.dds_values.proofs.Tables.{left-first}
use Rattle.dds_values.specs.Below.{IsCovered}
use Rattle.dds_values.specs.Values.{HoldsTable, IsLeftBy}

-- A transaction that is applied for the first time is pending at each live brick that has a leaf for its key.

-- what is so of each pending one is so of one that is found
pub found-all : (P : Pending → Type 0) (ps : List Pending) (t : Txn) (p : Pending) → AllByRecursion P ps → first_of ps t ≡ Some p → P p
found-all P [] t p h e = cc
found-all P (x ∷ ps) t p h e = pick (same_txn x.txn t) e (found-all P ps t p h.1)
  where
    pick : (b : Bool) → cond b (Some x) (first_of ps t) ≡ Some p → (first_of ps t ≡ Some p → P p) → P p
    pick true f g = let is : x ≡ p = cc in subst P is h.0
    pick false f g = g f

pub some-is : {X : Type 0} (o : Option X) → is_some o ≡ true → (x : X) × (o ≡ Some x)
some-is None e = cc
some-is (Some x) e = (x, refl)

-- a member for which it is sure, and which hasn't noted the commit, has it pending
sure-found : (found : Option Pending) (noted : Option Bool) → (noted ≡ Some true → ⊥) → SureAt (at_of (is_some found) noted)
    → (q : Pending) × (found ≡ Some q)
sure-found (Some q) noted free h = (q, refl)
sure-found None None free h = absurd h
sure-found None (Some true) free h = absurd (free refl)
sure-found None (Some false) free h = absurd h

-- and has its key locked by it
abbrev pub HasOp : Txn → Pending → Pending → Type 0
HasOp t p q = q.txn ≡ t → q.op ≡ p.op

pub sure-holder : (v : BrickState) (t : Txn) (p : Pending) (noted : Option Bool) → IsApart v.locks.pending → AllByRecursion (HasOp t p) v.locks.pending
    → (noted ≡ Some true → ⊥) → SureAt (at v.locks.pending noted t) → holder v.locks.pending (the_key p.op) ≡ Some t
sure-holder v t p noted apart ops free sure =
    let f = sure-found (first_of v.locks.pending t) noted free sure in
    let its : f.0.txn ≡ t = is-same f.0.txn t (found-numbered v.locks.pending f.0 t f.1) in
    let o : f.0.op ≡ p.op = found-all (HasOp t p) v.locks.pending t f.0 ops f.1 its in
    ap (λ x. holder v.locks.pending (the_key x)) (sym o) ∙ found-holder v.locks.pending t f.0 apart f.1 ∙ ap Some its

-- each pending one has its key locked
other-head : (x : Pending) (qs : List Pending) (k : ℕ) (b : Bool) → holder qs (the_key x.op) ≡ None → (the_key x.op == k) ≡ b
    → is_some (holder qs k) ≡ true → b ≡ false
other-head x qs k true free f e =
    let no : false ≡ true = ap is_some (sym free) ∙ ap (λ y. is_some (holder qs y)) (eqb-true (the_key x.op) k f) ∙ e in cc
other-head x qs k false free f e = refl

behind-is : (x : Pending) (qs : List Pending) (k : ℕ) → holder qs (the_key x.op) ≡ None → is_some (holder qs k) ≡ true
    → holder (x ∷ qs) k ≡ holder qs k
behind-is x qs k free e = ap (λ b. cond b (Some x.txn) (holder qs k)) (other-head x qs k (the_key x.op == k) free refl e)

all-holders : (ps qs : List Pending) → IsApart qs → ((k : ℕ) → is_some (holder qs k) ≡ true → holder ps k ≡ holder qs k)
    → AllByRecursion (λ q. holder ps (the_key q.op) ≡ Some q.txn) qs
all-holders ps [] a h = tt
all-holders ps (x ∷ qs) a h = (
  h (the_key x.op) (ap (λ b. is_some (cond b (Some x.txn) (holder qs (the_key x.op)))) (self-key (the_key x.op)))
      ∙ ap (λ b. cond b (Some x.txn) (holder qs (the_key x.op))) (self-key (the_key x.op)),
  all-holders ps qs a.1 (λ k e. h k (ap is_some (behind-is x qs k a.0 e) ∙ e) ∙ behind-is x qs k a.0 e),
)

-- what a brick holds when a transaction is applied for the first time: `reaches` says that it waits there wherever a leaf covers its key,
-- `meets` that what is pending on its key is that transaction
abbrev pub SameTxn : Made → Pending → Type 0
SameTxn m q = the_key m.entry.op ≡ the_key q.op → m.txn ≡ q.txn

pub record IsFirst (made : List Made) (m : Made) (v : BrickState) : Type 0 where
  pub new : is_applied made m.txn ≡ false
  pub update : is_update_of m.txn m ≡ true
  pub meets : AllByRecursion (SameTxn m) v.locks.pending
  pub ops : AllByRecursion (λ q. q.txn ≡ m.txn → q.op ≡ m.entry.op) v.locks.pending
  pub reaches : is_some (leaf_for v.leaves (the_key m.entry.op)) ≡ true → holder v.locks.pending (the_key m.entry.op) ≡ Some m.txn

-- where the key is held by the transaction, what is pending on it is that one
held-meets : (v : BrickState) (m : Made) (q : Pending) → holder v.locks.pending (the_key q.op) ≡ Some q.txn
    → (the_key m.entry.op ≡ the_key q.op → holder v.locks.pending (the_key m.entry.op) ≡ Some m.txn) → SameTxn m q
held-meets v m q held at k =
    let s : Some m.txn ≡ Some q.txn = sym (at k) ∙ ap (holder v.locks.pending) k ∙ held in cc

-- at its own brick, and at another one
pub own-meets : (v : BrickState) (m : Made) → IsApart v.locks.pending → holder v.locks.pending (the_key m.entry.op) ≡ Some m.txn
    → AllByRecursion (SameTxn m) v.locks.pending
own-meets v m apart at =
    all-map (λ q. holder v.locks.pending (the_key q.op) ≡ Some q.txn) (SameTxn m) v.locks.pending (λ q held. held-meets v m q held (λ k. at))
    (all-holders v.locks.pending v.locks.pending apart (λ k e. refl))

pub other-meets : (v : BrickState) (m : Made) → IsApart v.locks.pending → AllByRecursion (IsCovered v) v.locks.pending
    → (is_some (leaf_for v.leaves (the_key m.entry.op)) ≡ true → holder v.locks.pending (the_key m.entry.op) ≡ Some m.txn)
    → AllByRecursion (SameTxn m) v.locks.pending
other-meets v m apart covered reaches =
    all-map (λ q. (holder v.locks.pending (the_key q.op) ≡ Some q.txn) × IsCovered v q) (SameTxn m) v.locks.pending
    (λ q h. held-meets v m q h.0 (λ k. reaches (ap (λ x. is_some (leaf_for v.leaves x)) k ∙ h.1)))
    (all-both (λ q. holder v.locks.pending (the_key q.op) ≡ Some q.txn) (IsCovered v) v.locks.pending
    (all-holders v.locks.pending v.locks.pending apart (λ k e. refl)) covered)

update-is : (t : Txn) (m : Made) → is_update_of t m ≡ true → m.txn ≡ t
update-is t m e = is-same m.txn t (and_parts (same_txn m.txn t) (not (is_get m.entry.op)) e).0

one-left : (made : List Made) (m : Made) (v : BrickState) (q : Pending) → IsFirst made m v → SameTxn m q → (q.txn ≡ m.txn → q.op ≡ m.entry.op)
    → IsLeftBy made q → IsLeftBy (made ++ m ∷ []) q
one-left made m v q f meets same left =
    left-first made m q f.new (λ e. sym (update-is q.txn m e))
    (record {
      same_key = λ e. subst (λ t. is_update_of t m ≡ true) (meets (eqb-true (the_key m.entry.op) (the_key q.op) e)) f.update;
      same_op = λ e. same (sym (update-is q.txn m e));
    }) left

all-left : (made : List Made) (m : Made) (v : BrickState) (qs : List Pending) → IsFirst made m v → AllByRecursion (SameTxn m) qs
    → AllByRecursion (λ q. q.txn ≡ m.txn → q.op ≡ m.entry.op) qs → AllByRecursion (IsLeftBy made) qs → AllByRecursion (IsLeftBy (made ++ m ∷ [])) qs
all-left made m v [] f b c d = tt
all-left made m v (q ∷ qs) f b c d = (one-left made m v q f b.0 c.0 d.0, all-left made m v qs f b.1 c.1 d.1)

pub first-at-other : (made : List Made) (m : Made) (v : BrickState) → IsFirst made m v → HoldsTable made v → HoldsTable (made ++ m ∷ []) v
first-at-other made m v f h =
    record {
      held = first-elsewhere made v m m.txn f.new f.update
          (λ key k serves. ap (holder v.locks.pending) (sym k) ∙ f.reaches (ap (λ q. is_some (leaf_for v.leaves q)) k ∙ serves)) h.held;
      after = all-left made m v v.locks.pending f f.meets f.ops h.after;
    }
