use Rattle.std.proofs.Common.{◌≡◌, ℕ, Bool, true, false, List, [], ◌∷◌, refl}
use Rattle.std.specs.List.{AllByRecursion}
use Rattle.std.specs.Prelude.{if◌then◌else◌}
use Rattle.dds_base.specs.Number.{Txn}
use Rattle.dds_base.specs.declared.number.NodeNo.{NodeNo}
use Rattle.dds_base.specs.declared.pending.Pending.{Pending}
use Rattle.dds_brick_rows.specs.Calls as calls
use Rattle.dds_core.proofs.Lists.{all-append}
use Rattle.dds_letters.specs.declared.letter.Letter.{Letter}
use Rattle.dds_locks.specs.declared.leases.Lease.{Lease}
use Rattle.dds_net.specs.Net.{Sizes}
use Rattle.dds_states.specs.Turn.{BrickTurn, and_then, sends, still, to_each}
use Rattle.dds_states.specs.declared.brick_state.BrickState.{BrickState}
use Rattle.dds_states.specs.declared.brick_state.Resolving.{Resolving}
use Rattle.dds_trie.specs.Trie.{LeafMap}
use Rattle.dds_books.specs.Placed.{BrickOk, IsBetween, IsBrick, LeavesOk, PendingOk}
use Rattle.dds_books.specs.Placed.{ResolvingOk, Said}

-- A brick's turn that keeps the numbers in range, and states that differ in one part.

-- A turn of the brick of this number

abbrev pub AllSaid : (Txn → Type 0) → Sizes → ℕ → List (NodeNo × Letter) → Type 0
AllSaid T z at ls = AllByRecursion (λ (p : NodeNo × Letter). Said T z at p.0 p.1) ls

pub record Fine (T : Txn → Type 0) (z : Sizes) (at : ℕ) (t : BrickTurn) : Type 0 where
  pub after : BrickOk T z at t.state
  pub letters : AllSaid T z at t.out.letters

pub fine-still : {T : Txn → Type 0} {z : Sizes} {at : ℕ} (s : BrickState) → BrickOk T z at s → Fine T z at (still s)
fine-still s h = record { after = h; letters = tt }

pub fine-sends : {T : Txn → Type 0} {z : Sizes} {at : ℕ} (s : BrickState) (ls : List (NodeNo × Letter)) → BrickOk T z at s → AllSaid T z at ls
    → Fine T z at (sends s ls)
fine-sends s ls h k = record { after = h; letters = k }

pub fine-then : {T : Txn → Type 0} {z : Sizes} {at : ℕ} (t : BrickTurn) (row : BrickState → BrickTurn) → Fine T z at t
    → ((u : BrickState) → BrickOk T z at u → Fine T z at (row u)) → Fine T z at (and_then t row)
fine-then t row h f =
    let g = f t.state h.after in
    record { after = g.after; letters = all-append _ t.out.letters (row t.state).out.letters h.letters g.letters }

pub fine-if : {T : Txn → Type 0} {z : Sizes} {at : ℕ} (c : Bool) {t u : BrickTurn} → Fine T z at t → Fine T z at u → Fine T z at (if c then t else u)
fine-if true f g = f
fine-if false f g = g

pub fine-when : {T : Txn → Type 0} {z : Sizes} {at : ℕ} (c : Bool) (t u : BrickTurn) → (c ≡ true → Fine T z at t) → (c ≡ false → Fine T z at u)
    → Fine T z at (if c then t else u)
fine-when true t u f g = f refl
fine-when false t u f g = g refl

pub said-each : (T : Txn → Type 0) (z : Sizes) (at : ℕ) (nodes : List NodeNo) (l : Letter) (P : ℕ → Type 0) → AllByRecursion P nodes
    → ((n : NodeNo) → P n → Said T z at n l) → AllSaid T z at (to_each nodes l)
said-each T z at [] l P h f = tt
said-each T z at (n ∷ ns) l P h f = (f n h.0, said-each T z at ns l P h.1 f)

pub between : (z : Sizes) (a b : ℕ) → IsBrick z a → IsBrick z b → IsBetween z a b
between z a b here there = record { sender = here; receiver = there }

-- States that differ in one part

module _ {T : Txn → Type 0} {z : Sizes} {at : ℕ} where
  pub with-leaves : (s : BrickState) (m : LeafMap) → BrickOk T z at s → LeavesOk z m → BrickOk T z at (record s { leaves = m })
  with-leaves s m h k =
      record {
        its_number = h.its_number;
        inside = h.inside;
        its_leaves = k;
        its_locks = h.its_locks;
        its_deferred = h.its_deferred;
        its_resolving = h.its_resolving;
        its_order = h.its_order;
      }

  pub with-pending : (s : BrickState) (ps : List Pending) → BrickOk T z at s → AllByRecursion (PendingOk T z at) ps
      → BrickOk T z at (record s { locks = record s.locks { pending = ps } })
  with-pending s ps h k =
      record {
        its_number = h.its_number;
        inside = h.inside;
        its_leaves = h.its_leaves;
        its_locks = (k, h.its_locks.1);
        its_deferred = h.its_deferred;
        its_resolving = h.its_resolving;
        its_order = h.its_order;
      }

  pub with-leases : (s : BrickState) (ls : List Lease) → BrickOk T z at s → AllByRecursion (λ (l : Lease). IsBrick z l.holder) ls
      → BrickOk T z at (record s { locks = record s.locks { leases = ls } })
  with-leases s ls h k =
      record {
        its_number = h.its_number;
        inside = h.inside;
        its_leaves = h.its_leaves;
        its_locks = (h.its_locks.0, k);
        its_deferred = h.its_deferred;
        its_resolving = h.its_resolving;
        its_order = h.its_order;
      }

  -- outcomes say nothing of numbers
  pub with-noted : (s : BrickState) (txn : Txn) (commit : Bool) → BrickOk T z at s → BrickOk T z at (calls.noted s txn commit)
  with-noted s txn commit h =
      record {
        its_number = h.its_number;
        inside = h.inside;
        its_leaves = h.its_leaves;
        its_locks = (h.its_locks.0, h.its_locks.1);
        its_deferred = h.its_deferred;
        its_resolving = h.its_resolving;
        its_order = h.its_order;
      }

  pub with-trim : (s : BrickState) (library below : ℕ) → BrickOk T z at s → BrickOk T z at (calls.trim s library below)
  with-trim s library below h =
      record {
        its_number = h.its_number;
        inside = h.inside;
        its_leaves = h.its_leaves;
        its_locks = (h.its_locks.0, h.its_locks.1);
        its_deferred = h.its_deferred;
        its_resolving = h.its_resolving;
        its_order = h.its_order;
      }

  pub with-resolving : (s : BrickState) (rs : List Resolving) → BrickOk T z at s → AllByRecursion (ResolvingOk T z) rs
      → BrickOk T z at (record s { resolving = rs })
  with-resolving s rs h k =
      record {
        its_number = h.its_number;
        inside = h.inside;
        its_leaves = h.its_leaves;
        its_locks = h.its_locks;
        its_deferred = h.its_deferred;
        its_resolving = k;
        its_order = h.its_order;
      }
