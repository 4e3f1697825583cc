use Rattle.std.proofs.Common.{◌≡◌, ℕ, false, Option, Some, None, List, [], ◌∷◌, ◌++◌, refl, sym, ap, subst}
use Rattle.std.proofs.lemmas.List.{append-nil}
use Rattle.dds_base.specs.Name.{Name}
use Rattle.dds_base.specs.Number.{StampOf, Txn}
use Rattle.dds_base.specs.Op.{is_get, the_key}
use Rattle.dds_base.specs.declared.number.CallNo.{CallNo}
use Rattle.dds_base.specs.declared.number.CallerNo.{CallerNo}
use Rattle.dds_base.specs.declared.number.NodeNo.{NodeNo}
use Rattle.dds_base.specs.declared.op.Op.TheVariants as op
use Rattle.dds_base.specs.declared.pending.Pending.{Pending}
use Rattle.dds_brick_rows.specs.Calls as calls
use Rattle.dds_brick_rows.specs.Refusal.{as_denial, get_refusal, has_no_room, is_locked, joins_key, stale_against, update_denial, update_refusal}
use Rattle.dds_cluster.specs.Lists.{is_applied}
use Rattle.dds_cluster.specs.Trace.{all_kept}
use Rattle.dds_cluster.specs.Turn.{points_made}
use Rattle.dds_cluster.specs.declared.trace.Made.{Made}
use Rattle.dds_core.proofs.Lists.{all-map}
use Rattle.dds_history.specs.History.{IsLegal}
use Rattle.dds_history.specs.Map.{found}
use Rattle.dds_law_own.proofs.Ways.{first-none, is-none, when-none}
use Rattle.dds_letters.specs.declared.letter.Letter.TheVariants as letter
use Rattle.dds_letters.specs.declared.refusal.Denial.{Denial}
use Rattle.dds_letters.specs.declared.refusal.Denial.TheVariants as denial
use Rattle.dds_letters.specs.declared.refusal.Refusal.{Refusal}
use Rattle.dds_letters.specs.declared.refusal.Refusal.TheVariants as refusal
use Rattle.dds_locks.specs.Leases.{lease_covers}
use Rattle.dds_locks.specs.Pending.{holder}
use Rattle.dds_states.specs.Leaf.{leaf_for}
use Rattle.dds_states.specs.Turn.{when}
use Rattle.dds_states.specs.declared.brick_state.BrickState.{BrickState}
use Rattle.dds_values.proofs.Bricks.{read-held, read-right}
use Rattle.dds_values.proofs.Flags.{read-legal}
use Rattle.dds_values.proofs.Rows.{prepared-at-own, same-at-own}
use Rattle.dds_values.proofs.Tables.{left-read}
use Rattle.dds_values.specs.Values.{HoldsTable, IsLeftBy}
use Rattle.dds_world.specs.Values.{entries_of_points}
use Rattle.std.specs.FinMap.{get}

-- Get and Prepare at their brick.

-- Prepare: an update that is kept finds its key free
no-refusal : (r : Option Refusal) → as_denial r ≡ None → r ≡ None
no-refusal None e = refl
no-refusal (Some why) e = cc

free-key : (s : BrickState) (p : Pending) (name : Name) (stamp : StampOf) → update_denial s p.op name stamp ≡ None
    → holder s.locks.pending (the_key p.op) ≡ None
free-key s p name stamp e =
    let key = the_key p.op in
    let a = first-none (as_denial (update_refusal s key name stamp)) (when (has_no_room s p.op) denial.Full) e in
    let b = first-none (when (joins_key s.order key) refusal.Lease) _ (no-refusal (update_refusal s key name stamp) a.0) in
    let c = first-none (stale_against (leaf_for s.leaves key) name stamp) _ b.1 in
    let d = first-none (when (lease_covers s.locks.leases key) refusal.Lease) (when (is_locked s key) refusal.Lock) c.1 in
    is-none (holder s.locks.pending key) (when-none (is_locked s key) refusal.Lock d.1)

voted-holds : (made : List Made) (s : BrickState) (from : NodeNo) (p : Pending) (d : Option Denial)
    → (d ≡ None → holder s.locks.pending (the_key p.op) ≡ None) → is_applied made p.txn ≡ false → HoldsTable made s
    → HoldsTable (made ++ []) (calls.voted s from p d).state
voted-holds made s from p None free new h =
    let u = (calls.voted s from p None).state in
    subst (λ l. HoldsTable l u) (sym (append-nil made)) (prepared-at-own made s u p (free refl) new refl refl refl h)
voted-holds made s from p (Some d) free new h = subst (λ l. HoldsTable l s) (sym (append-nil made)) h

pub prepare-holds : (made : List Made) (s : BrickState) (from : NodeNo) (p : Pending) (below : ℕ) (name : Name) (stamp : StampOf)
    → is_applied made p.txn ≡ false → HoldsTable made s → HoldsTable (made ++ []) (calls.prepare_row s from p below name stamp).state
prepare-holds made s from p below name stamp new h =
    let t = calls.trim s p.txn.library below in
    voted-holds made t from p (update_denial t p.op name stamp) (free-key t p name stamp) new (same-at-own made s t refl refl refl h)

-- Get: each brick has with the read what it had, and the points stay legal
pub read-holds : (made : List Made) (m : Made) (key : ℕ) (s : BrickState) → m.entry.op ≡ op.Get key → HoldsTable made s
    → HoldsTable (made ++ m ∷ []) s
read-holds made m key s e h =
    let reads = ap is_get e in
    record {
      held = read-held made s m reads h.held;
      after = all-map (IsLeftBy made) (IsLeftBy (made ++ m ∷ [])) s.locks.pending (λ p k. left-read made m p reads k) h.after;
    }

pub got-legal : (made : List Made) (s : BrickState) (from : NodeNo) (txn : Txn) (caller : CallerNo) (call : CallNo) (key : ℕ) (name : Name) (stamp : StampOf)
    (place : ℕ) (o : Option Refusal) → get_refusal s key name stamp ≡ o → HoldsTable made s → IsLegal (entries_of_points made)
    → IsLegal (entries_of_points (made ++ all_kept made
    (points_made place (letter.Get txn caller call key name stamp) (calls.got s from txn key o).out.points)))
got-legal made s from txn caller call key name stamp place None e h legal =
    read-legal made
    (record { place = place; txn = txn; entry = record { caller = caller; call = call; op = op.Get key; reply = found (get s.pairs key) } })
    s key (read-right made s key name stamp e h.held) refl refl legal
got-legal made s from txn caller call key name stamp place (Some why) e h legal =
    subst (λ l. IsLegal (entries_of_points l)) (sym (append-nil made)) legal
