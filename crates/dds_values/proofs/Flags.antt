use Rattle.std.proofs.Common.{◌≡◌, ℕ, true, false, Some, List, [], ◌∷◌, ◌++◌, refl, sym, ap, ◌∙◌, subst}
use Rattle.std.specs.FinMap.{empty, get}
use Rattle.std.specs.List.{find}
use Rattle.dds_base.specs.Op.{is_get, the_key}
use Rattle.dds_base.specs.declared.pending.Pending.{Pending}
use Rattle.dds_brick_rows.specs.Calls as calls
use Rattle.dds_cluster.specs.Lists.{is_applied, is_update_of}
use Rattle.dds_cluster.specs.Turn.{update_by}
use Rattle.dds_cluster.specs.declared.trace.Made.{Made}
use Rattle.dds_history.proofs.Histories.{legal_from-at}
use Rattle.dds_history.specs.History.{IsLegal}
use Rattle.dds_history.specs.Map.{found, flag_of, reply_to, reply_with}
use Rattle.dds_states.specs.declared.brick_state.BrickState.{BrickState}
use Rattle.dds_values.proofs.Befores.{first-splits, first-there, first-this}
use Rattle.dds_values.proofs.Histories.{entries-append, legal-point}
use Rattle.dds_values.proofs.Tables.{reply-flag}
use Rattle.dds_values.specs.Values.{HasFlag, bound_in, table}
use Rattle.dds_world.specs.Values.{before_entry, entries_of_points}

-- The flags of updates, and what keeps the points legal.

-- a brick that has what the points left gives the update the reply that the table gives
pub first-legal : (made : List Made) (s : BrickState) (p : Pending) (place : ℕ) → is_get p.op ≡ false
    → get s.pairs (the_key p.op) ≡ bound_in made (the_key p.op) → IsLegal (entries_of_points made)
    → IsLegal (entries_of_points (made ++ update_by place (calls.flag_at s p) p ∷ []))
first-legal made s p place update held legal =
    legal-point made (update_by place (calls.flag_at s p) p) legal
    (ap (λ v. reply_with p.op (flag_of v p.op)) held ∙ sym (reply-flag (table made) p.op update))

-- and a get's read
pub read-legal : (made : List Made) (m : Made) (s : BrickState) (key : ℕ) → get s.pairs key ≡ bound_in made key
    → m.entry.reply ≡ found (get s.pairs key) → reply_to (table made) m.entry.op ≡ found (get (table made) key) → IsLegal (entries_of_points made)
    → IsLegal (entries_of_points (made ++ m ∷ []))
read-legal made m s key held reply is legal = legal-point made m legal (reply ∙ ap found held ∙ sym is)

-- the first point's flag
pub first-flag : (made : List Made) (s : BrickState) (p : Pending) (place : ℕ) → is_applied made p.txn ≡ false
    → is_update_of p.txn (update_by place (calls.flag_at s p) p) ≡ true
    → HasFlag (made ++ update_by place (calls.flag_at s p) p ∷ []) p.txn (calls.flag_at s p)
first-flag made s p place new its =
    let m = update_by place (calls.flag_at s p) p in
    record { point = m; first = first-this made m p.txn new its; reply = refl }

-- a further brick's flag is the first one's
pub further-flag : (made : List Made) (s : BrickState) (p : Pending) → IsLegal (entries_of_points made) → is_applied made p.txn ≡ true
    → is_get p.op ≡ false → get s.pairs (the_key p.op) ≡ bound_in (before_entry made p.txn) (the_key p.op)
    → ((m : Made) → find (is_update_of p.txn) made ≡ Some m → m.entry.op ≡ p.op) → HasFlag made p.txn (calls.flag_at s p)
further-flag made s p legal there update held same =
    let f = first-there made p.txn there in
    let split = first-splits made p.txn f.0 f.1 in
    let early = before_entry made p.txn in
    let o = same f.0 f.1 in
    let right : f.0.entry.reply ≡ reply_to (table early) f.0.entry.op =
    legal_from-at empty (entries_of_points early) f.0.entry (entries_of_points split.rest)
    (subst IsLegal (ap entries_of_points split.is ∙ entries-append early (f.0 ∷ split.rest)) legal) in
    record {
      point = f.0;
      first = f.1;
      reply = right ∙ reply-flag (table early) f.0.entry.op (ap is_get o ∙ update)
          ∙ ap (reply_with f.0.entry.op) (ap (λ x. flag_of (get (table early) (the_key x)) x) o ∙ ap (λ v. flag_of v p.op) (sym held));
    }
