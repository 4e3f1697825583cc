-- A read leaves a brick as it is; and a pending transaction whose library has stopped goes on.
use Rattle.std.proofs.Common.{◌≡◌, ℕ, ◌&&◌, Bool, true, not, List, Option, Some, None, Result, Ok, Err, IfOk, OnOk, refl, sym, subst}
use Rattle.std.specs.Prelude.{if◌then◌else◌}
use Rattle.dds_base.specs.NodeSet.{has_node}
use Rattle.dds_base.specs.Number.{Txn}
use Rattle.dds_base.specs.declared.memory.Memory.{Memory}
use Rattle.dds_base.specs.declared.number.NodeNo.{NodeNo}
use Rattle.dds_brick_rows.specs.Calls.{got}
use Rattle.dds_brick_rows.specs.Resolution.{is_resolved}
use Rattle.dds_core.specs.Notice.{helped_by, pending_goes}
use Rattle.dds_letters.specs.declared.refusal.Refusal.{Refusal}
use Rattle.dds_states.specs.Turn.{still, unknown}
use Rattle.dds_states.specs.declared.brick_state.BrickState.{BrickState}
use Rattle.dds_states.specs.declared.turn.CoreTurn.{CoreTurn}

got-stays : (s : BrickState) (from : NodeNo) (txn : Txn) (key : ℕ) (why : Option Refusal) → s ≡ (got s from txn key why).state
got-stays s from txn key None = refl
got-stays s from txn key (Some why) = refl

pub ok-stays : {X : Type 0} (r : Result X Memory) (s : BrickState) (from : NodeNo) (txn : Txn) (key : ℕ) (why : Option Refusal) →
    OnOk r (s ≡ (got s from txn key why).state)
ok-stays (Ok x) s from txn key why = got-stays s from txn key why
ok-stays (Err e) s from txn key why = tt

-- where it is stuck, and these are its members that aren't known to have stopped
pub goes-helped : (r : Result CoreTurn Memory) (s : BrickState) (node : NodeNo) (txn : Txn) (list live : List NodeNo) →
    (has_node s.known txn.library && not (is_resolved s txn)) ≡ true → live ≡ unknown list s.known →
    IfOk r (λ turn. turn ≡ (helped_by s node txn list live).out) → IfOk r (λ turn. turn ≡ (pending_goes s node txn list).out)
goes-helped r s node txn list live stuck is h =
    subst (λ (b : Bool). IfOk r (λ turn. turn ≡ (if b then helped_by s node txn list (unknown list s.known) else still s).out)) (sym stuck)
    (subst (λ (nodes : List NodeNo). IfOk r (λ turn. turn ≡ (helped_by s node txn list nodes).out)) is h)
