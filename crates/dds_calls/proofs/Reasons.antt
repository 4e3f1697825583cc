use Rattle.std.proofs.Common.{◌≡◌, Bool, true, Some, None, List, refl, subst}
use Rattle.dds_base.specs.declared.leaf.Leaf.{Leaf}
use Rattle.dds_base.specs.declared.number.NodeNo.{NodeNo}
use Rattle.dds_base.specs.declared.op.Met.{Met}
use Rattle.dds_base.specs.declared.op.Op.{Op}
use Rattle.dds_base.specs.declared.op.Op.TheVariants as op
use Rattle.dds_base.specs.declared.op.Reply.{Reply}
use Rattle.dds_base.specs.declared.op.Reply.TheVariants as reply
use Rattle.dds_call_rows.specs.Library.{CallTurn}
use Rattle.dds_core.proofs.CallDoes.{Begins, CallDoes, Meets, alone, done, full, gives_up, loses, reads, reads_none, tries}
use Rattle.dds_history.specs.Map.{reply_with}
use Rattle.dds_letters.specs.declared.letter.Letter.{Letter}
use Rattle.dds_letters.specs.declared.letter.Letter.TheVariants as letter
use Rattle.dds_letters.specs.declared.refusal.Denial.TheVariants as denial
use Rattle.dds_states.specs.Turn.{is_none_left, without}
use Rattle.dds_states.specs.declared.library_state.Desk.{Desk}
use Rattle.dds_states.specs.declared.library_state.OpenCall.{OpenCall}
use Rattle.dds_states.specs.declared.library_state.Phase.TheVariants as phase
use Rattle.dds_states.specs.declared.library_state.Request.{Request}
use Rattle.dds_world.specs.Stands.{is_result}

-- Why a call's turn answers it.

pub data Reason (c : OpenCall) (from : NodeNo) (l : Letter) (r : Reply) : Type 0 where
  result : is_result r ≡ true → Reason c from l r
  was_full : (waiting : List NodeNo) (brick : NodeNo) → c.phase ≡ phase.Aborting waiting denial.Full brick → reply.Full brick ≡ r → Reason c from l r
  met : (m : Met) → Meets c from l m → reply.Again m ≡ r → Reason c from l r
  lost : (leaf : Leaf) (list waiting : List NodeNo) → c.phase ≡ phase.Committing leaf list waiting None → l ≡ letter.Notice
      → is_none_left (without waiting from) ≡ true → reply.Lost leaf.name ≡ r → Reason c from l r

is-done : (o : Op) (flag : Bool) → is_result (reply_with o flag) ≡ true
is-done (op.Get key) flag = refl
is-done (op.Put key value) flag = refl
is-done (op.Remove key) flag = refl
is-done (op.Swap key expected value) flag = refl

same-reply : (a r : Reply) → Some a ≡ Some r → a ≡ r
same-reply a r e = cc

-- a call that begins is answered only Again
pub begins-again : {M : Met → Type 0} (d : Desk) (q : Request) (t : CallTurn) (r : Reply) → Begins M d q t → t.went.reply ≡ Some r
    → (m : Met) × M m × (reply.Again m ≡ r)
begins-again d q _ r (alone m e h) is = (m, h, same-reply (reply.Again m) r is)
begins-again d q _ r (gives_up m h) is = (m, h, same-reply (reply.Again m) r is)
begins-again d q _ r other is = cc

pub reason : (d : Desk) (c : OpenCall) (from : NodeNo) (l : Letter) (t : CallTurn) (r : Reply) → CallDoes d c from l t → t.went.reply ≡ Some r
    → Reason c from l r
reason d c from l _ r (reads leaf brick txn value e f) is = result (subst (λ x. is_result x ≡ true) (same-reply (reply.Value value) r is) refl)
reason d c from l _ r (reads_none leaf brick txn e f) is = result (subst (λ x. is_result x ≡ true) (same-reply reply.Absent r is) refl)
reason d c from l _ r (full waiting brick e) is = was_full waiting brick e (same-reply (reply.Full brick) r is)
reason d c from l _ r (tries map retries pushed ls t p b) is =
    let k = begins-again (record d { map = map }) (record c.request { retries = retries; pushed = pushed }) t r b is in
    met k.0 k.1 k.2
reason d c from l _ r (done leaf list waiting was flag e f) is =
    result (subst (λ x. is_result x ≡ true) (same-reply (reply_with c.request.op flag) r is) (is-done c.request.op flag))
reason d c from l _ r (loses leaf list waiting e f g) is = lost leaf list waiting e f g (same-reply (reply.Lost leaf.name) r is)
reason d c from l _ r other is = cc
