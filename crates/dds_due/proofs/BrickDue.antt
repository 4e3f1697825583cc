use Rattle.std.proofs.Common.{◌≡◌, ℕ, inl, inr, true, false, Option, Some, None, List, ◌∷◌, ◌++◌, refl}
use Rattle.dds_base.specs.Number.{Txn}
use Rattle.dds_base.specs.declared.number.NodeNo.{NodeNo}
use Rattle.dds_base.specs.declared.pending.Pending.{Pending}
use Rattle.dds_brick_rows.specs.Calls as calls
use Rattle.dds_brick_rows.specs.Refusal.{get_refusal, update_denial}
use Rattle.dds_core.specs.Brick.{live_brick_turn}
use Rattle.dds_letters.specs.declared.letter.Letter.{Letter}
use Rattle.dds_letters.specs.declared.letter.Letter.TheVariants as letter
use Rattle.dds_letters.specs.declared.refusal.Denial.{Denial}
use Rattle.dds_letters.specs.declared.refusal.Refusal.{Refusal}
use Rattle.dds_net.specs.Net.{Sizes, gains, is_in}
use Rattle.dds_states.specs.declared.brick_state.BrickState.{BrickState}
use Rattle.dds_states.specs.declared.library_state.OpenCall.{OpenCall}
use Rattle.dds_states.specs.declared.library_state.Phase.{Phase}
use Rattle.dds_states.specs.declared.library_state.Phase.TheVariants.{Getting, Preparing, Committing, Aborting, Asking}
use Rattle.dds_talk.specs.Seen.{commits_now}
use Rattle.dds_due.proofs.CallSends.{DueTo}
use Rattle.dds_due.proofs.Sent.{Sends, due-back, due-by-asked, due-by-told, due-parts, gains-has, or-parts, there-end}
use Rattle.dds_due.specs.Due.{asked_in, got_told, is_of, is_there, told_in, vote_told}

-- A brick answers what it is asked: a Get, a Prepare, an Abort and a MapAsk in each case.

got-sends : (s : BrickState) (from : NodeNo) (txn t : Txn) (key : ℕ) (o : Option Refusal) → is_of t (Some txn) ≡ true
    → Sends got_told t from (calls.got s from txn key o).out.letters
got-sends s from txn t key None e = inl (record { to = refl; of = e })
got-sends s from txn t key (Some why) e = inl (record { to = refl; of = e })

vote-sends : (s : BrickState) (from : NodeNo) (p : Pending) (t : Txn) (o : Option Denial) → is_of t (Some p.txn) ≡ true
    → Sends vote_told t from (calls.voted s from p o).out.letters
vote-sends s from p t None e = inl (record { to = refl; of = e })
vote-sends s from p t (Some why) e = inl (record { to = refl; of = e })

pub answers : (s : BrickState) (from : NodeNo) (p : Phase) (l : Letter) (t : Txn) → commits_now p ≡ false → is_of t (asked_in p l) ≡ true
    → Sends (told_in p) t from (live_brick_turn s from l).out.letters
answers s from (Getting leaf brick) (letter.Get txn caller call key name stamp) t going e = got-sends s from txn t key (get_refusal s key name stamp) e
answers s from (Preparing leaf members waiting) (letter.Prepare txn caller call below name stamp list op) t going e =
    let p : Pending = record { txn = txn; caller = caller; call = call; op = op; list = list } in
    vote-sends (calls.trim s txn.library below) from p t (update_denial s op name stamp) e
answers s from (Aborting waiting why brick) (letter.Abort txn) t going e = inl (record { to = refl; of = e })
answers s from (Asking waiting newest met) (letter.MapAsk txn caller call key) t going e = inl (record { to = refl; of = e })
answers s from (Committing leaf list waiting was) l t going e = cc
answers s from p other t going e = cc

-- the brick takes the first letter on its way to it
pub brick-took : (z : Sizes) (m : ℕ) (out back : List Letter) (s : BrickState) (from : NodeNo) (l : Letter) (c : OpenCall) → is_in z from ≡ true
    → DueTo m c (l ∷ out) back → DueTo m c out (back ++ gains z (live_brick_turn s from l).out.letters from)
brick-took z m out back s from l c inside h waits going =
    let new = gains z (live_brick_turn s from l).out.letters from in
    elim (due-parts c (l ∷ out) back (h waits going)) [
      | inl asked ↦ elim (or-parts (is_of c.txn (asked_in c.phase l)) (is_there (asked_in c.phase) c.txn out) asked) [
        | inl first ↦
            due-by-told c out (back ++ new)
            (there-end (told_in c.phase) c.txn back new
            (gains-has z (told_in c.phase) c.txn from (live_brick_turn s from l).out.letters inside (answers s from c.phase l c.txn going first)))
        | inr rest ↦ due-by-asked c out (back ++ new) rest
      ]
      | inr told ↦ due-back c out back new (due-by-told c out back told)
    ]
