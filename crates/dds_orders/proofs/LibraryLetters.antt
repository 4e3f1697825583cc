use Rattle.std.proofs.Common.{List, [], ◌∷◌, refl}
use Rattle.dds_base.specs.declared.number.CallNo.{CallNo}
use Rattle.dds_base.specs.declared.number.CallerNo.{CallerNo}
use Rattle.dds_base.specs.declared.number.NodeNo.{NodeNo}
use Rattle.dds_base.specs.declared.op.Met.{Met}
use Rattle.dds_base.specs.declared.op.Op.{Op}
use Rattle.dds_call_rows.specs.Library.{CallTurn, begin}
use Rattle.dds_core.proofs.CallDoes.{ArePushes, Begins, CallDoes, aborts, call-does, commits, gets, looks, new-begins, prepares, tries}
use Rattle.dds_core.proofs.CallTurns.{library-keeps}
use Rattle.dds_core.proofs.Lists.{all-append}
use Rattle.dds_core.specs.LibraryTurn.{desk_of, live_library_turn, new_request}
use Rattle.dds_letters.specs.declared.letter.Letter.{Letter}
use Rattle.dds_letters.specs.declared.letter.Letter.TheVariants as letter
use Rattle.dds_net.specs.Event.{asked_turn}
use Rattle.dds_states.specs.declared.library_state.Desk.{Desk}
use Rattle.dds_states.specs.declared.library_state.LibraryState.{LibraryState}
use Rattle.dds_states.specs.declared.library_state.OpenCall.{OpenCall}
use Rattle.dds_states.specs.declared.library_state.Request.{Request}
use Rattle.dds_orders.proofs.Deeds.{AreOthers, others-each}

-- A library sends no letter of an order.

begins-others : {M : Met → Type 0} {d : Desk} {r : Request} (t : CallTurn) → Begins M d r t → AreOthers t.went.letters
begins-others t (gets leaf m ms key e f g) = (refl, tt)
begins-others t (prepares leaf m ms e f g) = others-each (m ∷ ms) _ refl
begins-others t (looks m n ns e h) = others-each (n ∷ ns) _ refl
begins-others t other = tt

pushes-others : (ls : List (NodeNo × Letter)) → ArePushes ls → AreOthers ls
pushes-others [] h = tt
pushes-others ((to, letter.Push leaf) ∷ ls) h = (refl, pushes-others ls h)
pushes-others (other ∷ ls) h = absurd h

call-others : {d : Desk} {c : OpenCall} {from : NodeNo} {l : Letter} (t : CallTurn) → CallDoes d c from l t → AreOthers t.went.letters
call-others t (tries map retries pushed ls u h b) = all-append _ ls u.went.letters (pushes-others ls h) (begins-others u b)
call-others t (commits leaf list waiting e h f) = others-each _ _ refl
call-others t (aborts leaf list waiting txn why e h f) = others-each _ _ refl
call-others t other = tt

pub library-others : (s : LibraryState) (from : NodeNo) (l : Letter) → AreOthers (live_library_turn s from l).out.letters
library-others s from l =
    library-keeps (λ u out. AreOthers out.letters) s from l
    (λ u out place c e w h. all-append _ out.letters _ h (call-others _ (call-does _ c from l))) tt

pub asked-others : (s : LibraryState) (caller : CallerNo) (call : CallNo) (o : Op) → AreOthers (asked_turn s caller call o).out.letters
asked-others s caller call o =
    let r = new_request caller call o in
    begins-others (begin (desk_of s s.calls) r) (new-begins (desk_of s s.calls) r)
