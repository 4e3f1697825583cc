use Rattle.std.proofs.Common.{ℕ, ◌++◌, Option, Some, None, List, [], ◌∷◌}
use Rattle.std.specs.List.{AllByRecursion, remove}
use Rattle.std.specs.Prelude.{option_to_list}
use Rattle.dds_base.specs.declared.leaf.Leaf.{Leaf}
use Rattle.dds_base.specs.declared.number.CallNo.{CallNo}
use Rattle.dds_base.specs.declared.number.NodeNo.{NodeNo}
use Rattle.dds_base.specs.declared.op.Op.{Op}
use Rattle.dds_core.proofs.CallTurns.{OneKeeps, heard, library-keeps}
use Rattle.dds_core.proofs.Lists.{all-append, all-is, all-put, all-taken}
use Rattle.dds_core.specs.LibraryTurn.{call_row, desk_of, live_library_turn, new_request, put_back}
use Rattle.dds_letters.specs.declared.letter.Letter.{Letter}
use Rattle.dds_letters.specs.declared.letter.Letter.TheVariants as letter
use Rattle.dds_net.specs.Event.{asked_turn}
use Rattle.dds_states.specs.Turn.{no_out}
use Rattle.dds_states.specs.declared.library_state.LibraryState.{LibraryState}
use Rattle.dds_states.specs.declared.library_state.OpenCall.{OpenCall}
use Rattle.dds_states.specs.declared.turn.CoreTurn.{CoreTurn}
use Rattle.dds_law_leaf.proofs.Book.{InCall, InLetter, InLibrary}
use Rattle.dds_law_leaf.proofs.Calls.{Carry, InSome, begin, call-has}

-- What a library's turn does with leaves: it makes none.

pub record Goes (P : Leaf → Type 0) (s : LibraryState) (out : CoreTurn) : Type 0 where
  pub has : InLibrary P s
  pub letters : Carry P out.letters

module _ (P : Leaf → Type 0) where
  back : (rest : List OpenCall) (place : ℕ) (o : Option OpenCall) → InSome P o → AllByRecursion (InCall P) rest
      → AllByRecursion (InCall P) (put_back rest place o)
  back rest place None h k = k
  back rest place (Some c) h k = all-put (InCall P) rest place c h k

  one-keeps : (from : NodeNo) (l : Letter) → InLetter P l → OneKeeps (Goes P) from l
  one-keeps from l m s out place c e concerns g =
      let rest = remove s.calls place in
      let d = desk_of (record s { calls = rest }) rest in
      let h = call-has P d c from l g.has.map (all-is (InCall P) s.calls place c g.has.calls e) m in
      let t = call_row d c from l in
      record {
        has = record { map = h.map; calls = back rest place t.went.call h.call (all-taken (InCall P) s.calls place g.has.calls) };
        letters = all-append _ out.letters t.went.letters g.letters h.letters;
      }

  heard-has : (s : LibraryState) (from : NodeNo) (l : Letter) → InLibrary P s → Goes P (heard s from l) no_out
  heard-has s from letter.Notice h = record { has = record { map = h.map; calls = h.calls }; letters = tt }
  heard-has s from other h = record { has = h; letters = tt }

  pub library-goes : (s : LibraryState) (from : NodeNo) (l : Letter) → InLibrary P s → InLetter P l
      → Goes P (live_library_turn s from l).state (live_library_turn s from l).out
  library-goes s from l h m = library-keeps (Goes P) s from l (one-keeps from l m) (heard-has s from l h)

  at-end : (rest : List OpenCall) (o : Option OpenCall) → InSome P o → AllByRecursion (InCall P) rest → AllByRecursion (InCall P) (rest ++ option_to_list o)
  at-end rest None h k = all-append (InCall P) rest [] k tt
  at-end rest (Some c) h k = all-append (InCall P) rest (c ∷ []) k (h, tt)

  pub asked-goes : (s : LibraryState) (caller : ℕ) (call : CallNo) (o : Op) → InLibrary P s
      → Goes P (asked_turn s caller call o).state (asked_turn s caller call o).out
  asked-goes s caller call o h =
      let k = begin P (desk_of s s.calls) (new_request caller call o) h.map in
      record { has = record { map = k.map; calls = at-end s.calls _ k.call h.calls }; letters = k.letters }
