use Rattle.std.specs.Prelude.{ℕ, ◌≡◌, ◌||◌, Bool, true, false, List, Option, Some, None, slice_get}
use Rattle.std.specs.List.{list_any}
use Rattle.dds_base.specs.Number.{Txn, same_txn}
use Rattle.dds_call_rows.specs.Library.{call_concerns}
use Rattle.dds_letters.specs.declared.letter.Letter.{Letter}
use Rattle.dds_letters.specs.declared.letter.Letter.TheVariants as letter
use Rattle.dds_net.specs.Net.{Net, a_brick, a_library}
use Rattle.dds_states.specs.declared.brick_state.BrickState.{BrickState}
use Rattle.dds_states.specs.declared.library_state.LibraryState.{LibraryState}
use Rattle.dds_states.specs.declared.library_state.OpenCall.{OpenCall}
use Rattle.dds_states.specs.declared.library_state.Phase.{Phase}
use Rattle.dds_states.specs.declared.library_state.Phase.TheVariants.{Getting, Preparing, Committing, Aborting, Asking}

-- What is due where an open call of a live library waits for a live brick: what the library asked it, or what it told the library.
--
-- | phase      | to the brick | back    | why one of them is there, until the call waits no more                   |
-- | Getting    | Get          | Got     | a Get is answered by a Got in each case                                  |
-- | Preparing  | Prepare      | Vote    | a Prepare is answered by a Vote in each case                             |
-- | Committing | Commit       | Applied | a Commit finds the update pending (`told_commit` of the conversations)   |
-- | Aborting   | Abort        | Aborted | an Abort is answered by an Aborted in each case                          |
-- | Asking     | MapAsk       | MapTell | a MapAsk is answered by a MapTell in each case                           |

abbrev pub got_asked : Letter → Option Txn
got_asked (letter.Get txn caller call key name stamp) = Some txn
got_asked other = None

abbrev pub got_told : Letter → Option Txn
got_told (letter.Got txn what) = Some txn
got_told other = None

abbrev pub vote_asked : Letter → Option Txn
vote_asked (letter.Prepare txn caller call below name stamp list op) = Some txn
vote_asked other = None

abbrev pub vote_told : Letter → Option Txn
vote_told (letter.Vote txn vote) = Some txn
vote_told other = None

abbrev pub commit_asked : Letter → Option Txn
commit_asked (letter.Commit txn) = Some txn
commit_asked other = None

abbrev pub commit_told : Letter → Option Txn
commit_told (letter.Applied txn was) = Some txn
commit_told other = None

abbrev pub abort_asked : Letter → Option Txn
abort_asked (letter.Abort txn) = Some txn
abort_asked other = None

abbrev pub abort_told : Letter → Option Txn
abort_told (letter.Aborted txn) = Some txn
abort_told other = None

abbrev pub map_asked : Letter → Option Txn
map_asked (letter.MapAsk txn caller call key) = Some txn
map_asked other = None

abbrev pub map_told : Letter → Option Txn
map_told (letter.MapTell txn leaf) = Some txn
map_told other = None

-- the attempt that a letter to a brick asks for in this phase
abbrev pub asked_in : Phase → Letter → Option Txn
asked_in (Getting leaf brick) l = got_asked l
asked_in (Preparing leaf list waiting) l = vote_asked l
asked_in (Committing leaf list waiting was) l = commit_asked l
asked_in (Aborting waiting why brick) l = abort_asked l
asked_in (Asking waiting newest met) l = map_asked l

-- and that a brick's letter answers
abbrev pub told_in : Phase → Letter → Option Txn
told_in (Getting leaf brick) l = got_told l
told_in (Preparing leaf list waiting) l = vote_told l
told_in (Committing leaf list waiting was) l = commit_told l
told_in (Aborting waiting why brick) l = abort_told l
told_in (Asking waiting newest met) l = map_told l

-- one of the letters is of this attempt
abbrev pub is_of : Txn → Option Txn → Bool
is_of t None = false
is_of t (Some u) = same_txn u t

abbrev pub is_there : (Letter → Option Txn) → Txn → List Letter → Bool
is_there f t ls = list_any (λ l. is_of t (f l)) ls

-- what is due to this call from a brick is on its way, by what is on its way to the brick and back
abbrev pub IsDue : OpenCall → List Letter → List Letter → Type 0
IsDue c out back = (is_there (asked_in c.phase) c.txn out || is_there (told_in c.phase) c.txn back) ≡ true

-- a live library has an open call that waits for a live brick
pub record Waits (n : Net) (k m : ℕ) (l : LibraryState) (s : BrickState) (c : OpenCall) : Type 0 where
  pub library : n.node k ≡ a_library l
  pub lives : l.stopped ≡ false
  pub at : ℕ
  pub there : slice_get l.calls at ≡ Some c
  pub waits : call_concerns c.phase m ≡ true
  pub member : n.node m ≡ a_brick s
  pub live : s.stopped ≡ false

abbrev pub AreDue : Net → Type 0
AreDue n = (k m : ℕ) (l : LibraryState) (s : BrickState) (c : OpenCall) → Waits n k m l s c → IsDue c (n.channel k m) (n.channel m k)
