-- What a stopped library left pending, and who helps with it.
use Rattle.std.specs.Prelude.{ℕ, ◌≡◌, ◌==◌, Bool, true, false, List, Option, Some, slice_get}
use Rattle.std.specs.List.{list_any}
use Rattle.dds_base.specs.NodeSet.{has_node}
use Rattle.dds_base.specs.Number.{Txn, same_txn}
use Rattle.dds_base.specs.declared.node_set.NodeSet.{NodeSet}
use Rattle.dds_base.specs.declared.pending.Pending.{Pending}
use Rattle.dds_brick_rows.specs.Resolution.{is_resolved}
use Rattle.dds_letters.specs.declared.letter.Letter.{Letter}
use Rattle.dds_letters.specs.declared.letter.Letter.TheVariants as letter
use Rattle.dds_locks.specs.Pending.{first_of}
use Rattle.dds_states.specs.Turn.{unknown}
use Rattle.dds_states.specs.declared.brick_state.BrickState.{BrickState}
use Rattle.dds_states.specs.declared.brick_state.Deferred.{Deferred}
use Rattle.dds_states.specs.declared.brick_state.Question.{Question}
use Rattle.dds_states.specs.declared.brick_state.Question.TheVariants.{Help, Query}
use Rattle.dds_net.specs.Net.{Net, Node, a_brick}
use Rattle.dds_resolve.specs.Teams.{is_stopped}

-- a letter, or a question put off, that asks for help with the attempt; a letter that tells its outcome
abbrev pub asks_help : Txn → Letter → Bool
asks_help t (letter.Help txn list) = same_txn txn t
asks_help t other = false

abbrev pub tells_outcome : Txn → Letter → Bool
tells_outcome t (letter.Outcome txn commit) = same_txn txn t
tells_outcome t other = false

abbrev pub is_help : Txn → Deferred → Question → Bool
is_help t d Help = same_txn d.txn t
is_help t d Query = false

abbrev pub puts_off_help : Txn → List Deferred → Bool
puts_off_help t ds = list_any (λ d. is_help t d d.question) ds

-- pending at a live brick that knows the attempt's library to have stopped
pub record Stranded (s : BrickState) (t : Txn) (p : Pending) : Type 0 where
  pub live : s.stopped ≡ false
  pub pending : first_of s.locks.pending t ≡ Some p
  pub library : has_node s.known t.library ≡ true

-- the first member that a brick doesn't know to have stopped
abbrev pub first_unknown : List ℕ → NodeSet → Option ℕ
first_unknown list known = slice_get (unknown list known) 0

-- that member has stopped, is asked for help, put that off, resolves the attempt, or told its outcome; with what is on its way to it and
-- back
pub data Helped (t : Txn) (f : Node) (to back : List Letter) : Type 0 where
  stopped : is_stopped f ≡ true → Helped t f to back
  asked : list_any (asks_help t) to ≡ true → Helped t f to back
  put_off : (s : BrickState) → f ≡ a_brick s → puts_off_help t s.deferred ≡ true → Helped t f to back
  resolves : (s : BrickState) → f ≡ a_brick s → is_resolved s t ≡ true → Helped t f to back
  told : list_any (tells_outcome t) back ≡ true → Helped t f to back

abbrev pub HelpsItself : ℕ → Node → Type 0
HelpsItself m x =
    (s : BrickState) → x ≡ a_brick s → (t : Txn) (p : Pending) → Stranded s t p → first_unknown p.list s.known ≡ Some m → is_resolved s t ≡ true

abbrev pub IsHelpedBy : ℕ → ℕ → Node → Node → List Letter → List Letter → Type 0
IsHelpedBy m f x y to back =
    (s : BrickState) → x ≡ a_brick s → (t : Txn) (p : Pending) → Stranded s t p → first_unknown p.list s.known ≡ Some f → (f == m) ≡ false →
    Helped t y to back

-- | part     | why it is needed                                  | what keeps it                                                                     |
-- | `itself` | in a quiet world nothing is being resolved        | a Notice that makes a brick the first member; a resolving ends with what is       |
-- |          |                                                   | pending                                                                           |
-- | `others` | the first member does what it can; then it has    | a Notice of the library, or of a member before; Help and the Notice at the first  |
-- |          | stopped, or all is done                           | member; what a resolver decides is told to each other one; Outcome ends what is   |
-- |          |                                                   | pending                                                                           |
pub record AreHelped (n : Net) : Type 0 where
  pub itself : (m : ℕ) → HelpsItself m (n.node m)
  pub others : (m f : ℕ) → IsHelpedBy m f (n.node m) (n.node f) (n.channel m f) (n.channel f m)
