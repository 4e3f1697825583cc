-- Turns of nodes, and lists of nodes.
use Rattle.std.specs.Prelude.{ℕ, ◌+◌, zero, suc, Bool, true, false, not, ◌==◌, List, [], ◌∷◌, ◌++◌, Option, Some, None, map, filter}
use Rattle.dds_base.specs.NodeSet.{has_node}
use Rattle.dds_base.specs.declared.node_set.NodeSet.{NodeSet}
use Rattle.dds_base.specs.Number.{Txn}
use Rattle.dds_base.specs.declared.number.NodeNo.{NodeNo}
use Rattle.dds_base.specs.declared.op.Reply.{Reply}
use Rattle.dds_base.specs.declared.op.Reply.TheVariants as reply
use Rattle.dds_groups.specs.Leaves.{live}
use Rattle.dds_letters.specs.declared.letter.Letter.{Letter}
use Rattle.dds_states.specs.declared.brick_state.BrickState.{BrickState}
use Rattle.dds_states.specs.declared.library_state.LibraryState.{LibraryState}
use Rattle.dds_states.specs.declared.turn.CoreTurn.{CoreTurn}
use Rattle.dds_states.specs.declared.turn.Replied.{Replied}

-- what a call, an order or a letter does at a brick: its new state, and what it gives
pub record BrickTurn : Type 0 where
  pub state : BrickState
  pub out : CoreTurn

-- what a call or a letter does at a library
pub record LibraryTurn : Type 0 where
  pub state : LibraryState
  pub out : CoreTurn

-- nothing is given
abbrev pub no_out : CoreTurn
no_out = record { letters = []; points = []; replies = [] }

-- these letters
abbrev pub letters_out : List (NodeNo × Letter) → CoreTurn
letters_out ls = record { letters = ls; points = []; replies = [] }

-- this answer
abbrev pub reply_out : Replied → CoreTurn
reply_out reply = record { letters = []; points = []; replies = reply ∷ [] }

-- the attempt that read what a get is answered: none where the answer is no get's result
abbrev pub read_of : Txn → Reply → Option Txn
read_of txn (reply.Value value) = Some txn
read_of txn reply.Absent = Some txn
read_of txn (reply.Done was) = None
read_of txn (reply.Swapped done) = None
read_of txn (reply.Again met) = None
read_of txn (reply.Full brick) = None
read_of txn (reply.Lost name) = None

-- what the first gives, and then what the second gives
abbrev pub both : CoreTurn → CoreTurn → CoreTurn
both a b =
    record { letters = a.letters ++ b.letters; points = a.points ++ b.points; replies = a.replies ++ b.replies }

-- a turn that changes nothing but the state
abbrev pub still : BrickState → BrickTurn
still s = record { state = s; out = no_out }

-- a turn that sends letters
abbrev pub sends : BrickState → List (NodeNo × Letter) → BrickTurn
sends s ls = record { state = s; out = letters_out ls }

-- a turn, and another one from the state that it leaves
abbrev pub and_then : BrickTurn → (BrickState → BrickTurn) → BrickTurn
and_then t row = record { state = (row t.state).state; out = both t.out (row t.state).out }

-- the first one that is there
abbrev pub first_some : {X : Type 0} → Option X → Option X → Option X
first_some None other = other
first_some (Some x) other = Some x

-- the item, where the test holds
abbrev pub when : {X : Type 0} → Bool → X → Option X
when true x = Some x
when false x = None

-- the letter to each node of a list, in its order
abbrev pub to_each : List NodeNo → Letter → List (NodeNo × Letter)
to_each nodes letter = map (λ node. (node, letter)) nodes

-- a list without a node
abbrev pub without : List NodeNo → ℕ → List NodeNo
without nodes node = filter (λ n. not (n == node)) nodes

-- so many numbers in order, from a first one on
abbrev pub numbers_from : ℕ → ℕ → List ℕ
numbers_from zero first = []
numbers_from (suc k) first = first ∷ numbers_from k (first + 1)

-- the list is empty
abbrev pub is_none_left : List NodeNo → Bool
is_none_left [] = true
is_none_left (n ∷ ns) = false

-- the nodes of a list that aren't known to have stopped
abbrev pub unknown : List NodeNo → NodeSet → List NodeNo
unknown nodes known = live nodes (has_node known)

-- the other ones of them
abbrev pub unknown_others : List NodeNo → ℕ → NodeSet → List NodeNo
unknown_others nodes me known = without (unknown nodes known) me
