-- What an open join has copied, of a cluster's nodes and channels and the table that the points leave: a record of named parts.
use Rattle.std.specs.Prelude.{ℕ, ◌≡◌, Bool, true, false, List, Some, None, length, nat_le, take}
use Rattle.std.specs.FinMap.{get}
use Rattle.std.specs.List.{AllByRecursion}
use Rattle.dds_base.specs.Name.{Name, covers}
use Rattle.dds_base.specs.Place.{last_key}
use Rattle.dds_base.specs.declared.number.NodeNo.{NodeNo}
use Rattle.dds_base.specs.declared.pair.Pair.{Pair}
use Rattle.dds_brick_rows.specs.Refusal.{is_join}
use Rattle.dds_history.specs.Map.{Map}
use Rattle.dds_letters.specs.declared.copied_pairs.TheConstants.{COPIED}
use Rattle.dds_letters.specs.declared.letter.Letter.{Letter}
use Rattle.dds_letters.specs.declared.letter.Letter.TheVariants as letter
use Rattle.dds_net.specs.Net.{Net, a_brick}
use Rattle.dds_order_rows.specs.Orders.{pairs_after}
use Rattle.dds_states.specs.declared.brick_state.BrickState.{BrickState}
use Rattle.dds_states.specs.declared.brick_state.OpenOrder.{OpenOrder}
use Rattle.dds_states.specs.declared.brick_state.OrderPhase.TheVariants.{Copying}
use Rattle.dds_world.specs.Values.{AreCopied}

-- the table's pairs under an order's name that it has still to copy: those behind the last one copied
abbrev pub rest_of : Map → OpenOrder → List Pair
rest_of table o = pairs_after table o.name (last_key None o.copied)

-- a part of the order that this many pairs are left for: the first of them, and whether none follow
pub record IsNextPart (rest : List Pair) (last : Bool) (pairs : List Pair) : Type 0 where
  pub are : pairs ≡ take COPIED rest
  pub ends : last ≡ nat_le (length rest) COPIED

-- what a letter of this order asks of its source: the pairs of its name behind the last one copied
abbrev pub AsksNext : OpenOrder → Letter → Type 0
AsksNext o (letter.CopyAsk number name place) = number ≡ o.number → (name ≡ o.name) × (place ≡ last_key None o.copied)
AsksNext o other = Unit {0}

-- and what the source answers
abbrev pub TellsNext : Map → OpenOrder → Letter → Type 0
TellsNext table o (letter.CopyPart number last pairs) = number ≡ o.number → IsNextPart (rest_of table o) last pairs
TellsNext table o other = Unit {0}

-- | part     | what it says                                          | why it is needed                     | what keeps it                            |
-- |----------|-------------------------------------------------------|--------------------------------------|------------------------------------------|
-- | `copied` | while it copies, what was copied is a beginning of    | at the join's end its brick holds    | CopyPart; what begins to copy or to      |
-- |          | the table's pairs under its name; while it installs,  | the table under the name             | install; no point changes the table      |
-- |          | it is all of them                                     |                                      | under the name                           |
-- | `parts`  | a CopyPart on its way from the source is the next     | `copied` grows by it                 | CopyAsk, at a source that holds the      |
-- |          | piece of the table, and the last one exactly where it |                                      | table; CopyPart and what begins to copy: |
-- |          | reaches the end                                       |                                      | no part is behind it; no point changes   |
-- |          |                                                       |                                      | the table under the name                 |
--
-- Where nothing was copied and no part is on its way, each part says nothing of the table: others may then serve keys under the name that
-- the join doesn't know of, where its source had stopped before it answered.
pub record CopiesTable (table : Map) (n : Net) (k : ℕ) (o : OpenOrder) : Type 0 where
  pub copied : AreCopied table o o.phase
  pub parts : (source : NodeNo) → o.phase ≡ Copying source → AllByRecursion (TellsNext table o) (n.channel source k)

-- of each live brick's open join
abbrev pub JoinsCopy : Map → Net → Type 0
JoinsCopy table n =
    (k : ℕ) (s : BrickState) (o : OpenOrder) → n.node k ≡ a_brick s → s.stopped ≡ false → s.order ≡ Some o → is_join o.task ≡ true → CopiesTable table n k o

-- and what it asks of a source that lives is what follows
abbrev pub JoinsAsk : Net → Type 0
JoinsAsk n =
    (k : ℕ) (s t : BrickState) (o : OpenOrder) (source : NodeNo) → n.node k ≡ a_brick s → s.stopped ≡ false → s.order ≡ Some o → is_join o.task ≡ true
    → o.phase ≡ Copying source → n.node source ≡ a_brick t → t.stopped ≡ false → AllByRecursion (AsksNext o) (n.channel k source)

-- a brick has of each key under a name what the table has
abbrev pub HoldsUnder : Map → Name → BrickState → Type 0
HoldsUnder table name s = (key : ℕ) → covers name key ≡ true → get s.pairs key ≡ get table key

-- what the open order of a brick has copied is the table's
abbrev pub OrderCopies : Map → BrickState → Type 0
OrderCopies table s = (o : OpenOrder) → s.order ≡ Some o → AreCopied table o o.phase
