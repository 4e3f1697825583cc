-- Points that come while joins copy.
use Rattle.std.specs.Prelude.{ℕ, ◌≡◌, ◌⊎◌, ◌++◌, false, true, List}
use Rattle.std.specs.List.{AllByRecursion}
use Rattle.dds_base.specs.Name.{Name, covers}
use Rattle.dds_base.specs.Op.{is_get, the_key}
use Rattle.dds_cluster.specs.declared.trace.Made.{Made}
use Rattle.dds_letters.specs.declared.letter.Letter.{Letter}
use Rattle.dds_net.proofs.Letters.{AllSent}
use Rattle.dds_net.specs.Event.{IsDeaf, Stops, stops}
use Rattle.dds_net.specs.Net.{Net, Node, Sizes, changed}
use Rattle.dds_share.proofs.Parts.{FromBrick}
use Rattle.dds_share.proofs.Together.{Bound}
use Rattle.dds_states.specs.declared.brick_state.BrickState.{BrickState}
use Rattle.dds_states.specs.declared.brick_state.OpenOrder.{OpenOrder}
use Rattle.dds_values.specs.Values.{table}
use Rattle.dds_copies.specs.Copies.{JoinsCopy}

-- a point leaves the table under a name as it is: it is a read, or of a key elsewhere. A source that has given its lease still serves gets
abbrev pub IsOutside : Name → Made → Type 0
IsOutside name m = (is_get m.entry.op ≡ true) ⊎ (covers name (the_key m.entry.op) ≡ false)

-- points leave the table under the name of each bound join as it is
pub record ComeOutside (n : Net) (points : List Made) : Type 0 where
  pub outside : (k : ℕ) (s : BrickState) (o : OpenOrder) → Bound n k s o → AllByRecursion (IsOutside o.name) points

-- such points keep what joins have copied, and so does a node that stops
pub record JoinsCopyOn : Type 0 where
  pub points :
      (made more : List Made) (n : Net) → AllSent FromBrick n → ComeOutside n more → JoinsCopy (table made) n → JoinsCopy (table (made ++ more)) n
  pub stops :
      (made : List Made) (z : Sizes) (n : Net) (at : ℕ) (x y : Node) (kept : ℕ → List Letter) → Stops z n at x kept → IsDeaf y
      → JoinsCopy (table made) n → JoinsCopy (table made) (changed n (stops z n at y kept))
