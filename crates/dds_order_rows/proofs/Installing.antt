-- What an order sends as it begins to install.
use Rattle.std.proofs.Common.{◌≡◌, ◌==◌, false, List, [], ◌∷◌, length}
use Rattle.dds_base.specs.declared.leaf.Leaf.{Leaf}
use Rattle.dds_base.specs.declared.number.NodeNo.{NodeNo}
use Rattle.dds_letters.specs.declared.letter.Letter.TheVariants as letter
use Rattle.dds_order_rows.specs.OwnOrder.{installs_from}
use Rattle.dds_states.specs.Turn.{letters_out, to_each}
use Rattle.dds_states.specs.declared.brick_state.BrickState.{BrickState}
use Rattle.dds_states.specs.declared.brick_state.OpenOrder.{OpenOrder}
use Rattle.dds_states.specs.declared.turn.CoreTurn.{CoreTurn}

-- where there are members, each is asked
pub asks-members : (s : BrickState) (o : OpenOrder) (made : Leaf) (members : List NodeNo) (turn : CoreTurn) → (length members == 0) ≡ false →
    turn ≡ letters_out (to_each members (letter.Install o.number made)) → turn ≡ (installs_from s o made members).out
asks-members s o made [] turn some is = absurd (cc)
asks-members s o made (n ∷ ns) turn some is = is
