use Rattle.std.proofs.Common.{◌≡◌, ◌==◌, false, List, [], ◌∷◌}
use Rattle.std.proofs.lemmas.Bool.{both_ways, eq-eqb}
use Rattle.std.specs.List.{AllByRecursion}
use Rattle.dds_history.specs.Map.{Map}
use Rattle.dds_letters.specs.declared.letter.Letter.{Letter}
use Rattle.dds_letters.specs.declared.letter.Letter.TheVariants as letter
use Rattle.dds_share.proofs.Together.{has_part, is_part}
use Rattle.dds_states.specs.declared.brick_state.OpenOrder.{OpenOrder}
use Rattle.dds_copies.proofs.Sources.{neither}
use Rattle.dds_copies.specs.Copies.{TellsNext}

-- Where no part for an order is on its way, nothing is said of the table.

other-part : (table : Map) (o : OpenOrder) (l : Letter) → is_part o.number l ≡ false → TellsNext table o l
other-part table o (letter.CopyPart k last pairs) h = λ e. absurd (both_ways (k == o.number) h (eq-eqb k o.number e))
other-part table o other h = tt

pub none-tell : (table : Map) (o : OpenOrder) (ls : List Letter) → has_part o.number ls ≡ false → AllByRecursion (TellsNext table o) ls
none-tell table o [] h = tt
none-tell table o (l ∷ ls) h =
    let p = neither (is_part o.number l) (has_part o.number ls) h in
    (other-part table o l p.0, none-tell table o ls p.1)
