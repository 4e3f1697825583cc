-- A letter to each of some nodes, the last one behind the others.
use Rattle.std.proofs.Common.{◌≡◌, List, [], ◌∷◌, ◌++◌, ◌∙◌, sym, ap}
use Rattle.std.proofs.lemmas.List.{map-append}
use Rattle.dds_base.specs.declared.number.NodeNo.{NodeNo}
use Rattle.dds_letters.specs.declared.letter.Letter.{Letter}
use Rattle.dds_states.specs.Turn.{to_each}

pub last-too : (nodes others : List NodeNo) (last : NodeNo) (letter : Letter) → nodes ≡ others ++ last ∷ [] →
    to_each others letter ++ (last, letter) ∷ [] ≡ to_each nodes letter
last-too nodes others last letter e = sym (ap (λ (t : List NodeNo). to_each t letter) e ∙ map-append (λ node. (node, letter)) others (last ∷ []))
