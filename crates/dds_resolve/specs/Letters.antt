-- The letters of a turn to one node, by its number.
use Rattle.std.specs.Prelude.{ℕ, ◌==◌, Bool, true, false, List, [], ◌∷◌}
use Rattle.dds_base.specs.declared.number.NodeNo.{NodeNo}
use Rattle.dds_letters.specs.declared.letter.Letter.{Letter}

abbrev pub to_one : Bool → Letter → List Letter → List Letter
to_one true l ls = l ∷ ls
to_one false l ls = ls

abbrev pub letters_to : ℕ → List (NodeNo × Letter) → List Letter
letters_to n [] = []
letters_to n (p ∷ ps) = to_one (p.0 == n) p.1 (letters_to n ps)
