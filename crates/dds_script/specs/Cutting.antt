-- What cutting a line answers.
use Rattle.std.specs.Prelude.{ℕ, ◌≡◌, ◌<◌, List, [], ◌∷◌, length, Option, None, Some}
use Rattle.std.specs.Borrow.{Bor}
use Rattle.dds_script.specs.Words.{cut}
use Rattle.dds_script.specs.declared.cuts.Words.{Words}
use Rattle.dds_script.specs.declared.cuts.Words.TheVariants.{One, Two, Three, Four, Five, More}

-- the texts of what follows a mark, if the mark is there
abbrev pub cut_rest : ℕ → Option (Bor (List ℕ)) → List (List ℕ)
cut_rest mark None = []
cut_rest mark (Some rest) = cut mark rest.now

-- the words are these
abbrev pub IsCut : List (List ℕ) → Words → Type 0
IsCut ws (One a) = ws ≡ a.now ∷ []
IsCut ws (Two a b) = ws ≡ a.now ∷ b.now ∷ []
IsCut ws (Three a b c) = ws ≡ a.now ∷ b.now ∷ c.now ∷ []
IsCut ws (Four a b c d) = ws ≡ a.now ∷ b.now ∷ c.now ∷ d.now ∷ []
IsCut ws (Five a b c d e) = ws ≡ a.now ∷ b.now ∷ c.now ∷ d.now ∷ e.now ∷ []
IsCut ws More = 5 < length ws
