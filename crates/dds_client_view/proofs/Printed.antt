-- What each line of a script prints where the script determines the run.
use Rattle.std.specs.Prelude.{ℕ, List, [], ◌∷◌, drop, length}
use Rattle.dds_script.specs.declared.line.Line.{Line}
use Rattle.dds_client_view.specs.Seen.{SeenLine}
use Rattle.dds_walk.specs.Walk.{line_done}
use Rattle.dds_walk.specs.declared.walk.Walk.{Walk}

-- the lines behind a walk, each with what it prints
abbrev pub seen_from : ℕ → Walk → List Line → List SeenLine
seen_from limit w [] = []
seen_from limit w (l ∷ ls) =
    record { line = l; printed = drop (length w.lines) (line_done limit w l).lines } ∷ seen_from limit (line_done limit w l) ls
