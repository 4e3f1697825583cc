-- What writing the transcript does.
use Rattle.std.specs.Prelude.{◌≡◌, ℕ, ◌++◌, List, Option, Result, Ok, Err}
use Rattle.dds_base.specs.Outside.{Added, Rose}
use Rattle.dds_transcript.specs.declared.write_lines.WriteEnd.{WriteEnd}
use Rattle.dds_transcript.specs.declared.write_lines.WriteEnd.TheVariants.{Failed, Memory}

-- the count of faults rose, where a call of the sink failed
abbrev pub RoseWhereFailed : Result (Unit {0}) WriteEnd → ℕ → ℕ → Type 0
RoseWhereFailed (Ok x) before now = Unit {0}
RoseWhereFailed (Err Failed) before now = Rose before now
RoseWhereFailed (Err Memory) before now = Unit {0}

-- a beginning of the text was written, and the rest of it is left
pub record IsMoved (before : Option (List ℕ)) (text left : List ℕ) (now : Option (List ℕ)) : Type 0 where
  pub piece : List ℕ
  pub whole : text ≡ piece ++ left
  pub added : Added before piece now
