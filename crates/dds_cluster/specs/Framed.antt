-- Letters on links, which hold frames.
use Rattle.std.specs.Prelude.{ℕ, List, Result, Ok, Err}
use Rattle.dds_frames.specs.declared.fault.FrameFault.{FrameFault}
use Rattle.dds_frames.specs.Frame.{decoded}
use Rattle.dds_letters.specs.declared.letter.Letter.{Letter}
use Rattle.dds_letters.specs.declared.letter.Letter.TheVariants.{Notice}

-- the letter that a reading gives
abbrev pub letter_read : Result (Letter × ℕ) FrameFault → Letter
letter_read (Ok read) = read.0
letter_read (Err fault) = Notice

-- the letter that a frame's bytes spell
abbrev pub letter_of : List ℕ → Letter
letter_of frame = letter_read (decoded frame)
