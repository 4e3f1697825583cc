-- Reading a stream of frames that comes in pieces.
use Rattle.std.specs.Prelude.{ℕ, ◌≡◌, List, [], ◌∷◌, ◌++◌, drop, Option, Some, None, Result, Ok, Err}
use Rattle.std.specs.List.{flat_map, AllByRecursion}
use Rattle.dds_letters.specs.declared.letter.Letter.{Letter}
use Rattle.dds_frames.specs.declared.fault.FrameFault.{FrameFault}
use Rattle.dds_frames.specs.declared.fault.FrameFault.TheVariants.{Short, BadLength, BadTag, BadField, Memory}
use Rattle.dds_frames.specs.Letters.{IsInRange}
use Rattle.dds_frames.specs.Frame.{frame, decoded}

-- the bytes that a reader holds, and the fault at their front once it was answered
pub record Held : Type 0 where
  pub bytes : List ℕ
  pub fault : Option FrameFault

-- a fault that more bytes don't mend
abbrev pub IsBad : FrameFault → Type 0
IsBad Short = ⊥
IsBad (BadLength at) = Unit {0}
IsBad (BadTag at) = Unit {0}
IsBad (BadField at) = Unit {0}
IsBad Memory = ⊥

-- the fault that is kept is the one at the front of the bytes
abbrev pub FaultStands : List ℕ → Option FrameFault → Type 0
FaultStands bytes None = Unit {0}
FaultStands bytes (Some fault) = IsBad fault × (decoded bytes ≡ Err fault)

-- what is answered by what the bytes give
abbrev pub answer_of : Result (Letter × ℕ) FrameFault → Result (Option Letter) FrameFault
answer_of (Ok x) = Ok (Some x.0)
answer_of (Err Short) = Ok None
answer_of (Err fault) = Err fault

-- what is held after that
abbrev pub held_after : Held → Result (Letter × ℕ) FrameFault → Held
held_after held (Ok x) = record { bytes = drop x.1 held.bytes; fault = None }
held_after held (Err Short) = held
held_after held (Err fault) = record { bytes = held.bytes; fault = Some fault }

-- what the next letter was answered, and what was held before and after it: want of memory changes nothing
abbrev pub IsNext : Held → Result (Option Letter) FrameFault → Held → Type 0
IsNext old (Err Memory) new = new ≡ old
IsNext old (Err fault) new = (answer_of (decoded old.bytes) ≡ Err fault) × (new ≡ held_after old (decoded old.bytes))
IsNext old (Ok letter) new = (answer_of (decoded old.bytes) ≡ Ok letter) × (new ≡ held_after old (decoded old.bytes))

-- what a reader is given and answers
pub data Event : Type 0 where
  Fed : List ℕ → Event
  Told : Result (Option Letter) FrameFault → Event

-- the events lead a reader from the one to the other
abbrev pub IsReading : Held → List Event → Held → Type 0
IsReading old [] new = old ≡ new
IsReading old (Fed piece ∷ events) new = IsReading (record { bytes = old.bytes ++ piece; fault = old.fault }) events new
IsReading old (Told answer ∷ events) new = (held : Held) × IsNext old answer held × IsReading held events new

-- all bytes that a reader was given
abbrev pub fed : List Event → List ℕ
fed [] = []
fed (Fed piece ∷ events) = piece ++ fed events
fed (Told answer ∷ events) = fed events

-- the letter of an answer, if there is one
abbrev pub letter_of : Result (Option Letter) FrameFault → List Letter
letter_of (Ok (Some letter)) = letter ∷ []
letter_of (Ok None) = []
letter_of (Err fault) = []

-- all letters that it answered
abbrev pub told : List Event → List Letter
told [] = []
told (Fed piece ∷ events) = told events
told (Told answer ∷ events) = letter_of answer ++ told events

-- the letters' frames and then what is held are the bytes
pub record AreTold (bytes : List ℕ) (letters : List Letter) (held : Held) : Type 0 where
  pub range : AllByRecursion IsInRange letters
  pub whole : bytes ≡ flat_map frame letters ++ held.bytes
  pub fault : FaultStands held.bytes held.fault
