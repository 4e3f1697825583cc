-- Frames: the bytes of a letter, and what reading them gives.
use Rattle.std.specs.Prelude.{ℕ, ◌≡◌, ◌+◌, ◌-◌, ◌==◌, ◌||◌, List, [], ◌∷◌, length, take, drop, nat_lt, Option, Some, None, Result, Ok, Err, if◌then◌else◌}
use Rattle.byteorder.specs.Endian.{big_number}
use Rattle.dds_letters.specs.declared.letter.Letter.{Letter}
use Rattle.dds_frames.specs.declared.fault.FrameFault.{FrameFault}
use Rattle.dds_frames.specs.declared.fault.FrameFault.TheVariants.{Short, BadLength, BadTag, BadField, Memory}
use Rattle.dds_frames.specs.declared.tag.Tag.{Tag}
use Rattle.dds_frames.specs.Spelling.{◌⧺◌, number_bytes}
use Rattle.dds_frames.specs.Tags.{tag_number, tag_with}
use Rattle.dds_frames.specs.Letters.{tag_of, field_bytes, IsInRange}
use Rattle.dds_frames.specs.Reading.{Reading}
use Rattle.dds_frames.specs.Fields.{letter_at}

-- a frame: how many bytes follow the length, the version, the tag, and the fields
unfoldable pub frame : Letter → List ℕ
frame letter =
    number_bytes 4 (2 + length (field_bytes letter)) ⧺ number_bytes 1 2 ⧺ number_bytes 1 (tag_number (tag_of letter)) ⧺ field_bytes letter

-- the bytes are the letter's
pub record Spells (bytes : List ℕ) (letter : Letter) : Type 0 where
  pub range : IsInRange letter
  pub same : bytes ≡ frame letter

-- what a frame that ends at this place gives by what its fields give
abbrev pub whole : ℕ → Reading Letter → Result (Letter × ℕ) FrameFault
whole end (Err left) = Err (BadField (end - left))
whole end (Ok x) = if length x.1 == 0 then Ok (x.0, end) else Err (BadField (end - length x.1))

-- what the fields give, by the kind of letter that the tag names
abbrev pub tagged : ℕ → Option Tag → List ℕ → Result (Letter × ℕ) FrameFault
tagged end None fields = Err (BadTag 5)
tagged end (Some tag) fields = whole end (letter_at tag fields)

-- what the bytes after the length give: there are two at least
unfoldable pub versioned : ℕ → List ℕ → Result (Letter × ℕ) FrameFault
versioned end [] = Err Short
versioned end (version ∷ []) = Err Short
versioned end (version ∷ tag ∷ fields) = if version == 2 then tagged end (tag_with tag) fields else Err (BadTag 4)

-- what bytes with this length give
unfoldable pub framed : ℕ → List ℕ → Result (Letter × ℕ) FrameFault
framed len input =
    if nat_lt len 2 || nat_lt 67108864 len then
    Err (BadLength 0)
    else if nat_lt (length input) (4 + len) then
    Err Short
    else
    versioned (4 + len) (take len (drop 4 input))

-- the letter at the front of the bytes, and where its frame ends; or the first fault
unfoldable pub decoded : List ℕ → Result (Letter × ℕ) FrameFault
decoded input = if nat_lt (length input) 4 then Err Short else framed (big_number 4 input) input

-- what a function returned is this, unless memory ran out
abbrev pub DecodesAs : Result (Letter × ℕ) FrameFault → Result (Letter × ℕ) FrameFault → Type 0
DecodesAs (Ok x) decoding = decoding ≡ Ok x
DecodesAs (Err Memory) decoding = Unit {0}
DecodesAs (Err Short) decoding = decoding ≡ Err Short
DecodesAs (Err (BadLength at)) decoding = decoding ≡ Err (BadLength at)
DecodesAs (Err (BadTag at)) decoding = decoding ≡ Err (BadTag at)
DecodesAs (Err (BadField at)) decoding = decoding ≡ Err (BadField at)
