-- The words of a script as bytes.
use Rattle.std.specs.Prelude.{Bool, true, ◌&&◌, nat_lt, ◌≡◌, ◌≢◌, ◌==◌, ℕ, ◌+◌, ◌/◌, ◌%◌, ◌<◌, ◌≤◌, ◌++◌, List, [], ◌∷◌, length, take, drop}
use Rattle.std.specs.Prelude.{codes, Option, None, Some, slice_index_or, if◌then◌else◌}
use Rattle.std.specs.Char.{digit_char}
use Rattle.std.specs.List.{list_all}

-- no byte is the mark
abbrev pub HasNo : ℕ → List ℕ → Type 0
HasNo mark [] = Unit {0}
HasNo mark (byte ∷ bytes) = (byte ≢ mark) × HasNo mark bytes

-- the place of the first byte that is the mark, or no byte is the mark
abbrev pub IsFound : List ℕ → ℕ → Option ℕ → Type 0
IsFound bytes mark None = HasNo mark bytes
IsFound bytes mark (Some place) = (place < length bytes) × (bytes ≡ take place bytes ++ mark ∷ drop (place + 1) bytes) × HasNo mark (take place bytes)

-- each byte is ASCII
abbrev pub is_ascii : List ℕ → Bool
is_ascii bytes = list_all (λ byte. nat_lt byte 128) bytes

-- the line is empty or begins with `#`
abbrev pub is_blank : List ℕ → Bool
is_blank [] = true
is_blank (byte ∷ bytes) = byte == 35

-- two lower-case hexadecimal digits for each byte
abbrev pub hex_text : List ℕ → List ℕ
hex_text [] = []
hex_text (byte ∷ bytes) = digit_char (byte / 16) ∷ digit_char (byte % 16) ∷ hex_text bytes

-- the word for a value: `-` for no bytes, and else two digits for each
abbrev pub value_text : List ℕ → List ℕ
value_text [] = codes "-"
value_text (byte ∷ bytes) = hex_text (byte ∷ bytes)

-- each number is a byte
abbrev pub AreBytes : List ℕ → Type 0
AreBytes [] = Unit {0}
AreBytes (byte ∷ bytes) = (byte < 256) × AreBytes bytes

-- the bytes that a value may have
abbrev pub IsValue : List ℕ → Type 0
IsValue bytes = (length bytes ≤ 60000) × AreBytes bytes

-- a byte more at the front of the first text
abbrev pub put_first : ℕ → List (List ℕ) → List (List ℕ)
put_first byte [] = (byte ∷ []) ∷ []
put_first byte (text ∷ texts) = (byte ∷ text) ∷ texts

-- the texts between the marks, of which there is one more than there are marks
abbrev pub cut : ℕ → List ℕ → List (List ℕ)
cut mark [] = [] ∷ []
cut mark (byte ∷ bytes) = if byte == mark then [] ∷ cut mark bytes else put_first byte (cut mark bytes)

-- a space stands first, last, or behind another one; the flag says that a space, or the beginning, stands before
abbrev pub gap_behind : Bool → List ℕ → Bool
gap_behind space [] = space
gap_behind space (byte ∷ bytes) = if space && byte == 32 then true else gap_behind (byte == 32) bytes

abbrev pub has_gap : List ℕ → Bool
has_gap text = gap_behind true text

-- the words of a line: exactly one space parts each from the next. A line with a space too many is one empty word, which
-- no form has.
abbrev pub words : List ℕ → List (List ℕ)
words text = if has_gap text then [] ∷ [] else cut 32 text

-- the word at a place
abbrev pub word : List (List ℕ) → ℕ → List ℕ
word ws place = slice_index_or ws place []
