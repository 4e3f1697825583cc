-- What a reader of a text answers.
use Rattle.std.specs.Prelude.{◌≡◌, ℕ, ◌/◌, ◌%◌, ◌^◌, ◌<◌, List, Option, None, Some}
use Rattle.std.specs.Char.{digit_char}
use Rattle.std.specs.Fmt.{decimal}
use Rattle.dds_script.specs.Words.{value_text, IsValue, hex_text, AreBytes}

-- what the text spells, or there is nothing that it spells
abbrev pub IsRead : {T : Type 0} → (T → Type 0) → Option T → Type 0
IsRead spells None = (x : _) → spells x → ⊥
IsRead spells (Some x) = spells x

-- the word is the number, in decimal digits
abbrev pub IsNumber : List ℕ → ℕ → Type 0
IsNumber word n = (word ≡ decimal n) × (n < 2 ^ 64)

-- the word is the value
abbrev pub IsValueWord : List ℕ → List ℕ → Type 0
IsValueWord word value = (word ≡ value_text value) × IsValue value

-- the digit is the number below 16
abbrev pub IsNibble : ℕ → ℕ → Type 0
IsNibble digit n = (digit ≡ digit_char n) × (n < 16)

-- the two digits are the byte
abbrev pub IsByte : ℕ → ℕ → ℕ → Type 0
IsByte high low byte = (high ≡ digit_char (byte / 16)) × (low ≡ digit_char (byte % 16)) × (byte < 256)

-- the text is two digits for each of the bytes
abbrev pub IsHexText : List ℕ → List ℕ → Type 0
IsHexText text bytes = (text ≡ hex_text bytes) × AreBytes bytes
