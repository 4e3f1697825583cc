-- The digits of a value, byte by byte.
use Rattle.std.proofs.Common.{◌≡◌, ℕ, ◌+◌, ◌/◌, ◌%◌, ◌<◌, List, [], ◌∷◌, ◌++◌, length, get_or, take, arith}
use Rattle.std.proofs.lemmas.Grind.{common_steps}
use Rattle.std.specs.Char.{digit_char}
use Rattle.dds_script.proofs.Hexadecimal.{hex-push}
use Rattle.dds_script.specs.Words.{hex_text}

-- the digits of one byte more
pub hex-text-more : (bytes start before high low : List ℕ) (place : ℕ) → place < length bytes → before ≡ start ++ hex_text (take place bytes) →
    high ≡ before ++ digit_char (get_or bytes place 0 / 16) ∷ [] → low ≡ high ++ digit_char (get_or bytes place 0 % 16) ∷ [] →
    low ≡ start ++ hex_text (take (place + 1) bytes)
hex-text-more bytes start before high low place p b h l =
    let t : take (place + 1) bytes ≡ take place bytes ++ get_or bytes place 0 ∷ [] = grind (arith, common_steps) in
    rw (t, hex-push (take place bytes) (get_or bytes place 0), l, h, b) (grind (arith, common_steps))
