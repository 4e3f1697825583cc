use Rattle.std.proofs.Common.{◌≡◌, ◌*◌, take}
use Rattle.dds_script.specs.Words.{hex_text, AreBytes}
use Rattle.dds_script.proofs.value_word.read_hexadecimal.Given as goal

abbrev pub invariant-loop-place : goal.invariant-loop-place
invariant-loop-place l = (take (2 * l.place) l.word ≡ hex_text l.bytes.items) × AreBytes l.bytes.items
