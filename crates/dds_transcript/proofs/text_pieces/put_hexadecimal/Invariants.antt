use Rattle.std.proofs.Common.{◌≡◌, ◌++◌, take}
use Rattle.dds_script.specs.Words.{hex_text}
use Rattle.dds_transcript.proofs.text_pieces.put_hexadecimal.Given as goal

abbrev pub invariant-loop-byte : goal.invariant-loop-byte
invariant-loop-byte l = l.text.items ≡ l.initial.text.items ++ hex_text (take l.byte-index l.bytes)
