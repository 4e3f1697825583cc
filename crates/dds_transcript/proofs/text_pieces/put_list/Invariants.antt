use Rattle.std.proofs.Common.{◌≡◌, ◌++◌, drop}
use Rattle.std.specs.List.{flat_map}
use Rattle.dds_script.specs.Text.{further_text, list_text}
use Rattle.dds_transcript.proofs.text_pieces.put_list.Given as goal

abbrev pub invariant-loop-place : goal.invariant-loop-place
invariant-loop-place l = l.text.items ++ flat_map further_text (drop l.place l.list) ≡ l.fn.text.items ++ list_text l.list
