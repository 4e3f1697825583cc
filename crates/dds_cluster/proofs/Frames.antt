-- What a frame's bytes spell is the letter that it was made of.
use Rattle.std.proofs.Common.{◌≡◌, ℕ, List, length, sym, ap, subst, arith}
use Rattle.std.proofs.Math.Seq.{take-length}
use Rattle.dds_letters.specs.declared.letter.Letter.{Letter}
use Rattle.dds_frames.specs.Frame.{Spells}
use Rattle.dds_frames.proofs.ExactFrames.{decoded_only}
use Rattle.dds_cluster.specs.declared.step.Message.{Message}
use Rattle.dds_cluster.specs.Framed.{letter_read, letter_of}

pub letter-is : (frame : List ℕ) (letter : Letter) → Spells frame letter → letter_of frame ≡ letter
letter-is frame letter spells =
    ap letter_read (decoded_only frame letter (length frame) (omega arith) (subst (λ bytes. Spells bytes letter) (sym (take-length frame)) spells))

pub spells-own : (frame : List ℕ) (letter : Letter) → Spells frame letter → Spells frame (letter_of frame)
spells-own frame letter spells = subst (λ l. Spells frame l) (sym (letter-is frame letter spells)) spells

-- a message whose frame spells its letter
pub same-message : (m : Message) (letter : Letter) → letter ≡ m.letter → ◌≡◌ {A = Message} (record { number = m.number; to = m.to; letter = letter }) m
same-message m letter e = λ i. record { number = m.number; to = m.to; letter = e i }
