-- What was written is the letter's frame.
use Rattle.std.proofs.Common.{ℕ, ◌≡◌, ◌+◌, ◌-◌, ◌^◌, ◌<◌, ◌≤◌, List, ◌++◌, length, drop, ◌∙◌, ap, arith, append_assoc, length-append}
use Rattle.std.proofs.lemmas.List.{drop_at}
use Rattle.dds_letters.specs.declared.letter.Letter.{Letter}
use Rattle.dds_frames.specs.Spelling.{number_bytes}
use Rattle.dds_frames.specs.Tags.{tag_number}
use Rattle.dds_frames.specs.Letters.{tag_of, field_bytes, IsInRange}
use Rattle.dds_frames.specs.Frame.{frame, Spells}
use Rattle.dds_frames.proofs.Numbers.{length-number}
use Rattle.dds_frames.proofs.Lengths.{fields-short}
use Rattle.dds_frames.proofs.ExactFrames.{body_of, body-is}

-- the parts of a frame, before its length is known
pub record Unmeasured (bytes : List ℕ) (letter : Letter) : Type 0 where
  pub range : IsInRange letter
  pub parts : bytes ≡ number_bytes 4 0 ++ body_of letter

pub unmeasured : (a b c bytes : List ℕ) (letter : Letter) → a ≡ number_bytes 4 0 → b ≡ a ++ number_bytes 1 2 →
    c ≡ b ++ number_bytes 1 (tag_number (tag_of letter)) → bytes ≡ c ++ field_bytes letter → IsInRange letter →
    Unmeasured bytes letter
unmeasured a b c bytes letter p q r s range =
    let u : c ≡ (number_bytes 4 0 ++ number_bytes 1 2) ++ number_bytes 1 (tag_number (tag_of letter)) = r
    ∙ ap (λ (t : List ℕ). t ++ number_bytes 1 (tag_number (tag_of letter))) (q ∙ ap (λ (t : List ℕ). t ++ number_bytes 1 2) p) in
    record {
      range = range;
      parts = s ∙ ap (λ (t : List ℕ). t ++ field_bytes letter) u
          ∙ append_assoc (number_bytes 4 0 ++ number_bytes 1 2) (number_bytes 1 (tag_number (tag_of letter))) (field_bytes letter)
          ∙ append_assoc (number_bytes 4 0) (number_bytes 1 2) (number_bytes 1 (tag_number (tag_of letter)) ++ field_bytes letter);
    }

unmeasured-long : (bytes : List ℕ) (letter : Letter) → Unmeasured bytes letter → length bytes ≡ 6 + length (field_bytes letter)
unmeasured-long bytes letter u =
    let a = ap length u.parts ∙ length-append (number_bytes 4 0) (body_of letter) in
    let b = length-number 4 0 in
    let c = ap length (body-is letter) in
    omega (arith, a, b, c)

pub long-enough : (bytes : List ℕ) (letter : Letter) → Unmeasured bytes letter → 4 ≤ length bytes
long-enough bytes letter u = omega (arith, unmeasured-long bytes letter u)

pub short-enough : (bytes : List ℕ) (letter : Letter) → Unmeasured bytes letter → length bytes < 2 ^ 32
short-enough bytes letter u = omega (arith, unmeasured-long bytes letter u, fields-short letter u.range)

measured : (bytes new : List ℕ) (letter : Letter) → Unmeasured bytes letter → new ≡ number_bytes 4 (length bytes - 4) ++ drop 4 bytes → Spells new letter
unfolding frame
measured bytes new letter u e =
    let count : length bytes - 4 ≡ 2 + length (field_bytes letter) = omega (arith, unmeasured-long bytes letter u) in
    let rest : drop 4 bytes ≡ body_of letter = ap (drop 4) u.parts ∙ drop_at (number_bytes 4 0) (body_of letter) 4 (length-number 4 0) in
    record {
      range = u.range;
      same = e ∙ ap (λ (n : ℕ). number_bytes 4 n ++ drop 4 bytes) count ∙ ap (λ (t : List ℕ). number_bytes 4 (2 + length (field_bytes letter)) ++ t) rest;
    }

pub encoded : (bytes new written : List ℕ) (letter : Letter) → Unmeasured bytes letter →
    new ≡ number_bytes 4 (length bytes - 4) ++ drop 4 bytes → written ≡ new → Spells written letter
encoded bytes new written letter u e f = let s = measured bytes new letter u e in record { range = s.range; same = f ∙ s.same }
