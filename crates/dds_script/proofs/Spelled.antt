-- The words that spell a line are right.
use Rattle.std.proofs.Common.{◌≡◌, ℕ, ◌^◌, ◌<◌, inr, true, false, List, [], ◌∷◌, refl, ap, sym, ◌∙◌, subst, arith}
use Rattle.std.specs.Cmp.Lexicographic.{same_text}
use Rattle.std.specs.Fmt.{decimal}
use Rattle.std.specs.Str.{bytes_eq}
use Rattle.dds_base.specs.declared.op.Op.TheVariants as op
use Rattle.dds_script.proofs.Numbers.{decimal-hasno}
use Rattle.dds_script.specs.Fields.{IsLineOf, line_words}
use Rattle.dds_script.specs.Forms.{form_of}
use Rattle.dds_script.specs.Lines.{AreRight}
use Rattle.dds_script.specs.Ranges.{IsInRanges, IsRanges}
use Rattle.dds_script.specs.Words.{HasNo}
use Rattle.dds_script.specs.declared.line.Line.{Line}
use Rattle.dds_script.specs.declared.line.Line.TheVariants as line
use Rattle.dds_script.specs.declared.line.Picker.TheVariants as picker
use Rattle.dds_script.specs.declared.ranges.Ranges.{Ranges}

-- a number is no word that begins with a letter
pub apart-word : (n c : ℕ) (rest : List ℕ) → n < 2 ^ 64 → 57 < c → bytes_eq (decimal n) (c ∷ rest) ≡ false
apart-word n c rest small letter = elim (bytes_eq (decimal n) (c ∷ rest)) as (λ t. bytes_eq (decimal n) (c ∷ rest) ≡ t → t ≡ false) [
  | true ↦ λ e. absurd (let w : decimal n ≡ c ∷ rest = same_text (decimal n) (c ∷ rest) (sym e) in
      (subst (λ (t : List ℕ). HasNo c t) w (decimal-hasno c n (inr letter) small)).0 refl)
  | false ↦ λ e. refl
] refl

right-line : (r : Ranges) (l : Line) → IsRanges r → IsInRanges r l → (l ≡ line.Nothing → ⊥) → AreRight r (form_of (line_words l)) (line_words l)
right-line r (line.Call caller (op.Get key)) is h n =
    let small : caller < 2 ^ 64 = omega (arith, h.0, is.callers) in
    rw (
      apart-word caller 108 _ small (omega arith),
      apart-word caller 115 _ small (omega arith),
      apart-word caller 116 _ small (omega arith),
      apart-word caller 112 _ small (omega arith),
    ) (refl, ((caller, record { spelled = refl; below = h.0 }), (key, (refl, h.1))), tt)
right-line r (line.Call caller (op.Remove key)) is h n =
    let small : caller < 2 ^ 64 = omega (arith, h.0, is.callers) in
    rw (
      apart-word caller 108 _ small (omega arith),
      apart-word caller 115 _ small (omega arith),
      apart-word caller 116 _ small (omega arith),
      apart-word caller 112 _ small (omega arith),
    ) (refl, ((caller, record { spelled = refl; below = h.0 }), (key, (refl, h.1))), tt)
right-line r (line.Call caller (op.Put key value)) is h n =
    let small : caller < 2 ^ 64 = omega (arith, h.0, is.callers) in
    rw (apart-word caller 99 _ small (omega arith), apart-word caller 111 _ small (omega arith), apart-word caller 106 _ small (omega arith))
    (refl, ((caller, record { spelled = refl; below = h.0 }), (key, (refl, h.1.0))), (value, (refl, h.1.1)))
right-line r (line.Call caller (op.Swap key expected value)) is h n =
    (refl, ((caller, record { spelled = refl; below = h.0 }), (key, (refl, h.1.0))), ((expected, (refl, h.1.1)), (value, (refl, h.1.2))))
right-line r (line.Stop node) is h n = (refl, (node, (refl, h)), tt)
right-line r (line.Join brick name via) is h n = (refl, ((brick, (refl, h.0)), (name, (refl, h.1)), (via, (refl, h.2))), tt)
right-line r (line.Split brick name) is h n = (refl, ((brick, (refl, h.0)), (name, (refl, h.1))), tt)
right-line r (line.Pick picker.Fifo) is h n = (refl, tt, tt)
right-line r (line.Pick picker.Newest) is h n = (refl, tt, tt)
right-line r (line.Pick (picker.Seed seed)) is h n = (refl, (seed, (refl, h)), tt)
right-line r (line.Events count) is h n = (refl, (count, record { spelled = refl; least = omega arith; most = h }), tt)
right-line r line.Quiet is h n = (refl, tt, tt)
right-line r (line.Post node) is h n = (refl, (node, (refl, h)), tt)
right-line r (line.Take node from) is h n = (refl, ((node, (refl, h.0)), (from, (refl, h.1))), tt)
right-line r (line.Show brick) is h n = (refl, (brick, (refl, h)), tt)
right-line r line.Nothing is h n = absurd (n refl)

-- the words of a line are right
pub spelled-right : (r : Ranges) (ws : List (List ℕ)) (l : Line) → IsRanges r → (ws ≡ [] → ⊥) → IsLineOf r ws l → AreRight r (form_of ws) ws
spelled-right r ws l is some h =
    subst (λ (w : List (List ℕ)). AreRight r (form_of w) w) (sym h.0) (right-line r l is h.1 (λ e. some (h.0 ∙ ap line_words e)))
