-- A text with a fault is no line.
use Rattle.std.proofs.Common.{◌≡◌, ℕ, inl, inr, true, false, List, Option, Some, None, Result, Ok, Err, IfErr}
use Rattle.dds_script.proofs.Apart.{not-empty, true-false}
use Rattle.dds_script.proofs.Parting.{words-some}
use Rattle.dds_script.proofs.Spelled.{spelled-right}
use Rattle.dds_script.specs.Forms.{form_of, is_body}
use Rattle.dds_script.specs.Lines.{AreRight, IsLine, IsLineAnswer, IsNoLine, RefusesForm, RefusesNumber, RefusesValue}
use Rattle.dds_script.specs.Ranges.{IsRanges}
use Rattle.dds_script.specs.Words.{is_ascii, is_blank, words}
use Rattle.dds_script.specs.declared.form.Form.{Form}
use Rattle.dds_script.specs.declared.line.Line.{Line}
use Rattle.dds_script.specs.declared.ranges.LineFault.{LineFault}
use Rattle.dds_script.specs.declared.ranges.LineFault.TheVariants as fault
use Rattle.dds_script.specs.declared.ranges.Ranges.{Ranges}

no-form : (r : Ranges) (form : Option Form) (ws : List (List ℕ)) → AreRight r form ws → RefusesForm form → ⊥
no-form r None ws a f = a
no-form r (Some g) ws a f = true-false (is_body g) a.0 f

no-number : (r : Ranges) (form : Option Form) (ws : List (List ℕ)) → AreRight r form ws → RefusesNumber r form ws → ⊥
no-number r None ws a f = a
no-number r (Some g) ws a f = f.1 a.1

no-value : (r : Ranges) (form : Option Form) (ws : List (List ℕ)) → AreRight r form ws → RefusesValue r form ws → ⊥
no-value r None ws a f = a
no-value r (Some g) ws a f = f.2 a.2

-- a line with words has right ones
line-right : (r : Ranges) (text : List ℕ) (l : Line) → IsRanges r → is_blank text ≡ false → IsLine r text l → AreRight r (form_of (words text)) (words text)
line-right r text l is b h = elim h [
  | inl blank ↦ absurd (true-false (is_blank text) blank.0.1 b)
  | inr w ↦ spelled-right r (words text) l is (not-empty (words text) (words-some text)) w.1
]

line-ascii : (r : Ranges) (text : List ℕ) (l : Line) → IsLine r text l → is_ascii text ≡ true
line-ascii r text l h = elim h [ inl blank ↦ blank.0.0 | inr w ↦ w.0.0 ]

no-line : (r : Ranges) (text : List ℕ) (e : LineFault) → IsRanges r → IsLineAnswer r text (Err e) → IsNoLine r text e
no-line r text fault.Form is f = λ l h. elim f [
  | inl a ↦ true-false (is_ascii text) (line-ascii r text l h) a
  | inr w ↦ no-form r _ _ (line-right r text l is w.0 h) w.1
]
no-line r text fault.Number is f = λ l h. no-number r _ _ (line-right r text l is f.0.1 h) f.1
no-line r text fault.Value is f = λ l h. no-value r _ _ (line-right r text l is f.0.1 h) f.1
no-line r text fault.Memory is f = tt

pub err-line : (r : Ranges) (text : List ℕ) (result : Result Line LineFault) → IsRanges r → IsLineAnswer r text result → IfErr result (λ e. IsNoLine r text e)
err-line r text (Ok l) is h = tt
err-line r text (Err e) is h = no-line r text e is h
