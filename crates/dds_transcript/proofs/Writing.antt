-- Writing the text of lines piece by piece.
use Rattle.std.proofs.Common.{◌≡◌, ℕ, ◌+◌, ◌<◌, ◌≤◌, List, [], ◌∷◌, ◌++◌, length, get_or, drop, drop-cons, add-one, Option, refl, ap, sym}
use Rattle.std.proofs.Common.{◌∙◌, arith, append_assoc, append-nil, subst}
use Rattle.std.proofs.lemmas.Grind.{common_steps}
use Rattle.dds_base.proofs.Outside.{added-none, added-more}
use Rattle.dds_base.specs.Outside.{Added, AddedPart}
use Rattle.dds_transcript.specs.Text.{report_text, line_text}
use Rattle.dds_transcript.specs.Writing.{IsMoved}
use Rattle.dds_transcript.specs.declared.report_line.ReportLine.{ReportLine}

-- the lines up to a place were written, but for the text that is left to write
pub record IsWriting (start : Option (List ℕ)) (all left rest : List ℕ) (now : Option (List ℕ)) : Type 0 where
  pub part : List ℕ
  pub whole : all ≡ part ++ (left ++ rest)
  pub added : Added start part now

-- nothing was written yet
pub writing-first : (start : Option (List ℕ)) (all : List ℕ) → IsWriting start all [] all start
writing-first start all = record { part = []; whole = refl; added = added-none start }

-- one line's text more: a beginning of what was gathered was written
pub writing-more : (start : Option (List ℕ)) (all left rest line more text kept : List ℕ) (now new : Option (List ℕ)) → IsWriting start all left rest now →
    rest ≡ line ++ more → text ≡ left ++ line → IsMoved now text kept new → IsWriting start all kept more new
writing-more start all left rest line more text kept now new w r t m = record {
  part = w.part ++ m.piece;
  whole =
      let a : left ++ rest ≡ text ++ more = rw (r, t) (sym (append_assoc left line more)) in
      let b : text ++ more ≡ m.piece ++ (kept ++ more) = ap (λ (l : List ℕ). l ++ more) m.whole ∙ append_assoc m.piece kept more in
      w.whole ∙ (ap (λ (l : List ℕ). w.part ++ l) (a ∙ b) ∙ sym (append_assoc w.part m.piece (kept ++ more)));
  added = added-more start now new w.part m.piece w.added m.added;
}

-- a beginning of what was gathered was written
pub writing-part : (start : Option (List ℕ)) (all left rest line more text : List ℕ) (now new : Option (List ℕ)) → IsWriting start all left rest now →
    rest ≡ line ++ more → text ≡ left ++ line → AddedPart now text new → AddedPart start all new
writing-part start all left rest line more text now new w r t p = record {
  part = w.part ++ p.part;
  rest = p.rest ++ more;
  whole =
      let a : left ++ rest ≡ text ++ more = rw (r, t) (sym (append_assoc left line more)) in
      let b : text ++ more ≡ p.part ++ (p.rest ++ more) = ap (λ (l : List ℕ). l ++ more) p.whole ∙ append_assoc p.part p.rest more in
      w.whole ∙ (ap (λ (l : List ℕ). w.part ++ l) (a ∙ b) ∙ sym (append_assoc w.part p.part (p.rest ++ more)));
  added = added-more start now new w.part p.part w.added p.added;
}

-- what is gathered was written, and no line is left
pub writing-end : (start : Option (List ℕ)) (all left rest text : List ℕ) (now new : Option (List ℕ)) → IsWriting start all left rest now → rest ≡ [] →
    text ≡ left → Added now text new → Added start all new
writing-end start all left rest text now new w r t a =
    let e : all ≡ w.part ++ text = w.whole ∙ rw (r, t) (ap (λ (l : List ℕ). w.part ++ l) (append-nil left)) in
    subst (λ (l : List ℕ). Added start l new) (sym e) (added-more start now new w.part text w.added a)

-- the text of the lines from a place on
pub report-drop : (lines : List ReportLine) (place : ℕ) (line : ReportLine) → place < length lines → line ≡ get_or lines place line →
    report_text (drop place lines) ≡ line_text line ++ report_text (drop (place + 1) lines)
report-drop lines place line h e =
    let d : drop place lines ≡ get_or lines place line ∷ drop (place + 1) lines = rw add-one (drop-cons lines place line h) in
    ap report_text d ∙ ap (λ (l : ReportLine). line_text l ++ report_text (drop (place + 1) lines)) (sym e)

pub report-end : (lines : List ReportLine) (place : ℕ) → length lines ≤ place → report_text (drop place lines) ≡ []
report-end lines place h =
    let d : drop place lines ≡ [] = grind (arith, common_steps) in
    ap report_text d
