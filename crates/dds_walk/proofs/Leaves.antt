-- One leaf more of a brick's.
use Rattle.std.proofs.Common.{◌≡◌, ℕ, ◌+◌, ◌<◌, List, [], ◌∷◌, ◌++◌, drop, length, get_or, sym, ap, ◌∙◌, arith, append_assoc}
use Rattle.std.proofs.lemmas.Grind.{common_steps}
use Rattle.dds_base.specs.declared.leaf.Leaf.{Leaf}
use Rattle.dds_base.specs.declared.number.NodeNo.{NodeNo}
use Rattle.dds_history.specs.Map.{Map}
use Rattle.dds_transcript.specs.declared.report_line.ReportLine.{ReportLine}
use Rattle.dds_walk.specs.Walk.{leaf_line, leaf_lines}

pub leaves-more : (pairs : Map) (brick : NodeNo) (lines new whole : List ReportLine) (ls : List Leaf) (i : ℕ) (x : Leaf) (y : ReportLine) → i < length ls →
    x ≡ get_or ls i x → y ≡ leaf_line pairs brick x → new ≡ lines ++ y ∷ [] → lines ++ leaf_lines pairs brick (drop i ls) ≡ whole →
    new ++ leaf_lines pairs brick (drop (i + 1) ls) ≡ whole
leaves-more pairs brick lines new whole ls i x y h at is pushed so =
    let split : drop i ls ≡ x ∷ drop (i + 1) ls = grind (arith, common_steps) in
    ap (λ n. n ++ leaf_lines pairs brick (drop (i + 1) ls)) (pushed ∙ ap (λ (z : ReportLine). lines ++ z ∷ []) is)
    ∙ append_assoc lines (leaf_line pairs brick x ∷ []) (leaf_lines pairs brick (drop (i + 1) ls))
    ∙ ap (λ r. lines ++ leaf_lines pairs brick r) (sym split)
    ∙ so
