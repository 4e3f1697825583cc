-- The run that a script determines, made once: its journal is a run, and its lines are those of the transcript over it.
use Rattle.std.proofs.Common.{◌≡◌, ℕ, true, List, Some, None, Result, Ok, Err, IfOk, sym, ap, ◌∙◌}
use Rattle.std.specs.List.{AllByRecursion}
use Rattle.dds_script.specs.Opening.{ScriptOf, ranges_of}
use Rattle.dds_script.specs.Ranges.{IsInRanges, IsRanges}
use Rattle.dds_script.specs.declared.line.Line.{Line}
use Rattle.dds_transcript.specs.declared.report_line.ReportLine.{ReportLine}
use Rattle.dds_walk.proofs.AlongLines.{lines-alone}
use Rattle.dds_walk.proofs.Walked.{steps-run}
use Rattle.dds_walk.specs.Walk.{ended, first_walk, lines_done, plays_rest}
use Rattle.dds_walk.specs.declared.walk.Walk.{Walk}
use Rattle.dds_cluster.specs.Trace.{is_run}
use Rattle.dds_cluster.specs.declared.step.Step.{Step}

pub walked-once : (limit : ℕ) (script : ScriptOf) (w v : Walk) (ls : List Line)
    → w ≡ first_walk script None → ls ≡ script.lines → v ≡ lines_done limit w ls
    → v ≡ lines_done limit (first_walk script None) script.lines
walked-once limit script w v ls first all is =
    is ∙ ap (λ (x : Walk). lines_done limit x ls) first ∙ ap (λ (x : List Line). lines_done limit (first_walk script None) x) all

pub steps-once : {A E : Type 0} (limit : ℕ) (script : ScriptOf) (v : Walk) (journal : A → List Step) (result : Result A E)
    → v ≡ lines_done limit (first_walk script None) script.lines → IfOk result (λ x. journal x ≡ v.steps)
    → IfOk result (λ x. journal x ≡ (lines_done limit (first_walk script None) script.lines).steps)
steps-once limit script v journal (Ok x) is j = j ∙ ap (λ (u : Walk). u.steps) is
steps-once limit script v journal (Err e) is j = tt

pub run-once : {A E : Type 0} (limit : ℕ) (script : ScriptOf) (v : Walk) (journal : A → List Step) (result : Result A E)
    → IsRanges (ranges_of script.opening) → AllByRecursion (IsInRanges (ranges_of script.opening)) script.lines
    → v ≡ lines_done limit (first_walk script None) script.lines → IfOk result (λ x. journal x ≡ v.steps)
    → IfOk result (λ x. is_run script.opening (journal x) ≡ true)
run-once limit script v journal (Ok x) r h is j =
    ap (is_run script.opening) (j ∙ ap (λ (u : Walk). u.steps) is) ∙ steps-run limit script r h
run-once limit script v journal (Err e) r h is j = tt

pub lines-once : {A E : Type 0} (limit : ℕ) (script : ScriptOf) (v : Walk) (journal : A → List Step) (lines : A → List ReportLine) (result : Result A E)
    → IsRanges (ranges_of script.opening) → AllByRecursion (IsInRanges (ranges_of script.opening)) script.lines
    → v ≡ lines_done limit (first_walk script None) script.lines
    → IfOk result (λ x. journal x ≡ v.steps) → IfOk result (λ x. lines x ≡ ended v)
    → IfOk result (λ x. lines x ≡ ended (plays_rest (lines_done limit (first_walk script (Some (journal x))) script.lines)))
lines-once limit script v journal lines (Ok x) r h is j l =
    let whole : List Step → List ReportLine = λ s. ended (plays_rest (lines_done limit (first_walk script (Some s)) script.lines)) in
    l ∙ ap ended is ∙ lines-alone limit script r h ∙ ap whole (sym (j ∙ ap (λ (u : Walk). u.steps) is))
lines-once limit script v journal lines (Err e) r h is j l = tt
