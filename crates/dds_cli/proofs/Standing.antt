-- The laws of runs, for the run that a script determines.
use Rattle.std.proofs.Common.{◌≡◌, true, List, Result, Ok, Err, IfOk, subst}
use Rattle.dds_cli.specs.Ended.{IsRunOf}
use Rattle.dds_client_view.proofs.Shown.{where-quiet}
use Rattle.dds_client_view.specs.Law.{ClientsSeeOneHistory, QuietLinesAreAnswered}
use Rattle.dds_law_config.proofs.Quiet.{quiet-answered}
use Rattle.dds_law_config.specs.Law.{AllRunsStand}
use Rattle.dds_script.specs.Opening.{IsOpening, IsScript, ScriptOf}
use Rattle.dds_walk.specs.Walk.{steps}
use Rattle.dds_cluster.specs.Trace.{is_run, run_of}
use Rattle.dds_cluster.specs.declared.step.Step.{Step}
use Rattle.dds_world.specs.Stands.{Stands}

pub ran-ok : {A E : Type 0} (journal : A → List Step) (script : ScriptOf) (result : Result A E) → AllRunsStand
    → ClientsSeeOneHistory → QuietLinesAreAnswered → IsOpening script.opening → IsScript script → IfOk result (λ ran. journal ran ≡ steps script)
    → IfOk result (λ ran. is_run script.opening (journal ran) ≡ true)
    → IfOk result (λ ran. IsRunOf script (journal ran))
ran-ok journal script (Ok ran) stand show answer opening ranges f r =
    let all = stand script.opening (journal ran) opening r in
    let quiet = where-quiet quiet-answered script opening ranges in
    record {
      follows = f;
      run = r;
      caused = all.caused;
      stands = all.stands;
      shown = show script opening ranges (subst (λ j. Stands (run_of script.opening j)) f all.stands) quiet;
      quiet = answer script opening ranges quiet;
    }
ran-ok journal script (Err e) stand show answer opening ranges f r = tt
