-- Where the updates of a run stand in its history.
use Rattle.std.specs.Prelude.{◌≡◌, false, true, List}
use Rattle.std.specs.List.{AllByRecursion}
use Rattle.dds_base.specs.Op.{is_get}
use Rattle.dds_cluster.specs.Trace.{is_run, run_of}
use Rattle.dds_cluster.specs.declared.step.Step.{Step}
use Rattle.dds_cluster.specs.declared.trace.Asked.{Asked}
use Rattle.dds_cluster.specs.declared.trace.Made.{Made}
use Rattle.dds_cluster.specs.declared.trace.Told.{Told}
use Rattle.dds_cluster.specs.declared.trace.Trace.{Trace}
use Rattle.dds_script.specs.Opening.{IsOpening, OpeningOf}
use Rattle.dds_world.specs.Stands.{AtMostOneAfter, RefusedNever, entries_of, placed_history}

-- an update has at most one entry, behind its Input
abbrev pub UpdateOnce : List Made → Asked → Type 0
UpdateOnce entries a = is_get a.op ≡ false → AtMostOneAfter a.place (entries_of entries a)

abbrev pub UpdatesOnce : Trace → Type 0
UpdatesOnce t = AllByRecursion (UpdateOnce (placed_history t)) t.asked

-- an update that was refused has none
abbrev pub UpdateNever : List Told → List Made → Asked → Type 0
UpdateNever told entries a = is_get a.op ≡ false → RefusedNever told entries a

abbrev pub RefusedUpdatesNever : Trace → Type 0
RefusedUpdatesNever t = AllByRecursion (UpdateNever t.told (placed_history t)) t.asked

-- of each run of each opening
abbrev pub UpdatesStandOnce : Type 0
UpdatesStandOnce = (o : OpeningOf) (journal : List Step) → IsOpening o → is_run o journal ≡ true → UpdatesOnce (run_of o journal)

abbrev pub RefusedUpdatesStandNever : Type 0
RefusedUpdatesStandNever = (o : OpeningOf) (journal : List Step) → IsOpening o → is_run o journal ≡ true → RefusedUpdatesNever (run_of o journal)
