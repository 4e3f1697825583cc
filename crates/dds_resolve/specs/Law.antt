-- Who resolves an attempt, in each world that a run reaches.
use Rattle.std.specs.Prelude.{ℕ, ◌≡◌, true, false, List, [], ◌∷◌, Some, map}
use Rattle.std.specs.List.{AllByRecursion}
use Rattle.dds_base.specs.Number.{Txn, same_txn}
use Rattle.dds_brick_rows.specs.Resolution.{is_ready}
use Rattle.dds_cluster.specs.Trace.{is_run, run_of}
use Rattle.dds_cluster.specs.World.{brick_at}
use Rattle.dds_cluster.specs.declared.step.Step.{Step}
use Rattle.dds_script.specs.Opening.{OpeningOf, ranges_of}
use Rattle.dds_script.specs.Ranges.{IsRanges}
use Rattle.dds_states.specs.declared.brick_state.BrickState.{BrickState}
use Rattle.dds_states.specs.declared.brick_state.Resolving.{Resolving}

-- attempts that differ
abbrev pub Differ : List Txn → Type 0
Differ [] = Unit {0}
Differ (x ∷ xs) = AllByRecursion (λ y. same_txn x y ≡ false) xs × Differ xs

abbrev pub txns : List Resolving → List Txn
txns rs = map (λ r. r.txn) rs

-- a brick resolves an attempt once, and only one whose library and members before the brick itself it knows as stopped
pub record IsResolver (n : ℕ) (s : BrickState) : Type 0 where
  pub number : s.number ≡ n
  pub ready : AllByRecursion (λ (r : Resolving). is_ready s.known r.txn r.list n ≡ true) s.resolving
  pub once : Differ (txns s.resolving)

abbrev pub ResolvingsAreReady : Type 0
ResolvingsAreReady =
    (o : OpeningOf) (journal : List Step) → IsRanges (ranges_of o) → is_run o journal ≡ true → (n : ℕ) (s : BrickState) →
    brick_at (run_of o journal).world n ≡ Some s → IsResolver n s
