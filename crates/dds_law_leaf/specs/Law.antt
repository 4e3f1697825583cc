-- The third of the facts of reached worlds, and the same of any two worlds of a run.
use Rattle.std.specs.Prelude.{ℕ, ◌≡◌, true, List}
use Rattle.dds_base.specs.declared.leaf.Leaf.{Leaf}
use Rattle.dds_cluster.specs.Trace.{is_run}
use Rattle.dds_cluster.specs.declared.step.Step.{Step}
use Rattle.dds_script.specs.Opening.{IsOpening, OpeningOf}
use Rattle.dds_world.specs.Groups.{HasLeaf, SameStampSameLeaf}
use Rattle.dds_world.specs.Places.{world_at}

-- leaves with one stamp that stand in worlds of the run, in one or at different places, differ in their names alone: a
-- stamp isn't given again, also where no leaf of it is left, nor to a leaf of another name with another list
abbrev pub SameStampAlike : OpeningOf → List Step → Type 0
SameStampAlike o journal =
    (at also : ℕ) (a b : Leaf) → HasLeaf (world_at o journal at) a → HasLeaf (world_at o journal also) b → a.stamp ≡ b.stamp
    → record a { name = b.name } ≡ b

pub record AreOne (o : OpeningOf) (journal : List Step) : Type 0 where
  pub here : SameStampSameLeaf o journal
  pub ever : SameStampAlike o journal

-- of each run of each opening
abbrev pub LeavesAreOne : Type 0
LeavesAreOne = (o : OpeningOf) (journal : List Step) → IsOpening o → is_run o journal ≡ true → AreOne o journal
