-- No node stands twice in lists.
use Rattle.std.specs.Prelude.{ℕ, ◌≡◌, true, List}
use Rattle.dds_base.specs.declared.leaf.Leaf.{Leaf}
use Rattle.dds_cluster.specs.Trace.{is_run}
use Rattle.dds_cluster.specs.declared.step.Step.{Step}
use Rattle.dds_net.proofs.Pairwise.{Pairwise}
use Rattle.dds_script.specs.Opening.{IsOpening, OpeningOf}
use Rattle.dds_world.specs.Groups.{HasLeaf}
use Rattle.dds_world.specs.Places.{reached}

-- each number stands there once
abbrev pub EachOnce : List ℕ → Type 0
EachOnce list = Pairwise (λ m n. m ≡ n → ⊥) list

-- of each leaf that stands in the world that a run of an opening reaches, in a node or in a letter
abbrev pub LeavesListOnce : Type 0
LeavesListOnce =
    (o : OpeningOf) (journal : List Step) (leaf : Leaf) → IsOpening o → is_run o journal ≡ true → HasLeaf (reached o journal) leaf → EachOnce leaf.list
