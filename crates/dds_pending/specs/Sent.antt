-- Whom Prepares on their way list.
use Rattle.std.specs.Prelude.{ℕ, ◌≡◌, true, List}
use Rattle.dds_base.specs.Name.{Name}
use Rattle.dds_base.specs.Number.{StampOf, Txn}
use Rattle.dds_base.specs.declared.leaf.Leaf.{Leaf}
use Rattle.dds_base.specs.declared.number.CallNo.{CallNo}
use Rattle.dds_base.specs.declared.number.CallerNo.{CallerNo}
use Rattle.dds_base.specs.declared.number.NodeNo.{NodeNo}
use Rattle.dds_base.specs.declared.op.Op.{Op}
use Rattle.dds_cluster.specs.Trace.{is_run}
use Rattle.dds_cluster.specs.declared.step.Step.{Step}
use Rattle.dds_letters.specs.declared.letter.Letter.TheVariants as letter
use Rattle.dds_script.specs.Opening.{IsOpening, OpeningOf}
use Rattle.dds_world.specs.Groups.{HasLeaf, ListsTheLive}
use Rattle.dds_world.specs.Places.{reached, Travels}

-- of each run of each opening: where a Prepare is on its way, and a leaf of the stamp that it tells stands in the world, the Prepare
-- lists each live member of the leaf's list
abbrev pub PreparesListTheLive : Type 0
PreparesListTheLive =
    (o : OpeningOf) (journal : List Step) (from to : NodeNo) (txn : Txn) (caller : CallerNo) (call : CallNo) (below : ℕ) (name : Name) (stamp : StampOf)
    (list : List NodeNo) (op : Op) (leaf : Leaf) → IsOpening o → is_run o journal ≡ true
    → Travels (reached o journal) from to (letter.Prepare txn caller call below name stamp list op) → HasLeaf (reached o journal) leaf → leaf.stamp ≡ stamp
    → ListsTheLive (reached o journal) leaf.list list
