-- What the source of a join answers, in runs.
use Rattle.std.specs.Prelude.{ℕ, ◌≡◌, true, List, Option, Some}
use Rattle.std.specs.List.{AllByRecursion}
use Rattle.dds_base.specs.Name.{Name}
use Rattle.dds_base.specs.declared.number.NodeNo.{NodeNo}
use Rattle.dds_cluster.specs.Trace.{is_run, run_of}
use Rattle.dds_cluster.specs.World.{brick_at}
use Rattle.dds_cluster.specs.declared.step.Step.{Step}
use Rattle.dds_core.specs.Brick.{live_brick_turn}
use Rattle.dds_letters.specs.declared.letter.Letter.{Letter}
use Rattle.dds_letters.specs.declared.letter.Letter.TheVariants as letter
use Rattle.dds_script.specs.Opening.{IsOpening, OpeningOf}
use Rattle.dds_states.specs.declared.brick_state.BrickState.{BrickState}
use Rattle.dds_states.specs.declared.brick_state.OpenOrder.{OpenOrder}
use Rattle.dds_values.specs.Values.{HoldsTable, table}
use Rattle.dds_world.specs.Places.{reached}
use Rattle.dds_copies.specs.Copies.{AsksNext, TellsNext}

-- of each brick in each world of each run of each opening, where it holds the table but for what is pending: at a CopyAsk for the pairs behind
-- the last one that a join has copied it sends the next part of the table's pairs under the join's name, or nothing
abbrev pub SourcesSendTheTable : Type 0
SourcesSendTheTable =
    (o : OpeningOf) (journal : List Step) (brick to : NodeNo) (s : BrickState) (join : OpenOrder) (name : Name) (place : Option ℕ) → IsOpening o
    → is_run o journal ≡ true → brick_at (reached o journal) brick ≡ Some s → HoldsTable (run_of o journal).made s
    → AsksNext join (letter.CopyAsk join.number name place)
    → AllByRecursion (λ (p : NodeNo × Letter). TellsNext (table (run_of o journal).made) join p.1)
    (live_brick_turn s to (letter.CopyAsk join.number name place)).out.letters
