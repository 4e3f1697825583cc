-- The pairs that an order has copied, and those that are on their way to it.
use Rattle.std.specs.Prelude.{ℕ, ◌≡◌, Bool, true, List, [], Some, None}
use Rattle.std.specs.List.{AllByRecursion}
use Rattle.dds_base.specs.Name.{covers}
use Rattle.dds_base.specs.Place.{rise_after}
use Rattle.dds_base.specs.declared.number.NodeNo.{NodeNo}
use Rattle.dds_base.specs.declared.pair.Pair.{Pair}
use Rattle.dds_cluster.specs.Trace.{is_run}
use Rattle.dds_cluster.specs.World.{World, brick_at}
use Rattle.dds_cluster.specs.declared.step.Step.{Step}
use Rattle.dds_letters.specs.declared.letter.Letter.TheVariants as letter
use Rattle.dds_order_rows.specs.OwnOrder.{is_leasing}
use Rattle.dds_script.specs.Opening.{IsOpening, OpeningOf}
use Rattle.dds_states.specs.declared.brick_state.BrickState.{BrickState}
use Rattle.dds_states.specs.declared.brick_state.OpenOrder.{OpenOrder}
use Rattle.dds_world.specs.Places.{reached, Travels}

-- the order's copied pairs lie under its name, in order of place and each key once; while it leases it has copied none
pub record HasCopied (o : OpenOrder) : Type 0 where
  pub under : AllByRecursion (λ (p : Pair). covers o.name p.key ≡ true) o.copied
  pub rise : rise_after None o.copied ≡ true
  pub none : is_leasing o.phase ≡ true → o.copied ≡ []

pub record PairsRise (w : World) : Type 0 where
  pub orders : (brick : NodeNo) (s : BrickState) (o : OpenOrder) → brick_at w brick ≡ Some s → s.order ≡ Some o → HasCopied o
  pub parts :
      (from to : NodeNo) (number : ℕ) (last : Bool) (pairs : List Pair) → Travels w from to (letter.CopyPart number last pairs)
      → rise_after None pairs ≡ true

-- of each world of each run of each opening
abbrev pub CopiedPairsRise : Type 0
CopiedPairsRise = (o : OpeningOf) (journal : List Step) → IsOpening o → is_run o journal ≡ true → PairsRise (reached o journal)
