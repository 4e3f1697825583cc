-- The letters of orders.
use Rattle.std.specs.Prelude.{ℕ, ◌≡◌, ◌<◌, false, true, List, Option, Some, None}
use Rattle.dds_base.specs.declared.number.NodeNo.{NodeNo}
use Rattle.dds_cluster.specs.Trace.{is_run}
use Rattle.dds_cluster.specs.World.{World}
use Rattle.dds_cluster.specs.declared.step.Step.{Step}
use Rattle.dds_letters.specs.declared.letter.Letter.{Letter}
use Rattle.dds_letters.specs.declared.letter.Letter.TheVariants as letter
use Rattle.dds_letters.specs.declared.refusal.Wanted.TheVariants as wanted
use Rattle.dds_order_rows.specs.OwnOrder.{is_leasing}
use Rattle.dds_script.specs.Opening.{IsOpening, OpeningOf}
use Rattle.dds_states.specs.declared.brick_state.BrickState.{BrickState}
use Rattle.dds_states.specs.declared.brick_state.OpenOrder.{OpenOrder}
use Rattle.dds_states.specs.declared.brick_state.OrderPhase.TheVariants.{Installing}
use Rattle.dds_world.specs.Places.{reached, IsLive, Travels}

-- the number of the order that a letter from the order's brick to a member is about
abbrev pub asked_of : Letter → Option ℕ
asked_of (letter.Lease number what) = Some number
asked_of (letter.Release number name) = Some number
asked_of (letter.CopyAsk number name place) = Some number
asked_of (letter.Install number leaf) = Some number
asked_of other = None

-- and that of a letter from a member to the order's brick
abbrev pub said_of : Letter → Option ℕ
said_of (letter.Granted number leaf) = Some number
said_of (letter.LeaseRefused number why) = Some number
said_of (letter.CopyPart number last pairs) = Some number
said_of (letter.Installed number name) = Some number
said_of other = None

-- what a letter about an order that is open says of it: it asks for a lease of its name, or of its leaf; it asks for pairs of its name,
-- while there are leases; it has the leaf that was made. No lease is given back while the order is open
abbrev pub IsOf : OpenOrder → Letter → Type 0
IsOf o (letter.Lease number (wanted.Name name)) = name ≡ o.name
IsOf o (letter.Lease number (wanted.Leaf leaf)) = o.leaf ≡ Some leaf
IsOf o (letter.Release number name) = ⊥
IsOf o (letter.CopyAsk number name place) = (name ≡ o.name) × (is_leasing o.phase ≡ false)
IsOf o (letter.Install number leaf) = o.phase ≡ Installing leaf
IsOf o other = Unit {0}

-- a letter's number is one that the brick gave to an order; where that order is open, the letter is of it
pub record IsNumbered (s : BrickState) (number : ℕ) (l : Letter) : Type 0 where
  pub given : number < s.orders
  pub of : (o : OpenOrder) → s.order ≡ Some o → o.number ≡ number → IsOf o l

-- in a world: no letter about an order is on its way from a brick to itself; the number of a live brick's open order, and that of each
-- letter about a live brick's orders, is one that the brick gave
pub record AreNumbered (w : World) : Type 0 where
  pub open_order : (brick : NodeNo) (s : BrickState) (o : OpenOrder) → IsLive w brick s → s.order ≡ Some o → o.number < s.orders
  pub asked :
      (from to : NodeNo) (l : Letter) (number : ℕ) (s : BrickState) → Travels w from to l → asked_of l ≡ Some number → IsLive w from s
      → IsNumbered s number l
  pub said :
      (from to : NodeNo) (l : Letter) (number : ℕ) (s : BrickState) → Travels w from to l → said_of l ≡ Some number → IsLive w to s
      → IsNumbered s number l
  pub asks_others : (from to : NodeNo) (l : Letter) (number : ℕ) → Travels w from to l → asked_of l ≡ Some number → from ≡ to → ⊥
  pub says_to_others : (from to : NodeNo) (l : Letter) (number : ℕ) → Travels w from to l → said_of l ≡ Some number → from ≡ to → ⊥

-- of each run of each opening
abbrev pub OrdersAreNumbered : Type 0
OrdersAreNumbered = (o : OpeningOf) (journal : List Step) → IsOpening o → is_run o journal ≡ true → AreNumbered (reached o journal)
