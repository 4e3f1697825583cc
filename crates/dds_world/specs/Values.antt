-- Bricks hold what the one history left, and a join copies it. The first is proved of every run, the second of bound joins alone.
use Rattle.std.specs.Prelude.{ℕ, ◌≡◌, ◌⊎◌, ◌&&◌, ◌+◌, Bool, true, false, not, List, [], ◌∷◌, ◌++◌, Option, Some, None, length, map, take, if◌then◌else◌}
use Rattle.std.specs.FinMap.{get}
use Rattle.dds_base.specs.Name.{covers}
use Rattle.dds_base.specs.Number.{Txn, same_txn}
use Rattle.dds_base.specs.Op.{is_get}
use Rattle.dds_base.specs.Place.{last_key}
use Rattle.dds_base.specs.declared.leaf.Leaf.{Leaf}
use Rattle.dds_base.specs.declared.number.NodeNo.{NodeNo}
use Rattle.dds_base.specs.declared.pair.Pair.{Pair}
use Rattle.dds_brick_rows.specs.Refusal.{is_join}
use Rattle.dds_cluster.specs.Trace.{run_of}
use Rattle.dds_cluster.specs.declared.step.Step.{Step}
use Rattle.dds_cluster.specs.declared.trace.Made.{Made}
use Rattle.dds_cluster.specs.declared.trace.Trace.{Trace}
use Rattle.dds_history.specs.History.{IsLegal, replay}
use Rattle.dds_history.specs.Map.{Map}
use Rattle.dds_history.specs.declared.entry.Entry.{Entry}
use Rattle.dds_letters.specs.declared.letter.Letter.TheVariants as letter
use Rattle.dds_locks.specs.Leases.{is_given}
use Rattle.dds_locks.specs.Pending.{holder, any_under}
use Rattle.dds_order_rows.specs.Orders.{pairs_after}
use Rattle.dds_script.specs.Opening.{OpeningOf}
use Rattle.dds_states.specs.declared.brick_state.BrickState.{BrickState}
use Rattle.dds_states.specs.declared.brick_state.OpenOrder.{OpenOrder}
use Rattle.dds_states.specs.declared.brick_state.OrderPhase.{OrderPhase}
use Rattle.dds_states.specs.declared.brick_state.OrderPhase.TheVariants.{Leasing, Copying, Installing}
use Rattle.dds_world.specs.Places.{reached, world_at, IsLive, Serves, Travels}
use Rattle.dds_world.specs.Stands.{history}

-- the entries before that of a transaction
abbrev pub before_entry : List Made → Txn → List Made
before_entry [] txn = []
before_entry (m ∷ ms) txn = if same_txn m.txn txn && not (is_get m.entry.op) then [] else m ∷ before_entry ms txn

abbrev pub entries_of_points : List Made → List Entry
entries_of_points ms = map (λ m. m.entry) ms

abbrev pub pending_on : BrickState → ℕ → Option Txn
pending_on s key = holder s.locks.pending key

-- what a brick has for a key that it serves: what the history left, before the entry of a transaction pending on it
abbrev pub IsHeld : Trace → BrickState → ℕ → Option Txn → Type 0
IsHeld t s key None = get s.pairs key ≡ get (replay (history t)) key
IsHeld t s key (Some txn) = get s.pairs key ≡ get (replay (entries_of_points (before_entry t.made txn))) key

-- bricks hold what the one history left, and what was read was right when it was read
pub record ServersHoldTheHistory (o : OpeningOf) (journal : List Step) : Type 0 where
  pub held :
      (brick : NodeNo) (key : ℕ) (s : BrickState) (leaf : Leaf) →
      Serves (reached o journal) brick key s leaf →
      IsHeld (run_of o journal) s key (pending_on s key)
  pub reads : IsLegal (entries_of_points (run_of o journal).made)

-- at some place of the run a part that the source copied for this order was on its way
pub record HasSentPart (o : OpeningOf) (journal : List Step) (source joiner : NodeNo) (number : ℕ) : Type 0 where
  pub at : ℕ
  pub last : Bool
  pub pairs : List Pair
  pub sent : Travels (world_at o journal at) source joiner (letter.CopyPart number last pairs)

pub record CopiesFrom (o : OpeningOf) (journal : List Step) (joiner : NodeNo) (order : OpenOrder) : Type 0 where
  pub source : NodeNo
  pub phase : order.phase ≡ Copying source
  pub source_is : ((s : BrickState) × (IsLive (reached o journal) source s)) ⊎ HasSentPart o journal source joiner order.number

pub record Installs (order : OpenOrder) : Type 0 where
  pub made : Leaf
  pub phase : order.phase ≡ Installing made

-- a live brick with an open join that installs, or that copies from a member which is live or has sent a part of this copy
pub record Copies (o : OpeningOf) (journal : List Step) (joiner : NodeNo) (s : BrickState) (order : OpenOrder) : Type 0 where
  pub live : IsLive (reached o journal) joiner s
  pub open_order : s.order ≡ Some order
  pub join : is_join order.task ≡ true
  pub copied : Installs order ⊎ CopiesFrom o journal joiner order

-- the pairs that a join has copied: all of the history's under its name while it installs, and while it copies those up to
-- the last key copied
abbrev pub AreCopied : Map → OpenOrder → OrderPhase → Type 0
AreCopied table o Leasing = Unit {0}
AreCopied table o (Copying source) =
    o.copied ++ pairs_after table o.name (last_key None o.copied) ≡ pairs_after table o.name None
AreCopied table o (Installing made) = o.copied ≡ pairs_after table o.name None

-- the pairs of the history under an order's name
abbrev pub pairs_of_order : OpeningOf → List Step → OpenOrder → List Pair
pairs_of_order o journal order = pairs_after (replay (history (run_of o journal))) order.name None

-- while a join copies or installs, each brick that serves a key under its name has given it the lease and has no key there
-- pending, what was copied is the history's, and no step changes the history's pairs there
pub record JoinIsFrozen (o : OpeningOf) (journal : List Step) : Type 0 where
  pub leased :
      (joiner brick : NodeNo) (s t : BrickState) (order : OpenOrder) (key : ℕ) (leaf : Leaf) →
      Copies o journal joiner s order →
      covers order.name key ≡ true →
      Serves (reached o journal) brick key t leaf →
      (is_given t.locks.leases order.name joiner ≡ true) × (any_under t.locks.pending order.name ≡ false)
  pub copied :
      (joiner : NodeNo) (s : BrickState) (order : OpenOrder) →
      Copies o journal joiner s order →
      AreCopied (replay (history (run_of o journal))) order order.phase
  pub still :
      (joiner : NodeNo) (s t : BrickState) (order later : OpenOrder) (at : ℕ) →
      length journal ≡ at + 1 →
      Copies o (take at journal) joiner s order →
      Copies o journal joiner t later →
      later.number ≡ order.number →
      pairs_of_order o journal order ≡ pairs_of_order o (take at journal) order
