-- The events that are possible, and which of them a picker picks.
use Rattle.std.specs.Prelude.{ℕ, ◌+◌, ◌-◌, ◌%◌, ◌==◌, Bool, List, [], ◌∷◌, ◌++◌, Option, Some, None, length, count_by, nat_lt, position, slice_get}
use Rattle.std.specs.Prelude.{if◌then◌else◌, zero, suc}
use Rattle.rand_pcg.specs.Lcg.{started, increment_of}
use Rattle.rand_pcg.specs.Pcg.{multiplier_64, pcg32}
use Rattle.dds_base.specs.declared.number.NodeNo.{NodeNo}
use Rattle.dds_script.specs.declared.line.Picker.{Picker}
use Rattle.dds_script.specs.declared.line.Picker.TheVariants as picker
use Rattle.dds_cluster.specs.World.{World}
use Rattle.dds_walk.specs.declared.picking.Event.{Event}
use Rattle.dds_walk.specs.declared.picking.Picking.{Picking}
use Rattle.dds_walk.specs.declared.picking.Picking.TheVariants.{Fifo, Newest, Words}
use Rattle.dds_cluster.specs.declared.step.Message.{Message}
use Rattle.dds_cluster.specs.declared.step.Step.{Step}
use Rattle.dds_cluster.specs.declared.step.Step.TheVariants as step

-- the node at a place
abbrev pub node_at : ℕ → ℕ → NodeNo
node_at bricks at = if nat_lt at bricks then at else 64 + (at - bricks)

-- the event of a first letter, where there is one
abbrev pub first_of : Step → Option Message → List Event
first_of s None = []
first_of s (Some m) = record { number = m.number; step = s } ∷ []

-- Post for the first letter of each outbox
abbrev pub posts : ℕ → ℕ → List (List Message) → List Event
posts bricks at [] = []
posts bricks at (box ∷ boxes) = first_of (step.Post (node_at bricks at)) (slice_get box 0) ++ posts bricks (at + 1) boxes

-- Handle for the first letter of each link from one node
abbrev pub handles : ℕ → NodeNo → ℕ → List (List Message) → List Event
handles bricks from at [] = []
handles bricks from at (l ∷ links) = first_of (step.Handle (node_at bricks at) from) (slice_get l 0) ++ handles bricks from (at + 1) links

abbrev pub all_handles : ℕ → ℕ → List (List (List Message)) → List Event
all_handles bricks at [] = []
all_handles bricks at (row ∷ rows) = handles bricks (node_at bricks at) 0 row ++ all_handles bricks (at + 1) rows

-- the possible events
abbrev pub events : World → List Event
events w = posts (length w.bricks) 0 w.outboxes ++ all_handles (length w.bricks) 0 w.links

-- how many events have letters with lesser numbers
abbrev pub rank_of : List Event → Event → ℕ
rank_of es e = count_by (λ x. nat_lt x.number e.number) es

abbrev pub step_of : Option Event → Option Step
step_of None = None
step_of (Some e) = Some e.step

abbrev pub step_at : List Event → Option ℕ → Option Step
step_at es None = None
step_at es (Some at) = step_of (slice_get es at)

-- the event of this rank
abbrev pub ranked : List Event → ℕ → Option Step
ranked es rank = step_at es (position (λ e. rank_of es e == rank) es)

-- the rank that a picker picks among so many events: the least, the greatest, or by the next word of its generator
abbrev pub rank : Picking → ℕ → ℕ
rank Fifo count = 0
rank Newest count = count - 1
rank (Words g) count = (pcg32 g).0 % count

-- the picker after a pick
abbrev pub after_pick : Picking → Picking
after_pick Fifo = Fifo
after_pick Newest = Newest
after_pick (Words g) = Words (pcg32 g).1

-- a `pick` line begins its generator anew
abbrev pub begun : Picker → Picking
begun picker.Fifo = Fifo
begun picker.Newest = Newest
begun (picker.Seed seed) = Words (started 64 multiplier_64 seed (increment_of 64 2))

abbrev pub picked_of : Picking → List Event → Option Step
picked_of p [] = None
picked_of p (e ∷ es) = ranked (e ∷ es) (rank p (length (e ∷ es)))

-- the picker after it picked, where an event is possible
abbrev pub picks_of : Picking → List Event → Picking
picks_of p [] = p
picks_of p (e ∷ es) = after_pick p

abbrev pub picks : Picking → World → Picking
picks p w = picks_of p (events w)

-- the picked event, where one is possible
abbrev pub picked : Picking → World → Option Step
picked p w = picked_of p (events w)
