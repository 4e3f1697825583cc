-- The agenda of a world: the first letter of each outbox and link that holds one; and where a step may change it.
use Rattle.std.specs.Prelude.{ℕ, ◌+◌, Bool, true, false, List, [], ◌∷◌, ◌++◌, Option, Some, None, option_to_list, slice_get, slice_index_or}
use Rattle.dds_agenda.specs.declared.entry.Entry.{Entry}
use Rattle.dds_agenda.specs.declared.entry.Slot.{Slot}
use Rattle.dds_agenda.specs.declared.entry.Slot.TheVariants.{Outbox, Link}
use Rattle.dds_walk.specs.Picking.{node_at}
use Rattle.dds_walk.specs.declared.picking.Event.{Event}
use Rattle.dds_cluster.specs.World.{World, outbox, place}
use Rattle.dds_cluster.specs.declared.step.Message.{Message}
use Rattle.dds_cluster.specs.declared.step.Step.{Step}
use Rattle.dds_cluster.specs.declared.step.Step.TheVariants as step

-- the entry of a slot whose first letter is this
abbrev pub entry_of : Slot → Option Message → Option Entry
entry_of slot None = None
entry_of slot (Some m) = Some (record { number = m.number; slot = slot })

-- what a slot holds
abbrev pub held : World → Slot → List Message
held w (Outbox at) = slice_index_or w.outboxes at []
held w (Link source at) = slice_index_or (slice_index_or w.links source []) at []

abbrev pub entry_at : World → Slot → Option Entry
entry_at w slot = entry_of slot (slice_get (held w slot) 0)

-- the entries of outboxes, or of the links from one node, from a place on
abbrev pub row_entries : (ℕ → Slot) → ℕ → List (List Message) → List Entry
row_entries slot at [] = []
row_entries slot at (ms ∷ rest) = option_to_list (entry_of (slot at) (slice_get ms 0)) ++ row_entries slot (at + 1) rest

abbrev pub link_entries : ℕ → List (List (List Message)) → List Entry
link_entries at [] = []
link_entries at (row ∷ rows) = row_entries (Link at) 0 row ++ link_entries (at + 1) rows

abbrev pub entries : World → List Entry
entries w = row_entries Outbox 0 w.outboxes ++ link_entries 0 w.links

-- the event that an entry stands for
abbrev pub step_in : ℕ → Slot → Step
step_in bricks (Outbox at) = step.Post (node_at bricks at)
step_in bricks (Link source at) = step.Handle (node_at bricks at) (node_at bricks source)

abbrev pub event_of : ℕ → Entry → Event
event_of bricks e = record { number = e.number; step = step_in bricks e.slot }

-- the link that a step may change, by the places of its ends: the one that Handle takes from, or that Post leads to
abbrev pub link_to : World → ℕ → Option Message → Option (ℕ × ℕ)
link_to w node None = None
link_to w node (Some m) = Some (place w node, place w m.to)

abbrev pub link_of : World → Step → Option (ℕ × ℕ)
link_of w (step.Input node i) = None
link_of w (step.Handle node from) = Some (place w from, place w node)
link_of w (step.Post node) = link_to w node (slice_get (outbox w node) 0)
link_of w (step.Stop node) = None

abbrev pub entry_on : World → Option (ℕ × ℕ) → Option Entry
entry_on w None = None
entry_on w (Some p) = entry_at w (Link p.0 p.1)

-- an object whose work went wrong midway promises nothing
abbrev pub Unless : Bool → Type 0 → Type 0
Unless true fact = Unit {0}
Unless false fact = fact
