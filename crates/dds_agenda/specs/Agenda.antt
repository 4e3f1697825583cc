-- The first letters of outboxes and links, by their numbers.
use Rattle.std.specs.Prelude.{ℕ, Bool, true, false, ◌≡◌, ◌==◌, ◌&&◌, ◌||◌, List, [], ◌∷◌, Option, Some, None, count_by, find, nat_lt, if◌then◌else◌}
use Rattle.std.specs.List.{AllByRecursion, sum_by}
use Rattle.dds_agenda.specs.declared.entry.Entry.{Entry}
use Rattle.dds_agenda.specs.declared.entry.Slot.{Slot}
use Rattle.dds_agenda.specs.declared.entry.Slot.TheVariants.{Outbox, Link}

-- outboxes stand before links, both by their nodes' places, links by the sender's first
abbrev pub slot_precedes : Slot → Slot → Bool
slot_precedes (Outbox at) (Outbox place) = nat_lt at place
slot_precedes (Outbox at) (Link source place) = true
slot_precedes (Link source place) (Outbox at) = false
slot_precedes (Link f t) (Link source place) = nat_lt f source || (f == source && nat_lt t place)

-- entries stand by their numbers, and by their slots where those are equal
abbrev pub precedes : Entry → Entry → Bool
precedes a b = nat_lt a.number b.number || (a.number == b.number && slot_precedes a.slot b.slot)

-- no entry goes before one that stands before it
abbrev pub AreSorted : (Entry → Entry → Bool) → List Entry → Type 0
AreSorted before [] = Unit {0}
AreSorted before (e ∷ es) = AllByRecursion (λ x. before x e ≡ false) es × AreSorted before es

abbrev pub IsOrdered : List Entry → Type 0
IsOrdered es = AreSorted precedes es

-- with one entry more, behind those that precede it
abbrev pub put : Entry → List Entry → List Entry
put k [] = k ∷ []
put k (e ∷ es) = if precedes e k then e ∷ put k es else k ∷ e ∷ es

-- without an entry: the first that doesn't precede it, where that is the entry itself
abbrev pub take_out : Entry → List Entry → List Entry
take_out k [] = []
take_out k (e ∷ es) = if precedes e k then e ∷ take_out k es else (if precedes k e then e ∷ es else es)

-- how many entries have lesser numbers
abbrev pub rank_of : List Entry → Entry → ℕ
rank_of es e = count_by (λ x. nat_lt x.number e.number) es

-- the first entry of this rank
abbrev pub ranked : List Entry → ℕ → Option Entry
ranked es rank = find (λ e. rank_of es e == rank) es

-- an entry that there may be goes, and another comes
abbrev pub put_some : Option Entry → List Entry → List Entry
put_some None es = es
put_some (Some k) es = put k es

abbrev pub take_some : Option Entry → List Entry → List Entry
take_some None es = es
take_some (Some k) es = take_out k es

abbrev pub exchanged : Option Entry → Option Entry → List Entry → List Entry
exchanged old new es = put_some new (take_some old es)

-- both lists have the same entries, each as often
abbrev pub AreSame : List Entry → List Entry → Type 0
AreSame es fs = (f : Entry → ℕ) → sum_by f es ≡ sum_by f fs

-- the entries stand by their slots
abbrev pub IsPlaced : List Entry → Type 0
IsPlaced es = AreSorted (λ a b. slot_precedes a.slot b.slot) es
