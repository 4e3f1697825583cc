-- The possible events are those of the entries, which stand by their slots; before the first step there are none.
use Rattle.std.proofs.Common.{◌≡◌, ℕ, ◌+◌, ◌<◌, ◌≤◌, Bool, false, List, [], ◌∷◌, ◌++◌, Option, Some, None, length, zero, suc, refl, ap, ◌∙◌, sym, arith}
use Rattle.std.specs.Prelude.{map, option_to_list, replicate, slice_get}
use Rattle.std.specs.List.{AllByRecursion}
use Rattle.std.proofs.lemmas.Bool.Decides.{nat_tests}
use Rattle.std.proofs.lemmas.List.{map-append}
use Rattle.dds_agenda.specs.Agenda.{IsPlaced, slot_precedes}
use Rattle.dds_agenda.specs.declared.entry.Entry.{Entry}
use Rattle.dds_agenda.specs.declared.entry.Slot.{Slot}
use Rattle.dds_agenda.specs.declared.entry.Slot.TheVariants.{Outbox, Link}
use Rattle.dds_script.specs.Opening.{OpeningOf}
use Rattle.dds_walk.specs.Agenda.{entries, entry_of, event_of, link_entries, row_entries, step_in}
use Rattle.dds_walk.specs.Picking.{all_handles, events, first_of, handles, node_at, posts}
use Rattle.dds_walk.specs.declared.picking.Event.{Event}
use Rattle.dds_cluster.specs.World.{World, opening_world}
use Rattle.dds_cluster.specs.declared.step.Message.{Message}

-- the events
first-is : (b : ℕ) (slot : Slot) (o : Option Message) (es : List Event) (fs : List Entry) → es ≡ map (event_of b) fs →
    first_of (step_in b slot) o ++ es ≡ map (event_of b) (option_to_list (entry_of slot o) ++ fs)
first-is b slot None es fs h = h
first-is b slot (Some m) es fs h = ap (λ l. event_of b (record { number = m.number; slot = slot }) ∷ l) h

posts-are : (b at : ℕ) (boxes : List (List Message)) → posts b at boxes ≡ map (event_of b) (row_entries Outbox at boxes)
posts-are b at [] = refl
posts-are b at (box ∷ boxes) =
    first-is b (Outbox at) (slice_get box 0) (posts b (at + 1) boxes) (row_entries Outbox (at + 1) boxes) (posts-are b (at + 1) boxes)

handles-are : (b source at : ℕ) (links : List (List Message)) → handles b (node_at b source) at links ≡ map (event_of b) (row_entries (Link source) at links)
handles-are b source at [] = refl
handles-are b source at (ms ∷ links) =
    first-is b (Link source at) (slice_get ms 0) (handles b (node_at b source) (at + 1) links) (row_entries (Link source) (at + 1) links)
    (handles-are b source (at + 1) links)

both-are : (b : ℕ) (es fs : List Event) (gs hs : List Entry) → es ≡ map (event_of b) gs → fs ≡ map (event_of b) hs → es ++ fs ≡ map (event_of b) (gs ++ hs)
both-are b es fs gs hs p q = ap (λ l. l ++ fs) p ∙ ap (λ l. map (event_of b) gs ++ l) q ∙ sym (map-append (event_of b) gs hs)

all-handles-are : (b at : ℕ) (rows : List (List (List Message))) → all_handles b at rows ≡ map (event_of b) (link_entries at rows)
all-handles-are b at [] = refl
all-handles-are b at (row ∷ rows) =
    both-are b (handles b (node_at b at) 0 row) (all_handles b (at + 1) rows) (row_entries (Link at) 0 row) (link_entries (at + 1) rows)
    (handles-are b at 0 row) (all-handles-are b (at + 1) rows)

pub events-are : (w : World) → events w ≡ map (event_of (length w.bricks)) (entries w)
events-are w =
    both-are (length w.bricks) (posts (length w.bricks) 0 w.outboxes) (all_handles (length w.bricks) 0 w.links) (row_entries Outbox 0 w.outboxes)
    (link_entries 0 w.links) (posts-are (length w.bricks) 0 w.outboxes) (all-handles-are (length w.bricks) 0 w.links)

-- what is true of the entries of each slot
all-append : (P : Entry → Type 0) (es fs : List Entry) → AllByRecursion P es → AllByRecursion P fs → AllByRecursion P (es ++ fs)
all-append P [] fs a b = b
all-append P (e ∷ es) fs a b = (a.0, all-append P es fs a.1 b)

all-first : (P : Entry → Type 0) (slot : Slot) (o : Option Message) → ((n : ℕ) → P (record { number = n; slot = slot })) →
    AllByRecursion P (option_to_list (entry_of slot o))
all-first P slot None h = tt
all-first P slot (Some m) h = (h m.number, tt)

row-all : (P : Entry → Type 0) (slot : ℕ → Slot) (at : ℕ) (rest : List (List Message)) → ((c n : ℕ) → at ≤ c → P (record { number = n; slot = slot c })) →
    AllByRecursion P (row_entries slot at rest)
row-all P slot at [] h = tt
row-all P slot at (ms ∷ rest) h =
    all-append P (option_to_list (entry_of (slot at) (slice_get ms 0))) (row_entries slot (at + 1) rest)
    (all-first P (slot at) (slice_get ms 0) (λ n. h at n (omega arith)))
    (row-all P slot (at + 1) rest (λ c n l. h c n (omega (arith, l))))

links-all : (P : Entry → Type 0) (at : ℕ) (rows : List (List (List Message))) → ((r c n : ℕ) → at ≤ r → P (record { number = n; slot = Link r c })) →
    AllByRecursion P (link_entries at rows)
links-all P at [] h = tt
links-all P at (row ∷ rows) h =
    all-append P (row_entries (Link at) 0 row) (link_entries (at + 1) rows)
    (row-all P (Link at) 0 row (λ c n l. h at c n (omega arith)))
    (links-all P (at + 1) rows (λ r c n l. h r c n (omega (arith, l))))

-- the entries stand by their slots
abbrev slot_before : Entry → Entry → Bool
slot_before a b = slot_precedes a.slot b.slot

abbrev NoneBefore : List Entry → Entry → Type 0
NoneBefore fs x = AllByRecursion (λ y. slot_before y x ≡ false) fs

sorted-append : (es fs : List Entry) → IsPlaced es → IsPlaced fs → AllByRecursion (NoneBefore fs) es → IsPlaced (es ++ fs)
sorted-append [] fs a b h = b
sorted-append (e ∷ es) fs a b h =
    (all-append (λ y. slot_before y e ≡ false) es fs a.0 h.0, sorted-append es fs a.1 b h.1)

sorted-first : (slot : Slot) (o : Option Message) → IsPlaced (option_to_list (entry_of slot o))
sorted-first slot None = tt
sorted-first slot (Some m) = (tt, tt)

row-placed : (slot : ℕ → Slot) (at : ℕ) (rest : List (List Message)) → ((c d : ℕ) → c ≤ d → slot_precedes (slot d) (slot c) ≡ false) →
    IsPlaced (row_entries slot at rest)
row-placed slot at [] h = tt
row-placed slot at (ms ∷ rest) h =
    sorted-append (option_to_list (entry_of (slot at) (slice_get ms 0))) (row_entries slot (at + 1) rest) (sorted-first (slot at) (slice_get ms 0))
    (row-placed slot (at + 1) rest h)
    (all-first (NoneBefore (row_entries slot (at + 1) rest)) (slot at) (slice_get ms 0)
    (λ n. row-all (λ y. slot_precedes y.slot (slot at) ≡ false) slot (at + 1) rest (λ c m l. h at c (omega (arith, l)))))

outbox-order : (c d : ℕ) → c ≤ d → slot_precedes (Outbox d) (Outbox c) ≡ false
outbox-order c d l = grind (arith, nat_tests, l)

link-order : (r c d : ℕ) → c ≤ d → slot_precedes (Link r d) (Link r c) ≡ false
link-order r c d l = grind (arith, nat_tests, l)

later-link : (r s c d : ℕ) → r < s → slot_precedes (Link s d) (Link r c) ≡ false
later-link r s c d l = grind (arith, nat_tests, l)

links-placed : (at : ℕ) (rows : List (List (List Message))) → IsPlaced (link_entries at rows)
links-placed at [] = tt
links-placed at (row ∷ rows) =
    sorted-append (row_entries (Link at) 0 row) (link_entries (at + 1) rows) (row-placed (Link at) 0 row (link-order at)) (links-placed (at + 1) rows)
    (row-all (NoneBefore (link_entries (at + 1) rows)) (Link at) 0 row
    (λ c n l. links-all (λ y. slot_precedes y.slot (Link at c) ≡ false) (at + 1) rows (λ r d m k. later-link at r c d (omega (arith, k)))))

pub entries-placed : (w : World) → IsPlaced (entries w)
entries-placed w =
    sorted-append (row_entries Outbox 0 w.outboxes) (link_entries 0 w.links) (row-placed Outbox 0 w.outboxes outbox-order) (links-placed 0 w.links)
    (row-all (NoneBefore (link_entries 0 w.links)) Outbox 0 w.outboxes
    (λ c n l. links-all (λ y. slot_precedes y.slot (Outbox c) ≡ false) 0 w.links (λ r d m k. refl)))

-- before the first step
row-none : (slot : ℕ → Slot) (at n : ℕ) → row_entries slot at (replicate n []) ≡ []
row-none slot at zero = refl
row-none slot at (suc n) = row-none slot (at + 1) n

links-none : (at n m : ℕ) → link_entries at (replicate n (replicate m [])) ≡ []
links-none at zero m = refl
links-none at (suc n) m =
    ap (λ l. l ++ link_entries (at + 1) (replicate n (replicate m []))) (row-none (Link at) 0 m) ∙ links-none (at + 1) n m

pub entries-none : (o : OpeningOf) → entries (opening_world o) ≡ []
entries-none o =
    ap (λ l. l ++ link_entries 0 (opening_world o).links) (row-none Outbox 0 (o.bricks + o.libraries))
    ∙ links-none 0 (o.bricks + o.libraries) (o.bricks + o.libraries)
