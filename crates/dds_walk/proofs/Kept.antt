-- Exchanging the entries of the slots that a step changes keeps the agenda.
use Rattle.std.proofs.Common.{◌≡◌, ℕ, ◌+◌, ◌≤◌, Bool, false, List, [], ◌∷◌, ◌++◌, Option, Some, None, zero, suc, refl, ap, subst, ◌∙◌, sym, arith}
use Rattle.std.specs.Prelude.{option_to_list, slice_get, slice_index_or, slice_set, IfSome}
use Rattle.std.specs.List.{sum_by}
use Rattle.std.proofs.lemmas.List.Sums.{sum_by-append, sum_by-cons}
use Rattle.dds_agenda.proofs.Exchanged.{exchanged-same, weight}
use Rattle.dds_agenda.specs.Agenda.{AreSame, IsOrdered, exchanged}
use Rattle.dds_agenda.specs.declared.entry.Entry.{Entry}
use Rattle.dds_agenda.specs.declared.entry.Slot.{Slot}
use Rattle.dds_agenda.specs.declared.entry.Slot.TheVariants.{Outbox, Link}
use Rattle.dds_walk.proofs.Changed.{IsChanged, IsLinkSet, next-changes}
use Rattle.dds_walk.specs.Agenda.{Unless, entries, entry_at, entry_of, entry_on, link_entries, link_of, row_entries}
use Rattle.dds_walk.specs.Walk.{node_of}
use Rattle.dds_cluster.specs.Trace.{next}
use Rattle.dds_cluster.specs.World.{World, place}
use Rattle.dds_cluster.specs.declared.step.Message.{Message}
use Rattle.dds_cluster.specs.declared.step.Step.{Step}
use Rattle.dds_cluster.specs.declared.trace.Trace.{Trace}

-- the entry of a slot with these letters
abbrev first : Slot → List Message → Option Entry
first slot ms = entry_of slot (slice_get ms 0)

sum-first : (f : Entry → ℕ) (o : Option Entry) (es : List Entry) → sum_by f (option_to_list o ++ es) ≡ weight f o + sum_by f es
sum-first f None es = omega arith
sum-first f (Some e) es = sum_by-cons f e es

-- in a row
abbrev at_place : List (List Message) → ℕ → List Message
at_place xs i = slice_index_or xs i []

row-sum : (f : Entry → ℕ) (slot : ℕ → Slot) (k : ℕ) (xs : List (List Message)) (i j : ℕ) (v : List Message) → j ≡ k + i →
    sum_by f (row_entries slot k (slice_set xs i v)) + weight f (first (slot j) (at_place xs i))
    ≡ sum_by f (row_entries slot k xs) + weight f (first (slot j) (at_place (slice_set xs i v) i))
row-sum f slot k [] i j v e = refl
row-sum f slot k (x ∷ xs) zero j v e =
    let at : j ≡ k = omega (arith, e) in
    let a = sum-first f (first (slot k) v) (row_entries slot (k + 1) xs) in
    let b = sum-first f (first (slot k) x) (row_entries slot (k + 1) xs) in
    subst (λ n. sum_by f (row_entries slot k (v ∷ xs)) + weight f (first (slot n) x) ≡ sum_by f (row_entries slot k (x ∷ xs)) + weight f (first (slot n) v))
    (sym at) (omega (arith, a, b))
row-sum f slot k (x ∷ xs) (suc i) j v e =
    let a = sum-first f (first (slot k) x) (row_entries slot (k + 1) (slice_set xs i v)) in
    let b = sum-first f (first (slot k) x) (row_entries slot (k + 1) xs) in
    let r = row-sum f slot (k + 1) xs i j v (omega (arith, e)) in
    omega (arith, a, b, r)

row-low : (f : Entry → ℕ) (slot : ℕ → Slot) (k : ℕ) (xs : List (List Message)) (i j : ℕ) → j ≡ k + i →
    weight f (first (slot j) (at_place xs i)) ≤ sum_by f (row_entries slot k xs)
row-low f slot k [] i j e = omega arith
row-low f slot k (x ∷ xs) zero j e =
    let at : j ≡ k = omega (arith, e) in
    let b = sum-first f (first (slot k) x) (row_entries slot (k + 1) xs) in
    subst (λ n. weight f (first (slot n) x) ≤ sum_by f (row_entries slot k (x ∷ xs))) (sym at) (omega (arith, b))
row-low f slot k (x ∷ xs) (suc i) j e =
    let b = sum-first f (first (slot k) x) (row_entries slot (k + 1) xs) in
    let r = row-low f slot (k + 1) xs i j (omega (arith, e)) in
    omega (arith, b, r)

-- in the rows of links
abbrev row_at : List (List (List Message)) → ℕ → List (List Message)
row_at rows i = slice_index_or rows i []

link-sum : (f : Entry → ℕ) (k : ℕ) (rows : List (List (List Message))) (i j to : ℕ) (v : List Message) → j ≡ k + i →
    sum_by f (link_entries k (slice_set rows i (slice_set (row_at rows i) to v))) + weight f (first (Link j to) (at_place (row_at rows i) to))
    ≡ sum_by f (link_entries k rows) + weight f (first (Link j to) (at_place (row_at (slice_set rows i (slice_set (row_at rows i) to v)) i) to))
link-sum f k [] i j to v e = refl
link-sum f k (x ∷ rows) zero j to v e =
    let at : j ≡ k = omega (arith, e) in
    let a = sum_by-append f (row_entries (Link k) 0 (slice_set x to v)) (link_entries (k + 1) rows) in
    let b = sum_by-append f (row_entries (Link k) 0 x) (link_entries (k + 1) rows) in
    let r = row-sum f (Link k) 0 x to to v (omega arith) in
    subst (λ n. sum_by f (link_entries k (slice_set x to v ∷ rows)) + weight f (first (Link n to) (at_place x to))
    ≡ sum_by f (link_entries k (x ∷ rows)) + weight f (first (Link n to) (at_place (slice_set x to v) to))) (sym at) (omega (arith, a, b, r))
link-sum f k (x ∷ rows) (suc i) j to v e =
    let a = sum_by-append f (row_entries (Link k) 0 x) (link_entries (k + 1) (slice_set rows i (slice_set (row_at rows i) to v))) in
    let b = sum_by-append f (row_entries (Link k) 0 x) (link_entries (k + 1) rows) in
    let r = link-sum f (k + 1) rows i j to v (omega (arith, e)) in
    omega (arith, a, b, r)

link-low : (f : Entry → ℕ) (k : ℕ) (rows : List (List (List Message))) (i j to : ℕ) → j ≡ k + i →
    weight f (first (Link j to) (at_place (row_at rows i) to)) ≤ sum_by f (link_entries k rows)
link-low f k [] i j to e = omega arith
link-low f k (x ∷ rows) zero j to e =
    let at : j ≡ k = omega (arith, e) in
    let b = sum_by-append f (row_entries (Link k) 0 x) (link_entries (k + 1) rows) in
    let r = row-low f (Link k) 0 x to to (omega arith) in
    subst (λ n. weight f (first (Link n to) (at_place x to)) ≤ sum_by f (link_entries k (x ∷ rows))) (sym at) (omega (arith, b, r))
link-low f k (x ∷ rows) (suc i) j to e =
    let b = sum_by-append f (row_entries (Link k) 0 x) (link_entries (k + 1) rows) in
    let r = link-low f (k + 1) rows i j to (omega (arith, e)) in
    omega (arith, b, r)

-- the outbox's entry is exchanged
outbox-kept : (at : ℕ) (xs ys : List (List Message)) (links fs : List Entry) → ys ≡ slice_set xs at (at_place ys at) →
    IfSome (first (Outbox at) (at_place xs at)) (λ e. IsOrdered fs) → AreSame (row_entries Outbox 0 xs ++ links) fs →
    AreSame (row_entries Outbox 0 ys ++ links) (exchanged (first (Outbox at) (at_place xs at)) (first (Outbox at) (at_place ys at)) fs)
outbox-kept at xs ys links fs is ordered same =
    exchanged-same (first (Outbox at) (at_place xs at)) (first (Outbox at) (at_place ys at)) (row_entries Outbox 0 xs ++ links)
    (row_entries Outbox 0 ys ++ links) fs ordered same
    (λ f. let low = row-low f Outbox 0 xs at at (omega arith) in let a = sum_by-append f (row_entries Outbox 0 xs) links in omega (arith, low, a))
    (λ f.
    let change : sum_by f (row_entries Outbox 0 ys) + weight f (first (Outbox at) (at_place xs at))
    ≡ sum_by f (row_entries Outbox 0 xs) + weight f (first (Outbox at) (at_place ys at)) =
    subst (λ zs. sum_by f (row_entries Outbox 0 zs) + weight f (first (Outbox at) (at_place xs at))
    ≡ sum_by f (row_entries Outbox 0 xs) + weight f (first (Outbox at) (at_place zs at))) (sym is)
    (row-sum f Outbox 0 xs at at (at_place ys at) (omega arith)) in
    let a = sum_by-append f (row_entries Outbox 0 xs) links in
    let b = sum_by-append f (row_entries Outbox 0 ys) links in
    omega (arith, change, a, b))

-- the link's entry is exchanged, where one may have changed
abbrev first_link : List (List (List Message)) → Option (ℕ × ℕ) → Option Entry
first_link rows None = None
first_link rows (Some p) = first (Link p.0 p.1) (at_place (row_at rows p.0) p.1)

link-kept : (to : Option (ℕ × ℕ)) (xs ys : List (List (List Message))) (posts fs : List Entry) → IsLinkSet to xs ys →
    IfSome (first_link xs to) (λ e. IsOrdered fs) → AreSame (posts ++ link_entries 0 xs) fs →
    AreSame (posts ++ link_entries 0 ys) (exchanged (first_link xs to) (first_link ys to) fs)
link-kept None xs ys posts fs is ordered same = subst (λ zs. AreSame (posts ++ link_entries 0 zs) fs) (sym is) same
link-kept (Some p) xs ys posts fs is ordered same =
    exchanged-same (first_link xs (Some p)) (first_link ys (Some p)) (posts ++ link_entries 0 xs) (posts ++ link_entries 0 ys) fs ordered same
    (λ f. let low = link-low f 0 xs p.0 p.0 p.1 (omega arith) in let a = sum_by-append f posts (link_entries 0 xs) in omega (arith, low, a))
    (λ f.
    let change : sum_by f (link_entries 0 ys) + weight f (first_link xs (Some p)) ≡ sum_by f (link_entries 0 xs) + weight f (first_link ys (Some p)) =
    subst (λ zs. sum_by f (link_entries 0 zs) + weight f (first_link xs (Some p)) ≡ sum_by f (link_entries 0 xs) + weight f (first_link zs (Some p))) (sym is)
    (link-sum f 0 xs p.0 p.0 p.1 (at_place (row_at ys p.0) p.1) (omega arith)) in
    let a = sum_by-append f posts (link_entries 0 xs) in
    let b = sum_by-append f posts (link_entries 0 ys) in
    omega (arith, change, a, b))

link-entry : (w : World) (to : Option (ℕ × ℕ)) → first_link w.links to ≡ entry_on w to
link-entry w None = refl
link-entry w (Some p) = refl

changed-kept : (at : ℕ) (to : Option (ℕ × ℕ)) (w u : World) (fs gs : List Entry) → IsChanged at to w u → AreSame (entries w) fs →
    IfSome (entry_at w (Outbox at)) (λ e. IsOrdered fs) → gs ≡ exchanged (entry_at w (Outbox at)) (entry_at u (Outbox at)) fs →
    IfSome (entry_on w to) (λ e. IsOrdered gs) → AreSame (entries u) (exchanged (entry_on w to) (entry_on u to) gs)
changed-kept at to w u fs gs c same posted g linked =
    let middle : AreSame (row_entries Outbox 0 u.outboxes ++ link_entries 0 w.links) gs =
    subst (AreSame (row_entries Outbox 0 u.outboxes ++ link_entries 0 w.links)) (sym g)
    (outbox-kept at w.outboxes u.outboxes (link_entries 0 w.links) fs c.outboxes posted same) in
    let done = link-kept to w.links u.links (row_entries Outbox 0 u.outboxes) gs c.links
    (subst (λ o. IfSome o (λ e. IsOrdered gs)) (sym (link-entry w to)) linked) middle in
    subst (λ o. AreSame (entries u) (exchanged o (entry_on u to) gs)) (link-entry w to)
    (subst (λ o. AreSame (entries u) (exchanged (first_link w.links to) o gs)) (link-entry u to) done)

-- after a step, from what is seen of its slots before and after it
pub agenda-kept : (t : Trace) (s : Step) (u : World) (slot : Slot) (to : Option (ℕ × ℕ)) (posted outbox linked link : Option Entry) (fs gs hs : List Entry) →
    u ≡ (next t s).world → slot ≡ Outbox (place t.world (node_of s)) → to ≡ link_of t.world s → posted ≡ entry_at t.world slot → outbox ≡ entry_at u slot →
    linked ≡ entry_on t.world to → link ≡ entry_on u to → AreSame (entries t.world) fs → IfSome posted (λ e. IsOrdered fs) → gs ≡ exchanged posted outbox fs →
    IfSome linked (λ e. IsOrdered gs) → hs ≡ exchanged linked link gs → AreSame (entries u) hs
agenda-kept t s u slot to posted outbox linked link fs gs hs is p q a b c d same first g second h =
    let at = place t.world (node_of s) in
    let change : IsChanged at to t.world u =
    subst (λ l. IsChanged at l t.world u) (sym q) (subst (IsChanged at (link_of t.world s) t.world) (sym is) (next-changes t s)) in
    let before : posted ≡ entry_at t.world (Outbox at) = a ∙ ap (entry_at t.world) p in
    let after : outbox ≡ entry_at u (Outbox at) = b ∙ ap (entry_at u) p in
    let middle = g ∙ ap (λ o. exchanged o outbox fs) before ∙ ap (λ o. exchanged (entry_at t.world (Outbox at)) o fs) after in
    let last = h ∙ ap (λ o. exchanged o link gs) c ∙ ap (λ o. exchanged (entry_on t.world to) o gs) d in
    subst (AreSame (entries u)) (sym last)
    (changed-kept at to t.world u fs gs change same (subst (λ o. IfSome o (λ e. IsOrdered fs)) before first) middle
    (subst (λ o. IfSome o (λ e. IsOrdered gs)) c second))

-- where no memory was missing
pub unless-failed : (failed : Bool) (fact : Type 0) → failed ≡ false → Unless failed fact → fact
unless-failed failed fact e h = subst (λ b. Unless b fact) e h
