-- The event of a rank is that of the entry of this rank.
use Rattle.std.proofs.Common.{◌≡◌, ℕ, ◌+◌, ◌≤◌, Bool, true, false, List, [], ◌∷◌, Option, Some, None, length, zero, suc, refl, ap, ◌∙◌, sym, arith}
use Rattle.std.specs.Prelude.{◌==◌, count_by, find, map, nat_lt, option_map, position, slice_get, if◌then◌else◌}
use Rattle.std.specs.List.{position_or_len}
use Rattle.std.proofs.lemmas.Bool.Decides.{nat_tests}
use Rattle.std.proofs.lemmas.List.Folds.{find_at}
use Rattle.std.proofs.lemmas.List.Sums.{sum_by-cons}
use Rattle.dds_agenda.proofs.Same.{lengths-same, ranked-same}
use Rattle.dds_agenda.specs.Agenda.{AreSame, IsOrdered, ranked as ranked_entry}
use Rattle.dds_agenda.specs.declared.entry.Entry.{Entry}
use Rattle.dds_walk.proofs.Entries.{entries-placed, events-are}
use Rattle.dds_walk.specs.Agenda.{entries, event_of}
use Rattle.dds_walk.specs.Picking.{events, rank_of, ranked, step_at, step_of}
use Rattle.dds_walk.specs.declared.picking.Event.{Event}
use Rattle.dds_cluster.specs.World.{World}
use Rattle.dds_cluster.specs.declared.step.Step.{Step}

get-past : (es : List Event) (i : ℕ) → length es ≤ i → slice_get es i ≡ None
get-past [] i l = refl
get-past (e ∷ es) zero l = absurd (omega (arith, l))
get-past (e ∷ es) (suc i) l = get-past es i (omega (arith, l))

at-if : (es : List Event) (i : ℕ) (b : Bool) → nat_lt i (length es) ≡ b → step_at es (if b then Some i else None) ≡ step_of (slice_get es i)
at-if es i true e = refl
at-if es i false e = ap step_of (sym (get-past es i (grind (arith, nat_tests, e))))

-- the first event that passes, by its place
at-first : (p : Event → Bool) (es : List Event) → step_at es (position p es) ≡ step_of (find p es)
at-first p es =
    at-if es (position_or_len p es) (nat_lt (position_or_len p es) (length es)) refl ∙ ap step_of (sym (find_at p es))

map-if : (g : Entry → Event) (e : Entry) (o : Option Entry) (q : Option Event) (b : Bool) → q ≡ option_map g o →
    (if b then Some (g e) else q) ≡ option_map g (if b then Some e else o)
map-if g e o q true h = refl
map-if g e o q false h = h

find-map : (g : Entry → Event) (p : Event → Bool) (es : List Entry) → find p (map g es) ≡ option_map g (find (λ e. p (g e)) es)
find-map g p [] = refl
find-map g p (e ∷ es) = map-if g e (find (λ x. p (g x)) es) (find p (map g es)) (p (g e)) (find-map g p es)

count-map : (b n : ℕ) (es : List Entry) → count_by (λ x. nat_lt x.number n) (map (event_of b) es) ≡ count_by (λ x. nat_lt x.number n) es
count-map b n [] = refl
count-map b n (e ∷ es) =
    sum_by-cons (λ (x : Event). if nat_lt x.number n then 1 else 0) (event_of b e) (map (event_of b) es)
    ∙ ap (λ k. (if nat_lt e.number n then 1 else 0) + k) (count-map b n es)
    ∙ sym (sum_by-cons (λ (x : Entry). if nat_lt x.number n then 1 else 0) e es)

-- the step of an entry that there may be
abbrev pub step_for : ℕ → Option Entry → Option Step
step_for b o = step_of (option_map (event_of b) o)

ranked-map : (b : ℕ) (es : List Entry) (r : ℕ) → ranked (map (event_of b) es) r ≡ step_for b (ranked_entry es r)
ranked-map b es r =
    at-first (λ x. rank_of (map (event_of b) es) x == r) (map (event_of b) es)
    ∙ ap step_of (find-map (event_of b) (λ x. rank_of (map (event_of b) es) x == r) es)
    ∙ ap (λ (p : Entry → Bool). step_for b (find p es)) (λ i e. count-map b e.number es i == r)

pub ranked-entry : (w : World) (agenda : List Entry) (r : ℕ) → AreSame (entries w) agenda → IsOrdered agenda →
    step_for (length w.bricks) (ranked_entry agenda r) ≡ ranked (events w) r
ranked-entry w agenda r same ordered =
    ap (step_for (length w.bricks)) (ranked-same (entries w) agenda r (entries-placed w) ordered same)
    ∙ sym (ranked-map (length w.bricks) (entries w) r)
    ∙ ap (λ es. ranked es r) (sym (events-are w))

-- how many events there are
length-map : (b : ℕ) (es : List Entry) → length (map (event_of b) es) ≡ length es
length-map b [] = refl
length-map b (e ∷ es) = ap suc (length-map b es)

pub events-count : (w : World) (agenda : List Entry) → AreSame (entries w) agenda → length agenda ≡ length (events w)
events-count w agenda same =
    sym (lengths-same (entries w) agenda same) ∙ sym (length-map (length w.bricks) (entries w)) ∙ ap length (sym (events-are w))
