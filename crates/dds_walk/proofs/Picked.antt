-- Each event that may be picked is possible.
use Rattle.std.proofs.Common.{◌≡◌, ℕ, ◌+◌, ◌-◌, ◌<◌, ◌≤◌, Bool, true, false, List, [], ◌∷◌, ◌++◌, Option, Some, None, drop, length, zero}
use Rattle.std.proofs.Common.{suc, refl, ap, ◌∙◌, arith}
use Rattle.std.specs.Prelude.{◌&&◌, ◌==◌, is_some, nat_lt, position, slice_get, slice_index_or, if◌then◌else◌, IfSome}
use Rattle.std.proofs.lemmas.Bool.{lt-ltb, le-ltb, ltb-true, ltb-false}
use Rattle.dds_cluster.proofs.Sizes.{AreRows, IsSized}
use Rattle.dds_walk.specs.Picking.{all_handles, events, first_of, handles, node_at, picked_of, posts, rank, rank_of, step_at, step_of}
use Rattle.dds_walk.specs.declared.picking.Event.{Event}
use Rattle.dds_walk.specs.declared.picking.Picking.{Picking}
use Rattle.dds_cluster.specs.Trace.{has_first, is_possible, opened_by}
use Rattle.dds_cluster.specs.World.{World, is_node, link, outbox, place}
use Rattle.dds_cluster.specs.declared.step.Message.{Message}
use Rattle.dds_cluster.specs.declared.step.Step.{Step}
use Rattle.dds_cluster.specs.declared.step.Step.TheVariants as step
use Rattle.dds_cluster.specs.declared.trace.Trace.{Trace}

-- something is true of each event's step
abbrev pub AreSteps : (Step → Type 0) → List Event → Type 0
AreSteps P [] = Unit {0}
AreSteps P (e ∷ es) = P e.step × AreSteps P es

pub steps-append : (P : Step → Type 0) (es fs : List Event) → AreSteps P es → AreSteps P fs → AreSteps P (es ++ fs)
steps-append P [] fs a b = b
steps-append P (e ∷ es) fs a b = (a.0, steps-append P es fs a.1 b)

pub steps-first : (P : Step → Type 0) (s : Step) (o : Option Message) → (is_some o ≡ true → P s) → AreSteps P (first_of s o)
steps-first P s None h = tt
steps-first P s (Some m) h = (h refl, tt)

steps-get : (P : Step → Type 0) (es : List Event) (i : ℕ) → AreSteps P es → IfSome (step_of (slice_get es i)) P
steps-get P [] i a = tt
steps-get P (e ∷ es) zero a = a.0
steps-get P (e ∷ es) (suc i) a = steps-get P es i a.1

steps-at : (P : Step → Type 0) (es : List Event) (o : Option ℕ) → AreSteps P es → IfSome (step_at es o) P
steps-at P es None a = tt
steps-at P es (Some i) a = steps-get P es i a

-- it is true of the picked one
pub steps-picked : (P : Step → Type 0) (p : Picking) (es : List Event) → AreSteps P es → IfSome (picked_of p es) P
steps-picked P p [] a = tt
steps-picked P p (e ∷ es) a =
    steps-at P (e ∷ es) (position (λ x. rank_of (e ∷ es) x == rank p (length (e ∷ es))) (e ∷ es)) a

-- a step that is possible, and makes no call
abbrev pub IsEvent : Trace → Step → Type 0
IsEvent t s = (is_possible t s ≡ true) × (opened_by t.callers s ≡ t.callers)

pub both-true : (a b : Bool) → a ≡ true → b ≡ true → (a && b) ≡ true
both-true a b x y = ap (λ c. c && b) x ∙ y

-- the first item behind a place, and those behind it
drop-within : {X : Type 0} (xs : List X) (i : ℕ) (x : X) (rest : List X) → drop i xs ≡ x ∷ rest → i < length xs
drop-within [] zero x rest e = absurd (cc)
drop-within [] (suc i) x rest e = absurd (cc)
drop-within (y ∷ ys) zero x rest e = omega arith
drop-within (y ∷ ys) (suc i) x rest e = omega (arith, drop-within ys i x rest e)

drop-here : {X : Type 0} (xs : List X) (i : ℕ) (x d : X) (rest : List X) → drop i xs ≡ x ∷ rest → slice_index_or xs i d ≡ x
drop-here [] zero x d rest e = absurd (cc)
drop-here [] (suc i) x d rest e = absurd (cc)
drop-here (y ∷ ys) zero x d rest e = ap (λ l. slice_index_or l 0 d) e
drop-here (y ∷ ys) (suc i) x d rest e = drop-here ys i x d rest e

drop-next : {X : Type 0} (xs : List X) (i : ℕ) (x : X) (rest : List X) → drop i xs ≡ x ∷ rest → drop (i + 1) xs ≡ rest
drop-next [] zero x rest e = absurd (cc)
drop-next [] (suc i) x rest e = absurd (cc)
drop-next (y ∷ ys) zero x rest e = ap (drop 1) e
drop-next (y ∷ ys) (suc i) x rest e =
    let n : suc i + 1 ≡ suc (i + 1) = omega arith in
    rw n (drop-next ys i x rest e)

-- the node at a place is one of the cluster, and its place is this one
node-low : (b at : ℕ) → at < b → node_at b at ≡ at
node-low b at h = ap (λ c. if c then at else 64 + (at - b)) (lt-ltb at b h)

node-high : (b at : ℕ) → b ≤ at → node_at b at ≡ 64 + (at - b)
node-high b at h = ap (λ c. if c then at else 64 + (at - b)) (le-ltb at b h)

node-there : (b l : ℕ) (w : World) (at : ℕ) → IsSized b l w → b ≤ 64 → at < b + l → is_node w (node_at b at) ≡ true
node-there b l w at s few h =
    elim (nat_lt at b) as (λ c. nat_lt at b ≡ c → is_node w (node_at b at) ≡ true) [
      | true ↦
          λ e.
          rw (node-low b at (ltb-true at b e))
          (ap (λ c. if c then nat_lt at (length w.bricks) else nat_lt (at - 64) (length w.libraries)) (lt-ltb at 64 (omega (arith, ltb-true at b e, few)))
          ∙ lt-ltb at (length w.bricks) (omega (arith, ltb-true at b e, s.bricks)))
      | false ↦
          λ e.
          rw (node-high b at (ltb-false at b e))
          (ap (λ c. if c then nat_lt (64 + (at - b)) (length w.bricks) else nat_lt (64 + (at - b) - 64) (length w.libraries))
          (le-ltb (64 + (at - b)) 64 (omega arith))
          ∙ lt-ltb (64 + (at - b) - 64) (length w.libraries) (omega (arith, ltb-false at b e, h, s.libraries)))
    ] refl

node-place : (b l : ℕ) (w : World) (at : ℕ) → IsSized b l w → b ≤ 64 → place w (node_at b at) ≡ at
node-place b l w at s few =
    elim (nat_lt at b) as (λ c. nat_lt at b ≡ c → place w (node_at b at) ≡ at) [
      | true ↦
          λ e.
          rw (node-low b at (ltb-true at b e))
          (ap (λ c. if c then at else length w.bricks + (at - 64)) (lt-ltb at 64 (omega (arith, ltb-true at b e, few))))
      | false ↦
          λ e.
          rw (node-high b at (ltb-false at b e))
          (ap (λ c. if c then 64 + (at - b) else length w.bricks + (64 + (at - b) - 64)) (le-ltb (64 + (at - b)) 64 (omega arith))
          ∙ omega (arith, ltb-false at b e, s.bricks))
    ] refl

-- a first letter of an outbox may be posted
may-post : (b l : ℕ) (t : Trace) (at : ℕ) (box : List Message) → IsSized b l t.world → b ≤ 64 → at < b + l → slice_index_or t.world.outboxes at [] ≡ box →
    is_some (slice_get box 0) ≡ true → IsEvent t (step.Post (node_at b at))
may-post b l t at box s few h here some =
    let its : outbox t.world (node_at b at) ≡ box = ap (λ i. slice_index_or t.world.outboxes i []) (node-place b l t.world at s few) ∙ here in
    (both-true (is_node t.world (node_at b at)) (has_first (outbox t.world (node_at b at))) (node-there b l t.world at s few h) (ap has_first its ∙ some), refl)

posts-events : (b l : ℕ) (t : Trace) (at : ℕ) (boxes : List (List Message)) → IsSized b l t.world → b ≤ 64 → drop at t.world.outboxes ≡ boxes →
    AreSteps (IsEvent t) (posts b at boxes)
posts-events b l t at [] s few e = tt
posts-events b l t at (box ∷ boxes) s few e =
    steps-append (IsEvent t) (first_of (step.Post (node_at b at)) (slice_get box 0)) (posts b (at + 1) boxes)
    (steps-first (IsEvent t) (step.Post (node_at b at)) (slice_get box 0)
    (may-post b l t at box s few (omega (arith, drop-within t.world.outboxes at box boxes e, s.outboxes))
    (drop-here t.world.outboxes at box [] boxes e)))
    (posts-events b l t (at + 1) boxes s few (drop-next t.world.outboxes at box boxes e))

-- a first letter of a link may be handled
may-handle : (b l : ℕ) (t : Trace) (from at : ℕ) (row : List (List Message)) (ms : List Message) → IsSized b l t.world → b ≤ 64 → from < b + l → at < b + l →
    slice_index_or t.world.links from [] ≡ row → slice_index_or row at [] ≡ ms → is_some (slice_get ms 0) ≡ true →
    IsEvent t (step.Handle (node_at b at) (node_at b from))
may-handle b l t from at row ms s few f h there here some =
    let its : link t.world (node_at b from) (node_at b at) ≡ ms =
    ap (λ i. slice_index_or (slice_index_or t.world.links i []) (place t.world (node_at b at)) []) (node-place b l t.world from s few)
    ∙ ap (λ i. slice_index_or (slice_index_or t.world.links from []) i []) (node-place b l t.world at s few)
    ∙ ap (λ (r : List (List Message)). slice_index_or r at []) there ∙ here in (
      both-true (is_node t.world (node_at b at)) (is_node t.world (node_at b from) && has_first (link t.world (node_at b from) (node_at b at)))
          (node-there b l t.world at s few h) (both-true (is_node t.world (node_at b from)) (has_first (link t.world (node_at b from) (node_at b at)))
          (node-there b l t.world from s few f) (ap has_first its ∙ some)),
      refl,
    )

handles-events : (b l : ℕ) (t : Trace) (from at : ℕ) (row links : List (List Message)) → IsSized b l t.world → b ≤ 64 → from < b + l → length row ≡ b + l →
    slice_index_or t.world.links from [] ≡ row → drop at row ≡ links → AreSteps (IsEvent t) (handles b (node_at b from) at links)
handles-events b l t from at row [] s few f long there e = tt
handles-events b l t from at row (ms ∷ links) s few f long there e =
    steps-append (IsEvent t) (first_of (step.Handle (node_at b at) (node_at b from)) (slice_get ms 0)) (handles b (node_at b from) (at + 1) links)
    (steps-first (IsEvent t) (step.Handle (node_at b at) (node_at b from)) (slice_get ms 0)
    (may-handle b l t from at row ms s few f (omega (arith, drop-within row at ms links e, long)) there (drop-here row at ms [] links e)))
    (handles-events b l t from (at + 1) row links s few f long there (drop-next row at ms links e))

rows-drop : (n i : ℕ) (rows : List (List (List Message))) → AreRows n rows → AreRows n (drop i rows)
rows-drop n zero rows a = a
rows-drop n (suc i) [] a = tt
rows-drop n (suc i) (row ∷ rows) a = rows-drop n i rows a.1

all-handles-events : (b l : ℕ) (t : Trace) (from : ℕ) (rows : List (List (List Message))) → IsSized b l t.world → b ≤ 64 → drop from t.world.links ≡ rows →
    AreRows (b + l) rows → AreSteps (IsEvent t) (all_handles b from rows)
all-handles-events b l t from [] s few e a = tt
all-handles-events b l t from (row ∷ rows) s few e a =
    steps-append (IsEvent t) (handles b (node_at b from) 0 row) (all_handles b (from + 1) rows)
    (handles-events b l t from 0 row row s few (omega (arith, drop-within t.world.links from row rows e, s.links)) a.0
    (drop-here t.world.links from row [] rows e) refl)
    (all-handles-events b l t (from + 1) rows s few (drop-next t.world.links from row rows e) a.1)

pub all-events : (b l : ℕ) (t : Trace) → IsSized b l t.world → b ≤ 64 → AreSteps (IsEvent t) (events t.world)
all-events b l t s few =
    rw s.bricks
    (steps-append (IsEvent t) (posts b 0 t.world.outboxes) (all_handles b 0 t.world.links) (posts-events b l t 0 t.world.outboxes s few refl)
    (all-handles-events b l t 0 t.world.links s few refl s.rows))
