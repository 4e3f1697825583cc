-- Steps and picked events along the steps that a walk alone makes.
use Rattle.std.proofs.Common.{◌≡◌, ℕ, ◌+◌, ◌&&◌, Bool, true, false, List, [], ◌∷◌, ◌++◌, Option, Some, None, zero, suc, refl, sym, ap, subst, ◌∙◌, arith}
use Rattle.std.specs.Prelude.{◌==◌, is_some, length, slice_get, if◌then◌else◌, IfSome}
use Rattle.std.proofs.lemmas.Bool.Decides.{nat_tests}
use Rattle.dds_base.specs.Name.{Name, same_name}
use Rattle.dds_base.specs.declared.number.NodeNo.{NodeNo}
use Rattle.dds_base.specs.declared.op.Order.{Order}
use Rattle.dds_base.specs.declared.op.Order.TheVariants as order
use Rattle.dds_walk.proofs.Along.{Goes, GoesBy, IsNoCall, IsNumbered, along, asked-next, asked-no-call, goes-nowhere, goes-step}
use Rattle.dds_walk.proofs.Moves.{moves-over, moves-suc}
use Rattle.dds_walk.proofs.Picked.{AreSteps, both-true, steps-append, steps-first, steps-picked}
use Rattle.dds_walk.proofs.Walked.{tries-alone}
use Rattle.dds_walk.specs.Picking.{all_handles, events, first_of, handles, node_at, posts}
use Rattle.dds_walk.specs.Walk.{Moved, event, event_by, lead_behind, lead_in, left, makes_by, moves, on_event, or_stays, picked_in}
use Rattle.dds_walk.specs.Walk.{picks_in, played, same_input, same_order, same_step, tries}
use Rattle.dds_walk.specs.declared.walk.Lead.{Lead}
use Rattle.dds_walk.specs.declared.walk.Lead.TheVariants.{Next}
use Rattle.dds_walk.specs.declared.walk.Walk.{Walk}
use Rattle.dds_cluster.specs.World.{World}
use Rattle.dds_cluster.specs.declared.step.Input.{Input}
use Rattle.dds_cluster.specs.declared.step.Input.TheVariants as input
use Rattle.dds_cluster.specs.declared.step.Message.{Message}
use Rattle.dds_cluster.specs.declared.step.Step.{Step}
use Rattle.dds_cluster.specs.declared.step.Step.TheVariants as step

-- each step is the same as itself
pub self : (n : ℕ) → (n == n) ≡ true
self n = grind (arith, nat_tests)

self-name : (a : Name) → same_name a a ≡ true
self-name a = both-true (a.bits == a.bits) (a.depth == a.depth) (self a.bits) (self a.depth)

self-order : (o : Order) → same_order o o ≡ true
self-order (order.Join brick name via) =
    both-true (brick == brick) (same_name name name && via == via) (self brick) (both-true (same_name name name) (via == via) (self-name name) (self via))
self-order (order.Split brick name) = both-true (brick == brick) (same_name name name) (self brick) (self-name name)

self-input : (i : Input) → same_input i i ≡ true
self-input (input.Call caller call op) = both-true (caller == caller) (call.0 == call.0) (self caller) (self call.0)
self-input (input.Order o) = self-order o

self-step : (s : Step) → same_step s s ≡ true
self-step (step.Input node i) = both-true (node == node) (same_input i i) (self node) (self-input i)
self-step (step.Handle node from) = both-true (node == node) (from == from) (self node) (self from)
self-step (step.Post node) = self node
self-step (step.Stop node) = self node

-- a journal has its first step next
pub lead-first : (s : Step) (rest : List Step) → lead_in (Some (s ∷ rest)) s ≡ Next
lead-first s rest = ap (λ (b : Bool). if b then Next else lead_behind s rest s) (self-step s)

pub numbered-played : (callers : ℕ) (w : Walk) (s : Step) → IsNoCall s → IsNumbered callers w → IsNumbered callers (played w s)
numbered-played callers w s silent n =
    record { size = n.size; asked = asked-next w.counts w.trace s n.asked (asked-no-call w.counts w.trace.steps s silent) }

-- a step that is no call
pub goes-tries : (callers : ℕ) (w : Walk) (s : Step) → w.rest ≡ None → IsNoCall s → IsNumbered callers w → GoesBy callers w (λ x. tries x s)
goes-tries callers w s e silent n =
    let x : Walk = played (left w) s in
    let is : tries w s ≡ x = tries-alone w s e in
    let none : x.rest ≡ None = ap (λ (r : Option (List Step)). (left (record w { rest = r })).rest) e in
    subst (λ (v : Walk). Goes callers w v (λ rest. tries (along w rest) s) (along v)) (sym is)
    (goes-step callers w x x s (λ rest. tries (along w rest) s) (λ (v : Walk). v) (along x) refl refl silent
    (λ rest. ap (λ (l : Lead). or_stays (along w (s ∷ rest)) (makes_by (along w (s ∷ rest)) s l)) (lead-first s rest))
    (goes-nowhere callers x x (along x) (along x) refl refl none (numbered-played callers (left w) s silent (record { size = n.size; asked = n.asked }))
    (λ tail. refl)))

-- each event is no call
no-call-posts : (b at : ℕ) (boxes : List (List Message)) → AreSteps IsNoCall (posts b at boxes)
no-call-posts b at [] = tt
no-call-posts b at (box ∷ boxes) =
    steps-append IsNoCall (first_of (step.Post (node_at b at)) (slice_get box 0)) (posts b (at + 1) boxes)
    (steps-first IsNoCall (step.Post (node_at b at)) (slice_get box 0) (λ e. tt)) (no-call-posts b (at + 1) boxes)

no-call-handles : (b : ℕ) (from : NodeNo) (at : ℕ) (links : List (List Message)) → AreSteps IsNoCall (handles b from at links)
no-call-handles b from at [] = tt
no-call-handles b from at (l ∷ links) =
    steps-append IsNoCall (first_of (step.Handle (node_at b at) from) (slice_get l 0)) (handles b from (at + 1) links)
    (steps-first IsNoCall (step.Handle (node_at b at) from) (slice_get l 0) (λ e. tt)) (no-call-handles b from (at + 1) links)

no-call-all-handles : (b at : ℕ) (rows : List (List (List Message))) → AreSteps IsNoCall (all_handles b at rows)
no-call-all-handles b at [] = tt
no-call-all-handles b at (row ∷ rows) =
    steps-append IsNoCall (handles b (node_at b at) 0 row) (all_handles b (at + 1) rows) (no-call-handles b (node_at b at) 0 row)
    (no-call-all-handles b (at + 1) rows)

pub no-call-events : (w : World) → AreSteps IsNoCall (events w)
no-call-events w =
    steps-append IsNoCall (posts (length w.bricks) 0 w.outboxes) (all_handles (length w.bricks) 0 w.links) (no-call-posts (length w.bricks) 0 w.outboxes)
    (no-call-all-handles (length w.bricks) 0 w.links)

-- picked events, with the walk that goes on along a journal
abbrev pub moved_along : Moved → List Step → Moved
moved_along m rest = record { walk = along m.walk rest; events = m.events }

abbrev by_lead : ℕ → ℕ → Walk → Step → Lead → Moved
by_lead n made w s l =
    on_event (is_some (makes_by (picks_in w) s l)) (record { walk = or_stays (picks_in w) (makes_by (picks_in w) s l); events = made })
    (moves n (made + 1) (or_stays (picks_in w) (makes_by (picks_in w) s l)))

abbrev by_pick : ℕ → ℕ → Walk → Option Step → Moved
by_pick n made w p =
    on_event (is_some (event_by (picks_in w) p)) (record { walk = or_stays (picks_in w) (event_by (picks_in w) p); events = made })
    (moves n (made + 1) (or_stays (picks_in w) (event_by (picks_in w) p)))

-- picked events go the same way
abbrev MovesGo : ℕ → ℕ → ℕ → Walk → Type 0
MovesGo callers n made w =
    Goes callers w (moves n made w).walk (λ rest. moves n made (along w rest)) (moved_along (moves n made w))

goes-pick : (callers n made : ℕ) (w : Walk) (p : Option Step) → w.rest ≡ None → IfSome p IsNoCall → IsNumbered callers w
    → ((x : Walk) → x.rest ≡ None → IsNumbered callers x → MovesGo callers n (made + 1) x)
    → Goes callers w (by_pick n made w p).walk (λ rest. by_pick n made (along w rest) p) (moved_along (by_pick n made w p))
goes-pick callers n made w None e silent k more =
    goes-nowhere callers w (picks_in w) (λ rest. by_pick n made (along w rest) None) (moved_along (by_pick n made w None)) refl refl e
    (record { size = k.size; asked = k.asked }) (λ tail. refl)
goes-pick callers n made w (Some s) e silent k more =
    let u : Walk = left (picks_in w) in
    let x : Walk = played u s in
    let none : x.rest ≡ None = ap (λ (r : Option (List Step)). (left (record w { rest = r })).rest) e in
    let numbered : IsNumbered callers x = numbered-played callers u s silent (record { size = k.size; asked = k.asked }) in
    let is : by_pick n made w (Some s) ≡ moves n (made + 1) x = ap (λ (r : Option (List Step)). by_lead n made w s (lead_in r s)) e in
    subst (λ (m : Moved). Goes callers w m.walk (λ rest. by_pick n made (along w rest) (Some s)) (moved_along m)) (sym is)
    (goes-step callers w x (moves n (made + 1) x).walk s (λ rest. by_pick n made (along w rest) (Some s)) (moves n (made + 1))
    (moved_along (moves n (made + 1) x)) refl refl silent
    (λ rest. ap (by_lead n made (along w (s ∷ rest)) s) (lead-first s rest))
    (more x none numbered))

pub goes-moves : (callers n made : ℕ) (w : Walk) → w.rest ≡ None → IsNumbered callers w → MovesGo callers n made w
goes-moves callers zero made w e k =
    subst (λ (m : Moved). Goes callers w m.walk (λ rest. moves 0 made (along w rest)) (moved_along m)) (sym (moves-over made w))
    (goes-nowhere callers w w (λ rest. moves 0 made (along w rest)) (moved_along (record { walk = w; events = made })) refl refl e k
    (λ tail. moves-over made (along w tail)))
goes-moves callers (suc n) made w e k =
    let p : IfSome (picked_in w) IsNoCall = steps-picked IsNoCall w.picking (events w.trace.world) (no-call-events w.trace.world) in
    let g = goes-pick callers n made w (picked_in w) e p k (goes-moves callers n (made + 1)) in
    subst (λ (m : Moved). Goes callers w m.walk (λ rest. moves (suc n) made (along w rest)) (moved_along m)) (sym (moves-suc n made w))
    (record {
      made = g.made;
      steps = g.steps;
      rest = g.rest;
      numbered = g.numbered;
      later = g.later;
      grows = g.grows;
      same = λ tail h. moves-suc n made (along w (g.made ++ tail)) ∙ g.same tail h;
    })
