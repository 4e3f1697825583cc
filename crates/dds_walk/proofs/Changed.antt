-- A step changes the outbox of its node and one link at most.
use Rattle.std.proofs.Common.{◌≡◌, ℕ, ◌+◌, ◌-◌, Bool, true, false, List, [], ◌∷◌, ◌++◌, Option, Some, None, length, zero, suc, refl, ap, subst, ◌∙◌, sym}
use Rattle.std.specs.Prelude.{nat_lt, slice_get, slice_index_or, slice_set, if◌then◌else◌}
use Rattle.std.proofs.lemmas.List.{length-set, set-get_or}
use Rattle.dds_base.specs.declared.number.CallNo.{CallNo}
use Rattle.dds_base.specs.declared.number.CallerNo.{CallerNo}
use Rattle.dds_base.specs.declared.number.NodeNo.{NodeNo}
use Rattle.dds_base.specs.declared.op.Op.{Op}
use Rattle.dds_base.specs.declared.op.Order.{Order}
use Rattle.dds_core.specs.Brick.{brick_input, brick_turn}
use Rattle.dds_core.specs.LibraryTurn.{library_input, library_turn}
use Rattle.dds_letters.specs.declared.letter.Letter.{Letter}
use Rattle.dds_states.specs.Turn.{BrickTurn, LibraryTurn}
use Rattle.dds_states.specs.declared.brick_state.BrickState.{BrickState}
use Rattle.dds_states.specs.declared.library_state.LibraryState.{LibraryState}
use Rattle.dds_walk.specs.Agenda.{link_of, link_to}
use Rattle.dds_walk.specs.Walk.{node_of}
use Rattle.dds_cluster.specs.Trace.{adds, is_possible, next}
use Rattle.dds_cluster.specs.Turn.{at_library, at_node, brick_does, call_at, handle, input_at, library_does, order_at, points_made, post}
use Rattle.dds_cluster.specs.Turn.{stop_at, stop_library, tells, turn}
use Rattle.dds_cluster.specs.World.{World, brick_at, emptied, library_at, link, outbox, place, set_link}
use Rattle.dds_cluster.specs.declared.step.Input.{Input}
use Rattle.dds_cluster.specs.declared.step.Input.TheVariants as input
use Rattle.dds_cluster.specs.declared.step.Message.{Message}
use Rattle.dds_cluster.specs.declared.step.Step.{Step}
use Rattle.dds_cluster.specs.declared.step.Step.TheVariants as step
use Rattle.dds_cluster.specs.declared.trace.Made.{Made}
use Rattle.dds_cluster.specs.declared.trace.Trace.{Trace}

-- the second list is the first but at a place
abbrev pub IsSetAt : ℕ → List (List Message) → List (List Message) → Type 0
IsSetAt at xs ys = ys ≡ slice_set xs at (slice_index_or ys at [])

-- the same of rows of links
abbrev pub IsLinkSet : Option (ℕ × ℕ) → List (List (List Message)) → List (List (List Message)) → Type 0
IsLinkSet None xs ys = ys ≡ xs
IsLinkSet (Some p) xs ys = ys ≡ slice_set xs p.0 (slice_set (slice_index_or xs p.0 []) p.1 (slice_index_or (slice_index_or ys p.0 []) p.1 []))

pub record IsChanged (at : ℕ) (to : Option (ℕ × ℕ)) (w u : World) : Type 0 where
  pub outboxes : IsSetAt at w.outboxes u.outboxes
  pub links : IsLinkSet to w.links u.links

-- what stands at the place where it was set
set-at : {X : Type 0} (d : X) (xs : List X) (at : ℕ) (v : X) → slice_set xs at v ≡ slice_set xs at (slice_index_or (slice_set xs at v) at d)
set-at d [] at v = refl
set-at d (x ∷ xs) zero v = refl
set-at d (x ∷ xs) (suc at) v = ap (λ l. x ∷ l) (set-at d xs at v)

set-row : (xs : List (List (List Message))) (at to : ℕ) (v : List Message) →
    slice_set xs at (slice_set (slice_index_or xs at []) to v)
    ≡ slice_set xs at (slice_set (slice_index_or xs at []) to
    (slice_index_or (slice_index_or (slice_set xs at (slice_set (slice_index_or xs at []) to v)) at []) to []))
set-row [] at to v = refl
set-row (x ∷ xs) zero to v = ap (λ r. r ∷ xs) (set-at [] x to v)
set-row (x ∷ xs) (suc at) to v = ap (λ l. x ∷ l) (set-row xs at to v)

-- nothing was changed
same-at : (at : ℕ) (xs : List (List Message)) → IsSetAt at xs xs
same-at at xs = sym (set-get_or xs at [])

same-link : (to : Option (ℕ × ℕ)) (xs : List (List (List Message))) → IsLinkSet to xs xs
same-link None xs = refl
same-link (Some p) xs =
    sym (ap (slice_set xs p.0) (set-get_or (slice_index_or xs p.0 []) p.1 []) ∙ set-get_or xs p.0 [])

unchanged : (at : ℕ) (to : Option (ℕ × ℕ)) (w : World) → IsChanged at to w w
unchanged at to w = record { outboxes = same-at at w.outboxes; links = same-link to w.links }

-- letters go into an outbox
set-in : (p q : ℕ) (xs zs : List (List Message)) (v : List Message) → p ≡ q → zs ≡ xs → IsSetAt p xs (slice_set zs q v)
set-in p q xs zs v a b =
    subst (λ i. IsSetAt i xs (slice_set zs q v)) (sym a) (subst (λ l. IsSetAt q xs (slice_set l q v)) (sym b) (set-at [] xs q v))

set-twice : (xs : List (List Message)) (at : ℕ) (a b : List Message) → slice_set (slice_set xs at a) at b ≡ slice_set xs at b
set-twice [] at a b = refl
set-twice (x ∷ xs) zero a b = refl
set-twice (x ∷ xs) (suc at) a b = ap (λ l. x ∷ l) (set-twice xs at a b)

-- the place of a node that is there
brick-place : (w : World) (node : ℕ) (x : BrickState) → brick_at w node ≡ Some x → place w node ≡ node
brick-place w node x =
    elim (nat_lt node 64) as (λ c. (if c then slice_get w.bricks node else None) ≡ Some x → (if c then node else length w.bricks + (node - 64)) ≡ node) [
      | true ↦ λ e. refl
      | false ↦ λ e. absurd (cc)
    ]

library-place : (w : World) (node : ℕ) (x : LibraryState) → library_at w node ≡ Some x → place w node ≡ length w.bricks + (node - 64)
library-place w node x =
    elim (nat_lt node 64) as (λ c. (if c then None else slice_get w.libraries (node - 64)) ≡ Some x →
    (if c then node else length w.bricks + (node - 64)) ≡ length w.bricks + (node - 64)) [
      | true ↦ λ e. absurd (cc)
      | false ↦ λ e. refl
    ]

-- a node's turn, where at most a link was changed before it
record IsLinked (to : Option (ℕ × ℕ)) (w u : World) : Type 0 where
  pub bricks : u.bricks ≡ w.bricks
  pub outboxes : u.outboxes ≡ w.outboxes
  pub links : IsLinkSet to w.links u.links

not-linked : (w : World) → IsLinked None w w
not-linked w = record { bricks = refl; outboxes = refl; links = refl }

brick-changes : (to : Option (ℕ × ℕ)) (w u : World) (node : ℕ) (t : BrickTurn) (made : List Made) → IsLinked to w u → place w node ≡ node →
    IsChanged (place w node) to w (brick_does u node t made).world
brick-changes to w u node t made l p =
    record { outboxes = set-in (place w node) node w.outboxes u.outboxes _ p l.outboxes; links = l.links }

library-changes : (to : Option (ℕ × ℕ)) (w u : World) (node : ℕ) (t : LibraryTurn) → IsLinked to w u → place w node ≡ length w.bricks + (node - 64) →
    IsChanged (place w node) to w (library_does u node t).world
library-changes to w u node t l p =
    record {
      outboxes = set-in (place w node) (length u.bricks + (node - 64)) w.outboxes u.outboxes _
          (p ∙ ap (λ (bs : List BrickState). length bs + (node - 64)) (sym l.bricks)) l.outboxes;
      links = l.links;
    }

linked : (to : Option (ℕ × ℕ)) (w u : World) (at : ℕ) → IsLinked to w u → IsChanged at to w u
linked to w u at l =
    record { outboxes = subst (IsSetAt at w.outboxes) (sym l.outboxes) (same-at at w.outboxes); links = l.links }

at-library-changes : (to : Option (ℕ × ℕ)) (w u : World) (node from : NodeNo) (m : Letter) (o : Option LibraryState) → IsLinked to w u →
    library_at w node ≡ o → IsChanged (place w node) to w (at_library u node from m o).world
at-library-changes to w u node from m None l e = linked to w u (place w node) l
at-library-changes to w u node from m (Some x) l e =
    library-changes to w u node (library_turn x from m) l (library-place w node x e)

at-node-changes : (to : Option (ℕ × ℕ)) (w u : World) (at : ℕ) (node from : NodeNo) (m : Letter) (o : Option BrickState) → IsLinked to w u →
    library_at u node ≡ library_at w node → brick_at w node ≡ o → IsChanged (place w node) to w (at_node u at node from m o).world
at-node-changes to w u at node from m None l k e =
    at-library-changes to w u node from m (library_at u node) l (sym k)
at-node-changes to w u at node from m (Some x) l k e =
    brick-changes to w u node (brick_turn x from m) (points_made at m (brick_turn x from m).out.points) l (brick-place w node x e)

handle-changes : (w : World) (at : ℕ) (node from : NodeNo) (ms : List Message) →
    IsChanged (place w node) (Some (place w from, place w node)) w (handle w at node from ms).world
handle-changes w at node from [] = unchanged (place w node) (Some (place w from, place w node)) w
handle-changes w at node from (m ∷ ms) =
    at-node-changes (Some (place w from, place w node)) w (set_link w from node ms) at node from m.letter (brick_at w node)
    (record { bricks = refl; outboxes = refl; links = set-row w.links (place w from) (place w node) ms }) refl refl

post-changes : (w : World) (node : NodeNo) (ms : List Message) → IsChanged (place w node) (link_to w node (slice_get ms 0)) w (post w node ms).world
post-changes w node [] = unchanged (place w node) None w
post-changes w node (m ∷ ms) =
    record { outboxes = set-at [] w.outboxes (place w node) ms; links = set-row w.links (place w node) (place w m.to) (link w node m.to ++ m ∷ []) }

call-changes : (w : World) (node : NodeNo) (caller : CallerNo) (call : CallNo) (op : Op) (o : Option LibraryState) → library_at w node ≡ o →
    IsChanged (place w node) None w (call_at w node caller call op o).world
call-changes w node caller call op None e = unchanged (place w node) None w
call-changes w node caller call op (Some x) e =
    library-changes None w w node (library_input x caller call op) (not-linked w) (library-place w node x e)

order-changes : (w : World) (node : NodeNo) (order : Order) (o : Option BrickState) → brick_at w node ≡ o →
    IsChanged (place w node) None w (order_at w node order o).world
order-changes w node order None e = unchanged (place w node) None w
order-changes w node order (Some x) e =
    brick-changes None w w node (brick_input x order) [] (not-linked w) (brick-place w node x e)

input-changes : (w : World) (node : NodeNo) (i : Input) → IsChanged (place w node) None w (input_at w node i).world
input-changes w node (input.Call caller call op) = call-changes w node caller call op (library_at w node) refl
input-changes w node (input.Order order) = order-changes w node order (brick_at w node) refl

-- notices take the place of what the outbox held
tells-changes : (w u : World) (node : NodeNo) → u.outboxes ≡ w.outboxes → u.links ≡ w.links → place w node ≡ place u node →
    IsChanged (place w node) None w (tells u node)
tells-changes w u node a b p =
    record {
      outboxes = subst (IsSetAt (place w node) w.outboxes) (sym (set-twice u.outboxes (place u node) [] _))
          (set-in (place w node) (place u node) w.outboxes u.outboxes _ p a);
      links = b;
    }

stop-library-changes : (w : World) (node : NodeNo) (o : Option LibraryState) → IsChanged (place w node) None w (stop_library w node o)
stop-library-changes w node None = unchanged (place w node) None w
stop-library-changes w node (Some x) =
    tells-changes w (record w { libraries = slice_set w.libraries (node - 64) (record x { stopped = true }) }) node refl refl refl

stop-changes : (w : World) (node : NodeNo) (o : Option BrickState) → IsChanged (place w node) None w (stop_at w node o)
stop-changes w node None = stop-library-changes w node (library_at w node)
stop-changes w node (Some x) =
    tells-changes w (record w { bricks = slice_set w.bricks node (emptied x.number) }) node refl refl
    (ap (λ n. if nat_lt node 64 then node else n + (node - 64)) (sym (length-set w.bricks node (emptied x.number))))

turn-changes : (at : ℕ) (w : World) (s : Step) → IsChanged (place w (node_of s)) (link_of w s) w (turn at w s).world
turn-changes at w (step.Input node i) = input-changes w node i
turn-changes at w (step.Handle node from) = handle-changes w at node from (link w from node)
turn-changes at w (step.Post node) = post-changes w node (outbox w node)
turn-changes at w (step.Stop node) = stop-changes w node (brick_at w node)

changes-if : (t : Trace) (s : Step) (possible : Bool) →
    IsChanged (place t.world (node_of s)) (link_of t.world s) t.world
    (if possible then adds t s (turn t.steps t.world s) else record t { steps = t.steps + 1 }).world
changes-if t s true = turn-changes t.steps t.world s
changes-if t s false = unchanged (place t.world (node_of s)) (link_of t.world s) t.world

pub next-changes : (t : Trace) (s : Step) → IsChanged (place t.world (node_of s)) (link_of t.world s) t.world (next t s).world
next-changes t s = changes-if t s (is_possible t s)
