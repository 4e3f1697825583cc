use Rattle.std.proofs.Common.{◌≡◌, ℕ, ◌||◌, inl, inr, Bool, true, false, Option, Some, List, [], ◌∷◌, refl, sym, ap, ◌∙◌, subst}
use Rattle.std.proofs.lemmas.Bool.{both_ways}
use Rattle.std.specs.List.{AllByRecursion}
use Rattle.dds_base.specs.Name.{Name, covers}
use Rattle.dds_base.specs.Number.{Txn}
use Rattle.dds_base.specs.Op.{the_key}
use Rattle.dds_base.specs.declared.pending.Pending.{Pending}
use Rattle.dds_brick_rows.specs.Refusal.{is_join}
use Rattle.dds_cluster.specs.Trace.{all_kept}
use Rattle.dds_cluster.specs.Turn.{points_made, read_by}
use Rattle.dds_cluster.specs.declared.trace.Caller.{Caller}
use Rattle.dds_cluster.specs.declared.trace.Made.{Made}
use Rattle.dds_core.proofs.Lists.{all-append, all-both, all-map}
use Rattle.dds_core.specs.Brick.{live_brick_turn}
use Rattle.dds_law_own.proofs.Changes.{own}
use Rattle.dds_letters.specs.declared.letter.Letter.{Letter}
use Rattle.dds_letters.specs.declared.letter.Letter.TheVariants as letter
use Rattle.dds_locks.specs.Pending.{any_under}
use Rattle.dds_net.specs.Event.{Event, Fits, Takes, moved, nothing, unheard, unasked, brick_takes, brick_told, brick_stops, library_asked, library_stops}
use Rattle.dds_net.specs.Event.{library_takes, points_of}
use Rattle.dds_net.specs.Net.{Net, Sizes, a_brick}
use Rattle.dds_orders.proofs.Covered.{Covers, Covering, Unlocked, false-of}
use Rattle.dds_orders.proofs.Standing.{Standing}
use Rattle.dds_orders.proofs.Stood.{NodeStands}
use Rattle.dds_outcomes.proofs.PointRows.{PointHas, turn-points}
use Rattle.dds_outcomes.proofs.Points.{kept-all}
use Rattle.dds_pairs.proofs.Apart.{covered-apart}
use Rattle.dds_share.proofs.Bounds.{still-bound}
use Rattle.dds_share.proofs.Sources.{bound-freezes}
use Rattle.dds_share.proofs.Together.{Freezes}
use Rattle.dds_share.proofs.Turned.{same-brick}
use Rattle.dds_states.specs.declared.brick_state.BrickState.{BrickState}
use Rattle.dds_states.specs.declared.brick_state.OpenOrder.{OpenOrder}
use Rattle.dds_states.specs.declared.turn.Point.{Point}
use Rattle.dds_states.specs.declared.turn.Point.TheVariants as point
use Rattle.dds_copies.proofs.Before.{Before, its-own}
use Rattle.dds_copies.proofs.Carried.{PutAt, another, itself, put-at}
use Rattle.dds_copies.proofs.Frozen.{freezes-leased}
use Rattle.dds_copies.proofs.OrderWas.{WasJoin, was-join}
use Rattle.dds_copies.specs.Outside.{ComeOutside, IsOutside}

-- The points of an event leave the table under the name of each join that was granted as it is: they are reads, or of transactions that were pending at
-- the brick. What is pending lies under the brick's leaves, which are apart from its own join; and a brick with a leaf over a key of another
-- one's such join has granted that its lease, under which nothing is pending.

reads-outside : (name : Name) (place : ℕ) (txn : Txn) (value : Option (List ℕ)) (l : Letter) → AllByRecursion (IsOutside name) (read_by place txn value l)
reads-outside name place txn value (letter.Get asked caller call key at stamp) = (inl refl, tt)
reads-outside name place txn value other = tt

made-outside : (name : Name) (place : ℕ) (l : Letter) (ps : List Point) → AllByRecursion (PointHas (Unlocked name)) ps
    → AllByRecursion (IsOutside name) (points_made place l ps)
made-outside name place l [] h = tt
made-outside name place l (point.Read txn value ∷ ps) h =
    all-append (IsOutside name) (read_by place txn value l) (points_made place l ps) (reads-outside name place txn value l) (made-outside name place l ps h.1)
made-outside name place l (point.Applied p was ∷ ps) h = (inr h.0, made-outside name place l ps h.1)

-- what is pending under a name is among what is pending
under-more : (name : Name) (p : Pending) (ps : List Pending) (q : Pending) → (covers name (the_key q.op) ≡ true → any_under ps name ≡ true)
    → covers name (the_key q.op) ≡ true → any_under (p ∷ ps) name ≡ true
under-more name p ps q f e = or-right (covers name (the_key p.op)) (any_under ps name) (f e)
  where
    or-right : (a b : Bool) → b ≡ true → (a || b) ≡ true
    or-right true b e = refl
    or-right false b e = e

all-under : (name : Name) (ps : List Pending) → AllByRecursion (λ p. covers name (the_key p.op) ≡ true → any_under ps name ≡ true) ps
all-under name [] = tt
all-under name (p ∷ ps) = (
  (λ e. ap (λ b. b || any_under ps name) e),
  all-map (λ q. covers name (the_key q.op) ≡ true → any_under ps name ≡ true) _ ps (λ q f. under-more name p ps q f) (all-under name ps),
)

-- a join behind an event: where its brick is as it was, each one that served a key of it had granted it
pub record IsFrozen (n m : Net) (k : ℕ) (t : BrickState) (o : OpenOrder) : Type 0 where
  pub here : m.node k ≡ a_brick t
  pub there : t.order ≡ Some o
  pub join : is_join o.task ≡ true
  pub before : n.node k ≡ a_brick t → Freezes n k t o

module _ (z : Sizes) (cs : List Caller) (made : List Made) (n : Net) (g : Before z made n) (at from : ℕ) (l : Letter) (s : BrickState)
    (f : Takes z n at from l (a_brick s)) where
  -- what is pending is covered
  its-covered : Covering (own s)
  its-covered = let it : Standing (own s) × Covering (own s) = subst (NodeStands at) f.here (g.lying.stood.stands at) in it.1

  -- under the name of such a join nothing is
  all-unlocked : (k : ℕ) (t : BrickState) (o : OpenOrder) → Freezes n k t o → AllByRecursion (Unlocked o.name) s.locks.pending
  all-unlocked k t o b =
      all-map (λ p. (covers o.name (the_key p.op) ≡ true → any_under s.locks.pending o.name ≡ true) × Covers s.leaves p) (Unlocked o.name) s.locks.pending
      (λ p q. false-of (covers o.name (the_key p.op)) (λ under.
      both_ways (any_under s.locks.pending o.name)
      (freezes-leased z n g.all g.together g.lying k at t s o (the_key p.op) b f.here f.live q.1 under).1 (q.0 under)))
      (all-both _ _ s.locks.pending (all-under o.name s.locks.pending) its-covered)

  -- nor under that of its own join, which may begin to copy
  own-unlocked : (o : OpenOrder) → WasJoin s o → AllByRecursion (Unlocked o.name) s.locks.pending
  own-unlocked o w =
      all-map (Covers s.leaves) (Unlocked o.name) s.locks.pending
      (λ p q. subst (λ i. covers i (the_key p.op) ≡ false) (sym w.same.name)
      (covered-apart at (own s) w.before (the_key p.op) (its-own z made n g at s f.here) w.there w.join q)) its-covered

  join-unlocked : (k : ℕ) (t : BrickState) (o : OpenOrder) → IsFrozen n (moved z n (brick_takes at from l s)) k t o
      → PutAt n at k (a_brick (live_brick_turn s from l).state) t → AllByRecursion (Unlocked o.name) s.locks.pending
  join-unlocked k t o b (itself is same) =
      own-unlocked o (was-join s from l o (ap (λ (x : BrickState). x.order) (same-brick (live_brick_turn s from l).state t same) ∙ b.there) b.join)
  join-unlocked k t o b (another ne here) = all-unlocked k t o (b.before here)

  turn-outside : (place k : ℕ) (t : BrickState) (o : OpenOrder) → IsFrozen n (moved z n (brick_takes at from l s)) k t o
      → AllByRecursion (IsOutside o.name) (all_kept made (points_of place (brick_takes at from l s)))
  turn-outside place k t o b =
      kept-all (IsOutside o.name) made (points_of place (brick_takes at from l s))
      (made-outside o.name place l (live_brick_turn s from l).out.points
      (turn-points (Unlocked o.name) s from l
      (join-unlocked k t o b (put-at n at k (a_brick (live_brick_turn s from l).state) t b.here))))

pub frozen-outside : (z : Sizes) (cs : List Caller) (made : List Made) (n : Net) → Before z made n → (e : Event) → Fits z cs n e → (place k : ℕ)
    (t : BrickState) (o : OpenOrder) → IsFrozen n (moved z n e) k t o → AllByRecursion (IsOutside o.name) (all_kept made (points_of place e))
frozen-outside z cs made n g (brick_takes at from l s) f place k t o b = turn-outside z cs made n g at from l s f place k t o b
frozen-outside z cs made n g nothing f place k t o b = tt
frozen-outside z cs made n g (unheard at from l) f place k t o b = tt
frozen-outside z cs made n g (unasked at caller call c) f place k t o b = tt
frozen-outside z cs made n g (brick_told at c s) f place k t o b = tt
frozen-outside z cs made n g (brick_stops at s left) f place k t o b = tt
frozen-outside z cs made n g (library_takes at from l s) f place k t o b = tt
frozen-outside z cs made n g (library_asked at caller call c s) f place k t o b = tt
frozen-outside z cs made n g (library_stops at s left) f place k t o b = tt

pub come-outside : (z : Sizes) (cs : List Caller) (made : List Made) (n : Net) → Before z made n → (e : Event) → Fits z cs n e → (place : ℕ)
    → ComeOutside (moved z n e) (all_kept made (points_of place e))
come-outside z cs made n g e f place =
    record {
      outside = λ k t o b.
          frozen-outside z cs made n g e f place k t o
          (record {
            here = b.here;
            there = b.there;
            join = b.join;
            before = λ here. bound-freezes n k t o g.together.granted (still-bound z cs n e f k t o here b);
          });
    }
