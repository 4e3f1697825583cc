use Rattle.std.proofs.Common.{◌≡◌, ℕ, ◌≤◌, ◌++◌, true, Some, None, List, [], ◌∷◌, append_assoc, refl, sym, ◌∙◌, subst}
use Rattle.std.proofs.lemmas.List.{append-nil}
use Rattle.dds_cluster.proofs.Sizes.{sized-start}
use Rattle.dds_cluster.specs.Trace.{is_run, run_of, start}
use Rattle.dds_cluster.specs.World.{brick_at}
use Rattle.dds_cluster.specs.declared.step.Step.{Step}
use Rattle.dds_copies.proofs.Before.{Before}
use Rattle.dds_copies.proofs.Runs.{along-talks, front-run, next-possible, run-reached, values-held}
use Rattle.dds_net.proofs.Carried.{Becomes, nodes-moved}
use Rattle.dds_net.proofs.Journals.{Grown, brick-now, net_of, next-event, world-now}
use Rattle.dds_net.proofs.Opening.{IsNew, new_a_brick, new_a_library, no_node, start-node}
use Rattle.dds_net.proofs.Puts.{Pairs}
use Rattle.dds_net.proofs.Runs.{IsKept, run-keeps}
use Rattle.dds_net.specs.Event.{Event, nothing, unheard, unasked, brick_takes, brick_told, brick_stops, library_takes, library_asked, library_stops}
use Rattle.dds_net.specs.Event.{Fits}
use Rattle.dds_net.specs.Net.{Net, Node, nowhere, a_brick, a_library, Sizes, sizes_of}
use Rattle.dds_orders.proofs.Numbered as numbered
use Rattle.dds_script.specs.Opening.{IsOpening, OpeningOf}
use Rattle.dds_states.specs.declared.brick_state.BrickState.{BrickState}
use Rattle.dds_states.specs.declared.brick_state.OpenOrder.{OpenOrder}
use Rattle.dds_states.specs.declared.brick_state.OrderPhase.TheVariants.{Copying}
use Rattle.dds_values.specs.Held.{TalkAlong}
use Rattle.dds_room.proofs.Copying.{letter-joins, told-joins}
use Rattle.dds_room.proofs.Going.{Going, NodeJoins}
use Rattle.dds_room.proofs.PartsKeep.{goes-kept}
use Rattle.dds_room.proofs.RoomKeeps as rooms
use Rattle.dds_room.proofs.RoomKeeps.{run-roomy}
use Rattle.dds_order_talk.specs.Seen.{PartsGoOn}
use Rattle.dds_room.specs.Parts.{PartsAlwaysGoOn}
use Rattle.dds_room.specs.Room.{LeavesHaveRoom}

-- Along each run: joins alone copy, and where an order copies between live bricks, it goes on.

-- the two laws of runs that others cite: this one, and `parts-always-go-on` below
pub leaves-have-room : LeavesHaveRoom
leaves-have-room = rooms.leaves-have-room

-- joins alone copy
joins-become : (z : Sizes) (n : Net) (e : Event) (cs : _) → Fits z cs n e → ((k : ℕ) → NodeJoins k (n.node k)) → Becomes NodeJoins e
joins-become z n nothing cs f g = tt
joins-become z n (unheard at from l) cs f g = tt
joins-become z n (unasked at caller call o) cs f g = tt
joins-become z n (brick_takes at from l s) cs f g = (letter-joins s from l (subst (NodeJoins at) f.here (g at))).is
joins-become z n (brick_told at c s) cs f g = (told-joins s c (subst (NodeJoins at) f.here (g at))).is
joins-become z n (brick_stops at s kept) cs f g = λ o e. cc
joins-become z n (library_takes at from l s) cs f g = tt
joins-become z n (library_asked at caller call o s) cs f g = tt
joins-become z n (library_stops at s kept) cs f g = tt

joins-kept : (z : Sizes) → z.bricks ≤ 64 → z.libraries ≤ 16 → IsKept z (Unit {0}) (λ h n e u. tt) (λ h n u. (k : ℕ) → NodeJoins k (n.node k))
joins-kept z few some h n e u built f g = nodes-moved NodeJoins z n e g (joins-become z n e h.callers f g)

start-joins : (o : OpeningOf) (k : ℕ) (x : Node) → IsNew o k x → NodeJoins k x
start-joins o k x (no_node e) = subst (NodeJoins k) (sym e) tt
start-joins o k x (new_a_brick e) = subst (NodeJoins k) (sym e) (λ p f. cc)
start-joins o k x (new_a_library high e) = subst (NodeJoins k) (sym e) tt

run-joins : (o : OpeningOf) (journal : List Step) → IsOpening o → is_run o journal ≡ true → (k : ℕ) → NodeJoins k ((net_of o journal).node k)
run-joins o journal h run =
    let z = sizes_of o in
    (run-keeps z (Unit {0}) (λ h n e u. tt) (λ h n u. (k : ℕ) → NodeJoins k (n.node k)) journal (start o) h.ranges.bricks
    (joins-kept z h.ranges.bricks h.ranges.libraries)
    (record { sized = sized-start o; books = tt; is = λ k. start-joins o k _ (start-node o k) }) run).is

-- the opening: no order is open
abbrev HasNone : Node → Type 0
HasNone nowhere = Unit {0}
HasNone (a_brick s) = s.order ≡ None
HasNone (a_library s) = Unit {0}

start-none : (o : OpeningOf) (k : ℕ) (x : Node) → IsNew o k x → HasNone x
start-none o k x (no_node e) = subst HasNone (sym e) tt
start-none o k x (new_a_brick e) = subst HasNone (sym e) refl
start-none o k x (new_a_library high e) = subst HasNone (sym e) tt

none-goes : (j m : ℕ) (x y : Node) (out back : _) → HasNone x → Going j m x y out back
none-goes j m nowhere y out back e = tt
none-goes j m (a_library s) y out back e = tt
none-goes j m (a_brick s) nowhere out back e = tt
none-goes j m (a_brick s) (a_library t) out back e = tt
none-goes j m (a_brick s) (a_brick t) out back e = λ ne live also o f. absurd (not-open o (sym e ∙ f))
  where
    not-open : (o : OpenOrder) → None ≡ Some o → ⊥
    not-open o e = cc

module _ (o : OpeningOf) (journal : List Step) (h : IsOpening o) (run : is_run o journal ≡ true) (talk : TalkAlong o journal) where
  brick-here : (was : List Step) (x : Step) (k : ℕ) (s : BrickState) → (net_of o was).node k ≡ a_brick s → brick_at (run_of o was).world k ≡ Some s
  brick-here was x k s here = subst (λ w. brick_at w k ≡ Some s) (world-now o was (x ∷ [])) (brick-now o was x k s here)

  -- before the next step
  before-next : (was rest : List Step) (x : Step) → was ++ x ∷ rest ≡ journal → Before (sizes_of o) (run_of o was).made (net_of o was)
  before-next was rest x whole =
      let so_far = front-run o journal h run talk was (x ∷ rest) whole in
      let talks = along-talks o journal h run talk was (x ∷ rest) whole in
      let r = run-reached o was h so_far talks in
      record {
        few = h.ranges.bricks;
        some = h.ranges.libraries;
        all = r.all;
        together = r.together;
        lying = r.lying;
        holds = λ k s here live. (values-held o was h so_far talks).bricks k s (brick-here was x k s here) live;
        copy = r.along.copy;
      }

  next-goes : (was rest : List Step) (x : Step) → was ++ x ∷ rest ≡ journal → Pairs Going (net_of o was) → Pairs Going (net_of o (Grown was x))
  next-goes was rest x whole g =
      let so_far = front-run o journal h run talk was (x ∷ rest) whole in
      let all = append_assoc was (x ∷ []) rest ∙ whole in
      let e = next-event o was x h.ranges.bricks (next-possible o was x (front-run o journal h run talk (Grown was x) rest all)) in
      subst (Pairs Going) (sym e.1.after)
      (goes-kept (sizes_of o) (run_of o was).made (net_of o was) (before-next was rest x whole) (run-roomy o was h so_far) (run-joins o was h so_far)
      (run_of o was).callers e.0 e.1.fits g)

  along-goes : (was rest : List Step) → was ++ rest ≡ journal → Pairs Going (net_of o was) → Pairs Going (net_of o journal)
  along-goes was [] whole g = subst (λ i. Pairs Going (net_of o i)) (sym (append-nil was) ∙ whole) g
  along-goes was (x ∷ rest) whole g = along-goes (Grown was x) rest (append_assoc was (x ∷ []) rest ∙ whole) (next-goes was rest x whole g)

  run-goes : Pairs Going (net_of o journal)
  run-goes =
      along-goes [] journal refl (λ j m. none-goes j m ((net_of o []).node j) ((net_of o []).node m) ((net_of o []).channel j m)
      ((net_of o []).channel m j) (start-none o j ((net_of o []).node j) (start-node o j)))

  -- no order copies from its own brick
  other-source : (j m : ℕ) (s : BrickState) (q : OpenOrder) → (net_of o journal).node j ≡ a_brick s → s.order ≡ Some q → q.phase ≡ Copying m → j ≡ m → ⊥
  other-source j m s q here e phase same =
      let ok : numbered.BrickOk j s = subst (numbered.NodeOk j) here ((run-reached o journal h run talk).lying.stood.counted.nodes j) in
      (ok.is.order q e).source m phase (sym same)

  pub go-on : PartsGoOn (net_of o journal)
  go-on j m s t q here there live also e phase =
      let n = net_of o journal in
      let all : Going j m (a_brick s) (a_brick t) (n.channel j m) (n.channel m j) =
      subst (λ y. Going j m (a_brick s) y (n.channel j m) (n.channel m j)) there
      (subst (λ x. Going j m x (n.node m) (n.channel j m) (n.channel m j)) here (run-goes j m)) in
      all (other-source j m s q here e phase) live also q e phase

pub parts-always-go-on : PartsAlwaysGoOn
parts-always-go-on o journal h run talk = go-on o journal h run talk
