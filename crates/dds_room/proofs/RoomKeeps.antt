use Rattle.std.proofs.Common.{◌≡◌, ℕ, ◌≤◌, ◌||◌, true, false, is_some, List, [], Some, None, refl, sym, ap, ◌∙◌, subst, arith}
use Rattle.std.proofs.lemmas.Bool.{both_ways, eq-eqb}
use Rattle.std.specs.FinMap.{contains_key, get-empty}
use Rattle.std.specs.Ordering.{nat_cmp}
use Rattle.std.specs.Prelude.{if◌then◌else◌}
use Rattle.dds_base.specs.declared.leaf.Leaf.{Leaf}
use Rattle.dds_cluster.proofs.Sizes.{sized-start}
use Rattle.dds_cluster.specs.Trace.{is_run, start}
use Rattle.dds_cluster.specs.World.{emptied, new_brick}
use Rattle.dds_cluster.specs.declared.step.Step.{Step}
use Rattle.dds_cluster.specs.declared.trace.Caller.{Caller}
use Rattle.dds_core.specs.Brick.{brick_input, live_brick_turn}
use Rattle.dds_law_own.proofs.Changes.{own}
use Rattle.dds_law_own.proofs.Keeps.{NodeOk, of-another}
use Rattle.dds_law_own.proofs.Parted.{IsBoth}
use Rattle.dds_locks.specs.Pending.{IsApart}
use Rattle.dds_net.proofs.Carried.{Becomes, nodes-moved}
use Rattle.dds_net.proofs.Nodes.{brick-node}
use Rattle.dds_net.proofs.Opening.{IsNew, new_a_brick, new_a_library, no_node, start-node}
use Rattle.dds_net.proofs.Runs.{IsKept, run-keeps}
use Rattle.dds_net.specs.Event.{Event, nothing, unheard, unasked, brick_takes, brick_told, brick_stops, library_takes, library_asked, library_stops}
use Rattle.dds_net.specs.Event.{Fits, moved}
use Rattle.dds_net.specs.Net.{Net, Node, nowhere, a_brick, a_library, Sizes, net, put, sizes_of}
use Rattle.dds_orders.proofs.Deeds.{seat}
use Rattle.dds_orders.proofs.Stood.{NodeStands}
use Rattle.dds_orders.proofs.Turns.{letter-turns, order-goes}
use Rattle.dds_pairs.proofs.LieKeeps.{AreLying, NodeLies, lying-kept, run-lying}
use Rattle.dds_pairs.proofs.NameKeeps.{NodeNamed, keyed-at}
use Rattle.dds_parents.proofs.Splits.{AreSplit, NodeSplits, run-split, split-kept}
use Rattle.dds_script.specs.Opening.{IsOpening, OpeningOf}
use Rattle.dds_states.specs.declared.brick_state.BrickState.{BrickState}
use Rattle.dds_trie.specs.Trie.{name_cmp}
use Rattle.dds_world.specs.Places.{reached}
use Rattle.dds_room.proofs.Counts.{few-of}
use Rattle.dds_room.proofs.Gains.{OrderSmall}
use Rattle.dds_room.proofs.RoomAfter.{Before, has-room}
use Rattle.dds_room.proofs.RoomTurns.{told-room, turn-room}
use Rattle.dds_room.proofs.Smalls.{heard-small, path-small}
use Rattle.dds_room.specs.Room.{HasRoom, LeavesHaveRoom}

-- Each event keeps the room of bricks, over what is so of leaves, of leases, of pairs and of splits.

-- | part    | why it is needed                                        | what keeps it                                          |
-- | `room`  | a put that is prepared has room for its pair            | Prepare's test; what ends transactions takes no new    |
-- |         |                                                         | key; a leaf that comes lies within one that was there  |
-- | `apart` | each key is counted once, as a pair or as a pending put | Prepare's test                                         |
-- | `small` | what a join serves with its leaf fits under it          | a part's test                                          |
pub record RoomOk (s : BrickState) : Type 0 where
  pub room : HasRoom s
  pub apart : IsApart s.locks.pending
  pub small : OrderSmall s.order

abbrev pub NodeRoom : ℕ → Node → Type 0
NodeRoom k nowhere = Unit {0}
NodeRoom k (a_brick s) = RoomOk s
NodeRoom k (a_library s) = Unit {0}

pub record AreRoomy (z : Sizes) (n : Net) : Type 0 where
  pub lying : AreLying z n
  pub split : AreSplit z n
  pub nodes : (k : ℕ) → NodeRoom k (n.node k)

before : (z : Sizes) (n : Net) (at : ℕ) (s : BrickState) → n.node at ≡ a_brick s → AreRoomy z n → Before at s
before z n at s here g =
    let it : RoomOk s = subst (NodeRoom at) here (g.nodes at) in
    record {
      both = subst (NodeOk at) here (g.lying.named.copied.own at);
      fit = subst (NodeNamed at) here (g.lying.named.nodes at);
      splits = subst (NodeSplits at) here (g.split.splits at);
      covering = (subst (NodeStands at) here (g.lying.stood.stands at)).1;
      lies = subst (NodeLies at) here (g.lying.lies at);
      small = it.small;
      apart = it.apart;
      room = it.room;
    }

-- a brick that stopped has no leaf
no-room : (at : ℕ) → HasRoom (emptied at)
no-room at name leaf e = absurd (none leaf (sym (get-empty name_cmp name) ∙ e))
  where
    none : (leaf : Leaf) → None ≡ Some leaf → ⊥
    none leaf e = cc

-- a brick after an event
after-put : (P : ℕ → Node → Type 0) (at : ℕ) (y : Node) (nodes : ℕ → Node) → P at (put at y nodes at) → P at y
after-put P at y nodes h = subst (P at) (ap (λ c. if c then y else nodes at) (eq-eqb at at refl)) h

becomes : (z : Sizes) (cs : List Caller) (n : Net) (e : Event) → z.bricks ≤ 64 → z.libraries ≤ 16 → Fits z cs n e → AreRoomy z n → AreLying z (moved z n e)
    → Becomes NodeRoom e
becomes z cs n nothing few some f g later = tt
becomes z cs n (unheard at from l) few some f g later = tt
becomes z cs n (unasked at caller call o) few some f g later = tt
becomes z cs n (brick_takes at from l s) few some f g later =
    let u = (live_brick_turn s from l).state in
    let h = before z n at s f.here g in
    let now : IsBoth at (own u) = after-put NodeOk at (a_brick u) n.node (later.named.copied.own at) in
    let k = turn-room at s h from l (keyed-at at s h.both) (keyed-at at u now) in
    let t = letter-turns s from l (of-another z n at from l s few some g.lying.named.copied.links f h.both.0.number) in
    let a = path-small (seat s) t.first [] t.takes h.small in
    let b = heard-small from l t.first t.next t.answers t.hears a in
    record { room = k.room; apart = k.apart; small = path-small t.next (seat u) t.letters t.goes b }
becomes z cs n (brick_told at o s) few some f g later =
    let u = (brick_input s o).state in
    let h = before z n at s f.here g in
    let now : IsBoth at (own u) = after-put NodeOk at (a_brick u) n.node (later.named.copied.own at) in
    let k = told-room at s h o (keyed-at at u now) in
    record { room = k.room; apart = k.apart; small = path-small (seat s) (seat u) (brick_input s o).out.letters (order-goes s o).path h.small }
becomes z cs n (brick_stops at s kept) few some f g later = record { room = no-room s.number; apart = tt; small = λ o e. cc }
becomes z cs n (library_takes at from l s) few some f g later = tt
becomes z cs n (library_asked at caller call o s) few some f g later = tt
becomes z cs n (library_stops at s kept) few some f g later = tt

pub roomy-kept : (z : Sizes) → z.bricks ≤ 64 → z.libraries ≤ 16 → IsKept z (Unit {0}) (λ h n e u. tt) (λ h n u. AreRoomy z n)
roomy-kept z few some h n e u built f g =
    let later = lying-kept z few some h n e u built f g.lying in
    record {
      lying = later;
      split = split-kept z few some h n e u built f g.split;
      nodes = nodes-moved NodeRoom z n e g.nodes (becomes z h.callers n e few some f g later);
    }

-- the opening: no key is bound, and nothing is pending
nothing-taken : (o : OpeningOf) (k key : ℕ) → (contains_key (new_brick o.leaves k).pairs key || false) ≡ true → ⊥
nothing-taken o k key t =
    both_ways (contains_key (new_brick o.leaves k).pairs key || false) (ap (λ c. c || false) (ap is_some (get-empty nat_cmp key))) t

new-room : (o : OpeningOf) (k : ℕ) → IsBoth k (own (new_brick o.leaves k)) → RoomOk (new_brick o.leaves k)
new-room o k both =
    record {
      room = has-room (new_brick o.leaves k) (keyed-at k (new_brick o.leaves k) both) (λ q there.
          let le = few-of (new_brick o.leaves k).pairs q [] [] tt (λ key over t. absurd (nothing-taken o k key t)) in omega (arith, le));
      apart = tt;
      small = λ p e. cc;
    }

start-room : (o : OpeningOf) (k : ℕ) (x : Node) → IsNew o k x → NodeOk k x → NodeRoom k x
start-room o k x (no_node e) h = subst (NodeRoom k) (sym e) tt
start-room o k x (new_a_brick e) h = subst (NodeRoom k) (sym e) (new-room o k (subst (NodeOk k) e h))
start-room o k x (new_a_library high e) h = subst (NodeRoom k) (sym e) tt

pub run-roomy : (o : OpeningOf) (journal : List Step) → IsOpening o → is_run o journal ≡ true → AreRoomy (sizes_of o) (net (sizes_of o) (reached o journal))
run-roomy o journal h run =
    let z = sizes_of o in
    let lying = run-lying o [] h refl in
    (run-keeps z (Unit {0}) (λ h n e u. tt) (λ h n u. AreRoomy z n) journal (start o) h.ranges.bricks (roomy-kept z h.ranges.bricks h.ranges.libraries)
    (record {
      sized = sized-start o;
      books = tt;
      is = record { lying = lying; split = run-split o [] h refl; nodes = λ k. start-room o k _ (start-node o k) (lying.named.copied.own k) };
    }) run).is

pub leaves-have-room : LeavesHaveRoom
leaves-have-room o journal brick s h run live =
    let its : RoomOk s = subst (NodeRoom brick) (brick-node (reached o journal) brick s live.there) ((run-roomy o journal h run).nodes brick) in its.room
