use Rattle.std.proofs.Common.{◌≡◌, ℕ, inl, inr, Bool, true, false, not, Option, Some, None, List}
use Rattle.std.proofs.Common.{refl, sym, ap, ◌∙◌, subst}
use Rattle.std.proofs.lemmas.Bool.{both_ways, cases_Bool, ne_eqb}
use Rattle.std.specs.Prelude.{take, if◌then◌else◌}
use Rattle.dds_base.specs.BrickList.{has}
use Rattle.dds_base.specs.Name.{Name}
use Rattle.dds_base.specs.NodeSet.{has_node}
use Rattle.dds_base.specs.declared.leaf.Leaf.{Leaf}
use Rattle.dds_cluster.specs.Trace.{start}
use Rattle.dds_cluster.specs.declared.step.Step.{Step}
use Rattle.dds_law_notice.proofs.Keeps.{AreLinked}
use Rattle.dds_law_notice.proofs.Views.{knows, view}
use Rattle.dds_net.proofs.Journals.{net_of}
use Rattle.dds_net.proofs.Nodes.{brick-in, brick-node}
use Rattle.dds_net.proofs.Prefixes.{run-take}
use Rattle.dds_net.proofs.Runs.{sized-run}
use Rattle.dds_net.specs.Net.{sizes_of}
use Rattle.dds_order_rows.specs.OwnOrder.{is_leasing}
use Rattle.dds_order_talk.proofs.Holds as holds
use Rattle.dds_order_talk.proofs.Holds.{both-live, granted-holds, name-self}
use Rattle.dds_order_talk.proofs.Lines.{granted-leaf}
use Rattle.dds_order_talk.proofs.Moves.{Tells}
use Rattle.dds_order_talk.proofs.Letters.{BrickOk, NodeOk}
use Rattle.dds_order_talk.proofs.Runs.{run-within}
use Rattle.dds_order_talk.proofs.TalkBegins.{orders-talk-of}
use Rattle.dds_order_talk.specs.Seen.{New, Own, phase_view, rests, with_leaf}
use Rattle.dds_order_talk.specs.Seen.{view as view_of}
use Rattle.dds_order_talk.specs.Table.{Ask, Say, Talk, View}
use Rattle.dds_order_talk.specs.Table.View.{Off, Due, Done}
use Rattle.dds_orders.proofs.Stood.{run-stood}
use Rattle.dds_script.specs.Opening.{OpeningOf}
use Rattle.dds_states.specs.declared.brick_state.BrickState.{BrickState}
use Rattle.dds_states.specs.declared.brick_state.OrderPhase.{OrderPhase}
use Rattle.dds_states.specs.declared.brick_state.OrderPhase.TheVariants.{Copying, Installing, Leasing}
use Rattle.dds_talk.proofs.Grounds.{known-over}
use Rattle.dds_trie.specs.Trie.{LeafMap}
use Rattle.dds_world.specs.Places.{IsLive, reached}
use Rattle.dds_order_runs.proofs.Along.{run-kept}
use Rattle.dds_order_runs.specs.Law.{GrantedMembersHold, HasOf, OrdersAlwaysTalk}

-- Orders and their members talk by the table along each run; and what that says of a world.

pub orders-always-talk : OrdersAlwaysTalk
orders-always-talk o journal h run at =
    orders-talk-of (net_of o (take at journal)) (run-kept o (take at journal) h (run-take (start o) journal at run)).talking.talks

-- live bricks
unknown-at : (o : OpeningOf) (journal : List Step) (brick other : ℕ) (s t : BrickState) → AreLinked (sizes_of o) (net_of o journal)
    → IsLive (reached o journal) brick s → IsLive (reached o journal) other t → has_node s.known other ≡ false
unknown-at o journal brick other s t links live also = elim (cases_Bool (has_node s.known other)) [
  | inl k ↦
      let w = reached o journal in
      let n = net_of o journal in
      let inside = brick-in (sizes_of o) w brick s (sized-run o journal) live.there in
      let known : knows (view (n.node brick)) other ≡ true = ap (λ x. knows (view x) other) (brick-node w brick s live.there) ∙ k in
      let stopped = (known-over (sizes_of o) n other brick links inside known).0 in
      absurd (both_ways t.stopped also.live (sym (ap (λ x. (view x).stopped) (brick-node w other t also.there)) ∙ stopped))
  | inr e ↦ e
]

has-of : (m : LeafMap) (x : Name) (leaf : Leaf) (p : OrderPhase) → holds.HasOf (Own m x) (New m x) p leaf → HasOf m x leaf p
has-of m x leaf Leasing h = h
has-of m x leaf (Copying source) h = h
has-of m x leaf (Installing made) h = h

-- who isn't waited for any more has what was made
done-made : {Own New : Tells} {v : View} {a : List Ask} {given : Bool} {b : List Say} {x : Name} (m : ℕ) (w g : Bool) (q : Option Leaf) (leaf made : Leaf)
    → w ≡ false → g ≡ true → q ≡ Some leaf
    → v ≡ (if w then with_leaf rests m q (λ own. Due own made) else (if g then with_leaf rests m q (λ own. Done own made) else Off))
    → Talk x Own New v a given b → New made
done-made m true g q leaf made e f k i h = cc
done-made m false false q leaf made e f k i h = cc
done-made m false true None leaf made e f k i h = cc
done-made {Own = Own} {New = New} {a = a} {given = given} {b = b} {x = x} m false true (Some own) leaf made e f k i h =
    (granted-leaf refl (subst (λ v. Talk x Own New v a given b) i h)).1

pub granted-hold : GrantedMembersHold
granted-hold o journal brick member s t q leaf h run live also opened fixed gave =
    let w = reached o journal in
    let n = net_of o journal in
    let here = brick-node w brick s live.there in
    let there = brick-node w member t also.there in
    let ok : BrickOk brick s = subst (NodeOk brick) here ((run-within o journal h run).nodes brick) in
    let it = ok.is.order q opened in
    let asked = it.granted member gave in
    let ne = ne_eqb brick member (λ e. both_ways (has q.asked brick) it.itself (ap (has q.asked) e ∙ asked)) in
    let unknown = unknown-at o journal brick member s t (run-stood o journal h run).links live also in
    let talk = orders-talk-of n (run-kept o journal h run).talking.talks in
    let apart : q.phase ≡ Leasing → has q.waiting member ≡ false = (λ e. elim (cases_Bool (has q.waiting member)) [
      | inl k ↦ absurd (both_ways (has q.granted member) (it.leases member (ap is_leasing e) k).1 gave)
      | inr k ↦ k
    ]) in
    let r = granted-holds brick member s t q leaf (n.channel brick member) (n.channel member brick) live.live also.live unknown opened fixed gave apart
    (talk brick member q.name s t here there ne) in
    let line = both-live (ap not live.live) (ap not also.live) (talk brick member q.name s t here there ne unknown) in
    record {
      lease = r.0;
      own = has-of t.leaves q.name leaf q.phase r.1;
      made = λ made phase done.
          done-made member (has q.waiting member) (has q.granted member) q.leaf leaf made done gave fixed
          (ap (λ k. view_of rests k q.name member) opened ∙ ap (λ c. if c then phase_view rests q member q.phase else Off) (name-self q.name)
          ∙ ap (phase_view rests q member) phase) line;
    }
