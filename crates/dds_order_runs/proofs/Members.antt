use Rattle.std.proofs.Common.{◌≡◌, ◌⊎◌, inl, inr, Option, Some, subst}
use Rattle.std.specs.FinMap.{get}
use Rattle.dds_base.specs.declared.leaf.Leaf.{Leaf}
use Rattle.dds_cluster.proofs.Sizes.{IsSized}
use Rattle.dds_cluster.specs.World.{World}
use Rattle.dds_core.proofs.Lists.{all-is}
use Rattle.dds_law_leaf.proofs.Book.{Each, InCall, InLibrary, InOrder}
use Rattle.dds_law_leaf.proofs.Maps.{each-is}
use Rattle.dds_listed.proofs.Listed as listed
use Rattle.dds_listed.proofs.Listed.{AllAnswer, LetterOk, NodeOk}
use Rattle.dds_listed.proofs.Worlds.{joins-unlisted}
use Rattle.dds_net.proofs.Nodes.{brick-node, library-node}
use Rattle.dds_net.proofs.Runs.{sized-run}
use Rattle.dds_net.proofs.Ways.{travels}
use Rattle.dds_net.specs.Net.{Sizes, a_brick, net, sizes_of}
use Rattle.dds_world.specs.Groups.{HasLeaf, call_leaf, letter_leaf, made_leaf}
use Rattle.dds_world.specs.Groups.HasLeaf.{in_brick, in_call, in_letter, in_map, in_order}
use Rattle.dds_world.specs.Places.{reached}
use Rattle.dds_order_runs.proofs.Along.{run-kept}
use Rattle.dds_order_runs.specs.Law.{JoinersStayUnlisted, MembersAlwaysAnswer}

-- What the invariant says of the leaves of a world.

of-order : (P : Leaf → Type 0) (x y : Option Leaf) (leaf : Leaf) → Each P x → Each P y → (x ≡ Some leaf) ⊎ (y ≡ Some leaf) → P leaf
of-order P x y leaf h k (inl e) = each-is P x leaf e h
of-order P x y leaf h k (inr e) = each-is P y leaf e k

its-members : (z : Sizes) (w : World) (leaf : Leaf) → IsSized z.bricks z.libraries w → AllAnswer (net z w) → HasLeaf w leaf
    → listed.MembersAnswer (net z w) leaf
its-members z _ _ sized g (in_brick w leaf it) =
    let P = listed.MembersAnswer (net z w) in
    let ok : NodeOk (net z w) it.brick (a_brick it.state) =
    subst (NodeOk (net z w) it.brick) (brick-node w it.brick it.state it.there) (g.nodes it.brick) in
    each-is P (get it.state.leaves it.name) leaf it.is (ok.0 it.name)
its-members z _ _ sized g (in_order w leaf it) =
    let P = listed.MembersAnswer (net z w) in
    let ok : NodeOk (net z w) it.brick (a_brick it.state) =
    subst (NodeOk (net z w) it.brick) (brick-node w it.brick it.state it.there) (g.nodes it.brick) in
    let its : InOrder P (Some it.order) = subst (InOrder P) it.open_order ok.1 in
    of-order P it.order.leaf (made_leaf it.order.phase) leaf its.0 its.1 it.is
its-members z _ _ sized g (in_map w leaf it) =
    let P = listed.MembersAnswer (net z w) in
    let ok : InLibrary P it.state = subst (NodeOk (net z w) it.node) (library-node w it.node it.state it.there) (g.nodes it.node) in
    each-is P (get it.state.map it.name) leaf it.is (ok.map it.name)
its-members z _ _ sized g (in_call w leaf it) =
    let P = listed.MembersAnswer (net z w) in
    let ok : InLibrary P it.state = subst (NodeOk (net z w) it.node) (library-node w it.node it.state it.there) (g.nodes it.node) in
    each-is P (call_leaf it.call.phase) leaf it.is (all-is (InCall P) it.state.calls it.at it.call ok.calls it.open_call)
its-members z _ _ sized g (in_letter w leaf it) =
    let P = listed.MembersAnswer (net z w) in
    each-is P (letter_leaf it.sent) leaf it.is
    (travels (LetterOk (net z w) it.from it.to) z w it.from it.to it.sent sized it.travels (g.letters it.from it.to))

pub members-answer : MembersAlwaysAnswer
members-answer o journal h run leaf brick s there new live lists =
    let w = reached o journal in
    its-members (sizes_of o) w leaf (sized-run o journal) (run-kept o journal h run).answer there new brick s (brick-node w brick s live.there) live.live lists

pub joiners-unlisted : JoinersStayUnlisted
joiners-unlisted o journal brick s join leaf h run live there joins none at new name =
    joins-unlisted o journal brick s join leaf h run (members-answer o journal h run) live there joins none at new name
