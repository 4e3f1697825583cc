use Rattle.std.proofs.Common.{ℕ, [], sym, subst}
use Rattle.std.proofs.lemmas.Bool.{eqb-false}
use Rattle.std.specs.List.{AllByRecursion}
use Rattle.dds_cluster.specs.Trace.{start}
use Rattle.dds_cluster.specs.World.{new_brick}
use Rattle.dds_net.proofs.Opening.{IsNew, new_a_brick, new_a_library, no_node, start-channel, start-node}
use Rattle.dds_net.proofs.Puts.{Pairs}
use Rattle.dds_net.specs.Net.{Net, Node, a_brick, net, sizes_of}
use Rattle.dds_script.specs.Opening.{OpeningOf}
use Rattle.dds_order_talk.proofs.BrickSide.{none-fits}
use Rattle.dds_order_talk.proofs.Fitting.{NodeFits}
use Rattle.dds_order_talk.proofs.Givers.{AreGiven, GiverOk}
use Rattle.dds_order_talk.proofs.Talking.{Talking, with-of}
use Rattle.dds_order_talk.specs.Seen.{OrdersTalk}
use Rattle.dds_order_talk.specs.Table.Stale.{clear}
use Rattle.dds_order_talk.specs.Table.Talk.{off}
use Rattle.dds_order_talk.specs.Table.Talks.{live}

-- The opening: no order is open, and nothing is on its way. And what two nodes say, as it is claimed of bricks.

new-talks : (o : OpeningOf) (a b : ℕ) (x y : Node) → IsNew o a x → IsNew o b y → Talking a b x y [] []
new-talks o a b x y (no_node e) k = subst (λ i. Talking a b i y [] []) (sym e) tt
new-talks o a b x y (new_a_library high e) k = subst (λ i. Talking a b i y [] []) (sym e) tt
new-talks o a b x y (new_a_brick e) (no_node f) =
    subst (λ i. Talking a b i y [] []) (sym e) (subst (λ i. Talking a b (a_brick (new_brick o.leaves a)) i [] []) (sym f) tt)
new-talks o a b x y (new_a_brick e) (new_a_library high f) =
    subst (λ i. Talking a b i y [] []) (sym e) (subst (λ i. Talking a b (a_brick (new_brick o.leaves a)) i [] []) (sym f) tt)
new-talks o a b x y (new_a_brick e) (new_a_brick f) =
    subst (λ i. Talking a b i y [] []) (sym e) (subst (λ i. Talking a b (a_brick (new_brick o.leaves a)) i [] []) (sym f) (λ apart n unknown. live (off clear)))

pub start-talks : (o : OpeningOf) → Pairs Talking (net (sizes_of o) (start o).world)
start-talks o a b =
    let n = net (sizes_of o) (start o).world in
    subst (λ c. Talking a b (n.node a) (n.node b) c (n.channel b a)) (sym (start-channel o a b))
    (subst (Talking a b (n.node a) (n.node b) []) (sym (start-channel o b a)) (new-talks o a b (n.node a) (n.node b) (start-node o a) (start-node o b)))

pub start-given : (o : OpeningOf) → AreGiven (net (sizes_of o) (start o).world)
start-given o a b =
    let n = net (sizes_of o) (start o).world in subst (AllByRecursion (GiverOk n.node a b)) (sym (start-channel o a b)) tt

new-fits : (o : OpeningOf) (k : ℕ) (x : Node) → IsNew o k x → NodeFits k x
new-fits o k x (no_node e) = subst (NodeFits k) (sym e) tt
new-fits o k x (new_a_brick e) = subst (NodeFits k) (sym e) none-fits
new-fits o k x (new_a_library high e) = subst (NodeFits k) (sym e) tt

pub start-fits : (o : OpeningOf) (k : ℕ) → NodeFits k ((net (sizes_of o) (start o).world).node k)
start-fits o k = new-fits o k ((net (sizes_of o) (start o).world).node k) (start-node o k)

-- the claim
pub orders-talk-of : (n : Net) → Pairs Talking n → OrdersTalk n
orders-talk-of n g j m x s t e f ne =
    with-of j m s t (n.node j) (n.node m) (n.channel j m) (n.channel m j) e f (eqb-false j m ne) (g j m) x
