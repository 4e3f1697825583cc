-- A letter that is the first of its link.
use Rattle.std.proofs.Common.{◌≡◌, ℕ, List, [], ◌∷◌, Some, drop, sym, ap}
use Rattle.std.specs.Prelude.{slice_get, unwrap_or}
use Rattle.dds_base.specs.declared.number.NodeNo.{NodeNo}
use Rattle.dds_cluster.specs.World.{World, set_link}
use Rattle.dds_cluster.specs.Turn.{handle, node_does}
use Rattle.dds_cluster.specs.declared.step.Message.{Message}

pub handle-first : (w : World) (at : ℕ) (node from : NodeNo) (l : List Message) (m : Message) → Some m ≡ slice_get l 0 →
    handle w at node from l ≡ node_does (set_link w from node (drop 1 l)) at node from m.letter
handle-first w at node from [] m e = absurd (cc)
handle-first w at node from (x ∷ xs) m e =
    ap (λ (y : Message). node_does (set_link w from node xs) at node from y.letter) (ap (λ o. unwrap_or o x) (sym e))
