use Rattle.std.proofs.Common.{◌≡◌, ◌++◌, drop}
use Rattle.std.specs.Prelude.{filter}
use Rattle.dds_base.specs.BrickList.{has}
use Rattle.dds_cluster.proofs.opening_world.listing.Given as goal

abbrev pub invariant-loop-leaf : goal.invariant-loop-leaf
invariant-loop-leaf l =
    l.list ++ filter (λ x. has x.list l.number) (drop l.leaf-index l.leaves) ≡ filter (λ x. has x.list l.number) l.leaves
