use Rattle.std.proofs.Common.{◌≡◌, drop}
use Rattle.std.specs.Prelude.{filter, ◌==◌}
use Rattle.dds_maps.specs.Judge.{put_all}
use Rattle.dds_cluster.proofs.opening_world.put_stale.Given as goal

abbrev pub invariant-loop-leaf : goal.invariant-loop-leaf
invariant-loop-leaf l =
    put_all l.map (filter (λ x. x.stamp.maker == l.number) (drop l.leaf-index l.old)) ≡ put_all l.fn.map (filter (λ x. x.stamp.maker == l.number) l.old)
