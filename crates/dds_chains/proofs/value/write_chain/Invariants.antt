use Rattle.std.proofs.Common.{◌≡◌}
use Rattle.dds_chains.proofs.Writing.{IsWriting}
use Rattle.dds_chains.proofs.value.write_chain.Given as goal

abbrev pub invariant-pages : goal.invariant-pages
invariant-pages g l =
    IsWriting (g.D.Disk.pages l.fn.space.cache.disk) (g.D.Disk.pages l.space.cache.disk) l.fn.space.free.items l.fn.space.fresh l.space.free.items l.space.fresh
    l.bytes l.left l.pages l.next
    × (g.D.Disk.faults l.space.cache.disk ≡ g.D.Disk.faults l.fn.space.cache.disk)

abbrev pub decreases-pages : goal.decreases-pages
decreases-pages g l = l.left
