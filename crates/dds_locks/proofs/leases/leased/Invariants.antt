use Rattle.std.proofs.Common.{◌≡◌, drop}
use Rattle.dds_locks.specs.Leases.{leased}
use Rattle.dds_locks.proofs.leases.leased.Given as goal

abbrev pub invariant-loop-lease : goal.invariant-loop-lease
invariant-loop-lease l = leased l.leases l.name ≡ leased (drop l.lease-index l.leases) l.name
