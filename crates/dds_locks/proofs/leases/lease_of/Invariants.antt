use Rattle.std.proofs.Common.{◌≡◌, drop}
use Rattle.dds_locks.specs.Leases.{lease_of}
use Rattle.dds_locks.proofs.leases.lease_of.Given as goal

abbrev pub invariant-loop-lease : goal.invariant-loop-lease
invariant-loop-lease l = lease_of l.leases l.name l.to ≡ lease_of (drop l.lease-index l.leases) l.name l.to
