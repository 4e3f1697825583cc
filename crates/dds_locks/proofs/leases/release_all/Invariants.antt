use Rattle.std.proofs.Common.{◌≡◌, ◌-◌, ◌≤◌, ◌++◌, drop, take, length}
use Rattle.dds_locks.specs.Leases.{released_all}
use Rattle.dds_locks.proofs.leases.release_all.Given as goal

abbrev pub invariant-dropping : goal.invariant-dropping
invariant-dropping l = record {
  within : l.place ≤ length l.leases;
  rest : take l.place l.leases ++ released_all (drop l.place l.leases) l.to ≡ released_all l.fn.leases l.to;
}

abbrev pub decreases-dropping : goal.decreases-dropping
decreases-dropping l = length l.leases - l.place
