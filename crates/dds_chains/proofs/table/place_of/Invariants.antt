use Rattle.std.proofs.Common.{◌≡◌, drop}
use Rattle.dds_chains.specs.Index.{place_of}
use Rattle.dds_chains.proofs.Slots.{shifted}
use Rattle.dds_chains.proofs.table.place_of.Given as goal

abbrev pub invariant-loop-place : goal.invariant-loop-place
invariant-loop-place l = place_of l.slots l.key ≡ shifted l.place (place_of (drop l.place l.slots) l.key)
