use Rattle.std.proofs.Common.{◌≡◌, drop}
use Rattle.dds_table.specs.Store.{place_named, named}
use Rattle.dds_chains.proofs.Slots.{shifted}
use Rattle.dds_table.proofs.places.find.Given as goal

abbrev pub invariant-loop-place : goal.invariant-loop-place
invariant-loop-place l = place_named (named l.tables) l.name ≡ shifted l.place (place_named (named (drop l.place l.tables)) l.name)
