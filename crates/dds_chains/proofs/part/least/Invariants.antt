use Rattle.std.proofs.Common.{take}
use Rattle.dds_chains.specs.Part.{IsNext, in_chain}
use Rattle.dds_chains.proofs.part.least.Given as goal

abbrev pub invariant-slots : goal.invariant-slots
invariant-slots l = IsNext (in_chain (take l.slot-index l.slots)) l.after l.best
