use Rattle.std.proofs.Common.{arith, ◌∙◌, List, sym, subst}
use Rattle.dds_chains.specs.Part.{IsNext, in_chain}
use Rattle.dds_chains.specs.declared.table.Slot.{Slot}
use Rattle.dds_chains.proofs.Parts.{found-next}
use Rattle.dds_chains.proofs.part.next_key.Goals as goal

pub returns-then-is_some : goal.returns-then-is_some
returns-then-is_some c =
    let h = subst (λ (ss : List Slot). IsNext (in_chain ss) c.args.after c.least-found.result) c.as_slice.ensures c.least-found.ensures in
    found-next c.args.table.now c.index-slots.result.now c.buckets.bucket c.args.after c.least-found.result c.requires (omega arith) c.index-slots.ensures
    c.buckets.invariant h (sym c.is_some.ensures ∙ c.if-is_some.true)
