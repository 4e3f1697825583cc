use Rattle.std.proofs.Common.{◌≡◌, ◌∙◌, ap, arith, List}
use Rattle.dds_chains.specs.Index.{chain_uses}
use Rattle.dds_chains.specs.declared.table.Slot.{Slot}
use Rattle.dds_chains.proofs.Releasing.{buckets-more}
use Rattle.dds_chains.proofs.removal.release_table.Goals as goal

pub buckets-preserved : goal.buckets-preserved
buckets-preserved g c = record {
  cache = c.in_ok-release_chain.ensures.cache ∙ c.buckets.invariant.cache;
  number = λ n.
      let m = buckets-more n c.as_slice-slots-items.result.now c.args.table.now.buckets.items c.buckets.slots-index c.slots-item.result
      c.as_slice-slots-items.ensures.value (omega arith) c.slots-item.is in
      let k : chain_uses n c.as_slice.result.now ≡ chain_uses n c.slots-item.result = ap (λ (ss : List Slot). chain_uses n ss) c.as_slice.ensures in
      omega (arith, m, k, c.in_ok-release_chain.ensures.number n, c.buckets.invariant.number n);
}
