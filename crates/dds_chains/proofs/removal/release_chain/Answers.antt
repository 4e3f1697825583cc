use Rattle.std.proofs.Common.{refl, ◌∙◌, arith}
use Rattle.dds_chains.proofs.Releasing.{chain-more}
use Rattle.dds_chains.proofs.removal.release_chain.Goals as goal

pub slots-preserved : goal.slots-preserved
slots-preserved g c = record {
  cache = c.in_ok-release.ensures.cache ∙ c.slots.invariant.cache;
  number = λ n. let m = chain-more n c.args.slots.now c.args.slots.now c.slots.slot-index c.slot-item.result refl (omega arith) c.slot-item.is
      in omega (arith, m, c.in_ok-release.ensures.number n, c.slots.invariant.number n);
}
