use Rattle.std.proofs.Common.{ℕ, ◌≡◌, ◌+◌, take}
use Rattle.dds_chains.specs.Index.{vacant, chain_uses}
use Rattle.dds_chains.proofs.removal.release_chain.Given as goal

abbrev pub invariant-slots : goal.invariant-slots
invariant-slots g l = record {
  cache : l.space.cache ≡ l.fn.space.cache;
  number : (n : ℕ) → vacant n l.space.free.items l.space.fresh ≡ vacant n l.fn.space.free.items l.fn.space.fresh + chain_uses n (take l.slot-index l.slots);
}
