use Rattle.std.proofs.Common.{ℕ, ◌≡◌, ◌+◌, take}
use Rattle.dds_chains.specs.Index.{vacant, same, times}
use Rattle.dds_chains.proofs.removal.release.Given as goal

abbrev pub invariant-pages : goal.invariant-pages
invariant-pages g l = record {
  cache : l.space.cache ≡ l.fn.space.cache;
  number : (n : ℕ) → vacant n l.space.free.items l.space.fresh ≡ vacant n l.fn.space.free.items l.fn.space.fresh + same n l.slot.page
      + times n (take l.page-index l.slot.overflow);
}
