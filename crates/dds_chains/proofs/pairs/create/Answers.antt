use Rattle.std.proofs.Common.{refl, ap, ◌∙◌}
use Rattle.dds_chains.proofs.Adding.{made-index, table-made}
use Rattle.dds_chains.proofs.pairs.create.Goals as goal

pub returns-in-Ok-clause-index : goal.returns-in-Ok-clause-index
returns-in-Ok-clause-index g c = made-index _ c.in_ok-no_buckets.ensures refl

pub returns-in-Ok-clause-told : goal.returns-in-Ok-clause-told
returns-in-Ok-clause-told g c = λ a is. table-made a _ _ _ _ _ _ c.in_ok-no_buckets.ensures refl c.in_ok-root.ensures.number
    (c.in-Ok.ensures.told a (ap (λ k. g.D.Disk.pages k.disk) c.in_ok-root.ensures.cache ∙ is))
