use Rattle.std.proofs.Common.{refl, ap, ◌∙◌}
use Rattle.dds_cache.specs.Kept.{held}
use Rattle.dds_cache.proofs.Kept.{held-in-front}
use Rattle.dds_cache.proofs.cache.Cache.read_into.Goals as goal

pub returns-else-not-find-clause-given : goal.returns-else-not-find-clause-given
returns-else-not-find-clause-given g c = ap (λ s. held s.kept c.args.page) (c.if-not-find.ensures.found refl).1
    ∙ held-in-front c.args.self.now.capacity c.args.self.now.kept c.args.page c.find.new.into c.may_hold.ensures
