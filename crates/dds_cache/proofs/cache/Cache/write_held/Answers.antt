use Rattle.std.proofs.Common.{◌∙◌, ap, is_some}
use Rattle.dds_cache.specs.Kept.{held}
use Rattle.dds_cache.proofs.Kept.{sound-write, used-again}
use Rattle.dds_cache.proofs.cache.Cache.write_held.Goals as goal

pub invariant_of-self-2 : goal.invariant_of-self-2
invariant_of-self-2 g c =
    let there = ap (λ s. is_some (held s.kept c.args.page)) c.self.view_is ∙ c.requires.there in
    sound-write _ _ c.args.page c.args.bytes.now c.self.invariant c.in_ok-write_to.ensures.wrote
    (used-again _ _ _ _ _ _ _ c.self.invariant c.hold_again.ensures c.requires.same there)

pub returns-clause-kept : goal.returns-clause-kept
returns-clause-kept g c =
    let there = ap (λ s. is_some (held s.kept c.args.page)) c.self.view_is ∙ c.requires.there in
    rw (← c.self.view_is) (ap (λ p. p.entries) (used-again _ _ _ _ _ _ _ c.self.invariant c.hold_again.ensures c.requires.same there))
