use Rattle.std.proofs.Common.{◌∙◌, ap, is_some}
use Rattle.dds_cache.specs.Kept.{held}
use Rattle.dds_cache.proofs.Kept.{first-within, sound-write, sound-same, trimmed, as-before}
use Rattle.dds_cache.proofs.cache.Cache.write_new.Goals as goal

pub trim-requires : goal.trim-requires
trim-requires g c =
    first-within c.hold.new.pages c.args.page c.args.copy c.self.invariant c.in_ok-hold.ensures.ok

pub invariant_of-self-in-Ok : goal.invariant_of-self-in-Ok
invariant_of-self-in-Ok g c =
    sound-write _ _ c.args.page c.args.bytes.now c.self.invariant c.in-Ok.ensures.wrote
    (trimmed c.self.inside.pages c.hold.new.pages _ _ _ _ _ c.in_ok-hold.ensures.ok c.trim.ensures c.requires.same)

pub invariant_of-self-in-Err : goal.invariant_of-self-in-Err
invariant_of-self-in-Err g c =
    let missing = ap (λ s. is_some (held s.kept c.args.page)) c.self.view_is ∙ c.requires.missing in
    sound-same _ _ c.self.invariant c.in-Err.ensures.err (as-before _ _ _ _ _ missing c.in_ok-hold.ensures.ok c.take_back.ensures)

pub returns-in-Err-clause-err_kept : goal.returns-in-Err-clause-err_kept
returns-in-Err-clause-err_kept g c =
    let missing = ap (λ s. is_some (held s.kept c.args.page)) c.self.view_is ∙ c.requires.missing in
    rw (← c.self.view_is) (ap (λ p. p.entries) (as-before _ _ _ _ _ missing c.in_ok-hold.ensures.ok c.take_back.ensures))
