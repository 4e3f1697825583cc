use Rattle.std.proofs.Common.{◌∙◌, sym}
use Rattle.dds_locks.proofs.Trims.{trimmed-forget, trimmed-done, len-forget}
use Rattle.dds_locks.proofs.outcomes.Outcomes.trim.Goals as goal

pub trimming-smaller : goal.trimming-smaller
trimming-smaller c = rw c.forget.ensures (len-forget c.trimming.self c.in-Some.txn c.in-Some.ensures.noted)

pub trimming-preserved : goal.trimming-preserved
trimming-preserved c = rw c.forget.ensures (trimmed-forget c.trimming.self c.args.library c.args.below c.in-Some.txn c.in-Some.ensures.below
    ∙ c.trimming.invariant)

pub returns : goal.returns
returns c = sym (trimmed-done c.trimming.self c.args.library c.args.below c.in_default.ensures.none) ∙ c.trimming.invariant
