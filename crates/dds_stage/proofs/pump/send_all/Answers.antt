use Rattle.std.proofs.Common.{sym, ◌∙◌}
use Rattle.dds_stage.proofs.Sends.{all-sent}
use Rattle.dds_stage.proofs.pump.send_all.Goals as goal

pub returns-clause-sent : goal.returns-clause-sent
returns-clause-sent g c =
    all-sent _ _ _ _ _ _ _ c.sending.invariant.so_far (sym c.pop.ensures.first ∙ c.in_default.is)
