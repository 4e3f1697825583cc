use Rattle.dds_law_refusal.proofs.Facts.{refusals-true}
use Rattle.dds_law_refusal.proofs.laws.refusals_were_true.Goals as goal

pub returns : goal.returns
returns c = λ o journal ranges run. refusals-true o journal ranges.bricks run
