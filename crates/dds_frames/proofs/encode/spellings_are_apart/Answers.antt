use Rattle.std.proofs.Common.{sym, ◌∙◌}
use Rattle.dds_frames.proofs.ExactFrames.{one-front}
use Rattle.dds_frames.proofs.encode.spellings_are_apart.Goals as goal

pub returns-clause-front : goal.returns-clause-front
returns-clause-front c = one-front

pub returns-clause-one : goal.returns-clause-one
returns-clause-one c = λ a b letter s t. s.same ∙ sym t.same
