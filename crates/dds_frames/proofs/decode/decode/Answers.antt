use Rattle.std.proofs.Common.{arith}
use Rattle.dds_frames.proofs.ExactFrames.{was-spelled, is-read}
use Rattle.dds_frames.proofs.Places.{is-placed}
use Rattle.dds_frames.proofs.decode.decode.Goals as goal

pub returns-clause-spelled : goal.returns-clause-spelled
returns-clause-spelled c = was-spelled c.args.input.now _ (λ k. omega (arith, c.type_inv.input k)) c.read.ensures.exact

pub returns-clause-only : goal.returns-clause-only
returns-clause-only c = λ letter end within spells. is-read c.args.input.now _ letter end c.read.ensures.exact within spells

pub returns-clause-place : goal.returns-clause-place
returns-clause-place c = λ at e. is-placed c.args.input.now _ at (λ k. omega (arith, c.type_inv.input k)) c.read.ensures.exact e
