use Rattle.std.proofs.Common.{arith}
use Rattle.dds_frames.proofs.Streams.{framed-there}
use Rattle.dds_frames.proofs.decode.framed.Goals as goal

pub returns-clause-waits : goal.returns-clause-waits
returns-clause-waits c = λ e. absurd (framed-there c.args.len c.args.input.now (omega arith) (omega arith) (omega arith) e)
