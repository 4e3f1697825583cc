use Rattle.dds_frames.proofs.Streams.{are-told}
use Rattle.dds_frames.proofs.reader.readings_are_spelled.Goals as goal

pub returns : goal.returns
returns c = are-told
