use Rattle.dds_frames.proofs.Streams.{fault-stays}
use Rattle.dds_frames.proofs.reader.FrameReader.feed.Goals as goal

pub invariant_of-self-2 : goal.invariant_of-self-2
invariant_of-self-2 c = rw c.in_ok-extend_from_slice.ensures.ok (fault-stays c.self.inside.held.items c.args.piece.now c.self.inside.fault c.self.invariant)
