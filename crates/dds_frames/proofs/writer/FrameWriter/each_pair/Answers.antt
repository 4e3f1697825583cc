use Rattle.dds_frames.proofs.Written.{each-more, each-range}
use Rattle.dds_frames.proofs.writer.FrameWriter.each_pair.Goals as goal

pub loop-pair-preserved : goal.loop-pair-preserved
loop-pair-preserved c = record {
  written = each-more _ _ _ _ _ _ c.loop-pair.invariant.written c.in_ok-pair.ensures.written c.loop-pair-test.true c.pair-item.is;
  range = each-range _ _ _ c.loop-pair.invariant.range c.in_ok-pair.ensures.range c.loop-pair-test.true c.pair-item.is;
}
