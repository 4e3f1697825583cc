use Rattle.std.proofs.Common.{◌≡◌, ◌++◌, take}
use Rattle.std.specs.List.{flat_map}
use Rattle.dds_frames.specs.Ranges.{ArePairs}
use Rattle.dds_frames.specs.Spelling.{pair_bytes}
use Rattle.dds_frames.proofs.writer.FrameWriter.each_pair.Given as goal

abbrev pub invariant-loop-pair : goal.invariant-loop-pair
invariant-loop-pair l = record {
  written : l.self ≡ l.fn.self ++ flat_map pair_bytes (take l.pair-index l.pairs);
  range : ArePairs (take l.pair-index l.pairs);
}
