use Rattle.std.proofs.Common.{◌≡◌, ◌++◌, take}
use Rattle.std.specs.List.{flat_map}
use Rattle.dds_frames.specs.Spelling.{number_bytes}
use Rattle.dds_frames.proofs.writer.FrameWriter.bricks.Given as goal

abbrev pub invariant-loop-place : goal.invariant-loop-place
invariant-loop-place l = l.self ≡ l.fn.self ++ flat_map (number_bytes 1) (take l.place l.list)
