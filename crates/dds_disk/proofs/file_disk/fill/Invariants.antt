use Rattle.std.proofs.Common.{◌-◌, ◌≤◌}
use Rattle.dds_disk.proofs.file_disk.fill.Given as goal

abbrev pub invariant-reading : goal.invariant-reading
invariant-reading g l = l.at ≤ 4096

abbrev pub decreases-reading : goal.decreases-reading
decreases-reading g l = 4096 - l.at
