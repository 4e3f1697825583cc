use Rattle.std.proofs.Common.{◌≡◌, length}
use Rattle.dds_walk.specs.Walk.{plays_all, plays_rest}
use Rattle.dds_walk.proofs.reports.play_rest.Given as goal

abbrev pub invariant-playing : goal.invariant-playing
invariant-playing l = plays_all l.rest l.walk ≡ plays_rest l.fn.walk

abbrev pub decreases-playing : goal.decreases-playing
decreases-playing l = length l.rest
