use Rattle.std.proofs.Common.{◌≡◌, None, length}
use Rattle.dds_walk.specs.Walk.{plays_to, rest_of}
use Rattle.dds_walk.proofs.lines.play_to.Given as goal

abbrev pub invariant-playing : goal.invariant-playing
invariant-playing l =
    plays_to l.caller l.call l.rest l.walk ≡ plays_to l.caller l.call (rest_of l.fn.walk.rest) (record l.fn.walk { rest = None })

abbrev pub decreases-playing : goal.decreases-playing
decreases-playing l = length l.rest
