use Rattle.std.proofs.Common.{◌≡◌, ◌+◌, ◌++◌, length}
use Rattle.dds_cluster.specs.World.{numbered}
use Rattle.dds_cluster.proofs.turn.append.Given as goal

abbrev pub invariant-loop-to : goal.invariant-loop-to
invariant-loop-to l =
    (l.outbox ++ numbered l.made l.letters ≡ l.fn.outbox ++ numbered l.fn.made l.fn.letters) × (l.made + length l.letters ≡ l.fn.made + length l.fn.letters)

abbrev pub decreases-loop-to : goal.decreases-loop-to
decreases-loop-to l = length l.letters
