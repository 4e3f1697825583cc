use Rattle.std.proofs.Common.{◌≡◌, [], length}
use Rattle.dds_stage.specs.Queue.{queue}
use Rattle.dds_stage.specs.Sends.{SentSoFar}
use Rattle.dds_stage.proofs.pump.send_all.Given as goal

abbrev pub invariant-sending : goal.invariant-sending
invariant-sending g l = record {
  so_far : SentSoFar g.S.Stage.sends l.fn.stage l.fn.events.items l.stage l.events.items l.fn.out.items l.out.items;
  room : l.events.capacity ≡ l.fn.events.capacity;
  emptied : l.by ≡ queue [] g.S.Stage.MOST;
}

abbrev pub decreases-sending : goal.decreases-sending
decreases-sending g l = length l.events.items
