use Rattle.std.proofs.Common.{length, ◌-◌, ◌≤◌, take}
use Rattle.dds_base.specs.Outside.{Added}
use Rattle.dds_base.proofs.sink.write_all.Given as goal

abbrev pub invariant-writing : goal.invariant-writing
invariant-writing g l = record {
  within : l.at ≤ length l.text;
  added : Added (g.K.Sink.written l.fn.sink) (take l.at l.text) (g.K.Sink.written l.sink);
  never_falls : g.K.Sink.faults l.fn.sink ≤ g.K.Sink.faults l.sink;
}

abbrev pub decreases-writing : goal.decreases-writing
decreases-writing g l = length l.text - l.at
