use Rattle.std.proofs.Common.{drop, ◌≤◌}
use Rattle.dds_transcript.proofs.Writing.{IsWriting}
use Rattle.dds_transcript.specs.Text.{report_text}
use Rattle.dds_transcript.proofs.write_lines.write_lines.Given as goal

abbrev pub invariant-loop-line : goal.invariant-loop-line
invariant-loop-line g l = record {
  writing : IsWriting (g.K.Sink.written l.fn.sink) (report_text l.lines) l.text.items (report_text (drop l.line-index l.lines)) (g.K.Sink.written l.sink);
  never_falls : g.K.Sink.faults l.fn.sink ≤ g.K.Sink.faults l.sink;
}
