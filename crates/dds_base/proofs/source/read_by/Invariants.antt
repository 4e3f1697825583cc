use Rattle.std.proofs.Common.{◌≡◌, ◌-◌, ◌≤◌, ◌+◌, length}
use Rattle.dds_base.specs.Outside.{Took, line_ends}
use Rattle.dds_base.proofs.source.read_by.Given as goal

abbrev pub invariant-reading : goal.invariant-reading
invariant-reading g l = record {
  taken : Took (g.S.Source.left l.fn.source) l.text.items (g.S.Source.left l.source);
  short : length l.text.items ≤ l.most_bytes;
  counted : l.lines ≡ line_ends l.text.items;
  few : l.lines ≤ l.most_lines;
  never_falls : g.S.Source.faults l.fn.source ≤ g.S.Source.faults l.source;
}

abbrev pub decreases-reading : goal.decreases-reading
decreases-reading g l = l.most_bytes + 1 - length l.text.items
