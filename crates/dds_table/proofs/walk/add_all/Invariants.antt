use Rattle.std.proofs.Common.{◌≡◌, drop}
use Rattle.dds_table.specs.Met.{AreKeysOf}
use Rattle.dds_table.specs.Old.{add_all, AreCovered}
use Rattle.dds_table.proofs.walk.add_all.Given as goal

abbrev pub invariant-adding : goal.invariant-adding
invariant-adding l = record {
  covered : AreCovered l.name l.pairs;
  keys : AreKeysOf l.keys l.pairs;
  rest : add_all l.at l.name l.fn.pairs l.more ≡ add_all l.at l.name l.pairs (drop l.pair-index l.more);
}
