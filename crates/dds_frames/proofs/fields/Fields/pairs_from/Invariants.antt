use Rattle.std.proofs.Common.{◌≡◌, ◌-◌, [], length, None}
use Rattle.dds_base.specs.Place.{last_key}
use Rattle.dds_frames.specs.Parts.{pairs_from}
use Rattle.dds_frames.proofs.fields.Fields.pairs_from.Given as goal

abbrev pub invariant-loop-pair : goal.invariant-loop-pair
invariant-loop-pair l = record {
  count : length l.pairs ≡ l._pair;
  last : l.after ≡ last_key None l.pairs;
  rest : pairs_from (l.n - l._pair) l.pairs l.self ≡ pairs_from l.n [] l.fn.self;
}
