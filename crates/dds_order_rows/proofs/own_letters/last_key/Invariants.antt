use Rattle.std.proofs.Common.{◌≡◌, drop, None}
use Rattle.dds_base.specs.Place.{last_key}
use Rattle.dds_order_rows.proofs.own_letters.last_key.Given as goal

abbrev pub invariant-loop-pair : goal.invariant-loop-pair
invariant-loop-pair l = last_key l.last (drop l.pair-index l.pairs) ≡ last_key None l.pairs
