use Rattle.std.proofs.Common.{◌≡◌, take, None}
use Rattle.dds_base.specs.Place.{last_key}
use Rattle.dds_order_rows.proofs.orders.first_pairs.Given as goal

abbrev pub invariant-loop-place : goal.invariant-loop-place
invariant-loop-place l = (l.copied ≡ take l.place l.pairs) × (l.last ≡ last_key None l.copied)
