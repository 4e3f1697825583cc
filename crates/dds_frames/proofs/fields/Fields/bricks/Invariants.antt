use Rattle.std.proofs.Common.{◌≡◌, ◌-◌, [], length}
use Rattle.dds_frames.specs.Parts.{bricks_at}
use Rattle.dds_frames.proofs.fields.Fields.bricks.Given as goal

abbrev pub invariant-loop-brick : goal.invariant-loop-brick
invariant-loop-brick l = record {
  count : length l.bricks ≡ l._brick;
  rest : bricks_at (l.n - l._brick) l.bricks l.self ≡ bricks_at l.n [] l.fn.self;
}
