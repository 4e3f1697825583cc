use Rattle.std.proofs.Common.{arith}
use Rattle.std.proofs.lemmas.Grind.{common_steps}
use Rattle.dds_cluster.proofs.Openings.{length-bricks, length-libraries}
use Rattle.dds_cluster.proofs.opening_world.opening_world.Goals as goal

pub of-requires-clause-outboxes : goal.of-requires-clause-outboxes
of-requires-clause-outboxes c = grind (arith, common_steps, length-bricks, length-libraries)

pub of-requires-clause-links : goal.of-requires-clause-links
of-requires-clause-links c = grind (arith, common_steps, length-bricks, length-libraries)
