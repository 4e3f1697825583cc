use Rattle.dds_cluster.specs.Trace.{run_of}
use Rattle.dds_net.proofs.Runs.{sized-run}
use Rattle.dds_net.proofs.Steps.{step-moves}
use Rattle.dds_net.specs.Net.{sizes_of}
use Rattle.dds_net.proofs.moves.steps_are_moves.Goals as goal

pub returns : goal.returns
returns c = λ o journal x ranges p. step-moves (sizes_of o) (run_of o journal) x ranges.bricks (sized-run o journal) p
