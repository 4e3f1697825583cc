use Rattle.dds_calls.proofs.Answering.{none-is-of-stops}
use Rattle.dds_calls.proofs.laws.none_is_of_stops.Goals as goal

pub returns : goal.returns
returns c = none-is-of-stops
