use Rattle.dds_values.proofs.Runs.{held-where-given}
use Rattle.dds_values.proofs.laws.values_are_held_where_given.Goals as goal

pub returns : goal.returns
returns c = held-where-given
