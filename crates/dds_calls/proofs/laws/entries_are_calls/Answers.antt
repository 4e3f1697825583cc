use Rattle.dds_calls.proofs.Entries.{entries-are-calls}
use Rattle.dds_calls.proofs.laws.entries_are_calls.Goals as goal

pub returns : goal.returns
returns c = entries-are-calls
