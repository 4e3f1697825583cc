-- Reads that no answer used leave no trace in a history.
use Rattle.dds_cluster.specs.declared.trace.Trace.{Trace}
use Rattle.dds_history.specs.History.{IsLegal}
use Rattle.dds_world.specs.Stands.{history}
use Rattle.dds_world.specs.Values.{entries_of_points}

-- of each trace: where all points are a legal history, the history is one
abbrev pub LegalWithoutReads : Type 0
LegalWithoutReads = (t : Trace) → IsLegal (entries_of_points t.made) → IsLegal (history t)
