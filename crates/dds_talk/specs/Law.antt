-- The parts of two-phase commit before the first step.
use Rattle.dds_script.specs.Opening.{OpeningOf}
use Rattle.dds_cluster.specs.Trace.{start}
use Rattle.dds_net.specs.Net.{net, sizes_of}
use Rattle.dds_talk.specs.Books.{no_books}
use Rattle.dds_talk.specs.Parts.{Commit}

abbrev pub PartsHoldFirst : Type 0
PartsHoldFirst = (o : OpeningOf) → Commit (sizes_of o) (net (sizes_of o) (start o).world) no_books
