-- What holds of each run.
use Rattle.std.specs.Prelude.{◌≡◌, true, List}
use Rattle.dds_cluster.specs.Trace.{is_run, run_of}
use Rattle.dds_cluster.specs.declared.step.Step.{Step}
use Rattle.dds_net.specs.Net.{net, sizes_of}
use Rattle.dds_script.specs.Opening.{IsOpening, OpeningOf}
use Rattle.dds_books.specs.Books.{AreListed, Book}
use Rattle.dds_books.specs.Placed.{ArePlaced}

-- where numbers belong, and what phases keep, in the world that the run reaches
abbrev pub NodesArePlaced : Type 0
NodesArePlaced =
    (o : OpeningOf) (journal : List Step) → IsOpening o → is_run o journal ≡ true → ArePlaced (sizes_of o) (net (sizes_of o) (run_of o journal).world)

-- there is a book of the attempts
abbrev pub AttemptsAreListed : Type 0
AttemptsAreListed =
    (o : OpeningOf) (journal : List Step) → IsOpening o → is_run o journal ≡ true → (b : Book) × AreListed (net (sizes_of o) (run_of o journal).world) b
