-- All parts of two-phase commit, of a cluster's nodes and channels and the books of a run.
use Rattle.std.specs.Prelude.{List}
use Rattle.dds_books.specs.Books.{AreListed, Book}
use Rattle.dds_books.specs.Calls.{AreBooked}
use Rattle.dds_books.specs.Placed.{ArePlaced}
use Rattle.dds_cluster.specs.Trace.{run_of}
use Rattle.dds_cluster.specs.declared.step.Step.{Step}
use Rattle.dds_law_notice.proofs.Keeps.{AreLinked}
use Rattle.dds_net.specs.Event.{History, history_of}
use Rattle.dds_net.specs.Net.{Net, Sizes, net, sizes_of}
use Rattle.dds_resolve.proofs.Whole.{Parts}
use Rattle.dds_script.specs.Opening.{OpeningOf}
use Rattle.dds_talk.specs.Books.{Books}
use Rattle.dds_talk.specs.Parts.{Commit}

-- | part     | what it says                                                                  | where it stands          |
-- | `linked` | the notice of a node is its last letter, and who knows it has nothing more    | dds_law_notice           |
-- | `booked` | which calls are open, for whom, and what prepares say                         | dds_books, `Calls`       |
-- | `placed` | which nodes numbers are, whose attempts letters name, what phases keep        | dds_books, `Placed`      |
-- | `listed` | what each attempt was                                                         | dds_books, `Books`       |
-- | `commit` | a library and a member of an attempt, and what was decided                    | dds_talk, `Parts`        |
-- | `parts`  | who resolves an attempt of a stopped library, and what it hears and tells     | dds_resolve, `Whole`     |
pub record Holds (z : Sizes) (h : History) (n : Net) (a : Book) (b : Books) : Type 0 where
  pub linked : AreLinked z n
  pub booked : AreBooked h n
  pub placed : ArePlaced z n
  pub listed : AreListed n a
  pub commit : Commit z n b
  pub parts : Parts z n b

-- at the end of a run, with its books
pub record HoldsOf (o : OpeningOf) (journal : List Step) : Type 0 where
  pub book : Book
  pub books : Books
  pub holds : Holds (sizes_of o) (history_of (run_of o journal)) (net (sizes_of o) (run_of o journal).world) book books
