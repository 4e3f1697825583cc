-- The parts of two-phase commit along a run, with what the books have of it.
use Rattle.std.specs.Prelude.{ℕ, ◌≡◌, Bool, List, [], Some}
use Rattle.std.specs.List.{AllByRecursion}
use Rattle.dds_base.specs.Number.{Txn}
use Rattle.dds_cluster.specs.Trace.{run_of}
use Rattle.dds_cluster.specs.declared.step.Step.{Step}
use Rattle.dds_law_notice.proofs.Keeps.{AreLinked}
use Rattle.dds_letters.specs.declared.letter.Letter.{Letter}
use Rattle.dds_letters.specs.declared.letter.Letter.TheVariants as letter
use Rattle.dds_net.proofs.Journals.{Grown, IsNext, net_of}
use Rattle.dds_net.specs.Event.{Event, goes, history_of}
use Rattle.dds_net.specs.Net.{Net, Node, a_brick, Sizes, sizes_of}
use Rattle.dds_resolve.proofs.Whole.{Parts}
use Rattle.dds_script.specs.Opening.{OpeningOf}
use Rattle.dds_states.specs.declared.brick_state.BrickState.{BrickState}
use Rattle.dds_talk.specs.Books.{Books, adds, no_books}
use Rattle.dds_talk.specs.Parts.{Commit}

-- a status and an outcome come from a brick
abbrev pub IsBrick : Node → Type 0
IsBrick x = (s : BrickState) × (x ≡ a_brick s)

abbrev pub IsSpoken : Net → ℕ → Letter → Type 0
IsSpoken n a (letter.Status txn status) = IsBrick (n.node a)
IsSpoken n a (letter.Outcome txn commit) = IsBrick (n.node a)
IsSpoken n a other = Unit {0}

-- in one world
pub record Holds (z : Sizes) (n : Net) (b : Books) : Type 0 where
  pub links : AreLinked z n
  pub commit : Commit z n b
  pub parts : Parts z n b
  pub speaks : (a c : ℕ) → AllByRecursion (IsSpoken n a) (n.channel a c)

-- the books after an event that comes next to a journal
abbrev pub books_after : OpeningOf → List Step → Event → Books → Books
books_after o was e b = adds (history_of (run_of o was)) (net_of o was) e b

-- what a brick noted of an attempt, another event doesn't change
abbrev pub Stays : Books → Books → Type 0
Stays b c = (k : ℕ) (t : Txn) (o : Bool) → b.noted k t ≡ Some o → c.noted k t ≡ Some o

-- after each beginning of the journal, with the books that the events so far have made
pub data Kept (o : OpeningOf) : List Step → Books → Type 0 where
  first : (journal : List Step) (b : Books) → journal ≡ [] → b ≡ no_books → Holds (sizes_of o) (net_of o journal) b → Kept o journal b
  grown :
      (journal was : List Step) (x : Step) (e : Event) (b c : Books) →
      Kept o was b →
      journal ≡ Grown was x →
      c ≡ books_after o was e b →
      IsNext o was x e →
      history_of (run_of o journal) ≡ goes (history_of (run_of o was)) e →
      Stays b c →
      Holds (sizes_of o) (net_of o journal) c →
      Kept o journal c
