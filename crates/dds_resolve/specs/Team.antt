-- Who resolves an attempt of a stopped library, and who is asked and told.
use Rattle.std.specs.Prelude.{ℕ, ◌≡◌, ◌==◌, Bool, true, false, List}
use Rattle.std.specs.List.{AllByRecursion}
use Rattle.dds_base.specs.BrickList.{has}
use Rattle.dds_base.specs.NodeSet.{has_node}
use Rattle.dds_base.specs.Number.{Txn}
use Rattle.dds_base.specs.declared.pending.Pending.{Pending}
use Rattle.dds_brick_rows.specs.Resolution.{before}
use Rattle.dds_letters.specs.declared.letter.Letter.{Letter}
use Rattle.dds_letters.specs.declared.letter.Letter.TheVariants as letter
use Rattle.dds_states.specs.declared.brick_state.BrickState.{BrickState}
use Rattle.dds_states.specs.declared.brick_state.Deferred.{Deferred}
use Rattle.dds_states.specs.declared.brick_state.Question.{Question}
use Rattle.dds_states.specs.declared.brick_state.Question.TheVariants.{Help, Query}
use Rattle.dds_states.specs.declared.brick_state.Resolving.{Resolving}

-- What only grows: who has stopped, which attempts are open at a library that stopped (a stopped library keeps its calls), and the
-- members of attempts; and who is in the cluster.
pub record Ground : Type 0 where
  pub stopped : ℕ → Bool
  pub frozen : Txn → Bool
  pub list : Txn → List ℕ
  pub inside : ℕ → Bool

-- an attempt's members, and one of them
pub record Members (g : Ground) (t : Txn) (list : List ℕ) (m : ℕ) : Type 0 where
  pub listed : g.list t ≡ list
  pub inside : AllByRecursion (λ n. g.inside n ≡ true) list
  pub member : has list m ≡ true

-- the attempt is open at its stopped library, and all members before the resolver have stopped
pub record Team (g : Ground) (t : Txn) (list : List ℕ) (f m : ℕ) : Type 0 where
  pub members : Members g t list m
  pub resolver : has list f ≡ true
  pub library : g.stopped t.library ≡ true
  pub frozen : g.frozen t ≡ true
  pub first : AllByRecursion (λ n. g.stopped n ≡ true) (before list f)

-- a resolver and another member
pub record Talks (g : Ground) (t : Txn) (f m : ℕ) : Type 0 where
  pub list : List ℕ
  pub team : Team g t list f m
  pub apart : (f == m) ≡ false

-- a letter from one node to another
abbrev pub LetterOk : Ground → ℕ → ℕ → Letter → Type 0
LetterOk g from to (letter.Prepare txn caller call below name stamp list op) = Members g txn list to
LetterOk g from to (letter.Help txn list) = Team g txn list to from
LetterOk g from to (letter.Query txn list) = Team g txn list from to × ((from == to) ≡ false)
LetterOk g from to (letter.Status txn status) = Talks g txn to from
LetterOk g from to (letter.Outcome txn commit) = Talks g txn from to
LetterOk g from to other = Unit {0}

-- an attempt is open, if its library has stopped; the one that a prepare asks for
abbrev pub OpenIf : Ground → Txn → Type 0
OpenIf g t = g.stopped t.library ≡ true → g.frozen t ≡ true

abbrev pub OpenOk : Ground → Letter → Type 0
OpenOk g (letter.Prepare txn caller call below name stamp list o) = OpenIf g txn
OpenOk g other = Unit {0}

-- a pending attempt whose library has stopped is open there: that is known where a turn begins
abbrev pub PendingOk : Ground → ℕ → Pending → Type 0
PendingOk g at p = Members g p.txn p.list at × OpenIf g p.txn

abbrev pub AskedOk : Ground → ℕ → Deferred → Question → Type 0
AskedOk g at d Help = Team g d.txn d.list at d.from
AskedOk g at d Query = Team g d.txn d.list d.from at × ((d.from == at) ≡ false)

abbrev pub DeferredOk : Ground → ℕ → Deferred → Type 0
DeferredOk g at d = AskedOk g at d d.question

abbrev pub ResolvingOk : Ground → ℕ → Resolving → Type 0
ResolvingOk g at r = Team g r.txn r.list at at

pub record BrickOk (g : Ground) (at : ℕ) (s : BrickState) : Type 0 where
  pub number : s.number ≡ at
  pub known : (n : ℕ) → has_node s.known n ≡ true → g.stopped n ≡ true
  pub pending : AllByRecursion (PendingOk g at) s.locks.pending
  pub deferred : AllByRecursion (DeferredOk g at) s.deferred
  pub resolving : AllByRecursion (ResolvingOk g at) s.resolving
