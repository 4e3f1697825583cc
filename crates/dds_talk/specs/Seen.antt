-- What nodes and channels say of one attempt.
use Rattle.std.specs.Prelude.{ℕ, ◌≡◌, ◌++◌, Bool, true, false, List, [], ◌∷◌, Option, Some, None, is_some, nat_le, if◌then◌else◌}
use Rattle.std.specs.FinMap.{get}
use Rattle.std.specs.List.{AllByRecursion, find}
use Rattle.dds_base.specs.BrickList.{has}
use Rattle.dds_base.specs.Number.{Txn, same_txn}
use Rattle.dds_base.specs.declared.number.NodeNo.{NodeNo}
use Rattle.dds_base.specs.declared.pending.Pending.{Pending}
use Rattle.dds_letters.specs.declared.letter.Letter.{Letter}
use Rattle.dds_letters.specs.declared.letter.Letter.TheVariants as letter
use Rattle.dds_letters.specs.declared.refusal.Ballot.{Ballot}
use Rattle.dds_letters.specs.declared.refusal.Ballot.TheVariants as ballot
use Rattle.dds_locks.specs.Outcomes.{OutcomeMap}
use Rattle.dds_locks.specs.Pending.{first_of}
use Rattle.dds_states.specs.Turn.{first_some}
use Rattle.dds_states.specs.declared.library_state.LibraryState.{LibraryState}
use Rattle.dds_states.specs.declared.library_state.OpenCall.{OpenCall}
use Rattle.dds_states.specs.declared.library_state.Phase.{Phase}
use Rattle.dds_states.specs.declared.library_state.Phase.TheVariants.{Getting, Preparing, Committing, Aborting, Asking}
use Rattle.dds_net.specs.Net.{Sizes, is_in}
use Rattle.dds_talk.specs.Table.{View, Ask, Say, At}
use Rattle.dds_talk.specs.Table.View.{New, VoteDue, VoteHeard, CommitDue, CommitHeard, AbortDue, AbortHeard, Past, Off}
use Rattle.dds_talk.specs.Table.Ask.{prepare, commit, abort}
use Rattle.dds_talk.specs.Table.Say.{yes, no, applied, aborted}
use Rattle.dds_talk.specs.Table.At.{Unprepared, Prepared, Committed, Aborted}

-- what a letter asks a member, or says to a library, and of which attempt
abbrev pub asked : Letter → Option (Txn × Ask)
asked (letter.Prepare txn caller call below name stamp list op) = Some (txn, prepare)
asked (letter.Commit txn) = Some (txn, commit)
asked (letter.Abort txn) = Some (txn, abort)
asked other = None

abbrev pub vote_said : Ballot → Say
vote_said ballot.Yes = yes
vote_said (ballot.No why) = no

abbrev pub said : Letter → Option (Txn × Say)
said (letter.Vote txn vote) = Some (txn, vote_said vote)
said (letter.Applied txn was) = Some (txn, applied)
said (letter.Aborted txn) = Some (txn, aborted)
said other = None

-- what is of one attempt
abbrev pub one : {X : Type 0} → Bool → X → List X
one true x = x ∷ []
one false x = []

abbrev pub of : {X : Type 0} → Txn → Option (Txn × X) → List X
of t None = []
of t (Some p) = one (same_txn p.0 t) p.1

abbrev pub about : {X : Type 0} → (Letter → Option (Txn × X)) → Txn → List Letter → List X
about v t [] = []
about v t (l ∷ ls) = of t (v l) ++ about v t ls

abbrev pub asks : Txn → List Letter → List Ask
asks t ls = about asked t ls

abbrev pub says : Txn → List Letter → List Say
says t ls = about said t ls

-- how far an attempt is at a brick, by whether it is pending there and by the outcome that the brick noted of it
abbrev pub at_of : Bool → Option Bool → At
at_of true noted = Prepared
at_of false None = Unprepared
at_of false (Some true) = Committed
at_of false (Some false) = Aborted

abbrev pub is_pending : List Pending → Txn → Bool
is_pending ps t = is_some (first_of ps t)

abbrev pub at : List Pending → Option Bool → Txn → At
at ps noted t = at_of (is_pending ps t) noted

-- the outcome that stands at a brick, or else the one that it noted before
abbrev pub noting : OutcomeMap → (Txn → Option Bool) → Txn → Option Bool
noting m noted t = first_some (get m t) (noted t)

-- how a library sees a member of an attempt with these members
abbrev pub phase_view : ℕ → Phase → View
phase_view m (Getting leaf brick) = Past
phase_view m (Preparing leaf list waiting) = if has waiting m then VoteDue else VoteHeard
phase_view m (Committing leaf list waiting was) = if has waiting m then CommitDue else CommitHeard
phase_view m (Aborting waiting why brick) = if has waiting m then AbortDue else AbortHeard
phase_view m (Asking waiting newest met) = Past

abbrev pub call_view : ℕ → Option OpenCall → View
call_view m None = Past
call_view m (Some c) = phase_view m c.phase

abbrev pub call_of : List OpenCall → Txn → Option OpenCall
call_of cs t = find (λ c. same_txn c.txn t) cs

abbrev pub view : LibraryState → List ℕ → Txn → ℕ → View
view s list t m = if nat_le s.next t.number then New else (if has list m then call_view m (call_of s.calls t) else Off)

-- an attempt is open at its library
abbrev pub is_open : LibraryState → Txn → Bool
is_open l t = is_some (call_of l.calls t)

-- the members of an update that an open call prepares or commits
abbrev pub members_of : Phase → List NodeNo
members_of (Preparing leaf list waiting) = list
members_of (Committing leaf list waiting was) = list
members_of (Aborting waiting why brick) = []
members_of (Getting leaf brick) = []
members_of (Asking waiting newest met) = []

abbrev pub members_in : Option OpenCall → List NodeNo
members_in None = []
members_in (Some c) = members_of c.phase

-- the call has decided to commit
abbrev pub commits_now : Phase → Bool
commits_now (Committing leaf list waiting was) = true
commits_now other = false

abbrev pub is_committing : Option OpenCall → Bool
is_committing None = false
is_committing (Some c) = commits_now c.phase

-- an attempt is pending once, and open once; no node stands twice in a list
abbrev pub Once : List Pending → Type 0
Once [] = Unit {0}
Once (p ∷ ps) = (is_pending ps p.txn ≡ false) × Once ps

abbrev pub Apart : List OpenCall → Type 0
Apart [] = Unit {0}
Apart (c ∷ cs) = (call_of cs c.txn ≡ None) × Apart cs

abbrev pub Alone : List NodeNo → Type 0
Alone [] = Unit {0}
Alone (n ∷ ns) = (has ns n ≡ false) × Alone ns

-- a list of nodes of the cluster, each once
pub record IsGroup (z : Sizes) (list : List NodeNo) : Type 0 where
  pub alone : Alone list
  pub inside : AllByRecursion (λ n. is_in z n ≡ true) list
