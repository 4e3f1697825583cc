-- The conversations of a library and a member about one attempt of an update.
use Rattle.std.specs.Prelude.{◌≡◌, ◌≢◌, ◌⊎◌, Bool, true, false, List, [], ◌∷◌, ◌++◌}

-- how the library sees the member: the attempt isn't made yet; the vote is due, or yes; the commit is due to be applied,
-- or was; the abort is due, or was; the attempt is over; it isn't this node's
pub data View : Type 0 where
  New : View
  VoteDue : View
  VoteHeard : View
  CommitDue : View
  CommitHeard : View
  AbortDue : View
  AbortHeard : View
  Past : View
  Off : View

-- what the library asks
pub data Ask : Type 0 where
  prepare : Ask
  commit : Ask
  abort : Ask

-- what the member says
pub data Say : Type 0 where
  yes : Say
  no : Say
  applied : Say
  aborted : Say

-- how far the attempt is at the member: not prepared, prepared, committed, aborted
pub data At : Type 0 where
  Unprepared : At
  Prepared : At
  Committed : At
  Aborted : At

-- The conversations that there are: the library's view, what is on its way to the member, how far it is there, and what is
-- on its way back. One constructor for each line:
--
-- | line             | view        | to the member | at         | back        | what it means                                 |
-- | `unmade`         | New         | -             | Unprepared | -           | the library hasn't taken the attempt's number |
-- | `asked`          | VoteDue     | prepare       | Unprepared | -           | the member is asked for its vote              |
-- | `said_yes`       | VoteDue     | -             | Prepared   | yes         | it voted yes                                  |
-- | `said_no`        | VoteDue     | -             | Unprepared | no          | it voted no                                   |
-- | `voted`          | VoteHeard   | -             | Prepared   | -           | its yes was heard, another vote is due        |
-- | `told_commit`    | CommitDue   | commit        | Prepared   | -           | all voted yes                                 |
-- | `told_applied`   | CommitDue   | -             | Committed  | applied     | it applied the update                         |
-- | `done`           | CommitHeard | -             | Committed  | -           | that was heard, another member's is due       |
-- | `early`          | AbortDue    | prepare abort | Unprepared | -           | another voted no before this one was asked    |
-- | `late_yes`       | AbortDue    | abort         | Prepared   | yes         | another voted no, this vote is late           |
-- | `late_no`        | AbortDue    | abort         | Unprepared | no          | the same                                      |
-- | `told_abort`     | AbortDue    | abort         | Prepared   | -           | its vote was heard                            |
-- | `told_denier`    | AbortDue    | abort         | Unprepared | -           | the same, a no                                |
-- | `yes_aborted`    | AbortDue    | -             | Aborted    | yes aborted | a late vote, and that it aborted              |
-- | `no_aborted`     | AbortDue    | -             | Unprepared | no aborted  | the same                                      |
-- | `told_aborted`   | AbortDue    | -             | Aborted    | aborted     | it aborted                                    |
-- | `told_nothing`   | AbortDue    | -             | Unprepared | aborted     | it had nothing to abort                       |
-- | `undone`         | AbortHeard  | -             | Aborted    | -           | that was heard, another member's is due       |
-- | `undone_nothing` | AbortHeard  | -             | Unprepared | -           | the same                                      |
-- | `past_done`      | Past        | -             | Committed  | -           | the attempt is over                           |
-- | `past_undone`    | Past        | -             | Aborted    | -           | the same                                      |
-- | `past_nothing`   | Past        | -             | Unprepared | -           | the same                                      |
-- | `off`            | Off         | -             | Unprepared | -           | this node is no member                        |
pub data Talk : View → List Ask → At → List Say → Type 0 where
  unmade : Talk New [] Unprepared []
  asked : Talk VoteDue (prepare ∷ []) Unprepared []
  said_yes : Talk VoteDue [] Prepared (yes ∷ [])
  said_no : Talk VoteDue [] Unprepared (no ∷ [])
  voted : Talk VoteHeard [] Prepared []
  told_commit : Talk CommitDue (commit ∷ []) Prepared []
  told_applied : Talk CommitDue [] Committed (applied ∷ [])
  done : Talk CommitHeard [] Committed []
  early : Talk AbortDue (prepare ∷ abort ∷ []) Unprepared []
  late_yes : Talk AbortDue (abort ∷ []) Prepared (yes ∷ [])
  late_no : Talk AbortDue (abort ∷ []) Unprepared (no ∷ [])
  told_abort : Talk AbortDue (abort ∷ []) Prepared []
  told_denier : Talk AbortDue (abort ∷ []) Unprepared []
  yes_aborted : Talk AbortDue [] Aborted (yes ∷ aborted ∷ [])
  no_aborted : Talk AbortDue [] Unprepared (no ∷ aborted ∷ [])
  told_aborted : Talk AbortDue [] Aborted (aborted ∷ [])
  told_nothing : Talk AbortDue [] Unprepared (aborted ∷ [])
  undone : Talk AbortHeard [] Aborted []
  undone_nothing : Talk AbortHeard [] Unprepared []
  past_done : Talk Past [] Committed []
  past_undone : Talk Past [] Aborted []
  past_nothing : Talk Past [] Unprepared []
  off : Talk Off [] Unprepared []

-- The same where the library or the member has stopped (the first says whether the library lives, the second whether the
-- member does): what it hadn't posted is cut off a line's end, and of what was sent to it, and of its own state, nothing is said
pub data Talks : Bool → Bool → View → List Ask → At → List Say → Type 0 where
  live : {v : View} {o : List Ask} {s : At} {b : List Say} → Talk v o s b → Talks true true v o s b
  left : {v : View} {o : List Ask} {s : At} {b back : List Say} (cut : List Ask) → Talk v (o ++ cut) s back → Talks false true v o s b
  lost : {v : View} {o out : List Ask} {s at : At} {b : List Say} (cut : List Say) → Talk v out at (b ++ cut) → Talks true false v o s b
  gone : {v : View} {o : List Ask} {s : At} {b : List Say} → Talks false false v o s b

-- how far an attempt may be at a live member that knows that the library has stopped
abbrev pub Known : View → At → Type 0
Known New s = s ≡ Unprepared
Known VoteDue s = Unit {0}
Known VoteHeard s = s ≢ Unprepared
Known CommitDue s = (s ≡ Prepared) ⊎ (s ≡ Committed)
Known CommitHeard s = s ≡ Committed
Known AbortDue s = Unit {0}
Known AbortHeard s = (s ≡ Unprepared) ⊎ (s ≡ Aborted)
Known Past s = s ≢ Prepared
Known Off s = s ≡ Unprepared

-- the conversation: the library is live, the member is live, the member knows that the library has stopped
pub data IsTalk : Bool → Bool → Bool → View → List Ask → At → List Say → Type 0 where
  unknowing : {ll ml : Bool} {v : View} {o : List Ask} {s : At} {b : List Say} → Talks ll ml v o s b → IsTalk ll ml false v o s b
  knowing : {ll ml : Bool} {v : View} {s : At} {b : List Say} → Known v s → IsTalk ll ml true v [] s b
