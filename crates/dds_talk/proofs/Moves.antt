use Rattle.std.proofs.Common.{◌≡◌, ◌≢◌, inl, inr, Bool, true, false, List, [], ◌∷◌, ◌++◌, refl, sym, subst, append_assoc}
use Rattle.std.proofs.lemmas.List.{append-nil}
use Rattle.dds_talk.specs.Table.{View, Ask, Say, At, Talk, Talks, Known, IsTalk}
use Rattle.dds_talk.specs.Table.Talks.{live, left, lost, gone}
use Rattle.dds_talk.specs.Table.IsTalk.{knowing}
use Rattle.dds_talk.specs.Table.View.{New, VoteDue, VoteHeard, CommitDue, CommitHeard, AbortDue, AbortHeard, Past, Off}
use Rattle.dds_talk.specs.Table.Ask.{prepare, commit, abort}
use Rattle.dds_talk.specs.Table.Say.{yes, no, applied, aborted}
use Rattle.dds_talk.specs.Table.At.{Unprepared, Prepared, Committed, Aborted}
use Rattle.dds_talk.specs.Table.Talk.{unmade, asked, said_yes, said_no, voted, told_commit, told_applied, done, early, late_yes, late_no, told_abort}
use Rattle.dds_talk.specs.Table.Talk.{told_denier, yes_aborted, no_aborted, told_aborted, told_nothing, undone, undone_nothing, past_done, past_undone}
use Rattle.dds_talk.specs.Table.Talk.{past_nothing, off}

-- a member hears a letter, and says one
pub data Hears : Ask → At → Say → At → Type 0 where
  votes_yes : (s : At) → Hears prepare s yes Prepared
  votes_no : (s : At) → Hears prepare s no s
  applies : Hears commit Prepared applied Committed
  aborts : Hears abort Prepared aborted Aborted
  aborts_none : Hears abort Unprepared aborted Unprepared
  aborts_done : Hears abort Committed aborted Committed
  aborts_twice : Hears abort Aborted aborted Aborted

pub hears : {v : View} {x : Ask} {o : List Ask} {s s' : At} {y : Say} {b : List Say} → Hears x s y s' → Talk v (x ∷ o) s b → Talk v o s' (b ++ y ∷ [])
hears (votes_yes s) asked = said_yes
hears (votes_yes s) early = late_yes
hears (votes_no s) asked = said_no
hears (votes_no s) early = late_no
hears applies told_commit = told_applied
hears aborts late_yes = yes_aborted
hears aborts told_abort = told_aborted
hears aborts_none late_no = no_aborted
hears aborts_none told_denier = told_nothing
hears aborts_done h = elim h [ ]
hears aborts_twice h = elim h [ ]

-- an attempt that is asked for isn't prepared yet; one that is to be committed is prepared
pub asked-new : {v : View} {o : List Ask} {s : At} {b : List Say} → Talk v (prepare ∷ o) s b → s ≡ Unprepared
asked-new asked = refl
asked-new early = refl

pub commit-prepared : {v : View} {o : List Ask} {s : At} {b : List Say} → Talk v (commit ∷ o) s b → s ≡ Prepared
commit-prepared told_commit = refl

-- a library hears a letter or none, and sends one or none
pub data Takes : View → List Say → View → List Ask → Type 0 where
  begins : Takes New [] VoteDue (prepare ∷ [])
  skips : Takes New [] Off []
  hears_yes : Takes VoteDue (yes ∷ []) VoteHeard []
  last_yes : Takes VoteDue (yes ∷ []) CommitDue (commit ∷ [])
  commits : Takes VoteHeard [] CommitDue (commit ∷ [])
  hears_no : Takes VoteDue (no ∷ []) AbortDue (abort ∷ [])
  stops : Takes VoteDue [] AbortDue (abort ∷ [])
  stops_voted : Takes VoteHeard [] AbortDue (abort ∷ [])
  passes_yes : Takes AbortDue (yes ∷ []) AbortDue []
  passes_no : Takes AbortDue (no ∷ []) AbortDue []
  hears_applied : Takes CommitDue (applied ∷ []) CommitHeard []
  last_applied : Takes CommitDue (applied ∷ []) Past []
  closes : Takes CommitHeard [] Past []
  hears_aborted : Takes AbortDue (aborted ∷ []) AbortHeard []
  last_aborted : Takes AbortDue (aborted ∷ []) Past []
  ends : Takes AbortHeard [] Past []
  rests : (v : View) → Takes v [] v []

pub takes : {v v' : View} {x : List Say} {y : List Ask} {o : List Ask} {s : At} {b : List Say} → Takes v x v' y → Talk v o s (x ++ b) → Talk v' (o ++ y) s b
takes begins unmade = asked
takes skips unmade = off
takes hears_yes said_yes = voted
takes last_yes said_yes = told_commit
takes commits voted = told_commit
takes hears_no said_no = told_denier
takes stops asked = early
takes stops said_yes = late_yes
takes stops said_no = late_no
takes stops_voted voted = told_abort
takes passes_yes late_yes = told_abort
takes passes_yes yes_aborted = told_aborted
takes passes_no late_no = told_denier
takes passes_no no_aborted = told_nothing
takes hears_applied told_applied = done
takes last_applied told_applied = past_done
takes closes done = past_done
takes hears_aborted told_aborted = undone
takes hears_aborted told_nothing = undone_nothing
takes last_aborted told_aborted = past_undone
takes last_aborted told_nothing = past_nothing
takes ends undone = past_undone
takes ends undone_nothing = past_nothing
takes {o = o} {s = s} {b = b} (rests v) h = rw append-nil h

-- what is heard fits the view
abbrev pub MaySay : View → Say → Type 0
MaySay VoteDue yes = Unit {0}
MaySay VoteDue no = Unit {0}
MaySay CommitDue applied = Unit {0}
MaySay AbortDue yes = Unit {0}
MaySay AbortDue no = Unit {0}
MaySay AbortDue aborted = Unit {0}
MaySay v y = ⊥

pub may-say : {v : View} {o : List Ask} {s : At} {y : Say} {b : List Say} → Talk v o s (y ∷ b) → MaySay v y
may-say said_yes = tt
may-say said_no = tt
may-say told_applied = tt
may-say late_yes = tt
may-say late_no = tt
may-say yes_aborted = tt
may-say no_aborted = tt
may-say told_aborted = tt
may-say told_nothing = tt

-- the same with stops
pub member-hears : {ll : Bool} {v : View} {x : Ask} {o : List Ask} {s s' : At} {y : Say} {b : List Say} → Hears x s y s' → Talks ll true v (x ∷ o) s b
    → Talks ll true v o s' (b ++ y ∷ [])
member-hears m (live h) = live (hears m h)
member-hears m (left cut h) = left cut (hears m h)

pub library-takes : {ml : Bool} {v v' : View} {x : List Say} {y : List Ask} {o : List Ask} {s : At} {b : List Say} → Takes v x v' y
    → Talks true ml v o s (x ++ b) → Talks true ml v' (o ++ y) s b
library-takes m (live h) = live (takes m h)
library-takes {x = x} {b = b} m (lost {v = v} {out = out} {at = at} cut h) = lost cut (takes m (subst (λ r. Talk v out at r) (append_assoc x b cut) h))

-- a library stops: what it didn't post is lost
pub library-stops : {ml : Bool} {v : View} {o : List Ask} {s : At} {b c : List Say} (cut : List Ask) → Talks true ml v (o ++ cut) s b → Talks false ml v o s c
library-stops cut (live h) = left cut h
library-stops cut (lost c h) = gone

-- a member stops
pub member-stops : {ll : Bool} {v : View} {o p : List Ask} {s t : At} {b : List Say} (cut : List Say) → Talks ll true v o s (b ++ cut) → Talks ll false v p t b
member-stops cut (live h) = lost cut h
member-stops cut (left c h) = gone

-- nothing is on its way from a stopped member, and the library knows it
pub silent : (v : View) {o : List Ask} {s : At} → Talks true false v o s []
silent New = lost [] unmade
silent VoteDue = lost (yes ∷ []) said_yes
silent VoteHeard = lost [] voted
silent CommitDue = lost (applied ∷ []) told_applied
silent CommitHeard = lost [] done
silent AbortDue = lost (aborted ∷ []) told_aborted
silent AbortHeard = lost [] undone
silent Past = lost [] past_done
silent Off = lost [] off

known-in : {v : View} {o : List Ask} {s : At} {b : List Say} → Talk v o s b → Known v s
known-in unmade = refl
known-in asked = tt
known-in said_yes = tt
known-in said_no = tt
known-in voted = λ e. cc
known-in told_commit = inl refl
known-in told_applied = inr refl
known-in done = refl
known-in early = tt
known-in late_yes = tt
known-in late_no = tt
known-in told_abort = tt
known-in told_denier = tt
known-in yes_aborted = tt
known-in no_aborted = tt
known-in told_aborted = tt
known-in told_nothing = tt
known-in undone = inr refl
known-in undone_nothing = inl refl
known-in past_done = λ e. cc
known-in past_undone = λ e. cc
known-in past_nothing = λ e. cc
known-in off = refl

-- a member learns that the library has stopped, when nothing is on its way from it
pub learns : {v : View} {o : List Ask} {s : At} {b : List Say} → o ≡ [] → Talks false true v o s b → IsTalk false true true v o s b
learns {v = v} {s = s} {b = b} e (left cut h) = subst (λ o. IsTalk false true true v o s b) (sym e) (knowing (known-in h))

-- and resolves the attempt
pub known-commits : (v : View) → Known v Prepared → Known v Committed
known-commits New h = cc
known-commits VoteDue h = tt
known-commits VoteHeard h = λ e. cc
known-commits CommitDue h = inr refl
known-commits CommitHeard h = refl
known-commits AbortDue h = tt
known-commits AbortHeard (inl h) = cc
known-commits AbortHeard (inr h) = cc
known-commits Past h = absurd (h refl)
known-commits Off h = cc

pub known-aborts : (v : View) → Known v Prepared → v ≢ CommitDue → Known v Aborted
known-aborts New h n = cc
known-aborts VoteDue h n = tt
known-aborts VoteHeard h n = λ e. cc
known-aborts CommitDue h n = absurd (n refl)
known-aborts CommitHeard h n = cc
known-aborts AbortDue h n = tt
known-aborts AbortHeard (inl h) n = cc
known-aborts AbortHeard (inr h) n = cc
known-aborts Past h n = absurd (h refl)
known-aborts Off h n = cc
