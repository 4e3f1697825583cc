use Rattle.std.proofs.Common.{◌++◌, inl, inr, Bool, true, List, [], ◌∷◌, refl, sym, subst}
use Rattle.std.proofs.lemmas.List.{append-nil}
use Rattle.dds_talk.proofs.Moves.{Takes, Hears}
use Rattle.dds_talk.proofs.Moves.Hears.{votes_yes, votes_no, applies, aborts, aborts_none, aborts_done, aborts_twice}
use Rattle.dds_talk.proofs.Moves.Takes.{begins, skips, hears_yes, last_yes, commits, hears_no, stops, stops_voted, passes_yes, passes_no, hears_applied}
use Rattle.dds_talk.proofs.Moves.Takes.{last_applied, closes, hears_aborted, last_aborted, ends, rests}
use Rattle.dds_talk.specs.Table.{View, Ask, Say, At, Talk, Talks, IsTalk, Known}
use Rattle.dds_talk.specs.Table.Talk.{told_commit, told_applied, done}
use Rattle.dds_talk.specs.Table.Talks.{live, left}
use Rattle.dds_talk.specs.Table.IsTalk.{unknowing, knowing}
use Rattle.dds_talk.specs.Table.View.{New, VoteDue, VoteHeard, CommitDue, CommitHeard, AbortDue, AbortHeard, Past, Off}
use Rattle.dds_talk.specs.Table.Ask.{prepare, commit, abort}
use Rattle.dds_talk.specs.Parts.{SureAt, SureView, NoAbort, Sure}
use Rattle.dds_talk.proofs.BrickRows.{Half, Fits}
use Rattle.dds_talk.proofs.BrickRows.Half.{still, hears}

-- A decided commit is sure.

-- a member hears a letter
sure-hears : {x : Ask} {a a' : At} {y : Say} (ll : Bool) (v : View) (o : List Ask) → Hears x a y a' → Fits (x ∷ []) a → Sure ll v (x ∷ o) a → Sure ll v o a'
sure-hears ll v o (votes_yes a) f s = absurd (subst SureAt f s.at)
sure-hears ll v o (votes_no a) f s = absurd (subst SureAt f s.at)
sure-hears ll v o applies f s = record { at = tt; none = s.none; view = s.view }
sure-hears ll v o aborts f s = absurd s.none
sure-hears ll v o aborts_none f s = absurd s.none
sure-hears ll v o aborts_done f s = absurd s.none
sure-hears ll v o aborts_twice f s = absurd s.none

pub sure-half : {xs : List Ask} {a a' : At} {ys : List Say} (ll : Bool) (v : View) (o : List Ask) → Half xs a a' ys → Fits xs a → Sure ll v (xs ++ o) a
    → Sure ll v o a'
sure-half ll v o (still a) f s = s
sure-half ll v o (hears {x = prepare} m) f s = sure-hears ll v o m f s
sure-half ll v o (hears {x = commit} m) f s = sure-hears ll v o m f s
sure-half ll v o (hears {x = abort} m) f s = sure-hears ll v o m f s

-- a library takes a letter
pub sure-takes : {v v' : View} {x : List Say} {y : List Ask} (o : List Ask) (a : At) → Takes v x v' y → Sure true v o a → Sure true v' (o ++ y) a
sure-takes o a begins s = absurd (s.view refl)
sure-takes o a skips s = absurd (s.view refl)
sure-takes o a hears_yes s = absurd (s.view refl)
sure-takes o a last_yes s = absurd (s.view refl)
sure-takes o a commits s = absurd (s.view refl)
sure-takes o a hears_no s = absurd (s.view refl)
sure-takes o a stops s = absurd (s.view refl)
sure-takes o a stops_voted s = absurd (s.view refl)
sure-takes o a passes_yes s = absurd (s.view refl)
sure-takes o a passes_no s = absurd (s.view refl)
sure-takes o a hears_applied s = rw append-nil record { at = s.at; none = s.none; view = λ e. tt }
sure-takes o a last_applied s = rw append-nil record { at = s.at; none = s.none; view = λ e. tt }
sure-takes o a closes s = rw append-nil record { at = s.at; none = s.none; view = λ e. tt }
sure-takes o a hears_aborted s = absurd (s.view refl)
sure-takes o a last_aborted s = absurd (s.view refl)
sure-takes o a ends s = absurd (s.view refl)
sure-takes o a (rests v) s = rw append-nil s

-- a library that commits has it sure
no-abort-front : (o cut : List Ask) → NoAbort (o ++ cut) → NoAbort o
no-abort-front [] cut h = tt
no-abort-front (prepare ∷ o) cut h = no-abort-front o cut h
no-abort-front (commit ∷ o) cut h = no-abort-front o cut h
no-abort-front (abort ∷ o) cut h = absurd h

-- the library's call commits
abbrev pub IsDoing : View → Type 0
IsDoing New = ⊥
IsDoing VoteDue = ⊥
IsDoing VoteHeard = ⊥
IsDoing CommitDue = Unit {0}
IsDoing CommitHeard = Unit {0}
IsDoing AbortDue = ⊥
IsDoing AbortHeard = ⊥
IsDoing Past = ⊥
IsDoing Off = ⊥

talk-sure : {v : View} {o : List Ask} {a : At} {b : List Say} → Talk v o a b → IsDoing v → SureAt a × NoAbort o × SureView v
talk-sure told_commit d = (tt, tt, tt)
talk-sure told_applied d = (tt, tt, tt)
talk-sure done d = (tt, tt, tt)
talk-sure h d = absurd d

known-sure : (v : View) (a : At) → Known v a → IsDoing v → SureAt a × SureView v
known-sure CommitDue a (inl e) d = (subst SureAt (sym e) tt, tt)
known-sure CommitDue a (inr e) d = (subst SureAt (sym e) tt, tt)
known-sure CommitHeard a e d = (subst SureAt (sym e) tt, tt)
known-sure v a h d = absurd d

talks-sure : {ll : Bool} {v : View} {o : List Ask} {a : At} {b : List Say} → Talks ll true v o a b → IsDoing v → Sure ll v o a
talks-sure (live h) d = let k = talk-sure h d in record { at = k.0; none = k.1; view = λ e. k.2 }
talks-sure (left {o = o} cut h) d = let k = talk-sure h d in record { at = k.0; none = no-abort-front o cut k.1; view = λ e. k.2 }

pub is-sure : {ll k : Bool} {v : View} {o : List Ask} {a : At} {b : List Say} → IsTalk ll true k v o a b → IsDoing v → Sure ll v o a
is-sure (unknowing h) d = talks-sure h d
is-sure (knowing {v = v} {s = a} h) d = let k = known-sure v a h d in record { at = k.0; none = tt; view = λ e. k.1 }
