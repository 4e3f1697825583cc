use Rattle.std.proofs.Common.{◌≡◌, Bool, true, false, Some, List, [], refl}
use Rattle.std.specs.Prelude.{Option, None, if◌then◌else◌}
use Rattle.dds_base.specs.declared.number.NodeNo.{NodeNo}
use Rattle.dds_base.specs.declared.leaf.Leaf.{Leaf}
use Rattle.dds_call_rows.specs.Library.{CallTurn, aborted_in, applied_in, call_concerns, first_flag, goes_without, got_in, lost_or_applied, replies, stays}
use Rattle.dds_call_rows.specs.Library.{told_in, vote_in}
use Rattle.dds_base.specs.declared.op.Reply.{Reply}
use Rattle.dds_core.proofs.Lists.{this-one}
use Rattle.dds_core.specs.LibraryTurn.{call_row}
use Rattle.dds_history.specs.Map.{reply_with}
use Rattle.dds_letters.specs.declared.letter.Letter.{Letter}
use Rattle.dds_letters.specs.declared.letter.Letter.TheVariants as letter
use Rattle.dds_letters.specs.declared.refusal.Answer.{Answer}
use Rattle.dds_letters.specs.declared.refusal.Ballot.{Ballot}
use Rattle.dds_states.specs.Turn.{is_none_left, without}
use Rattle.dds_states.specs.declared.library_state.Desk.{Desk}
use Rattle.dds_states.specs.declared.library_state.OpenCall.{OpenCall}
use Rattle.dds_states.specs.declared.library_state.Phase.{Phase}
use Rattle.dds_states.specs.declared.library_state.Phase.TheVariants as phase
use Rattle.dds_talk.specs.Seen.{commits_now}

-- A call that commits makes no other attempt: it goes on committing, or is answered.

pub record GoesOn (c x : OpenCall) : Type 0 where
  pub txn_is : x.txn ≡ c.txn
  pub request_is : x.request ≡ c.request
  pub commits : commits_now x.phase ≡ true

abbrev pub Gives : OpenCall → CallTurn → Type 0
Gives c t = (x : OpenCall) → t.went.call ≡ Some x → GoesOn c x

gives-if : (c : OpenCall) (b : Bool) (t u : CallTurn) → Gives c t → Gives c u → Gives c (if b then t else u)
gives-if c true t u h g = h
gives-if c false t u h g = g

gives-same : (d : Desk) (c : OpenCall) (ls : List (NodeNo × Letter)) → commits_now c.phase ≡ true → Gives c (stays d ls c)
gives-same d c ls h x e = this-one (GoesOn c) c x e (record { txn_is = refl; request_is = refl; commits = h })

gives-phase : (d : Desk) (c : OpenCall) (ls : List (NodeNo × Letter)) (p : Phase) → commits_now p ≡ true → Gives c (stays d ls (record c { phase = p }))
gives-phase d c ls p h x e = this-one (GoesOn c) (record c { phase = p }) x e (record { txn_is = refl; request_is = refl; commits = h })

gives-none : (d : Desk) (c : OpenCall) (r : Reply) → Gives c (replies d r)
gives-none d c r x e = cc

gives-got : (d : Desk) (c : OpenCall) (from : NodeNo) (a : Answer) (p : Phase) → commits_now c.phase ≡ true → commits_now p ≡ true
    → Gives c (got_in d c from a p)
gives-got d c from a (phase.Committing leaf list waiting was) h k = gives-same d c [] h
gives-got d c from a other h k = cc

gives-vote : (d : Desk) (c : OpenCall) (from : NodeNo) (v : Ballot) (p : Phase) → commits_now c.phase ≡ true → commits_now p ≡ true
    → Gives c (vote_in d c from v p)
gives-vote d c from v (phase.Committing leaf list waiting was) h k = gives-same d c [] h
gives-vote d c from v other h k = cc

gives-applied : (d : Desk) (c : OpenCall) (from : NodeNo) (flag : Bool) (p : Phase) → commits_now p ≡ true → Gives c (applied_in d c from flag p)
gives-applied d c from flag (phase.Committing leaf list waiting was) k =
    gives-if c (is_none_left (without waiting from)) _ _ (gives-none d c (reply_with c.request.op (first_flag was flag)))
    (gives-phase d c [] (phase.Committing leaf list (without waiting from) (Some (first_flag was flag))) refl)
gives-applied d c from flag other k = cc

gives-aborted : (d : Desk) (c : OpenCall) (from : NodeNo) (p : Phase) → commits_now c.phase ≡ true → commits_now p ≡ true → Gives c (aborted_in d c from p)
gives-aborted d c from (phase.Committing leaf list waiting was) h k = gives-same d c [] h
gives-aborted d c from other h k = cc

gives-told : (d : Desk) (c : OpenCall) (from : NodeNo) (leaf : Option Leaf) (p : Phase) → commits_now c.phase ≡ true → commits_now p ≡ true
    → Gives c (told_in d c from leaf p)
gives-told d c from leaf (phase.Committing l list waiting was) h k = gives-same d c [] h
gives-told d c from leaf other h k = cc

gives-lost : (d : Desk) (c : OpenCall) (leaf : Leaf) (was : Option Bool) → Gives c (lost_or_applied d c leaf was)
gives-lost d c leaf None = λ x e. cc
gives-lost d c leaf (Some flag) = λ x e. cc

gives-without : (d : Desk) (c : OpenCall) (y : NodeNo) (p : Phase) → commits_now p ≡ true → Gives c (goes_without d c y p)
gives-without d c y (phase.Committing leaf list waiting was) k =
    gives-if c (is_none_left (without waiting y)) _ _ (gives-lost d c leaf was)
    (gives-phase d c [] (phase.Committing leaf list (without waiting y) was) refl)
gives-without d c y other k = cc

pub committing-goes : (d : Desk) (c : OpenCall) (from : NodeNo) (l : Letter) → commits_now c.phase ≡ true → Gives c (call_row d c from l)
committing-goes d c from (letter.Got txn a) h = gives-got d c from a c.phase h h
committing-goes d c from (letter.Vote txn vote) h = gives-vote d c from vote c.phase h h
committing-goes d c from (letter.Applied txn was) h = gives-applied d c from was c.phase h
committing-goes d c from (letter.Aborted txn) h = gives-aborted d c from c.phase h h
committing-goes d c from (letter.MapTell txn leaf) h = gives-told d c from leaf c.phase h h
committing-goes d c from letter.Notice h =
    gives-if c (call_concerns c.phase from) _ _ (gives-without d c from c.phase h) (gives-same d c [] h)
committing-goes d c from other h = gives-same d c [] h
