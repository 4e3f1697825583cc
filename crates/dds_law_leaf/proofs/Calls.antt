use Rattle.std.proofs.Common.{Bool, true, false, Option, Some, None, List, [], ◌∷◌}
use Rattle.std.specs.List.{AllByRecursion}
use Rattle.std.specs.Prelude.{if◌then◌else◌}
use Rattle.dds_base.specs.Op.{the_key}
use Rattle.dds_base.specs.declared.leaf.Leaf.{Leaf}
use Rattle.dds_base.specs.declared.number.NodeNo.{NodeNo}
use Rattle.dds_base.specs.declared.op.Met.{Met}
use Rattle.dds_base.specs.declared.op.Met.TheVariants as met
use Rattle.dds_base.specs.declared.op.Op.{Op}
use Rattle.dds_base.specs.declared.op.Op.TheVariants as op
use Rattle.dds_base.specs.declared.op.Reply.{Reply}
use Rattle.dds_base.specs.declared.op.Reply.TheVariants as reply
use Rattle.dds_call_rows.specs.Library as rows
use Rattle.dds_call_rows.specs.Library.{CallTurn}
use Rattle.dds_core.proofs.Lists.{all-append}
use Rattle.dds_core.specs.LibraryTurn.{call_row}
use Rattle.dds_groups.specs.Leaves.{newer}
use Rattle.dds_letters.specs.declared.letter.Letter.{Letter}
use Rattle.dds_letters.specs.declared.letter.Letter.TheVariants as letter
use Rattle.dds_letters.specs.declared.refusal.Answer.{Answer}
use Rattle.dds_letters.specs.declared.refusal.Answer.TheVariants as answer
use Rattle.dds_letters.specs.declared.refusal.Ballot.{Ballot}
use Rattle.dds_letters.specs.declared.refusal.Ballot.TheVariants as ballot
use Rattle.dds_letters.specs.declared.refusal.Denial.{Denial}
use Rattle.dds_letters.specs.declared.refusal.Denial.TheVariants as denial
use Rattle.dds_letters.specs.declared.refusal.Refusal.{Refusal}
use Rattle.dds_letters.specs.declared.refusal.Refusal.TheVariants as refusal
use Rattle.dds_states.specs.Leaf.{leaf_for}
use Rattle.dds_states.specs.Turn.{to_each, unknown, without}
use Rattle.dds_states.specs.declared.library_state.Desk.{Desk}
use Rattle.dds_states.specs.declared.library_state.OpenCall.{OpenCall}
use Rattle.dds_states.specs.declared.library_state.Phase.{Phase}
use Rattle.dds_states.specs.declared.library_state.Phase.TheVariants.{Getting, Preparing, Committing, Aborting, Asking}
use Rattle.dds_states.specs.declared.library_state.Request.{Request}
use Rattle.dds_world.specs.Groups.{answer_leaf, ballot_leaf, call_leaf, denial_leaf, refusal_leaf}
use Rattle.dds_law_leaf.proofs.Book.{Each, InCall, InLetter, InMap}
use Rattle.dds_law_leaf.proofs.Maps.{in-for, in-put}

-- What one call's turn does with leaves: it makes none.

abbrev pub InSome : (Leaf → Type 0) → Option OpenCall → Type 0
InSome P None = Unit {0}
InSome P (Some c) = InCall P c

abbrev pub Carry : (Leaf → Type 0) → List (NodeNo × Letter) → Type 0
Carry P ls = AllByRecursion (λ (p : NodeNo × Letter). InLetter P p.1) ls

pub record CallHas (P : Leaf → Type 0) (t : CallTurn) : Type 0 where
  pub map : InMap P t.desk.map
  pub call : InSome P t.went.call
  pub letters : Carry P t.went.letters

module _ (P : Leaf → Type 0) where
  has-if : (b : Bool) {t u : CallTurn} → CallHas P t → CallHas P u → CallHas P (if b then t else u)
  has-if true h k = h
  has-if false h k = k

  carry-each : (ns : List NodeNo) (l : Letter) → InLetter P l → Carry P (to_each ns l)
  carry-each [] l h = tt
  carry-each (n ∷ ns) l h = (h, carry-each ns l h)

  replies : (d : Desk) (r : Reply) → InMap P d.map → CallHas P (rows.replies d r)
  replies d r h = record { map = h; call = tt; letters = tt }

  stays : (d : Desk) (c : OpenCall) → InMap P d.map → InCall P c → CallHas P (rows.stays d [] c)
  stays d c h k = record { map = h; call = k; letters = tt }

  -- an attempt begins, or the call looks for a newer map
  asks : (d : Desk) (r : Request) (m : Met) (ns : List NodeNo) → InMap P d.map → CallHas P (rows.asks d r m ns)
  asks d r m [] h = replies (rows.counted d) (reply.Again m) h
  asks d r m (n ∷ ns) h =
      record { map = h; call = tt; letters = carry-each (n ∷ ns) (letter.MapAsk (rows.next_txn d) r.caller r.call (the_key r.op)) tt }

  ask : (d : Desk) (r : Request) (m : Met) → InMap P d.map → CallHas P (rows.ask d r m)
  ask d r m h = has-if _ (replies d _ h) (asks d r m (rows.live_bricks d) h)

  update_begins : (d : Desk) (r : Request) (leaf : Leaf) (ms : List NodeNo) → InMap P d.map → P leaf → CallHas P (rows.update_begins d r leaf ms)
  update_begins d r leaf ms h k =
      let l = letter.Prepare (rows.next_txn d) r.caller r.call (rows.below d) leaf.name leaf.stamp ms r.op in
      record { map = h; call = k; letters = carry-each ms l tt }

  attempt_begins : (d : Desk) (r : Request) (leaf : Leaf) (ms : List NodeNo) (o : Op) → InMap P d.map → P leaf → CallHas P (rows.attempt_begins d r leaf ms o)
  attempt_begins d r leaf ms (op.Get key) h k = record { map = h; call = k; letters = (tt, tt) }
  attempt_begins d r leaf ms (op.Put key value) h k = update_begins d r leaf ms h k
  attempt_begins d r leaf ms (op.Remove key) h k = update_begins d r leaf ms h k
  attempt_begins d r leaf ms (op.Swap key expected value) h k = update_begins d r leaf ms h k

  begins_with : (d : Desk) (r : Request) (leaf : Leaf) (ms : List NodeNo) → InMap P d.map → P leaf → CallHas P (rows.begins_with d r leaf ms)
  begins_with d r leaf [] h k = ask d r _ h
  begins_with d r leaf (m ∷ ms) h k = attempt_begins d r leaf (m ∷ ms) r.op h k

  begins_at : (d : Desk) (r : Request) (o : Option Leaf) → InMap P d.map → Each P o → CallHas P (rows.begins_at d r o)
  begins_at d r None h k = record { map = h; call = tt; letters = tt }
  begins_at d r (Some leaf) h k = begins_with d r leaf _ h k

  pub begin : (d : Desk) (r : Request) → InMap P d.map → CallHas P (rows.begin d r)
  begin d r h = begins_at d r (leaf_for d.map (the_key r.op)) h (in-for P d.map (the_key r.op) h)

  adopts : (d : Desk) (r : Request) (leaf : Leaf) → InMap P d.map → P leaf → CallHas P (rows.begin (rows.adopts d leaf) r)
  adopts d r leaf h k = begin (rows.adopts d leaf) r (in-put P d.map leaf k h)

  told_all : (d : Desk) (r : Request) (o : Option Leaf) (m : Met) → InMap P d.map → Each P o → CallHas P (rows.told_all d r o m)
  told_all d r None m h k = replies d _ h
  told_all d r (Some leaf) m h k = adopts d r leaf h k

  -- a refusal
  behind : (ls : List (NodeNo × Letter)) (t : CallTurn) → Carry P ls → CallHas P t → CallHas P (rows.behind ls t)
  behind ls t h k = record { map = k.map; call = k.call; letters = all-append _ ls t.went.letters h k.letters }

  repairs : (d : Desk) (r : Request) (from : NodeNo) (theirs : Leaf) (o : Option Leaf) → InMap P d.map → P theirs → Each P o
      → CallHas P (rows.repairs d r from theirs o)
  repairs d r from theirs None h k m = adopts d r theirs h k
  repairs d r from theirs (Some mine) h k m =
      has-if _ (behind ((from, letter.Push mine) ∷ []) _ (m, tt) (begin d (record r { pushed = true }) h)) (has-if _ (begin d r h) (adopts d r theirs h k))

  stale : (d : Desk) (r : Request) (from : NodeNo) (o : Option Leaf) → InMap P d.map → Each P o → CallHas P (rows.stale d r from o)
  stale d r from None h k = ask d r (met.Stale from) h
  stale d r from (Some theirs) h k =
      has-if _ (replies d _ h) (repairs d (rows.retried r) from theirs (leaf_for d.map (the_key r.op)) h k (in-for P d.map (the_key r.op) h))

  refused : (d : Desk) (r : Request) (from : NodeNo) (why : Refusal) → InMap P d.map → Each P (refusal_leaf why) → CallHas P (rows.refused d r from why)
  refused d r from refusal.Lease h k = replies d _ h
  refused d r from refusal.Lock h k = replies d _ h
  refused d r from (refusal.Stale leaf) h k = stale d r from leaf h k

  denied : (d : Desk) (r : Request) (from : NodeNo) (why : Denial) → InMap P d.map → Each P (denial_leaf why) → CallHas P (rows.denied d r from why)
  denied d r from (denial.Refused why) h k = refused d r from why h k
  denied d r from denial.Full h k = replies d _ h

  -- letters, each in the phase that takes it
  got_in : (d : Desk) (c : OpenCall) (from : NodeNo) (a : Answer) (p : Phase) → InMap P d.map → InCall P c → Each P (answer_leaf a)
      → CallHas P (rows.got_in d c from a p)
  got_in d c from answer.Absent (Getting leaf brick) h k m = replies d _ h
  got_in d c from (answer.Value value) (Getting leaf brick) h k m = replies d _ h
  got_in d c from (answer.Refused why) (Getting leaf brick) h k m = refused d c.request from why h m
  got_in d c from a other h k m = stays d c h k

  prepared_on : (d : Desk) (c : OpenCall) (leaf : Leaf) (list waiting : List NodeNo) → InMap P d.map → P leaf
      → CallHas P (rows.prepared_on d c leaf list waiting)
  prepared_on d c leaf list waiting h k =
      has-if _ (record { map = h; call = k; letters = carry-each (unknown list d.known) (letter.Commit c.txn) tt })
      (stays d (record c { phase = Preparing leaf list waiting }) h k)

  vote_counted : (d : Desk) (c : OpenCall) (leaf : Leaf) (list waiting : List NodeNo) (from : NodeNo) (v : Ballot) → InMap P d.map → P leaf
      → Each P (ballot_leaf v) → CallHas P (rows.vote_counted d c leaf list waiting from v)
  vote_counted d c leaf list waiting from ballot.Yes h k m = prepared_on d c leaf list (without waiting from) h k
  vote_counted d c leaf list waiting from (ballot.No why) h k m =
      record { map = h; call = m; letters = carry-each (unknown list d.known) (letter.Abort c.txn) tt }

  vote_in : (d : Desk) (c : OpenCall) (from : NodeNo) (v : Ballot) (p : Phase) → InMap P d.map → InCall P c → Each P (call_leaf p)
      → Each P (ballot_leaf v) → CallHas P (rows.vote_in d c from v p)
  vote_in d c from v (Preparing leaf list waiting) h k q m = has-if _ (vote_counted d c leaf list waiting from v h q m) (stays d c h k)
  vote_in d c from v other h k q m = stays d c h k

  applied_in : (d : Desk) (c : OpenCall) (from : NodeNo) (flag : Bool) (p : Phase) → InMap P d.map → InCall P c → Each P (call_leaf p)
      → CallHas P (rows.applied_in d c from flag p)
  applied_in d c from flag (Committing leaf list waiting was) h k q =
      has-if _ (replies d _ h) (stays d (record c { phase = Committing leaf list (without waiting from) _ }) h q)
  applied_in d c from flag other h k q = stays d c h k

  aborted_on : (d : Desk) (c : OpenCall) (waiting : List NodeNo) (why : Denial) (brick : NodeNo) → InMap P d.map → Each P (denial_leaf why)
      → CallHas P (rows.aborted_on d c waiting why brick)
  aborted_on d c waiting why brick h k = has-if _ (denied d c.request brick why h k) (stays d (record c { phase = Aborting waiting why brick }) h k)

  aborted_in : (d : Desk) (c : OpenCall) (from : NodeNo) (p : Phase) → InMap P d.map → InCall P c → Each P (call_leaf p)
      → CallHas P (rows.aborted_in d c from p)
  aborted_in d c from (Aborting waiting why brick) h k q = aborted_on d c (without waiting from) why brick h q
  aborted_in d c from other h k q = stays d c h k

  one-of : (b : Bool) (x y : Leaf) → P x → P y → Each P (if b then Some x else Some y)
  one-of true x y h k = h
  one-of false x y h k = k

  newest_of : (x y : Option Leaf) → Each P x → Each P y → Each P (rows.newest_of x y)
  newest_of None y h k = k
  newest_of (Some told) None h k = h
  newest_of (Some told) (Some kept) h k = one-of (newer told kept) told kept h k

  told_on : (d : Desk) (c : OpenCall) (waiting : List NodeNo) (newest : Option Leaf) (m : Met) → InMap P d.map → Each P newest
      → CallHas P (rows.told_on d c waiting newest m)
  told_on d c waiting newest m h k = has-if _ (told_all d c.request newest m h k) (stays d (record c { phase = Asking waiting newest m }) h k)

  told_in : (d : Desk) (c : OpenCall) (from : NodeNo) (leaf : Option Leaf) (p : Phase) → InMap P d.map → InCall P c → Each P (call_leaf p) → Each P leaf
      → CallHas P (rows.told_in d c from leaf p)
  told_in d c from leaf (Asking waiting newest m) h k q l = told_on d c (without waiting from) (rows.newest_of leaf newest) m h (newest_of leaf newest l q)
  told_in d c from leaf other h k q l = stays d c h k

  -- a notice
  lost_or_applied : (d : Desk) (c : OpenCall) (leaf : Leaf) (was : Option Bool) → InMap P d.map → CallHas P (rows.lost_or_applied d c leaf was)
  lost_or_applied d c leaf None h = replies d _ h
  lost_or_applied d c leaf (Some was) h = replies d _ h

  goes_without : (d : Desk) (c : OpenCall) (y : NodeNo) (p : Phase) → InMap P d.map → Each P (call_leaf p) → CallHas P (rows.goes_without d c y p)
  goes_without d c y (Getting leaf brick) h q = begin d c.request h
  goes_without d c y (Preparing leaf list waiting) h q = has-if _ (ask d c.request (met.Stopped y) h) (prepared_on d c leaf list (without waiting y) h q)
  goes_without d c y (Committing leaf list waiting was) h q =
      has-if _ (lost_or_applied d c leaf was h) (stays d (record c { phase = Committing leaf list (without waiting y) was }) h q)
  goes_without d c y (Aborting waiting why brick) h q = aborted_on d c (without waiting y) why brick h q
  goes_without d c y (Asking waiting newest m) h q = told_on d c (without waiting y) newest m h q

  pub call-has : (d : Desk) (c : OpenCall) (from : NodeNo) (l : Letter) → InMap P d.map → InCall P c → InLetter P l → CallHas P (call_row d c from l)
  call-has d c from (letter.Got txn a) h k m = got_in d c from a c.phase h k m
  call-has d c from (letter.Vote txn vote) h k m = vote_in d c from vote c.phase h k k m
  call-has d c from (letter.Applied txn was) h k m = applied_in d c from was c.phase h k k
  call-has d c from (letter.Aborted txn) h k m = aborted_in d c from c.phase h k k
  call-has d c from (letter.MapTell txn leaf) h k m = told_in d c from leaf c.phase h k k m
  call-has d c from letter.Notice h k m = has-if _ (goes_without d c from c.phase h k) (stays d c h k)
  call-has d c from other h k m = stays d c h k
