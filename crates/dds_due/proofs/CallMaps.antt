use Rattle.std.proofs.Common.{◌≡◌, ℕ, ◌&&◌, Bool, true, false, not, Option, Some, None, List, [], ◌∷◌, refl, sym, ap, ◌∙◌}
use Rattle.std.specs.Prelude.{is_some, if◌then◌else◌}
use Rattle.dds_base.specs.Op.{the_key}
use Rattle.dds_base.specs.declared.leaf.Leaf.{Leaf}
use Rattle.dds_base.specs.declared.number.NodeNo.{NodeNo}
use Rattle.dds_base.specs.declared.op.Met.{Met}
use Rattle.dds_base.specs.declared.op.Met.TheVariants as met
use Rattle.dds_base.specs.declared.op.Op.{Op}
use Rattle.dds_base.specs.declared.op.Op.TheVariants as op
use Rattle.dds_base.specs.declared.op.Reply.{Reply}
use Rattle.dds_call_rows.specs.Library as rows
use Rattle.dds_call_rows.specs.Library.{CallTurn}
use Rattle.dds_core.proofs.CallDoes.{Begins, CallDoes, aborts, alone, applies, call-does, commits, done, full, gets, gives_up, idles, looks, loses}
use Rattle.dds_core.proofs.CallDoes.{no_leaf, prepares, reads, reads_none, tries, votes, waits_aborted, waits_told}
use Rattle.dds_core.specs.LibraryTurn.{call_row}
use Rattle.dds_groups.specs.Leaves.{newer}
use Rattle.dds_letters.specs.declared.letter.Letter.{Letter}
use Rattle.dds_letters.specs.declared.letter.Letter.TheVariants as letter
use Rattle.dds_letters.specs.declared.refusal.Answer.{Answer}
use Rattle.dds_letters.specs.declared.refusal.Answer.TheVariants as answer
use Rattle.dds_letters.specs.declared.refusal.Ballot.{Ballot}
use Rattle.dds_letters.specs.declared.refusal.Ballot.TheVariants as ballot
use Rattle.dds_letters.specs.declared.refusal.Denial.{Denial}
use Rattle.dds_letters.specs.declared.refusal.Denial.TheVariants as denial
use Rattle.dds_letters.specs.declared.refusal.Refusal.{Refusal}
use Rattle.dds_letters.specs.declared.refusal.Refusal.TheVariants as refusal
use Rattle.dds_states.specs.Leaf.{leaf_for}
use Rattle.dds_states.specs.Turn.{without}
use Rattle.dds_states.specs.declared.library_state.Desk.{Desk}
use Rattle.dds_states.specs.declared.library_state.OpenCall.{OpenCall}
use Rattle.dds_states.specs.declared.library_state.Phase.{Phase}
use Rattle.dds_states.specs.declared.library_state.Phase.TheVariants.{Getting, Preparing, Committing, Aborting, Asking}
use Rattle.dds_states.specs.declared.library_state.Request.{Request}
use Rattle.dds_trie.specs.Trie.{LeafMap}
use Rattle.dds_due.proofs.Maps.{put-finds}
use Rattle.dds_due.specs.Opened.{FindsAll}

-- One call's turn leaves a map with a leaf for each key; so the call goes on, or is answered.

pub record Finds (t : CallTurn) : Type 0 where
  pub map : FindsAll t.desk.map

either : (b : Bool) {t u : CallTurn} → Finds t → Finds u → Finds (if b then t else u)
either true h k = h
either false h k = k

asks : (d : Desk) (r : Request) (m : Met) (ns : List NodeNo) → FindsAll d.map → Finds (rows.asks d r m ns)
asks d r m [] h = record { map = h }
asks d r m (n ∷ ns) h = record { map = h }

ask : (d : Desk) (r : Request) (m : Met) → FindsAll d.map → Finds (rows.ask d r m)
ask d r m h = either _ (record { map = h }) (asks d r m (rows.live_bricks d) h)

attempt_begins : (d : Desk) (r : Request) (leaf : Leaf) (ms : List NodeNo) (o : Op) → FindsAll d.map → Finds (rows.attempt_begins d r leaf ms o)
attempt_begins d r leaf ms (op.Get key) h = record { map = h }
attempt_begins d r leaf ms (op.Put key value) h = record { map = h }
attempt_begins d r leaf ms (op.Remove key) h = record { map = h }
attempt_begins d r leaf ms (op.Swap key expected value) h = record { map = h }

begins_with : (d : Desk) (r : Request) (leaf : Leaf) (ms : List NodeNo) → FindsAll d.map → Finds (rows.begins_with d r leaf ms)
begins_with d r leaf [] h = ask d r _ h
begins_with d r leaf (m ∷ ms) h = attempt_begins d r leaf (m ∷ ms) r.op h

begins_at : (d : Desk) (r : Request) (o : Option Leaf) → FindsAll d.map → Finds (rows.begins_at d r o)
begins_at d r None h = record { map = h }
begins_at d r (Some leaf) h = begins_with d r leaf _ h

pub begin-finds : (d : Desk) (r : Request) → FindsAll d.map → Finds (rows.begin d r)
begin-finds d r h = begins_at d r (leaf_for d.map (the_key r.op)) h

adopts : (d : Desk) (r : Request) (leaf : Leaf) → FindsAll d.map → Finds (rows.begin (rows.adopts d leaf) r)
adopts d r leaf h = begin-finds (rows.adopts d leaf) r (put-finds d.map leaf h)

told_all : (d : Desk) (r : Request) (o : Option Leaf) (m : Met) → FindsAll d.map → Finds (rows.told_all d r o m)
told_all d r None m h = record { map = h }
told_all d r (Some leaf) m h = adopts d r leaf h

repairs : (d : Desk) (r : Request) (from : NodeNo) (theirs : Leaf) (o : Option Leaf) → FindsAll d.map → Finds (rows.repairs d r from theirs o)
repairs d r from theirs None h = adopts d r theirs h
repairs d r from theirs (Some mine) h =
    let push = begin-finds d (record r { pushed = true }) h in
    either (newer mine theirs && not r.pushed)
    {t = rows.behind ((from, letter.Push mine) ∷ []) (rows.begin d (record r { pushed = true }))} (record { map = push.map })
    (either _ (begin-finds d r h) (adopts d r theirs h))

stale : (d : Desk) (r : Request) (from : NodeNo) (o : Option Leaf) → FindsAll d.map → Finds (rows.stale d r from o)
stale d r from None h = ask d r (met.Stale from) h
stale d r from (Some theirs) h = either _ (record { map = h }) (repairs d (rows.retried r) from theirs (leaf_for d.map (the_key r.op)) h)

refused : (d : Desk) (r : Request) (from : NodeNo) (why : Refusal) → FindsAll d.map → Finds (rows.refused d r from why)
refused d r from refusal.Lease h = record { map = h }
refused d r from refusal.Lock h = record { map = h }
refused d r from (refusal.Stale leaf) h = stale d r from leaf h

denied : (d : Desk) (r : Request) (from : NodeNo) (why : Denial) → FindsAll d.map → Finds (rows.denied d r from why)
denied d r from (denial.Refused why) h = refused d r from why h
denied d r from denial.Full h = record { map = h }

got_in : (d : Desk) (c : OpenCall) (from : NodeNo) (a : Answer) (p : Phase) → FindsAll d.map → Finds (rows.got_in d c from a p)
got_in d c from answer.Absent (Getting leaf brick) h = record { map = h }
got_in d c from (answer.Value value) (Getting leaf brick) h = record { map = h }
got_in d c from (answer.Refused why) (Getting leaf brick) h = refused d c.request from why h
got_in d c from a other h = record { map = h }

prepared_on : (d : Desk) (c : OpenCall) (leaf : Leaf) (list waiting : List NodeNo) → FindsAll d.map → Finds (rows.prepared_on d c leaf list waiting)
prepared_on d c leaf list waiting h = either _ (record { map = h }) (record { map = h })

vote_counted : (d : Desk) (c : OpenCall) (leaf : Leaf) (list waiting : List NodeNo) (from : NodeNo) (v : Ballot) → FindsAll d.map
    → Finds (rows.vote_counted d c leaf list waiting from v)
vote_counted d c leaf list waiting from ballot.Yes h = prepared_on d c leaf list (without waiting from) h
vote_counted d c leaf list waiting from (ballot.No why) h = record { map = h }

vote_in : (d : Desk) (c : OpenCall) (from : NodeNo) (v : Ballot) (p : Phase) → FindsAll d.map → Finds (rows.vote_in d c from v p)
vote_in d c from v (Preparing leaf list waiting) h = either _ (vote_counted d c leaf list waiting from v h) (record { map = h })
vote_in d c from v other h = record { map = h }

applied_in : (d : Desk) (c : OpenCall) (from : NodeNo) (flag : Bool) (p : Phase) → FindsAll d.map → Finds (rows.applied_in d c from flag p)
applied_in d c from flag (Committing leaf list waiting was) h = either _ (record { map = h }) (record { map = h })
applied_in d c from flag other h = record { map = h }

aborted_on : (d : Desk) (c : OpenCall) (waiting : List NodeNo) (why : Denial) (brick : NodeNo) → FindsAll d.map
    → Finds (rows.aborted_on d c waiting why brick)
aborted_on d c waiting why brick h = either _ (denied d c.request brick why h) (record { map = h })

aborted_in : (d : Desk) (c : OpenCall) (from : NodeNo) (p : Phase) → FindsAll d.map → Finds (rows.aborted_in d c from p)
aborted_in d c from (Aborting waiting why brick) h = aborted_on d c (without waiting from) why brick h
aborted_in d c from other h = record { map = h }

told_on : (d : Desk) (c : OpenCall) (waiting : List NodeNo) (newest : Option Leaf) (m : Met) → FindsAll d.map → Finds (rows.told_on d c waiting newest m)
told_on d c waiting newest m h = either _ (told_all d c.request newest m h) (record { map = h })

told_in : (d : Desk) (c : OpenCall) (from : NodeNo) (leaf : Option Leaf) (p : Phase) → FindsAll d.map → Finds (rows.told_in d c from leaf p)
told_in d c from leaf (Asking waiting newest m) h = told_on d c (without waiting from) (rows.newest_of leaf newest) m h
told_in d c from leaf other h = record { map = h }

lost_or_applied : (d : Desk) (c : OpenCall) (leaf : Leaf) (was : Option Bool) → FindsAll d.map → Finds (rows.lost_or_applied d c leaf was)
lost_or_applied d c leaf None h = record { map = h }
lost_or_applied d c leaf (Some was) h = record { map = h }

goes_without : (d : Desk) (c : OpenCall) (y : NodeNo) (p : Phase) → FindsAll d.map → Finds (rows.goes_without d c y p)
goes_without d c y (Getting leaf brick) h = begin-finds d c.request h
goes_without d c y (Preparing leaf list waiting) h = either _ (ask d c.request (met.Stopped y) h) (prepared_on d c leaf list (without waiting y) h)
goes_without d c y (Committing leaf list waiting was) h = either _ (lost_or_applied d c leaf was h) (record { map = h })
goes_without d c y (Aborting waiting why brick) h = aborted_on d c (without waiting y) why brick h
goes_without d c y (Asking waiting newest m) h = told_on d c (without waiting y) newest m h

pub row-finds : (d : Desk) (c : OpenCall) (from : NodeNo) (l : Letter) → FindsAll d.map → Finds (call_row d c from l)
row-finds d c from (letter.Got txn a) h = got_in d c from a c.phase h
row-finds d c from (letter.Vote txn vote) h = vote_in d c from vote c.phase h
row-finds d c from (letter.Applied txn was) h = applied_in d c from was c.phase h
row-finds d c from (letter.Aborted txn) h = aborted_in d c from c.phase h
row-finds d c from (letter.MapTell txn leaf) h = told_in d c from leaf c.phase h
row-finds d c from letter.Notice h = either _ (goes_without d c from c.phase h) (record { map = h })
row-finds d c from other h = record { map = h }

-- the call stays open, or is answered
pub data GoesOn (t : CallTurn) : Type 0 where
  stays_open : (x : OpenCall) → t.went.call ≡ Some x → GoesOn t
  is_answered : (r : Reply) → t.went.reply ≡ Some r → GoesOn t

none-found : (m : LeafMap) (key : ℕ) → leaf_for m key ≡ None → FindsAll m → ⊥
none-found m key e h = let no : false ≡ true = ap is_some (sym e) ∙ h key in cc

pub begins-on : {M : Met → Type 0} {d : Desk} {r : Request} (t : CallTurn) → Begins M d r t → Finds t → GoesOn t
begins-on t (gets leaf m ms key e f g) h = stays_open _ refl
begins-on t (prepares leaf m ms e f g) h = stays_open _ refl
begins-on t (looks m n ns e k) h = stays_open _ refl
begins-on t (alone m e k) h = is_answered _ refl
begins-on t (gives_up m k) h = is_answered _ refl
begins-on {d = d} {r = r} t (no_leaf e) h = absurd (none-found d.map (the_key r.op) e h.map)

does-on : {d : Desk} {c : OpenCall} {from : NodeNo} {l : Letter} (t : CallTurn) → CallDoes d c from l t → Finds t → GoesOn t
does-on t (tries map retries pushed ls u k b) h = behind ls u (begins-on u b (record { map = h.map }))
  where
    behind : (ls : List (NodeNo × Letter)) (u : CallTurn) → GoesOn u → GoesOn (rows.behind ls u)
    behind ls u (stays_open x e) = stays_open x e
    behind ls u (is_answered r e) = is_answered r e
does-on t idles h = stays_open _ refl
does-on t (votes leaf list waiting e f g) h = stays_open _ refl
does-on t (commits leaf list waiting e f g) h = stays_open _ refl
does-on t (aborts leaf list waiting txn why e f g) h = stays_open _ refl
does-on t (applies leaf list waiting was next e f) h = stays_open _ refl
does-on t (waits_aborted waiting why brick e f) h = stays_open _ refl
does-on t (waits_told waiting newest next m e f) h = stays_open _ refl
does-on t (reads leaf brick txn value e f) h = is_answered _ refl
does-on t (reads_none leaf brick txn e f) h = is_answered _ refl
does-on t (full waiting brick e) h = is_answered _ refl
does-on t (done leaf list waiting was flag e f) h = is_answered _ refl
does-on t (loses leaf list waiting e f g) h = is_answered _ refl

pub row-on : (d : Desk) (c : OpenCall) (from : NodeNo) (l : Letter) → FindsAll d.map → GoesOn (call_row d c from l)
row-on d c from l h = does-on (call_row d c from l) (call-does d c from l) (row-finds d c from l h)
