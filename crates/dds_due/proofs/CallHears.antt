use Rattle.std.proofs.Common.{◌≡◌, ℕ, ◌≤◌, ◌⊎◌, inl, inr, ◌==◌, ◌&&◌, Bool, true, false, not, Option, Some, None, List, [], ◌∷◌, refl, sym, ap, ◌∙◌, arith}
use Rattle.std.proofs.lemmas.Bool.{both_ways, eq-eqb}
use Rattle.std.specs.Prelude.{if◌then◌else◌}
use Rattle.dds_base.specs.BrickList.{has}
use Rattle.dds_base.specs.Number.{Txn}
use Rattle.dds_base.specs.Op.{the_key}
use Rattle.dds_base.specs.declared.leaf.Leaf.{Leaf}
use Rattle.dds_base.specs.declared.number.NodeNo.{NodeNo}
use Rattle.dds_base.specs.declared.op.Met.{Met}
use Rattle.dds_base.specs.declared.op.Met.TheVariants as met
use Rattle.dds_base.specs.declared.op.Reply.{Reply}
use Rattle.dds_call_rows.specs.Library as rows
use Rattle.dds_call_rows.specs.Library.{CallTurn, call_concerns}
use Rattle.dds_core.proofs.CallAttempts.{IsFresh, begun}
use Rattle.dds_core.proofs.CallDoes.{new-begins}
use Rattle.dds_core.proofs.Lists.{this-one}
use Rattle.dds_core.specs.LibraryTurn.{attempt_of, call_row}
use Rattle.dds_groups.specs.Leaves.{newer}
use Rattle.dds_letters.specs.declared.letter.Letter.{Letter}
use Rattle.dds_letters.specs.declared.letter.Letter.TheVariants as letter
use Rattle.dds_letters.specs.declared.refusal.Answer.{Answer}
use Rattle.dds_letters.specs.declared.refusal.Answer.TheVariants as answer
use Rattle.dds_letters.specs.declared.refusal.Ballot.{Ballot}
use Rattle.dds_letters.specs.declared.refusal.Ballot.TheVariants as ballot
use Rattle.dds_letters.specs.declared.refusal.Denial.{Denial}
use Rattle.dds_letters.specs.declared.refusal.Denial.TheVariants as denial
use Rattle.dds_letters.specs.declared.refusal.Refusal.{Refusal}
use Rattle.dds_letters.specs.declared.refusal.Refusal.TheVariants as refusal
use Rattle.dds_states.specs.Leaf.{leaf_for}
use Rattle.dds_states.specs.Turn.{is_none_left, unknown, without}
use Rattle.dds_states.specs.declared.library_state.Desk.{Desk}
use Rattle.dds_states.specs.declared.library_state.OpenCall.{OpenCall}
use Rattle.dds_states.specs.declared.library_state.Phase.{Phase}
use Rattle.dds_states.specs.declared.library_state.Phase.TheVariants.{Getting, Preparing, Committing, Aborting, Asking}
use Rattle.dds_states.specs.declared.library_state.Request.{Request}
use Rattle.dds_talk.proofs.Letters.{has-without}
use Rattle.dds_talk.specs.Seen.{commits_now}
use Rattle.dds_due.specs.Due.{is_of, told_in}

-- A call that has heard what it waited for from a brick waits for it no more, or has a new attempt.

-- it waits for no such letter from the brick
abbrev pub WaitsForOther : NodeNo → Letter → OpenCall → Type 0
WaitsForOther from l x = call_concerns x.phase from ≡ true → commits_now x.phase ≡ false → is_of x.txn (told_in x.phase l) ≡ false

pub data Heard (next : ℕ) (from : NodeNo) (l : Letter) (x : OpenCall) : Type 0 where
  is_new : next ≤ x.txn.number → Heard next from l x
  waits_for_other : WaitsForOther from l x → Heard next from l x

pub record Hears (d : Desk) (from : NodeNo) (l : Letter) (t : CallTurn) : Type 0 where
  pub each : (x : OpenCall) → t.went.call ≡ Some x → Heard d.numbers.next from l x

module _ {from : NodeNo} {l : Letter} where
  either : {d : Desk} (b : Bool) {t u : CallTurn} → Hears d from l t → Hears d from l u → Hears d from l (if b then t else u)
  either true h k = h
  either false h k = k

  when : {d : Desk} (b : Bool) {t u : CallTurn} → (b ≡ true → Hears d from l t) → (b ≡ false → Hears d from l u) → Hears d from l (if b then t else u)
  when true h k = h refl
  when false h k = k refl

  replies : (d : Desk) (r : Reply) → Hears d from l (rows.replies d r)
  replies d r = record { each = λ x e. cc }

  -- a new attempt
  begins : (d : Desk) (r : Request) → Hears d from l (rows.begin d r)
  begins d r = record { each = λ x e. by ((begun {old = None} d r (rows.begin d r) (new-begins d r)).stays x e).attempt }
    where
      by : {x : OpenCall} → (None ≡ Some x.txn) ⊎ IsFresh d.numbers (rows.begin d r).desk.numbers.next x.txn
          → Heard d.numbers.next from l x
      by (inl e) = cc
      by (inr f) = is_new f.from

  asks : (d : Desk) (r : Request) (m : Met) (ns : List NodeNo) → Hears d from l (rows.asks d r m ns)
  asks d r m [] = record { each = λ x e. cc }
  asks d r m (n ∷ ns) =
      record {
        each = λ x e. this-one (Heard d.numbers.next from l)
            (record { request = rows.retried r; txn = rows.next_txn d; phase = Asking (n ∷ ns) None m }) x e (is_new (omega arith));
      }

  ask : (d : Desk) (r : Request) (m : Met) → Hears d from l (rows.ask d r m)
  ask d r m = either _ (replies d _) (asks d r m (rows.live_bricks d))

  adopts : (d : Desk) (r : Request) (leaf : Leaf) → Hears d from l (rows.begin (rows.adopts d leaf) r)
  adopts d r leaf = let h = begins (rows.adopts d leaf) r in record { each = h.each }

  repairs : (d : Desk) (r : Request) (to : NodeNo) (theirs : Leaf) (o : Option Leaf) → Hears d from l (rows.repairs d r to theirs o)
  repairs d r to theirs None = adopts d r theirs
  repairs d r to theirs (Some mine) =
      let push = begins d (record r { pushed = true }) in
      either (newer mine theirs && not r.pushed)
      {t = rows.behind ((to, letter.Push mine) ∷ []) (rows.begin d (record r { pushed = true }))} (record { each = push.each })
      (either _ (begins d r) (adopts d r theirs))

  stale : (d : Desk) (r : Request) (to : NodeNo) (o : Option Leaf) → Hears d from l (rows.stale d r to o)
  stale d r to None = ask d r (met.Stale to)
  stale d r to (Some theirs) = either _ (replies d _) (repairs d (rows.retried r) to theirs (leaf_for d.map (the_key r.op)))

  refused : (d : Desk) (r : Request) (to : NodeNo) (why : Refusal) → Hears d from l (rows.refused d r to why)
  refused d r to refusal.Lease = replies d _
  refused d r to refusal.Lock = replies d _
  refused d r to (refusal.Stale leaf) = stale d r to leaf

  denied : (d : Desk) (r : Request) (to : NodeNo) (why : Denial) → Hears d from l (rows.denied d r to why)
  denied d r to (denial.Refused why) = refused d r to why
  denied d r to denial.Full = replies d _

  told_all : (d : Desk) (r : Request) (o : Option Leaf) (m : Met) → Hears d from l (rows.told_all d r o m)
  told_all d r None m = replies d _
  told_all d r (Some leaf) m = adopts d r leaf

  -- the call as it was
  stays : (d : Desk) (ls : List (NodeNo × Letter)) (c : OpenCall) → WaitsForOther from l c → Hears d from l (rows.stays d ls c)
  stays d ls c h = record { each = λ x e. this-one (Heard d.numbers.next from l) c x e (waits_for_other h) }

none-of : (xs : List ℕ) (n : ℕ) → has (without xs n) n ≡ false
none-of xs n = has-without xs n n ∙ and-false (has xs n) (not (n == n)) (ap not (eq-eqb n n refl))
  where
    and-false : (a b : Bool) → b ≡ false → (a && b) ≡ false
    and-false true b e = e
    and-false false b e = refl

-- the phase takes no such letter
abbrev Untold : Phase → Letter → Type 0
Untold p l = told_in p l ≡ None

untold : (from : NodeNo) (l : Letter) (c : OpenCall) (p : Phase) → c.phase ≡ p → Untold p l → WaitsForOther from l c
untold from l c p e h waits going = ap (λ q. is_of c.txn (told_in q l)) e ∙ ap (is_of c.txn) h

not-waited : (from : NodeNo) (l : Letter) (c : OpenCall) (p : Phase) → c.phase ≡ p → call_concerns p from ≡ false → WaitsForOther from l c
not-waited from l c p e h waits going = absurd (both_ways (call_concerns p from) h (ap (λ q. call_concerns q from) (sym e) ∙ waits))

got_in : (d : Desk) (c : OpenCall) (from : NodeNo) (txn : Txn) (a : Answer) (p : Phase) → c.phase ≡ p
    → Hears d from (letter.Got txn a) (rows.got_in d c from a p)
got_in d c from txn answer.Absent (Getting leaf brick) e = replies d _
got_in d c from txn (answer.Value value) (Getting leaf brick) e = replies d _
got_in d c from txn (answer.Refused why) (Getting leaf brick) e = refused d c.request from why
got_in d c from txn a other e = stays d [] c (untold from (letter.Got txn a) c other e refl)

vote_counted : (d : Desk) (c : OpenCall) (from : NodeNo) (txn : Txn) (v : Ballot) (leaf : Leaf) (list waiting : List NodeNo)
    → Hears d from (letter.Vote txn v) (rows.vote_counted d c leaf list waiting from v)
vote_counted d c from txn ballot.Yes leaf list waiting =
    let left = without waiting from in
    let l = letter.Vote txn ballot.Yes in
    either (is_none_left left) (stays d _ (record c { phase = Committing leaf list (unknown list d.known) None }) (λ waits going. cc))
    (stays d [] (record c { phase = Preparing leaf list left })
    (not-waited from l (record c { phase = Preparing leaf list left }) (Preparing leaf list left) refl (none-of waiting from)))
vote_counted d c from txn (ballot.No why) leaf list waiting =
    let p = Aborting (unknown list d.known) why from in
    stays d _ (record c { phase = p }) (untold from (letter.Vote txn (ballot.No why)) (record c { phase = p }) p refl refl)

vote_in : (d : Desk) (c : OpenCall) (from : NodeNo) (txn : Txn) (v : Ballot) (p : Phase) → c.phase ≡ p
    → Hears d from (letter.Vote txn v) (rows.vote_in d c from v p)
vote_in d c from txn v (Preparing leaf list waiting) e =
    when (has waiting from) (λ h. vote_counted d c from txn v leaf list waiting)
    (λ h. stays d [] c (not-waited from (letter.Vote txn v) c (Preparing leaf list waiting) e h))
vote_in d c from txn v other e = stays d [] c (untold from (letter.Vote txn v) c other e refl)

applied_on : (d : Desk) (c : OpenCall) (from : NodeNo) (l : Letter) (leaf : Leaf) (list waiting : List NodeNo) (was : Bool)
    → Hears d from l (rows.applied_on d c leaf list waiting was)
applied_on d c from l leaf list waiting was =
    either _ (replies d _) (stays d [] (record c { phase = Committing leaf list waiting (Some was) }) (λ waits going. cc))

applied_in : (d : Desk) (c : OpenCall) (from : NodeNo) (txn : Txn) (flag : Bool) (p : Phase) → c.phase ≡ p
    → Hears d from (letter.Applied txn flag) (rows.applied_in d c from flag p)
applied_in d c from txn flag (Committing leaf list waiting was) e =
    applied_on d c from (letter.Applied txn flag) leaf list (without waiting from) (rows.first_flag was flag)
applied_in d c from txn flag other e = stays d [] c (untold from (letter.Applied txn flag) c other e refl)

aborted_in : (d : Desk) (c : OpenCall) (from : NodeNo) (txn : Txn) (p : Phase) → c.phase ≡ p
    → Hears d from (letter.Aborted txn) (rows.aborted_in d c from p)
aborted_in d c from txn (Aborting waiting why brick) e =
    let p = Aborting (without waiting from) why brick in
    either _ (denied d c.request brick why)
    (stays d [] (record c { phase = p }) (not-waited from (letter.Aborted txn) (record c { phase = p }) p refl (none-of waiting from)))
aborted_in d c from txn other e = stays d [] c (untold from (letter.Aborted txn) c other e refl)

told_in_phase : (d : Desk) (c : OpenCall) (from : NodeNo) (txn : Txn) (leaf : Option Leaf) (p : Phase) → c.phase ≡ p
    → Hears d from (letter.MapTell txn leaf) (rows.told_in d c from leaf p)
told_in_phase d c from txn leaf (Asking waiting newest m) e =
    let kept = rows.newest_of leaf newest in
    let p = Asking (without waiting from) kept m in
    either _ (told_all d c.request kept m)
    (stays d [] (record c { phase = p }) (not-waited from (letter.MapTell txn leaf) (record c { phase = p }) p refl (none-of waiting from)))
told_in_phase d c from txn leaf other e = stays d [] c (untold from (letter.MapTell txn leaf) c other e refl)

-- what a phase waits for is of the letter's attempt
pub told-attempt : (p : Phase) (l : Letter) (t : Txn) → told_in p l ≡ Some t → attempt_of l ≡ Some t
told-attempt (Getting leaf brick) (letter.Got txn a) t e = e
told-attempt (Preparing leaf list waiting) (letter.Vote txn vote) t e = e
told-attempt (Committing leaf list waiting was) (letter.Applied txn flag) t e = e
told-attempt (Aborting waiting why brick) (letter.Aborted txn) t e = e
told-attempt (Asking waiting newest m) (letter.MapTell txn leaf) t e = e
told-attempt p other t e = cc

pub row-hears : (d : Desk) (c : OpenCall) (from : NodeNo) (l : Letter) (t : Txn) → attempt_of l ≡ Some t
    → Hears d from l (call_row d c from l)
row-hears d c from (letter.Got txn a) t e = got_in d c from txn a c.phase refl
row-hears d c from (letter.Vote txn vote) t e = vote_in d c from txn vote c.phase refl
row-hears d c from (letter.Applied txn was) t e = applied_in d c from txn was c.phase refl
row-hears d c from (letter.Aborted txn) t e = aborted_in d c from txn c.phase refl
row-hears d c from (letter.MapTell txn leaf) t e = told_in_phase d c from txn leaf c.phase refl
row-hears d c from other t e = cc
