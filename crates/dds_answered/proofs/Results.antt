use Rattle.std.proofs.Common.{◌≡◌, ℕ, Bool, true, false, Option, Some, None, List, [], refl, sym, ap, ◌∙◌}
use Rattle.std.proofs.lemmas.Bool.{both_ways}
use Rattle.std.specs.Prelude.{if◌then◌else◌}
use Rattle.dds_attempts.proofs.Committing.{committing-goes}
use Rattle.dds_base.specs.Number.{Txn}
use Rattle.dds_base.specs.declared.leaf.Leaf.{Leaf}
use Rattle.dds_base.specs.declared.number.NodeNo.{NodeNo}
use Rattle.dds_base.specs.declared.op.Met.{Met}
use Rattle.dds_base.specs.declared.op.Reply.{Reply}
use Rattle.dds_base.specs.declared.op.Reply.TheVariants as reply
use Rattle.dds_call_rows.specs.Library.{CallTurn, aborted_in, call_concerns, goes_without, got_in, lost_or_applied, stays, told_in, vote_in}
use Rattle.dds_calls.proofs.Reasons.{begins-again}
use Rattle.dds_core.proofs.CallDoes.{Begins, CallDoes, aborts, applies, call-does, commits, done, full, gets, idles, looks, loses, prepares, reads, reads_none}
use Rattle.dds_core.proofs.CallDoes.{tries, votes, waits_aborted, waits_told}
use Rattle.dds_core.proofs.Lists.{this-one}
use Rattle.dds_core.specs.LibraryTurn.{call_row}
use Rattle.dds_letters.specs.declared.letter.Letter.{Letter}
use Rattle.dds_letters.specs.declared.letter.Letter.TheVariants as letter
use Rattle.dds_letters.specs.declared.refusal.Answer.{Answer}
use Rattle.dds_letters.specs.declared.refusal.Answer.TheVariants as answer
use Rattle.dds_letters.specs.declared.refusal.Ballot.{Ballot}
use Rattle.dds_states.specs.Turn.{is_none_left, without}
use Rattle.dds_states.specs.declared.library_state.Desk.{Desk}
use Rattle.dds_states.specs.declared.library_state.OpenCall.{OpenCall}
use Rattle.dds_states.specs.declared.library_state.Phase.{Phase}
use Rattle.dds_states.specs.declared.library_state.Phase.TheVariants as phase
use Rattle.dds_states.specs.declared.library_state.Request.{Request}
use Rattle.dds_talk.specs.Seen.{commits_now}
use Rattle.dds_world.specs.Stands.{is_result}

-- Where a call's result comes from: a get's from a Got; an update's from an Applied, or from a flag that was kept of one.

-- a call that commits has kept a flag
abbrev pub is_flagged : Phase → Bool
is_flagged (phase.Committing leaf list waiting (Some was)) = true
is_flagged other = false

-- the letter says that an update was applied, or the call had kept that before
pub data HasFlag (c : OpenCall) (l : Letter) : Type 0 where
  now : (txn : Txn) (was : Bool) → l ≡ letter.Applied txn was → HasFlag c l
  before : is_flagged c.phase ≡ true → HasFlag c l

pub data Result (c : OpenCall) (l : Letter) (r : Reply) : Type 0 where
  got_value : (txn : Txn) (value : List ℕ) → l ≡ letter.Got txn (answer.Value value) → reply.Value value ≡ r → Result c l r
  got_absent : (txn : Txn) → l ≡ letter.Got txn answer.Absent → reply.Absent ≡ r → Result c l r
  applied : commits_now c.phase ≡ true → HasFlag c l → Result c l r

pub same-reply : (a r : Reply) → Some a ≡ Some r → a ≡ r
same-reply a r e = cc

no-result : (a r : Reply) → a ≡ r → is_result a ≡ false → is_result r ≡ true → ⊥
no-result a r e f h = both_ways (is_result r) (sym (ap is_result e) ∙ f) h

-- answers of a call that commits

got-none : (d : Desk) (c : OpenCall) (from : NodeNo) (a : Answer) (p : Phase) (r : Reply) → commits_now p ≡ true
    → (got_in d c from a p).went.reply ≡ Some r → ⊥
got-none d c from a (phase.Committing leaf list waiting was) r k e = cc
got-none d c from a other r k e = cc

vote-none : (d : Desk) (c : OpenCall) (from : NodeNo) (v : Ballot) (p : Phase) (r : Reply) → commits_now p ≡ true
    → (vote_in d c from v p).went.reply ≡ Some r → ⊥
vote-none d c from v (phase.Committing leaf list waiting was) r k e = cc
vote-none d c from v other r k e = cc

aborted-none : (d : Desk) (c : OpenCall) (from : NodeNo) (p : Phase) (r : Reply) → commits_now p ≡ true
    → (aborted_in d c from p).went.reply ≡ Some r → ⊥
aborted-none d c from (phase.Committing leaf list waiting was) r k e = cc
aborted-none d c from other r k e = cc

told-none : (d : Desk) (c : OpenCall) (from : NodeNo) (leaf : Option Leaf) (p : Phase) (r : Reply) → commits_now p ≡ true
    → (told_in d c from leaf p).went.reply ≡ Some r → ⊥
told-none d c from leaf (phase.Committing l list waiting was) r k e = cc
told-none d c from leaf other r k e = cc

pub reply-if : (P : Type 0) (r : Reply) (b : Bool) (t u : CallTurn) → (t.went.reply ≡ Some r → P) → (u.went.reply ≡ Some r → P)
    → (if b then t else u).went.reply ≡ Some r → P
reply-if P r true t u f g e = f e
reply-if P r false t u f g e = g e

lost-flag : (d : Desk) (c : OpenCall) (leaf : Leaf) (list waiting : List NodeNo) (was : Option Bool) (r : Reply)
    → (lost_or_applied d c leaf was).went.reply ≡ Some r → is_result r ≡ true → is_flagged (phase.Committing leaf list waiting was) ≡ true
lost-flag d c leaf list waiting None r e h = absurd (no-result (reply.Lost leaf.name) r (same-reply (reply.Lost leaf.name) r e) refl h)
lost-flag d c leaf list waiting (Some was) r e h = refl

without-flag : (d : Desk) (c : OpenCall) (y : NodeNo) (p : Phase) (r : Reply) → commits_now p ≡ true → (goes_without d c y p).went.reply ≡ Some r
    → is_result r ≡ true → is_flagged p ≡ true
without-flag d c y (phase.Committing leaf list waiting was) r k e h =
    let left = without waiting y in
    reply-if (is_flagged (phase.Committing leaf list waiting was) ≡ true) r (is_none_left left) (lost_or_applied d c leaf was)
    (stays d [] (record c { phase = phase.Committing leaf list left was })) (λ q. lost-flag d c leaf list waiting was r q h) (λ q. cc) e
without-flag d c y other r k e h = cc

committing-flag : (d : Desk) (c : OpenCall) (from : NodeNo) (l : Letter) (r : Reply) → commits_now c.phase ≡ true
    → (call_row d c from l).went.reply ≡ Some r → is_result r ≡ true → HasFlag c l
committing-flag d c from (letter.Got txn a) r k e h = absurd (got-none d c from a c.phase r k e)
committing-flag d c from (letter.Vote txn vote) r k e h = absurd (vote-none d c from vote c.phase r k e)
committing-flag d c from (letter.Applied txn was) r k e h = now txn was refl
committing-flag d c from (letter.Aborted txn) r k e h = absurd (aborted-none d c from c.phase r k e)
committing-flag d c from (letter.MapTell txn leaf) r k e h = absurd (told-none d c from leaf c.phase r k e)
committing-flag d c from letter.Notice r k e h =
    before (reply-if (is_flagged c.phase ≡ true) r (call_concerns c.phase from) (goes_without d c from c.phase) (stays d [] c)
    (λ q. without-flag d c from c.phase r k q h) (λ q. cc) e)
committing-flag d c from other r k e h = cc

results : (d : Desk) (c : OpenCall) (from : NodeNo) (l : Letter) (t : CallTurn) (r : Reply) → CallDoes d c from l t → t.went.reply ≡ Some r
    → is_result r ≡ true → (commits_now c.phase ≡ true → HasFlag c l) → Result c l r
results d c from l _ r (reads leaf brick txn value e f) is h flag = got_value txn value f (same-reply (reply.Value value) r is)
results d c from l _ r (reads_none leaf brick txn e f) is h flag = got_absent txn f (same-reply reply.Absent r is)
results d c from l _ r (done leaf list waiting was kept e f) is h flag = let k = ap commits_now e in applied k (flag k)
results d c from l _ r (full waiting brick e) is h flag =
    absurd (no-result (reply.Full brick) r (same-reply (reply.Full brick) r is) refl h)
results d c from l _ r (loses leaf list waiting e f g) is h flag =
    absurd (no-result (reply.Lost leaf.name) r (same-reply (reply.Lost leaf.name) r is) refl h)
results d c from l _ r (tries map retries pushed ls t p b) is h flag =
    let k = begins-again (record d { map = map }) (record c.request { retries = retries; pushed = pushed }) t r b is in
    absurd (no-result (reply.Again k.0) r k.2 refl h)
results d c from l _ r other is h flag = cc

pub result : (d : Desk) (c : OpenCall) (from : NodeNo) (l : Letter) (r : Reply) → (call_row d c from l).went.reply ≡ Some r → is_result r ≡ true
    → Result c l r
result d c from l r e h = results d c from l (call_row d c from l) r (call-does d c from l) e h (λ k. committing-flag d c from l r k e h)

-- flags that are kept

quiet-flag : (p : Phase) → commits_now p ≡ false → is_flagged p ≡ true → ⊥
quiet-flag (phase.Committing leaf list waiting was) k f = cc
quiet-flag other k f = cc

abbrev Unflagged : OpenCall → Type 0
Unflagged x = is_flagged x.phase ≡ true → ⊥

-- a call that begins has no flag
pub begun-unflagged : {M : Met → Type 0} (d : Desk) (q : Request) (t : CallTurn) (x : OpenCall) → Begins M d q t → t.went.call ≡ Some x → Unflagged x
begun-unflagged d q _ x (gets leaf m ms key e f g) is = this-one Unflagged _ x is (λ h. cc)
begun-unflagged d q _ x (prepares leaf m ms e f g) is = this-one Unflagged _ x is (λ h. cc)
begun-unflagged d q _ x (looks m n ns e g) is = this-one Unflagged _ x is (λ h. cc)
begun-unflagged d q _ x other is = cc

unflagged : (d : Desk) (c : OpenCall) (from : NodeNo) (l : Letter) (t : CallTurn) (x : OpenCall) → CallDoes d c from l t → commits_now c.phase ≡ false
    → t.went.call ≡ Some x → Unflagged x
unflagged d c from l _ x idles k is = this-one Unflagged c x is (quiet-flag c.phase k)
unflagged d c from l _ x (tries map retries pushed ls t p b) k is =
    begun-unflagged (record d { map = map }) (record c.request { retries = retries; pushed = pushed }) t x b is
unflagged d c from l _ x (votes leaf list waiting e f g) k is = this-one Unflagged _ x is (λ h. cc)
unflagged d c from l _ x (commits leaf list waiting e f g) k is = this-one Unflagged _ x is (λ h. cc)
unflagged d c from l _ x (aborts leaf list waiting txn why e f g) k is = this-one Unflagged _ x is (λ h. cc)
unflagged d c from l _ x (applies leaf list waiting was next e f) k is = absurd (both_ways (commits_now c.phase) k (ap commits_now e))
unflagged d c from l _ x (waits_aborted waiting why brick e f) k is = this-one Unflagged _ x is (λ h. cc)
unflagged d c from l _ x (waits_told waiting newest next m e f) k is = this-one Unflagged _ x is (λ h. cc)
unflagged d c from l _ x other k is = cc

same-flag : (c x : OpenCall) → Some c ≡ Some x → is_flagged x.phase ≡ true → is_flagged c.phase ≡ true
same-flag c x e f = let is : c ≡ x = cc in ap (λ (y : OpenCall). is_flagged y.phase) is ∙ f

got-kept : (d : Desk) (c x : OpenCall) (from : NodeNo) (a : Answer) (p : Phase) → commits_now p ≡ true → (got_in d c from a p).went.call ≡ Some x
    → is_flagged x.phase ≡ true → is_flagged c.phase ≡ true
got-kept d c x from a (phase.Committing leaf list waiting was) k e f = same-flag c x e f
got-kept d c x from a other k e f = cc

vote-kept : (d : Desk) (c x : OpenCall) (from : NodeNo) (v : Ballot) (p : Phase) → commits_now p ≡ true → (vote_in d c from v p).went.call ≡ Some x
    → is_flagged x.phase ≡ true → is_flagged c.phase ≡ true
vote-kept d c x from v (phase.Committing leaf list waiting was) k e f = same-flag c x e f
vote-kept d c x from v other k e f = cc

aborted-kept : (d : Desk) (c x : OpenCall) (from : NodeNo) (p : Phase) → commits_now p ≡ true → (aborted_in d c from p).went.call ≡ Some x
    → is_flagged x.phase ≡ true → is_flagged c.phase ≡ true
aborted-kept d c x from (phase.Committing leaf list waiting was) k e f = same-flag c x e f
aborted-kept d c x from other k e f = cc

told-kept : (d : Desk) (c x : OpenCall) (from : NodeNo) (leaf : Option Leaf) (p : Phase) → commits_now p ≡ true
    → (told_in d c from leaf p).went.call ≡ Some x → is_flagged x.phase ≡ true → is_flagged c.phase ≡ true
told-kept d c x from leaf (phase.Committing l list waiting was) k e f = same-flag c x e f
told-kept d c x from leaf other k e f = cc

call-if : (P : Type 0) (x : OpenCall) (b : Bool) (t u : CallTurn) → (t.went.call ≡ Some x → P) → (u.went.call ≡ Some x → P)
    → (if b then t else u).went.call ≡ Some x → P
call-if P x true t u f g e = f e
call-if P x false t u f g e = g e

lost-ends : (P : Type 0) (d : Desk) (c x : OpenCall) (leaf : Leaf) (was : Option Bool) → (lost_or_applied d c leaf was).went.call ≡ Some x → P
lost-ends P d c x leaf None e = cc
lost-ends P d c x leaf (Some was) e = cc

waits-kept : (leaf : Leaf) (list waiting left : List NodeNo) (was : Option Bool) → is_flagged (phase.Committing leaf list left was) ≡ true
    → is_flagged (phase.Committing leaf list waiting was) ≡ true
waits-kept leaf list waiting left None f = cc
waits-kept leaf list waiting left (Some was) f = refl

without-kept : (d : Desk) (c x : OpenCall) (y : NodeNo) (p : Phase) → commits_now p ≡ true → (goes_without d c y p).went.call ≡ Some x
    → is_flagged x.phase ≡ true → is_flagged p ≡ true
without-kept d c x y (phase.Committing leaf list waiting was) k e f =
    let left = without waiting y in
    let p = phase.Committing leaf list waiting was in
    let onward = record c { phase = phase.Committing leaf list left was } in
    call-if (is_flagged p ≡ true) x (is_none_left left) (lost_or_applied d c leaf was) (stays d [] onward)
    (λ q. lost-ends (is_flagged p ≡ true) d c x leaf was q) (λ q. waits-kept leaf list waiting left was (same-flag onward x q f)) e
without-kept d c x y other k e f = cc

committing-kept : (d : Desk) (c x : OpenCall) (from : NodeNo) (l : Letter) → commits_now c.phase ≡ true → (call_row d c from l).went.call ≡ Some x
    → is_flagged x.phase ≡ true → HasFlag c l
committing-kept d c x from (letter.Got txn a) k e f = before (got-kept d c x from a c.phase k e f)
committing-kept d c x from (letter.Vote txn vote) k e f = before (vote-kept d c x from vote c.phase k e f)
committing-kept d c x from (letter.Applied txn was) k e f = now txn was refl
committing-kept d c x from (letter.Aborted txn) k e f = before (aborted-kept d c x from c.phase k e f)
committing-kept d c x from (letter.MapTell txn leaf) k e f = before (told-kept d c x from leaf c.phase k e f)
committing-kept d c x from letter.Notice k e f =
    before (call-if (is_flagged c.phase ≡ true) x (call_concerns c.phase from) (goes_without d c from c.phase) (stays d [] c)
    (λ q. without-kept d c x from c.phase k q f) (λ q. same-flag c x q f) e)
committing-kept d c x from other k e f = before (same-flag c x e f)

pub record Flagged (c x : OpenCall) (l : Letter) : Type 0 where
  pub txn_is : x.txn ≡ c.txn
  pub flag : HasFlag c l

pub flagged : (d : Desk) (c x : OpenCall) (from : NodeNo) (l : Letter) → (call_row d c from l).went.call ≡ Some x → is_flagged x.phase ≡ true
    → Flagged c x l
flagged d c x from l e f = by (commits_now c.phase) refl
  where
    by : (b : Bool) → commits_now c.phase ≡ b → Flagged c x l
    by true k = record { txn_is = (committing-goes d c from l k x e).txn_is; flag = committing-kept d c x from l k e f }
    by false k = absurd (unflagged d c from l (call_row d c from l) x (call-does d c from l) k e f)
