use Rattle.std.proofs.Common.{◌≡◌, ℕ, Bool, true, false, Option, Some, None, refl, sym, ap, ◌∙◌, subst}
use Rattle.std.proofs.lemmas.Bool.{both_ways}
use Rattle.std.specs.List.{AllByRecursion, remove}
use Rattle.std.specs.Prelude.{slice_get, if◌then◌else◌}
use Rattle.dds_attempts.proofs.Committing.{committing-goes}
use Rattle.dds_attempts.proofs.Turns.{all-from}
use Rattle.dds_base.specs.Number.{Txn}
use Rattle.dds_base.specs.declared.leaf.Leaf.{Leaf}
use Rattle.dds_base.specs.declared.number.CallNo.{CallNo}
use Rattle.dds_base.specs.declared.number.NodeNo.{NodeNo}
use Rattle.dds_base.specs.declared.op.Op.{Op}
use Rattle.dds_base.specs.declared.op.Op.TheVariants as op
use Rattle.dds_base.specs.declared.op.Reply.{Reply}
use Rattle.dds_books.proofs.Continues.{Continues, anew, does-entered, goes_on}
use Rattle.dds_books.proofs.Turns.{back-with}
use Rattle.dds_call_rows.specs.Library.{CallTurn, aborted_in, applied_in, call_concerns, first_flag, goes_without, got_in, lost_or_applied, told_in, vote_in}
use Rattle.dds_core.proofs.CallDoes.{call-does}
use Rattle.dds_core.proofs.CallTurns.{OneKeeps, heard, library-keeps}
use Rattle.dds_core.proofs.Lists.{all-append, all-is, all-taken}
use Rattle.dds_core.specs.LibraryTurn.{call_row, desk_of, live_library_turn, replies_of}
use Rattle.dds_history.specs.Map.{reply_with}
use Rattle.dds_letters.specs.declared.letter.Letter.{Letter}
use Rattle.dds_letters.specs.declared.letter.Letter.TheVariants as letter
use Rattle.dds_letters.specs.declared.refusal.Answer.{Answer}
use Rattle.dds_letters.specs.declared.refusal.Ballot.{Ballot}
use Rattle.dds_once.proofs.Shut.{ReplySays}
use Rattle.dds_states.specs.Turn.{is_none_left, without}
use Rattle.dds_states.specs.declared.library_state.Desk.{Desk}
use Rattle.dds_states.specs.declared.library_state.LibraryState.{LibraryState}
use Rattle.dds_states.specs.declared.library_state.OpenCall.{OpenCall}
use Rattle.dds_states.specs.declared.library_state.Phase.{Phase}
use Rattle.dds_states.specs.declared.library_state.Phase.TheVariants as phase
use Rattle.dds_states.specs.declared.library_state.Request.{Request}
use Rattle.dds_states.specs.declared.library_state.TxnNumbers.{TxnNumbers}
use Rattle.dds_talk.specs.Seen.{commits_now}
use Rattle.dds_world.specs.Stands.{is_refusal}

-- A call that commits isn't refused.

abbrev pub NoRefusal : Option Reply → Type 0
NoRefusal None = Unit {0}
NoRefusal (Some r) = is_refusal r ≡ false

refuses-if : (b : Bool) (t u : CallTurn) → NoRefusal t.went.reply → NoRefusal u.went.reply → NoRefusal (if b then t else u).went.reply
refuses-if true t u h g = h
refuses-if false t u h g = g

update-reply : (o : Op) (flag : Bool) → is_refusal (reply_with o flag) ≡ false
update-reply (op.Get key) flag = refl
update-reply (op.Put key value) flag = refl
update-reply (op.Remove key) flag = refl
update-reply (op.Swap key expected value) flag = refl

got-answers : (d : Desk) (c : OpenCall) (from : NodeNo) (a : Answer) (p : Phase) → commits_now p ≡ true → NoRefusal (got_in d c from a p).went.reply
got-answers d c from a (phase.Committing leaf list waiting was) k = tt
got-answers d c from a other k = cc

vote-answers : (d : Desk) (c : OpenCall) (from : NodeNo) (v : Ballot) (p : Phase) → commits_now p ≡ true → NoRefusal (vote_in d c from v p).went.reply
vote-answers d c from v (phase.Committing leaf list waiting was) k = tt
vote-answers d c from v other k = cc

applied-answers : (d : Desk) (c : OpenCall) (from : NodeNo) (flag : Bool) (p : Phase) → commits_now p ≡ true
    → NoRefusal (applied_in d c from flag p).went.reply
applied-answers d c from flag (phase.Committing leaf list waiting was) k =
    refuses-if (is_none_left (without waiting from)) _ _ (update-reply c.request.op (first_flag was flag)) tt
applied-answers d c from flag other k = cc

aborted-answers : (d : Desk) (c : OpenCall) (from : NodeNo) (p : Phase) → commits_now p ≡ true → NoRefusal (aborted_in d c from p).went.reply
aborted-answers d c from (phase.Committing leaf list waiting was) k = tt
aborted-answers d c from other k = cc

told-answers : (d : Desk) (c : OpenCall) (from : NodeNo) (leaf : Option Leaf) (p : Phase) → commits_now p ≡ true
    → NoRefusal (told_in d c from leaf p).went.reply
told-answers d c from leaf (phase.Committing l list waiting was) k = tt
told-answers d c from leaf other k = cc

lost-answers : (d : Desk) (c : OpenCall) (leaf : Leaf) (was : Option Bool) → NoRefusal (lost_or_applied d c leaf was).went.reply
lost-answers d c leaf None = refl
lost-answers d c leaf (Some flag) = update-reply c.request.op flag

without-answers : (d : Desk) (c : OpenCall) (y : NodeNo) (p : Phase) → commits_now p ≡ true → NoRefusal (goes_without d c y p).went.reply
without-answers d c y (phase.Committing leaf list waiting was) k =
    refuses-if (is_none_left (without waiting y)) _ _ (lost-answers d c leaf was) tt
without-answers d c y other k = cc

pub committing-answers : (d : Desk) (c : OpenCall) (from : NodeNo) (l : Letter) → commits_now c.phase ≡ true → NoRefusal (call_row d c from l).went.reply
committing-answers d c from (letter.Got txn a) h = got-answers d c from a c.phase h
committing-answers d c from (letter.Vote txn vote) h = vote-answers d c from vote c.phase h
committing-answers d c from (letter.Applied txn was) h = applied-answers d c from was c.phase h
committing-answers d c from (letter.Aborted txn) h = aborted-answers d c from c.phase h
committing-answers d c from (letter.MapTell txn leaf) h = told-answers d c from leaf c.phase h
committing-answers d c from letter.Notice h = refuses-if (call_concerns c.phase from) _ _ (without-answers d c from c.phase h) tt
committing-answers d c from other h = tt

-- where the open calls come from, and the refused ones: each was open before the turn, and didn't commit

pub record Came (old : LibraryState) (d : OpenCall) : Type 0 where
  pub call : OpenCall
  pub place : ℕ
  pub is : slice_get old.calls place ≡ Some call
  pub caller_is : call.request.caller ≡ d.request.caller
  pub call_is : call.request.call ≡ d.request.call
  pub quiet : commits_now d.phase ≡ false → commits_now call.phase ≡ false

pub record IsQuiet (old : LibraryState) (caller : ℕ) (number : CallNo) : Type 0 where
  pub call : OpenCall
  pub place : ℕ
  pub is : slice_get old.calls place ≡ Some call
  pub caller_is : call.request.caller ≡ caller
  pub call_is : call.request.call ≡ number
  pub quiet : commits_now call.phase ≡ false

not-then : (c d : Bool) → (c ≡ true → d ≡ true) → d ≡ false → c ≡ false
not-then true d f e = let no : true ≡ false = sym (f refl) ∙ e in cc
not-then false d f e = refl

came-then : {n : TxnNumbers} {next : ℕ} (old : LibraryState) (c x : OpenCall) → Continues n next c x → (commits_now c.phase ≡ true → commits_now x.phase ≡ true)
    → Came old c → Came old x
came-then old c x (goes_on is r g) f w =
    record {
      call = w.call;
      place = w.place;
      is = w.is;
      caller_is = w.caller_is ∙ sym (ap (λ (q : Request). q.caller) r);
      call_is = w.call_is ∙ sym (ap (λ (q : Request). q.call) r);
      quiet = λ e. w.quiet (not-then (commits_now c.phase) (commits_now x.phase) f e);
    }
came-then old c x (anew a) f w =
    record {
      call = w.call;
      place = w.place;
      is = w.is;
      caller_is = w.caller_is ∙ sym a.caller_is;
      call_is = w.call_is ∙ sym a.call_is;
      quiet = λ e. w.quiet (not-then (commits_now c.phase) (commits_now x.phase) f e);
    }

pub replies-say : (P : ℕ → CallNo → Type 0) (caller : ℕ) (call : CallNo) (txn : Txn) (o : Option Reply)
    → ((r : Reply) → o ≡ Some r → is_refusal r ≡ true → P caller call) → AllByRecursion (ReplySays P) (replies_of caller call txn o)
replies-say P caller call txn None f = tt
replies-say P caller call txn (Some r) f = (f r refl, tt)

refused-quiet : (b : Bool) (o : Option Reply) (r : Reply) → (b ≡ true → NoRefusal o) → o ≡ Some r → is_refusal r ≡ true → b ≡ false
refused-quiet true o r f e g = absurd (both_ways (is_refusal r) (subst NoRefusal e (f refl)) g)
refused-quiet false o r f e g = refl

one-answers : (old : LibraryState) (from : NodeNo) (l : Letter)
    → OneKeeps (λ s out. AllByRecursion (Came old) s.calls × AllByRecursion (ReplySays (IsQuiet old)) out.replies) from l
one-answers old from l s out place c is concerns h =
    let rest = remove s.calls place in
    let d = desk_of (record s { calls = rest }) rest in
    let t = call_row d c from l in
    let g = does-entered d c from l t (call-does d c from l) in
    let w = back-with rest place t.went.call in
    let own = all-is (Came old) s.calls place c h.0 is in (
      w.each (Came old) (all-taken (Came old) s.calls place h.0)
          (λ x e. came-then old c x (g.call x e) (λ k. (committing-goes d c from l k x e).commits) own),
      all-append (ReplySays (IsQuiet old)) out.replies (replies_of c.request.caller c.request.call c.txn t.went.reply) h.1
          (replies-say (IsQuiet old) c.request.caller c.request.call c.txn t.went.reply
          (λ r e f. record {
            call = own.call;
            place = own.place;
            is = own.is;
            caller_is = own.caller_is;
            call_is = own.call_is;
            quiet = own.quiet (refused-quiet (commits_now c.phase) t.went.reply r (committing-answers d c from l) e f);
          })),
    )

came-first : (old : LibraryState) → AllByRecursion (Came old) old.calls
came-first old =
    all-from (Came old) old.calls
    (λ i x e. record { call = x; place = i; is = e; caller_is = refl; call_is = refl; quiet = λ k. k })

heard-came : (s : LibraryState) (from : NodeNo) (l : Letter) → AllByRecursion (Came s) (heard s from l).calls
heard-came s from letter.Notice = came-first s
heard-came s from other = came-first s

pub turn-answers : (s : LibraryState) (from : NodeNo) (l : Letter) → AllByRecursion (ReplySays (IsQuiet s)) (live_library_turn s from l).out.replies
turn-answers s from l =
    (library-keeps (λ u out. AllByRecursion (Came s) u.calls × AllByRecursion (ReplySays (IsQuiet s)) out.replies) s from l (one-answers s from l)
    (heard-came s from l, tt)).1
