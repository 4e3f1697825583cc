-- What is promised to somebody who only uses the table.
use Rattle.std.specs.Prelude.{nat_lt, is_none, not, ◌||◌, ◌≡◌, ◌≤◌, ◌⊎◌, Bool, true, false, ◌&&◌, ◌==◌, List, [], ◌∷◌, Option, Some, None, filter, length}
use Rattle.std.specs.List.{AllByRecursion, list_any}
use Rattle.dds_base.specs.Op.{is_get}
use Rattle.dds_base.specs.declared.op.Op.{Op}
use Rattle.dds_base.specs.declared.op.Reply.{Reply}
use Rattle.dds_base.specs.declared.op.Reply.TheVariants as reply
use Rattle.dds_history.specs.History.{IsLegal}
use Rattle.dds_history.specs.declared.entry.Entry.{Entry}
use Rattle.dds_client_view.specs.Seen.{SeenAnswer, SeenCall, SeenLine, answer_in, answers_in, calls_in, first_answer, is_answer_to, printed_by}

-- what became of a call by the end: its caller was busy, or it was answered, or it is still open
pub data Fate : Type 0 where
  Busy : Fate
  Answered : Reply → Fate
  Open : Fate

abbrev pub fate_by : Bool → Option Reply → Fate
fate_by true answer = Busy
fate_by false (Some reply) = Answered reply
fate_by false None = Open

-- by all lines that were printed
abbrev pub fate : List SeenLine → SeenCall → Fate
fate seen c = fate_by c.busy (answer_in (printed_by seen) c)

-- the reply says that nothing was done
abbrev pub is_refusal : Reply → Bool
is_refusal (reply.Again met) = true
is_refusal (reply.Full brick) = true
is_refusal other = false

-- the reply says that the update may have been done or not
abbrev pub is_loss : Reply → Bool
is_loss (reply.Lost name) = true
is_loss other = false

-- any other reply is a result: the call was done
abbrev pub is_result : Reply → Bool
is_result reply = not (is_refusal reply || is_loss reply)

-- an entry of the list is of this call
abbrev pub is_entry_of : SeenCall → Entry → Bool
is_entry_of c e = e.caller == c.caller && e.call.0 == c.call.0

-- the entries of a call
abbrev pub entries_of : List Entry → SeenCall → List Entry
entries_of entries c = filter (is_entry_of c) entries

-- the entry of a call with its operation and a reply
abbrev pub entry_of : SeenCall → Reply → Entry
entry_of c reply = record { caller = c.caller; call = c.call; op = c.op; reply = reply }

-- a call that was answered with a result has exactly one entry, with its operation and that reply
abbrev pub HasOneBy : SeenCall → Fate → List Entry → Type 0
HasOneBy c Busy own = Unit {0}
HasOneBy c Open own = Unit {0}
HasOneBy c (Answered reply) own = is_result reply ≡ true → own ≡ entry_of c reply ∷ []

abbrev pub HasOne : List SeenLine → List Entry → SeenCall → Type 0
HasOne seen entries c = HasOneBy c (fate seen c) (entries_of entries c)

-- nothing was done: the caller was busy, or the call was answered Again or Full, or it is a get that was answered with no result, or is
-- still open
abbrev pub did_nothing : Op → Fate → Bool
did_nothing op Busy = true
did_nothing op Open = is_get op
did_nothing op (Answered reply) = is_refusal reply || (is_get op && is_loss reply)

-- then a call has no entry
abbrev pub HasNone : List SeenLine → List Entry → SeenCall → Type 0
HasNone seen entries c = did_nothing c.op (fate seen c) ≡ true → entries_of entries c ≡ []

-- an update may have been done or not: it was answered Lost, or is still open
abbrev pub may_be_done : Op → Fate → Bool
may_be_done op Busy = false
may_be_done op Open = not (is_get op)
may_be_done op (Answered reply) = not (is_get op) && is_loss reply

-- then it has at most one entry
abbrev pub HasAtMostOne : List SeenLine → List Entry → SeenCall → Type 0
HasAtMostOne seen entries c = may_be_done c.op (fate seen c) ≡ true → length (entries_of entries c) ≤ 1

-- an entry is of one of the calls, and has its operation
abbrev pub IsOfACall : List SeenCall → Entry → Type 0
IsOfACall [] e = ⊥
IsOfACall (c ∷ calls) e = ((e.caller ≡ c.caller) × (e.call ≡ c.call) × (e.op ≡ c.op)) ⊎ IsOfACall calls e

-- no entry of the first call stands behind one of the second
abbrev pub StandsFirst : SeenCall → SeenCall → List Entry → Type 0
StandsFirst c d [] = Unit {0}
StandsFirst c d (e ∷ entries) = (is_entry_of d e ≡ true → entries_of entries c ≡ []) × StandsFirst c d entries

-- where the first call was answered before the line of the second one stood, its entry comes first
abbrev pub IsOrderedBy : SeenCall → SeenCall → List Entry → Option Reply → Type 0
IsOrderedBy c d entries None = Unit {0}
IsOrderedBy c d entries (Some reply) = StandsFirst c d entries

abbrev pub IsOrdered : List Entry → SeenCall → SeenCall → Type 0
IsOrdered entries c d = IsOrderedBy c d entries (answer_in d.before c)

-- What a script and what it printed show: the calls stand in a list of entries, which is legal for one map from the empty one on. A call
-- that was answered with a result has exactly one entry there, with its operation and that reply. One that was answered Again or
-- Full, one whose caller was busy and a get that is still open have none. An update that was answered Lost, or is still open, has at
-- most one. There are no others. And where a call's answer was printed before another call's line stood, its entry, if it has one, comes
-- first.
pub record ClientSees (seen : List SeenLine) : Type 0 where
  pub entries : List Entry
  pub legal : IsLegal entries
  pub answered : AllByRecursion (HasOne seen entries) (calls_in seen)
  pub refused : AllByRecursion (HasNone seen entries) (calls_in seen)
  pub unanswered : AllByRecursion (HasAtMostOne seen entries) (calls_in seen)
  pub others : AllByRecursion (IsOfACall (calls_in seen)) entries
  pub ordered : AllByRecursion (λ d. AllByRecursion (λ c. IsOrdered entries c d) (calls_in seen)) (calls_in seen)

-- an answer is to one of the calls, whose caller wasn't busy
abbrev pub IsToACall : List SeenCall → SeenAnswer → Type 0
IsToACall calls r = list_any (is_answer_to r) calls ≡ true

-- no answer to the call was printed before its line stood
abbrev pub IsUnansweredBefore : SeenCall → Type 0
IsUnansweredBefore c = answer_in c.before c ≡ None

-- no call is answered twice
abbrev pub AreToOthers : List SeenAnswer → Type 0
AreToOthers [] = Unit {0}
AreToOthers (r ∷ rs) = (first_answer rs r.caller r.call ≡ None) × AreToOthers rs

-- the second call was open when the line of the first one stood
abbrev pub is_open_at : SeenCall → SeenCall → Bool
is_open_at c d = not d.busy && (d.caller == c.caller && (nat_lt d.call.0 c.call.0 && is_none (answer_in c.before d)))

-- a caller is busy only where an earlier call of it was open
abbrev pub IsBusyFor : List SeenCall → SeenCall → Type 0
IsBusyFor calls c = c.busy ≡ true → list_any (is_open_at c) calls ≡ true

-- What is printed is in order: each answer is to one of the calls whose callers weren't busy, no call is answered twice, or before its line;
-- and a caller is busy only where an earlier call of it isn't answered yet.
pub record AnswersFit (seen : List SeenLine) : Type 0 where
  pub answers : AllByRecursion (IsToACall (calls_in seen)) (answers_in (printed_by seen))
  pub once : AreToOthers (answers_in (printed_by seen))
  pub behind : AllByRecursion IsUnansweredBefore (calls_in seen)
  pub busy : AllByRecursion (IsBusyFor (calls_in seen)) (calls_in seen)
