-- What the headline says of a run: its calls stand in one legal history.
pub use Rattle.dds_cluster.specs.Lists.{is_read_of, is_answer}
use Rattle.std.specs.Prelude.{ℕ, ◌+◌, ◌<◌, ◌≡◌, ◌⊎◌, Bool, true, false, not, ◌&&◌, ◌||◌, ◌==◌, List, [], ◌∷◌, Option, Some, None, map, filter, if◌then◌else◌}
use Rattle.std.specs.List.{AllByRecursion}
use Rattle.dds_base.specs.Op.{is_get}
use Rattle.dds_base.specs.declared.number.CallNo.{CallNo}
use Rattle.dds_base.specs.declared.op.Reply.{Reply}
use Rattle.dds_base.specs.declared.op.Reply.TheVariants as reply
use Rattle.dds_history.specs.History.{IsLegal}
use Rattle.dds_history.specs.declared.entry.Entry.{Entry}
use Rattle.dds_world.specs.declared.runs.CallPlace.{CallPlace}
use Rattle.dds_cluster.specs.declared.trace.Asked.{Asked}
use Rattle.dds_cluster.specs.declared.trace.Made.{Made}
use Rattle.dds_cluster.specs.declared.trace.Told.{Told}
use Rattle.dds_cluster.specs.declared.trace.Trace.{Trace}

-- a point stands in the history: each first applied point, and each read whose answer the call was given
abbrev pub stands_in : List Told → Made → Bool
stands_in told m = not (is_get m.entry.op) || is_answer told m.txn

-- the history with the places of its entries
abbrev pub placed_history : Trace → List Made
placed_history t = filter (stands_in t.told) t.made

-- the history: the entries in the order of their points
abbrev pub history : Trace → List Entry
history t = map (λ m. m.entry) (placed_history t)

-- an answer is of this call
abbrev pub answers : ℕ → CallNo → Told → Bool
answers caller call told = told.caller == caller && told.call.0 == call.0

-- the answer to a call, if there is one
abbrev pub answer_to : List Told → ℕ → CallNo → Option Told
answer_to [] caller call = None
answer_to (r ∷ rs) caller call = if answers caller call r then Some r else answer_to rs caller call

abbrev pub placed_call : Asked → Option Told → CallPlace
placed_call a None = record { caller = a.caller; call = a.call; asked = a.place; answered = None; reply = None }
placed_call a (Some r) =
    record { caller = a.caller; call = a.call; asked = a.place; answered = Some r.place; reply = Some r.reply }

-- the calls of a run in the order of their Inputs, with the place of the Input, and of the answer
abbrev pub calls : Trace → List CallPlace
calls t = map (λ a. placed_call a (answer_to t.told a.caller a.call)) t.asked

-- the entries of one call
abbrev pub entries_of : List Made → Asked → List Made
entries_of entries a = filter (λ m. m.entry.caller == a.caller && m.entry.call.0 == a.call.0) entries

-- a call has exactly one entry, with the reply that it was answered, between its Input and its answer
pub record HasOneEntry (entries : List Made) (a : Asked) (told : Told) : Type 0 where
  pub entry : Made
  pub only : entries_of entries a ≡ entry ∷ []
  pub reply : entry.entry.reply ≡ told.reply
  pub after_input : a.place < entry.place
  pub before_answer : entry.place < told.place

-- at most one entry, behind a place
abbrev pub AtMostOneAfter : ℕ → List Made → Type 0
AtMostOneAfter at [] = Unit {0}
AtMostOneAfter at (m ∷ []) = at < m.place
AtMostOneAfter at (m ∷ n ∷ ms) = ⊥

-- an answer is a result: the call was done
abbrev pub is_result : Reply → Bool
is_result (reply.Value value) = true
is_result reply.Absent = true
is_result (reply.Done was) = true
is_result (reply.Swapped done) = true
is_result (reply.Again met) = false
is_result (reply.Full brick) = false
is_result (reply.Lost name) = false

-- an answer is a refusal: nothing was done
abbrev pub is_refusal : Reply → Bool
is_refusal (reply.Value value) = false
is_refusal reply.Absent = false
is_refusal (reply.Done was) = false
is_refusal (reply.Swapped done) = false
is_refusal (reply.Again met) = true
is_refusal (reply.Full brick) = true
is_refusal (reply.Lost name) = false

-- a call that was answered with a result has exactly one entry
abbrev pub AnsweredOnceBy : List Made → Asked → Option Told → Type 0
AnsweredOnceBy entries a None = Unit {0}
AnsweredOnceBy entries a (Some told) = is_result told.reply ≡ true → HasOneEntry entries a told

abbrev pub AnsweredOnce : List Told → List Made → Asked → Type 0
AnsweredOnce told entries a = AnsweredOnceBy entries a (answer_to told a.caller a.call)

-- a call that was refused has no entry, and an open get has none
abbrev pub RefusedNeverBy : List Made → Asked → Option Told → Type 0
RefusedNeverBy entries a None = is_get a.op ≡ true → entries_of entries a ≡ []
RefusedNeverBy entries a (Some told) = is_refusal told.reply ≡ true → entries_of entries a ≡ []

abbrev pub RefusedNever : List Told → List Made → Asked → Type 0
RefusedNever told entries a = RefusedNeverBy entries a (answer_to told a.caller a.call)

-- an update that is open, and a call that was answered with no result (by Lost, since a refused one has none), has at
-- most one entry, behind its Input
abbrev pub UnansweredOnceOrNeverBy : List Made → Asked → Option Told → Type 0
UnansweredOnceOrNeverBy entries a None = is_get a.op ≡ false → AtMostOneAfter a.place (entries_of entries a)
UnansweredOnceOrNeverBy entries a (Some told) = is_result told.reply ≡ false → AtMostOneAfter a.place (entries_of entries a)

abbrev pub UnansweredOnceOrNever : List Told → List Made → Asked → Type 0
UnansweredOnceOrNever told entries a = UnansweredOnceOrNeverBy entries a (answer_to told a.caller a.call)

-- an entry belongs to one of the calls, and has its operation
abbrev pub IsOfACall : List Asked → Made → Type 0
IsOfACall [] m = ⊥
IsOfACall (a ∷ rest) m =
    ((m.entry.caller ≡ a.caller) × (m.entry.call ≡ a.call) × (m.entry.op ≡ a.op)) ⊎ IsOfACall rest m

-- all calls answered with a result stand in one legal history of one map, each once, between its Input and its answer;
-- refused calls don't stand there; an unanswered update stands there once or never; and nothing else does. It is proved of every
-- run (`dds_law_config`).
pub record Stands (t : Trace) : Type 0 where
  pub legal : IsLegal (history t)
  pub answered_once : AllByRecursion (AnsweredOnce t.told (placed_history t)) t.asked
  pub refused_never : AllByRecursion (RefusedNever t.told (placed_history t)) t.asked
  pub unanswered_once_or_never : AllByRecursion (UnansweredOnceOrNever t.told (placed_history t)) t.asked
  pub entries_are_calls : AllByRecursion (IsOfACall t.asked) (placed_history t)
