-- What is looked for in the lists of a run: attempts among points and answers, and calls.
use Rattle.std.specs.Prelude.{ℕ, Bool, false, not, ◌&&◌, ◌==◌, List, Option, Some, None}
use Rattle.std.specs.List.{list_any}
use Rattle.std.specs.Ordering.{nat_cmp, ordering_then}
use Rattle.std.specs.declared.cmp.Ordering.{Ordering}
use Rattle.dds_base.specs.Number.{Txn, same_txn}
use Rattle.dds_base.specs.Op.{is_get}
use Rattle.dds_base.specs.declared.number.CallNo.{CallNo}
use Rattle.dds_cluster.specs.declared.asked_list.CallName.{CallName}
use Rattle.dds_cluster.specs.declared.trace.Asked.{Asked}
use Rattle.dds_cluster.specs.declared.trace.Made.{Made}
use Rattle.dds_cluster.specs.declared.trace.Told.{Told}

-- a point is an update of this attempt
abbrev pub is_update_of : Txn → Made → Bool
is_update_of txn m = same_txn m.txn txn && not (is_get m.entry.op)

-- the attempt has been applied already
abbrev pub is_applied : List Made → Txn → Bool
is_applied made txn = list_any (is_update_of txn) made

-- an answer is what this attempt read
abbrev pub is_read_of : Txn → Option Txn → Bool
is_read_of txn None = false
is_read_of txn (Some read) = same_txn read txn

-- a read's attempt answered its call
abbrev pub is_answer : List Told → Txn → Bool
is_answer told txn = list_any (λ r. is_read_of txn r.read) told

-- the call was made
abbrev pub is_call_of : ℕ → CallNo → Asked → Bool
is_call_of caller call a = a.caller == caller && a.call.0 == call.0

abbrev pub is_asked : List Asked → ℕ → CallNo → Bool
is_asked asked caller call = list_any (is_call_of caller call) asked

-- the order of calls' names, by callers first
abbrev pub call_cmp : CallName → CallName → Ordering
call_cmp a b = ordering_then (nat_cmp a.caller b.caller) (nat_cmp a.call.0 b.call.0)
