use Rattle.std.specs.Prelude.{ℕ, Bool, false, List, Option, Some, None, is_some, map, ◌==◌, if◌then◌else◌}
use Rattle.std.specs.Ordering.{nat_cmp}
use Rattle.std.specs.FinMap.{FinMap, get, insert, remove, code}
use Rattle.std.specs.Str.{bytes_eq}
use Rattle.std.specs.Coded.{Coded, coded_ℕ, coded_list}
use Rattle.dds_base.specs.Op.{the_key}
use Rattle.dds_base.specs.declared.op.Op.{Op}
use Rattle.dds_base.specs.declared.pair.Pair.{Pair}
use Rattle.dds_base.specs.declared.op.Op.TheVariants.{Get, Put, Remove, Swap}
use Rattle.dds_base.specs.declared.op.Reply.{Reply}
use Rattle.dds_base.specs.declared.op.Reply.TheVariants.{Value, Absent, Done, Swapped}

-- the table that callers see: a finite map from keys to values
abbrev pub Map : Type 0
Map = FinMap nat_cmp (List ℕ)

abbrev pub map_code : Coded Map
map_code = code coded_ℕ (coded_list coded_ℕ)

-- the key is bound to exactly these bytes
abbrev pub is_bound_to : Option (List ℕ) → List ℕ → Bool
is_bound_to None bytes = false
is_bound_to (Some value) bytes = bytes_eq value bytes

-- what an update says of its key's binding before it: a swap, whether the key was bound to the expected bytes; another
-- one, whether the key was there
abbrev pub flag_of : Option (List ℕ) → Op → Bool
flag_of bound (Get key) = is_some bound
flag_of bound (Put key value) = is_some bound
flag_of bound (Remove key) = is_some bound
flag_of bound (Swap key expected value) = is_bound_to bound expected

-- an update's reply with its flag
abbrev pub reply_with : Op → Bool → Reply
reply_with (Get key) flag = Done flag
reply_with (Put key value) flag = Done flag
reply_with (Remove key) flag = Done flag
reply_with (Swap key expected value) flag = Swapped flag

-- a get's reply
abbrev pub found : Option (List ℕ) → Reply
found None = Absent
found (Some value) = Value value

-- an operation's reply, from the binding of its key before it
abbrev pub reply_at : Option (List ℕ) → Op → Reply
reply_at bound (Get key) = found bound
reply_at bound (Put key value) = reply_with (Put key value) (flag_of bound (Put key value))
reply_at bound (Remove key) = reply_with (Remove key) (flag_of bound (Remove key))
reply_at bound (Swap key expected value) = reply_with (Swap key expected value) (flag_of bound (Swap key expected value))

-- an operation's reply on a table
abbrev pub reply_to : Map → Op → Reply
reply_to m op = reply_at (get m (the_key op)) op

-- the binding of an operation's key after it, from that before it
abbrev pub bound_after : Option (List ℕ) → Op → Option (List ℕ)
bound_after bound (Get key) = bound
bound_after bound (Put key value) = Some value
bound_after bound (Remove key) = None
bound_after bound (Swap key expected value) = if is_bound_to bound expected then Some value else bound

-- the table after an operation: a put binds its key, a remove unbinds it, a swap binds it where it was bound to exactly
-- the expected bytes, and nothing else changes
abbrev pub after : Map → Op → Map
after m (Get key) = m
after m (Put key value) = insert m key value
after m (Remove key) = remove m key
after m (Swap key expected value) = if is_bound_to (get m key) expected then insert m key value else m

-- what an operation leaves any key bound to, from what that key was bound to
abbrev pub bound_by : Option (List ℕ) → Op → ℕ → Option (List ℕ)
bound_by bound op key = if the_key op == key then bound_after bound op else bound

-- the pairs of a table's entries
abbrev pub pairs_of : List (ℕ × List ℕ) → List Pair
pairs_of es = map (λ e. record { key = e.0; value = e.1 }) es
