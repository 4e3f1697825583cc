-- What a brick does for an order of its own.
use Rattle.std.specs.Prelude.{ℕ, Bool, true, false, not, ◌==◌, ◌+◌, ◌-◌, ◌^◌, ◌&&◌, ◌||◌, List, [], ◌∷◌, ◌++◌, Option, Some, None, is_some, length, filter}
use Rattle.std.specs.Prelude.{nat_le, if◌then◌else◌}
use Rattle.std.specs.List.{list_any, list_all}
use Rattle.std.specs.FinMap.{get, insert, remove, keys}
use Rattle.dds_base.specs.Name.{Name, covers, overlaps, same_name}
use Rattle.dds_base.specs.NodeSet.{has_node}
use Rattle.dds_base.specs.BrickList.{has}
use Rattle.dds_base.specs.Place.{is_after, last_key}
use Rattle.dds_base.specs.declared.brick_list.TheConstants.{MEMBERS}
use Rattle.dds_base.specs.declared.leaf.Leaf.{Leaf}
use Rattle.dds_base.specs.declared.name.TheConstants.{DEPTH}
use Rattle.dds_base.specs.declared.number.NodeNo.{NodeNo}
use Rattle.dds_base.specs.declared.op.Met.{Met}
use Rattle.dds_base.specs.declared.op.Met.TheVariants as met
use Rattle.dds_base.specs.declared.op.OrderReply.{OrderReply}
use Rattle.dds_base.specs.declared.op.OrderReply.TheVariants as answered
use Rattle.dds_base.specs.declared.pair.Pair.{Pair}
use Rattle.dds_groups.specs.Leaves.{live, joined, low_child, sibling}
use Rattle.dds_history.specs.Map.{Map}
use Rattle.dds_letters.specs.declared.letter.Letter.{Letter}
use Rattle.dds_letters.specs.declared.letter.Letter.TheVariants as letter
use Rattle.dds_letters.specs.declared.refusal.Refusal.{Refusal}
use Rattle.dds_letters.specs.declared.refusal.Refusal.TheVariants as refusal
use Rattle.dds_letters.specs.declared.refusal.Wanted.TheVariants as wanted
use Rattle.dds_locks.specs.Leases.{leased}
use Rattle.dds_locks.specs.Pending.{any_under}
use Rattle.dds_trie.specs.Trie.{LeafMap, put}
use Rattle.dds_states.specs.Turn.{BrickTurn, still, sends, and_then, reply_out, to_each, without, is_none_left, unknown, unknown_others}
use Rattle.dds_brick_rows.specs.Refusal.{is_join}
use Rattle.dds_brick_rows.specs.declared.refusal.TheConstants.{PAIRS}
use Rattle.dds_order_rows.specs.Orders.{leasing, releasing}
use Rattle.dds_states.specs.declared.brick_state.BrickState.{BrickState}
use Rattle.dds_states.specs.declared.brick_state.OpenOrder.{OpenOrder}
use Rattle.dds_states.specs.declared.brick_state.OrderPhase.{OrderPhase}
use Rattle.dds_states.specs.declared.brick_state.OrderPhase.TheVariants.{Leasing, Copying, Installing}
use Rattle.dds_states.specs.declared.brick_state.Task.{Task}
use Rattle.dds_states.specs.declared.brick_state.Task.TheVariants as task
use Rattle.dds_states.specs.declared.turn.Replied.TheVariants.{Order}

-- an order is answered
abbrev pub answers : BrickState → OrderReply → BrickTurn
answers s reply = record { state = s; out = reply_out (Order reply) }

-- the order is the open one from here on
abbrev pub going_on : BrickState → OpenOrder → BrickState
going_on s o = record s { order = Some o }

-- the open order is over: a split gives its own lease back
abbrev pub closed : BrickState → OpenOrder → BrickState
closed s o = record (if is_join o.task then s else releasing s o.name s.number) { order = None }

-- the open order ends with a reply that isn't Done, and gives back the leases that it asked for
abbrev pub ends : BrickState → OpenOrder → OrderReply → BrickTurn
ends s o reply =
    and_then (sends (closed s o) (to_each (unknown o.asked s.known) (letter.Release o.number o.name))) (λ t. answers t reply)

-- the pairs bound to a map, one after another
abbrev pub bound : Map → List Pair → Map
bound m [] = m
bound m (p ∷ ps) = bound (insert m p.key p.value) ps

-- a join serves the leaf that it made with the pairs that it copied; a split serves both halves
abbrev pub serving : BrickState → OpenOrder → Leaf → Task → BrickState
serving s o made (task.Join via) = record s { leaves = put s.leaves made; pairs = bound s.pairs o.copied }
serving s o made task.Split =
    record s { leaves = put (put (remove s.leaves o.name) made) (sibling made) }

-- the open order is done, and gives back the leases that it was granted
abbrev pub finishes : BrickState → OpenOrder → Leaf → BrickTurn
finishes s o made =
    and_then (sends (closed (serving s o made o.task) o) (to_each (unknown o.granted s.known) (letter.Release o.number o.name)))
    (λ t. answers t answered.Done)

-- the members that granted the order its lease, and for a split the brick itself, that aren't known to have stopped
abbrev pub takes_part : BrickState → OpenOrder → ℕ → Bool
takes_part s o node = has o.granted node || (not (is_join o.task) && node == s.number)

abbrev pub parting : BrickState → OpenOrder → Leaf → List ℕ
parting s o leaf = filter (takes_part s o) (live leaf.list (has_node s.known))

abbrev pub made_leaf : BrickState → OpenOrder → Leaf → Task → Leaf
made_leaf s o leaf (task.Join via) = joined leaf (parting s o leaf) s.number s.made
made_leaf s o leaf task.Split = low_child leaf (parting s o leaf) s.number s.made

abbrev pub installs_from : BrickState → OpenOrder → Leaf → List NodeNo → BrickTurn
installs_from s o made [] = finishes s o made
installs_from s o made (n ∷ ns) =
    sends (going_on s (record o { waiting = n ∷ ns; phase = Installing made })) (to_each (n ∷ ns) (letter.Install o.number made))

-- begins installing: makes the next leaf, and has the members that take part install it
abbrev pub installs : BrickState → OpenOrder → Leaf → BrickTurn
installs s o leaf =
    installs_from (record s { made = s.made + 1 }) o (made_leaf s o leaf o.task) (without (parting s o leaf) s.number)

-- the members of the leaf that granted their leases and aren't known to have stopped
abbrev pub sources : BrickState → OpenOrder → Leaf → List ℕ
sources s o leaf = filter (λ node. has o.granted node) (live leaf.list (has_node s.known))

abbrev pub copies_from : BrickState → OpenOrder → List ℕ → BrickTurn
copies_from s o [] = ends s o answered.NoSource
copies_from s o (n ∷ ns) =
    sends (going_on s (record o { copied = []; phase = Copying n })) ((n, letter.CopyAsk o.number o.name None) ∷ [])

-- begins copying, from the first member that it can
abbrev pub copies : BrickState → OpenOrder → Leaf → BrickTurn
copies s o leaf = copies_from s o (sources s o leaf)

-- all leases are there: a join copies, a split installs
abbrev pub leased_all : BrickState → OpenOrder → Leaf → Task → BrickTurn
leased_all s o leaf (task.Join via) = copies s o leaf
leased_all s o leaf task.Split = installs s o leaf

abbrev pub leased_all_at : BrickState → OpenOrder → Option Leaf → BrickTurn
leased_all_at s o None = still (going_on s o)
leased_all_at s o (Some leaf) = leased_all s o leaf o.task

-- goes on where no lease is waited for any more
abbrev pub leases_on : BrickState → OpenOrder → BrickTurn
leases_on s o = if is_none_left o.waiting then leased_all_at s o o.leaf else still (going_on s o)

-- a new order with its number
abbrev pub opens : BrickState → Task → Name → Option Leaf → List NodeNo → OpenOrder
opens s t name leaf asked =
    record {
      number = s.orders;
      task = t;
      name = name;
      leaf = leaf;
      asked = asked;
      granted = [];
      waiting = asked;
      copied = [];
      phase = Leasing;
    }

-- the last epoch but two: beyond it a leaf has no successor
abbrev pub is_worn : Leaf → Bool
is_worn leaf = nat_le (2 ^ 64 - 2) leaf.epoch

-- a join opens, and asks `via` for a lease of the name
abbrev pub join_opens : BrickState → Name → NodeNo → BrickTurn
join_opens s name via =
    sends (record s { orders = s.orders + 1; order = Some (opens s (task.Join via) name None (via ∷ [])) })
    ((via, letter.Lease s.orders (wanted.Name name)) ∷ [])

-- the order Join: refused by the first reason that holds, or asks `via` for a lease of the name
abbrev pub join_order : BrickState → Name → NodeNo → BrickTurn
join_order s name via =
    if s.stopped then answers s answered.Stopped
    else (if is_some s.order then answers s answered.OrderOpen
    else (if list_any (λ other. overlaps other name) (keys s.leaves) then answers s answered.AlreadyThere
    else (if via == s.number || has_node s.known via then answers s answered.NoSource
    else join_opens s name via)))

-- the open order of a split
abbrev pub new_split : BrickState → Leaf → OpenOrder
new_split s leaf = opens s task.Split leaf.name (Some leaf) (unknown_others leaf.list s.number s.known)

-- leases the leaf to the brick itself and asks every other member
abbrev pub split_opens : BrickState → Leaf → BrickTurn
split_opens s leaf =
    and_then
    (sends (record (leasing s leaf.name s.number) { orders = s.orders + 1 })
    (to_each (unknown_others leaf.list s.number s.known) (letter.Lease s.orders (wanted.Leaf leaf))))
    (λ t. leases_on t (new_split s leaf))

abbrev pub split_leaf : BrickState → Leaf → BrickTurn
split_leaf s leaf =
    if leaf.name.depth == DEPTH then answers s answered.Deepest
    else (if is_worn leaf then answers s answered.Worn
    else (if is_some (leased s.locks.leases leaf.name) then answers s (answered.Refused (met.Lease s.number))
    else (if any_under s.locks.pending leaf.name then answers s (answered.Refused (met.Lock s.number))
    else split_opens s leaf)))

abbrev pub split_named : BrickState → Option Leaf → BrickTurn
split_named s None = answers s answered.NotServing
split_named s (Some leaf) = split_leaf s leaf

-- the order Split: refused by the first reason that holds, or leases the leaf to itself and asks every other member
abbrev pub split_order : BrickState → Name → BrickTurn
split_order s name =
    if s.stopped then answers s answered.Stopped
    else (if is_some s.order then answers s answered.OrderOpen else split_named s (get s.leaves name))

-- the order with its leaf, which asks every other member
abbrev pub widened : BrickState → OpenOrder → NodeNo → Leaf → OpenOrder
widened s o from leaf =
    record o {
      leaf = Some leaf;
      asked = o.asked ++ unknown_others leaf.list from s.known;
      waiting = o.waiting ++ unknown_others leaf.list from s.known;
    }

abbrev pub fixed : BrickState → OpenOrder → NodeNo → Leaf → BrickTurn
fixed s o from leaf =
    and_then (sends s (to_each (unknown_others leaf.list from s.known) (letter.Lease o.number (wanted.Leaf leaf))))
    (λ t. leases_on t (widened s o from leaf))

-- a join's first lease fixes its leaf, unless that is worn or its group is full, and it asks every other member
abbrev pub fixes : BrickState → OpenOrder → NodeNo → Leaf → BrickTurn
fixes s o from leaf =
    if is_worn leaf then ends s o answered.Worn
    else (if nat_le MEMBERS (length (live leaf.list (has_node s.known))) then ends s o answered.GroupFull else fixed s o from leaf)

abbrev pub granted_join : BrickState → OpenOrder → NodeNo → Leaf → Option Leaf → BrickTurn
granted_join s o from leaf None = fixes s o from leaf
granted_join s o from leaf (Some fixed) = leases_on s o

-- the order with a grant: the sender isn't waited for any more
abbrev pub with_grant : OpenOrder → NodeNo → OpenOrder
with_grant o from = record o { waiting = without o.waiting from; granted = o.granted ++ from ∷ [] }

-- an order takes a grant while it leases; a join takes none of another name's leaf, nor of a leaf that lists the brick
abbrev pub is_leasing : OrderPhase → Bool
is_leasing Leasing = true
is_leasing (Copying source) = false
is_leasing (Installing made) = false

abbrev pub takes_grant : ℕ → Leaf → OpenOrder → Bool
takes_grant me leaf o =
    is_leasing o.phase && (not (is_join o.task) || (same_name leaf.name o.name && not (has leaf.list me)))

abbrev pub grants : BrickState → OpenOrder → NodeNo → Leaf → Task → BrickTurn
grants s o from leaf (task.Join via) = granted_join s o from leaf o.leaf
grants s o from leaf task.Split = leases_on s o

-- a letter does something to the open order only with its number and where the order takes it
abbrev pub is_at : ℕ → (OpenOrder → Bool) → Option OpenOrder → Bool
is_at number test None = false
is_at number test (Some o) = o.number == number && test o

-- the order is taken out of the brick, and the row puts it back while it stays open
abbrev pub with_order : BrickState → (BrickState → OpenOrder → BrickTurn) → Option OpenOrder → BrickTurn
with_order s row None = still s
with_order s row (Some o) = row (record s { order = None }) o

abbrev pub at_order : BrickState → ℕ → (OpenOrder → Bool) → (BrickState → OpenOrder → BrickTurn) → BrickTurn
at_order s number test row = if is_at number test s.order then with_order s row s.order else still s

-- Granted: a member gave its lease
abbrev pub granted_row : BrickState → NodeNo → ℕ → Leaf → BrickTurn
granted_row s from number leaf =
    at_order s number (takes_grant s.number leaf) (λ t o. grants t (with_grant o from) from leaf o.task)

-- what an order met at a member
abbrev pub met_of : Refusal → NodeNo → Met
met_of refusal.Lease from = met.Lease from
met_of refusal.Lock from = met.Lock from
met_of (refusal.Stale leaf) from = met.Stale from

-- LeaseRefused, while leasing: the order ends
abbrev pub lease_refused_row : BrickState → NodeNo → ℕ → Refusal → BrickTurn
lease_refused_row s from number r =
    at_order s number (λ o. is_leasing o.phase) (λ t o. ends t o (answered.Refused (met_of r from)))

-- the pairs are the name's, their places are after the last one copied, and there is room for them
abbrev pub starts_after : Option ℕ → List Pair → Bool
starts_after last [] = true
starts_after last (p ∷ ps) = is_after last p.key

abbrev pub fits : OpenOrder → List Pair → Bool
fits o pairs =
    list_all (λ p. covers o.name p.key) pairs
    && (starts_after (last_key None o.copied) pairs && nat_le (length o.copied + length pairs) PAIRS)

abbrev pub copied_all : BrickState → OpenOrder → Option Leaf → BrickTurn
copied_all s o None = still (going_on s o)
copied_all s o (Some leaf) = installs s o leaf

abbrev pub copied_on : BrickState → OpenOrder → NodeNo → Bool → BrickTurn
copied_on s o source true = copied_all s o o.leaf
copied_on s o source false =
    sends (going_on s o) ((source, letter.CopyAsk o.number o.name (last_key None o.copied)) ∷ [])

abbrev pub is_source : NodeNo → OrderPhase → Bool
is_source from Leasing = false
is_source from (Copying source) = from == source
is_source from (Installing made) = false

-- CopyPart: the source's next pairs; the join asks for the pairs after them, or installs its leaf behind the last ones
abbrev pub copy_part_row : BrickState → NodeNo → ℕ → Bool → List Pair → BrickTurn
copy_part_row s from number last pairs =
    at_order s number (λ o. is_source from o.phase && fits o pairs)
    (λ t o. copied_on t (record o { copied = o.copied ++ pairs }) from last)

-- goes on where no member is waited for any more
abbrev pub installs_on : BrickState → OpenOrder → Leaf → BrickTurn
installs_on s o made = if is_none_left o.waiting then finishes s o made else still (going_on s o)

abbrev pub installed_in : BrickState → OpenOrder → OrderPhase → BrickTurn
installed_in s o Leasing = still s
installed_in s o (Copying source) = still s
installed_in s o (Installing made) = installs_on s o made

abbrev pub is_installing : OrderPhase → Bool
is_installing Leasing = false
is_installing (Copying source) = false
is_installing (Installing made) = true

-- Installed, while installing: a member serves the leaf that was made
abbrev pub installed_row : BrickState → NodeNo → ℕ → BrickTurn
installed_row s from number =
    at_order s number (λ o. is_installing o.phase) (λ t o. installed_in t (record o { waiting = without o.waiting from }) o.phase)
