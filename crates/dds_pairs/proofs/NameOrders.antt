use Rattle.std.proofs.Common.{◌≡◌, ℕ, ◌+◌, ◌==◌, ◌++◌, Bool, true, false, Option, Some, None, List, [], ◌∷◌, refl, ap, arith}
use Rattle.std.proofs.lemmas.Bool.Decides.{nat_tests}
use Rattle.std.specs.FinMap.{get}
use Rattle.std.specs.Prelude.{is_some, if◌then◌else◌}
use Rattle.dds_base.specs.Name.{Name}
use Rattle.dds_base.specs.declared.leaf.Leaf.{Leaf}
use Rattle.dds_base.specs.declared.number.NodeNo.{NodeNo}
use Rattle.dds_base.specs.declared.op.Met.TheVariants as met
use Rattle.dds_base.specs.declared.op.OrderReply.{OrderReply}
use Rattle.dds_base.specs.declared.op.OrderReply.TheVariants as answered
use Rattle.dds_base.specs.declared.pair.Pair.{Pair}
use Rattle.dds_brick_rows.specs.Refusal.{is_join}
use Rattle.dds_groups.specs.Leaves.{sibling}
use Rattle.dds_letters.specs.declared.letter.Letter.TheVariants as letter
use Rattle.dds_letters.specs.declared.refusal.Refusal.{Refusal}
use Rattle.dds_letters.specs.declared.refusal.Wanted.TheVariants as wanted
use Rattle.dds_locks.specs.Leases.{leased}
use Rattle.dds_locks.specs.Pending.{any_under}
use Rattle.dds_order_rows.specs.OwnOrder as own_order
use Rattle.dds_order_rows.specs.OwnOrder.{parting}
use Rattle.dds_order_rows.specs.Orders as orders
use Rattle.dds_states.specs.Turn.{BrickTurn, and_then, sends, still, to_each, unknown, unknown_others, without}
use Rattle.dds_states.specs.declared.brick_state.BrickState.{BrickState}
use Rattle.dds_states.specs.declared.brick_state.OpenOrder.{OpenOrder}
use Rattle.dds_states.specs.declared.brick_state.OrderPhase.{OrderPhase}
use Rattle.dds_states.specs.declared.brick_state.OrderPhase.TheVariants.{Leasing, Copying, Installing}
use Rattle.dds_states.specs.declared.brick_state.Task.{Task}
use Rattle.dds_states.specs.declared.brick_state.Task.TheVariants as task
use Rattle.dds_world.specs.Groups.{made_leaf}
use Rattle.dds_law_leaf.proofs.Book.{Each}
use Rattle.dds_law_leaf.proofs.Maps.{in-put, in-remove}
use Rattle.dds_pairs.proofs.Names.{Fit, FitOrder, Fits, IsFit, IsHalf, IsShallow, MayHalve, fits, fits-if, fits-still, fits-then, fits-when}
use Rattle.dds_pairs.proofs.Names.{letters-each, low-named, other-named}

-- The rows of a brick's own order give leaves partitions' names.

-- an order with such leaves
abbrev pub Held : OpenOrder → Type 0
Held o = FitOrder (Some o)

-- the brick with another order
with : (s : BrickState) (o : Option OpenOrder) → Fit s → FitOrder o → Fit (record s { order = o })
with s o h k = record { is = (h.is.0, k) }

pub going_on : (s : BrickState) (o : OpenOrder) → Fit s → Held o → Fits (still (own_order.going_on s o))
going_on s o h k = fits-still (own_order.going_on s o) (with s (Some o) h k)

answers : (s : BrickState) (reply : OrderReply) → Fit s → Fits (own_order.answers s reply)
answers s reply h = fits (own_order.answers s reply) h tt

-- it is over, and its leases are given back
closes : (s : BrickState) (o : OpenOrder) (c : Bool) (nodes : List NodeNo) (reply : OrderReply) → Fit s
    → Fits (and_then (sends (record (if c then s else orders.releasing s o.name s.number) { order = None })
    (to_each nodes (letter.Release o.number o.name))) (λ t. own_order.answers t reply))
closes s o true nodes reply h =
    fits-then (record s { order = None }) _ (λ t. own_order.answers t reply) (letters-each nodes (letter.Release o.number o.name) tt)
    (answers (record s { order = None }) reply (with s None h tt))
closes s o false nodes reply h =
    let u = record (orders.releasing s o.name s.number) { order = None } in
    fits-then u _ (λ t. own_order.answers t reply) (letters-each nodes (letter.Release o.number o.name) tt) (answers u reply (record { is = (h.is.0, tt) }))

pub ends : (s : BrickState) (o : OpenOrder) (reply : OrderReply) → Fit s → Fits (own_order.ends s o reply)
ends s o reply h = closes s o (is_join o.task) (unknown o.asked s.known) reply h

-- what an order made, to be served
abbrev pub MadeHalf : Task → Leaf → Type 0
MadeHalf (task.Join via) made = Unit {0}
MadeHalf task.Split made = IsHalf made

abbrev pub IsMade : Task → Leaf → Type 0
IsMade t made = IsFit made × MadeHalf t made

serves : (s : BrickState) (o : OpenOrder) (made : Leaf) (t : Task) → Fit s → IsMade t made → Fit (own_order.serving s o made t)
serves s o made (task.Join via) h k = record { is = (in-put IsFit s.leaves made k.0 h.is.0, h.is.1) }
serves s o made task.Split h k =
    let halves = in-put IsFit _ (sibling made) (other-named made.name k.0 k.1) (in-put IsFit _ made k.0 (in-remove IsFit s.leaves o.name h.is.0)) in
    record { is = (halves, h.is.1) }

pub finishes : (s : BrickState) (o : OpenOrder) (made : Leaf) → Fit s → IsMade o.task made → Fits (own_order.finishes s o made)
finishes s o made h k =
    closes (own_order.serving s o made o.task) o (is_join o.task) (unknown o.granted s.known) answered.Done (serves s o made o.task h k)

made-in : (t : Task) (leaf : Option Leaf) (was : Option Leaf) (made : Leaf) → MayHalve t leaf was → MadeHalf t made → MayHalve t leaf (Some made)
made-in (task.Join via) leaf was made h k = tt
made-in task.Split leaf was made h k = (h.0, k)

installs_from : (s : BrickState) (o : OpenOrder) (made : Leaf) (nodes : List NodeNo) → Fit s → Held o → IsMade o.task made
    → Fits (own_order.installs_from s o made nodes)
installs_from s o made [] h k m = finishes s o made h m
installs_from s o made (n ∷ ns) h k m =
    fits _ (with s (Some (record o { waiting = n ∷ ns; phase = Installing made })) h (k.0, m.0, made-in o.task o.leaf (made_leaf o.phase) made k.2 m.1))
    (letters-each (n ∷ ns) (letter.Install o.number made) m.0)

makes : (s : BrickState) (o : OpenOrder) (leaf : Leaf) (t : Task) (was : Option Leaf) → IsFit leaf → MayHalve t (Some leaf) was
    → IsMade t (own_order.made_leaf s o leaf t)
makes s o leaf (task.Join via) was h k = (record { depth = h.depth; bits = h.bits }, tt)
makes s o leaf task.Split was h k = (low-named leaf.name h k.0, omega arith)

installs : (s : BrickState) (o : OpenOrder) (leaf : Leaf) → Fit s → Held o → IsFit leaf → MayHalve o.task (Some leaf) (made_leaf o.phase)
    → Fits (own_order.installs s o leaf)
installs s o leaf h k old may =
    installs_from (record s { made = s.made + 1 }) o (own_order.made_leaf s o leaf o.task) (without (parting s o leaf) s.number) (record { is = h.is }) k
    (makes s o leaf o.task (made_leaf o.phase) old may)

none-in : (t : Task) (leaf was : Option Leaf) → MayHalve t leaf was → MayHalve t leaf None
none-in (task.Join via) leaf was h = tt
none-in task.Split leaf was h = (h.0, tt)

copies_from : (s : BrickState) (o : OpenOrder) (nodes : List ℕ) → Fit s → Held o → Fits (own_order.copies_from s o nodes)
copies_from s o [] h k = ends s o answered.NoSource h
copies_from s o (n ∷ ns) h k = fits _ (with s (Some (record o { copied = []; phase = Copying n })) h
    (k.0, tt, none-in o.task o.leaf (made_leaf o.phase) k.2)) (tt, tt)

pub copies : (s : BrickState) (o : OpenOrder) (leaf : Leaf) → Fit s → Held o → Fits (own_order.copies s o leaf)
copies s o leaf h k = copies_from s o (own_order.sources s o leaf) h k

-- an order's leaf
abbrev pub HasLeaf : OpenOrder → Option Leaf → Type 0
HasLeaf o leaf = Each IsFit leaf × MayHalve o.task leaf (made_leaf o.phase)

leased_all : (s : BrickState) (o : OpenOrder) (leaf : Leaf) (t : Task) → Fit s → Held o → HasLeaf o (Some leaf)
    → Fits (own_order.leased_all s o leaf t)
leased_all s o leaf (task.Join via) h k old = copies s o leaf h k
leased_all s o leaf task.Split h k old = installs s o leaf h k old.0 old.1

leased_all_at : (s : BrickState) (o : OpenOrder) (leaf : Option Leaf) → Fit s → Held o → HasLeaf o leaf
    → Fits (own_order.leased_all_at s o leaf)
leased_all_at s o None h k old = going_on s o h k
leased_all_at s o (Some leaf) h k old = leased_all s o leaf o.task h k old

pub leases_on : (s : BrickState) (o : OpenOrder) → Fit s → Held o → Fits (own_order.leases_on s o)
leases_on s o h k = fits-if _ (leased_all_at s o o.leaf h k (k.0, k.2)) (going_on s o h k)

-- the orders themselves
pub join_order : (s : BrickState) (name : Name) (via : NodeNo) → Fit s → Fits (own_order.join_order s name via)
join_order s name via h =
    fits-if _ (answers s answered.Stopped h) (fits-if _ (answers s answered.OrderOpen h)
    (fits-if _ (answers s answered.AlreadyThere h) (fits-if _ (answers s answered.NoSource h)
    (fits (own_order.join_opens s name via)
    (with (record s { orders = s.orders + 1 }) (Some (own_order.opens s (task.Join via) name None (via ∷ []))) (record { is = h.is }) (tt, tt, tt)) (tt, tt)))))

split_opens : (s : BrickState) (leaf : Leaf) → Fit s → IsFit leaf → IsShallow leaf → Fits (own_order.split_opens s leaf)
split_opens s leaf h k low =
    let u = record (orders.leasing s leaf.name s.number) { orders = s.orders + 1 } in
    fits-then u _ (λ t. own_order.leases_on t (own_order.new_split s leaf))
    (letters-each (unknown_others leaf.list s.number s.known) (letter.Lease s.orders (wanted.Leaf leaf)) k)
    (leases_on u (own_order.new_split s leaf) (record { is = h.is }) (k, tt, (low, tt)))

shallow : (leaf : Leaf) → IsFit leaf → (leaf.name.depth == 16) ≡ false → IsShallow leaf
shallow leaf h e = let le = h.depth in grind (arith, nat_tests, e, le)

split_leaf : (s : BrickState) (leaf : Leaf) → Fit s → IsFit leaf → Fits (own_order.split_leaf s leaf)
split_leaf s leaf h k =
    fits-when (leaf.name.depth == 16) (λ e. answers s answered.Deepest h) (λ e. fits-if (own_order.is_worn leaf) (answers s answered.Worn h)
    (fits-if (is_some (leased s.locks.leases leaf.name)) (answers s (answered.Refused (met.Lease s.number)) h)
    (fits-if (any_under s.locks.pending leaf.name) (answers s (answered.Refused (met.Lock s.number)) h) (split_opens s leaf h k (shallow leaf k e)))))

split_named : (s : BrickState) (leaf : Option Leaf) → Fit s → Each IsFit leaf → Fits (own_order.split_named s leaf)
split_named s None h k = answers s answered.NotServing h
split_named s (Some leaf) h k = split_leaf s leaf h k

pub split_order : (s : BrickState) (name : Name) → Fit s → Fits (own_order.split_order s name)
split_order s name h =
    fits-if _ (answers s answered.Stopped h) (fits-if _ (answers s answered.OrderOpen h) (split_named s (get s.leaves name) h (h.is.0 name)))

-- letters to the open order
pub with_order : (s : BrickState) (row : BrickState → OpenOrder → BrickTurn) (o : Option OpenOrder) → Fit s → FitOrder o
    → ((t : BrickState) (x : OpenOrder) → Fit t → Held x → Fits (row t x)) → Fits (own_order.with_order s row o)
with_order s row None h k f = fits-still s h
with_order s row (Some o) h k f = f (record s { order = None }) o (with s None h tt) k

at_order : (s : BrickState) (number : ℕ) (test : OpenOrder → Bool) (row : BrickState → OpenOrder → BrickTurn) → Fit s
    → ((t : BrickState) (x : OpenOrder) → Fit t → Held x → Fits (row t x)) → Fits (own_order.at_order s number test row)
at_order s number test row h f = fits-if _ (with_order s row s.order h h.is.1 f) (fits-still s h)

join-in : (t : Task) (leaf made : Option Leaf) → is_join t ≡ true → MayHalve t leaf made
join-in (task.Join via) leaf made e = tt
join-in task.Split leaf made e = cc

fixed : (s : BrickState) (o : OpenOrder) (from : NodeNo) (leaf : Leaf) → Fit s → Held o → IsFit leaf → is_join o.task ≡ true
    → Fits (own_order.fixed s o from leaf)
fixed s o from leaf h k m e =
    fits-then s _ (λ t. own_order.leases_on t (own_order.widened s o from leaf))
    (letters-each (unknown_others leaf.list from s.known) (letter.Lease o.number (wanted.Leaf leaf)) m)
    (leases_on s (own_order.widened s o from leaf) h (m, k.1, join-in o.task (Some leaf) (made_leaf o.phase) e))

granted_join : (s : BrickState) (o : OpenOrder) (from : NodeNo) (leaf : Leaf) (own : Option Leaf) → Fit s → Held o → IsFit leaf → is_join o.task ≡ true
    → Fits (own_order.granted_join s o from leaf own)
granted_join s o from leaf None h k m e =
    fits-if _ (ends s o answered.Worn h) (fits-if _ (ends s o answered.GroupFull h) (fixed s o from leaf h k m e))
granted_join s o from leaf (Some own) h k m e = leases_on s o h k

grants : (s : BrickState) (o : OpenOrder) (from : NodeNo) (leaf : Leaf) (t : Task) → o.task ≡ t → Fit s → Held o → IsFit leaf
    → Fits (own_order.grants s o from leaf t)
grants s o from leaf (task.Join via) e h k m = granted_join s o from leaf o.leaf h k m (ap is_join e)
grants s o from leaf task.Split e h k m = leases_on s o h k

pub granted_row : (s : BrickState) (from : NodeNo) (number : ℕ) (leaf : Leaf) → Fit s → IsFit leaf
    → Fits (own_order.granted_row s from number leaf)
granted_row s from number leaf h m = at_order s number _ _ h (λ t o l k. grants t (own_order.with_grant o from) from leaf o.task refl l k m)

pub lease_refused_row : (s : BrickState) (from : NodeNo) (number : ℕ) (r : Refusal) → Fit s
    → Fits (own_order.lease_refused_row s from number r)
lease_refused_row s from number r h = at_order s number _ _ h (λ t o l k. ends t o (answered.Refused (own_order.met_of r from)) l)

copied_all : (s : BrickState) (o : OpenOrder) (leaf : Option Leaf) → Fit s → Held o → HasLeaf o leaf
    → Fits (own_order.copied_all s o leaf)
copied_all s o None h k old = going_on s o h k
copied_all s o (Some leaf) h k old = installs s o leaf h k old.0 old.1

copied_on : (s : BrickState) (o : OpenOrder) (source : NodeNo) (last : Bool) → Fit s → Held o → Fits (own_order.copied_on s o source last)
copied_on s o source true h k = copied_all s o o.leaf h k (k.0, k.2)
copied_on s o source false h k = fits _ (with s (Some o) h k) (tt, tt)

pub copy_part_row : (s : BrickState) (from : NodeNo) (number : ℕ) (last : Bool) (pairs : List Pair) → Fit s
    → Fits (own_order.copy_part_row s from number last pairs)
copy_part_row s from number last pairs h = at_order s number _ _ h (λ t o l k. copied_on t (record o { copied = o.copied ++ pairs }) from last l k)

pub installs_on : (s : BrickState) (o : OpenOrder) (made : Leaf) → Fit s → Held o → IsMade o.task made → Fits (own_order.installs_on s o made)
installs_on s o made h k m = fits-if _ (finishes s o made h m) (going_on s o h k)

installed_in : (s : BrickState) (o : OpenOrder) (phase : OrderPhase) → Fit s → Held o → Each (IsMade o.task) (made_leaf phase)
    → Fits (own_order.installed_in s o phase)
installed_in s o Leasing h k m = fits-still s h
installed_in s o (Copying source) h k m = fits-still s h
installed_in s o (Installing made) h k m = installs_on s o made h k m

pub all-made : (t : Task) (leaf made : Option Leaf) → Each IsFit made → MayHalve t leaf made → Each (IsMade t) made
all-made t leaf None h k = tt
all-made (task.Join via) leaf (Some made) h k = (h, tt)
all-made task.Split leaf (Some made) h k = (h, k.1)

pub installed_row : (s : BrickState) (from : NodeNo) (number : ℕ) → Fit s → Fits (own_order.installed_row s from number)
installed_row s from number h = at_order s number _ _ h (λ t o l k. installed_in t (record o { waiting = without o.waiting from }) o.phase l k
    (all-made o.task o.leaf (made_leaf o.phase) k.1 k.2))
