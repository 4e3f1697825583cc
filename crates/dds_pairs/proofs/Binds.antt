use Rattle.std.proofs.Common.{◌≡◌, ℕ, ◌+◌, ◌&&◌, ◌++◌, Bool, true, false, not, Option, Some, None, List, [], ◌∷◌, refl, sym, ap, ◌∙◌, subst}
use Rattle.std.proofs.lemmas.Bool.{and_parts}
use Rattle.std.specs.List.{AllByRecursion, list_all, list_any}
use Rattle.std.specs.FinMap.{get, keys}
use Rattle.std.specs.Prelude.{is_some, length, nat_le, if◌then◌else◌, ◌==◌, ◌||◌}
use Rattle.dds_base.specs.BrickList.{has}
use Rattle.dds_base.specs.declared.brick_list.TheConstants.{MEMBERS}
use Rattle.dds_base.specs.Name.{Name, covers, overlaps, same_name}
use Rattle.dds_base.specs.NodeSet.{has_node}
use Rattle.dds_base.specs.Place.{last_key}
use Rattle.dds_base.specs.declared.leaf.Leaf.{Leaf}
use Rattle.dds_base.specs.declared.number.NodeNo.{NodeNo}
use Rattle.dds_base.specs.declared.op.Order.{Order}
use Rattle.dds_base.specs.declared.op.Order.TheVariants as the_order
use Rattle.dds_base.specs.declared.op.OrderReply.{OrderReply}
use Rattle.dds_base.specs.declared.op.OrderReply.TheVariants as answered
use Rattle.dds_base.specs.declared.pair.Pair.{Pair}
use Rattle.dds_brick_rows.specs.Refusal.{is_join}
use Rattle.dds_brick_rows.specs.declared.refusal.TheConstants.{PAIRS}
use Rattle.dds_core.proofs.Lists.{all-append}
use Rattle.dds_core.specs.Brick.{brick_input}
use Rattle.dds_core.specs.Notice as notices
use Rattle.dds_history.specs.Map.{Map}
use Rattle.dds_law_leaf.proofs.Book.{Each}
use Rattle.dds_groups.specs.Leaves.{live}
use Rattle.dds_groups.specs.Names.{low_half}
use Rattle.dds_law_own.proofs.OrderWays.{same-is, test-at}
use Rattle.dds_law_own.proofs.Owned.{Orderly, made_name}
use Rattle.dds_letters.specs.declared.refusal.Refusal.{Refusal}
use Rattle.dds_locks.specs.Leases.{leased}
use Rattle.dds_locks.specs.Pending.{any_under}
use Rattle.dds_order_rows.specs.OwnOrder as order
use Rattle.dds_order_rows.specs.Orders as orders
use Rattle.dds_pending.proofs.OrderLeaves.{IsNamed, named as order-named}
use Rattle.dds_states.specs.Turn.{BrickTurn, is_none_left, still, without}
use Rattle.dds_states.specs.declared.brick_state.BrickState.{BrickState}
use Rattle.dds_states.specs.declared.brick_state.OpenOrder.{OpenOrder}
use Rattle.dds_states.specs.declared.brick_state.OrderPhase.{OrderPhase}
use Rattle.dds_states.specs.declared.brick_state.OrderPhase.TheVariants.{Copying, Installing, Leasing}
use Rattle.dds_states.specs.declared.brick_state.Task.{Task}
use Rattle.dds_states.specs.declared.brick_state.Task.TheVariants.{Join, Split}
use Rattle.dds_trie.specs.Trie.{LeafMap, put}
use Rattle.dds_world.specs.Groups.{made_leaf}
use Rattle.dds_pairs.proofs.Copies.{OrderCopied, all-pass}

-- What a brick's own order does to its pairs: nothing, or a join that ends binds those that it copied beside the leaf that it serves.

abbrev pub AllUnder : Name → List Pair → Type 0
AllUnder name ps = AllByRecursion (λ (p : Pair). covers name p.key ≡ true) ps

-- from these pairs and leaves to those
pub data Binds (pairs : Map) (leaves : LeafMap) (name : Name) (t : Task) (u : BrickState) : Type 0 where
  kept : u.pairs ≡ pairs → Binds pairs leaves name t u
  served : (made : Leaf) (ps : List Pair) → is_join t ≡ true → made.name ≡ name → AllUnder name ps → u.pairs ≡ order.bound pairs ps
      → u.leaves ≡ put leaves made → Binds pairs leaves name t u

binds-as : (m : Map) (k : LeafMap) (name : Name) (t : Task) (u v : BrickState) → v.pairs ≡ u.pairs → v.leaves ≡ u.leaves → Binds m k name t u
    → Binds m k name t v
binds-as m k name t u v e f (kept is) = kept (e ∙ is)
binds-as m k name t u v e f (served made ps join named under is there) = served made ps join named under (e ∙ is) (f ∙ there)

abbrev BindsFrom : BrickState → OpenOrder → BrickTurn → Type 0
BindsFrom s o t = Binds s.pairs s.leaves o.name o.task t.state

binds-if : (s : BrickState) (o : OpenOrder) (c : Bool) (t u : BrickTurn) → (c ≡ true → BindsFrom s o t) → (c ≡ false → BindsFrom s o u)
    → BindsFrom s o (if c then t else u)
binds-if s o true t u f g = f refl
binds-if s o false t u f g = g refl

-- the order is over
closed-pairs : (s : BrickState) (o : OpenOrder) (c : Bool) → (if c then s else orders.releasing s o.name s.number).pairs ≡ s.pairs
closed-pairs s o true = refl
closed-pairs s o false = refl

closed-leaves : (s : BrickState) (o : OpenOrder) (c : Bool) → (if c then s else orders.releasing s o.name s.number).leaves ≡ s.leaves
closed-leaves s o true = refl
closed-leaves s o false = refl

ends : (s : BrickState) (o : OpenOrder) (reply : OrderReply) → BindsFrom s o (order.ends s o reply)
ends s o reply = kept (closed-pairs s o (is_join o.task))

serving : (s : BrickState) (o : OpenOrder) (made : Leaf) (t : Task) → made.name ≡ made_name o.name t → AllUnder o.name o.copied
    → Binds s.pairs s.leaves o.name t (order.serving s o made t)
serving s o made (Join via) named under = served made o.copied refl named under refl refl
serving s o made Split named under = kept refl

finishes : (s : BrickState) (o : OpenOrder) (made : Leaf) → made.name ≡ made_name o.name o.task → AllUnder o.name o.copied
    → BindsFrom s o (order.finishes s o made)
finishes s o made named under =
    let u = order.serving s o made o.task in
    binds-as s.pairs s.leaves o.name o.task u (order.finishes s o made).state (closed-pairs u o (is_join o.task)) (closed-leaves u o (is_join o.task))
    (serving s o made o.task named under)

-- it goes on
made-named : (s : BrickState) (o : OpenOrder) (leaf : Leaf) (t : Task) → leaf.name ≡ o.name → (order.made_leaf s o leaf t).name ≡ made_name o.name t
made-named s o leaf (Join via) e = e
made-named s o leaf Split e = ap low_half e

installs_from : (s u : BrickState) (o : OpenOrder) (made : Leaf) (nodes : List NodeNo) → u.pairs ≡ s.pairs → u.leaves ≡ s.leaves
    → made.name ≡ made_name o.name o.task → AllUnder o.name o.copied → BindsFrom s o (order.installs_from u o made nodes)
installs_from s u o made [] e f named under =
    subst (λ m. Binds m s.leaves o.name o.task (order.finishes u o made).state) e
    (subst (λ k. Binds u.pairs k o.name o.task (order.finishes u o made).state) f (finishes u o made named under))
installs_from s u o made (n ∷ ns) e f named under = kept e

-- the order's leaf has its name
abbrev NamedLeaf : OpenOrder → Option Leaf → Type 0
NamedLeaf o leaf = Each (λ (l : Leaf). l.name ≡ o.name) leaf

installs : (s : BrickState) (o : OpenOrder) (leaf : Leaf) → leaf.name ≡ o.name → AllUnder o.name o.copied → BindsFrom s o (order.installs s o leaf)
installs s o leaf named under =
    installs_from s (record s { made = s.made + 1 }) o (order.made_leaf s o leaf o.task) (without (order.parting s o leaf) s.number) refl refl
    (made-named s o leaf o.task named) under

copies_from : (s : BrickState) (o : OpenOrder) (nodes : List NodeNo) → BindsFrom s o (order.copies_from s o nodes)
copies_from s o [] = ends s o answered.NoSource
copies_from s o (n ∷ ns) = kept refl

leased_all : (s : BrickState) (o : OpenOrder) (leaf : Leaf) (t : Task) → leaf.name ≡ o.name → AllUnder o.name o.copied
    → BindsFrom s o (order.leased_all s o leaf t)
leased_all s o leaf (Join via) named under = copies_from s o (order.sources s o leaf)
leased_all s o leaf Split named under = installs s o leaf named under

leased_all_at : (s : BrickState) (o : OpenOrder) (leaf : Option Leaf) → NamedLeaf o leaf → AllUnder o.name o.copied
    → BindsFrom s o (order.leased_all_at s o leaf)
leased_all_at s o None named under = kept refl
leased_all_at s o (Some leaf) named under = leased_all s o leaf o.task named under

pub leases_on : (s : BrickState) (o : OpenOrder) → NamedLeaf o o.leaf → AllUnder o.name o.copied → BindsFrom s o (order.leases_on s o)
leases_on s o named under =
    binds-if s o (is_none_left o.waiting) (order.leased_all_at s o o.leaf) (still (order.going_on s o))
    (λ e. leased_all_at s o o.leaf named under) (λ e. kept refl)

copies_again : (s : BrickState) (o : OpenOrder) (leaf : Option Leaf) → BindsFrom s o (notices.copies_again s o leaf)
copies_again s o None = kept refl
copies_again s o (Some leaf) = copies_from s o (order.sources s o leaf)

installs_on : (s : BrickState) (o : OpenOrder) (made : Leaf) → made.name ≡ made_name o.name o.task → AllUnder o.name o.copied
    → BindsFrom s o (order.installs_on s o made)
installs_on s o made named under =
    binds-if s o (is_none_left o.waiting) (order.finishes s o made) (still (order.going_on s o)) (λ e. finishes s o made named under) (λ e. kept refl)

-- a grant
fixes : (s : BrickState) (o : OpenOrder) (from : NodeNo) (leaf : Leaf) → leaf.name ≡ o.name → AllUnder o.name o.copied
    → BindsFrom s o (order.fixes s o from leaf)
fixes s o from leaf named under =
    binds-if s o (order.is_worn leaf) _ _ (λ e. ends s o answered.Worn) (λ e.
    binds-if s o (nat_le MEMBERS (length (live leaf.list (has_node s.known)))) _ _ (λ f. ends s o answered.GroupFull)
    (λ f. leases_on s (order.widened s o from leaf) named under))

granted_join : (s : BrickState) (o : OpenOrder) (from : NodeNo) (leaf : Leaf) (q : Option Leaf) → leaf.name ≡ o.name → NamedLeaf o o.leaf
    → AllUnder o.name o.copied → BindsFrom s o (order.granted_join s o from leaf q)
granted_join s o from leaf None named its under = fixes s o from leaf named under
granted_join s o from leaf (Some fixed) named its under = leases_on s o its under

grants : (s : BrickState) (o : OpenOrder) (from : NodeNo) (leaf : Leaf) (t : Task) → o.task ≡ t → order.takes_grant s.number leaf o ≡ true
    → NamedLeaf o o.leaf → AllUnder o.name o.copied → BindsFrom s o (order.grants s o from leaf t)
grants s o from leaf (Join via) e h named under =
    let join : is_join o.task ≡ true = ap is_join e in
    let its = same_name leaf.name o.name && not (has leaf.list s.number) in
    let may = (and_parts (order.is_leasing o.phase) (not (is_join o.task) || its) h).1 in
    let p = and_parts (same_name leaf.name o.name) (not (has leaf.list s.number)) (sym (ap (λ c. not c || its) join) ∙ may) in
    granted_join s o from leaf o.leaf (same-is leaf.name o.name p.0) named under
grants s o from leaf Split e h named under = leases_on s o named under

-- the last pairs
copied_all : (s : BrickState) (o : OpenOrder) (leaf : Option Leaf) → NamedLeaf o leaf → AllUnder o.name o.copied → BindsFrom s o (order.copied_all s o leaf)
copied_all s o None named under = kept refl
copied_all s o (Some leaf) named under = installs s o leaf named under

copied_on : (s : BrickState) (o : OpenOrder) (source : NodeNo) (last : Bool) → NamedLeaf o o.leaf → AllUnder o.name o.copied
    → BindsFrom s o (order.copied_on s o source last)
copied_on s o source true named under = copied_all s o o.leaf named under
copied_on s o source false named under = kept refl

installed_in : (s : BrickState) (o : OpenOrder) (phase : OrderPhase) → Each (λ (l : Leaf). l.name ≡ made_name o.name o.task) (made_leaf phase)
    → AllUnder o.name o.copied → BindsFrom s o (order.installed_in s o phase)
installed_in s o Leasing named under = kept refl
installed_in s o (Copying source) named under = kept refl
installed_in s o (Installing made) named under = installs_on s o made named under

order_goes : (s : BrickState) (o : OpenOrder) (y : NodeNo) (phase : OrderPhase) → NamedLeaf o o.leaf
    → Each (λ (l : Leaf). l.name ≡ made_name o.name o.task) (made_leaf phase) → AllUnder o.name o.copied → BindsFrom s o (notices.order_goes s o y phase)
order_goes s o y Leasing named its under =
    binds-if s o (notices.is_lost o y o.task) _ _ (λ e. ends s o answered.NoSource)
    (λ e. leases_on s (record o { waiting = without o.waiting y }) named under)
order_goes s o y (Copying source) named its under = copies_again s o o.leaf
order_goes s o y (Installing made) named its under = installs_on s (record o { waiting = without o.waiting y }) made its under

-- the pairs of a turn: as before, or the open join's are bound beside them and its leaf is served
pub data Pairs (s u : BrickState) : Type 0 where
  same : u.pairs ≡ s.pairs → Pairs s u
  joined : (o : OpenOrder) (made : Leaf) (ps : List Pair) → s.order ≡ Some o → is_join o.task ≡ true → made.name ≡ o.name → AllUnder o.name ps
      → u.pairs ≡ order.bound s.pairs ps → u.leaves ≡ put s.leaves made → Pairs s u

pairs-of : (s u : BrickState) (o : OpenOrder) → s.order ≡ Some o → Binds s.pairs s.leaves o.name o.task u → Pairs s u
pairs-of s u o e (kept is) = same is
pairs-of s u o e (served made ps join named under is there) = joined o made ps e join named under is there

pairs-if : (s : BrickState) (c : Bool) (t u : BrickTurn) → (c ≡ true → Pairs s t.state) → (c ≡ false → Pairs s u.state)
    → Pairs s (if c then t else u).state
pairs-if s true t u f g = f refl
pairs-if s false t u f g = g refl

-- what the row owes of the open order, which passes its test
abbrev Owes : BrickState → (OpenOrder → Bool) → (BrickState → OpenOrder → BrickTurn) → Type 0
Owes s test row =
    (o : OpenOrder) → test o ≡ true → IsNamed o → AllUnder o.name o.copied → BindsFrom s o (row (record s { order = None }) o)

with-order : (me : ℕ) (s : BrickState) (test : OpenOrder → Bool) (row : BrickState → OpenOrder → BrickTurn) (q : Option OpenOrder) → Orderly me q
    → OrderCopied q → s.order ≡ q → ((o : OpenOrder) → q ≡ Some o → test o ≡ true) → Owes s test row → Pairs s (order.with_order s row q).state
with-order me s test row None h c e k f = same refl
with-order me s test row (Some o) h c e k f =
    pairs-of s (row (record s { order = None }) o).state o e (f o (k o refl) (order-named me o h) (c o refl).under)

at-order : (me : ℕ) (s : BrickState) (number : ℕ) (test : OpenOrder → Bool) (row : BrickState → OpenOrder → BrickTurn) → Orderly me s.order
    → OrderCopied s.order → Owes s test row → Pairs s (order.at_order s number test row).state
at-order me s number test row h c f =
    pairs-if s (order.is_at number test s.order) _ _ (λ e. with-order me s test row s.order h c refl (λ o i. test-at number test s.order o e i) f)
    (λ e. same refl)

pub granted_row : (me : ℕ) (s : BrickState) (from : NodeNo) (number : ℕ) (leaf : Leaf) → Orderly me s.order → OrderCopied s.order
    → Pairs s (order.granted_row s from number leaf).state
granted_row me s from number leaf h c =
    at-order me s number (order.takes_grant s.number leaf) (λ t o. order.grants t (order.with_grant o from) from leaf o.task) h c
    (λ o e n under. grants (record s { order = None }) (order.with_grant o from) from leaf o.task refl e n.leaf under)

pub lease_refused_row : (me : ℕ) (s : BrickState) (from : NodeNo) (number : ℕ) (why : Refusal) → Orderly me s.order → OrderCopied s.order
    → Pairs s (order.lease_refused_row s from number why).state
lease_refused_row me s from number why h c =
    at-order me s number (λ o. order.is_leasing o.phase) (λ t o. order.ends t o (answered.Refused (order.met_of why from))) h c
    (λ o e n under. ends (record s { order = None }) o (answered.Refused (order.met_of why from)))

part-under : (from : NodeNo) (o : OpenOrder) (pairs : List Pair) → (order.is_source from o.phase && order.fits o pairs) ≡ true → AllUnder o.name o.copied
    → AllUnder o.name (o.copied ++ pairs)
part-under from o pairs e under =
    let a = and_parts (order.is_source from o.phase) (order.fits o pairs) e in
    let all = list_all (λ (p : Pair). covers o.name p.key) pairs in
    let room = nat_le (length o.copied + length pairs) PAIRS in
    let b = and_parts all (order.starts_after (last_key None o.copied) pairs && room) a.1 in
    all-append (λ (p : Pair). covers o.name p.key ≡ true) o.copied pairs under (all-pass (λ (p : Pair). covers o.name p.key) pairs b.0)

pub copy_part_row : (me : ℕ) (s : BrickState) (from : NodeNo) (number : ℕ) (last : Bool) (pairs : List Pair) → Orderly me s.order → OrderCopied s.order
    → Pairs s (order.copy_part_row s from number last pairs).state
copy_part_row me s from number last pairs h c =
    at-order me s number (λ o. order.is_source from o.phase && order.fits o pairs)
    (λ t o. order.copied_on t (record o { copied = o.copied ++ pairs }) from last) h c
    (λ o e n under. copied_on (record s { order = None }) (record o { copied = o.copied ++ pairs }) from last n.leaf (part-under from o pairs e under))

pub installed_row : (me : ℕ) (s : BrickState) (from : NodeNo) (number : ℕ) → Orderly me s.order → OrderCopied s.order
    → Pairs s (order.installed_row s from number).state
installed_row me s from number h c =
    at-order me s number (λ o. order.is_installing o.phase) (λ t o. order.installed_in t (record o { waiting = without o.waiting from }) o.phase) h c
    (λ o e n under. installed_in (record s { order = None }) (record o { waiting = without o.waiting from }) o.phase n.made under)

-- a notice
order-goes : (me : ℕ) (s : BrickState) (y : NodeNo) (q : Option OpenOrder) → s.order ≡ q → Orderly me q → OrderCopied q
    → Pairs s (order.with_order (notices.learns s y) (λ t o. notices.order_goes t o y o.phase) q).state
order-goes me s y None e h c = same refl
order-goes me s y (Some o) e h c =
    let n = order-named me o h in
    let u = record (notices.learns s y) { order = None } in
    pairs-of s (notices.order_goes u o y o.phase).state o e (order_goes u o y o.phase n.leaf n.made (c o refl).under)

pub order_part : (me : ℕ) (s : BrickState) (y : NodeNo) → Orderly me s.order → OrderCopied s.order
    → Pairs s (notices.order_part (notices.learns s y) y).state
order_part me s y h c =
    pairs-if s (notices.concerns_some y s.order) _ _ (λ e. order-goes me s y s.order refl h c) (λ e. same refl)

-- an order that comes: the brick's pairs stay
stays : {m : Map} {k : LeafMap} {name : Name} {u : BrickState} → Binds m k name Split u → u.pairs ≡ m
stays (kept is) = is
stays (served made ps join named under is there) = cc

stays-if : (s : BrickState) (c : Bool) (t u : BrickTurn) → t.state.pairs ≡ s.pairs → u.state.pairs ≡ s.pairs → (if c then t else u).state.pairs ≡ s.pairs
stays-if s true t u e f = e
stays-if s false t u e f = f

split_opens : (s : BrickState) (leaf : Leaf) → (order.split_opens s leaf).state.pairs ≡ s.pairs
split_opens s leaf =
    let u = record (orders.leasing s leaf.name s.number) { orders = s.orders + 1 } in
    stays (leases_on u (order.new_split s leaf) refl tt)

split_leaf : (s : BrickState) (leaf : Leaf) → (order.split_leaf s leaf).state.pairs ≡ s.pairs
split_leaf s leaf =
    stays-if s (leaf.name.depth == 16) _ _ refl (stays-if s (order.is_worn leaf) _ _ refl
    (stays-if s (is_some (leased s.locks.leases leaf.name)) _ _ refl (stays-if s (any_under s.locks.pending leaf.name) _ _ refl (split_opens s leaf))))

split_named : (s : BrickState) (leaf : Option Leaf) → (order.split_named s leaf).state.pairs ≡ s.pairs
split_named s None = refl
split_named s (Some leaf) = split_leaf s leaf

pub told : (s : BrickState) (o : Order) → (brick_input s o).state.pairs ≡ s.pairs
told s (the_order.Join brick name via) =
    stays-if s s.stopped _ _ refl (stays-if s (is_some s.order) _ _ refl
    (stays-if s (list_any (λ other. overlaps other name) (keys s.leaves)) _ _ refl (stays-if s (via == s.number || has_node s.known via) _ _ refl refl)))
told s (the_order.Split brick name) = stays-if s s.stopped _ _ refl (stays-if s (is_some s.order) _ _ refl (split_named s (get s.leaves name)))
