use Rattle.std.proofs.Common.{refl, sym, subst}
use Rattle.std.specs.Prelude.{ℕ, ◌≡◌, ◌<◌, ◌||◌, ◌++◌, Bool, true, false, List, [], ◌∷◌, Option, Some, None, is_some, if◌then◌else◌}
use Rattle.std.specs.FinMap.{get, keys, remove}
use Rattle.std.specs.List.{list_any}
use Rattle.dds_base.specs.BrickList.{has}
use Rattle.dds_base.specs.Name.{Name, overlaps}
use Rattle.dds_base.specs.NodeSet.{has_node, with_node}
use Rattle.dds_base.specs.Number.{Txn}
use Rattle.dds_base.specs.Op.{the_key}
use Rattle.dds_base.specs.declared.leaf.Leaf.{Leaf}
use Rattle.dds_base.specs.declared.node_set.NodeSet.{NodeSet}
use Rattle.dds_base.specs.declared.number.NodeNo.{NodeNo}
use Rattle.dds_base.specs.declared.pair.Pair.{Pair}
use Rattle.dds_base.specs.declared.pending.Pending.{Pending}
use Rattle.dds_brick_rows.specs.Refusal.{is_join, joins_key, joins_over}
use Rattle.dds_brick_rows.specs.Take.{replaced}
use Rattle.dds_groups.specs.Leaves.{sibling, successor}
use Rattle.dds_groups.specs.Take.{is_better_rival, maker_known}
use Rattle.dds_locks.specs.Leases as lease
use Rattle.dds_locks.specs.Pending as locks
use Rattle.dds_locks.specs.declared.leases.Lease.{Lease}
use Rattle.dds_maps.specs.Own.{own_leaf}
use Rattle.dds_order_rows.specs.OwnOrder.{made_leaf}
use Rattle.dds_states.specs.Leaf.{leaf_for}
use Rattle.dds_states.specs.Turn.{BrickTurn, and_then}
use Rattle.dds_states.specs.declared.brick_state.BrickState.{BrickState}
use Rattle.dds_states.specs.declared.brick_state.OpenOrder.{OpenOrder}
use Rattle.dds_states.specs.declared.brick_state.OrderPhase.TheVariants.{Copying, Installing, Leasing}
use Rattle.dds_states.specs.declared.brick_state.Task.{Task}
use Rattle.dds_states.specs.declared.brick_state.Task.TheVariants.{Join, Split}
use Rattle.dds_trie.specs.Trie.{LeafMap, put}

-- All that a turn does to a brick's leaves, its open order, its leases and what is pending, one constructor for each change, with
-- what the row found. What a turn changes beside these, and what it sends, isn't told.

-- what of a brick its leaves and leases are about
pub record Own : Type 0 where
  pub number : ℕ
  pub known : NodeSet
  pub leaves : LeafMap
  pub order : Option OpenOrder
  pub pending : List Pending
  pub leases : List Lease

abbrev pub own : BrickState → Own
own s = record { number = s.number; known = s.known; leaves = s.leaves; order = s.order; pending = s.locks.pending; leases = s.locks.leases }

-- nothing is under way on a name
pub record IsFree (x : Own) (name : Name) : Type 0 where
  pub unleased : lease.leased x.leases name ≡ None
  pub unlocked : locks.any_under x.pending name ≡ false
  pub unjoined : joins_over x.order name ≡ false

-- a leaf that was told replaces an own one
pub record MayTake (x : Own) (mine leaf : Leaf) : Type 0 where
  pub there : own_leaf x.leaves leaf.name ≡ Some mine
  pub free : IsFree x mine.name
  pub lists : has leaf.list x.number ≡ true
  pub maker : maker_known (has_node x.known) leaf.stamp ≡ true
  pub comes : (is_some (successor mine leaf) || is_better_rival (has_node x.known) mine leaf) ≡ true

pub record MayInstall (x : Own) (mine leaf : Leaf) (from : NodeNo) : Type 0 where
  pub there : own_leaf x.leaves leaf.name ≡ Some mine
  pub leased : is_some (lease.lease_of x.leases leaf.name from) ≡ true
  pub lists : has leaf.list x.number ≡ true
  pub comes : is_some (successor mine leaf) ≡ true

-- an update is kept as pending
pub record MayPend (x : Own) (p : Pending) : Type 0 where
  pub unjoined : joins_key x.order (the_key p.op) ≡ false
  pub leaf : Leaf
  pub covers : leaf_for x.leaves (the_key p.op) ≡ Some leaf
  pub unleased : lease.lease_covers x.leases (the_key p.op) ≡ false
  pub unlocked : locks.holder x.pending (the_key p.op) ≡ None

-- a join asks for no name that an own leaf overlaps
pub record IsNewJoin (x : Own) (o : OpenOrder) : Type 0 where
  pub none : x.order ≡ None
  pub via : NodeNo
  pub task : o.task ≡ Join via
  pub leaf : o.leaf ≡ None
  pub phase : o.phase ≡ Leasing
  pub apart : list_any (λ other. overlaps other o.name) (keys x.leaves) ≡ false

pub record IsNewSplit (x : Own) (o : OpenOrder) (leaf : Leaf) : Type 0 where
  pub none : x.order ≡ None
  pub at : Name
  pub there : get x.leaves at ≡ Some leaf
  pub unleased : lease.leased x.leases leaf.name ≡ None
  pub unlocked : locks.any_under x.pending leaf.name ≡ false
  pub task : o.task ≡ Split
  pub name : o.name ≡ leaf.name
  pub fixed : o.leaf ≡ Some leaf
  pub phase : o.phase ≡ Leasing

-- a join's leaf is fixed
pub record MayFix (x : Own) (o : OpenOrder) (leaf : Leaf) : Type 0 where
  pub none : o.leaf ≡ None
  pub join : is_join o.task ≡ true
  pub name : leaf.name ≡ o.name
  pub apart : has leaf.list x.number ≡ false

-- the order's leaf is succeeded by what the brick makes
pub record MayMake (x : Own) (o : OpenOrder) (made : Leaf) : Type 0 where
  pub leaf : Leaf
  pub fixed : o.leaf ≡ Some leaf
  pub state : BrickState
  pub number : state.number ≡ x.number
  pub known : state.known ≡ x.known
  pub is : made ≡ made_leaf state o leaf o.task

-- the leases when the open order is over: a split gives its own one back
abbrev pub kept_leases : Own → OpenOrder → List Lease
kept_leases x o = if is_join o.task then x.leases else lease.released x.leases o.name x.number

abbrev pub served : LeafMap → OpenOrder → Leaf → Task → LeafMap
served m o made (Join via) = put m made
served m o made Split = put (put (remove m o.name) made) (sibling made)

pub data Change (x : Own) : Own → Type 0 where
  takes : (mine leaf : Leaf) → MayTake x mine leaf → Change x (record x { leaves = replaced x.leaves mine leaf })
  installs : (mine leaf : Leaf) (from : NodeNo) → MayInstall x mine leaf from → Change x (record x { leaves = replaced x.leaves mine leaf })
  gives : (name : Name) (leaf : Leaf) (holder : NodeNo) → get x.leaves name ≡ Some leaf → IsFree x name → has_node x.known holder ≡ false
      → Change x (record x { leases = x.leases ++ record { name = name; holder = holder } ∷ [] })
  releases : (name : Name) (holder : NodeNo) → Change x (record x { leases = lease.released x.leases name holder })
  learns : (y : NodeNo) → y < 80 → (y ≡ x.number → ⊥) → Change x (record x { known = with_node x.known y; leases = lease.released_all x.leases y })
  pends : (p : Pending) → MayPend x p → Change x (record x { pending = x.pending ++ p ∷ [] })
  drops : (txn : Txn) → Change x (record x { pending = locks.without x.pending txn })
  joins : (o : OpenOrder) → IsNewJoin x o → Change x (record x { order = Some o })
  splits : (o : OpenOrder) (leaf : Leaf) → IsNewSplit x o leaf
      → Change x (record x { order = Some o; leases = x.leases ++ record { name = leaf.name; holder = x.number } ∷ [] })
  waits : (o : OpenOrder) (granted waiting : List NodeNo) (copied : List Pair) → x.order ≡ Some o
      → Change x (record x { order = Some (record o { granted = granted; waiting = waiting; copied = copied }) })
  fixes : (o : OpenOrder) (leaf : Leaf) (asked waiting : List NodeNo) → x.order ≡ Some o → MayFix x o leaf
      → Change x (record x { order = Some (record o { leaf = Some leaf; asked = asked; waiting = waiting }) })
  copies : (o : OpenOrder) (source : NodeNo) → x.order ≡ Some o → Change x (record x { order = Some (record o { copied = []; phase = Copying source }) })
  makes : (o : OpenOrder) (made : Leaf) (waiting : List NodeNo) → x.order ≡ Some o → MayMake x o made
      → Change x (record x { order = Some (record o { waiting = waiting; phase = Installing made }) })
  closes : (o : OpenOrder) → x.order ≡ Some o → Change x (record x { order = None; leases = kept_leases x o })
  serves : (o : OpenOrder) (made : Leaf) → x.order ≡ Some o → o.phase ≡ Installing made
      → Change x (record x { leaves = served x.leaves o made o.task; order = None; leases = kept_leases x o })

-- one change after another
pub data Way : Own → Own → Type 0 where
  over : (x : Own) → Way x x
  step : (x y z : Own) → Change x y → Way y z → Way x z

pub one : {x y : Own} → Change x y → Way x y
one {x = x} {y = y} c = step x y y c (over y)

pub through : {x y z : Own} → Way x y → Way y z → Way x z
through (over _) w = w
through {z = z} (step x y _ c v) w = step x y z c (through v w)

-- what each change keeps holds at the end
pub way-keeps : (P : Own → Type 0) → ((x y : Own) → Change x y → P x → P y) → (x y : Own) → Way x y → P x → P y
way-keeps P k _ _ (over x) h = h
way-keeps P k _ _ (step x y z c w) h = way-keeps P k y z w (k x y c h)

-- a turn makes such changes
pub record Goes (x : Own) (t : BrickTurn) : Type 0 where
  pub way : Way x (own t.state)

pub same : (t : BrickTurn) → Goes (own t.state) t
same t = record { way = over (own t.state) }

pub does : {x : Own} (t : BrickTurn) → Change x (own t.state) → Goes x t
does t c = record { way = one c }

pub after : {x y : Own} (t : BrickTurn) → Way x y → Goes y t → Goes x t
after t w g = record { way = through w g.way }

pub goes-then : {x : Own} (t : BrickTurn) (row : BrickState → BrickTurn) → Goes x t → Goes (own t.state) (row t.state) → Goes x (and_then t row)
goes-then t row g h = record { way = through g.way h.way }

pub goes-if : {x : Own} (c : Bool) {t u : BrickTurn} → Goes x t → Goes x u → Goes x (if c then t else u)
goes-if true g h = g
goes-if false g h = h

pub goes-when : {x : Own} (c : Bool) {t u : BrickTurn} → (c ≡ true → Goes x t) → (c ≡ false → Goes x u) → Goes x (if c then t else u)
goes-when true f g = f refl
goes-when false f g = g refl

-- a turn that leaves the same as another state
pub goes-to : {x : Own} (u : BrickState) (t : BrickTurn) → own t.state ≡ own u → Way x (own u) → Goes x t
goes-to {x = x} u t e w = record { way = subst (Way x) (sym e) w }
