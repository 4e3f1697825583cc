use Rattle.std.proofs.Common.{◌≡◌, ℕ, ◌+◌, ◌==◌, ◌++◌, Bool, true, false, Option, Some, None, List, [], ◌∷◌, refl, sym, subst, append_assoc}
use Rattle.std.proofs.lemmas.List.{append-nil}
use Rattle.std.specs.FinMap.{get, keys}
use Rattle.std.specs.List.{AllByRecursion, list_any}
use Rattle.std.specs.Prelude.{if◌then◌else◌}
use Rattle.dds_base.specs.BrickList.{has}
use Rattle.dds_base.specs.Name.{Name, overlaps}
use Rattle.dds_base.specs.NodeSet.{has_node}
use Rattle.dds_base.specs.Number.{StampOf, Txn}
use Rattle.dds_base.specs.Place.{last_key}
use Rattle.dds_base.specs.declared.leaf.Leaf.{Leaf}
use Rattle.dds_base.specs.declared.number.NodeNo.{NodeNo}
use Rattle.dds_base.specs.declared.pending.Pending.{Pending}
use Rattle.dds_brick_rows.specs.Refusal.{is_join}
use Rattle.dds_brick_rows.specs.Take.{replaced}
use Rattle.dds_law_own.proofs.Changes.{MayFix, MayMake, MayPend, MayTake, Own, kept_leases, own, served}
use Rattle.dds_letters.specs.declared.letter.Letter.{Letter}
use Rattle.dds_letters.specs.declared.letter.Letter.TheVariants as letter
use Rattle.dds_letters.specs.declared.refusal.Wanted.{Wanted}
use Rattle.dds_letters.specs.declared.refusal.Wanted.TheVariants as wanted
use Rattle.dds_locks.specs.Leases as lease
use Rattle.dds_locks.specs.Pending as locks
use Rattle.dds_order_rows.specs.OwnOrder as order
use Rattle.dds_states.specs.Turn.{BrickTurn, and_then, is_none_left, to_each, unknown, unknown_others, without}
use Rattle.dds_states.specs.declared.brick_state.BrickState.{BrickState}
use Rattle.dds_states.specs.declared.brick_state.OpenOrder.{OpenOrder}
use Rattle.dds_states.specs.declared.brick_state.OrderPhase.TheVariants.{Copying, Installing, Leasing}
use Rattle.dds_states.specs.declared.brick_state.Task.{Task}
use Rattle.dds_states.specs.declared.brick_state.Task.TheVariants.{Join, Split}

-- All that a brick's turn does to its leaves, leases, pending transactions and orders, one constructor for each deed, with what the
-- row found, and the letters that it sends. What a turn does beside these isn't told: to its pairs, to what it noted, to resolvings.

-- a brick, as its orders and those of others see it
pub record Seat : Type 0 where
  pub own : Own
  pub orders : ℕ
  pub made : ℕ

abbrev pub seat : BrickState → Seat
seat s = record { own = own s; orders = s.orders; made = s.made }

-- the letters of orders
abbrev pub is_of_orders : Letter → Bool
is_of_orders (letter.Lease number what) = true
is_of_orders (letter.Granted number leaf) = true
is_of_orders (letter.LeaseRefused number why) = true
is_of_orders (letter.Release number name) = true
is_of_orders (letter.CopyAsk number name place) = true
is_of_orders (letter.CopyPart number last pairs) = true
is_of_orders (letter.Install number leaf) = true
is_of_orders (letter.Installed number name) = true
is_of_orders other = false

abbrev pub AreOthers : List (NodeNo × Letter) → Type 0
AreOthers ls = AllByRecursion (λ (p : NodeNo × Letter). is_of_orders p.1 ≡ false) ls

abbrev pub wanted_name : Wanted → Name
wanted_name (wanted.Name name) = name
wanted_name (wanted.Leaf leaf) = leaf.name

abbrev pub wanted_stamp : Wanted → Option StampOf
wanted_stamp (wanted.Name name) = None
wanted_stamp (wanted.Leaf leaf) = Some leaf.stamp

-- the brick with other leaves, or with an order
abbrev pub with_leaves : Seat → Own → Seat
with_leaves x y = record x { own = y }

abbrev pub with_order : Seat → OpenOrder → Seat
with_order x o = record x { own = record x.own { order = Some o } }

-- an order that begins
abbrev pub new_order : Seat → Task → Name → Option Leaf → List NodeNo → OpenOrder
new_order x t name leaf asked =
    record {
      number = x.orders;
      task = t;
      name = name;
      leaf = leaf;
      asked = asked;
      granted = [];
      waiting = asked;
      copied = [];
      phase = Leasing;
    }

abbrev pub split_asked : Seat → Leaf → List NodeNo
split_asked x leaf = unknown_others leaf.list x.own.number x.own.known

pub record MayJoin (x : Seat) (name : Name) (via : NodeNo) : Type 0 where
  pub none : x.own.order ≡ None
  pub apart : list_any (λ other. overlaps other name) (keys x.own.leaves) ≡ false
  pub other : (via ≡ x.own.number → ⊥)
  pub unknown : has_node x.own.known via ≡ false

pub record MaySplit (x : Seat) (leaf : Leaf) : Type 0 where
  pub none : x.own.order ≡ None
  pub at : Name
  pub there : get x.own.leaves at ≡ Some leaf
  pub deep : (leaf.name.depth == 16) ≡ false
  pub unleased : lease.leased x.own.leases leaf.name ≡ None
  pub unlocked : locks.any_under x.own.pending leaf.name ≡ false

-- the order that asks every other member of the leaf that a first lease fixed
abbrev pub widened : Seat → OpenOrder → NodeNo → Leaf → OpenOrder
widened x o from leaf =
    record o {
      leaf = Some leaf;
      asked = o.asked ++ unknown_others leaf.list from x.own.known;
      waiting = o.waiting ++ unknown_others leaf.list from x.own.known;
    }

-- a member that granted its lease is copied from; and a leaf is made, which the members that take part install. The order isn't
-- installing yet, and waits for no lease
pub record IsReady (o : OpenOrder) : Type 0 where
  pub before : order.is_installing o.phase ≡ false
  pub none : order.is_leasing o.phase ≡ true → is_none_left o.waiting ≡ true

pub record MayCopy (x : Seat) (o : OpenOrder) (leaf : Leaf) (source : NodeNo) : Type 0 where
  pub fixed : o.leaf ≡ Some leaf
  pub granted : has o.granted source ≡ true
  pub lists : has leaf.list source ≡ true
  pub unknown : has_node x.own.known source ≡ false
  pub ready : IsReady o

pub record MayBegin (x : Seat) (o : OpenOrder) (made : Leaf) (nodes : List NodeNo) : Type 0 where
  pub ready : IsReady o
  pub may : MayMake x.own o made
  pub count : may.state.made ≡ x.made
  pub nodes_are : nodes ≡ without (order.parting may.state o may.leaf) x.own.number

-- a join asks the other members of the leaf that the first lease fixed
pub record MayWiden (x : Seat) (o : OpenOrder) (from : NodeNo) (leaf : Leaf) : Type 0 where
  pub may : MayFix x.own o leaf
  pub granted : has o.granted from ≡ true
  pub leasing : order.is_leasing o.phase ≡ true

pub data Deed (x : Seat) : List (NodeNo × Letter) → Seat → Type 0 where
  says : (ls : List (NodeNo × Letter)) → AreOthers ls → Deed x ls x
  takes : (mine leaf : Leaf) → MayTake x.own mine leaf → Deed x [] (record x { own = record x.own { leaves = replaced x.own.leaves mine leaf } })
  pends : (p : Pending) → MayPend x.own p → Deed x [] (record x { own = record x.own { pending = x.own.pending ++ p ∷ [] } })
  drops : (txn : Txn) → Deed x [] (record x { own = record x.own { pending = locks.without x.own.pending txn } })
  joins : (name : Name) (via : NodeNo) → MayJoin x name via
      → Deed x ((via, letter.Lease x.orders (wanted.Name name)) ∷ [])
      (record x { own = record x.own { order = Some (new_order x (Join via) name None (via ∷ [])) }; orders = x.orders + 1 })
  splits : (leaf : Leaf) → MaySplit x leaf
      → Deed x (to_each (split_asked x leaf) (letter.Lease x.orders (wanted.Leaf leaf)))
      (record x {
        own = record x.own {
          order = Some (new_order x Split leaf.name (Some leaf) (split_asked x leaf));
          leases = x.own.leases ++ record { name = leaf.name; holder = x.own.number } ∷ [];
        };
        orders = x.orders + 1;
      })
  loses : (o : OpenOrder) (y : NodeNo) → x.own.order ≡ Some o → has_node x.own.known y ≡ true
      → Deed x [] (with_order x (record o { waiting = without o.waiting y }))
  fixes : (o : OpenOrder) (from : NodeNo) (leaf : Leaf) → x.own.order ≡ Some o → MayWiden x o from leaf
      → Deed x (to_each (unknown_others leaf.list from x.own.known) (letter.Lease o.number (wanted.Leaf leaf))) (with_order x (widened x o from leaf))
  copies : (o : OpenOrder) (leaf : Leaf) (source : NodeNo) → x.own.order ≡ Some o → MayCopy x o leaf source
      → Deed x ((source, letter.CopyAsk o.number o.name None) ∷ []) (with_order x (record o { copied = []; phase = Copying source }))
  asks_more : (o : OpenOrder) (source : NodeNo) → x.own.order ≡ Some o → o.phase ≡ Copying source
      → Deed x ((source, letter.CopyAsk o.number o.name (last_key None o.copied)) ∷ []) x
  makes : (o : OpenOrder) (made : Leaf) (nodes : List NodeNo) → x.own.order ≡ Some o → MayBegin x o made nodes
      → Deed x (to_each nodes (letter.Install o.number made))
      (record x { own = record x.own { order = Some (record o { waiting = nodes; phase = Installing made }) }; made = x.made + 1 })
  closes : (o : OpenOrder) → x.own.order ≡ Some o
      → Deed x (to_each (unknown o.asked x.own.known) (letter.Release o.number o.name))
      (record x { own = record x.own { order = None; leases = kept_leases x.own o } })
  serves : (o : OpenOrder) (made : Leaf) → x.own.order ≡ Some o → o.phase ≡ Installing made
      → Deed x (to_each (unknown o.granted x.own.known) (letter.Release o.number o.name))
      (record x { own = record x.own { leaves = served x.own.leaves o made o.task; order = None; leases = kept_leases x.own o } })

-- Within a turn an order may owe something: the order that the brick was told is to open or to be answered; with the first grant of a
-- join, which was heard, its leaf is to be fixed, or it ends; of pairs that were heard more are to be asked for, or the leaf is made
pub data Stage : Type 0 where
  told_order : Stage
  nothing_owed : Stage
  leaf_owed : NodeNo → Leaf → Stage
  part_owed : Stage

-- what a grant makes owed by an order with this leaf, or none
abbrev pub owed_at : Option Leaf → NodeNo → Leaf → Stage
owed_at None from leaf = leaf_owed from leaf
owed_at (Some fixed) from leaf = nothing_owed

-- where nothing is done for the order: the order that was told is refused, or the order has no leaf, though it copies, or splits
pub data Leaves (x : Seat) (a b : Stage) : Type 0 where
  stays : a ≡ b → Leaves x a b
  refuses : a ≡ told_order → b ≡ nothing_owed → Leaves x a b
  copies_none : (o : OpenOrder) → x.own.order ≡ Some o → o.leaf ≡ None → a ≡ part_owed → b ≡ nothing_owed → Leaves x a b
  splits_none : (o : OpenOrder) → x.own.order ≡ Some o → o.leaf ≡ None → is_join o.task ≡ false → b ≡ nothing_owed → Leaves x a b

-- nobody that may live is copied from
abbrev pub IsUnsourced : Seat → OpenOrder → Type 0
IsUnsourced x o = (n : NodeNo) → o.phase ≡ Copying n → has_node x.own.known n ≡ true

-- a leaf is made once all leases are there, or with the last pairs
pub data MakesAt (o : OpenOrder) (a : Stage) : Type 0 where
  by_leases : order.is_leasing o.phase ≡ true → a ≡ nothing_owed → MakesAt o a
  by_pairs : (source : NodeNo) → o.phase ≡ Copying source → a ≡ part_owed → MakesAt o a

pub record EndsAt (x : Seat) (o : OpenOrder) (b : Stage) : Type 0 where
  pub before : order.is_installing o.phase ≡ false
  pub unsourced : IsUnsourced x o
  pub next : b ≡ nothing_owed

-- the stage before and after a deed
abbrev pub Staged : {x y : Seat} {ls : List (NodeNo × Letter)} → Stage → Stage → Deed x ls y → Type 0
Staged {x = x} a b (says ls others) = Leaves x a b
Staged a b (takes mine leaf may) = (a ≡ nothing_owed) × (b ≡ nothing_owed)
Staged a b (pends p may) = (a ≡ nothing_owed) × (b ≡ nothing_owed)
Staged a b (drops txn) = (a ≡ nothing_owed) × (b ≡ nothing_owed)
Staged a b (joins name via may) = (a ≡ told_order) × (b ≡ nothing_owed)
Staged a b (splits leaf may) = (a ≡ told_order) × (b ≡ nothing_owed)
Staged a b (loses o y e known) = (a ≡ nothing_owed) × (b ≡ nothing_owed)
Staged a b (fixes o from leaf e may) = (a ≡ leaf_owed from leaf) × (b ≡ nothing_owed)
Staged {x = x} a b (copies o leaf source e may) = (a ≡ nothing_owed) × (b ≡ nothing_owed) × IsUnsourced x o
Staged a b (asks_more o source e phase) = (a ≡ part_owed) × (b ≡ nothing_owed)
Staged a b (makes o made nodes e may) = MakesAt o a × (b ≡ nothing_owed)
Staged {x = x} a b (closes o e) = EndsAt x o b
Staged a b (serves o made e phase) = (a ≡ nothing_owed) × (b ≡ nothing_owed) × (is_none_left o.waiting ≡ true)

-- one deed after another, with all letters
pub data Path : Seat → List (NodeNo × Letter) → Seat → Type 0 where
  over : (x : Seat) → Path x [] x
  step : (x y z : Seat) (ls ms : List (NodeNo × Letter)) → Deed x ls y → Path y ms z → Path x (ls ++ ms) z

-- and with the stages
pub data Trip : Stage → Seat → List (NodeNo × Letter) → Stage → Seat → Type 0 where
  arrives : (a : Stage) (x : Seat) → Trip a x [] a x
  does_next :
      (a b c : Stage) (x y z : Seat) (ls ms : List (NodeNo × Letter)) (d : Deed x ls y) → Staged a b d → Trip b y ms c z → Trip a x (ls ++ ms) c z

pub path-of : {a b : Stage} {x y : Seat} {ls : List (NodeNo × Letter)} → Trip a x ls b y → Path x ls y
path-of (arrives _ x) = over x
path-of (does_next a b c x y z ls ms d q w) = step x y z ls ms d (path-of w)

pub one : {a b : Stage} {x y : Seat} {ls : List (NodeNo × Letter)} (d : Deed x ls y) → Staged a b d → Trip a x ls b y
one {a = a} {b = b} {x = x} {y = y} {ls = ls} d q =
    subst (λ ms. Trip a x ms b y) (append-nil ls) (does_next a b b x y y ls [] d q (arrives b y))

pub through : {a b c : Stage} {x y z : Seat} {ls ms : List (NodeNo × Letter)} → Trip a x ls b y → Trip b y ms c z → Trip a x (ls ++ ms) c z
through (arrives _ _) w = w
through {a = a} {c = c} {z = z} {ms = ms} (does_next _ b e x y _ ls ks d q v) w =
    subst (λ js. Trip a x js c z) (sym (append_assoc ls ks ms)) (does_next a b c x y z ls (ks ++ ms) d q (through v w))

-- a turn makes such deeds
pub record GoesFrom (a : Stage) (x : Seat) (t : BrickTurn) : Type 0 where
  pub trip : Trip a x t.out.letters nothing_owed (seat t.state)
  pub path : Path x t.out.letters (seat t.state)

abbrev pub Goes : Seat → BrickTurn → Type 0
Goes x t = GoesFrom nothing_owed x t

pub goes : {a : Stage} {x : Seat} (t : BrickTurn) → Trip a x t.out.letters nothing_owed (seat t.state) → GoesFrom a x t
goes t w = record { trip = w; path = path-of w }

-- a turn that sends letters that aren't of orders, and changes nothing of this
pub leaves : {a : Stage} {x : Seat} (t : BrickTurn) → seat t.state ≡ x → AreOthers t.out.letters → Leaves x a nothing_owed → GoesFrom a x t
leaves {a = a} {x = x} t e h q = goes t (subst (Trip a x t.out.letters nothing_owed) (sym e) (one (says t.out.letters h) q))

pub plain : {x : Seat} (t : BrickTurn) → seat t.state ≡ x → AreOthers t.out.letters → Goes x t
plain t e h = leaves t e h (stays refl)

pub does : {a : Stage} {x : Seat} (t : BrickTurn) (d : Deed x t.out.letters (seat t.state)) → Staged a nothing_owed d → GoesFrom a x t
does t d q = goes t (one d q)

-- deeds without letters, and then a turn
pub after : {a b : Stage} {x y : Seat} (t : BrickTurn) → Trip a x [] b y → GoesFrom b y t → GoesFrom a x t
after t w g = goes t (through w g.trip)

pub goes-then : {a : Stage} {x : Seat} (t : BrickTurn) (row : BrickState → BrickTurn) → GoesFrom a x t → Goes (seat t.state) (row t.state)
    → GoesFrom a x (and_then t row)
goes-then t row g h = goes (and_then t row) (through g.trip h.trip)

pub goes-if : {a : Stage} {x : Seat} (c : Bool) {t u : BrickTurn} → GoesFrom a x t → GoesFrom a x u → GoesFrom a x (if c then t else u)
goes-if true g h = g
goes-if false g h = h

pub goes-when : {a : Stage} {x : Seat} (c : Bool) {t u : BrickTurn} → (c ≡ true → GoesFrom a x t) → (c ≡ false → GoesFrom a x u)
    → GoesFrom a x (if c then t else u)
goes-when true f g = f refl
goes-when false f g = g refl

-- a turn whose state is as another one to orders
pub goes-to : {x : Seat} (y : Seat) (t : BrickTurn) → seat t.state ≡ y → AreOthers t.out.letters → Trip nothing_owed x [] nothing_owed y → Goes x t
goes-to {x = x} y t e h w = goes t (through w (plain t e h).trip)

pub others-each : (nodes : List NodeNo) (l : Letter) → is_of_orders l ≡ false → AreOthers (to_each nodes l)
others-each [] l h = tt
others-each (n ∷ ns) l h = (h, others-each ns l h)
