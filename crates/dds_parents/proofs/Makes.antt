use Rattle.std.proofs.Common.{◌≡◌, ℕ, ◌+◌, ◌==◌, ◌&&◌, ◌⊎◌, Bool, true, false, Option, Some, None, List, [], ◌∷◌, refl, sym, ap, ◌∙◌, subst, arith, cond}
use Rattle.std.proofs.lemmas.Bool.Decides.{nat_tests}
use Rattle.std.specs.FinMap.{get, remove}
use Rattle.std.specs.Prelude.{if◌then◌else◌}
use Rattle.dds_base.specs.BrickList.{has}
use Rattle.dds_base.specs.Name.{Name}
use Rattle.dds_base.specs.NodeSet.{has_node}
use Rattle.dds_base.specs.declared.leaf.Leaf.{Leaf}
use Rattle.dds_base.specs.declared.node_set.NodeSet.{NodeSet}
use Rattle.dds_base.specs.declared.number.NodeNo.{NodeNo}
use Rattle.dds_base.specs.declared.op.OrderReply.{OrderReply}
use Rattle.dds_base.specs.declared.op.OrderReply.TheVariants as answered
use Rattle.dds_brick_rows.specs.Refusal.{is_join}
use Rattle.dds_groups.specs.Leaves.{sibling}
use Rattle.dds_law_leaf.proofs.Book.{Each, Leafing, leafing}
use Rattle.dds_law_own.proofs.Changes.{served}
use Rattle.dds_letters.specs.declared.letter.Letter.{Letter}
use Rattle.dds_letters.specs.declared.letter.Letter.TheVariants as letter
use Rattle.dds_net.proofs.Puts.{if-keeps}
use Rattle.dds_order_rows.specs.Orders as orders
use Rattle.dds_order_rows.specs.OwnOrder as order
use Rattle.dds_orders.proofs.Asked.{Asking, Orderly, deed-asked}
use Rattle.dds_orders.proofs.Deeds.{Deed, IsReady, MayBegin, Seat, makes}
use Rattle.dds_orders.proofs.OwnRows.{holding}
use Rattle.dds_orders.proofs.Standing.{deed-both}
use Rattle.dds_states.specs.Turn.{BrickTurn, is_none_left, to_each, without}
use Rattle.dds_states.specs.declared.brick_state.BrickState.{BrickState}
use Rattle.dds_states.specs.declared.brick_state.OpenOrder.{OpenOrder}
use Rattle.dds_states.specs.declared.brick_state.OrderPhase.TheVariants.{Installing}
use Rattle.dds_states.specs.declared.brick_state.Task.{Task}
use Rattle.dds_states.specs.declared.brick_state.Task.TheVariants.{Join, Split}
use Rattle.dds_trie.proofs.Cuts.{get-with}
use Rattle.dds_trie.specs.Trie.{LeafMap, cut, put}

-- The leaf that a turn of a brick makes, if it makes one: what it came from, whom it lists, and that it stands there at the turn's end.

-- a leaf stands at the brick: its open order made it, or it is one of the brick's own under some name
pub data Stands (x : Leafing) (made : Leaf) : Type 0 where
  installing : (o : OpenOrder) → x.order ≡ Some o → o.phase ≡ Installing made → Stands x made
  serving : (name : Name) → get x.leaves name ≡ Some (record made { name = name }) → Stands x made

-- it came from an old leaf, whose members it lists but for those that are known to have stopped
pub record HasMade (Old : Leaf → Type 0) (known : NodeSet) (number count : ℕ) (x : Leafing) : Type 0 where
  pub parent : Leaf
  pub made : Leaf
  pub old : Old parent
  pub stamp : made.stamp ≡ record { maker = number; count = count }
  pub prev : made.prev ≡ parent.stamp
  pub lists : (n : ℕ) → has parent.list n ≡ true → (has made.list n ≡ true) ⊎ (has_node known n ≡ true)
  pub stands : Stands x made

-- a turn of a brick that had made so many leaves
pub data Makes (Old : Leaf → Type 0) (known : NodeSet) (number count : ℕ) (t : BrickTurn) : Type 0 where
  no_leaf : t.state.made ≡ count → Makes Old known number count t
  a_leaf : t.state.made ≡ count + 1 → HasMade Old known number count (leafing t.state) → Makes Old known number count t

abbrev pub MakesFrom : (Leaf → Type 0) → BrickState → BrickTurn → Type 0
MakesFrom Old s t = Makes Old s.known s.number s.made t

pub makes-as : (Old : Leaf → Type 0) (known : NodeSet) (number count : ℕ) (t u : BrickTurn) → leafing u.state ≡ leafing t.state
    → Makes Old known number count t → Makes Old known number count u
makes-as Old known number count t u e (no_leaf made) = no_leaf (ap (λ (x : Leafing). x.made) e ∙ made)
makes-as Old known number count t u e (a_leaf made m) =
    a_leaf (ap (λ (x : Leafing). x.made) e ∙ made) (subst (HasMade Old known number count) (sym e) m)

pub makes-when : (Old : Leaf → Type 0) (s : BrickState) (c : Bool) {t u : BrickTurn} → (c ≡ true → MakesFrom Old s t) → (c ≡ false → MakesFrom Old s u)
    → MakesFrom Old s (if c then t else u)
makes-when Old s c {t = t} {u = u} f g = if-keeps (MakesFrom Old s) c t u f g

pub deed-orderly : (me : ℕ) (x y : Seat) (ls : List (NodeNo × Letter)) → Deed x ls y → Orderly me x → Orderly me y
deed-orderly me x y ls d h = record { both = deed-both me x y ls d h.both; asked = deed-asked me x y ls d h.both h.asked }

-- what is left of an order that is over
closed-leafing : (s : BrickState) (o : OpenOrder) (c : Bool)
    → leafing (record (if c then s else orders.releasing s o.name s.number) { order = None }) ≡ record (leafing s) { order = None }
closed-leafing s o true = refl
closed-leafing s o false = refl

pub served-leafing : (s : BrickState) (o : OpenOrder) (made : Leaf) (t : Task)
    → leafing (order.serving s o made t) ≡ record (leafing s) { leaves = served s.leaves o made t }
served-leafing s o made (Join via) = refl
served-leafing s o made Split = refl

ended : (s : BrickState) (o : OpenOrder) (reply : OrderReply) → leafing (order.ends s o reply).state ≡ record (leafing s) { order = None }
ended s o reply = closed-leafing s o (is_join o.task)

finished : (s : BrickState) (o : OpenOrder) (made : Leaf)
    → leafing (order.finishes s o made).state ≡ record (leafing s) { leaves = served s.leaves o made o.task; order = None }
finished s o made =
    closed-leafing (order.serving s o made o.task) o (is_join o.task)
    ∙ ap (λ (x : Leafing). record x { order = None }) (served-leafing s o made o.task)

-- the leaf is served
same-name : (n : Name) → (n.bits == n.bits && n.depth == n.depth) ≡ true
same-name n = grind (arith, nat_tests)

get-put : (m : LeafMap) (leaf : Leaf) → get (put m leaf) leaf.name ≡ Some leaf
get-put m leaf =
    get-with (cut m leaf.name) leaf.name leaf leaf.name ∙ ap (λ c. cond c (Some leaf) (get (cut m leaf.name) leaf.name)) (same-name leaf.name)

pub served-there : (x : Leafing) (m : LeafMap) (o : OpenOrder) (made : Leaf) (t : Task) → x.leaves ≡ served m o made t → Stands x made
served-there x m o made (Join via) e = serving made.name (ap (λ k. get k made.name) e ∙ get-put m made)
served-there x m o made Split e =
    serving (sibling made).name (ap (λ k. get k (sibling made).name) e ∙ get-put (put (remove m o.name) made) (sibling made))

-- whom it lists
begins : (s : BrickState) (o : OpenOrder) (leaf : Leaf) → o.leaf ≡ Some leaf → IsReady o
    → MayBegin (holding s o) o (order.made_leaf s o leaf o.task) (without (order.parting s o leaf) s.number)
begins s o leaf fixed ready =
    record {
      ready = ready;
      may = record { leaf = leaf; fixed = fixed; state = s; number = refl; known = refl; is = refl };
      count = refl;
      nodes_are = refl;
    }

lists-all : (me : ℕ) (s : BrickState) (o : OpenOrder) (leaf : Leaf) → o.leaf ≡ Some leaf → IsReady o → Orderly me (holding s o) → (n : ℕ)
    → has leaf.list n ≡ true → (has (order.made_leaf s o leaf o.task).list n ≡ true) ⊎ (has_node s.known n ≡ true)
lists-all me s o leaf fixed ready h n k =
    let made = order.made_leaf s o leaf o.task in
    let nodes = without (order.parting s o leaf) s.number in
    let p = record o { waiting = nodes; phase = Installing made } in
    let after = deed-orderly me (holding s o) _ (to_each nodes (letter.Install o.number made)) (makes o made nodes refl (begins s o leaf fixed ready)) h in
    let it : Asking me s.known p = after.asked p refl in
    it.made leaf made fixed refl n k

pub stamp-of : (s : BrickState) (o : OpenOrder) (leaf : Leaf) (t : Task) → (order.made_leaf s o leaf t).stamp ≡ record { maker = s.number; count = s.made }
stamp-of s o leaf (Join via) = refl
stamp-of s o leaf Split = refl

pub prev-of : (s : BrickState) (o : OpenOrder) (leaf : Leaf) (t : Task) → (order.made_leaf s o leaf t).prev ≡ leaf.stamp
prev-of s o leaf (Join via) = refl
prev-of s o leaf Split = refl

module _ (Old : Leaf → Type 0) (me : ℕ) where
  has-made : (s : BrickState) (o : OpenOrder) (leaf : Leaf) (x : Leafing) → o.leaf ≡ Some leaf → Old leaf → IsReady o → Orderly me (holding s o)
      → Stands x (order.made_leaf s o leaf o.task) → HasMade Old s.known s.number s.made x
  has-made s o leaf x fixed old ready h stands =
      record {
        parent = leaf;
        made = order.made_leaf s o leaf o.task;
        old = old;
        stamp = stamp-of s o leaf o.task;
        prev = prev-of s o leaf o.task;
        lists = lists-all me s o leaf fixed ready h;
        stands = stands;
      }

  installs_from : (s : BrickState) (o : OpenOrder) (leaf : Leaf) (nodes : List NodeNo) → o.leaf ≡ Some leaf → Old leaf → IsReady o
      → Orderly me (holding s o)
      → MakesFrom Old s (order.installs_from (record s { made = s.made + 1 }) o (order.made_leaf s o leaf o.task) nodes)
  installs_from s o leaf [] fixed old ready h =
      let made = order.made_leaf s o leaf o.task in
      let u = record s { made = s.made + 1 } in
      let x = leafing (order.finishes u o made).state in
      let e = finished u o made in
      a_leaf (ap (λ (y : Leafing). y.made) e)
      (has-made s o leaf x fixed old ready h (served-there x s.leaves o made o.task (ap (λ (y : Leafing). y.leaves) e)))
  installs_from s o leaf (n ∷ ns) fixed old ready h =
      let made = order.made_leaf s o leaf o.task in
      let p = record o { waiting = n ∷ ns; phase = Installing made } in
      a_leaf refl (has-made s o leaf _ fixed old ready h (installing p refl refl))

  pub installs : (s : BrickState) (o : OpenOrder) (leaf : Leaf) → o.leaf ≡ Some leaf → Old leaf → IsReady o → Orderly me (holding s o)
      → MakesFrom Old s (order.installs s o leaf)
  installs s o leaf fixed old ready h = installs_from s o leaf (without (order.parting s o leaf) s.number) fixed old ready h

  -- what makes no leaf
  pub ends : (s : BrickState) (o : OpenOrder) (reply : OrderReply) → MakesFrom Old s (order.ends s o reply)
  ends s o reply = no_leaf (ap (λ (x : Leafing). x.made) (ended s o reply))

  pub installs_on : (s : BrickState) (o : OpenOrder) (made : Leaf) → MakesFrom Old s (order.installs_on s o made)
  installs_on s o made = makes-when Old s (is_none_left o.waiting) (λ e. no_leaf (ap (λ (x : Leafing). x.made) (finished s o made))) (λ e. no_leaf refl)

  pub copies_from : (s : BrickState) (o : OpenOrder) (nodes : List NodeNo) → MakesFrom Old s (order.copies_from s o nodes)
  copies_from s o [] = ends s o answered.NoSource
  copies_from s o (n ∷ ns) = no_leaf refl

  -- all leases are there
  leased_all : (s : BrickState) (o : OpenOrder) (leaf : Leaf) (t : Task) → o.leaf ≡ Some leaf → o.task ≡ t → Old leaf → IsReady o → Orderly me (holding s o)
      → MakesFrom Old s (order.leased_all s o leaf t)
  leased_all s o leaf (Join via) fixed e old ready h = copies_from s o (order.sources s o leaf)
  leased_all s o leaf Split fixed e old ready h = installs s o leaf fixed old ready h

  leased_all_at : (s : BrickState) (o : OpenOrder) (leaf : Option Leaf) → o.leaf ≡ leaf → Each Old leaf → IsReady o → Orderly me (holding s o)
      → MakesFrom Old s (order.leased_all_at s o leaf)
  leased_all_at s o None fixed old ready h = no_leaf refl
  leased_all_at s o (Some leaf) fixed old ready h = leased_all s o leaf o.task fixed refl old ready h

  pub leases_on : (s : BrickState) (o : OpenOrder) → Each Old o.leaf → order.is_installing o.phase ≡ false → Orderly me (holding s o)
      → MakesFrom Old s (order.leases_on s o)
  leases_on s o old before h =
      makes-when Old s (is_none_left o.waiting)
      (λ n. leased_all_at s o o.leaf refl old (record { before = before; none = λ e. n }) h) (λ n. no_leaf refl)

  -- the last pairs were copied
  pub copied_all : (s : BrickState) (o : OpenOrder) (leaf : Option Leaf) → o.leaf ≡ leaf → Each Old leaf → IsReady o → Orderly me (holding s o)
      → MakesFrom Old s (order.copied_all s o leaf)
  copied_all s o None fixed old ready h = no_leaf refl
  copied_all s o (Some leaf) fixed old ready h = installs s o leaf fixed old ready h
