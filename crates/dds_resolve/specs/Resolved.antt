-- The conversations of a resolver with the other members of an attempt, in the world.
use Rattle.std.specs.Prelude.{ℕ, ◌≡◌, ◌==◌, ◌++◌, Bool, true, false, List, [], find}
use Rattle.std.specs.List.{AllByRecursion}
use Rattle.dds_base.specs.BrickList.{has}
use Rattle.dds_base.specs.NodeSet.{has_node}
use Rattle.dds_base.specs.Number.{Txn}
use Rattle.dds_brick_rows.specs.Resolution.{is_of, is_ready}
use Rattle.dds_states.specs.declared.brick_state.BrickState.{BrickState}
use Rattle.dds_net.specs.Net.{Net, a_brick}
use Rattle.dds_talk.specs.Resolve.{Agreed, Resolves, Side, Tell}
use Rattle.dds_talk.specs.Resolve.Tell.{query, outcome}
use Rattle.dds_talk.specs.Seen.{about, one}
use Rattle.dds_talk.specs.Table.{At}
use Rattle.dds_resolve.specs.Conversations.{SeenOk}
use Rattle.dds_resolve.specs.Resolving.{own_at, side, status_in, tell_in, waits}

-- A live member, of a resolver whose side this is, with what is behind the letters to it and what is on its way back. The questions
-- that it put off are written as what they will be answered.
pub record Member (n : Net) (d : Bool) (t : Txn) (list : List ℕ) (f m : ℕ) (y : BrickState) (v : Side) (cut : List Tell) (back : List At) : Type 0 where
  pub put : Bool
  pub waiting : waits (own_at y t) f t y.deferred ≡ one put (own_at y t)
  pub now : Resolves d v (about tell_in t (n.channel f m) ++ cut) put (is_ready y.known t list f) (own_at y t) back

-- both live
abbrev pub Alive : Net → Bool → Txn → List ℕ → ℕ → ℕ → BrickState → BrickState → Type 0
Alive n d t list f m x y = Member n d t list f m y (side x t m) [] (about status_in t (n.channel m f))

-- the member has stopped, and the resolver doesn't know that: what the member hadn't posted is cut off, and of what was sent to it,
-- and of its own state, nothing is said
pub record Lost (n : Net) (d : Bool) (t : Txn) (f m : ℕ) (x : BrickState) : Type 0 where
  pub out : List Tell
  pub put : Bool
  pub ready : Bool
  pub at : At
  pub cut : List At
  pub agreed : Agreed d at
  pub now : Resolves d (side x t m) out put ready at (about status_in t (n.channel m f) ++ cut)

-- a live resolver and another member
pub record Pair (n : Net) (list : Txn → List ℕ) (t : Txn) (f m : ℕ) (x y : BrickState) : Type 0 where
  pub resolver : n.node f ≡ a_brick x
  pub lives : x.stopped ≡ false
  pub member : n.node m ≡ a_brick y
  pub apart : (f == m) ≡ false
  pub in_list : has (list t) m ≡ true
  pub unknown : has_node x.known m ≡ false

-- A resolver that has stopped, and a live member that doesn't know it yet: an outcome on its way is what was decided, and the
-- member is ready
abbrev pub ToldOk : Bool → Bool → Tell → Type 0
ToldOk d r query = Unit {0}
ToldOk d r (outcome c) = (c ≡ d) × (r ≡ true)

pub record LeftOver (n : Net) (d : Bool) (t : Txn) (list : List ℕ) (f m : ℕ) (y : BrickState) : Type 0 where
  pub told : AllByRecursion (ToldOk d (is_ready y.known t list f)) (about tell_in t (n.channel f m))

pub record LeftPair (n : Net) (list : Txn → List ℕ) (t : Txn) (f m : ℕ) (x y : BrickState) : Type 0 where
  pub resolver : n.node f ≡ a_brick x
  pub stops : x.stopped ≡ true
  pub member : n.node m ≡ a_brick y
  pub lives : y.stopped ≡ false
  pub apart : (f == m) ≡ false
  pub in_list : has (list t) m ≡ true
  pub unknown : has_node y.known f ≡ false

-- | part    | why it is needed                                                      | what keeps it                                       |
-- | `alive` | what a resolver hears is how far the member is; an outcome is what    | Help, Query, Status, Outcome, Notice; a call's row  |
-- |         | was decided                                                           | at a member that isn't ready                        |
-- | `lost`  | the same of a status whose member has stopped                         | the resolver's rows; the member's stop              |
-- | `left`  | an outcome of a resolver that stopped is what was decided             | the resolver's stop; a later resolver decides only  |
-- |         |                                                                       | where all members are ready, so know the former one |
-- | `seen`  | what a resolver has seen so far fits what was decided, and itself     | the resolver's rows                                 |
pub record Resolve (n : Net) (list : Txn → List ℕ) (decided : Txn → Bool) : Type 0 where
  pub alive : (t : Txn) (f m : ℕ) (x y : BrickState) → Pair n list t f m x y → y.stopped ≡ false → Alive n (decided t) t (list t) f m x y
  pub lost : (t : Txn) (f m : ℕ) (x y : BrickState) → Pair n list t f m x y → y.stopped ≡ true → Lost n (decided t) t f m x
  pub left : (t : Txn) (f m : ℕ) (x y : BrickState) → LeftPair n list t f m x y → LeftOver n (decided t) t (list t) f m y
  pub seen : (t : Txn) (f : ℕ) (x : BrickState) → n.node f ≡ a_brick x → x.stopped ≡ false →
      SeenOk (decided t) (list t) (own_at x t) (find (is_of t) x.resolving)
