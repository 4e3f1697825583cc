-- The cluster as nodes by number, and what is on its way from each to each.
use Rattle.std.specs.Prelude.{ℕ, ◌+◌, ◌-◌, ◌==◌, ◌&&◌, Bool, List, [], ◌∷◌, ◌++◌, Option, Some, None, filter, map, nat_lt, slice_index_or, if◌then◌else◌}
use Rattle.dds_base.specs.declared.number.NodeNo.{NodeNo}
use Rattle.dds_letters.specs.declared.letter.Letter.{Letter}
use Rattle.dds_script.specs.Opening.{OpeningOf}
use Rattle.dds_states.specs.declared.brick_state.BrickState.{BrickState}
use Rattle.dds_states.specs.declared.library_state.LibraryState.{LibraryState}
use Rattle.dds_cluster.specs.World.{World, brick_at, library_at}
use Rattle.dds_cluster.specs.declared.step.Message.{Message}

-- what has this number
pub data Node : Type 0 where
  nowhere : Node
  a_brick : BrickState → Node
  a_library : LibraryState → Node

-- the nodes, and the letters on their way from one node to another, those on the link before those in the outbox
pub record Net : Type 0 where
  pub node : ℕ → Node
  pub channel : ℕ → ℕ → List Letter

-- so many bricks, from 0 on, and so many libraries, from 64 on
pub record Sizes : Type 0 where
  pub bricks : ℕ
  pub libraries : ℕ

abbrev pub sizes_of : OpeningOf → Sizes
sizes_of o = record { bricks = o.bricks; libraries = o.libraries }

-- the number is that of a node of the cluster
abbrev pub is_in : Sizes → ℕ → Bool
is_in z n = if nat_lt n 64 then nat_lt n z.bricks else nat_lt (n - 64) z.libraries

abbrev pub node_in : Option BrickState → Option LibraryState → Node
node_in (Some s) other = a_brick s
node_in None (Some s) = a_library s
node_in None None = nowhere

abbrev pub node_at : World → ℕ → Node
node_at w n = node_in (brick_at w n) (library_at w n)

-- a node's place among outboxes and links, in a cluster of so many bricks
abbrev pub place_in : ℕ → ℕ → ℕ
place_in bricks n = if nat_lt n 64 then n else bricks + (n - 64)

-- the outbox at a place, the link from a place to another one, and those of an outbox that are for a place
abbrev pub box : World → ℕ → List Message
box w i = slice_index_or w.outboxes i []

abbrev pub lane : World → ℕ → ℕ → List Message
lane w i j = slice_index_or (slice_index_or w.links i []) j []

abbrev pub sent : ℕ → ℕ → List Message → List Message
sent bricks j ms = filter (λ m. place_in bricks m.to == j) ms

-- what is on its way between two places: the letters on the link, and then those in the outbox
abbrev pub channel : World → ℕ → ℕ → ℕ → List Message
channel w bricks i j = lane w i j ++ sent bricks j (box w i)

abbrev pub letters_of : List Message → List Letter
letters_of ms = map (λ m. m.letter) ms

abbrev pub when_in : Bool → List Letter → List Letter
when_in b ls = if b then ls else []

abbrev pub channel_at : Sizes → World → ℕ → ℕ → List Letter
channel_at z w a b = when_in (is_in z a && is_in z b) (letters_of (channel w z.bricks (place_in z.bricks a) (place_in z.bricks b)))

abbrev pub net : Sizes → World → Net
net z w = record { node = node_at w; channel = channel_at z w }

-- a letter to this number comes to the node: the number is the node's, or that of no node, and then it comes where the
-- node's place is
abbrev pub lands : Sizes → ℕ → ℕ → Bool
lands z to b = place_in z.bricks to == place_in z.bricks b

-- those of some letters that come to the node
abbrev pub landing : Sizes → ℕ → List (NodeNo × Letter) → List Letter
landing z b [] = []
landing z b (l ∷ ls) = if lands z l.0 b then l.1 ∷ landing z b ls else landing z b ls

abbrev pub gains : Sizes → List (NodeNo × Letter) → ℕ → List Letter
gains z ls b = when_in (is_in z b) (landing z b ls)

-- the node at a number put in the place of what was there
abbrev pub put : {X : Type 0} → ℕ → X → (ℕ → X) → ℕ → X
put at x f n = if n == at then x else f n

-- what changes at one node: its state; what is left of the letters from it, and what they gain; and what is left of the
-- letters to it. Nothing else changes
pub record Change : Type 0 where
  pub at : ℕ
  pub node : Node
  pub left : ℕ → List Letter
  pub gains : ℕ → List Letter
  pub rest : ℕ → List Letter

abbrev pub changed : Net → Change → Net
changed n c =
    record { node = put c.at c.node n.node; channel = λ a b. if a == c.at then c.left b ++ c.gains b else (if b == c.at then c.rest a else n.channel a b) }
