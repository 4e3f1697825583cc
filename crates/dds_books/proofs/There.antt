use Rattle.std.proofs.Common.{◌≡◌, ℕ, ◌<◌, ◌≤◌, refl, arith}
use Rattle.std.proofs.lemmas.Bool.{both_ways}
use Rattle.dds_base.specs.Number.{Txn}
use Rattle.dds_net.specs.Net.{Net, Node, nowhere, a_brick, a_library, Sizes, is_in}
use Rattle.dds_states.specs.declared.brick_state.BrickState.{BrickState}
use Rattle.dds_states.specs.declared.library_state.LibraryState.{LibraryState}
use Rattle.dds_books.proofs.Said.{brick-inside}
use Rattle.dds_books.specs.Placed.{ArePlaced, IsBrick, Made, MadeAt, NodeOk}

-- A brick's number is of a brick, and an attempt that was made has a library.

pub record IsABrick (n : Net) (k : ℕ) : Type 0 where
  pub state : BrickState
  pub here : n.node k ≡ a_brick state

brick-is : (T : Txn → Type 0) (z : Sizes) (n : Net) (k : ℕ) (x : Node) → n.node k ≡ x → z.bricks ≤ 64 → IsBrick z k → NodeOk T z k x → IsABrick n k
brick-is T z n k nowhere e few inside h = absurd (both_ways (is_in z k) h (brick-inside z k few inside))
brick-is T z n k (a_brick s) e few inside h = record { state = s; here = e }
brick-is T z n k (a_library s) e few inside h = let high = h.high in absurd (omega (arith, high, few, inside))

pub brick-there : (z : Sizes) (n : Net) (k : ℕ) → z.bricks ≤ 64 → ArePlaced z n → IsBrick z k → IsABrick n k
brick-there z n k few g inside = brick-is (Made n) z n k (n.node k) refl few inside (g.nodes k)

pub record IsALibrary (n : Net) (t : Txn) : Type 0 where
  pub state : LibraryState
  pub here : n.node t.library ≡ a_library state
  pub made : t.number < state.next

library-is : (n : Net) (t : Txn) (x : Node) → n.node t.library ≡ x → MadeAt t x → IsALibrary n t
library-is n t nowhere e h = absurd h
library-is n t (a_brick s) e h = absurd h
library-is n t (a_library s) e h = record { state = s; here = e; made = h }

pub library-there : (n : Net) (t : Txn) → Made n t → IsALibrary n t
library-there n t h = library-is n t (n.node t.library) refl h
