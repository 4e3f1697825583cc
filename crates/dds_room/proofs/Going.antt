use Rattle.std.proofs.Common.{◌≡◌, ℕ, ◌++◌, true, false, Some, List, refl}
use Rattle.std.proofs.lemmas.Bool.{both_ways}
use Rattle.dds_letters.specs.declared.letter.Letter.{Letter}
use Rattle.dds_net.specs.Event.{IsDeaf}
use Rattle.dds_net.specs.Net.{Node, nowhere, a_brick, a_library}
use Rattle.dds_states.specs.declared.brick_state.BrickState.{BrickState}
use Rattle.dds_states.specs.declared.brick_state.OpenOrder.{OpenOrder}
use Rattle.dds_states.specs.declared.brick_state.OrderPhase.TheVariants.{Copying}
use Rattle.dds_states.specs.declared.library_state.LibraryState.{LibraryState}
use Rattle.dds_room.proofs.Busy.{Busy, more-back}
use Rattle.dds_room.proofs.Copying.{OrderJoins}

-- What goes on between two nodes: where the one's order copies from the other. Of a node that has stopped, and of a library, nothing is said.

-- | part        | why it is needed                              | what keeps it                                                            |
-- |-------------|-----------------------------------------------|--------------------------------------------------------------------------|
-- | `Going`     | claimed: an order that copies from a live     | what begins to copy asks; a source that is asked answers, since it holds |
-- |             | brick has asked it, or is answered            | the lease and the leaf; a part that comes fits, so more is asked for, or |
-- |             |                                               | the leaf is made                                                         |
-- | `NodeJoins` | joins alone copy: what they copy is the       | what begins to copy                                                      |
-- |             | table's                                       |                                                                          |

-- of two nodes and both channels between them
abbrev pub GoesWith : ℕ → ℕ → BrickState → Node → List Letter → List Letter → Type 0
GoesWith j m s nowhere out back = Unit {0}
GoesWith j m s (a_library t) out back = Unit {0}
GoesWith j m s (a_brick t) out back =
    (j ≡ m → ⊥) → s.stopped ≡ false → t.stopped ≡ false → (o : OpenOrder) → s.order ≡ Some o → o.phase ≡ Copying m → Busy o out back

abbrev pub Going : ℕ → ℕ → Node → Node → List Letter → List Letter → Type 0
Going j m nowhere y out back = Unit {0}
Going j m (a_library s) y out back = Unit {0}
Going j m (a_brick s) y out back = GoesWith j m s y out back

abbrev pub NodeJoins : ℕ → Node → Type 0
NodeJoins k nowhere = Unit {0}
NodeJoins k (a_brick s) = OrderJoins s.order
NodeJoins k (a_library s) = Unit {0}

lives-not : (s : BrickState) → s.stopped ≡ true → s.stopped ≡ false → ⊥
lives-not s e f = both_ways s.stopped f e

-- a stopped node, and a library
pub gone-from : (j m : ℕ) (s : BrickState) (y : Node) (out back : List Letter) → s.stopped ≡ true → GoesWith j m s y out back
gone-from j m s nowhere out back e = tt
gone-from j m s (a_library t) out back e = tt
gone-from j m s (a_brick t) out back e = λ ne live also. absurd (lives-not s e live)

pub deaf-from : (j m : ℕ) (x y : Node) (out back : List Letter) → IsDeaf x → Going j m x y out back
deaf-from j m nowhere y out back e = tt
deaf-from j m (a_library s) y out back e = tt
deaf-from j m (a_brick s) y out back e = gone-from j m s y out back e

pub deaf-to : (j m : ℕ) (x y : Node) (out back : List Letter) → IsDeaf y → Going j m x y out back
deaf-to j m nowhere y out back e = tt
deaf-to j m (a_library s) y out back e = tt
deaf-to j m (a_brick s) nowhere out back e = tt
deaf-to j m (a_brick s) (a_library t) out back e = tt
deaf-to j m (a_brick s) (a_brick t) out back e = λ ne live also. absurd (lives-not t e also)

pub no-member : (j m : ℕ) (x : Node) (t : LibraryState) (out back : List Letter) → Going j m x (a_library t) out back
no-member j m nowhere t out back = tt
no-member j m (a_library s) t out back = tt
no-member j m (a_brick s) t out back = tt

pub with-itself : (k : ℕ) (x y : Node) (out back : List Letter) → Going k k x y out back
with-itself k nowhere y out back = tt
with-itself k (a_library s) y out back = tt
with-itself k (a_brick s) nowhere out back = tt
with-itself k (a_brick s) (a_library t) out back = tt
with-itself k (a_brick s) (a_brick t) out back = λ ne. absurd (ne refl)

-- the member says more
pub grows-with : (j m : ℕ) (x : Node) (t u : BrickState) (out back more : List Letter) → (u.stopped ≡ false → t.stopped ≡ false)
    → Going j m x (a_brick t) out back → Going j m x (a_brick u) out (back ++ more)
grows-with j m nowhere t u out back more f h = tt
grows-with j m (a_library s) t u out back more f h = tt
grows-with j m (a_brick s) t u out back more f h = λ ne live also o e phase. more-back o out back more (h ne live (f also) o e phase)
