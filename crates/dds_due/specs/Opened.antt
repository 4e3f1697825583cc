use Rattle.std.specs.Prelude.{ℕ, ◌≡◌, ◌⊎◌, true, false, List, [], ◌∷◌, Some, is_some, slice_get}
use Rattle.std.specs.List.{AllByRecursion}
use Rattle.dds_base.specs.declared.number.CallNo.{CallNo}
use Rattle.dds_books.specs.Calls.{LibraryIs}
use Rattle.dds_cluster.specs.declared.trace.Asked.{Asked}
use Rattle.dds_cluster.specs.declared.trace.Caller.{Caller}
use Rattle.dds_cluster.specs.declared.trace.Told.{Told}
use Rattle.dds_net.specs.Event.{History}
use Rattle.dds_net.specs.Net.{Net, Node}
use Rattle.dds_states.specs.Leaf.{leaf_for}
use Rattle.dds_states.specs.declared.library_state.LibraryState.{LibraryState}
use Rattle.dds_states.specs.declared.library_state.OpenCall.{OpenCall}
use Rattle.dds_trie.specs.Trie.{LeafMap}
use Rattle.dds_world.specs.Stands.{answer_to}

-- Which calls are open, of the callers, the nodes and what is kept of a run.
--
-- | part     | why it is needed                                       | what keeps it                                               |
-- | `finds`  | a call that begins finds a leaf for its key, so it     | a leaf that is put into a map covers the keys of the leaves |
-- |          | isn't dropped without an answer                        | that it takes away                                          |
-- | `opened` | a call that nobody has open waits for no letter        | Input opens caller and call; a call's turn goes on with the |
-- |          |                                                        | call, or answers it, which closes both                      |
-- | `asked`  | a caller without an open call was answered each call   | only an open call is answered, and it is the caller's       |

-- a fact of one of a list's items
abbrev pub OfOne : {X : Type 0} → (X → Type 0) → List X → Type 0
OfOne P [] = ⊥
OfOne P (x ∷ xs) = P x ⊎ OfOne P xs

-- the open call is the caller's call with this number
pub record IsCall (caller : ℕ) (call : CallNo) (c : OpenCall) : Type 0 where
  pub caller_is : c.request.caller ≡ caller
  pub call_is : c.request.call ≡ call

-- the caller has the call open
pub record HasOpen (cs : List Caller) (caller : ℕ) (call : CallNo) : Type 0 where
  pub who : Caller
  pub there : slice_get cs caller ≡ Some who
  pub call_is : who.call ≡ Some call

-- the open calls of the callers that use this library are among the library's
abbrev pub Lists : List Caller → ℕ → LibraryState → Type 0
Lists cs at s =
    (caller : ℕ) (who : Caller) (call : CallNo) → slice_get cs caller ≡ Some who → who.library ≡ at → who.call ≡ Some call
    → OfOne (IsCall caller call) s.calls

-- where it lives
abbrev pub ListsOpen : List Caller → ℕ → Node → Type 0
ListsOpen cs at x = LibraryIs (λ s. s.stopped ≡ false → Lists cs at s) x

-- a map has a leaf for each key
abbrev pub FindsAll : LeafMap → Type 0
FindsAll m = (key : ℕ) → is_some (leaf_for m key) ≡ true

abbrev pub NodeFinds : Node → Type 0
NodeFinds x = LibraryIs (λ s. FindsAll s.map) x

-- a call that was asked was answered, or its caller has it open
abbrev pub IsAnsweredOrOpen : List Caller → List Told → Asked → Type 0
IsAnsweredOrOpen cs told a = (is_some (answer_to told a.caller a.call) ≡ true) ⊎ HasOpen cs a.caller a.call

pub record AreOpened (h : History) (n : Net) : Type 0 where
  pub finds : (k : ℕ) → NodeFinds (n.node k)
  pub opened : (k : ℕ) → ListsOpen h.callers k (n.node k)
  pub asked : AllByRecursion (IsAnsweredOrOpen h.callers h.told) h.asked
