-- What is so of a library's open calls, and of the prepares that it sends.
use Rattle.std.specs.Prelude.{ℕ, ◌≡◌, ◌≤◌, ◌<◌, true, List, Some, slice_get}
use Rattle.std.specs.List.{AllByRecursion}
use Rattle.dds_letters.specs.declared.letter.Letter.{Letter}
use Rattle.dds_letters.specs.declared.letter.Letter.TheVariants as letter
use Rattle.dds_script.specs.Opening.{OpeningOf, ranges_of}
use Rattle.dds_script.specs.Ranges.{IsRanges}
use Rattle.dds_states.specs.declared.library_state.LibraryState.{LibraryState}
use Rattle.dds_states.specs.declared.library_state.OpenCall.{OpenCall}
use Rattle.dds_cluster.specs.Trace.{is_run, run_of}
use Rattle.dds_cluster.specs.declared.step.Step.{Step}
use Rattle.dds_cluster.specs.declared.trace.Caller.{Caller}
use Rattle.dds_net.proofs.Letters.{AllSent}
use Rattle.dds_net.proofs.Pairwise.{Pairwise}
use Rattle.dds_net.specs.Event.{History, history_of}
use Rattle.dds_net.specs.Net.{Net, Node, nowhere, a_brick, a_library, net, sizes_of}

-- The invariant, of the callers, the nodes and the channels.
--
-- | part        | why it is needed                                         | which rows keep it                                      |
-- | `below`     | a new attempt is no open one's                           | what begins counts the number that it takes             |
-- | `owned`     | a call that is answered has no open attempt              | Input opens the caller and the call, an answer closes   |
-- |             |                                                          | both                                                    |
-- | `apart`     | a letter is of one open call, and a caller has one       | a caller with an open call makes no other; new attempts |
-- |             |                                                          | have new numbers                                        |
-- | `PrepareOk` | the bound below which a Prepare lets a brick forget is   | Prepare is sent with the least number; calls that go on |
-- |             | of no open attempt                                       | keep theirs or have a higher one                        |

-- the call is its caller's, who uses this library
pub record IsOwned (cs : List Caller) (at : ℕ) (c : OpenCall) : Type 0 where
  pub caller : Caller
  pub there : slice_get cs c.request.caller ≡ Some caller
  pub library : caller.library ≡ at
  pub call : caller.call ≡ Some c.request.call

-- calls of two attempts and two callers
abbrev pub Apart : OpenCall → OpenCall → Type 0
Apart c d = (c.txn.number ≡ d.txn.number → ⊥) × (c.request.caller ≡ d.request.caller → ⊥)

pub record CallsOk (cs : List Caller) (at : ℕ) (s : LibraryState) : Type 0 where
  pub below : AllByRecursion (λ (c : OpenCall). c.txn.number < s.next) s.calls
  pub owned : AllByRecursion (IsOwned cs at) s.calls
  pub apart : Pairwise Apart s.calls

abbrev pub LibraryIs : (LibraryState → Type 0) → Node → Type 0
LibraryIs P nowhere = Unit {0}
LibraryIs P (a_brick s) = Unit {0}
LibraryIs P (a_library s) = P s

-- a prepare says at most its own attempt's number, and at most those of the open calls of its library
abbrev pub PrepareOk : LibraryState → Letter → Type 0
PrepareOk s (letter.Prepare txn caller call below name stamp list op) = (below ≤ txn.number) × (txn.number < s.next)
    × AllByRecursion (λ (c : OpenCall). below ≤ c.txn.number) s.calls
PrepareOk s other = Unit {0}

abbrev pub IsNoPrepare : Letter → Type 0
IsNoPrepare (letter.Prepare txn caller call below name stamp list op) = ⊥
IsNoPrepare other = Unit {0}

abbrev pub SentOk : ℕ → Node → Letter → Type 0
SentOk a nowhere l = IsNoPrepare l
SentOk a (a_brick s) l = IsNoPrepare l
SentOk a (a_library s) l = PrepareOk s l

pub record AreBooked (h : History) (n : Net) : Type 0 where
  pub calls : (at : ℕ) → LibraryIs (CallsOk h.callers at) (n.node at)
  pub letters : AllSent SentOk n

abbrev pub CallsAreBooked : Type 0
CallsAreBooked = (o : OpeningOf) (journal : List Step) → IsRanges (ranges_of o) → is_run o journal ≡ true
    → AreBooked (history_of (run_of o journal)) (net (sizes_of o) (run_of o journal).world)
