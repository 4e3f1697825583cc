use Rattle.std.specs.Prelude.{ℕ, ◌≡◌, ◌<◌, false, true, List, Some}
use Rattle.std.specs.List.{AllByRecursion}
use Rattle.dds_base.specs.Op.{is_get}
use Rattle.dds_books.specs.Books.{Book}
use Rattle.dds_books.specs.Calls.{LibraryIs}
use Rattle.dds_cluster.specs.declared.trace.Made.{Made}
use Rattle.dds_cluster.specs.declared.trace.Told.{Told}
use Rattle.dds_net.proofs.Carried.{AllCarried}
use Rattle.dds_net.specs.Event.{History}
use Rattle.dds_net.specs.Net.{Net}
use Rattle.dds_states.specs.declared.library_state.LibraryState.{LibraryState}
use Rattle.dds_states.specs.declared.library_state.OpenCall.{OpenCall}
use Rattle.dds_world.specs.Stands.{is_result}
use Rattle.dds_answered.proofs.Backed.{IsBacked}
use Rattle.dds_answered.proofs.Having.{Has, IsUpdateOf}
use Rattle.dds_answered.proofs.Results.{is_flagged}
use Rattle.dds_answered.proofs.Updates.{AreUpdates}

-- Each result has its point, of the history, the nodes and the channels, and the book of what each attempt asked.
--
-- | part      | why it is needed                                          | which events keep it                                                |
-- | `updates` | a point that was applied is no get's, so its attempt's    | members are told by updates' open calls                             |
-- |           | later ones aren't kept                                    |                                                                     |
-- | `letters` | what a Got or an Applied says a call is answered          | Get reads and Commit applies in the turn that sends it; no other    |
-- |           |                                                           | row sends one; points only grow                                     |
-- | `flags`   | a call may be answered by a flag that it kept             | a flag is kept of an Applied; Committing stays with its attempt     |
-- | `places`  | an entry stands before the answer                         | points stand at their step, an answer comes in a later one          |
-- | `told`    | the claim                                                 | a result comes from a Got, or from an Applied, now or kept          |

abbrev pub FlagBacked : List Made → OpenCall → Type 0
FlagBacked made c = is_flagged c.phase ≡ true → Has made (IsUpdateOf c.txn)

abbrev pub FlagsBacked : List Made → LibraryState → Type 0
FlagsBacked made s = AllByRecursion (FlagBacked made) s.calls

-- the point of an answer, before it: what its attempt read, with this reply; or an update of its call
abbrev pub IsItsRead : Told → Made → Type 0
IsItsRead r m = (r.read ≡ Some m.txn) × (is_get m.entry.op ≡ true) × (m.entry.reply ≡ r.reply) × (m.place < r.place)

abbrev pub IsItsUpdate : Told → Made → Type 0
IsItsUpdate r m = (is_get m.entry.op ≡ false) × (m.entry.caller ≡ r.caller) × (m.entry.call ≡ r.call) × (m.place < r.place)

pub data HasPoint (made : List Made) (r : Told) : Type 0 where
  was_read : Has made (IsItsRead r) → HasPoint made r
  was_applied : Has made (IsItsUpdate r) → HasPoint made r

abbrev pub ToldBacked : List Made → Told → Type 0
ToldBacked made r = is_result r.reply ≡ true → HasPoint made r

pub record AreBacked (h : History) (n : Net) (a : Book) : Type 0 where
  pub updates : AreUpdates a
  pub letters : AllCarried (λ x y l. IsBacked h.made l) n
  pub flags : (k : ℕ) → LibraryIs (FlagsBacked h.made) (n.node k)
  pub places : AllByRecursion (λ (m : Made). m.place < h.steps) h.made
  pub told : AllByRecursion (ToldBacked h.made) h.told
