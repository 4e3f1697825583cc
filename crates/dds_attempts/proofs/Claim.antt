use Rattle.std.specs.Prelude.{ℕ, ◌≡◌, ◌≤◌, ◌<◌, ◌⊎◌, false, true, List, [], Some, slice_get}
use Rattle.std.specs.List.{AllByRecursion}
use Rattle.dds_base.specs.Number.{Txn}
use Rattle.dds_base.specs.Op.{is_get}
use Rattle.dds_base.specs.declared.number.CallNo.{CallNo}
use Rattle.dds_books.specs.Books.{Book, Entry}
use Rattle.dds_books.specs.Calls.{LibraryIs}
use Rattle.dds_cluster.specs.declared.trace.Caller.{Caller}
use Rattle.dds_cluster.specs.declared.trace.Made.{Made}
use Rattle.dds_net.proofs.Runs.{IsBuilt}
use Rattle.dds_net.specs.Event.{History}
use Rattle.dds_net.specs.Net.{Net, Sizes}
use Rattle.dds_outcomes.proofs.Entries.{ArePending}
use Rattle.dds_states.specs.declared.library_state.LibraryState.{LibraryState}
use Rattle.dds_states.specs.declared.library_state.OpenCall.{OpenCall}
use Rattle.dds_talk.specs.Books as talk
use Rattle.dds_talk.specs.Seen.{commits_now}

-- What is so of a call's attempts, of the history, the nodes, the book of what each attempt asked and the books of what was decided.
--
-- | part      | why it is needed                                              | which events keep it                                        |
-- | `pending` | a pending update's call is its attempt's in the book          | what a Prepare tells is in the book                         |
-- | `callers` | a call that is asked has a number above those before          | Input takes the call's number, an answer closes the call    |
-- | `entries` | attempts of one call are of one library; a call that is asked | a new entry is of an open call, whose caller uses the       |
-- |           | has none yet                                                  | library and can't make this call again                      |
-- | `newest`  | what is open at its library is its call's last attempt        | a new attempt has the library's next number                 |
-- | `lists`   | an attempt with members is no get and no look for a map       | members are taken from open calls, which are in the book    |
-- | `commits` | a call with a decided attempt makes no other one              | a commit is noted by a live brick only where the library    |
-- |           |                                                               | commits, or has stopped; a call that commits goes on        |
-- | `made`    | the claim of what was applied                                 | what is applied was pending; then it is decided             |

-- the entry's caller uses the attempt's library, and makes no call with its number again
pub record EntryOk (cs : List Caller) (u : Txn) (f : Entry) : Type 0 where
  pub who : Caller
  pub there : slice_get cs f.caller ≡ Some who
  pub library : who.library ≡ u.library
  pub past : f.call.0 < who.least

-- of the attempts of a call in the book none is later
abbrev pub IsLast : Book → Txn → ℕ → CallNo → Type 0
IsLast a t caller call = (u : Txn) (f : Entry) → a u ≡ Some f → f.caller ≡ caller → f.call ≡ call → u.number ≤ t.number

abbrev pub IsNewest : Book → OpenCall → Type 0
IsNewest a c = IsLast a c.txn c.request.caller c.request.call

abbrev pub AreNewest : Book → LibraryState → Type 0
AreNewest a s = AllByRecursion (IsNewest a) s.calls

-- the attempt asked these members, or there are none
pub record Listed (a : Book) (t : Txn) (list : List ℕ) : Type 0 where
  pub its : Entry
  pub there : a t ≡ Some its
  pub list_is : its.list ≡ Some list

abbrev pub ListIs : Book → Txn → List ℕ → Type 0
ListIs a t list = (list ≡ []) ⊎ Listed a t list

-- an open call with a decided attempt commits it
abbrev pub Commits : talk.Books → OpenCall → Type 0
Commits b c = b.decided c.txn ≡ true → commits_now c.phase ≡ true

abbrev pub AreCommitting : talk.Books → LibraryState → Type 0
AreCommitting b s = s.stopped ≡ false → AllByRecursion (Commits b) s.calls

-- what was applied is decided, and its call's last attempt
pub record IsApplied (a : Book) (b : talk.Books) (m : Made) : Type 0 where
  pub decided : b.decided m.txn ≡ true
  pub its : Entry
  pub there : a m.txn ≡ Some its
  pub caller_is : its.caller ≡ m.entry.caller
  pub call_is : its.call ≡ m.entry.call
  pub last : IsLast a m.txn m.entry.caller m.entry.call

abbrev pub PointIs : Book → talk.Books → Made → Type 0
PointIs a b m = is_get m.entry.op ≡ false → IsApplied a b m

-- an open call's number is below the next one of its caller
abbrev pub AreCounted : List Caller → Type 0
AreCounted cs = (k : ℕ) (x : Caller) (call : CallNo) → slice_get cs k ≡ Some x → x.call ≡ Some call → call.0 < x.least

-- `commits` is of a world whose nodes and channels are those of a cluster of this size, as each world of a run is
pub record AreLast (z : Sizes) (h : History) (n : Net) (a : Book) (b : talk.Books) : Type 0 where
  pub pending : ArePending n a
  pub callers : AreCounted h.callers
  pub entries : (u : Txn) (f : Entry) → a u ≡ Some f → EntryOk h.callers u f
  pub newest : (k : ℕ) → LibraryIs (AreNewest a) (n.node k)
  pub lists : (t : Txn) → ListIs a t (b.list t)
  pub commits : IsBuilt z n → (k : ℕ) → LibraryIs (AreCommitting b) (n.node k)
  pub made : AllByRecursion (PointIs a b) h.made
