use Rattle.std.specs.Prelude.{ℕ, ◌≡◌, ◌<◌, List, Some}
use Rattle.std.specs.List.{AllByRecursion}
use Rattle.dds_base.specs.Number.{Txn}
use Rattle.dds_base.specs.declared.number.CallNo.{CallNo}
use Rattle.dds_base.specs.declared.op.Op.{Op}
use Rattle.dds_books.specs.Books.{Book, Entry}
use Rattle.dds_books.specs.Calls.{LibraryIs}
use Rattle.dds_cluster.specs.declared.trace.Asked.{Asked}
use Rattle.dds_cluster.specs.declared.trace.Caller.{Caller}
use Rattle.dds_cluster.specs.declared.trace.Made.{Made}
use Rattle.dds_net.proofs.Pairwise.{Pairwise}
use Rattle.dds_net.specs.Event.{History}
use Rattle.dds_net.specs.Net.{Net}
use Rattle.dds_once.proofs.Lists.{OtherUpdate}
use Rattle.dds_once.proofs.Points.{HasEntry}
use Rattle.dds_once.proofs.Requests.{OfCall}
use Rattle.dds_once.proofs.Used.{IsUsed}
use Rattle.dds_states.specs.declared.library_state.LibraryState.{LibraryState}

-- What is so of the calls that were asked and of the points, of the history, the nodes and the book of what each attempt asked.
--
-- | part      | why it is needed                                        | which events keep it                                            |
-- | `past`    | a call is asked once, before the points of later steps  | Input takes a number that its caller hasn't used                |
-- | `calls`   | a new attempt has the operation of its call             | an open call keeps its request; a new call's number is unused   |
-- | `entries` | a point's operation is that of its call                 | a new entry is of an open call                                  |
-- | `points`  | a point's call has an entry                             | what is applied was pending; what is read a Get asked           |
-- | `behind`  | the claim of places                                     | a call that is asked has no entry yet, so no point              |
-- | `once`    | two points of one attempt aren't both kept              | of each attempt's applied points the first is kept              |

pub record IsPast (cs : List Caller) (steps : ℕ) (x : Asked) : Type 0 where
  pub used : IsUsed cs x.caller x.call
  pub before : x.place < steps

-- a call with this number has this operation
abbrev pub AsksThis : ℕ → CallNo → Op → Asked → Type 0
AsksThis caller call o x = x.caller ≡ caller → x.call ≡ call → x.op ≡ o

abbrev pub AllAsk : List Asked → ℕ → CallNo → Op → Type 0
AllAsk asked caller call o = AllByRecursion (AsksThis caller call o) asked

abbrev pub AreAsked : List Asked → LibraryState → Type 0
AreAsked asked s = AllByRecursion (OfCall (AllAsk asked)) s.calls

-- a point stands behind the Input of its call
abbrev pub IsBehind : Made → Asked → Type 0
IsBehind m x = x.caller ≡ m.entry.caller → x.call ≡ m.entry.call → x.place < m.place

abbrev pub AllBehind : List Asked → Made → Type 0
AllBehind asked m = AllByRecursion (IsBehind m) asked

pub record AreOnce (h : History) (n : Net) (a : Book) : Type 0 where
  pub past : AllByRecursion (IsPast h.callers h.steps) h.asked
  pub calls : (k : ℕ) → LibraryIs (AreAsked h.asked) (n.node k)
  pub entries : (u : Txn) (f : Entry) → a u ≡ Some f → AllAsk h.asked f.caller f.call f.op
  pub points : AllByRecursion (HasEntry a) h.made
  pub behind : AllByRecursion (AllBehind h.asked) h.made
  pub once : Pairwise OtherUpdate h.made
