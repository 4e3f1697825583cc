use Rattle.std.proofs.Common.{◌≡◌, ℕ, ◌≤◌, ◌==◌, Bool, true, false, not, cond, Option, Some, None, List, [], ◌∷◌, ◌++◌, refl, sym, ap, ◌∙◌, subst}
use Rattle.std.specs.List.{AllByRecursion}
use Rattle.std.specs.Prelude.{is_some, take, if◌then◌else◌}
use Rattle.dds_base.specs.Name.{Name}
use Rattle.dds_base.specs.Number.{Txn, StampOf, same_txn}
use Rattle.dds_base.specs.Op.{the_key}
use Rattle.dds_base.specs.declared.number.CallNo.{CallNo}
use Rattle.dds_base.specs.declared.number.NodeNo.{NodeNo}
use Rattle.dds_base.specs.declared.op.Op.{Op}
use Rattle.dds_base.specs.declared.pending.Pending.{Pending}
use Rattle.dds_books.proofs.Booking.{listed-kept, start-listed}
use Rattle.dds_books.proofs.PlacedFirst.{start-placed}
use Rattle.dds_books.proofs.Placing.{placed-kept}
use Rattle.dds_books.proofs.There.{library-there}
use Rattle.dds_books.specs.Books.{AreListed, Book, Entry, LetterListed, booked}
use Rattle.dds_books.specs.Placed.{ArePlaced, LetterOk, Made}
use Rattle.dds_cluster.proofs.Sizes.{sized-start}
use Rattle.dds_cluster.specs.Trace.{is_run, run_of, start}
use Rattle.dds_cluster.specs.declared.step.Step.{Step}
use Rattle.dds_commit.proofs.Runs.{parts-hold}
use Rattle.dds_core.proofs.CallTurns.{same-is}
use Rattle.dds_letters.specs.declared.letter.Letter.TheVariants as letter
use Rattle.dds_locks.specs.Pending.{first_of, holder}
use Rattle.dds_net.proofs.Journals.{net_of}
use Rattle.dds_net.proofs.Opening.{IsNew, new_a_brick, new_a_library, no_node, start-node}
use Rattle.dds_net.proofs.Rungs.{kept-over}
use Rattle.dds_net.proofs.Runs.{IsKept, net-built, run-keeps, sized-run}
use Rattle.dds_net.specs.Net.{Net, Node, Sizes, sizes_of}
use Rattle.dds_outcomes.proofs.Entries.{ArePending, NodeHas, PendingIs, pending-kept}
use Rattle.dds_script.specs.Opening.{IsOpening, OpeningOf}
use Rattle.dds_states.specs.declared.brick_state.BrickState.{BrickState}
use Rattle.dds_talk.proofs.BrickTalks.{fits-one}
use Rattle.dds_talk.proofs.Grounds.{Ground, brick-unknown}
use Rattle.dds_talk.proofs.Locks.{at-none}
use Rattle.dds_talk.proofs.Parts.{same-self}
use Rattle.dds_talk.specs.Seen.{asks, at, is_pending, one, says, view}
use Rattle.dds_talk.specs.Table.{IsTalk}
use Rattle.dds_talk.specs.Table.Ask.{prepare}
use Rattle.dds_base.specs.NodeSet.{has_node}
use Rattle.dds_calls.proofs.Handled.{IsTaken}

-- What a brick has locked when it takes a Get or a Prepare is of another attempt.

-- the book of attempts along a run, with what is pending

abbrev Kept : Sizes → Net → Book → Type 0
Kept z n b = (ArePlaced z n × AreListed n b) × ArePending n b

pub new-pending : (o : OpeningOf) (b : Book) (k : ℕ) (x : Node) → IsNew o k x → NodeHas b k x
new-pending o b k x (no_node e) = subst (NodeHas b k) (sym e) tt
new-pending o b k x (new_a_brick e) = subst (NodeHas b k) (sym e) tt
new-pending o b k x (new_a_library high e) = subst (NodeHas b k) (sym e) tt

pub listed-too : (z : Sizes) → z.bricks ≤ 64 → z.libraries ≤ 16 → IsKept z Book (λ h n e b. booked e b) (λ h n b. ArePlaced z n × AreListed n b)
listed-too z few some h n e b u f k =
    let placed = placed-kept z few some h n e tt u f k.0 in
    (placed, listed-kept z h n e tt b u f k.0 placed k.1)

pub record Booked (o : OpeningOf) (journal : List Step) : Type 0 where
  pub book : Book
  pub placed : ArePlaced (sizes_of o) (net_of o journal)
  pub listed : AreListed (net_of o journal) book
  pub pending : ArePending (net_of o journal) book

pub run-booked : (o : OpeningOf) (journal : List Step) → IsOpening o → is_run o journal ≡ true → Booked o journal
run-booked o journal h run =
    let z = sizes_of o in
    let ran = run-keeps z (Book × Unit {0}) _ _ journal (start o) h.ranges.bricks
    (kept-over z Book (λ h n e b. booked e b) (λ h n b. ArePlaced z n × AreListed n b) (Unit {0}) (λ h n e b u. tt) (λ h n b u. ArePending n b)
    (listed-too z h.ranges.bricks h.ranges.libraries) (pending-kept z))
    (record {
      sized = sized-start o;
      books = (λ t. None, tt);
      is = ((start-placed o h, start-listed o), λ k. new-pending o (λ t. None) k _ (start-node o k));
    }) run in
    record { book = ran.books.0; placed = ran.is.0.0; listed = ran.is.0.1; pending = ran.is.1 }

-- A Get's attempt is no update's

abbrev listed_in : Option Entry → Option (List ℕ)
listed_in None = None
listed_in (Some e) = e.list

unlisted : (b : Book) (ps : List Pending) (txn : Txn) (caller : ℕ) (call : CallNo) (op : Op) → b txn
    ≡ Some (record { caller = caller; call = call; op = op; list = None }) → AllByRecursion (PendingIs b) ps → is_pending ps txn ≡ false
unlisted b [] txn caller call op e h = refl
unlisted b (p ∷ ps) txn caller call op e h = by (same_txn p.txn txn) refl (unlisted b ps txn caller call op e h.1)
  where
    by : (c : Bool) → same_txn p.txn txn ≡ c → is_pending ps txn ≡ false → is_some (cond c (Some p) (first_of ps txn)) ≡ false
    by true s k =
        let lists : None ≡ Some p.list = ap listed_in (sym e ∙ sym (ap b (same-is p.txn txn s)) ∙ h.0) in
        cc
    by false s k = k

pub get-unlocked : (o : OpeningOf) (journal : List Step) (place : ℕ) (from brick : NodeNo) (s : BrickState) (txn : Txn) (caller : ℕ) (call : CallNo) (key : ℕ)
    (name : Name) (stamp : StampOf) → IsOpening o → IsTaken o journal place from brick (letter.Get txn caller call key name stamp) s
    → is_pending s.locks.pending txn ≡ false
get-unlocked o journal place from brick s txn caller call key name stamp h t =
    let front = take place journal in
    let k = run-booked o front h t.run in
    let listed = (subst (AllByRecursion (LetterListed k.book from brick)) t.first (k.listed.letters from brick)).0 in
    unlisted k.book s.locks.pending txn caller call _ listed (subst (NodeHas k.book brick) t.here (k.pending brick))

-- A Prepare comes once

pub prepare-unlocked : (o : OpeningOf) (journal : List Step) (place : ℕ) (from brick : NodeNo) (s : BrickState) (txn : Txn) (caller : ℕ) (call : CallNo)
    (below : ℕ) (name : Name) (stamp : StampOf) (list : List NodeNo) (op : Op) → IsOpening o
    → IsTaken o journal place from brick (letter.Prepare txn caller call below name stamp list op) s → s.stopped ≡ false
    → is_pending s.locks.pending txn ≡ false
prepare-unlocked o journal place from brick s txn caller call below name stamp list op h t live =
    let front = take place journal in
    let z = sizes_of o in
    let n = net_of o front in
    let l = letter.Prepare txn caller call below name stamp list op in
    let all = parts-hold o front h t.run in
    let b = all.books in
    let says_so = (subst (AllByRecursion (LetterOk (Made n) z from brick)) t.first (all.holds.placed.letters from brick)).0 in
    let home : txn.library ≡ from = says_so.0.library in
    let lib = library-there n txn says_so.0.made in
    let ground : Ground z n = record {
      few = h.ranges.bricks;
      some = h.ranges.libraries;
      linked = all.holds.linked;
      built = net-built z (run_of o front).world (sized-run o front);
    } in
    let talk = all.holds.commit.talk txn brick lib.state s (record {
      library = lib.here;
      member = t.here;
      unknown = brick-unknown z n txn.library brick lib.state s ground lib.here t.here live;
    }) in
    let first : n.channel txn.library brick ≡ l ∷ t.others = ap (λ k. n.channel k brick) home ∙ t.first in
    let asked : asks txn (n.channel txn.library brick) ≡ one true prepare ++ asks txn t.others =
    ap (asks txn) first ∙ ap (λ c. one c prepare ++ asks txn t.others) (same-self txn) in
    let v = view lib.state (b.list txn) txn brick in
    let back = says txn (n.channel brick txn.library) in
    let where_it_is = at s.locks.pending (b.noted brick txn) txn in
    let k = has_node s.known txn.library in
    let talked : IsTalk (not lib.state.stopped) true k v (asks txn (n.channel txn.library brick)) where_it_is back =
    subst (λ c. IsTalk (not lib.state.stopped) (not c) k v (asks txn (n.channel txn.library brick)) where_it_is back) live talk in
    (at-none s.locks.pending (b.noted brick txn) txn (fits-one true prepare (asks txn t.others) asked talked)).0

-- who holds a lock

pub other-holder : (ps : List Pending) (key : ℕ) (other txn : Txn) → is_pending ps txn ≡ false → holder ps key ≡ Some other → same_txn other txn ≡ false
other-holder [] key other txn h e = cc
other-holder (p ∷ ps) key other txn h e = by (same_txn p.txn txn) refl h (the_key p.op == key) refl (λ k f. other-holder ps key other txn k f)
  where
    by : (c : Bool) → same_txn p.txn txn ≡ c → is_some (cond c (Some p) (first_of ps txn)) ≡ false → (d : Bool) → (the_key p.op == key) ≡ d
        → (is_pending ps txn ≡ false → holder ps key ≡ Some other → same_txn other txn ≡ false) → same_txn other txn ≡ false
    by true s k d f g = cc
    by false s k true f g =
        let is : p.txn ≡ other = let held : Some p.txn ≡ Some other = sym (ap (λ c. if c then Some p.txn else holder ps key) f) ∙ e in cc in
        ap (λ u. same_txn u txn) (sym is) ∙ s
    by false s k false f g = g k (sym (ap (λ c. if c then Some p.txn else holder ps key) f) ∙ e)
