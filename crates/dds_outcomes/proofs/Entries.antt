use Rattle.std.proofs.Common.{◌≡◌, ℕ, Some, sym, ap, subst}
use Rattle.std.specs.List.{AllByRecursion}
use Rattle.dds_base.specs.declared.pending.Pending.{Pending}
use Rattle.dds_books.proofs.Booking.{listed-within}
use Rattle.dds_books.specs.Books.{AreListed, Book, IsWithin, LetterListed, booked}
use Rattle.dds_books.specs.Placed.{ArePlaced}
use Rattle.dds_core.proofs.LetterTells.{Any}
use Rattle.dds_core.proofs.Lists.{all-map}
use Rattle.dds_core.proofs.OrderTells.{order-rests}
use Rattle.dds_core.proofs.Rests.{Whole}
use Rattle.dds_letters.specs.declared.letter.Letter.{Letter}
use Rattle.dds_letters.specs.declared.letter.Letter.TheVariants as letter
use Rattle.dds_net.proofs.Carried.{Becomes, nodes-moved}
use Rattle.dds_net.proofs.Rungs.{IsKeptOver}
use Rattle.dds_net.specs.Event.{Event, Fits, History, nothing, unheard, unasked, brick_takes, brick_told, brick_stops, library_takes, library_asked}
use Rattle.dds_net.specs.Event.{library_stops}
use Rattle.dds_net.specs.Net.{Net, Node, nowhere, a_brick, a_library, Sizes}
use Rattle.dds_outcomes.proofs.PendingRows.{AllPending, AsksFor, turn-all}

-- A pending update is what its attempt asked: its caller, its call, its operation and its members.

abbrev pub PendingIs : Book → Pending → Type 0
PendingIs b p = b p.txn ≡ Some (record { caller = p.caller; call = p.call; op = p.op; list = Some p.list })

abbrev pub NodeHas : Book → ℕ → Node → Type 0
NodeHas b k nowhere = Unit {0}
NodeHas b k (a_brick s) = AllPending (PendingIs b) s
NodeHas b k (a_library s) = Unit {0}

abbrev pub ArePending : Net → Book → Type 0
ArePending n b = (k : ℕ) → NodeHas b k (n.node k)

later : (b c : Book) (k : ℕ) (x : Node) → IsWithin b c → NodeHas b k x → NodeHas c k x
later b c k nowhere w h = tt
later b c k (a_brick s) w h = all-map (PendingIs b) (PendingIs c) s.locks.pending (λ p i. w p.txn _ i) h
later b c k (a_library s) w h = tt

asks : (b : Book) (from to : ℕ) (l : Letter) → LetterListed b from to l → AsksFor (PendingIs b) l
asks b from to (letter.Prepare txn caller call below name stamp list op) h = h
asks b from to other h = tt

becomes : (z : Sizes) (h : History) (n : Net) (e : Event) (b : Book) → Fits z h.callers n e → AreListed n b → ArePending n b → Becomes (NodeHas (booked e b)) e
becomes z h n nothing b f g k = tt
becomes z h n (unheard at from l) b f g k = tt
becomes z h n (unasked at caller call o) b f g k = tt
becomes z h n (brick_takes at from l s) b f g k =
    turn-all (PendingIs b) s from l (asks b from at l (subst (AllByRecursion (LetterListed b from at)) f.letter.first (g.letters from at)).0)
    (subst (NodeHas b at) f.here (k at))
becomes z h n (brick_told at o s) b f g k =
    subst (AllByRecursion (PendingIs b)) (sym (ap (λ (w : Whole). w.pending) (order-rests {L = Any} s o).same)) (subst (NodeHas b at) f.here (k at))
becomes z h n (brick_stops at s kept) b f g k = tt
becomes z h n (library_takes at from l s) b f g k = tt
becomes z h n (library_asked at caller call o s) b f g k = tt
becomes z h n (library_stops at s kept) b f g k = tt

-- over the claims that letters and numbers are placed, and that the book has what each attempt asked
pub pending-kept : (z : Sizes) → IsKeptOver z Book (λ h n e b. booked e b) (λ h n b. ArePlaced z n × AreListed n b) (Unit {0}) (λ h n e b u. tt)
    (λ h n b u. ArePending n b)
pending-kept z h n e b u built f low after k =
    let c = booked e b in
    nodes-moved (NodeHas c) z n e (λ i. later b c i (n.node i) (listed-within z h.callers n e b f low.0 low.1) (k i)) (becomes z h n e b f low.1 k)
