use Rattle.std.proofs.Common.{◌≡◌, ℕ, zero, suc, ◌<◌, Some, List, [], ◌∷◌, ◌++◌, length, refl, sym, ◌∙◌, subst}
use Rattle.std.specs.List.{AllByRecursion}
use Rattle.std.specs.Prelude.{slice_get}
use Rattle.dds_base.specs.declared.number.CallNo.{CallNo}
use Rattle.dds_base.specs.declared.op.Op.{Op}
use Rattle.dds_cluster.specs.declared.trace.Asked.{Asked}
use Rattle.dds_cluster.specs.declared.trace.Caller.{Caller}
use Rattle.dds_cluster.specs.declared.trace.Made.{Made}
use Rattle.dds_core.proofs.Lists.{all-map}
use Rattle.dds_letters.specs.declared.letter.Letter.{Letter}
use Rattle.dds_letters.specs.declared.letter.Letter.TheVariants as letter
use Rattle.dds_net.proofs.Carried.{AllCarried}
use Rattle.dds_net.proofs.Pairwise.{Pairwise}
use Rattle.dds_net.specs.Event.{History}
use Rattle.dds_net.specs.Net.{Net, Node, nowhere, a_brick, a_library}
use Rattle.dds_outcomes.proofs.PendingRows.{AllPending}
use Rattle.dds_base.specs.declared.pending.Pending.{Pending}
use Rattle.dds_calls.proofs.Requests.{LetterIs, OfCall, RequestIs}

-- The invariant, of the history, the nodes and the channels: each call that states and letters name was asked.
--
-- | part      | why it is needed                                          | which rows keep it                                        |
-- | `nodes`   | what is pending becomes an entry, what is open is asked   | a call is opened with what it is asked; a Prepare is kept |
-- |           | of bricks again                                           | as it came                                                |
-- | `letters` | what a Get reads and a Prepare asks for is of a call      | a library sends them of its open calls                    |
-- | `made`    | claimed of the entries, and that they are behind the      | a Get's point is of the Get, an applied point of what was |
-- |           | call's Input                                              | pending                                                   |
-- | `least`   | a new call has another number than its caller's others    | Input raises the caller's least number; none lowers it    |
-- | `apart`   | an entry's or letter's call is one                        | Input                                                     |
-- | `past`    | a call's place is before those of what follows from it    | Input                                                     |

-- it is one of the calls that were asked before a place
pub record WasAsked (asked : List Asked) (before caller : ℕ) (call : CallNo) (op : Op) : Type 0 where
  pub index : ℕ
  pub it : Asked
  pub there : slice_get asked index ≡ Some it
  pub caller_is : it.caller ≡ caller
  pub call_is : it.call ≡ call
  pub op_is : it.op ≡ op
  pub earlier : it.place < before

abbrev pub PendingWas : OfCall → Pending → Type 0
PendingWas P p = P p.caller p.call p.op

abbrev pub NodeIs : OfCall → ℕ → Node → Type 0
NodeIs P k nowhere = Unit {0}
NodeIs P k (a_brick s) = AllPending (PendingWas P) s
NodeIs P k (a_library s) = AllByRecursion (RequestIs P) s.calls

abbrev pub MadeOf : List Asked → Made → Type 0
MadeOf asked m = WasAsked asked m.place m.entry.caller m.entry.call m.entry.op

-- the call's number is below the least one that its caller may use
pub record IsUsed (cs : List Caller) (a : Asked) : Type 0 where
  pub caller : Caller
  pub there : slice_get cs a.caller ≡ Some caller
  pub below : a.call.0 < caller.least

abbrev pub OtherCall : Asked → Asked → Type 0
OtherCall a b = a.caller ≡ b.caller → a.call.0 ≡ b.call.0 → ⊥

pub record AreAsked (h : History) (n : Net) : Type 0 where
  pub nodes : (k : ℕ) → NodeIs (WasAsked h.asked h.steps) k (n.node k)
  pub letters : AllCarried (λ a b l. LetterIs (WasAsked h.asked h.steps) l) n
  pub made : AllByRecursion (MadeOf h.asked) h.made
  pub least : AllByRecursion (IsUsed h.callers) h.asked
  pub apart : Pairwise OtherCall h.asked
  pub past : AllByRecursion (λ (a : Asked). a.place < h.steps) h.asked

-- Lists

pub get-front : {X : Type 0} (xs ys : List X) (i : ℕ) (x : X) → slice_get xs i ≡ Some x → slice_get (xs ++ ys) i ≡ Some x
get-front [] ys i x e = cc
get-front (y ∷ xs) ys zero x e = e
get-front (y ∷ xs) ys (suc i) x e = get-front xs ys i x e

pub get-end : {X : Type 0} (xs : List X) (x : X) → slice_get (xs ++ x ∷ []) (length xs) ≡ Some x
get-end [] x = refl
get-end (y ∷ xs) x = get-end xs x

pub all-each : {X : Type 0} (P : X → Type 0) (xs : List X) → ((i : ℕ) (x : X) → slice_get xs i ≡ Some x → P x) → AllByRecursion P xs
all-each P [] f = tt
all-each P (x ∷ xs) f = (f zero x refl, all-each P xs (λ i y e. f (suc i) y e))

-- It stays so as more is asked.

abbrev pub Weaker : OfCall → OfCall → Type 0
Weaker P Q = (caller : ℕ) (call : CallNo) (op : Op) → P caller call op → Q caller call op

pub asked-later : (asked more : List Asked) (before after : ℕ) → ((i : ℕ) → i < before → i < after)
    → Weaker (WasAsked asked before) (WasAsked (asked ++ more) after)
asked-later asked more before after le caller call op h =
    record {
      index = h.index;
      it = h.it;
      there = get-front asked more h.index h.it h.there;
      caller_is = h.caller_is;
      call_is = h.call_is;
      op_is = h.op_is;
      earlier = le h.it.place h.earlier;
    }

pub letter-weaker : (P Q : OfCall) (l : Letter) → Weaker P Q → LetterIs P l → LetterIs Q l
letter-weaker P Q (letter.Get txn caller call key name stamp) f h = f caller call _ h
letter-weaker P Q (letter.Prepare txn caller call below name stamp list op) f h = f caller call op h
letter-weaker P Q other f h = tt

pub node-weaker : (P Q : OfCall) (k : ℕ) (x : Node) → Weaker P Q → NodeIs P k x → NodeIs Q k x
node-weaker P Q k nowhere f h = tt
node-weaker P Q k (a_brick s) f h = all-map (PendingWas P) (PendingWas Q) s.locks.pending (λ p i. f p.caller p.call p.op i) h
node-weaker P Q k (a_library s) f h = all-map (RequestIs P) (RequestIs Q) s.calls (λ c i. f c.request.caller c.request.call c.request.op i) h

pub letters-weaker : (P Q : OfCall) (n : Net) → Weaker P Q → AllCarried (λ a b l. LetterIs P l) n → AllCarried (λ a b l. LetterIs Q l) n
letters-weaker P Q n f g a b = all-map (LetterIs P) (LetterIs Q) (n.channel a b) (λ l h. letter-weaker P Q l f h) (g a b)

-- One call

same-get : {X : Type 0} (xs : List X) (i : ℕ) (x y : X) → slice_get xs i ≡ Some x → slice_get xs i ≡ Some y → x ≡ y
same-get xs i x y e f = let k = sym e ∙ f in cc

other-sym : (a b : Asked) → OtherCall a b → OtherCall b a
other-sym a b h e f = h (sym e) (sym f)

all-get : {X : Type 0} (P : X → Type 0) (xs : List X) (i : ℕ) (x : X) → AllByRecursion P xs → slice_get xs i ≡ Some x → P x
all-get P [] i x h e = cc
all-get P (y ∷ xs) zero x h e = let is : y ≡ x = cc in subst P is h.0
all-get P (y ∷ xs) (suc i) x h e = all-get P xs i x h.1 e

-- two of the calls that were asked with the same caller and number are one
pub one-asked : (asked : List Asked) (i j : ℕ) (a b : Asked) → Pairwise OtherCall asked → slice_get asked i ≡ Some a → slice_get asked j ≡ Some b
    → a.caller ≡ b.caller → a.call.0 ≡ b.call.0 → a ≡ b
one-asked [] i j a b h e f p q = cc
one-asked (x ∷ xs) zero zero a b h e f p q = let same : Some a ≡ Some b = sym e ∙ f in cc
one-asked (x ∷ xs) zero (suc j) a b h e f p q =
    let is : x ≡ a = cc in
    absurd (subst (λ y. OtherCall y b) is (all-get (OtherCall x) xs j b h.0 f) p q)
one-asked (x ∷ xs) (suc i) zero a b h e f p q =
    let is : x ≡ b = cc in
    absurd (subst (λ y. OtherCall y a) is (all-get (OtherCall x) xs i a h.0 e) (sym p) (sym q))
one-asked (x ∷ xs) (suc i) (suc j) a b h e f p q = one-asked xs i j a b h.1 e f p q
