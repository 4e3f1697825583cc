use Rattle.std.proofs.Common.{◌≡◌, ℕ, ◌≤◌, ◌++◌, true, Some, None, List, [], ◌∷◌, refl, sym, ap, ◌∙◌, subst, arith}
use Rattle.std.proofs.lemmas.Bool.{eqb-true}
use Rattle.std.proofs.lemmas.List.{append-nil}
use Rattle.std.specs.List.{AllByRecursion}
use Rattle.dds_base.specs.Number.{Txn}
use Rattle.dds_base.specs.Op.{is_get}
use Rattle.dds_base.specs.declared.number.NodeNo.{NodeNo}
use Rattle.dds_books.specs.Calls.{LibraryIs}
use Rattle.dds_books.specs.Placed.{IsFrom, LetterOk}
use Rattle.dds_cluster.specs.Trace.{all_kept}
use Rattle.dds_cluster.specs.declared.trace.Made.{Made}
use Rattle.dds_core.proofs.Lists.{all-append, all-map}
use Rattle.dds_core.proofs.Tells.{AllSends, Sends, Sent}
use Rattle.dds_letters.specs.declared.letter.Letter.{Letter}
use Rattle.dds_letters.specs.declared.letter.Letter.TheVariants as letter
use Rattle.dds_net.proofs.Carried.{AllCarried}
use Rattle.dds_net.proofs.Letters.{gains-all}
use Rattle.dds_net.proofs.Nodes.{brick-place}
use Rattle.dds_net.proofs.Pairwise.{Pairwise, pairs-append}
use Rattle.dds_net.specs.Event.{History, takes}
use Rattle.dds_net.specs.Net.{Net, Node, Sizes, changed, gains, lands, place_in}
use Rattle.dds_outcomes.proofs.Points.{kept-all}
use Rattle.dds_states.specs.declared.library_state.LibraryState.{LibraryState}
use Rattle.dds_answered.proofs.Channels.{rest-pairs, takes-channels}
use Rattle.dds_answered.proofs.Reading.{OtherRead, ReadBy}
use Rattle.dds_answered.proofs.Sent.{OtherGet, get_of, no-get}
use Rattle.dds_answered.proofs.Sought.{Sought}

-- Each attempt reads once at most, of the history, the nodes and the channels, and the book of whom each Get was sent to.
--
-- | part      | why it is needed                                       | which events keep it                                              |
-- | `to_come` | a new Get is no other's                                | a library's attempts have numbers that it counted                 |
-- | `letters` | a Get reads for an attempt that hasn't read yet; all   | a Get is sent to one node, of an attempt that is new; the taken   |
-- |           | Gets of an attempt are to one brick                    | one is alone                                                      |
-- | `apart`   | no Get stands twice in a channel                       | a new Get has a new attempt                                       |
-- | `sought`  | an attempt that read isn't new                         | it was sought when its Get was sent                               |
-- | `once`    | the claim                                              | Get alone reads                                                   |

abbrev pub NotReadOf : Txn → Made → Type 0
NotReadOf t m = is_get m.entry.op ≡ true → m.txn ≡ t → ⊥

pub record IsUnread (z : Sizes) (g : Sought) (made : List Made) (b : ℕ) (t : Txn) : Type 0 where
  pub to : NodeNo
  pub there : g t ≡ Some to
  pub comes : lands z to b ≡ true
  pub unread : AllByRecursion (NotReadOf t) made

abbrev pub GetUnread : Sizes → Sought → List Made → ℕ → ℕ → Letter → Type 0
GetUnread z g made a b l = (t : Txn) → get_of l ≡ Some t → IsUnread z g made b t

abbrev pub ToCome : Sought → ℕ → LibraryState → Type 0
ToCome g k s = (t : Txn) → t.library ≡ k → s.next ≤ t.number → g t ≡ None

abbrev pub IsSought : Sought → Made → Type 0
IsSought g m = is_get m.entry.op ≡ true → (to : NodeNo) × (g m.txn ≡ Some to)

pub record AreRead (z : Sizes) (h : History) (n : Net) (g : Sought) : Type 0 where
  pub to_come : (k : ℕ) → LibraryIs (ToCome g k) (n.node k)
  pub letters : AllCarried (GetUnread z g h.made) n
  pub apart : (a b : ℕ) → Pairwise OtherGet (n.channel a b)
  pub sought : AllByRecursion (IsSought g) h.made
  pub once : Pairwise OtherRead h.made

-- Gets on their way

pub get-from : (T : Txn → Type 0) (z : Sizes) (a b : ℕ) (l : Letter) (t : Txn) → LetterOk T z a b l → get_of l ≡ Some t → IsFrom T z a b t
get-from T z a b (letter.Get txn caller call key name stamp) t h e = let is : txn ≡ t = cc in subst (IsFrom T z a b) is h
get-from T z a b other t h e = cc

-- two Gets of one attempt are in one channel
pub same-place : (z : Sizes) (g : Sought) (made : List Made) (T : Txn → Type 0) (a b c d : ℕ) (l m : Letter) (t : Txn) → z.bricks ≤ 64
    → LetterOk T z a b l → LetterOk T z c d m → get_of l ≡ Some t → get_of m ≡ Some t → IsUnread z g made b t → IsUnread z g made d t
    → (c ≡ a) × (d ≡ b)
same-place z g made T a b c d l m t few h k e f x y =
    let p = get-from T z a b l t h e in
    let q = get-from T z c d m t k f in
    let to : x.to ≡ y.to = (let two : Some x.to ≡ Some y.to = sym x.there ∙ y.there in cc) in
    let low_b = p.receiver in
    let low_d = q.receiver in
    let at_b = eqb-true (place_in z.bricks x.to) (place_in z.bricks b) x.comes in
    let at_d = eqb-true (place_in z.bricks y.to) (place_in z.bricks d) y.comes in (
      sym q.library ∙ p.library,
      sym (brick-place z.bricks d (omega (arith, few, low_d))) ∙ sym at_d ∙ ap (place_in z.bricks) (sym to) ∙ at_b
          ∙ brick-place z.bricks b (omega (arith, few, low_b)),
    )

-- what a brick sends are no Gets

abbrev pub NoGet : Letter → Type 0
NoGet l = get_of l ≡ None

sends-none : (L : Sent) (to : NodeNo) (l : Letter) → Sends L to l → NoGet l
sends-none L to (letter.Get txn caller call key name stamp) h = absurd h
sends-none L to other h = refl

pub all-none : (L : Sent) (ls : List (NodeNo × Letter)) → AllSends L ls → AllByRecursion (λ (p : NodeNo × Letter). NoGet p.1) ls
all-none L ls h = all-map (λ (p : NodeNo × Letter). Sends L p.0 p.1) (λ p. NoGet p.1) ls (λ p k. sends-none L p.0 p.1 k) h

none-each : (l : Letter) (ms : List Letter) → AllByRecursion NoGet ms → AllByRecursion (OtherGet l) ms
none-each l ms h = all-map NoGet (OtherGet l) ms (λ m k t e f. no-get m t k f) h

none-pairs : (ms : List Letter) → AllByRecursion NoGet ms → Pairwise OtherGet ms
none-pairs [] h = tt
none-pairs (m ∷ ms) h = (none-each m ms h.1, none-pairs ms h.1)

none-between : (xs ms : List Letter) → AllByRecursion NoGet ms → AllByRecursion (λ x. AllByRecursion (OtherGet x) ms) xs
none-between [] ms h = tt
none-between (x ∷ xs) ms h = (none-each x ms h, none-between xs ms h)

pub more-none : (c ms : List Letter) → AllByRecursion NoGet ms → Pairwise OtherGet c → Pairwise OtherGet (c ++ ms)
more-none c ms h k = pairs-append OtherGet c ms k (none-pairs ms h) (none-between c ms h)

pub gains-none : (z : Sizes) (b : ℕ) (ls : List (NodeNo × Letter)) → AllByRecursion (λ (p : NodeNo × Letter). NoGet p.1) ls
    → AllByRecursion NoGet (gains z ls b)
gains-none z b ls h = gains-all NoGet z b ls h

-- the run's points after the event

unread-then : (made ps : List Made) (l : Letter) (t : Txn) → (get_of l ≡ Some t → ⊥) → AllByRecursion (ReadBy l) ps → AllByRecursion (NotReadOf t) made
    → AllByRecursion (NotReadOf t) (made ++ all_kept made ps)
unread-then made ps l t other h k =
    all-append (NotReadOf t) made (all_kept made ps) k
    (kept-all (NotReadOf t) made ps (all-map (ReadBy l) (NotReadOf t) ps (λ m q g same. other (q g ∙ ap Some same)) h))

pub unread-with : (z : Sizes) (g : Sought) (made ps : List Made) (l : Letter) (b : ℕ) (t : Txn) → (get_of l ≡ Some t → ⊥) → AllByRecursion (ReadBy l) ps
    → IsUnread z g made b t → IsUnread z g (made ++ all_kept made ps) b t
unread-with z g made ps l b t other h k =
    record { to = k.to; there = k.there; comes = k.comes; unread = unread-then made ps l t other h k.unread }

-- where nothing is read
pub quiet-unread : (z : Sizes) (g : Sought) (made : List Made) (b : ℕ) (t : Txn) → IsUnread z g made b t → IsUnread z g (made ++ []) b t
quiet-unread z g made b t u =
    record { to = u.to; there = u.there; comes = u.comes; unread = all-append (NotReadOf t) made [] u.unread tt }

pub quiet-letters : (z : Sizes) (g : Sought) (made : List Made) (n : Net) → AllCarried (GetUnread z g made) n → AllCarried (GetUnread z g (made ++ [])) n
quiet-letters z g made n h a b =
    all-map (GetUnread z g made a b) (GetUnread z g (made ++ []) a b) (n.channel a b) (λ m q t e. quiet-unread z g made b t (q t e)) (h a b)

pub quiet-sought : (g : Sought) (made : List Made) → AllByRecursion (IsSought g) made → AllByRecursion (IsSought g) (made ++ [])
quiet-sought g made h = all-append (IsSought g) made [] h tt

pub quiet-once : (made : List Made) → Pairwise OtherRead made → Pairwise OtherRead (made ++ [])
quiet-once made h = subst (Pairwise OtherRead) (sym (append-nil made)) h

-- channels as nodes take letters and send such as are no Gets

abbrev pub Apart : ℕ → ℕ → List Letter → Type 0
Apart a b c = Pairwise OtherGet c

pub takes-apart : (z : Sizes) (n : Net) (at from : ℕ) (y : Node) (ls : List (NodeNo × Letter)) → AllByRecursion (λ (p : NodeNo × Letter). NoGet p.1) ls
    → ((a b : ℕ) → Pairwise OtherGet (n.channel a b)) → (a b : ℕ) → Pairwise OtherGet ((changed n (takes z n at from y ls)).channel a b)
takes-apart z n at from y ls none g =
    takes-channels Apart Apart z n at from y ls (λ a b. rest-pairs OtherGet n at from a b (g a b)) (λ a b c h. h)
    (λ b c h. more-none c (gains z ls b) (gains-none z b ls none) h)
