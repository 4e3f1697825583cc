use Rattle.std.proofs.Common.{◌≡◌, ℕ, ◌==◌, ◌&&◌, ◌||◌, ◌++◌, Bool, true, false, not, inl, inr, Option, Some, None, List, [], ◌∷◌, refl, sym, ap, ◌∙◌, subst}
use Rattle.std.proofs.lemmas.Bool.{both_ways, cases_Bool}
use Rattle.std.proofs.lemmas.List.{append-nil}
use Rattle.std.specs.FinMap.{get}
use Rattle.std.specs.List.{AllByRecursion}
use Rattle.std.specs.Prelude.{if◌then◌else◌}
use Rattle.dds_base.specs.BrickList.{has}
use Rattle.dds_base.specs.Name.{Name, same_name}
use Rattle.dds_base.specs.declared.leaf.Leaf.{Leaf}
use Rattle.dds_brick_rows.specs.Refusal.{is_join}
use Rattle.dds_law_own.proofs.Lists.{each-is}
use Rattle.dds_law_own.proofs.Owned.{orderly}
use Rattle.dds_letters.specs.declared.letter.Letter.{Letter}
use Rattle.dds_letters.specs.declared.letter.Letter.TheVariants as letter
use Rattle.dds_order_rows.specs.OwnOrder as order
use Rattle.dds_orders.proofs.Deeds.{Seat}
use Rattle.dds_orders.proofs.Leases.{same-is}
use Rattle.dds_orders.proofs.Standing.{Stood}
use Rattle.dds_orders.specs.Law.{asked_of, said_of}
use Rattle.dds_states.specs.declared.brick_state.BrickState.{BrickState}
use Rattle.dds_states.specs.declared.brick_state.OpenOrder.{OpenOrder}
use Rattle.dds_order_talk.proofs.BrickSide.{at-order}
use Rattle.dds_order_talk.proofs.Holds.{name-self}
use Rattle.dds_order_talk.proofs.Members.{Within}
use Rattle.dds_order_talk.proofs.OrderViews.{by, by-it, by-other}
use Rattle.dds_order_talk.proofs.Projections.{asks-append, none-said}
use Rattle.dds_order_talk.proofs.Sendings.{Once}
use Rattle.dds_order_talk.proofs.Speakers.{HasAsk, due-phase, drops-grant, has_ask, is_due, is_waits, says-first, waits-phase}
use Rattle.dds_order_talk.proofs.Speaking.{Line, Speaks}
use Rattle.dds_order_talk.specs.Seen.{ask_of, asks, one, phase_view, rests, say_of, says, view}
use Rattle.dds_order_talk.specs.Table as table
use Rattle.dds_order_talk.specs.Table.{Ask, Say}
use Rattle.dds_order_talk.specs.Table.AsksFor.{by_leaf, by_name}
use Rattle.dds_order_talk.specs.Table.Say.{granted, refused, part, installed}
use Rattle.dds_order_talk.specs.Table.View.{Off, Waits, Due}

-- A brick hears a letter, of the member or of another node: what becomes of its conversations with the member.

-- the channel back from the member before and after the letter
pub data Heard (from m : ℕ) (l : Letter) (back rest : List Letter) : Type 0 where
  of_it : from ≡ m → back ≡ l ∷ rest → Heard from m l back rest
  of_another : (m ≡ from → ⊥) → back ≡ rest → Heard from m l back rest

-- what is wanted of the letter and its sender: it isn't of the brick itself, and of the open order it is of a member that was asked; who
-- grants is waited for, with a leaf that lists each once, and it; a first one of a live member doesn't list the brick; who installed is
-- waited for
pub record Told (j from : ℕ) (l : Letter) (x : Seat) : Type 0 where
  pub asked_other : (number : ℕ) → asked_of l ≡ Some number → from ≡ j → ⊥
  pub said_other : (number : ℕ) → said_of l ≡ Some number → from ≡ j → ⊥
  pub within : (number : ℕ) → said_of l ≡ Some number → Within x number from
  pub waits :
      (number : ℕ) (leaf : Leaf) (o : OpenOrder) → l ≡ letter.Granted number leaf → x.own.order ≡ Some o → o.number ≡ number
      → order.is_leasing o.phase ≡ true → has o.waiting from ≡ true
  pub lists : (number : ℕ) (leaf : Leaf) → l ≡ letter.Granted number leaf → Once leaf.list × (has leaf.list from ≡ true)
  pub installs :
      (number : ℕ) (name : Name) (o : OpenOrder) → l ≡ letter.Installed number name → x.own.order ≡ Some o → o.number ≡ number
      → order.is_installing o.phase ≡ true → has o.waiting from ≡ true

-- a first grant of a live member isn't of a leaf that lists the brick
abbrev pub IsUnlisted : ℕ → BrickState → Letter → Option OpenOrder → Type 0
IsUnlisted j t l q =
    (number : ℕ) (leaf : Leaf) (o : OpenOrder) → l ≡ letter.Granted number leaf → q ≡ Some o → o.leaf ≡ None → t.stopped ≡ false
    → get t.leaves o.name ≡ Some leaf → has leaf.list j ≡ false

-- letters
pub heard-says : (from m : ℕ) (l : Letter) (back rest : List Letter) (q : Option OpenOrder) (n : Name) (a : Say) → Heard from m l back rest
    → say_of q n l ≡ a ∷ [] → says q n back ≡ by from m a ++ says q n rest
heard-says from m l back rest q n a (of_it e f) g =
    ap (says q n) f ∙ ap (λ s. s ++ says q n rest) (g ∙ sym (by-it m a) ∙ ap (λ i. by i m a) (sym e))
heard-says from m l back rest q n a (of_another ne f) g = ap (says q n) f ∙ ap (λ s. s ++ says q n rest) (sym (by-other from m a ne))

pub heard-none : (from m : ℕ) (l : Letter) (back rest : List Letter) (q : Option OpenOrder) (n : Name) → Heard from m l back rest → say_of q n l ≡ []
    → says q n back ≡ says q n rest
heard-none from m l back rest q n (of_it e f) g = ap (says q n) f ∙ ap (λ s. s ++ says q n rest) g
heard-none from m l back rest q n (of_another ne f) g = ap (says q n) f

-- nothing is asked in answers
unasked : (q : Option OpenOrder) (n : Name) (l : Letter) → asked_of l ≡ None → ask_of q n l ≡ []
unasked q n (letter.Lease number what) e = cc
unasked q n (letter.Release number name) e = cc
unasked q n (letter.CopyAsk number name key) e = cc
unasked q n (letter.Install number leaf) e = cc
unasked q n other e = refl

pub all-unasked : (q : Option OpenOrder) (n : Name) (ls : List Letter) → AllByRecursion (λ l. asked_of l ≡ None) ls → asks q n ls ≡ []
all-unasked q n [] h = refl
all-unasked q n (l ∷ ls) h = ap (λ a. a ++ asks q n ls) (unasked q n l h.0) ∙ all-unasked q n ls h.1

-- the order goes on as it is
pub same-speaks : (j m from : ℕ) (t : BrickState) (l : Letter) (q : Option OpenOrder) (out back rest sent : List Letter) → Heard from m l back rest
    → ((n : Name) → say_of q n l ≡ []) → AllByRecursion (λ k. asked_of k ≡ None) sent → Speaks j m t rests q out back
    → Speaks j m t rests q (out ++ sent) rest
same-speaks j m from t l q out back rest sent g f h k n =
    let e = asks-append q n out sent ∙ ap (λ a. asks q n out ++ a) (all-unasked q n sent h) ∙ append-nil (asks q n out) in
    subst (λ a. Line m t n (view rests q n m) a j (says q n rest)) (sym e)
    (subst (λ s. Line m t n (view rests q n m) (asks q n out) j s) (heard-none from m l back rest q n g (f n)) (k n))

-- of another node nothing is heard of the member
abbrev Keep : ℕ → ℕ → BrickState → Option OpenOrder → List Letter → List Letter → List Letter → Type 0
Keep j m t q out back rest = Speaks j m t rests q out back → Speaks j m t rests q out rest

other-keep : (j m : ℕ) (t : BrickState) (q : Option OpenOrder) (out back rest : List Letter) → back ≡ rest → Keep j m t q out back rest
other-keep j m t q out back rest e h = subst (λ b. Speaks j m t rests q out b) e h

-- a letter of the member that the order doesn't take
its-said : (o : OpenOrder) (number : ℕ) (n : Name) (a : Say) (c : Bool) → (o.number == number) ≡ c → c ≡ false
    → one (o.number == number && same_name o.name n) a ≡ []
its-said o number n a true e f = cc
its-said o number n a false e f = ap (λ c. one (c && same_name o.name n) a) e

said-at : (its c : Bool) (a : Say) → its ≡ true → one (its && c) a ≡ one c a
said-at true c a e = refl
said-at false c a e = cc

untaken-at : (j m : ℕ) (t : BrickState) (o : OpenOrder) (number : ℕ) (l : Letter) (a : Say) (out rest : List Letter) (n : Name) (c : Bool)
    → same_name o.name n ≡ c → say_of (Some o) n l ≡ one c a
    → (Line m t o.name (phase_view rests o m o.phase) (asks (Some o) o.name out) j (a ∷ says (Some o) o.name rest)
    → Line m t o.name (phase_view rests o m o.phase) (asks (Some o) o.name out) j (says (Some o) o.name rest))
    → Line m t n (if c then phase_view rests o m o.phase else Off) (asks (Some o) n out) j (says (Some o) n (l ∷ rest))
    → Line m t n (if c then phase_view rests o m o.phase else Off) (asks (Some o) n out) j (says (Some o) n rest)
untaken-at j m t o number l a out rest n true e s f h =
    let same = same-is o.name n e in
    let now = subst (λ b. Line m t n (phase_view rests o m o.phase) (asks (Some o) n out) j (b ++ says (Some o) n rest)) s h in
    subst (λ i. Line m t i (phase_view rests o m o.phase) (asks (Some o) i out) j (says (Some o) i rest)) same
    (f (subst (λ i. Line m t i (phase_view rests o m o.phase) (asks (Some o) i out) j (a ∷ says (Some o) i rest)) (sym same) now))
untaken-at j m t o number l a out rest n false e s f h =
    subst (λ b. Line m t n Off (asks (Some o) n out) j (b ++ says (Some o) n rest)) s h

-- what the line of the order's name makes of the letter
abbrev Drops : ℕ → ℕ → BrickState → OpenOrder → Say → List Letter → List Letter → Type 0
Drops j m t o a out rest =
    Line m t o.name (phase_view rests o m o.phase) (asks (Some o) o.name out) j (a ∷ says (Some o) o.name rest)
    → Line m t o.name (phase_view rests o m o.phase) (asks (Some o) o.name out) j (says (Some o) o.name rest)

pub untaken : (j m : ℕ) (t : BrickState) (o : OpenOrder) (number : ℕ) (l : Letter) (a : Say) (out rest : List Letter)
    → ((n : Name) → say_of (Some o) n l ≡ one (o.number == number && same_name o.name n) a) → ((o.number == number) ≡ true → Drops j m t o a out rest)
    → Keep j m t (Some o) out (l ∷ rest) rest
untaken j m t o number l a out rest s f h n = elim (cases_Bool (o.number == number)) [
  | inl e ↦ untaken-at j m t o number l a out rest n (same_name o.name n) refl (s n ∙ said-at (o.number == number) (same_name o.name n) a e) (f e) (h n)
  | inr e ↦
      subst (λ b. Line m t n (view rests (Some o) n m) (asks (Some o) n out) j (b ++ says (Some o) n rest))
      (s n ∙ its-said o number n a (o.number == number) refl e) (h n)
]

-- a letter to the order that is not taken
no-order : (j m : ℕ) (t : BrickState) (out back rest : List Letter) → Keep j m t None out back rest
no-order j m t out back rest h n =
    subst (λ b. Line m t n Off (asks None n out) j b) (none-said n back ∙ sym (none-said n rest)) (h n)

not-test : (c d : Bool) → (c && d) ≡ false → c ≡ true → d ≡ false
not-test true d e f = e
not-test false d e f = cc

pub not-taken : (j m from : ℕ) (t : BrickState) (l : Letter) (number : ℕ) (a : Say) (test : OpenOrder → Bool) (q r : Option OpenOrder)
    (out back rest : List Letter) → r ≡ q → Heard from m l back rest
    → ((o : OpenOrder) (n : Name) → say_of (Some o) n l ≡ one (o.number == number && same_name o.name n) a) → order.is_at number test q ≡ false
    → (from ≡ m → (o : OpenOrder) → q ≡ Some o → (o.number == number) ≡ true → test o ≡ false → Drops j m t o a out rest) → Keep j m t r out back rest
not-taken j m from t l number a test None r out back rest e g s none f h =
    at-order j m t rests None r out rest (sym e) (no-order j m t out back rest (at-order j m t rests r None out back e h))
not-taken j m from t l number a test (Some o) r out back rest e (of_another ne k) s none f h = other-keep j m t r out back rest k h
not-taken j m from t l number a test (Some o) r out back rest e (of_it k c) s none f h =
    at-order j m t rests (Some o) r out rest (sym e) (untaken j m t o number l a out rest (s o)
    (λ its. f k o refl its (not-test (o.number == number) (test o) none its))
    (subst (λ b. Speaks j m t rests (Some o) out b) c (at-order j m t rests r (Some o) out back e h)))

-- a grant that isn't taken
fitting-ask : (j : ℕ) (x : Seat) (o : OpenOrder) (q : Option Leaf) → Stood j x → x.own.order ≡ Some o → o.leaf ≡ q → HasAsk o.name q
fitting-ask j x o None h there e = has_ask _ by_name
fitting-ask j x o (Some leaf) h there e =
    has_ask _ (by_leaf (each-is _ o.leaf leaf e (orderly j x.own.order o there h.both.0.order).leaf).0)

untaken-grant : (me : ℕ) (o : OpenOrder) (leaf : Leaf) (g n h : Bool) → order.is_leasing o.phase ≡ g → is_join o.task ≡ n → has leaf.list me ≡ h
    → same_name leaf.name o.name ≡ true → g ≡ true → (g && (not n || (same_name leaf.name o.name && not h))) ≡ false → (n ≡ true) × (h ≡ true)
untaken-grant me o leaf true true true e f k s l c = (refl, refl)
untaken-grant me o leaf true true false e f k s l c =
    let no : true ≡ false = ap (λ d. d && true) (sym s) ∙ c in cc
untaken-grant me o leaf true false h e f k s l c = cc
untaken-grant me o leaf false n h e f k s l c = cc

fits-not : (j : ℕ) (x : Seat) (o : OpenOrder) (leaf : Leaf) (q : Option Leaf) → Stood j x → x.own.order ≡ Some o → o.leaf ≡ q → is_join o.task ≡ true
    → has leaf.list j ≡ true → (o.leaf ≡ None → has leaf.list j ≡ false) → table.Fits q leaf → ⊥
fits-not j x o leaf None h there e joins lists f fits = both_ways (has leaf.list j) (f e) lists
fits-not j x o leaf (Some fixed) h there e joins lists f fits =
    let it = (each-is _ o.leaf fixed e (orderly j x.own.order o there h.both.0.order).leaf).1 in
    both_ways (has leaf.list j) (ap (λ (l : Leaf). has l.list j) (sym fits) ∙ it ∙ ap not joins) lists

not-not : (c : Bool) → not c ≡ true → c ≡ false
not-not true e = cc
not-not false e = refl

pub drops-untaken : (j m : ℕ) (t : BrickState) (x : Seat) (o : OpenOrder) (number : ℕ) (leaf : Leaf) (out rest : List Letter) → Stood j x
    → x.own.order ≡ Some o → order.takes_grant x.own.number leaf o ≡ false → IsUnlisted j t (letter.Granted number leaf) (Some o)
    → Drops j m t o (granted leaf) out rest
drops-untaken j m t x o number leaf out rest h there untakes apart k =
    drops-grant
    (λ lives what v own fits.
    let w = waits-phase o m o.phase what v in
    let name : same_name leaf.name o.name ≡ true = ap (λ i. same_name i o.name) own.name ∙ name-self o.name in
    let me : x.own.number ≡ j = h.both.0.number in
    let r = untaken-grant x.own.number o leaf (order.is_leasing o.phase) (is_join o.task) (has leaf.list x.own.number) refl refl refl name
    (ap order.is_leasing w.phase) untakes in
    fits-not j x o leaf o.leaf h there refl r.0 (ap (has leaf.list) (sym me) ∙ r.1)
    (λ none. apart number leaf o refl refl none (not-not t.stopped lives) own.is) (subst (λ q. table.Fits q leaf) w.leaf fits))
    (λ what v. subst (HasAsk o.name) (sym (waits-phase o m o.phase what v).leaf) (fitting-ask j x o o.leaf h there refl)) k

-- a refusal, and a word that a leaf is installed, are always taken
pub refusal-taken : (j m : ℕ) (t : BrickState) (o : OpenOrder) (out rest : List Letter) → order.is_leasing o.phase ≡ false → Drops j m t o refused out rest
refusal-taken j m t o out rest e k = elim (says-first k) [
  | is_waits what v ↦ absurd (both_ways (order.is_leasing o.phase) e (ap order.is_leasing (waits-phase o m o.phase what v).phase))
]

pub installed-taken : (j m : ℕ) (t : BrickState) (o : OpenOrder) (out rest : List Letter) → order.is_installing o.phase ≡ false
    → Drops j m t o installed out rest
installed-taken j m t o out rest e k = elim (says-first k) [
  | is_due leaf made v ↦ absurd (both_ways (order.is_installing o.phase) e (due-phase o m o.phase leaf made v).0)
]
