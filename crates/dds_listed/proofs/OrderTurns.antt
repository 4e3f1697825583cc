use Rattle.std.proofs.Common.{◌≡◌, ℕ, ◌++◌, ◌⊎◌, inl, inr, true, Option, Some, None, List, [], ◌∷◌, refl, sym, ap, ◌∙◌, subst}
use Rattle.std.proofs.lemmas.Bool.{cases_eq}
use Rattle.std.specs.Prelude.{is_some}
use Rattle.dds_base.specs.BrickList.{has}
use Rattle.dds_base.specs.declared.leaf.Leaf.{Leaf}
use Rattle.dds_base.specs.declared.number.NodeNo.{NodeNo}
use Rattle.dds_core.proofs.Lists.{all-append}
use Rattle.dds_core.specs.Brick.{live_brick_turn}
use Rattle.dds_law_leaf.proofs.Book.{Each, InOrder}
use Rattle.dds_law_own.proofs.Changes.{own}
use Rattle.dds_law_own.proofs.LetterWays.{IsOfAnother}
use Rattle.dds_law_own.proofs.Parted.{IsBoth}
use Rattle.dds_letters.specs.declared.letter.Letter.{Letter}
use Rattle.dds_letters.specs.declared.letter.Letter.TheVariants as letter
use Rattle.dds_order_rows.specs.OwnOrder as order
use Rattle.dds_orders.proofs.Deeds.{Seat, owed_at, seat}
use Rattle.dds_orders.proofs.Numbers.{has-append, the-order}
use Rattle.dds_order_talk.proofs.Members.{ne-one}
use Rattle.dds_orders.proofs.Counting.{not-none}
use Rattle.dds_orders.proofs.Turns.{Hears, copies, copies_not, denies, gives, grants, grants_not, hears_other, installed_not, installs, installs_not}
use Rattle.dds_orders.proofs.Turns.{is_installed, is_refused, learns, letter-turns, owed, refused_not, releases, sends_none, sends_part}
use Rattle.dds_orders.proofs.Standing.{heard-both}
use Rattle.dds_states.specs.Turn.{BrickTurn, unknown, without}
use Rattle.dds_states.specs.declared.brick_state.BrickState.{BrickState}
use Rattle.dds_states.specs.declared.brick_state.OpenOrder.{OpenOrder}
use Rattle.dds_listed.proofs.Begun.{IsWhole, StandsAs, first-stands}
use Rattle.dds_world.specs.Groups.{made_leaf}
use Rattle.dds_listed.proofs.Makes.{OrderMakes, path-makes}
use Rattle.dds_listed.proofs.Made.{or-first}
use Rattle.dds_listed.proofs.OrderTrips.{AllAsk, AskOk, OwedOk, each-asks, trip-ends}

-- A brick's turn at a letter: how its open order stands at the end, of the order as it stood when the letter was heard.

-- the letter is a grant of this order
pub record IsGrant (number : ℕ) (l : Letter) : Type 0 where
  pub leaf : Leaf
  pub is : l ≡ letter.Granted number leaf

-- the order when the letter was heard: a grant adds its sender, and nothing else is new to whom it was granted by
pub record Heard (from : NodeNo) (l : Letter) (q : Option OpenOrder) (o : OpenOrder) : Type 0 where
  pub was : OpenOrder
  pub there : q ≡ Some was
  pub number : o.number ≡ was.number
  pub name : o.name ≡ was.name
  pub task : o.task ≡ was.task
  pub leaf : o.leaf ≡ was.leaf
  pub phase : o.phase ≡ was.phase
  pub gave :
      (n : ℕ) → has o.granted n ≡ true
      → (has was.granted n ≡ true) ⊎ ((n ≡ from) × IsGrant was.number l)

same-heard : (from : NodeNo) (l : Letter) (q : Option OpenOrder) (o : OpenOrder) → q ≡ Some o → Heard from l q o
same-heard from l q o e =
    record { was = o; there = e; number = refl; name = refl; task = refl; leaf = refl; phase = refl; gave = λ n h. inl h }

granted-by : (from : NodeNo) (number : ℕ) (leaf : Leaf) (p : OpenOrder) → p.number ≡ number → (n : ℕ) → has (p.granted ++ from ∷ []) n ≡ true
    → (has p.granted n ≡ true) ⊎ ((n ≡ from) × IsGrant p.number (letter.Granted number leaf))
granted-by from number leaf p same n h = elim (cases_eq n from) [
  | inl e ↦ inr (e, record { leaf = leaf; is = ap (λ k. letter.Granted k leaf) (sym same) })
  | inr ne ↦ inl (or-first (has p.granted n) (has (from ∷ []) n) (sym (has-append p.granted (from ∷ []) n) ∙ h) (ne-one from n (λ e. ne (sym e))))
]

heard-order : (from : NodeNo) (l : Letter) (x y : Seat) (ls : List (NodeNo × Letter)) → Hears from x l ls y → (o : OpenOrder) → y.own.order ≡ Some o
    → Heard from l x.own.order o
heard-order from l x y ls (gives number what leaf there free stamp unknown) o e = same-heard from l x.own.order o e
heard-order from l x _ ls (denies number what why) o e = same-heard from l x.own.order o e
heard-order from l x y ls (releases number name) o e = same-heard from l x.own.order o e
heard-order from l x _ ls (sends_part number name place last pairs given there) o e = same-heard from l x.own.order o e
heard-order from l x _ ls (sends_none number name place none) o e = same-heard from l x.own.order o e
heard-order from l x y ls (installs number leaf mine may) o e = same-heard from l x.own.order o e
heard-order from l x _ ls (installs_not number leaf none) o e = same-heard from l x.own.order o e
heard-order from _ x y ls (grants number leaf p f) o e =
    subst (Heard from (letter.Granted number leaf) x.own.order) (the-order (order.with_grant p from) o e) (record {
      was = p;
      there = f.there;
      number = refl;
      name = refl;
      task = refl;
      leaf = refl;
      phase = refl;
      gave = granted-by from number leaf p f.same;
    })
heard-order from l x _ ls (grants_not number leaf none) o e = same-heard from l x.own.order o e
heard-order from l x y ls (is_refused number why p f) o e = absurd (not-none o e)
heard-order from l x _ ls (refused_not number why none) o e = same-heard from l x.own.order o e
heard-order from l x y ls (copies number last pairs p f) o e =
    subst (Heard from l x.own.order) (the-order (record p { copied = p.copied ++ pairs }) o e)
    (record { was = p; there = f.there; number = refl; name = refl; task = refl; leaf = refl; phase = refl; gave = λ n h. inl h })
heard-order from l x _ ls (copies_not number last pairs none) o e = same-heard from l x.own.order o e
heard-order from l x y ls (is_installed number name p f) o e =
    subst (Heard from l x.own.order) (the-order (record p { waiting = without p.waiting from }) o e)
    (record { was = p; there = f.there; number = refl; name = refl; task = refl; leaf = refl; phase = refl; gave = λ n h. inl h })
heard-order from l x _ ls (installed_not number name none) o e = same-heard from l x.own.order o e
heard-order from l x y ls (learns below other) o e = same-heard from l x.own.order o e
heard-order from l x _ ls (hears_other _ none) o e = same-heard from l x.own.order o e

-- what was so of the order's leaves is so when the letter was heard
in-none : (P : Leaf → Type 0) (q : Option OpenOrder) → ((o : OpenOrder) → q ≡ Some o → InOrder P (Some o)) → InOrder P q
in-none P None f = tt
in-none P (Some o) f = f o refl

heard-leaves : (P : Leaf → Type 0) (from : NodeNo) (l : Letter) (q r : Option OpenOrder) → ((o : OpenOrder) → r ≡ Some o → Heard from l q o)
    → InOrder P q → InOrder P r
heard-leaves P from l q r f h =
    in-none P r (λ o e.
    let k = f o e in
    let its : InOrder P (Some k.was) = subst (InOrder P) k.there h in
    (subst (Each P) (sym k.leaf) its.0, subst (λ p. Each P (made_leaf p)) (sym k.phase) its.1))

whole-heard : (from : NodeNo) (l : Letter) (q : Option OpenOrder) (o : OpenOrder) → Heard from l q o → ((p : OpenOrder) → q ≡ Some p → IsWhole p)
    → IsWhole o
whole-heard from l q o h f k = ap is_some h.leaf ∙ f h.was h.there (ap order.is_installing (sym h.phase) ∙ k)

-- what is owed, and the letters that answer
abbrev pub HeardOk : (Leaf → Type 0) → Option OpenOrder → Letter → Type 0
HeardOk P q l = (o : OpenOrder) (leaf : Leaf) → q ≡ Some o → l ≡ letter.Granted o.number leaf → P leaf

owed-ok : (P : Leaf → Type 0) (from : NodeNo) (x y : Seat) (l : Letter) (ls : List (NodeNo × Letter)) (h : Hears from x l ls y) → HeardOk P x.own.order l
    → OwedOk P (owed h)
owed-ok P from x y _ ls (grants number leaf p f) h = at p.leaf
  where
    at : (q : Option Leaf) → OwedOk P (owed_at q from leaf)
    at None = h p leaf f.there (ap (λ k. letter.Granted k leaf) (sym f.same))
    at (Some fixed) = tt
owed-ok P from x y l ls (copies number last pairs p f) h = tt
owed-ok P from x y l ls other h = tt

heard-asks : (P : Leaf → Type 0) (z : Seat) (from : NodeNo) (x y : Seat) (l : Letter) (ls : List (NodeNo × Letter)) → Hears from x l ls y
    → AllAsk P z ls
heard-asks P z from x y l _ (gives number what leaf there free stamp unknown) = (tt, tt)
heard-asks P z from x _ l _ (denies number what why) = (tt, tt)
heard-asks P z from x y l _ (releases number name) = tt
heard-asks P z from x _ l _ (sends_part number name place last pairs given there) = (tt, tt)
heard-asks P z from x _ l _ (sends_none number name place none) = tt
heard-asks P z from x y l _ (installs number leaf mine may) = (tt, tt)
heard-asks P z from x _ l _ (installs_not number leaf none) = tt
heard-asks P z from x y l _ (grants number leaf p f) = tt
heard-asks P z from x _ l _ (grants_not number leaf none) = tt
heard-asks P z from x y l _ (is_refused number why p f) = each-asks P z (unknown p.asked x.own.known) (letter.Release p.number p.name) tt
heard-asks P z from x _ l _ (refused_not number why none) = tt
heard-asks P z from x y l _ (copies number last pairs p f) = tt
heard-asks P z from x _ l _ (copies_not number last pairs none) = tt
heard-asks P z from x y l _ (is_installed number name p f) = tt
heard-asks P z from x _ l _ (installed_not number name none) = tt
heard-asks P z from x y l _ (learns below other) = tt
heard-asks P z from x _ l _ (hears_other _ none) = tt

-- a whole turn
pub record OrderEnds (me : ℕ) (P : Leaf → Type 0) (from : NodeNo) (l : Letter) (s : BrickState) (t : BrickTurn) : Type 0 where
  pub first : Option OpenOrder
  pub heard : (o : OpenOrder) → first ≡ Some o → Heard from l s.order o
  pub stands : StandsAs me P first t.state.order
  pub asks : AllAsk P (seat t.state) t.out.letters

pub letter-ends : (me : ℕ) (P : Leaf → Type 0) (s : BrickState) (from : NodeNo) (l : Letter) → IsOfAnother s from l → IsBoth me (own s)
    → OrderMakes s.order → InOrder P s.order → ((o : OpenOrder) → s.order ≡ Some o → IsWhole o) → HeardOk P s.order l
    → OrderEnds me P from l s (live_brick_turn s from l)
letter-ends me P s from l other both makes sound whole told =
    let t = live_brick_turn s from l in
    let u = letter-turns s from l other in
    let first = path-makes me (seat s) u.first [] u.takes both makes in
    let next = heard-both me from u.first u.next l u.answers u.hears first.0 in
    let heard = (λ (o : OpenOrder) (e : u.next.own.order ≡ Some o).
    subst (λ q. Heard from l q o) u.first_order (heard-order from l u.first u.next u.answers u.hears o e)) in
    let hears : HeardOk P u.first.own.order l = subst (λ q. HeardOk P q l) (sym u.first_order) told in
    let leaves = heard-leaves P from l s.order u.next.own.order heard sound in
    let ends = trip-ends me P u.next.own.order u.trip (owed-ok P from u.first u.next l u.answers u.hears hears) next
    (first-stands me P u.next.own.order leaves (λ o e. whole-heard from l s.order o (heard o e) whole)) in
    record {
      first = u.next.own.order;
      heard = heard;
      stands = ends.0;
      asks = subst (AllAsk P (seat t.state)) (sym u.all)
          (all-append (λ (p : NodeNo × Letter). AskOk P (seat t.state) p.1) u.answers u.letters
          (heard-asks P (seat t.state) from u.first u.next l u.answers u.hears) ends.1);
    }
