use Rattle.std.proofs.Common.{◌≡◌, ℕ, ◌+◌, ◌<◌, ◌==◌, ◌||◌, ◌++◌, ◌⊎◌, inl, inr, Bool, true, false, not, Some, None, List, [], ◌∷◌, refl, sym, ap}
use Rattle.std.proofs.Common.{◌∙◌, subst, arith}
use Rattle.std.proofs.lemmas.Bool.{both_ways, cases_Bool, eqb-true, eq-eqb, ne_eqb}
use Rattle.std.specs.List.{AllByRecursion}
use Rattle.std.specs.Prelude.{filter, if◌then◌else◌}
use Rattle.dds_base.specs.BrickList.{has}
use Rattle.dds_base.specs.declared.leaf.Leaf.{Leaf}
use Rattle.dds_base.specs.declared.number.NodeNo.{NodeNo}
use Rattle.dds_core.proofs.Lists.{all-map}
use Rattle.dds_letters.specs.declared.letter.Letter.{Letter}
use Rattle.dds_order_rows.specs.OwnOrder as order
use Rattle.dds_orders.proofs.Asked.{or-left, or-right}
use Rattle.dds_orders.proofs.Counting.{not-none}
use Rattle.dds_states.specs.Turn.{to_each, unknown, unknown_others, without}
use Rattle.dds_states.specs.declared.brick_state.OpenOrder.{OpenOrder}
use Rattle.dds_states.specs.declared.brick_state.OrderPhase.TheVariants.{Copying, Installing}
use Rattle.dds_orders.proofs.Deeds.{Seat}
use Rattle.dds_orders.proofs.Deeds.{is_of_orders}
use Rattle.dds_orders.proofs.Numbers.{has-append, others-asked, the-order}
use Rattle.dds_orders.specs.Law.{asked_of, said_of}

-- The invariant, of one brick's open order and of the letters about it.
--
-- | part | why it is needed | which rows keep it |
-- |---|---|---|
-- | `given`: the order's number is below the count              | no letter under way is of a new order | the orders Join, Split        |
-- | `itself`: the brick itself isn't asked                      | claimed                               | Join, Split; Granted, where   |
-- |                                                             |                                       | it fixes a leaf               |
-- | `granted`: who granted was asked                            | claimed                               | Granted, by `Within`          |
-- | `leases`: who is waited for was asked and hasn't granted    | claimed                               | Granted, Notice               |
-- | `source`: who is copied from has granted                    | claimed                               | what begins to copy           |
-- | `installs`: who is to install a leaf has granted            | claimed                               | what begins to install        |
-- | `first`: while there is no leaf, one member was asked       | who grants first isn't asked again    | Join                          |
-- | `Within`: the other end of a letter of the order was asked  | claimed; only such a one grants       | what sends such letters       |

pub record AskedOk (me count : ℕ) (o : OpenOrder) : Type 0 where
  pub given : o.number < count
  pub itself : has o.asked me ≡ false
  pub granted : (n : ℕ) → has o.granted n ≡ true → has o.asked n ≡ true
  pub leases : (n : ℕ) → order.is_leasing o.phase ≡ true → has o.waiting n ≡ true → (has o.asked n ≡ true) × (has o.granted n ≡ false)
  pub source : (n : ℕ) → o.phase ≡ Copying n → has o.granted n ≡ true
  pub installs : (made : Leaf) (n : ℕ) → o.phase ≡ Installing made → has o.waiting n ≡ true → has o.granted n ≡ true
  pub first : (a b : ℕ) → o.leaf ≡ None → has o.asked a ≡ true → has o.asked b ≡ true → a ≡ b

pub record Asks (me : ℕ) (x : Seat) : Type 0 where
  pub number : x.own.number ≡ me
  pub order : (o : OpenOrder) → x.own.order ≡ Some o → AskedOk me x.orders o

-- a number that the brick gave to an order, with a member that was asked if that order is open
pub record Within (x : Seat) (number n : ℕ) : Type 0 where
  pub given : number < x.orders
  pub of : (o : OpenOrder) → x.own.order ≡ Some o → o.number ≡ number → has o.asked n ≡ true

abbrev pub Later : Seat → Seat → Type 0
Later x y = (number n : ℕ) → Within x number n → Within y number n

-- what the brick sends of itself is to members that were asked
pub record Sent (y : Seat) (p : NodeNo × Letter) : Type 0 where
  pub asked : (number : ℕ) → asked_of p.1 ≡ Some number → Within y number p.0
  pub said : said_of p.1 ≡ None

pub record Kept (me : ℕ) (x : Seat) (ls : List (NodeNo × Letter)) (y : Seat) : Type 0 where
  pub next : Asks me y
  pub later : Later x y
  pub sent : AllByRecursion (Sent y) ls

-- lists
pub same-number : (x n : ℕ) → (x == n) ≡ true → x ≡ n
same-number x n h = eqb-true x n h

or-parts : (a b : Bool) → (a || b) ≡ true → (a ≡ true) ⊎ (b ≡ true)
or-parts true b h = inl refl
or-parts false b h = inr h

has-passes-if : (p : ℕ → Bool) (c : Bool) (x : ℕ) (xs : List ℕ) (n : ℕ) → p x ≡ c → (has (filter p xs) n ≡ true → (p n ≡ true) × (has xs n ≡ true))
    → has (if c then x ∷ filter p xs else filter p xs) n ≡ true → (p n ≡ true) × ((x == n || has xs n) ≡ true)
has-passes-if p true x xs n e f h = elim (or-parts (x == n) (has (filter p xs) n) h) [
  | inl k ↦ (ap p (sym (same-number x n k)) ∙ e, or-left (x == n) (has xs n) k)
  | inr k ↦ (let r = f k in (r.0, or-right (x == n) (has xs n) r.1))
]
has-passes-if p false x xs n e f h = let r = f h in (r.0, or-right (x == n) (has xs n) r.1)

-- what a filter leaves passes its test
pub has-passes : (p : ℕ → Bool) (xs : List ℕ) (n : ℕ) → has (filter p xs) n ≡ true → (p n ≡ true) × (has xs n ≡ true)
has-passes p [] n h = let no : false ≡ true = h in cc
has-passes p (x ∷ xs) n h = has-passes-if p (p x) x xs n refl (has-passes p xs n) h

pub in-without : (xs : List ℕ) (y n : ℕ) → has (without xs y) n ≡ true → (n ≡ y → ⊥) × (has xs n ≡ true)
in-without xs y n h =
    let r = has-passes (λ k. not (k == y)) xs n h in
    (λ e. both_ways (n == y) (flipped (n == y) r.0) (eq-eqb n y e), r.1)
  where
    flipped : (c : Bool) → not c ≡ true → c ≡ false
    flipped true k = cc
    flipped false k = refl

pub append-parts : (xs ys : List ℕ) (n : ℕ) → has (xs ++ ys) n ≡ true → (has xs n ≡ true) ⊎ (has ys n ≡ true)
append-parts xs ys n h = or-parts (has xs n) (has ys n) (sym (has-append xs ys n) ∙ h)

pub in-first : (xs ys : List ℕ) (n : ℕ) → has xs n ≡ true → has (xs ++ ys) n ≡ true
in-first xs ys n h = has-append xs ys n ∙ or-left (has xs n) (has ys n) h

pub in-second : (xs ys : List ℕ) (n : ℕ) → has ys n ≡ true → has (xs ++ ys) n ≡ true
in-second xs ys n h = has-append xs ys n ∙ or-right (has xs n) (has ys n) h

pub one-only : (x n : ℕ) → has (x ∷ []) n ≡ true → n ≡ x
one-only x n h = elim (or-parts (x == n) false h) [ inl e ↦ sym (same-number x n e) | inr e ↦ let no : false ≡ true = e in cc ]

pub it-has : (x : ℕ) (xs : List ℕ) → has (x ∷ xs) x ≡ true
it-has x xs = or-left (x == x) (has xs x) (eq-eqb x x refl)

pub ne-one : (x n : ℕ) → (x ≡ n → ⊥) → has (x ∷ []) n ≡ false
ne-one x n ne = ap (λ c. c || false) (ne_eqb x n ne)

pub not-has : (xs : List ℕ) (n : ℕ) → (has xs n ≡ true → ⊥) → has xs n ≡ false
not-has xs n f = elim (cases_Bool (has xs n)) [ inl e ↦ absurd (f e) | inr e ↦ e ]

pub in-unknown : (xs : List ℕ) (me : ℕ) (x : Seat) (n : ℕ) → has (unknown_others xs me x.own.known) n ≡ true → n ≡ me → ⊥
in-unknown xs me x n h = (in-without (unknown xs x.own.known) me n h).0

pub order-later : (x y : Seat) (o p : OpenOrder) → x.own.order ≡ Some o → y.own.order ≡ Some p → x.orders ≡ y.orders → p.number ≡ o.number
    → ((n : ℕ) → has o.asked n ≡ true → has p.asked n ≡ true) → Later x y
order-later x y o p e f same is more number n c =
    record {
      given = subst (λ i. number < i) same c.given;
      of = λ q g k.
          let pq : p ≡ q = the-order p q (sym f ∙ g) in
          subst (λ (r : OpenOrder). has r.asked n ≡ true) pq (more n (c.of o e (sym is ∙ ap (λ (r : OpenOrder). r.number) pq ∙ k)));
    }

pub same-later : (x y : Seat) → y.own.order ≡ x.own.order → x.orders ≡ y.orders → Later x y
same-later x y e same number n c = record { given = subst (λ i. number < i) same c.given; of = λ o f k. c.of o (sym e ∙ f) k }

pub closed-later : (x y : Seat) → y.own.order ≡ None → x.orders ≡ y.orders → Later x y
closed-later x y e same number n c = record { given = subst (λ i. number < i) same c.given; of = λ o f k. absurd (not-none o (sym e ∙ f)) }

pub new-later : (x y : Seat) (p : OpenOrder) → y.own.order ≡ Some p → p.number ≡ x.orders → y.orders ≡ x.orders + 1 → Later x y
new-later x y p e first more number n c =
    let lt = c.given in
    record {
      given = omega (arith, lt, more);
      of = λ o f k.
          let same : x.orders ≡ number = sym first ∙ ap (λ (q : OpenOrder). q.number) (the-order p o (sym e ∙ f)) ∙ k in
          absurd (omega (arith, lt, same));
    }

pub same-ok : (me : ℕ) (x y : Seat) → y.own.number ≡ x.own.number → y.own.order ≡ x.own.order → y.orders ≡ x.orders → Asks me x → Asks me y
same-ok me x y n e f h = record { number = n ∙ h.number; order = λ o g. subst (λ i. AskedOk me i o) (sym f) (h.order o (sym e ∙ g)) }

pub on-ok : (me : ℕ) (y : Seat) (p : OpenOrder) → y.own.number ≡ me → y.own.order ≡ Some p → AskedOk me y.orders p → Asks me y
on-ok me y p n e h = record { number = n; order = λ o f. subst (AskedOk me y.orders) (the-order p o (sym e ∙ f)) h }

pub closed-ok : (me : ℕ) (y : Seat) → y.own.number ≡ me → y.own.order ≡ None → Asks me y
closed-ok me y n e = record { number = n; order = λ o f. absurd (not-none o (sym e ∙ f)) }

-- letters to some of those that were asked
pub other-sent : (y : Seat) (p : NodeNo × Letter) → is_of_orders p.1 ≡ false → Sent y p
other-sent y p h = let k = others-asked p.1 h in record { asked = λ number e. absurd (not-none number (sym k.0 ∙ e)); said = k.1 }

number-is : (a b : ℕ) → Some a ≡ Some b → a ≡ b
number-is a b e = cc

pub sent-one : (y : Seat) (to : NodeNo) (number : ℕ) (l : Letter) → asked_of l ≡ Some number → said_of l ≡ None → Within y number to → Sent y (to, l)
sent-one y to number l e f c = record { asked = λ n g. subst (λ i. Within y i to) (number-is number n (sym e ∙ g)) c; said = f }

pub sent-each : (y : Seat) (nodes : List NodeNo) (number : ℕ) (l : Letter) → asked_of l ≡ Some number → said_of l ≡ None
    → ((n : ℕ) → has nodes n ≡ true → Within y number n) → AllByRecursion (Sent y) (to_each nodes l)
sent-each y [] number l e f c = tt
sent-each y (n ∷ ns) number l e f c =
    (sent-one y n number l e f (c n (it-has n ns)), sent-each y ns number l e f (λ m h. c m (or-right (n == m) (has ns m) h)))

pub sent-later : (x y : Seat) (ls : List (NodeNo × Letter)) → Later x y → AllByRecursion (Sent x) ls → AllByRecursion (Sent y) ls
sent-later x y ls f h =
    all-map (Sent x) (Sent y) ls (λ p s. record { asked = λ number e. f number p.0 (s.asked number e); said = s.said }) h

-- a letter of the order that is open, and one of an order that is over
pub of-it : (y : Seat) (p : OpenOrder) (number n : ℕ) → y.own.order ≡ Some p → number < y.orders → has p.asked n ≡ true → Within y number n
of-it y p number n e lt h =
    record { given = lt; of = λ o f k. subst (λ (q : OpenOrder). has q.asked n ≡ true) (the-order p o (sym e ∙ f)) h }

pub over-it : (y : Seat) (number n : ℕ) → y.own.order ≡ None → number < y.orders → Within y number n
over-it y number n e lt = record { given = lt; of = λ o f k. absurd (not-none o (sym e ∙ f)) }
