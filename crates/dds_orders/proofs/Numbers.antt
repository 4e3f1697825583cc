use Rattle.std.proofs.Common.{◌≡◌, ℕ, ◌<◌, ◌==◌, ◌&&◌, ◌||◌, ◌++◌, Bool, true, false, not, Some, None, List, [], ◌∷◌, refl, sym, ap, ◌∙◌}
use Rattle.std.proofs.Common.{subst, arith}
use Rattle.std.proofs.lemmas.Bool.{eq-eqb, ne_eqb}
use Rattle.std.proofs.lemmas.Bool.Decides.{nat_tests}
use Rattle.std.specs.List.{AllByRecursion}
use Rattle.std.specs.Prelude.{filter, if◌then◌else◌}
use Rattle.dds_base.specs.BrickList.{has}
use Rattle.dds_base.specs.NodeSet.{has_node}
use Rattle.dds_base.specs.declared.leaf.Leaf.{Leaf}
use Rattle.dds_base.specs.declared.node_set.NodeSet.{NodeSet}
use Rattle.dds_base.specs.declared.number.NodeNo.{NodeNo}
use Rattle.dds_core.proofs.Lists.{all-map}
use Rattle.dds_groups.proofs.Members.{has-live}
use Rattle.dds_letters.specs.declared.letter.Letter.{Letter}
use Rattle.dds_letters.specs.declared.letter.Letter.TheVariants as letter
use Rattle.dds_letters.specs.declared.refusal.Wanted.TheVariants as wanted
use Rattle.dds_order_rows.specs.OwnOrder as order
use Rattle.dds_states.specs.Turn.{to_each, unknown, unknown_others, without}
use Rattle.dds_states.specs.declared.brick_state.OpenOrder.{OpenOrder}
use Rattle.dds_states.specs.declared.brick_state.OrderPhase.TheVariants.{Copying, Installing}
use Rattle.dds_orders.proofs.Deeds.{Seat, is_of_orders}
use Rattle.dds_orders.specs.Law.{IsOf, asked_of, said_of}

-- The invariant, of one brick and the letters about its orders.
--
-- | part | why it is needed | which rows keep it |
-- |---|---|---|
-- | `given`: the open order's number is below the count    | a letter of it has a number that was given       | the orders Join, Split            |
-- | `asked`, `granted`, `source`: the brick itself is in   | it sends itself no letter of an order            | Join, Split; Granted, also where  |
-- | none of its order's lists                              |                                                  | it fixes a leaf                   |
-- | `Counted`: the number of a letter about its orders is  | claimed; a letter of an order that ended isn't   | what sends such letters           |
-- | below the count; of the open order it says what is so  | taken for one of the open order                  |                                   |

-- a number that the brick gave, in a letter about its orders
pub record Counted (x : Seat) (number : ℕ) (l : Letter) : Type 0 where
  pub given : number < x.orders
  pub of : (o : OpenOrder) → x.own.order ≡ Some o → o.number ≡ number → IsOf o l

pub record OrderOk (me : ℕ) (count : ℕ) (o : OpenOrder) : Type 0 where
  pub given : o.number < count
  pub asked : has o.asked me ≡ false
  pub granted : has o.granted me ≡ false
  pub source : (n : NodeNo) → o.phase ≡ Copying n → n ≡ me → ⊥

pub record Numbering (me : ℕ) (x : Seat) : Type 0 where
  pub number : x.own.number ≡ me
  pub order : (o : OpenOrder) → x.own.order ≡ Some o → OrderOk me x.orders o

-- letters about the brick's orders stay so
abbrev pub Later : Seat → Seat → Type 0
Later x y = (number : ℕ) (l : Letter) → Counted x number l → Counted y number l

-- what the brick sends of itself is to others, and about an order of its own
pub record Sent (me : ℕ) (y : Seat) (p : NodeNo × Letter) : Type 0 where
  pub asked : (number : ℕ) → asked_of p.1 ≡ Some number → Counted y number p.1 × (p.0 ≡ me → ⊥)
  pub said : said_of p.1 ≡ None

abbrev pub AllOwn : ℕ → Seat → List (NodeNo × Letter) → Type 0
AllOwn me y ls = AllByRecursion (Sent me y) ls

pub record Kept (me : ℕ) (x : Seat) (ls : List (NodeNo × Letter)) (y : Seat) : Type 0 where
  pub next : Numbering me y
  pub later : Later x y
  pub sent : AllOwn me y ls

-- lists
pub has-append : (xs ys : List ℕ) (n : ℕ) → has (xs ++ ys) n ≡ (has xs n || has ys n)
has-append [] ys n = refl
has-append (x ∷ xs) ys n = ap (λ c. x == n || c) (has-append xs ys n) ∙ or-assoc (x == n) (has xs n) (has ys n)
  where
    or-assoc : (a b c : Bool) → (a || (b || c)) ≡ (a || b || c)
    or-assoc true b c = refl
    or-assoc false b c = refl

pub none-append : (xs ys : List ℕ) (n : ℕ) → has xs n ≡ false → has ys n ≡ false → has (xs ++ ys) n ≡ false
none-append xs ys n h k = has-append xs ys n ∙ ap (λ c. c || has ys n) h ∙ k

none-if : (c : Bool) (x : ℕ) (xs : List ℕ) (n : ℕ) → (c ≡ true → (x == n) ≡ false) → has xs n ≡ false → has (if c then x ∷ xs else xs) n ≡ false
none-if true x xs n f h = ap (λ c. c || has xs n) (f refl) ∙ h
none-if false x xs n f h = h

not-same : (x n : ℕ) → not (x == n) ≡ true → (x == n) ≡ false
not-same x n h = grind (arith, nat_tests, h)

pub has-without : (xs : List ℕ) (n : ℕ) → has (without xs n) n ≡ false
has-without [] n = refl
has-without (x ∷ xs) n = none-if (not (x == n)) x (without xs n) n (not-same x n) (has-without xs n)

none-parts : (a b : Bool) → (a || b) ≡ false → (a ≡ false) × (b ≡ false)
none-parts true b h = cc
none-parts false b h = (refl, h)

none-filter : (p : ℕ → Bool) (xs : List ℕ) (n : ℕ) → has xs n ≡ false → has (filter p xs) n ≡ false
none-filter p [] n h = refl
none-filter p (x ∷ xs) n h =
    let k = none-parts (x == n) (has xs n) h in
    none-if (p x) x (filter p xs) n (λ e. k.0) (none-filter p xs n k.1)

pub none-unknown : (xs : List ℕ) (known : NodeSet) (n : ℕ) → has xs n ≡ false → has (unknown xs known) n ≡ false
none-unknown xs known n h = has-live xs (has_node known) n ∙ ap (λ c. c && not (has_node known n)) h

pub none-others : (xs : List ℕ) (from : ℕ) (known : NodeSet) (n : ℕ) → has xs n ≡ false → has (unknown_others xs from known) n ≡ false
none-others xs from known n h = none-filter (λ k. not (k == from)) (unknown xs known) n (none-unknown xs known n h)

pub ne-has : (n m : ℕ) → (n ≡ m → ⊥) → has (n ∷ []) m ≡ false
ne-has n m ne = ap (λ c. c || false) (ne_eqb n m ne)

pub has-ne : (xs : List ℕ) (n m : ℕ) → has xs n ≡ true → has xs m ≡ false → n ≡ m → ⊥
has-ne xs n m h k e = let no : true ≡ false = sym h ∙ ap (has xs) e ∙ k in cc

-- the same order goes on
pub record GoesOn (o p : OpenOrder) : Type 0 where
  pub number : p.number ≡ o.number
  pub name : p.name ≡ o.name
  pub leaf : (leaf : Leaf) → o.leaf ≡ Some leaf → p.leaf ≡ Some leaf
  pub leasing : order.is_leasing o.phase ≡ false → order.is_leasing p.phase ≡ false
  pub made : (made : Leaf) → o.phase ≡ Installing made → p.phase ≡ Installing made

pub of-later : (o p : OpenOrder) → GoesOn o p → (l : Letter) → IsOf o l → IsOf p l
of-later o p g (letter.Lease number (wanted.Name name)) h = h ∙ sym g.name
of-later o p g (letter.Lease number (wanted.Leaf leaf)) h = g.leaf leaf h
of-later o p g (letter.Release number name) h = h
of-later o p g (letter.CopyAsk number name place) h = (h.0 ∙ sym g.name, g.leasing h.1)
of-later o p g (letter.Install number leaf) h = g.made leaf h
of-later o p g other h = tt

pub order-later : (x y : Seat) (o p : OpenOrder) → x.own.order ≡ Some o → y.own.order ≡ Some p → x.orders ≡ y.orders → GoesOn o p → Later x y
order-later x y o p e f same g number l c =
    record {
      given = subst (λ i. number < i) same c.given;
      of = λ q is n.
          let pq : p ≡ q = some-is p q (sym f ∙ is) in
          subst (λ (r : OpenOrder). IsOf r l) pq (of-later o p g l (c.of o e (sym g.number ∙ ap (λ (r : OpenOrder). r.number) pq ∙ n)));
    }
  where
    some-is : (a b : OpenOrder) → Some a ≡ Some b → a ≡ b
    some-is a b e = cc

pub the-order : (a b : OpenOrder) → Some a ≡ Some b → a ≡ b
the-order a b e = cc

-- no order is open afterwards, or the same one in the same state
pub closed-later : (x y : Seat) → y.own.order ≡ None → x.orders ≡ y.orders → Later x y
closed-later x y e same number l c =
    record { given = subst (λ i. number < i) same c.given; of = λ o f n. let no : None ≡ Some o = sym e ∙ f in cc }

pub closed-ok : (me : ℕ) (y : Seat) → y.own.number ≡ me → y.own.order ≡ None → Numbering me y
closed-ok me y n e = record { number = n; order = λ o f. let no : None ≡ Some o = sym e ∙ f in cc }

pub same-later : (x y : Seat) → y.own.order ≡ x.own.order → x.orders ≡ y.orders → Later x y
same-later x y e same number l c = record { given = subst (λ i. number < i) same c.given; of = λ o f n. c.of o (sym e ∙ f) n }

pub same-ok : (me : ℕ) (x y : Seat) → y.own.number ≡ x.own.number → y.own.order ≡ x.own.order → y.orders ≡ x.orders → Numbering me x → Numbering me y
same-ok me x y n e same h = record { number = n ∙ h.number; order = λ o f. subst (λ i. OrderOk me i o) (sym same) (h.order o (sym e ∙ f)) }

pub on-ok : (me : ℕ) (y : Seat) (p : OpenOrder) → y.own.number ≡ me → y.own.order ≡ Some p → OrderOk me y.orders p → Numbering me y
on-ok me y p n e h = record { number = n; order = λ o f. subst (OrderOk me y.orders) (the-order p o (sym e ∙ f)) h }

-- letters to each of some others
pub others-asked : (l : Letter) → is_of_orders l ≡ false → (asked_of l ≡ None) × (said_of l ≡ None)
others-asked (letter.Lease number what) h = cc
others-asked (letter.Granted number leaf) h = cc
others-asked (letter.LeaseRefused number why) h = cc
others-asked (letter.Release number name) h = cc
others-asked (letter.CopyAsk number name place) h = cc
others-asked (letter.CopyPart number last pairs) h = cc
others-asked (letter.Install number leaf) h = cc
others-asked (letter.Installed number name) h = cc
others-asked other h = (refl, refl)

pub other-sent : (me : ℕ) (y : Seat) (p : NodeNo × Letter) → is_of_orders p.1 ≡ false → Sent me y p
other-sent me y p h =
    let k = others-asked p.1 h in record { asked = λ number e. let no : None ≡ Some number = sym k.0 ∙ e in cc; said = k.1 }

pub sent-one : (me : ℕ) (y : Seat) (to : NodeNo) (number : ℕ) (l : Letter) → asked_of l ≡ Some number → said_of l ≡ None → Counted y number l
    → (to ≡ me → ⊥) → Sent me y (to, l)
sent-one me y to number l e f c ne =
    record {
      asked = λ n g. let is : number ≡ n = some-number number n (sym e ∙ g) in (subst (λ i. Counted y i l) is c, ne);
      said = f;
    }
  where
    some-number : (a b : ℕ) → Some a ≡ Some b → a ≡ b
    some-number a b e = cc

pub sent-each : (me : ℕ) (y : Seat) (nodes : List NodeNo) (number : ℕ) (l : Letter) → asked_of l ≡ Some number → said_of l ≡ None → Counted y number l
    → has nodes me ≡ false → AllOwn me y (to_each nodes l)
sent-each me y [] number l e f c h = tt
sent-each me y (n ∷ ns) number l e f c h =
    let k = none-parts (n == me) (has ns me) h in
    (sent-one me y n number l e f c (λ is. let no : true ≡ false = sym (eq-eqb n me is) ∙ k.0 in cc), sent-each me y ns number l e f c k.1)

pub sent-later : (me : ℕ) (x y : Seat) (ls : List (NodeNo × Letter)) → Later x y → AllOwn me x ls → AllOwn me y ls
sent-later me x y ls f h =
    all-map (Sent me x) (Sent me y) ls
    (λ p s. record { asked = λ number e. let k = s.asked number e in (f number p.1 k.0, k.1); said = s.said }) h
