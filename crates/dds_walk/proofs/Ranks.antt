-- Where no two events have the same number each rank is there, so an event is picked wherever one is possible.
use Rattle.std.proofs.Common.{◌≡◌, ℕ, ◌+◌, ◌-◌, ◌<◌, ◌≤◌, Bool, true, false, List, [], ◌∷◌, ◌++◌, Some, None, length, zero, suc, refl, ap, ◌∙◌, subst, arith}
use Rattle.std.proofs.Math.Nat.{mod-lt}
use Rattle.std.specs.Prelude.{◌==◌, count_by, is_some, nat_lt, not, position, slice_get, if◌then◌else◌}
use Rattle.std.specs.List.{position_or_len}
use Rattle.std.proofs.lemmas.Bool.{both_ways, lt-ltb, ltb-false, ltb-true}
use Rattle.std.proofs.lemmas.Bool.Decides.{nat_tests}
use Rattle.std.proofs.lemmas.List.Sums.{sum_by-cons}
use Rattle.std.proofs.lemmas.Option.{slice_get_within}
use Rattle.dds_base.specs.declared.number.NodeNo.{NodeNo}
use Rattle.rand_pcg.specs.Pcg.{pcg32}
use Rattle.dds_walk.proofs.Numbers.{AreOnce, in_boxes, one, times, total}
use Rattle.dds_walk.specs.Picking.{all_handles, events, first_of, handles, node_at, picked, picked_of, posts, rank, rank_of, ranked, step_at, step_of}
use Rattle.dds_walk.specs.declared.picking.Event.{Event}
use Rattle.dds_walk.specs.declared.picking.Picking.{Picking}
use Rattle.dds_walk.specs.declared.picking.Picking.TheVariants.{Fifo, Newest, Words}
use Rattle.dds_cluster.specs.World.{World}
use Rattle.dds_cluster.specs.declared.step.Message.{Message}
use Rattle.dds_cluster.specs.declared.step.Step.{Step}
use Rattle.dds_cluster.specs.declared.step.Step.TheVariants as step

-- how many events have this number, or a lesser one
abbrev with_number : ℕ → List Event → ℕ
with_number n es = total (λ e. one (e.number == n)) es

abbrev below : ℕ → List Event → ℕ
below n es = total (λ e. one (nat_lt e.number n)) es

rank-is : (n : ℕ) (es : List Event) → count_by (λ x. nat_lt x.number n) es ≡ below n es
rank-is n [] = refl
rank-is n (e ∷ es) =
    sum_by-cons (λ (x : Event). if nat_lt x.number n then 1 else 0) e es ∙ ap (λ k. (if nat_lt e.number n then 1 else 0) + k) (rank-is n es)

abbrev AreApart : List Event → Type 0
AreApart es = (n : ℕ) → with_number n es ≤ 1

-- the numbers of events are those of letters
with-append : (n : ℕ) (es fs : List Event) → with_number n (es ++ fs) ≡ with_number n es + with_number n fs
with-append n [] fs = omega arith
with-append n (e ∷ es) fs = let r = with-append n es fs in omega (arith, r)

first-with : (n : ℕ) (s : Step) (ms : List Message) → with_number n (first_of s (slice_get ms 0)) ≤ times n ms
first-with n s [] = omega arith
first-with n s (m ∷ ms) = omega arith

posts-with : (n b at : ℕ) (boxes : List (List Message)) → with_number n (posts b at boxes) ≤ in_boxes n boxes
posts-with n b at [] = omega arith
posts-with n b at (box ∷ boxes) =
    let a = with-append n (first_of (step.Post (node_at b at)) (slice_get box 0)) (posts b (at + 1) boxes) in
    let c = first-with n (step.Post (node_at b at)) box in
    let d = posts-with n b (at + 1) boxes in
    omega (arith, a, c, d)

handles-with : (n b : ℕ) (from : NodeNo) (at : ℕ) (links : List (List Message)) → with_number n (handles b from at links) ≤ in_boxes n links
handles-with n b from at [] = omega arith
handles-with n b from at (l ∷ links) =
    let a = with-append n (first_of (step.Handle (node_at b at) from) (slice_get l 0)) (handles b from (at + 1) links) in
    let c = first-with n (step.Handle (node_at b at) from) l in
    let d = handles-with n b from (at + 1) links in
    omega (arith, a, c, d)

all-handles-with : (n b at : ℕ) (rows : List (List (List Message))) → with_number n (all_handles b at rows) ≤ total (in_boxes n) rows
all-handles-with n b at [] = omega arith
all-handles-with n b at (row ∷ rows) =
    let a = with-append n (handles b (node_at b at) 0 row) (all_handles b (at + 1) rows) in
    let c = handles-with n b (node_at b at) 0 row in
    let d = all-handles-with n b (at + 1) rows in
    omega (arith, a, c, d)

one-most : (b : Bool) → one b ≤ 1
one-most true = omega arith
one-most false = omega arith

events-apart : (w : World) → AreOnce w → AreApart (events w)
events-apart w h = λ n.
    let b = length w.bricks in
    let a = with-append n (posts b 0 w.outboxes) (all_handles b 0 w.links) in
    let c = posts-with n b 0 w.outboxes in
    let d = all-handles-with n b 0 w.links in
    let e = h n in
    let f = one-most (nat_lt n w.made) in
    omega (arith, a, c, d, e, f)

-- an event among others
there-with : (es : List Event) (i : ℕ) (e : Event) → slice_get es i ≡ Some e → 1 ≤ with_number e.number es
there-with [] i e is = absurd (cc)
there-with (x ∷ es) zero e is =
    let same : x ≡ e = cc in
    let its : one (x.number == e.number) ≡ 1 = ap one (subst (λ (y : Event). (x.number == y.number) ≡ true) same (grind (arith, nat_tests))) in
    omega (arith, its)
there-with (x ∷ es) (suc i) e is = let r = there-with es i e is in omega (arith, r)

one-rises : (m n k : ℕ) → n ≤ k → one (nat_lt m n) ≤ one (nat_lt m k)
one-rises m n k h = grind (arith, nat_tests, h)

below-rises : (es : List Event) (n k : ℕ) → n ≤ k → below n es ≤ below k es
below-rises [] n k h = omega arith
below-rises (x ∷ es) n k h = let r = below-rises es n k h in let a = one-rises x.number n k h in omega (arith, r, a)

below-there : (es : List Event) (i : ℕ) (e : Event) (k : ℕ) → slice_get es i ≡ Some e → e.number < k → below e.number es + 1 ≤ below k es
below-there [] i e k is h = absurd (cc)
below-there (x ∷ es) zero e k is h =
    let same : x ≡ e = cc in
    let its : x.number ≡ e.number = ap (λ (y : Event). y.number) same in
    let r = below-rises es e.number k (omega (arith, h)) in
    let a : one (nat_lt x.number e.number) + 1 ≤ one (nat_lt x.number k) = grind (arith, nat_tests, h, its) in
    omega (arith, r, a)
below-there (x ∷ es) (suc i) e k is h =
    let r = below-there es i e k is h in
    let a = one-rises x.number e.number k (omega (arith, h)) in
    omega (arith, r, a)

below-most : (es : List Event) (n : ℕ) → below n es ≤ length es
below-most [] n = omega arith
below-most (x ∷ es) n = let r = below-most es n in let a = one-most (nat_lt x.number n) in omega (arith, r, a)

-- the event of a rank
record HasRank (es : List Event) (r : ℕ) : Type 0 where
  at : ℕ
  event : Event
  there : slice_get es at ≡ Some event
  rank : below event.number es ≡ r

later : (a : Event) (es : List Event) (r k : ℕ) (g : HasRank es k) → one (nat_lt a.number g.event.number) + k ≡ r → HasRank (a ∷ es) r
later a es r k g e = record { at = suc g.at; event = g.event; there = g.there; rank = let b = g.rank in omega (arith, b, e) }

apart-rest : (a : Event) (es : List Event) → AreApart (a ∷ es) → AreApart es
apart-rest a es h = λ n. let b = h n in omega (arith, b)

other-number : (a e : Event) (es : List Event) (i : ℕ) → AreApart (a ∷ es) → slice_get es i ≡ Some e → a.number ≡ e.number → ⊥
other-number a e es i h is same =
    let b = h e.number in
    let c = there-with es i e is in
    let own : one (a.number == e.number) ≡ 1 = ap one (subst (λ n. (a.number == n) ≡ true) same (grind (arith, nat_tests))) in
    omega (arith, b, c, own)

not-less : (n k : ℕ) → k ≤ n → one (nat_lt n k) ≡ 0
not-less n k h = grind (arith, nat_tests, h)

is-less : (n k : ℕ) → n < k → one (nat_lt n k) ≡ 1
is-less n k h = grind (arith, nat_tests, h)

-- the rank is below that of the first event, its own, or above it
rank-low : (a : Event) (es : List Event) (r : ℕ) → r < below a.number es → HasRank es r → HasRank (a ∷ es) r
rank-low a es r h g = elim (nat_lt a.number g.event.number) as (λ b. nat_lt a.number g.event.number ≡ b → HasRank (a ∷ es) r) [
  | true ↦ λ e.
      let less : a.number < g.event.number = ltb-true a.number g.event.number e in
      let c = below-rises es a.number g.event.number (omega (arith, less)) in
      let d = g.rank in
      absurd (omega (arith, c, d, h))
  | false ↦ λ e.
      let none : one (nat_lt a.number g.event.number) ≡ 0 = ap one e in
      later a es r r g (omega (arith, none))
] refl

rank-own : (a : Event) (es : List Event) (r : ℕ) → r ≡ below a.number es → HasRank (a ∷ es) r
rank-own a es r h =
    let none = not-less a.number a.number (omega arith) in
    record { at = 0; event = a; there = refl; rank = omega (arith, none, h) }

rank-high : (a : Event) (es : List Event) (r : ℕ) → AreApart (a ∷ es) → below a.number es < r → HasRank es (r - 1) → HasRank (a ∷ es) r
rank-high a es r apart h g = elim (nat_lt a.number g.event.number) as (λ b. nat_lt a.number g.event.number ≡ b → HasRank (a ∷ es) r) [
  | true ↦ λ e.
      let some : one (nat_lt a.number g.event.number) ≡ 1 = ap one e in
      later a es r (r - 1) g (omega (arith, some, h))
  | false ↦ λ e.
      let most : g.event.number ≤ a.number = ltb-false a.number g.event.number e in
      elim (nat_lt g.event.number a.number) as (λ b. nat_lt g.event.number a.number ≡ b → HasRank (a ∷ es) r) [
        | true ↦ λ f.
            let c = below-there es g.at g.event a.number g.there (ltb-true g.event.number a.number f) in
            let d = g.rank in
            absurd (omega (arith, c, d, h))
        | false ↦ λ f.
            let least : a.number ≤ g.event.number = ltb-false g.event.number a.number f in
            absurd (other-number a g.event es g.at apart g.there (omega (arith, most, least)))
      ] refl
] refl

rank-there : (es : List Event) (r : ℕ) → AreApart es → r < length es → HasRank es r
rank-there [] r apart h = absurd (omega (arith, h))
rank-there (a ∷ es) r apart h =
    let k = below a.number es in
    let most = below-most es a.number in
    let rest = apart-rest a es apart in
    elim (nat_lt r k) as (λ b. nat_lt r k ≡ b → HasRank (a ∷ es) r) [
      | true ↦ λ e.
          let less : r < k = ltb-true r k e in
          rank-low a es r less (rank-there es r rest (omega (arith, less, most)))
      | false ↦ λ e.
          let least : k ≤ r = ltb-false r k e in
          elim (nat_lt k r) as (λ b. nat_lt k r ≡ b → HasRank (a ∷ es) r) [
            | true ↦ λ f.
                let more : k < r = ltb-true k r f in
                rank-high a es r apart more (rank-there es (r - 1) rest (omega (arith, more, h)))
            | false ↦ λ f.
                let same : r ≤ k = ltb-false k r f in
                rank-own a es r (omega (arith, least, same))
          ] refl
    ] refl

-- where an event passes a test one is found
first-most : (p : Event → Bool) (es : List Event) (i : ℕ) (e : Event) → slice_get es i ≡ Some e → p e ≡ true → position_or_len p es ≤ i
first-most p [] i e is h = absurd (cc)
first-most p (x ∷ es) zero e is h =
    let same : x ≡ e = cc in
    let passes : p x ≡ true = ap p same ∙ h in
    let none = ap (λ b. if not b then 1 + position_or_len p es else 0) passes in
    omega (arith, none)
first-most p (x ∷ es) (suc i) e is h =
    let r = first-most p es i e is h in
    elim (p x) as (λ b. (if not b then 1 + position_or_len p es else 0) ≤ suc i) [
      | true ↦ omega arith
      | false ↦ omega (arith, r)
    ]

get-some : (es : List Event) (i : ℕ) → i < length es → is_some (step_of (slice_get es i)) ≡ true
get-some [] i h = absurd (omega (arith, h))
get-some (e ∷ es) zero h = refl
get-some (e ∷ es) (suc i) h = get-some es i (omega (arith, h))

found-at : (p : Event → Bool) (es : List Event) (i : ℕ) (e : Event) → slice_get es i ≡ Some e → p e ≡ true → is_some (step_at es (position p es)) ≡ true
found-at p es i e is h =
    let at = position_or_len p es in
    let inside = slice_get_within es i e is in
    let most = first-most p es i e is h in
    let low : at < length es = omega (arith, inside, most) in
    ap (λ b. is_some (step_at es (if b then Some at else None))) (lt-ltb at (length es) low) ∙ get-some es at low

ranked-some : (es : List Event) (r : ℕ) → AreApart es → r < length es → is_some (ranked es r) ≡ true
ranked-some es r apart h =
    let g = rank-there es r apart h in
    let its : rank_of es g.event ≡ r = rank-is g.event.number es ∙ g.rank in
    let test : (rank_of es g.event == r) ≡ true = subst (λ n. (rank_of es g.event == n) ≡ true) its (grind (arith, nat_tests)) in
    found-at (λ e. rank_of es e == r) es g.at g.event g.there test

-- what a picker picks is the rank of an event
rank-within : (p : Picking) (k : ℕ) → rank p (suc k) < suc k
rank-within Fifo k = omega arith
rank-within Newest k = omega arith
rank-within (Words g) k = mod-lt (pcg32 g).0 (omega arith)

none-picked : (p : Picking) (es : List Event) → AreApart es → is_some (picked_of p es) ≡ false → es ≡ []
none-picked p [] apart none = refl
none-picked p (e ∷ es) apart none =
    absurd (both_ways (is_some (ranked (e ∷ es) (rank p (length (e ∷ es))))) none
    (ranked-some (e ∷ es) (rank p (length (e ∷ es))) apart (rank-within p (length es))))

pub picked-none : (p : Picking) (w : World) → AreOnce w → is_some (picked p w) ≡ false → events w ≡ []
picked-none p w h none = none-picked p (events w) (events-apart w h) none
