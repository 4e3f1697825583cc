use Rattle.std.proofs.Common.{◌≡◌, ℕ, ◌≤◌, ◌==◌, ◌||◌, Bool, true, false, List, [], ◌∷◌, ◌++◌, refl, sym, ap, ◌∙◌, subst}
use Rattle.std.proofs.lemmas.Bool.{eq-eqb, eqb-false, eqb-true, ne_eqb}
use Rattle.std.proofs.lemmas.List.{append-nil}
use Rattle.std.proofs.lemmas.List.Elements.{filter-append}
use Rattle.std.specs.List.{AllByRecursion}
use Rattle.std.specs.Prelude.{filter, if◌then◌else◌}
use Rattle.dds_base.specs.BrickList.{has}
use Rattle.dds_base.specs.declared.number.NodeNo.{NodeNo}
use Rattle.dds_letters.specs.declared.letter.Letter.{Letter}
use Rattle.dds_states.specs.Turn.{to_each}
use Rattle.dds_net.proofs.Pairwise.{Pairwise}
use Rattle.dds_net.proofs.Places.{one-place}
use Rattle.dds_net.specs.Event.{IsFront}
use Rattle.dds_net.specs.Net.{Sizes, gains, is_in, landing, lands, place_in, when_in}

-- The letters of a channel that are of one thing, such as one transaction, and how they change.

abbrev pub only : (Letter → Bool) → List Letter → List Letter
only p ls = filter p ls

pub only-append : (p : Letter → Bool) (xs ys : List Letter) → only p (xs ++ ys) ≡ only p xs ++ only p ys
only-append p xs ys = filter-append p xs ys

abbrev pub NoneOf : (Letter → Bool) → List (NodeNo × Letter) → Type 0
NoneOf p ls = AllByRecursion (λ (m : NodeNo × Letter). p m.1 ≡ false) ls

-- a first letter that is of it, and one that isn't
pub only-first : (p : Letter → Bool) (l : Letter) (c : List Letter) → p l ≡ true → only p (l ∷ c) ≡ l ∷ only p c
only-first p l c e = ap (λ x. if x then l ∷ only p c else only p c) e

pub only-other : (p : Letter → Bool) (l : Letter) (c : List Letter) → p l ≡ false → only p (l ∷ c) ≡ only p c
only-other p l c e = ap (λ x. if x then l ∷ only p c else only p c) e

-- letters of other things change nothing
landing-none : (p : Letter → Bool) (c : Bool) (l : Letter) (ls : List Letter) → p l ≡ false → only p ls ≡ [] → only p (if c then l ∷ ls else ls) ≡ []
landing-none p true l ls e h = only-other p l ls e ∙ h
landing-none p false l ls e h = h

only-landing : (p : Letter → Bool) (z : Sizes) (b : ℕ) (ls : List (NodeNo × Letter)) → NoneOf p ls → only p (landing z b ls) ≡ []
only-landing p z b [] h = refl
only-landing p z b (l ∷ ls) h = landing-none p (lands z l.0 b) l.1 (landing z b ls) h.0 (only-landing p z b ls h.1)

only-when : (p : Letter → Bool) (c : Bool) (ls : List Letter) → only p ls ≡ [] → only p (when_in c ls) ≡ []
only-when p true ls h = h
only-when p false ls h = refl

pub only-same : (p : Letter → Bool) (z : Sizes) (b : ℕ) (c : List Letter) (ls : List (NodeNo × Letter)) → NoneOf p ls → only p (c ++ gains z ls b) ≡ only p c
only-same p z b c ls h =
    only-append p c (gains z ls b) ∙ ap (λ x. only p c ++ x) (only-when p (is_in z b) (landing z b ls) (only-landing p z b ls h)) ∙ append-nil (only p c)

-- a stop leaves a beginning of them
pub only-front : (p : Letter → Bool) (xs ys : List Letter) → IsFront xs ys → IsFront (only p xs) (only p ys)
only-front p xs ys f = record { gone = only p f.gone; is = ap (only p) f.is ∙ only-append p xs f.gone }

-- a letter to a node of the cluster comes to that node alone
lands-if : (z : Sizes) (to b : ℕ) (c : Bool) → z.bricks ≤ 64 → is_in z to ≡ true → is_in z b ≡ true → (to == b) ≡ c → lands z to b ≡ c
lands-if z to b true few h k e = eq-eqb (place_in z.bricks to) (place_in z.bricks b) (ap (place_in z.bricks) (eqb-true to b e))
lands-if z to b false few h k e = ne_eqb (place_in z.bricks to) (place_in z.bricks b) (λ s. eqb-false to b e (one-place z to b few h k s))

pub lands-is : (z : Sizes) (to b : ℕ) → z.bricks ≤ 64 → is_in z to ≡ true → is_in z b ≡ true → lands z to b ≡ (to == b)
lands-is z to b few h k = lands-if z to b (to == b) few h k refl

among-none : (ns : List ℕ) (b : ℕ) → AllByRecursion (λ n. b ≡ n → ⊥) ns → has ns b ≡ false
among-none [] b h = refl
among-none (n ∷ ns) b h = ap (λ x. x || has ns b) (ne_eqb n b (λ e. h.0 (sym e))) ∙ among-none ns b h.1

each-if : (z : Sizes) (b n : ℕ) (ns : List ℕ) (l : Letter) (c : Bool) → (n == b) ≡ c → AllByRecursion (λ m. n ≡ m → ⊥) ns
    → landing z b (to_each ns l) ≡ when_in (has ns b) (l ∷ []) → (if c then l ∷ landing z b (to_each ns l) else landing z b (to_each ns l)) ≡ when_in
    (c || has ns b) (l ∷ [])
each-if z b n ns l true e h k =
    ap (λ x. l ∷ x) (k ∙ ap (λ x. when_in x (l ∷ [])) (among-none ns b (subst (λ i. AllByRecursion (λ m. i ≡ m → ⊥) ns) (eqb-true n b e) h)))
each-if z b n ns l false e h k = k

pub each-landing : (z : Sizes) (b : ℕ) (ns : List ℕ) (l : Letter) → z.bricks ≤ 64 → is_in z b ≡ true → AllByRecursion (λ n. is_in z n ≡ true) ns
    → Pairwise (λ m n. m ≡ n → ⊥) ns → landing z b (to_each ns l) ≡ when_in (has ns b) (l ∷ [])
each-landing z b [] l few h a d = refl
each-landing z b (n ∷ ns) l few h a d =
    ap (λ x. if x then l ∷ landing z b (to_each ns l) else landing z b (to_each ns l)) (lands-is z n b few a.0 h)
    ∙ each-if z b n ns l (n == b) refl d.0 (each-landing z b ns l few h a.1 d.1)

-- a letter to each of some nodes comes once to each of them
pub gains-each : (z : Sizes) (b : ℕ) (ns : List ℕ) (l : Letter) → z.bricks ≤ 64 → is_in z b ≡ true → AllByRecursion (λ n. is_in z n ≡ true) ns
    → Pairwise (λ m n. m ≡ n → ⊥) ns → gains z (to_each ns l) b ≡ when_in (has ns b) (l ∷ [])
gains-each z b ns l few h a d = ap (λ x. when_in x (landing z b (to_each ns l))) h ∙ each-landing z b ns l few h a d

pub gains-one : (z : Sizes) (to b : ℕ) (l : Letter) → z.bricks ≤ 64 → is_in z to ≡ true → is_in z b ≡ true
    → gains z ((to, l) ∷ []) b ≡ when_in (to == b) (l ∷ [])
gains-one z to b l few h k = ap (λ x. when_in x (landing z b ((to, l) ∷ []))) k ∙ ap (λ x. if x then l ∷ [] else []) (lands-is z to b few h k)

-- what some letters and then others bring to a node
landing-one : (c : Bool) (l : Letter) (xs ys zs : List Letter) → zs ≡ xs ++ ys → (if c then l ∷ zs else zs) ≡ (if c then l ∷ xs else xs) ++ ys
landing-one true l xs ys zs e = ap (λ x. l ∷ x) e
landing-one false l xs ys zs e = e

landing-append : (z : Sizes) (b : ℕ) (xs ys : List (NodeNo × Letter)) → landing z b (xs ++ ys) ≡ landing z b xs ++ landing z b ys
landing-append z b [] ys = refl
landing-append z b (x ∷ xs) ys = landing-one (lands z x.0 b) x.1 (landing z b xs) (landing z b ys) (landing z b (xs ++ ys)) (landing-append z b xs ys)

when-append : (c : Bool) (xs ys : List Letter) → when_in c (xs ++ ys) ≡ when_in c xs ++ when_in c ys
when-append true xs ys = refl
when-append false xs ys = refl

pub gains-append : (z : Sizes) (b : ℕ) (xs ys : List (NodeNo × Letter)) → gains z (xs ++ ys) b ≡ gains z xs b ++ gains z ys b
gains-append z b xs ys = ap (when_in (is_in z b)) (landing-append z b xs ys) ∙ when-append (is_in z b) (landing z b xs) (landing z b ys)
