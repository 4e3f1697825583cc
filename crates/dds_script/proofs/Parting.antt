-- Cutting a text at a mark.
use Rattle.std.proofs.Common.{◌≡◌, ◌==◌, ℕ, ◌+◌, ◌<◌, Bool, true, false, List, [], ◌∷◌, ◌++◌, length, take, drop, Some, refl, ap, ◌∙◌}
use Rattle.std.proofs.Common.{arith, if◌then◌else◌, lit<}
use Rattle.std.proofs.lemmas.Bool.Decides.{nat_tests}
use Rattle.dds_script.specs.Words.{HasNo, IsFound, cut, put_first, has_gap, words}

if-yes : {A : Type 0} (b : Bool) (x y : A) → b ≡ true → (if b then x else y) ≡ x
if-yes true x y e = refl
if-yes false x y e = absurd cc

if-no : {A : Type 0} (b : Bool) (x y : A) → b ≡ false → (if b then x else y) ≡ y
if-no false x y e = refl
if-no true x y e = absurd cc

-- a text without the mark is one text
pub cut-none : (mark : ℕ) (xs : List ℕ) → HasNo mark xs → cut mark xs ≡ xs ∷ []
cut-none mark [] h = refl
cut-none mark (x ∷ xs) h =
    let e : (x == mark) ≡ false = (let n = h.0 in grind (arith, nat_tests, n)) in
    if-no (x == mark) ([] ∷ cut mark xs) (put_first x (cut mark xs)) e ∙ ap (put_first x) (cut-none mark xs h.1)

-- the first text is what stands before the first mark
pub cut-mark : (mark : ℕ) (xs ys : List ℕ) → HasNo mark xs → cut mark (xs ++ mark ∷ ys) ≡ xs ∷ cut mark ys
cut-mark mark [] ys h =
    let e : (mark == mark) ≡ true = grind (arith, nat_tests) in
    if-yes (mark == mark) ([] ∷ cut mark ys) (put_first mark (cut mark ys)) e
cut-mark mark (x ∷ xs) ys h =
    let e : (x == mark) ≡ false = (let n = h.0 in grind (arith, nat_tests, n)) in
    if-no (x == mark) ([] ∷ cut mark (xs ++ mark ∷ ys)) (put_first x (cut mark (xs ++ mark ∷ ys))) e ∙ ap (put_first x) (cut-mark mark xs ys h.1)

pub cut-found : (mark : ℕ) (xs first rest : List ℕ) (place : ℕ) → IsFound xs mark (Some place) → first ≡ take place xs → rest ≡ drop (place + 1) xs →
    cut mark xs ≡ first ∷ cut mark rest
cut-found mark xs first rest place f a b =
    rw (a, b) (ap (cut mark) f.1 ∙ cut-mark mark (take place xs) (drop (place + 1) xs) f.2)

-- there is one text at least
pub cut-some : (mark : ℕ) (xs : List ℕ) → 0 < length (cut mark xs)
cut-some mark [] = lit< tt
cut-some mark (x ∷ xs) = elim (x == mark) as (λ b. 0 < length (if b then [] ∷ cut mark xs else put_first x (cut mark xs)))
    [ true ↦ omega arith | false ↦ some-first x (cut mark xs) ]
  where
    some-first : (x : ℕ) (ts : List (List ℕ)) → 0 < length (put_first x ts)
    some-first x [] = lit< tt
    some-first x (t ∷ ts) = omega arith

-- five words, and more behind them
pub many-words : (w1 w2 w3 w4 w5 w6 : List (List ℕ)) (a b c d e : List ℕ) → w1 ≡ a ∷ w2 → w2 ≡ b ∷ w3 → w3 ≡ c ∷ w4 → w4 ≡ d ∷ w5 → w5 ≡ e ∷ w6 →
    0 < length w6 → 5 < length w1
many-words w1 w2 w3 w4 w5 w6 a b c d e h1 h2 h3 h4 h5 h6 = rw (h1, h2, h3, h4, h5) (omega (arith, h6))

-- a line has a word
pub words-some : (text : List ℕ) → 0 < length (words text)
words-some text =
    elim (has_gap text) as (λ b. 0 < length (if b then [] ∷ [] else cut 32 text)) [ true ↦ omega arith | false ↦ cut-some 32 text ]
