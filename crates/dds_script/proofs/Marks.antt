-- Finding a mark among bytes.
use Rattle.std.proofs.Common.{◌≡◌, ◌≢◌, ℕ, ◌+◌, ◌<◌, List, [], ◌∷◌, ◌++◌, length, get_or, take, drop, refl, sym, subst, arith}
use Rattle.std.proofs.lemmas.Grind.{common_steps}
use Rattle.dds_script.specs.Words.{HasNo}

-- no byte of two texts is the mark
pub hasno-append : (mark : ℕ) (xs ys : List ℕ) → HasNo mark xs → HasNo mark ys → HasNo mark (xs ++ ys)
hasno-append mark [] ys a b = b
hasno-append mark (x ∷ xs) ys a b = (a.0, hasno-append mark xs ys a.1 b)

-- one byte more that isn't the mark
pub hasno-more : (mark : ℕ) (xs : List ℕ) (i : ℕ) → i < length xs → HasNo mark (take i xs) → get_or xs i 0 ≢ mark → HasNo mark (take (i + 1) xs)
hasno-more mark xs i h a b =
    let e : take (i + 1) xs ≡ take i xs ++ get_or xs i 0 ∷ [] = grind (arith, common_steps) in
    subst (λ (l : List ℕ). HasNo mark l) (sym e) (hasno-append mark (take i xs) (get_or xs i 0 ∷ []) a (b, tt))

-- the bytes at a place that is the mark
pub cut-at : (mark : ℕ) (xs : List ℕ) (i : ℕ) → i < length xs → get_or xs i 0 ≡ mark → xs ≡ take i xs ++ mark ∷ drop (i + 1) xs
cut-at mark xs i h e = rw (← e) (grind (arith, common_steps))

-- a text is parted in one way at its first mark
pub cut-one : (mark : ℕ) (xs ys cs ds : List ℕ) → HasNo mark xs → HasNo mark ys → xs ++ mark ∷ cs ≡ ys ++ mark ∷ ds → (xs ≡ ys) × (cs ≡ ds)
cut-one mark [] [] cs ds a b e = (refl, cc)
cut-one mark [] (y ∷ ys) cs ds a b e = absurd (b.0 cc)
cut-one mark (x ∷ xs) [] cs ds a b e = absurd (a.0 cc)
cut-one mark (x ∷ xs) (y ∷ ys) cs ds a b e =
    let t : xs ++ mark ∷ cs ≡ ys ++ mark ∷ ds = cc in
    let r : (xs ≡ ys) × (cs ≡ ds) = cut-one mark xs ys cs ds a.1 b.1 t in
    let x_is : x ≡ y = cc in
    let tail : xs ≡ ys = r.0 in
    (cc, r.1)

-- a text with the mark isn't one without it
pub cut-none : (mark : ℕ) (xs ys : List ℕ) → HasNo mark (xs ++ mark ∷ ys) → ⊥
cut-none mark [] ys h = h.0 refl
cut-none mark (x ∷ xs) ys h = cut-none mark xs ys h.1
