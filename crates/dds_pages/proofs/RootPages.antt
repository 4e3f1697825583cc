-- Laws of root pages.
use Rattle.std.proofs.Common.{ℕ, zero, suc, ◌≡◌, ◌+◌, ◌*◌, ◌<◌, ◌≤◌, List, [], ◌∷◌, ◌++◌, length, take, get_or, set, refl, sym, ◌∙◌, ap}
use Rattle.std.proofs.Common.{arith, append_assoc, length-append, add-one}
use Rattle.std.specs.List.{flat_map}
use Rattle.std.proofs.lemmas.List.{take_more, take_more_set}
use Rattle.std.proofs.lemmas.Grind.{flat_map-append}
use Rattle.std.proofs.lemmas.List.{append-nil}
use Rattle.dds_pages.specs.Fields.{number_at, spelled}
use Rattle.dds_pages.specs.Root.{numbers_at}
use Rattle.dds_pages.proofs.Numbers.{length-spelled}

-- one number more
pub numbers-push : (bytes : List ℕ) (at n : ℕ) → numbers_at bytes at (n + 1) ≡ numbers_at bytes at n ++ number_at bytes (at + 8 * n) 8 ∷ []
unfolding numbers_at
numbers-push bytes at zero = ap (λ (i : ℕ). number_at bytes i 8 ∷ []) (omega arith)
numbers-push bytes at (suc n) =
    let e : at + 8 + 8 * n ≡ at + 8 * suc n = omega arith in
    rw add-one (ap (λ (r : List ℕ). number_at bytes at 8 ∷ r) (rw add-one at (numbers-push bytes (at + 8) n)
    ∙ ap (λ (i : ℕ). numbers_at bytes (at + 8) n ++ number_at bytes i 8 ∷ []) e))

-- storing the next number
pub numbers-set : (bytes firsts : List ℕ) (at i x : ℕ) → take i firsts ≡ numbers_at bytes at i → i < length firsts → x ≡ number_at bytes (at + 8 * i) 8 →
    take (i + 1) (set firsts i x) ≡ numbers_at bytes at (i + 1)
numbers-set bytes firsts at i x h within e =
    take_more_set firsts i x within ∙ ap (λ (r : List ℕ). r ++ x ∷ []) h ∙ ap (λ (y : ℕ). numbers_at bytes at i ++ y ∷ []) e ∙ sym (numbers-push bytes at i)

-- how many bytes numbers take
pub length-all-spelled : (xs : List ℕ) → length (flat_map (spelled 8) xs) ≡ 8 * length xs
length-all-spelled [] = refl
length-all-spelled (x ∷ xs) = let l = length-spelled 8 x in let m = length-all-spelled xs in simp length-append (omega arith)

-- writing the next number
pub put-next : (start was : List ℕ) (xs : List ℕ) (i x : ℕ) → was ≡ start ++ flat_map (spelled 8) (take i xs) → i < length xs → x ≡ get_or xs i 0 →
    was ++ spelled 8 x ≡ start ++ flat_map (spelled 8) (take (i + 1) xs)
put-next start was xs i x h within e =
    ap (λ (r : List ℕ). r ++ spelled 8 x) h ∙ append_assoc start (flat_map (spelled 8) (take i xs)) (spelled 8 x)
    ∙ ap (λ (r : List ℕ). start ++ r) (sym (ap (flat_map (spelled 8)) (take_more xs i 0 within) ∙ flat_map-append (spelled 8) (take i xs) (get_or xs i 0 ∷ [])
    ∙ ap (λ (y : ℕ). flat_map (spelled 8) (take i xs) ++ (spelled 8 y ++ [])) (sym e)
    ∙ ap (λ (r : List ℕ). flat_map (spelled 8) (take i xs) ++ r) (append-nil (spelled 8 x))))

-- there is room for the next number
pub put-room : (start was : List ℕ) (xs : List ℕ) (i : ℕ) → was ≡ start ++ flat_map (spelled 8) (take i xs) → length (take i xs) ≤ i →
    length was ≤ length start + 8 * i
put-room start was xs i h short = let l = length-all-spelled (take i xs) in rw h (simp length-append (omega arith))
