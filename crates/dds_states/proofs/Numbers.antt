-- Laws of nodes by number.
use Rattle.std.proofs.Common.{◌≡◌, ℕ, ◌+◌, ◌-◌, ◌<◌, List, [], ◌∷◌, ◌++◌, suc, refl, sym, ap, ◌∙◌, arith, append_assoc}
use Rattle.dds_states.specs.Turn.{numbers_from}

numbers-next : (b n f : ℕ) → n < b → numbers_from (b - n) (f + n) ≡ (f + n) ∷ numbers_from (b - (n + 1)) (f + (n + 1))
numbers-next b n f h =
    let e : b - n ≡ suc (b - (n + 1)) = omega (arith, h) in
    let s : (f + n) + 1 ≡ f + (n + 1) = omega arith in
    rw e (ap (λ k. (f + n) ∷ numbers_from (b - (n + 1)) k) s)

-- one number more
pub numbers-push : (list new whole : List ℕ) (b n f m : ℕ) → n < b → list ++ numbers_from (b - n) (f + n) ≡ whole → new ≡ list ++ m ∷ [] → m ≡ f + n →
    new ++ numbers_from (b - (n + 1)) (f + (n + 1)) ≡ whole
numbers-push list new whole b n f m h so is same =
    ap (λ xs. xs ++ numbers_from (b - (n + 1)) (f + (n + 1))) (is ∙ ap (λ k. list ++ k ∷ []) same)
    ∙ append_assoc list ((f + n) ∷ []) (numbers_from (b - (n + 1)) (f + (n + 1))) ∙ ap (λ xs. list ++ xs) (sym (numbers-next b n f h)) ∙ so
