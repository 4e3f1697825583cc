use Rattle.std.proofs.Common.{◌≡◌, ℕ, ◌+◌, ◌-◌, ◌%◌, ◌^◌, ◌<◌, ◌≤◌, ◌∙◌, sym, min, leb, eqb, true, false, IsTrue, arith, refl}
use Rattle.std.proofs.lemmas.Bool.Decides.{nat_tests}
use Rattle.std.proofs.Math.Pow.{mod-mod-pow}
use Rattle.std.proofs.Math.Nat.{mod-eq_of_lt, pow-le-pow_right}
use Rattle.dds_base.specs.Name.{Name, covers, overlaps, SharesAKey}

-- a shorter mask after a longer one
pub mod-mod-le : (n j k : ℕ) → j ≤ k → n % 2 ^ k % 2 ^ j ≡ n % 2 ^ j
mod-mod-le n j k h = let e : k ≡ k - j + j = omega arith in rw e (mod-mod-pow n (k - j) j)

eq-of-test : (x y : ℕ) → IsTrue (eqb x y) → x ≡ y
eq-of-test x y h = grind (arith, nat_tests, h)

test-of-eq : (x y : ℕ) → x ≡ y → IsTrue (eqb x y)
test-of-eq x y h = grind (arith, nat_tests, h)

pub shares-at : (a b : Name) (key : ℕ) → IsTrue (covers a key) → IsTrue (covers b key) → IsTrue (overlaps a b)
shares-at a b key ha hb =
    let m = min a.depth b.depth in
    let ea : key % 2 ^ a.depth ≡ a.bits = eq-of-test _ _ ha in
    let eb : key % 2 ^ b.depth ≡ b.bits = eq-of-test _ _ hb in
    let ma : key % 2 ^ a.depth % 2 ^ m ≡ key % 2 ^ m = mod-mod-le key m a.depth (omega arith) in
    let mb : key % 2 ^ b.depth % 2 ^ m ≡ key % 2 ^ m = mod-mod-le key m b.depth (omega arith) in
    test-of-eq _ _ (rw (← ea, ← eb) (ma ∙ sym mb))

-- the longer name's bits are a key of both
longer-bits : (a b : Name) → a.depth ≤ b.depth → b.depth ≤ 16 → a.bits < 2 ^ a.depth → b.bits < 2 ^ b.depth → IsTrue (overlaps a b) →
    (b.bits < 2 ^ 64) × IsTrue (covers a b.bits) × IsTrue (covers b b.bits)
longer-bits a b short deep ha hb h =
    let m : min a.depth b.depth ≡ a.depth = omega arith in
    let e : a.bits % 2 ^ min a.depth b.depth ≡ b.bits % 2 ^ min a.depth b.depth = eq-of-test _ _ h in
    let e2 : a.bits % 2 ^ a.depth ≡ b.bits % 2 ^ a.depth = rw m at e in
    let ea : a.bits % 2 ^ a.depth ≡ a.bits = mod-eq_of_lt ha in
    let eb : b.bits % 2 ^ b.depth ≡ b.bits = mod-eq_of_lt hb in
    let p : 2 ^ b.depth ≤ 2 ^ 16 = pow-le-pow_right (omega arith) deep in
    (omega arith, test-of-eq _ _ (sym e2 ∙ ea), test-of-eq _ _ eb)

overlaps-sym : (a b : Name) → IsTrue (overlaps a b) → IsTrue (overlaps b a)
overlaps-sym a b h =
    let m : min a.depth b.depth ≡ min b.depth a.depth = omega arith in
    let e : a.bits % 2 ^ min a.depth b.depth ≡ b.bits % 2 ^ min a.depth b.depth = eq-of-test _ _ h in
    test-of-eq _ _ (rw (← m) (sym e))

pub shares-from : (a b : Name) → a.depth ≤ 16 → b.depth ≤ 16 → a.bits < 2 ^ a.depth → b.bits < 2 ^ b.depth → IsTrue (overlaps a b) → SharesAKey a b
shares-from a b da db ha hb h =
    elim (leb a.depth b.depth) as (λ t. leb a.depth b.depth ≡ t → SharesAKey a b) [
      | true ↦ λ e. let k = longer-bits a b (grind (arith, nat_tests, e)) db ha hb h in (b.bits, k.0, k.1, k.2)
      | false ↦ λ e. let k = longer-bits b a (grind (arith, nat_tests, e)) da hb ha (overlaps-sym a b h) in (a.bits, k.0, k.2, k.1)
    ] refl
