-- Lists of bricks that are no groups.
use Rattle.std.proofs.Common.{◌≡◌, ℕ, ◌≤◌, ◌&&◌, ◌||◌, Bool, true, false, nat_le, nat_lt, not, List, [], ◌∷◌, length, Option, Some, None}
use Rattle.std.proofs.Common.{refl, sym, ◌∙◌, arith, if◌then◌else◌}
use Rattle.std.proofs.lemmas.Bool.Decides.{nat_tests}
use Rattle.dds_base.specs.BrickList.{are_bricks, has, is_brick_list}
use Rattle.dds_script.specs.Fields.{IsListWord}
use Rattle.dds_script.specs.Grammar.{IsRepeating, repeats}
use Rattle.dds_script.specs.Ranges.{AreBelow}

pub bricks-repeat : (bricks : ℕ) (list : List ℕ) → bricks ≤ 64 → AreBelow bricks list → are_bricks list ≡ not (repeats list)
bricks-repeat bricks [] b all = refl
bricks-repeat bricks (x ∷ list) b all =
    let small : nat_lt x 64 ≡ true = (let h = all.0 in grind (arith, nat_tests, h, b)) in
    let rest : are_bricks list ≡ not (repeats list) = bricks-repeat bricks list b all.1 in
    rw (small, rest) (de-morgan (has list x) (repeats list))
  where
    de-morgan : (p q : Bool) → (not p && not q) ≡ not (p || q)
    de-morgan true q = refl
    de-morgan false q = refl

none-test : {A : Type 0} (b : Bool) (x : A) (r : Option A) → r ≡ None → r ≡ (if b then Some x else None) → b ≡ false
none-test true x r n e = absurd (let q : Some x ≡ None = sym e ∙ n in cc q)
none-test false x r n e = refl

-- one to eight bricks that are no group
pub list-twice : (bricks : ℕ) (word list : List ℕ) (made : Option (List ℕ)) → bricks ≤ 64 → IsListWord bricks word list → made ≡ None →
    made ≡ (if is_brick_list list then Some list else None) → IsRepeating bricks word
list-twice bricks word list made b is n e =
    let none : is_brick_list list ≡ false = none-test (is_brick_list list) list made n e in
    let some : nat_le 1 (length list) ≡ true = (let h = is.some in grind (arith, nat_tests, h)) in
    let most : nat_le (length list) 8 ≡ true = (let h = is.most in grind (arith, nat_tests, h)) in
    let bad : are_bricks list ≡ false = rw (some, most) at none in
    let flip : not (repeats list) ≡ false = sym (bricks-repeat bricks list b is.below) ∙ bad in
    record { list = list; spelled = is; twice = not-false (repeats list) flip }
  where
    not-false : (p : Bool) → not p ≡ false → p ≡ true
    not-false true h = refl
    not-false false h = absurd cc
