-- `newer` is a strict order of leaves, total on leaves whose stamps differ.
use Rattle.std.proofs.Common.{◌≡◌, ℕ, ◌⊎◌, Bool, true, false, ltb, refl, arith}
use Rattle.std.proofs.lemmas.Bool.Decides.{nat_tests}
use Rattle.dds_base.specs.declared.leaf.Leaf.{Leaf}
use Rattle.dds_groups.specs.Leaves.{newer, same_stamp, above}

pub newer-irreflexive : (a : Leaf) → newer a a ≡ false
newer-irreflexive a = grind (arith, nat_tests)

pub newer-asymmetric : (a b : Leaf) → newer a b ≡ true → newer b a ≡ false
newer-asymmetric a b h = grind (arith, nat_tests, h)

above-transitive : (x y z : ℕ) (p q r : Bool) → (p ≡ true → q ≡ true → r ≡ true) → above x y p ≡ true → above y z q ≡ true → above x z r ≡ true
above-transitive x y z true true true f h k = grind (arith, nat_tests, h, k)
above-transitive x y z true true false f h k = grind (arith, nat_tests, f refl refl)
above-transitive x y z false q r f h k = grind (arith, nat_tests, h, k)
above-transitive x y z true false r f h k = grind (arith, nat_tests, h, k)

lt-transitive : (x y z : ℕ) → ltb y x ≡ true → ltb z y ≡ true → ltb z x ≡ true
lt-transitive x y z h k = grind (arith, nat_tests, h, k)

pub newer-transitive : (a b c : Leaf) → newer a b ≡ true → newer b c ≡ true → newer a c ≡ true
newer-transitive a b c h k =
    above-transitive a.epoch b.epoch c.epoch _ _ _
    (above-transitive a.name.depth b.name.depth c.name.depth _ _ _
    (above-transitive a.stamp.maker b.stamp.maker c.stamp.maker _ _ _ (lt-transitive a.stamp.count b.stamp.count c.stamp.count))) h k

pub newer-total : (a b : Leaf) → same_stamp a.stamp b.stamp ≡ false → (newer a b ≡ true) ⊎ (newer b a ≡ true)
newer-total a b h = grind (arith, nat_tests, h)
