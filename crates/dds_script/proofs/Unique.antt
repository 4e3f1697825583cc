-- A word spells one name, and one list.
use Rattle.std.proofs.Common.{◌≡◌, ℕ, ◌≤◌, true, false, not, List, [], ◌∷◌, ◌++◌, map, refl, ap, sym, ◌∙◌, arith}
use Rattle.std.proofs.lemmas.Bool.Decides.{nat_tests}
use Rattle.std.proofs.lemmas.Fmt.{decimal_injective}
use Rattle.std.specs.Fmt.{decimal}
use Rattle.dds_base.specs.BrickList.{are_bricks}
use Rattle.dds_base.specs.Name.{Name}
use Rattle.dds_base.specs.declared.leaf.Leaf.{Leaf}
use Rattle.dds_script.proofs.Groups.{bricks-repeat}
use Rattle.dds_script.proofs.Lists.{list-cut}
use Rattle.dds_script.proofs.Marks.{cut-one}
use Rattle.dds_script.proofs.WordFacts.{name-bits, bits-hasno}
use Rattle.dds_script.specs.Fields.{IsListWord, IsNameWord}
use Rattle.dds_script.specs.Grammar.{IsMet, IsRepeating, repeats}
use Rattle.dds_script.specs.Opening.{meets}
use Rattle.dds_script.specs.Ranges.{AreBelow, IsGroup}

pub same-name : (word : List ℕ) (a b : Name) → IsNameWord word a → IsNameWord word b → a ≡ b
same-name word a b x y =
    let e : decimal a.bits ++ 47 ∷ decimal a.depth ≡ decimal b.bits ++ 47 ∷ decimal b.depth = sym x.0 ∙ y.0 in
    let c = cut-one 47 (decimal a.bits) (decimal b.bits) (decimal a.depth) (decimal b.depth) (bits-hasno a x.1) (bits-hasno b y.1) e in
    let bits : a.bits ≡ b.bits = decimal_injective a.bits b.bits (omega (arith, name-bits a x.1)) (omega (arith, name-bits b y.1)) c.0 in
    let depth : a.depth ≡ b.depth = decimal_injective a.depth b.depth (omega (arith, x.1.depth)) (omega (arith, y.1.depth)) c.1 in
    ap (λ (n : ℕ). record { bits = n; depth = a.depth }) bits ∙ ap (λ (n : ℕ). record { bits = b.bits; depth = n }) depth

same-numbers : (bricks : ℕ) (a b : List ℕ) → bricks ≤ 255 → AreBelow bricks a → AreBelow bricks b → map decimal a ≡ map decimal b → a ≡ b
same-numbers bricks [] [] l h k e = refl
same-numbers bricks [] (y ∷ b) l h k e = absurd cc
same-numbers bricks (x ∷ a) [] l h k e = absurd cc
same-numbers bricks (x ∷ a) (y ∷ b) l h k e =
    let head : decimal x ≡ decimal y = cc in
    let tail : map decimal a ≡ map decimal b = cc in
    let q : x ≡ y = decimal_injective x y (omega (arith, h.0, l)) (omega (arith, k.0, l)) head in
    let r : a ≡ b = same-numbers bricks a b l h.1 k.1 tail in
    cc

pub same-list : (bricks : ℕ) (word a b : List ℕ) → bricks ≤ 255 → IsListWord bricks word a → IsListWord bricks word b → a ≡ b
same-list bricks word a b l x y = same-numbers bricks a b l x.below y.below (sym (list-cut bricks word a l x) ∙ list-cut bricks word b l y)

-- a group repeats no brick
pub no-repeat : (bricks : ℕ) (word list : List ℕ) → bricks ≤ 64 → IsListWord bricks word list → IsGroup bricks list → IsRepeating bricks word → ⊥
no-repeat bricks word list b is g r =
    let e : list ≡ r.list = same-list bricks word list r.list (omega (arith, b)) is r.spelled in
    let t : repeats list ≡ true = ap repeats e ∙ r.twice in
    let a : are_bricks list ≡ not (repeats list) = bricks-repeat bricks list b is.below in
    let f : are_bricks list ≡ false = a ∙ ap not t in
    let h = g.group in
    grind (arith, nat_tests, h, f)

pub no-met : (leaves : List Leaf) (word : List ℕ) (name : Name) → IsNameWord word name → meets leaves name ≡ false → IsMet leaves word → ⊥
no-met leaves word name is m met =
    let e : name ≡ met.name = same-name word name met.name is met.spelled in
    let t : meets leaves name ≡ true = ap (λ (n : Name). meets leaves n) e ∙ met.met in
    let q : false ≡ true = sym m ∙ t in
    cc q
