-- Leaves that have no key in common cover each key exactly where their shares make up the whole.
use Rattle.std.proofs.Common.{◌≡◌, ◌≢◌, ◌==◌, ℕ, ◌+◌, ◌-◌, ◌*◌, ◌%◌, ◌^◌, ◌<◌, ◌≤◌, ◌||◌, Bool, true, false, List, [], ◌∷◌, length, get_or}
use Rattle.std.proofs.Common.{drop, drop-cons, add-one, refl, ap, sym, ◌∙◌, arith, zero, suc, lit<, nat_eq, IsTrue, if◌then◌else◌}
use Rattle.std.proofs.lemmas.Bool.Decides.{nat_tests}
use Rattle.std.proofs.lemmas.Grind.{common_steps}
use Rattle.std.proofs.lemmas.Nat.{mod-mul-add, pow-add, mod_below}
use Rattle.std.specs.List.{AllByRecursion}
use Rattle.dds_base.proofs.Names.{mod-mod-le, shares-at}
use Rattle.dds_base.specs.Name.{Name, covers, overlaps}
use Rattle.dds_base.specs.declared.leaf.Leaf.{Leaf}
use Rattle.dds_script.specs.Opening.{AreApart, CoverAll, IsPlaced, is_covered, meets}
use Rattle.dds_script.specs.Ranges.{IsName}
use Rattle.dds_script.specs.Shares.{share, shares}

-- 1 where the test holds, and else 0
abbrev one_if : Bool → ℕ
one_if true = 1
one_if false = 0

-- the sum over the numbers below
over : ℕ → (ℕ → ℕ) → ℕ
over zero f = 0
over (suc n) f = over n f + f n

over-zero : (f : ℕ → ℕ) → over 0 f ≡ 0
unfolding over
over-zero f = refl

over-suc : (n : ℕ) (f : ℕ → ℕ) → over (suc n) f ≡ over n f + f n
unfolding over
over-suc n f = refl

abbrev hit : Name → ℕ → ℕ
hit name key = one_if (covers name key)

-- how many of the leaves cover the key
abbrev hits : List Leaf → ℕ → ℕ
hits [] key = 0
hits (leaf ∷ leaves) key = hit leaf.name key + hits leaves key

over-none : (n : ℕ) → over n (λ key. 0) ≡ 0
over-none zero = over-zero (λ key. 0)
over-none (suc n) = omega (arith, over-suc n (λ key. 0), over-none n)

over-add : (n : ℕ) (f g : ℕ → ℕ) → over n (λ k. f k + g k) ≡ over n f + over n g
over-add zero f g = omega (arith, over-zero (λ k. f k + g k), over-zero f, over-zero g)
over-add (suc n) f g = omega (arith, over-suc n (λ k. f k + g k), over-suc n f, over-suc n g, over-add n f g)

one-if-eq : (j b : ℕ) → one_if (j == b) ≡ (if j == b then 1 else 0)
one-if-eq j b = elim (j == b) as (λ t. one_if t ≡ (if t then 1 else 0)) [ true ↦ refl | false ↦ refl ]

-- whether the bits came up among the first numbers of a block
abbrev seen : ℕ → ℕ → ℕ
seen b zero = 0
seen b (suc j) = seen b j + one_if (j == b)

seen-none : (b j : ℕ) → j ≤ b → seen b j ≡ 0
seen-none b zero h = refl
seen-none b (suc j) h =
    let e : (j == b) ≡ false = grind (arith, nat_tests, h) in
    omega (arith, seen-none b j (omega (arith, h)), ap one_if e)

seen-one : (b j : ℕ) → b < j → seen b j ≡ 1
seen-one b zero h = absurd (omega (arith, h))
seen-one b (suc j) h = elim (j == b) as (λ t. (j == b) ≡ t → seen b j + one_if t ≡ 1) [
  | true ↦ λ e. let q : j ≡ b = grind (arith, nat_tests, e) in omega (arith, seen-none b j (omega (arith, q)))
  | false ↦ λ e. let q : j ≢ b = (λ x. grind (arith, nat_tests, e, x)) in omega (arith, seen-one b j (omega (arith, q, h)))
] refl

over-part : (name : Name) (q j : ℕ) → j ≤ 2 ^ name.depth → over (q * 2 ^ name.depth + j) (hit name) ≡ over (q * 2 ^ name.depth) (hit name) + seen name.bits j
over-part name q zero h =
    let e : q * 2 ^ name.depth + 0 ≡ q * 2 ^ name.depth = omega arith in
    rw e (omega arith)
over-part name q (suc j) h =
    let m = 2 ^ name.depth in
    let e : q * m + suc j ≡ suc (q * m + j) = omega arith in
    let r : (q * m + j) % m ≡ j = mod-mul-add q m j (omega (arith, h)) in
    let t : hit name (q * m + j) ≡ one_if (j == name.bits) = ap (λ (x : ℕ). one_if (x == name.bits)) r in
    rw e (omega (arith, over-suc (q * m + j) (hit name), over-part name q j (omega (arith, h)), t))

over-block : (name : Name) (q : ℕ) → name.bits < 2 ^ name.depth → over (q * 2 ^ name.depth) (hit name) ≡ q
over-block name zero h =
    let e : 0 * 2 ^ name.depth ≡ 0 = omega arith in
    rw e (over-zero (hit name))
over-block name (suc q) h =
    let m = 2 ^ name.depth in
    let e : suc q * m ≡ q * m + m = omega arith in
    rw e (omega (arith, over-part name q m (omega arith), over-block name q h, seen-one name.bits m h))

-- a name covers its share of the endings
over-name : (name : Name) (top : ℕ) → top ≡ 65536 → IsName name → over top (hit name) ≡ share name
over-name name top t is =
    let e : 16 ≡ 16 - name.depth + name.depth = omega (arith, is.depth) in
    let p : 2 ^ 16 ≡ 2 ^ (16 - name.depth) * 2 ^ name.depth = ap (λ (x : ℕ). 2 ^ x) e ∙ pow-add 2 (16 - name.depth) name.depth in
    let h : top ≡ 2 ^ (16 - name.depth) * 2 ^ name.depth = t ∙ p in
    rw h (over-block name (2 ^ (16 - name.depth)) is.bits)

over-leaves : (bricks : ℕ) (leaves : List Leaf) (top : ℕ) → top ≡ 65536 → AllByRecursion (IsPlaced bricks) leaves → over top (hits leaves) ≡ shares leaves
over-leaves bricks [] top t all = over-none top
over-leaves bricks (leaf ∷ leaves) top t all =
    omega (arith, over-add top (hit leaf.name) (hits leaves), over-name leaf.name top t all.0.name, over-leaves bricks leaves top t all.1)

-- no leaf covers a key of a name that none of them meets
hits-none : (leaves : List Leaf) (name : Name) (key : ℕ) → meets leaves name ≡ false → covers name key ≡ true → hits leaves key ≡ 0
hits-none [] name key m c = refl
hits-none (leaf ∷ leaves) name key m c =
    let a : overlaps leaf.name name ≡ false = grind (arith, nat_tests, m) in
    let b : meets leaves name ≡ false = grind (arith, nat_tests, m) in
    let h : covers leaf.name key ≡ false = elim (covers leaf.name key) as (λ t. covers leaf.name key ≡ t → t ≡ false)
    [ true ↦ λ e. absurd (let o : overlaps leaf.name name ≡ true = shares-at leaf.name name key e c in cc (o, a)) | false ↦ λ e. refl ] refl in
    omega (arith, ap one_if h, hits-none leaves name key b c)

hits-most : (leaves : List Leaf) (key : ℕ) → AreApart leaves → hits leaves key ≤ 1
hits-most [] key a = omega arith
hits-most (leaf ∷ leaves) key a = elim (covers leaf.name key) as (λ t. covers leaf.name key ≡ t → one_if t + hits leaves key ≤ 1) [
  | true ↦ λ e. omega (arith, hits-none leaves leaf.name key a.0 e)
  | false ↦ λ e. omega (arith, hits-most leaves key a.1)
] refl

over-most : (n : ℕ) (f : ℕ → ℕ) → ((k : ℕ) → f k ≤ 1) → over n f ≤ n
over-most zero f h = omega (arith, over-zero f)
over-most (suc n) f h = omega (arith, over-suc n f, over-most n f h, h n)

-- a sum of ones that is as large as can be
over-full : (n : ℕ) (f : ℕ → ℕ) → ((k : ℕ) → f k ≤ 1) → over n f ≡ n → (k : ℕ) → k < n → f k ≡ 1
over-full zero f h e k l = absurd (omega (arith, l))
over-full (suc n) f h e k l = elim (k == n) as (λ t. (k == n) ≡ t → f k ≡ 1) [
  | true ↦ λ x. let q : k ≡ n = grind (arith, nat_tests, x) in rw q (omega (arith, over-suc n f, over-most n f h, h n, e))
  | false ↦ λ x. let q : k ≢ n = (λ y. grind (arith, nat_tests, x, y)) in
      over-full n f h (omega (arith, over-suc n f, over-most n f h, h n, e)) k (omega (arith, l, q))
] refl

over-ones : (n : ℕ) (f : ℕ → ℕ) → ((k : ℕ) → f k ≡ 1) → over n f ≡ n
over-ones zero f h = over-zero f
over-ones (suc n) f h = omega (arith, over-suc n f, over-ones n f h, h n)

covered-hit : (leaves : List Leaf) (key : ℕ) → hits leaves key ≡ 1 → IsTrue (is_covered leaves key)
covered-hit [] key h = absurd (omega (arith, h))
covered-hit (leaf ∷ leaves) key h = elim (covers leaf.name key) as (λ t. one_if t + hits leaves key ≡ 1 → IsTrue (t || is_covered leaves key)) [
  | true ↦ λ e. refl
  | false ↦ λ e. covered-hit leaves key (omega (arith, e))
] h

hit-covered : (leaves : List Leaf) (key : ℕ) → IsTrue (is_covered leaves key) → 1 ≤ hits leaves key
hit-covered [] key h = absurd cc
hit-covered (leaf ∷ leaves) key h = elim (covers leaf.name key) as (λ t. IsTrue (t || is_covered leaves key) → 1 ≤ one_if t + hits leaves key) [
  | true ↦ λ e. omega arith
  | false ↦ λ e. omega (arith, hit-covered leaves key e)
] h

-- the lowest bits of a key tell which names cover it
covered-ending : (bricks : ℕ) (leaves : List Leaf) (key : ℕ) → AllByRecursion (IsPlaced bricks) leaves →
    is_covered leaves (key % 2 ^ 16) ≡ is_covered leaves key
covered-ending bricks [] key all = refl
covered-ending bricks (leaf ∷ leaves) key all =
    let e : covers leaf.name (key % 2 ^ 16) ≡ covers leaf.name key = ap (λ (x : ℕ). x == leaf.name.bits) (mod-mod-le key leaf.name.depth 16 all.0.name.depth) in
    rw e (ap (λ (t : Bool). covers leaf.name key || t) (covered-ending bricks leaves key all.1))

pub shares-most : (bricks : ℕ) (leaves : List Leaf) (top : ℕ) → top ≡ 65536 → AreApart leaves → AllByRecursion (IsPlaced bricks) leaves → shares leaves ≤ 65536
shares-most bricks leaves top t apart all =
    omega (arith, t, over-leaves bricks leaves top t all, over-most top (hits leaves) (λ k. hits-most leaves k apart))

cover-shares : (bricks : ℕ) (leaves : List Leaf) (top : ℕ) → top ≡ 65536 → AreApart leaves → AllByRecursion (IsPlaced bricks) leaves → shares leaves ≡ 65536 →
    CoverAll leaves
cover-shares bricks leaves top t apart all s key =
    let full : over top (hits leaves) ≡ top = omega (arith, t, s, over-leaves bricks leaves top t all) in
    let low : key % 2 ^ 16 < top = omega (arith, t, mod_below key (2 ^ 16) (lit< tt)) in
    let one = over-full top (hits leaves) (λ k. hits-most leaves k apart) full (key % 2 ^ 16) low in
    sym (covered-ending bricks leaves key all) ∙ covered-hit leaves (key % 2 ^ 16) one

shares-cover : (bricks : ℕ) (leaves : List Leaf) (top : ℕ) → top ≡ 65536 → AreApart leaves → AllByRecursion (IsPlaced bricks) leaves → CoverAll leaves →
    shares leaves ≡ 65536
shares-cover bricks leaves top t apart all c =
    let ones = over-ones top (hits leaves) (λ k. omega (arith, hits-most leaves k apart, hit-covered leaves k (c k))) in
    omega (arith, t, ones, over-leaves bricks leaves top t all)

-- the sum of the shares tells whether each key is covered
pub sum-tells : (leaves : List Leaf) (sum : ℕ) → AreApart leaves → (bricks : ℕ) × AllByRecursion (IsPlaced bricks) leaves → sum ≡ shares leaves →
    (IsTrue (nat_eq sum 65536) → CoverAll leaves) × (CoverAll leaves → IsTrue (nat_eq sum 65536))
sum-tells leaves sum apart placed e = (
  λ h. cover-shares placed.0 leaves 65536 refl apart placed.1 (let q : sum ≡ 65536 = grind (arith, nat_tests, h) in sym e ∙ q),
  λ c. let q : sum ≡ 65536 = e ∙ shares-cover placed.0 leaves 65536 refl apart placed.1 c in grind (arith, nat_tests, q),
)

pub shares-drop : (leaves : List Leaf) (place : ℕ) (leaf : Leaf) → place < length leaves → leaf ≡ get_or leaves place leaf →
    shares (drop place leaves) ≡ share leaf.name + shares (drop (place + 1) leaves)
shares-drop leaves place leaf h e =
    let d : drop place leaves ≡ get_or leaves place leaf ∷ drop (place + 1) leaves = rw add-one (drop-cons leaves place leaf h) in
    ap shares d ∙ ap (λ (l : Leaf). share l.name + shares (drop (place + 1) leaves)) (sym e)

pub shares-end : (leaves : List Leaf) (place : ℕ) → length leaves ≤ place → shares (drop place leaves) ≡ 0
shares-end leaves place h =
    let d : drop place leaves ≡ [] = grind (arith, common_steps) in
    ap shares d
