-- Laws of the walk by a key's bits.
use Rattle.std.proofs.Common.{◌≡◌, ℕ, ◌+◌, ◌-◌, ◌*◌, ◌%◌, ◌/◌, ◌^◌, ◌==◌, ◌<◌, ◌≤◌, List, [], ◌∷◌, length, get_or, Some, None, refl, ap}
use Rattle.std.proofs.Common.{sym, ◌∙◌, zero, suc, subst, arith}
use Rattle.std.proofs.lemmas.Bool.Decides.{nat_tests}
use Rattle.std.proofs.lemmas.Nat.{mod-pow-add}
use Rattle.std.proofs.Math.Pow.{field, mod-mod-pow}
use Rattle.dds_base.specs.Name.{Name}
use Rattle.dds_trie.specs.declared.nodes.Node.{Node}
use Rattle.dds_trie.specs.Trie.{name_at}
use Rattle.dds_trie.specs.Nodes.{is_high, child, linked, first, next, place, blank}

pub place-first : (ns : List Node) (key : ℕ) → place ns key 0 ≡ first ns
unfolding place
place-first ns key = refl

pub place-more : (ns : List Node) (key depth : ℕ) → place ns key (suc depth) ≡ next ns (place ns key depth) (is_high key depth)
unfolding place
place-more ns key depth = refl

-- what a node that is there is, whatever would stand for one that isn't
pub node-at : (ns : List Node) (i : ℕ) (x : Node) → i < length ns → get_or ns i x ≡ get_or ns i blank
node-at [] i x h = absurd (omega (arith, h))
node-at (n ∷ ns) zero x h = refl
node-at (n ∷ ns) (suc i) x h = node-at ns i x (omega (arith, h))

pub place-next : (ns : List Node) (key depth from : ℕ) → place ns key depth ≡ Some from →
    place ns key (depth + 1) ≡ linked (child (get_or ns from blank) (is_high key depth))
place-next ns key depth from h =
    let e : depth + 1 ≡ suc depth = omega arith in
    ap (place ns key) e ∙ place-more ns key depth ∙ ap (λ o. next ns o (is_high key depth)) h

-- a walk that has ended leads nowhere further on
pub none-later : (ns : List Node) (key depth k : ℕ) → place ns key depth ≡ None → place ns key (k + depth) ≡ None
none-later ns key depth zero h =
    let e : 0 + depth ≡ depth = omega arith in
    ap (place ns key) e ∙ h
none-later ns key depth (suc k) h =
    let e : suc k + depth ≡ suc (k + depth) = omega arith in
    ap (place ns key) e ∙ place-more ns key (k + depth) ∙ ap (λ o. next ns o (is_high key (k + depth))) (none-later ns key depth k h)

pub none-at : (ns : List Node) (key depth want : ℕ) → place ns key depth ≡ None → depth ≤ want → place ns key want ≡ None
none-at ns key depth want h le =
    let e : want ≡ (want - depth) + depth = omega (arith, le) in
    ap (place ns key) e ∙ none-later ns key depth (want - depth) h

-- keys with the same lowest bits have the same walk
place-alike : (ns : List Node) (a b depth : ℕ) → ((j : ℕ) → j < depth → is_high a j ≡ is_high b j) → place ns a depth ≡ place ns b depth
place-alike ns a b zero h = place-first ns a ∙ sym (place-first ns b)
place-alike ns a b (suc d) h =
    place-more ns a d ∙ ap (λ o. next ns o (is_high a d)) (place-alike ns a b d (λ j lt. h j (omega (arith, lt))))
    ∙ ap (next ns (place ns b d)) (h d (omega arith)) ∙ sym (place-more ns b d)

bit-of-low : (key depth j : ℕ) → j < depth → key % 2 ^ depth / 2 ^ j % 2 ≡ key / 2 ^ j % 2
bit-of-low key depth j lt =
    let e : depth ≡ ((depth - j - 1) + 1) + j = omega (arith, lt) in
    ap (λ d. key % 2 ^ d / 2 ^ j % 2) e ∙ ap (λ n. n % 2) (field key ((depth - j - 1) + 1) j) ∙ mod-mod-pow (key / 2 ^ j) (depth - j - 1) 1

pub place-low : (ns : List Node) (key depth : ℕ) → place ns (key % 2 ^ depth) depth ≡ place ns key depth
place-low ns key depth = place-alike ns (key % 2 ^ depth) key depth (λ j lt. ap (λ b. b == 1) (bit-of-low key depth j lt))

bits-alike : (x y : ℕ) → (x % 2 == 1) ≡ (y % 2 == 1) → x % 2 ≡ y % 2
bits-alike x y h = grind (arith, nat_tests, h)

-- names of one depth more, where the names of a depth and the next bits are the same
pub name-next : (a b d e : ℕ) → name_at a d ≡ name_at b e → is_high a d ≡ is_high b e → name_at a (suc d) ≡ name_at b (e + 1)
name-next a b d e h high =
    let depths : d ≡ e = ap (λ (n : Name). n.depth) h in
    subst (λ f. name_at a (suc d) ≡ name_at b (f + 1)) depths (
    let low : a % 2 ^ d ≡ b % 2 ^ d = ap (λ (n : Name). n.bits) h ∙ ap (λ f. b % 2 ^ f) (sym depths) in
    let bit : a / 2 ^ d % 2 ≡ b / 2 ^ d % 2 = bits-alike (a / 2 ^ d) (b / 2 ^ d) (high ∙ ap (is_high b) (sym depths)) in
    let s : suc d ≡ 1 + d = omega arith in
    let t : d + 1 ≡ 1 + d = omega arith in
    ap (name_at a) s ∙ ap (λ n. name_of n (1 + d)) (mod-pow-add a d-one d ∙ ap (λ n. n * 2 ^ d + a % 2 ^ d) bit ∙ ap (λ n. b / 2 ^ d % 2 * 2 ^ d + n) low
    ∙ sym (mod-pow-add b d-one d)) ∙ ap (name_at b) (sym t))
  where
    d-one : ℕ
    d-one = 1

    name_of : ℕ → ℕ → Name
    name_of bits depth = record { bits = bits; depth = depth }
