-- Laws of cutting a map below a name.
use Rattle.std.proofs.Common.{◌≡◌, ℕ, ◌+◌, ◌%◌, ◌^◌, ◌==◌, ◌&&◌, ◌||◌, ◌<◌, ◌≤◌, ◌⊎◌, inl, inr, Bool, true, false, not, cond, eqb, ltb, leb}
use Rattle.std.proofs.Common.{Option, Some, None, Result, Ok, Err, OnErr, IsSome, refl, ap, sym, ◌∙◌, subst, arith}
use Rattle.std.proofs.lemmas.Bool.Decides.{nat_tests}
use Rattle.std.specs.Ordering.{nat_cmp, ordering_then, eq_by_cmp, is_eq}
use Rattle.std.specs.declared.cmp.Ordering.{Ordering}
use Rattle.std.specs.declared.cmp.Ordering.TheVariants.{Less, Equal, Greater}
use Rattle.std.specs.Cmp.{IsTotalOrder, nat_cmp_total, on_total, then_total, tied_then}
use Rattle.std.specs.FinMap.{IsAntisymmetric, nat_cmp-IsAntisymmetric, get, insert, remove, get-insert, get-remove, get-retain_keys, same_map}
use Rattle.std.proofs.Math.Nat.{mod-eq_of_lt}
use Rattle.dds_base.specs.Name.{Name, covers}
use Rattle.dds_base.specs.declared.leaf.Leaf.{Leaf}
use Rattle.dds_groups.specs.Names.{low_half, high_half}
use Rattle.dds_groups.proofs.NameHalves.{halves-cover}
use Rattle.dds_trie.specs.Trie.{rebound, name_cmp, LeafMap, is_under, is_below, cut, cut_below, put, IsWithin}

pub name_total : IsTotalOrder name_cmp
name_total = then_total (on_total (λ (n : Name). n.bits) nat_cmp_total) (on_total (λ (n : Name). n.depth) nat_cmp_total)

name : ℕ → ℕ → Name
name bits depth = record { bits = bits; depth = depth }

first-equal : (a b : Ordering) → ordering_then a b ≡ Equal → a ≡ Equal
first-equal Less b h = h
first-equal Equal b h = refl
first-equal Greater b h = h

second-equal : (a b : Ordering) → ordering_then a b ≡ Equal → b ≡ Equal
second-equal Less b h = cc
second-equal Equal b h = h
second-equal Greater b h = cc

pub name_antisymmetric : IsAntisymmetric name_cmp
unfolding name
name_antisymmetric a b h =
    let l : a.bits ≡ b.bits = nat_cmp-IsAntisymmetric a.bits b.bits (first-equal _ _ h) in
    let n : a.depth ≡ b.depth = nat_cmp-IsAntisymmetric a.depth b.depth (second-equal (nat_cmp a.bits b.bits) _ h) in
    ap (λ k. name k a.depth) l ∙ ap (λ k. name b.bits k) n

number-alike : (x y : ℕ) → is_eq (nat_cmp x y) ≡ (x == y)
number-alike x y = grind (arith, nat_tests)

-- names tie where their bits and depths are equal
pub names-alike : (a b : Name) → eq_by_cmp name_cmp a b ≡ (a.bits == b.bits && a.depth == b.depth)
names-alike a b =
    sym (tied_then (nat_cmp a.bits b.bits) (nat_cmp a.depth b.depth)) ∙ ap (λ t. t && is_eq (nat_cmp a.depth b.depth)) (number-alike a.bits b.bits)
    ∙ ap (λ t. a.bits == b.bits && t) (number-alike a.depth b.depth)

pub get-cut_below : (m : LeafMap) (top q : Name) → get (cut_below m top) q ≡ cond (not (is_below top q)) (get m q) None
get-cut_below m top q = get-retain_keys m (λ n. not (is_below top n)) q (λ x e. ap (λ n. not (is_below top n)) (sym (name_antisymmetric q x e)))

pub get-cut : (m : LeafMap) (top q : Name) → get (cut m top) q ≡ cond (not (is_under top q)) (get m q) None
get-cut m top q = get-retain_keys m (λ n. not (is_under top n)) q (λ x e. ap (λ n. not (is_under top n)) (sym (name_antisymmetric q x e)))

pub get-without : (m : LeafMap) (k q : Name) → get (remove m k) q ≡ cond (q.bits == k.bits && q.depth == k.depth) None (get m q)
get-without m k q = get-remove name_total m k q ∙ ap (λ b. cond b None (get m q)) (names-alike q k)

pub get-with : (m : LeafMap) (k : Name) (leaf : Leaf) (q : Name) → get (insert m k leaf) q ≡ cond (q.bits == k.bits && q.depth == k.depth) (Some leaf) (get m q)
get-with m k leaf q = get-insert name_total m k leaf q ∙ ap (λ b. cond b (Some leaf) (get m q)) (names-alike q k)

-- what is bound after both halves of a name and all below them were taken away
get-halves : (m : LeafMap) (low high q : Name) → get (cut_below (remove (cut_below (remove m low) low) high) high) q
    ≡ cond (not (is_below high q)) (cond (q.bits == high.bits && q.depth == high.depth) None
    (cond (not (is_below low q)) (cond (q.bits == low.bits && q.depth == low.depth) None (get m q)) None)) None
get-halves m low high q =
    get-cut_below (remove (cut_below (remove m low) low) high) high q
    ∙ ap (λ v. cond (not (is_below high q)) v None) (get-without (cut_below (remove m low) low) high q
    ∙ ap (λ v. cond (q.bits == high.bits && q.depth == high.depth) None v) (get-cut_below (remove m low) low q
    ∙ ap (λ v. cond (not (is_below low q)) v None) (get-without m low q)))

nested-none : (a b c d e : Bool) → let none : Option Leaf = None in
    cond (not a) (cond b none (cond (not c) (cond d none none) none)) none ≡ cond (not e) none none
nested-none true b c d true = refl
nested-none true b c d false = refl
nested-none false true c d true = refl
nested-none false true c d false = refl
nested-none false false true d true = refl
nested-none false false true d false = refl
nested-none false false false true true = refl
nested-none false false false true false = refl
nested-none false false false false true = refl
nested-none false false false false false = refl

nested-test : (a b c d : Bool) (v : Option Leaf) →
    cond (not a) (cond b None (cond (not c) (cond d None v) None)) None ≡ cond (not (a || (b || (c || d)))) v None
nested-test true b c d v = refl
nested-test false true c d v = refl
nested-test false false true d v = refl
nested-test false false false true v = refl
nested-test false false false false v = refl

flip-or : (a b : Bool) → (a || b) ≡ ((b && true) || (a && true))
flip-or true true = refl
flip-or true false = refl
flip-or false true = refl
flip-or false false = refl

flip-four : (a b c d : Bool) → (a || b) ≡ (b || ((c && false) || (a || (d && false))))
flip-four true true c d = refl
flip-four true false true d = refl
flip-four true false false d = refl
flip-four false true c d = refl
flip-four false false true true = refl
flip-four false false true false = refl
flip-four false false false true = refl
flip-four false false false false = refl

four : (c d : Bool) → false ≡ ((c && false) || (d && false))
four true true = refl
four true false = refl
four false true = refl
four false false = refl

halves-by : (nb nd qb qd p r : ℕ) (c cl ch : Bool) → c ≡ (cl || ch) → cl ≡ (r == nb) → ch ≡ (r == nb + p) → (qd ≡ nd + 1 → r ≡ qb) →
    (ltb nd qd && c) ≡ ((ltb (nd + 1) qd && ch) || ((qb == nb + p && qd == nd + 1) || ((ltb (nd + 1) qd && cl) || (qb == nb && qd == nd + 1))))
halves-by nb nd qb qd p r c cl ch hc hl hh same =
    elim (eqb qd (nd + 1)) as (λ t. eqb qd (nd + 1) ≡ t →
    (ltb nd qd && c) ≡ ((ltb (nd + 1) qd && ch) || ((qb == nb + p && t) || ((ltb (nd + 1) qd && cl) || (qb == nb && t))))) [
      | true ↦ λ t. let e : r ≡ qb = same (grind (arith, nat_tests, t)) in let lt : ltb nd qd ≡ true = grind (arith, nat_tests, t) in
          let ge : ltb (nd + 1) qd ≡ false = grind (arith, nat_tests, t) in rw (lt, ge, hc, hl, hh, e) (flip-or (qb == nb) (qb == nb + p))
      | false ↦ λ t. elim (ltb nd qd) as (λ u. ltb nd qd ≡ u →
          (u && c) ≡ ((ltb (nd + 1) qd && ch) || ((qb == nb + p && false) || ((ltb (nd + 1) qd && cl) || (qb == nb && false))))) [
            | true ↦ λ u. let lt : ltb (nd + 1) qd ≡ true = grind (arith, nat_tests, t, u) in rw (lt, hc) (flip-four cl ch (qb == nb + p) (qb == nb))
            | false ↦ λ u. let ge : ltb (nd + 1) qd ≡ false = grind (arith, nat_tests, u) in rw ge (four (qb == nb + p) (qb == nb))
          ] refl
    ] refl

valid-mod : (q : Name) (d : ℕ) → q.bits < 2 ^ q.depth → q.depth ≡ d → q.bits % 2 ^ d ≡ q.bits
valid-mod q d v e = mod-eq_of_lt (rw (← e) v)

-- below a name, among names that have no more bits than their depth
below-halves : (n q : Name) → n.bits < 2 ^ n.depth → q.bits < 2 ^ q.depth →
    is_below n q ≡ (is_below (high_half n) q
    || ((q.bits == (high_half n).bits && q.depth == (high_half n).depth)
    || (is_below (low_half n) q || (q.bits == (low_half n).bits && q.depth == (low_half n).depth))))
below-halves n q h v =
    halves-by n.bits n.depth q.bits q.depth (2 ^ n.depth) (q.bits % 2 ^ (n.depth + 1)) (covers n q.bits) (covers (low_half n) q.bits)
    (covers (high_half n) q.bits) (halves-cover n q.bits h) refl refl (valid-mod q (n.depth + 1) v)

halved : (m : LeafMap) (deepest : ℕ) (n : Name) → n.bits < 2 ^ n.depth → IsWithin m deepest → (q : Name) →
    cond (not (is_below (high_half n) q)) (cond (q.bits == (high_half n).bits && q.depth == (high_half n).depth) None
    (cond (not (is_below (low_half n) q)) (cond (q.bits == (low_half n).bits && q.depth == (low_half n).depth) None (get m q)) None)) None
    ≡ cond (not (is_below n q)) (get m q) None
halved m deepest n h within q =
    elim (ltb q.bits (2 ^ q.depth)) as (λ t. ltb q.bits (2 ^ q.depth) ≡ t →
    cond (not (is_below (high_half n) q)) (cond (q.bits == (high_half n).bits && q.depth == (high_half n).depth) None
    (cond (not (is_below (low_half n) q)) (cond (q.bits == (low_half n).bits && q.depth == (low_half n).depth) None (get m q)) None)) None
    ≡ cond (not (is_below n q)) (get m q) None) [
      | true ↦ λ t. nested-test (is_below (high_half n) q) (q.bits == (high_half n).bits && q.depth == (high_half n).depth) (is_below (low_half n) q)
          (q.bits == (low_half n).bits && q.depth == (low_half n).depth) (get m q)
          ∙ ap (λ b. cond (not b) (get m q) None) (sym (below-halves n q h (grind (arith, nat_tests, t))))
      | false ↦ λ t. let none : get m q ≡ None = within q (inr (grind (arith, nat_tests, t))) in
          subst (λ v. cond (not (is_below (high_half n) q))
          (cond (q.bits == (high_half n).bits && q.depth == (high_half n).depth) None
          (cond (not (is_below (low_half n) q)) (cond (q.bits == (low_half n).bits && q.depth == (low_half n).depth) None v) None)) None
          ≡ cond (not (is_below n q)) v None) (sym none)
          (nested-none (is_below (high_half n) q) (q.bits == (high_half n).bits && q.depth == (high_half n).depth) (is_below (low_half n) q)
          (q.bits == (low_half n).bits && q.depth == (low_half n).depth) (is_below n q))
    ] refl

-- cutting below a name is cutting at and below its halves
pub cut-halves : (m : LeafMap) (deepest : ℕ) (n : Name) → n.bits < 2 ^ n.depth → IsWithin m deepest →
    cut_below (remove (cut_below (remove m (low_half n)) (low_half n)) (high_half n)) (high_half n) ≡ cut_below m n
cut-halves m deepest n h within =
    same_map name_total name_antisymmetric _ _ (λ q. get-halves m (low_half n) (high_half n) q ∙ halved m deepest n h within q ∙ sym (get-cut_below m n q))

shallow : (b : Bool) (v : Option Leaf) → (b ≡ true → v ≡ None) → cond (not b) v None ≡ v
shallow true v h = sym (h refl)
shallow false v h = refl

none-first : (b : Bool) (v : Option Leaf) → v ≡ None → cond b None v ≡ None
none-first true v h = refl
none-first false v h = h

none-second : (b : Bool) (v : Option Leaf) → v ≡ None → cond b v None ≡ None
none-second true v h = h
none-second false v h = refl

-- where no name is deeper, nothing is below
pub cut-none : (m : LeafMap) (deepest : ℕ) (n : Name) → deepest ≤ n.depth → IsWithin m deepest → cut_below m n ≡ m
cut-none m deepest n h within =
    same_map name_total name_antisymmetric _ _
    (λ q. get-cut_below m n q ∙ shallow (is_below n q) (get m q) (λ b. within q (inl (grind (arith, nat_tests, b, h)))))

-- names stay within a bound
pub within-remove : (m : LeafMap) (deepest : ℕ) (n : Name) → IsWithin m deepest → IsWithin (remove m n) deepest
within-remove m deepest n within q h = get-without m n q ∙ none-first (q.bits == n.bits && q.depth == n.depth) (get m q) (within q h)

pub within-cut : (m : LeafMap) (deepest : ℕ) (n : Name) → IsWithin m deepest → IsWithin (cut_below m n) deepest
within-cut m deepest n within q h = get-cut_below m n q ∙ none-second (not (is_below n q)) (get m q) (within q h)

within-with : (b : Bool) (leaf : Leaf) (v : Option Leaf) → (b ≡ true → ⊥) → v ≡ None → cond b (Some leaf) v ≡ None
within-with true leaf v off h = absurd (off refl)
within-with false leaf v off h = h

-- a leaf more makes the bound its depth, where that is greater
pub within-insert : (m : LeafMap) (deepest more : ℕ) (n : Name) (leaf : Leaf) → IsWithin m deepest → deepest ≤ more → n.depth ≤ more → n.bits < 2 ^ n.depth →
    IsWithin (insert m n leaf) more
within-insert m deepest more n leaf within le deep valid q (inl h) =
    get-with m n leaf q ∙ within-with (q.bits == n.bits && q.depth == n.depth) leaf (get m q)
    (λ e. let same : q.depth ≡ n.depth = grind (arith, nat_tests, e) in omega (arith, same, h, deep)) (within q (inl (omega (arith, h, le))))
within-insert m deepest more n leaf within le deep valid q (inr h) =
    get-with m n leaf q ∙ within-with (q.bits == n.bits && q.depth == n.depth) leaf (get m q)
    (λ e. let same : q.depth ≡ n.depth = grind (arith, nat_tests, e) in let bits : q.bits ≡ n.bits = grind (arith, nat_tests, e) in
    let big : 2 ^ n.depth ≤ n.bits = rw (← same, ← bits) h in omega (arith, big, valid)) (within q (inr h))

switched : (a b : Bool) (leaf : Leaf) (v : Option Leaf) → (b ≡ true → a ≡ false) →
    cond (not a) (cond b (Some leaf) v) None ≡ cond b (Some leaf) (cond (not a) v None)
switched true true leaf v h = let no : true ≡ false = h refl in cc
switched true false leaf v h = refl
switched false true leaf v h = refl
switched false false leaf v h = refl

below-same : (top k q : Name) → (q.bits == k.bits && q.depth == k.depth) ≡ true → is_below top k ≡ false → is_below top q ≡ false
below-same top k q e h =
    let b : q.bits ≡ k.bits = grind (arith, nat_tests, e) in
    let d : q.depth ≡ k.depth = grind (arith, nat_tests, e) in
    rw (b, d) h

-- a leaf that isn't below a name stays when it is cut below
pub cut-insert : (m : LeafMap) (top k : Name) (leaf : Leaf) → is_below top k ≡ false → cut_below (insert m k leaf) top ≡ insert (cut_below m top) k leaf
cut-insert m top k leaf h =
    same_map name_total name_antisymmetric _ _ (λ q. get-cut_below (insert m k leaf) top q
    ∙ ap (λ v. cond (not (is_below top q)) v None) (get-with m k leaf q)
    ∙ switched (is_below top q) (q.bits == k.bits && q.depth == k.depth) leaf (get m q) (λ e. below-same top k q e h)
    ∙ ap (λ v. cond (q.bits == k.bits && q.depth == k.depth) (Some leaf) v) (sym (get-cut_below m top q)) ∙ sym (get-with (cut_below m top) k leaf q))

over : (b u w : Bool) (leaf : Leaf) (v : Option Leaf) → (b ≡ false → (v ≡ None) ⊎ (u ≡ w)) →
    cond b (Some leaf) (cond (not u) v None) ≡ cond b (Some leaf) (cond (not w) v None)
over true u w leaf v h = refl
over false u w leaf v h = elim (h refl) [ inl n ↦ none-second (not u) v n ∙ sym (none-second (not w) v n) | inr e ↦ ap (λ t. cond (not t) v None) e ]

no-and : (b : Bool) → (b && false) ≡ false
no-and true = refl
no-and false = refl

self-below : (n : Name) → is_below n n ≡ false
self-below n = let lt : ltb n.depth n.depth ≡ false = grind (arith, nat_tests) in rw lt refl

under-below : (top q : Name) → top.bits < 2 ^ top.depth → q.bits < 2 ^ q.depth → (q.bits == top.bits && q.depth == top.depth) ≡ false →
    is_under top q ≡ is_below top q
under-below top q ht hq ne =
    elim (eqb q.depth top.depth) as (λ t. eqb q.depth top.depth ≡ t → is_under top q ≡ is_below top q) [
      | true ↦ λ t. let d : q.depth ≡ top.depth = grind (arith, nat_tests, t) in let e : q.bits % 2 ^ top.depth ≡ q.bits = valid-mod q top.depth hq d in
          let bits : (q.bits == top.bits) ≡ false = grind (arith, nat_tests, ne, t) in let lt : ltb top.depth q.depth ≡ false = grind (arith, nat_tests, d) in
          rw (e, bits, lt) (no-and (leb top.depth q.depth))
      | false ↦ λ t. let both : leb top.depth q.depth ≡ ltb top.depth q.depth = grind (arith, nat_tests, t) in rw both refl
    ] refl

-- putting a leaf is binding its name and cutting below it
pub put-cut : (m : LeafMap) (deepest : ℕ) (leaf : Leaf) → leaf.name.bits < 2 ^ leaf.name.depth → IsWithin m deepest →
    cut_below (insert m leaf.name leaf) leaf.name ≡ put m leaf
put-cut m deepest leaf h within =
    cut-insert m leaf.name leaf.name leaf (self-below leaf.name)
    ∙ same_map name_total name_antisymmetric _ _ (λ q. get-with (cut_below m leaf.name) leaf.name leaf q
    ∙ ap (λ v. cond (q.bits == leaf.name.bits && q.depth == leaf.name.depth) (Some leaf) v) (get-cut_below m leaf.name q)
    ∙ over (q.bits == leaf.name.bits && q.depth == leaf.name.depth) (is_below leaf.name q) (is_under leaf.name q) leaf (get m q)
    (λ ne. elim (ltb q.bits (2 ^ q.depth)) as (λ t. ltb q.bits (2 ^ q.depth) ≡ t → (get m q ≡ None) ⊎ (is_below leaf.name q ≡ is_under leaf.name q)) [
      | true ↦ λ t. inr (sym (under-below leaf.name q h (grind (arith, nat_tests, t)) ne))
      | false ↦ λ t. inl (within q (inr (grind (arith, nat_tests, t))))
    ] refl)
    ∙ ap (λ v. cond (q.bits == leaf.name.bits && q.depth == leaf.name.depth) (Some leaf) v) (sym (get-cut m leaf.name q))
    ∙ sym (get-with (cut m leaf.name) leaf.name leaf q))

-- what holds anyway holds where a result is an error
pub on-err : {T E : Type 0} (r : Result T E) (P : Type 0) → P → OnErr r P
on-err (Ok x) P p = tt
on-err (Err e) P p = p

again : (b : Bool) (l v : Leaf) (w : Option Leaf) → (b ≡ true → w ≡ Some l) → cond b (Some l) (cond b (Some v) w) ≡ w
again true l v w h = sym (h refl)
again false l v w h = refl

undone : (b : Bool) (v : Leaf) (w : Option Leaf) → (b ≡ true → w ≡ None) → cond b None (cond b (Some v) w) ≡ w
undone true v w h = sym (h refl)
undone false v w h = refl

same-binding : (m : LeafMap) (q k : Name) → (q.bits == k.bits && q.depth == k.depth) ≡ true → get m q ≡ get m k
unfolding name
same-binding m q k e =
    let b : q.bits ≡ k.bits = grind (arith, nat_tests, e) in
    let d : q.depth ≡ k.depth = grind (arith, nat_tests, e) in
    ap (λ x. get m (name x q.depth)) b ∙ ap (λ x. get m (name k.bits x)) d

-- a binding is put back
pub restore-some : (m : LeafMap) (k : Name) (v l : Leaf) → get m k ≡ Some l → insert (insert m k v) k l ≡ m
restore-some m k v l h =
    same_map name_total name_antisymmetric _ _ (λ q. get-with (insert m k v) k l q
    ∙ ap (λ w. cond (q.bits == k.bits && q.depth == k.depth) (Some l) w) (get-with m k v q)
    ∙ again (q.bits == k.bits && q.depth == k.depth) l v (get m q) (λ e. same-binding m q k e ∙ h))

pub restore-none : (m : LeafMap) (k : Name) (v : Leaf) → get m k ≡ None → remove (insert m k v) k ≡ m
restore-none m k v h =
    same_map name_total name_antisymmetric _ _ (λ q. get-without (insert m k v) k q
    ∙ ap (λ w. cond (q.bits == k.bits && q.depth == k.depth) None w) (get-with m k v q)
    ∙ undone (q.bits == k.bits && q.depth == k.depth) v (get m q) (λ e. same-binding m q k e ∙ h))

crossed : (a b : Bool) (v : Leaf) (w : Option Leaf) → (a ≡ true → b ≡ false) → cond b (Some v) (cond a None w) ≡ cond a None (cond b (Some v) w)
crossed true true v w h = let off : true ≡ false = h refl in cc
crossed true false v w h = refl
crossed false true v w h = refl
crossed false false v w h = refl

apart-names : (n k q : Name) → (q.bits == n.bits && q.depth == n.depth) ≡ true → n.depth < k.depth → (q.bits == k.bits && q.depth == k.depth) ≡ false
apart-names n k q e lt = grind (arith, nat_tests, e, lt)

-- a binding and the taking away of a shallower name may change places
pub insert-remove : (m : LeafMap) (n k : Name) (v : Leaf) → n.depth < k.depth → insert (remove m n) k v ≡ remove (insert m k v) n
insert-remove m n k v lt =
    same_map name_total name_antisymmetric _ _ (λ q. get-with (remove m n) k v q
    ∙ ap (λ w. cond (q.bits == k.bits && q.depth == k.depth) (Some v) w) (get-without m n q)
    ∙ crossed (q.bits == n.bits && q.depth == n.depth) (q.bits == k.bits && q.depth == k.depth) v (get m q) (λ e. apart-names n k q e lt)
    ∙ ap (λ w. cond (q.bits == n.bits && q.depth == n.depth) None w) (sym (get-with m k v q)) ∙ sym (get-without (insert m k v) n q))

-- a name of the same depth isn't below
level : (a b : Name) → b.depth ≡ a.depth → is_below a b ≡ false
level a b e = let lt : ltb a.depth b.depth ≡ false = grind (arith, nat_tests, e) in rw lt refl

-- a split, as the tree does it
pub split-cut : (m : LeafMap) (deepest : ℕ) (n : Name) (low high : Leaf) → IsWithin m deepest → deepest ≤ 16 → low.name ≡ low_half n →
    high.name ≡ high_half n → low.name.bits < 2 ^ low.name.depth → high.name.bits < 2 ^ high.name.depth → low.name.depth ≤ 16 →
    cut_below (cut_below (remove (insert (insert m low.name low) high.name high) n) low.name) high.name ≡ put (put (remove m n) low) high
split-cut m deepest n low high within le ln hn lv hv dl =
    let lo = low.name in
    let hi = high.name in
    let ld : lo.depth ≡ n.depth + 1 = ap (λ (x : Name). x.depth) ln in
    let hd : hi.depth ≡ n.depth + 1 = ap (λ (x : Name). x.depth) hn in
    let kept : IsWithin (remove m n) deepest = within-remove m deepest n within in
    let with : IsWithin (insert (remove m n) lo low) 16 = within-insert (remove m n) deepest 16 lo low kept le dl lv in
    let apart : is_below lo hi ≡ false = level lo hi (omega (arith, ld, hd)) in
    ap (λ x. cut_below (cut_below x lo) hi) (sym (insert-remove (insert m lo low) n hi high (omega (arith, hd)))
    ∙ ap (λ x. insert x hi high) (sym (insert-remove m n lo low (omega (arith, ld)))))
    ∙ ap (λ x. cut_below x hi) (cut-insert (insert (remove m n) lo low) lo hi high apart)
    ∙ put-cut (cut_below (insert (remove m n) lo low) lo) 16 high hv (within-cut (insert (remove m n) lo low) 16 lo with)
    ∙ ap (λ x. put x high) (put-cut (remove m n) deepest low lv kept)

pub self-test : (k : Name) → (k.bits == k.bits && k.depth == k.depth) ≡ true
self-test k = grind (arith, nat_tests)

-- a name that is bound has a leaf
pub bound-now : (m n : LeafMap) (k : Name) (v : Leaf) → n ≡ insert m k v → IsSome (get n k)
bound-now m n k v e =
    let own : get (insert m k v) k ≡ Some v = get-with m k v k ∙ ap (λ b. cond b (Some v) (get m k)) (self-test k) in
    subst (λ (x : LeafMap). IsSome (get x k)) (sym e) (subst IsSome (sym own) refl)

-- what a name was bound to is put back
pub put-back : (m : LeafMap) (k : Name) (v : Leaf) (was : Option Leaf) → was ≡ get m k → rebound (insert m k v) k was ≡ m
put-back m k v None h = restore-none m k v (sym h)
put-back m k v (Some l) h = restore-some m k v l (sym h)

pub within-both : (m : LeafMap) (deepest more : ℕ) (n lo hi : Name) (low high : Leaf) → IsWithin m deepest → deepest ≤ more → lo.depth ≤ more →
    hi.depth ≤ more → lo.bits < 2 ^ lo.depth → hi.bits < 2 ^ hi.depth → IsWithin (remove (insert (insert m lo low) hi high) n) more
within-both m deepest more n lo hi low high within le ld hd lv hv =
    within-remove (insert (insert m lo low) hi high) more n
    (within-insert (insert m lo low) more more hi high (within-insert m deepest more lo low within le ld lv) (omega arith) hd hv)
