-- What the map of a trie's nodes has for a name: the leaf of the node that the walk leads to.
use Rattle.std.proofs.Common.{◌%◌, ◌≡◌, ℕ, ◌^◌, ◌==◌, ◌&&◌, ◌<◌, ◌≤◌, Bool, true, false, not, cond, List, [], ◌∷◌, ◌++◌, length, set}
use Rattle.std.proofs.Common.{get_or, Option, Some, None, is_some, refl, ap, sym, ◌∙◌, zero, suc, subst, arith}
use Rattle.std.proofs.lemmas.Bool.Decides.{nat_tests}
use Rattle.std.specs.FinMap.{get, remove, get-empty, same_map}
use Rattle.std.proofs.Math.Nat.{mod-eq_of_lt}
use Rattle.dds_base.specs.Name.{Name}
use Rattle.dds_base.specs.declared.leaf.Leaf.{Leaf}
use Rattle.dds_trie.specs.declared.nodes.Node.{Node}
use Rattle.dds_trie.specs.Trie.{LeafMap, name_cmp, name_at, rebound, is_below, cut_below}
use Rattle.dds_trie.specs.Nodes.{place, seen, blank, IsTrie}
use Rattle.dds_trie.proofs.Cuts.{name_total, name_antisymmetric, get-with, get-without, get-cut_below, self-test}
use Rattle.dds_trie.proofs.Walks.{place-low, none-at}

pub same : Name → Name → Bool
same q k = q.bits == k.bits && q.depth == k.depth

named : ℕ → ℕ → Name
named bits depth = record { bits = bits; depth = depth }

pub same-is : (q k : Name) → same q k ≡ true → q ≡ k
unfolding same named
same-is q k h =
    let b : q.bits ≡ k.bits = grind (arith, nat_tests, h) in
    let d : q.depth ≡ k.depth = grind (arith, nat_tests, h) in
    ap (λ x. named x q.depth) b ∙ ap (λ x. named k.bits x) d

same-self : (q k : Name) → q ≡ k → same q k ≡ true
unfolding same
same-self q k h = subst (λ (x : Name). (q.bits == x.bits && q.depth == x.depth) ≡ true) h (self-test q)

get-rebound : (m : LeafMap) (k q : Name) (v : Option Leaf) → get (rebound m k v) q ≡ cond (same q k) v (get m q)
unfolding same
get-rebound m k q None = get-without m k q
get-rebound m k q (Some leaf) = get-with m k leaf q

pub get-seen-more : (n : Node) (ns : List Node) (q : Name) → get (seen (n ∷ ns)) q ≡ cond (same q n.name) n.leaf (get (seen ns) q)
unfolding seen
get-seen-more n ns q = get-rebound (seen ns) n.name q n.leaf

pub get-seen-none : (q : Name) → get (seen []) q ≡ None
unfolding seen
get-seen-none q = get-empty name_cmp q

apart : (q k : Name) → (k ≡ q → ⊥) → same q k ≡ false
apart q k h = elim (same q k) as (λ b. same q k ≡ b → b ≡ false) [ true ↦ λ e. absurd (h (sym (same-is q k e))) | false ↦ λ e. refl ] refl

-- no node has the name
seen-none : (ns : List Node) (q : Name) → ((i : ℕ) → i < length ns → (get_or ns i blank).name ≡ q → ⊥) → get (seen ns) q ≡ None
seen-none [] q h = get-seen-none q
seen-none (n ∷ ns) q h =
    let head : same q n.name ≡ false = apart q n.name (λ e. h zero (omega arith) e) in
    get-seen-more n ns q ∙ ap (λ b. cond b n.leaf (get (seen ns) q)) head ∙ seen-none ns q (λ i lt e. h (suc i) (omega (arith, lt)) e)

-- the first node of the name
seen-is : (ns : List Node) (i : ℕ) (q : Name) → i < length ns → (get_or ns i blank).name ≡ q → ((j : ℕ) → j < i → (get_or ns j blank).name ≡ q → ⊥) →
    get (seen ns) q ≡ (get_or ns i blank).leaf
seen-is [] i q lt name h = absurd (omega (arith, lt))
seen-is (n ∷ ns) zero q lt name h =
    get-seen-more n ns q ∙ ap (λ b. cond b n.leaf (get (seen ns) q)) (same-self q n.name (sym name))
seen-is (n ∷ ns) (suc i) q lt name h =
    let head : same q n.name ≡ false = apart q n.name (λ e. h zero (omega arith) e) in
    get-seen-more n ns q ∙ ap (λ b. cond b n.leaf (get (seen ns) q)) head
    ∙ seen-is ns i q (omega (arith, lt)) name (λ j less e. h (suc j) (omega (arith, less)) e)

same-place : (i j : ℕ) (o : Option ℕ) → o ≡ Some i → o ≡ Some j → i ≡ j
same-place i j None a b = cc
same-place i j (Some x) a b = cc

-- no two nodes have one name
pub one-node : (ns : List Node) (i j : ℕ) → IsTrie ns → i < length ns → j < length ns → (get_or ns i blank).name ≡ (get_or ns j blank).name → i ≡ j
one-node ns i j h li lj e =
    same-place i j (place ns (get_or ns i blank).name.bits (get_or ns i blank).name.depth) (h.found i li) (ap (λ (n : Name). place ns n.bits n.depth) e
    ∙ h.found j lj)

pub seen-node : (ns : List Node) (i : ℕ) → IsTrie ns → i < length ns → get (seen ns) (get_or ns i blank).name ≡ (get_or ns i blank).leaf
seen-node ns i h li = seen-is ns i (get_or ns i blank).name li refl (λ j less e. let eq : j ≡ i = one-node ns j i h (omega (arith, less, li)) li e in
    omega (arith, eq, less))

pub seen-at : (ns : List Node) (key depth i : ℕ) → IsTrie ns → place ns key depth ≡ Some i → get (seen ns) (name_at key depth) ≡ (get_or ns i blank).leaf
seen-at ns key depth i h at =
    let li = h.there key depth i at in
    let name = h.named key depth i at in
    seen-is ns i (name_at key depth) li name (λ j less e. let eq : j ≡ i = one-node ns j i h (omega (arith, less, li)) li (e ∙ sym name) in
    omega (arith, eq, less))

pub seen-off : (ns : List Node) (key depth : ℕ) → IsTrie ns → place ns key depth ≡ None → get (seen ns) (name_at key depth) ≡ None
seen-off ns key depth h off =
    seen-none ns (name_at key depth) (λ i lt e. let at : place ns key depth ≡ Some i = sym (place-low ns key depth)
    ∙ ap (λ (n : Name). place ns n.bits n.depth) (sym e) ∙ h.found i lt in let no : None ≡ Some i = sym off ∙ at in cc)

-- a node in the place of one with the same name and leaf
pub seen-set : (ns : List Node) (i : ℕ) (n : Node) → n.name ≡ (get_or ns i blank).name → n.leaf ≡ (get_or ns i blank).leaf → seen (set ns i n) ≡ seen ns
unfolding seen
seen-set [] i n name leaf = refl
seen-set (x ∷ ns) zero n name leaf = ap (λ k. rebound (seen ns) k n.leaf) name ∙ ap (rebound (seen ns) x.name) leaf
seen-set (x ∷ ns) (suc i) n name leaf = ap (λ m. rebound m x.name x.leaf) (seen-set ns i n name leaf)

none-more : (new : Node) (q : Name) → new.leaf ≡ None → get (seen (new ∷ [])) q ≡ get (seen []) q
none-more new q h = get-seen-more new [] q ∙ ap (λ v. cond (same q new.name) v (get (seen []) q)) h
    ∙ none-twice (same q new.name) (get (seen []) q) (get-seen-none q)
  where
    none-twice : (b : Bool) (v : Option Leaf) → v ≡ None → cond b None v ≡ v
    none-twice true v e = sym e
    none-twice false v e = refl

-- a node without a leaf at the end
pub seen-push : (ns : List Node) (new : Node) → new.leaf ≡ None → seen (ns ++ new ∷ []) ≡ seen ns
unfolding seen
seen-push [] new h = same_map name_total name_antisymmetric _ _ (λ q. none-more new q h)
seen-push (x ∷ ns) new h = ap (λ m. rebound m x.name x.leaf) (seen-push ns new h)

-- a leaf at the first node of a name
set-swap : (a b : Bool) (v w u : Option Leaf) → (a ≡ true → b ≡ true → ⊥) → cond a v (cond b w u) ≡ cond b w (cond a v u)
set-swap true true v w u h = absurd (h refl refl)
set-swap true false v w u h = refl
set-swap false b v w u h = refl

set-twice : (b : Bool) (v w u : Option Leaf) → cond b v u ≡ cond b v (cond b w u)
set-twice true v w u = refl
set-twice false v w u = refl

get-leaf : (ns : List Node) (i : ℕ) (v : Option Leaf) (q : Name) → i < length ns → ((j : ℕ) → j < i → (get_or ns j blank).name ≡ (get_or ns i blank).name → ⊥) →
    get (seen (set ns i (record (get_or ns i blank) { leaf = v }))) q ≡ cond (same q (get_or ns i blank).name) v (get (seen ns) q)
get-leaf [] i v q lt h = absurd (omega (arith, lt))
get-leaf (x ∷ ns) zero v q lt h =
    get-seen-more (record x { leaf = v }) ns q ∙ set-twice (same q x.name) v x.leaf (get (seen ns) q) ∙ ap (cond (same q x.name) v) (sym (get-seen-more x ns q))
get-leaf (x ∷ ns) (suc i) v q lt h =
    get-seen-more x (set ns i (record (get_or ns i blank) { leaf = v })) q
    ∙ ap (cond (same q x.name) x.leaf) (get-leaf ns i v q (omega (arith, lt)) (λ j less e. h (suc j) (omega (arith, less)) e))
    ∙ set-swap (same q x.name) (same q (get_or ns i blank).name) x.leaf v (get (seen ns) q)
    (λ a b. h zero (omega arith) (sym (same-is q x.name a) ∙ same-is q (get_or ns i blank).name b))
    ∙ ap (cond (same q (get_or ns i blank).name) v) (sym (get-seen-more x ns q))

-- a leaf at the one node of a name
pub seen-leaf : (ns : List Node) (key depth i : ℕ) (v : Option Leaf) → IsTrie ns → place ns key depth ≡ Some i →
    seen (set ns i (record (get_or ns i blank) { leaf = v })) ≡ rebound (seen ns) (name_at key depth) v
seen-leaf ns key depth i v h at =
    let li = h.there key depth i at in
    let name = h.named key depth i at in
    let first : (j : ℕ) → j < i → (get_or ns j blank).name ≡ (get_or ns i blank).name →
    ⊥ = λ j less e. (let eq : j ≡ i = one-node ns j i h (omega (arith, less, li)) li e in omega (arith, eq, less)) in
    same_map name_total name_antisymmetric _ _ (λ q. get-leaf ns i v q li first ∙ ap (λ (k : Name). cond (same q k) v (get (seen ns) q)) name
    ∙ sym (get-rebound (seen ns) (name_at key depth) q v))

-- a name with no more bits than its depth is where its own bits lead to
pub name-own : (n : Name) → n.bits < 2 ^ n.depth → name_at n.bits n.depth ≡ n
unfolding named
name-own n h = ap (λ b. named b n.depth) (mod-eq_of_lt h)

pub seen-name : (ns : List Node) (n : Name) (i : ℕ) → IsTrie ns → n.bits < 2 ^ n.depth → Some i ≡ place ns n.bits n.depth →
    get (seen ns) n ≡ (get_or ns i blank).leaf
seen-name ns n i h valid at = ap (get (seen ns)) (sym (name-own n valid)) ∙ seen-at ns n.bits n.depth i h (sym at)

pub unseen-name : (ns : List Node) (n : Name) → IsTrie ns → n.bits < 2 ^ n.depth → place ns n.bits n.depth ≡ None → get (seen ns) n ≡ None
unseen-name ns n h valid off = ap (get (seen ns)) (sym (name-own n valid)) ∙ seen-off ns n.bits n.depth h off

pub set-name : (ns ms : List Node) (n : Name) (i : ℕ) (v : Option Leaf) → IsTrie ns → n.bits < 2 ^ n.depth → place ns n.bits n.depth ≡ Some i →
    ms ≡ set ns i (record (get_or ns i blank) { leaf = v }) → seen ms ≡ rebound (seen ns) n v
set-name ns ms n i v h valid at made = ap seen made ∙ seen-leaf ns n.bits n.depth i v h at ∙ ap (λ k. rebound (seen ns) k v) (name-own n valid)

-- taking away what isn't there
pub without-none : (m : LeafMap) (n : Name) → get m n ≡ None → m ≡ remove m n
without-none m n h = same_map name_total name_antisymmetric _ _ (λ q. kept (same q n) q (same-is q n) ∙ sym (get-rebound m n q None))
  where
    kept : (b : Bool) (q : Name) → (b ≡ true → q ≡ n) → get m q ≡ cond b None (get m q)
    kept true q e = ap (get m) (e refl) ∙ h
    kept false q e = refl

-- where no node is under a name, taking away what is under it changes nothing
pub none-under : (ns : List Node) (n : Name) → IsTrie ns → n.bits < 2 ^ n.depth → place ns n.bits n.depth ≡ None → cut_below (remove (seen ns) n) n ≡ seen ns
none-under ns n h valid off =
    same_map name_total name_antisymmetric _ _ (λ q. get-cut_below (remove (seen ns) n) n q
    ∙ ap (λ v. cond (not (is_below n q)) v None) (get-rebound (seen ns) n q None)
    ∙ kept (is_below n q) (same q n) (get (seen ns) q) (λ b. under q b) (λ b. ap (get (seen ns)) (same-is q n b) ∙ unseen-name ns n h valid off))
  where
    kept : (b s : Bool) (v : Option Leaf) → (b ≡ true → v ≡ None) → (s ≡ true → v ≡ None) → cond (not b) (cond s None v) None ≡ v
    kept true s v e f = sym (e refl)
    kept false true v e f = sym (f refl)
    kept false false v e f = refl

    under : (q : Name) → is_below n q ≡ true → get (seen ns) q ≡ None
    under q b =
        let deep : n.depth ≤ q.depth = grind (arith, nat_tests, b) in
        let covered : q.bits % 2 ^ n.depth ≡ n.bits = grind (arith, nat_tests, b) in
        let gone : place ns q.bits q.depth ≡ None =
        none-at ns q.bits n.depth q.depth (sym (place-low ns q.bits n.depth) ∙ ap (λ k. place ns k n.depth) covered ∙ off) deep in
        seen-none ns q (λ i lt e. let at : place ns q.bits q.depth ≡ Some i = ap (λ (x : Name). place ns x.bits x.depth) (sym e) ∙ h.found i lt in
        let no : None ≡ Some i = sym gone ∙ at in cc)

pub is-none : (o : Option ℕ) → is_some o ≡ false → o ≡ None
is-none None h = refl
is-none (Some x) h = cc
