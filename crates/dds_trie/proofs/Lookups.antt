-- Laws of the look-up by depth.
use Rattle.std.proofs.Common.{◌≡◌, ℕ, ◌+◌, ◌-◌, ◌<◌, ◌≤◌, List, get_or, Option, Some, None, refl, ap, sym, ◌∙◌, zero, suc, arith}
use Rattle.std.specs.FinMap.{get}
use Rattle.dds_base.specs.declared.leaf.Leaf.{Leaf}
use Rattle.dds_trie.specs.declared.nodes.Node.{Node}
use Rattle.dds_trie.specs.Trie.{LeafMap, name_at, or_else, leaf_within, shallower}
use Rattle.dds_trie.specs.Nodes.{place, seen, linked, blank, IsTrie}
use Rattle.dds_trie.proofs.Walks.{none-at}
use Rattle.dds_trie.proofs.Sightings.{seen-at, seen-off}

pub within-none : (m : LeafMap) (key : ℕ) → leaf_within m 0 key ≡ get m (name_at key 0)
unfolding leaf_within
within-none m key = refl

pub within-more : (m : LeafMap) (depth key : ℕ) → leaf_within m (suc depth) key ≡ or_else (get m (name_at key (suc depth))) (leaf_within m depth key)
unfolding leaf_within
within-more m depth key = refl

or-none : (a b : Option Leaf) → a ≡ None → or_else a b ≡ b
or-none a b h = ap (λ o. or_else o b) h

or-nothing : (a : Option Leaf) → or_else a None ≡ a
or-nothing None = refl
or-nothing (Some x) = refl

-- the leaf of just this depth, else the deepest of less
within-own : (m : LeafMap) (depth key : ℕ) → or_else (get m (name_at key depth)) (shallower m depth key) ≡ leaf_within m depth key
within-own m zero key = or-nothing (get m (name_at key 0)) ∙ sym (within-none m key)
within-own m (suc d) key = sym (within-more m d key)

-- what the walk has found when it has come to a node
pub within-here : (ns : List Node) (key depth from : ℕ) (n : Node) (r best : Option Leaf) → IsTrie ns → place ns key depth ≡ Some from →
    n ≡ get_or ns from blank → r ≡ or_else n.leaf best → best ≡ shallower (seen ns) depth key → r ≡ leaf_within (seen ns) depth key
within-here ns key depth from n r best trie at node found before =
    found ∙ ap (λ b. or_else n.leaf b) before ∙ ap (λ (x : Node). or_else x.leaf (shallower (seen ns) depth key)) node
    ∙ ap (λ o. or_else o (shallower (seen ns) depth key)) (sym (seen-at ns key depth from trie at)) ∙ within-own (seen ns) depth key

-- no leaf is deeper
beyond : (m : LeafMap) (depth key more : ℕ) → ((e : ℕ) → depth < e → get m (name_at key e) ≡ None) → leaf_within m (depth + more) key ≡ leaf_within m depth key
beyond m depth key zero h = ap (λ n. leaf_within m n key) (omega arith)
beyond m depth key (suc k) h =
    let e : depth + suc k ≡ suc (depth + k) = omega arith in
    ap (λ n. leaf_within m n key) e ∙ within-more m (depth + k) key
    ∙ or-none (get m (name_at key (suc (depth + k)))) (leaf_within m (depth + k) key) (h (suc (depth + k)) (omega arith)) ∙ beyond m depth key k h

-- where the walk ends, nothing deeper covers the key
pub within-end : (ns : List Node) (key depth all : ℕ) (r : Option Leaf) → IsTrie ns → place ns key (depth + 1) ≡ None → depth ≤ all →
    r ≡ leaf_within (seen ns) depth key → r ≡ leaf_within (seen ns) all key
within-end ns key depth all r trie off le here =
    let e : depth + (all - depth) ≡ all = omega (arith, le) in
    here ∙ sym (ap (λ n. leaf_within (seen ns) n key) (sym e)
    ∙ beyond (seen ns) depth key (all - depth) (λ d lt. seen-off ns key d trie (none-at ns key (depth + 1) d off (omega (arith, lt)))))

pub shallower-next : (m : LeafMap) (depth key : ℕ) (r : Option Leaf) → r ≡ leaf_within m depth key → r ≡ shallower m (depth + 1) key
shallower-next m depth key r h =
    let e : suc depth ≡ depth + 1 = omega arith in
    h ∙ ap (λ d. shallower m d key) e

pub linked-some : (n : ℕ) (o : Option ℕ) → (n ≡ 0 → ⊥) → o ≡ linked n → o ≡ Some n
linked-some zero o h e = absurd (h refl)
linked-some (suc n) o h e = e

-- where there are no nodes
pub within-nothing : (ns : List Node) (key depth : ℕ) → IsTrie ns → ((e : ℕ) → place ns key e ≡ None) → leaf_within (seen ns) depth key ≡ None
within-nothing ns key zero trie off = within-none (seen ns) key ∙ seen-off ns key 0 trie (off 0)
within-nothing ns key (suc d) trie off =
    within-more (seen ns) d key ∙ or-none (get (seen ns) (name_at key (suc d))) (leaf_within (seen ns) d key) (seen-off ns key (suc d) trie (off (suc d)))
    ∙ within-nothing ns key d trie off
