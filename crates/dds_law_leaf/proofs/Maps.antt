use Rattle.std.proofs.Common.{◌≡◌, ℕ, zero, suc, ◌==◌, ◌&&◌, Bool, true, false, not, cond, Option, Some, None, List, [], ◌∷◌, sym, subst}
use Rattle.std.specs.FinMap.{empty, get, get-empty, remove}
use Rattle.std.specs.List.{AllByRecursion}
use Rattle.dds_base.specs.Name.{Name}
use Rattle.dds_base.specs.declared.leaf.Leaf.{Leaf}
use Rattle.dds_maps.specs.Judge.{put_all}
use Rattle.dds_states.specs.Leaf.{leaf_for}
use Rattle.dds_trie.proofs.Cuts.{get-cut, get-with, get-without}
use Rattle.dds_trie.proofs.Lookups.{within-none, within-more}
use Rattle.dds_trie.specs.Trie.{LeafMap, cut, is_under, leaf_within, name_at, name_cmp, or_else, put}
use Rattle.dds_law_leaf.proofs.Book.{Each, InMap}

-- What is so of a map's leaves.

pub each-if : (P : Leaf → Type 0) (b : Bool) (x y : Option Leaf) → Each P x → Each P y → Each P (cond b x y)
each-if P true x y h k = h
each-if P false x y h k = k

each-else : (P : Leaf → Type 0) (x y : Option Leaf) → Each P x → Each P y → Each P (or_else x y)
each-else P None y h k = k
each-else P (Some leaf) y h k = h

pub each-is : (P : Leaf → Type 0) (x : Option Leaf) (leaf : Leaf) → x ≡ Some leaf → Each P x → P leaf
each-is P None leaf e h = cc
each-is P (Some l) leaf e h = let is : l ≡ leaf = cc in subst P is h

pub each-map : (P Q : Leaf → Type 0) (x : Option Leaf) → ((leaf : Leaf) → P leaf → Q leaf) → Each P x → Each Q x
each-map P Q None f h = tt
each-map P Q (Some leaf) f h = f leaf h

pub in-empty : (P : Leaf → Type 0) → InMap P empty
in-empty P name = subst (Each P) (sym (get-empty name_cmp name)) tt

pub in-put : (P : Leaf → Type 0) (m : LeafMap) (leaf : Leaf) → P leaf → InMap P m → InMap P (put m leaf)
in-put P m leaf h k name =
    subst (Each P) (sym (get-with (cut m leaf.name) leaf.name leaf name))
    (each-if P (name.bits == leaf.name.bits && name.depth == leaf.name.depth) (Some leaf) (get (cut m leaf.name) name) h
    (subst (Each P) (sym (get-cut m leaf.name name)) (each-if P (not (is_under leaf.name name)) (get m name) None (k name) tt)))

pub in-remove : (P : Leaf → Type 0) (m : LeafMap) (name : Name) → InMap P m → InMap P (remove m name)
in-remove P m name k q = subst (Each P) (sym (get-without m name q)) (each-if P (q.bits == name.bits && q.depth == name.depth) None (get m q) tt (k q))

pub in-all : (P : Leaf → Type 0) (m : LeafMap) (ls : List Leaf) → AllByRecursion P ls → InMap P m → InMap P (put_all m ls)
in-all P m [] h k = k
in-all P m (l ∷ ls) h k = in-all P (put m l) ls h.1 (in-put P m l h.0 k)

in-within : (P : Leaf → Type 0) (m : LeafMap) (depth key : ℕ) → InMap P m → Each P (leaf_within m depth key)
in-within P m zero key h = subst (Each P) (sym (within-none m key)) (h (name_at key 0))
in-within P m (suc depth) key h =
    subst (Each P) (sym (within-more m depth key))
    (each-else P (get m (name_at key (suc depth))) (leaf_within m depth key) (h (name_at key (suc depth))) (in-within P m depth key h))

pub in-for : (P : Leaf → Type 0) (m : LeafMap) (key : ℕ) → InMap P m → Each P (leaf_for m key)
in-for P m key h = in-within P m 16 key h
