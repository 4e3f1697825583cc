use Rattle.std.proofs.Common.{◌≡◌, ℕ, zero, suc, ◌≤◌, ◌==◌, ◌&&◌, ◌||◌, Bool, true, false, not, cond, Option, Some, None, List, [], ◌∷◌, refl, sym, ap, ◌∙◌}
use Rattle.std.proofs.Common.{subst, arith}
use Rattle.std.proofs.lemmas.Bool.{and_from, and_parts, eq-eqb, eqb-true}
use Rattle.std.proofs.lemmas.Bool.Decides.{nat_tests}
use Rattle.std.specs.FinMap.{empty, get}
use Rattle.std.specs.List.{AllByRecursion}
use Rattle.std.specs.Prelude.{is_some, nat_le}
use Rattle.dds_base.proofs.Names.{mod-mod-le}
use Rattle.dds_base.specs.Name.{covers}
use Rattle.dds_base.specs.declared.leaf.Leaf.{Leaf}
use Rattle.dds_maps.specs.Judge.{put_all}
use Rattle.dds_script.specs.Opening.{IsPlaced, is_covered}
use Rattle.dds_trie.proofs.Cuts.{get-cut, get-with}
use Rattle.dds_trie.proofs.Lookups.{within-more, within-none}
use Rattle.dds_trie.specs.Trie.{LeafMap, cut, is_under, leaf_within, name_at, or_else, put}
use Rattle.dds_due.specs.Opened.{FindsAll}

-- A map that has a leaf for a key has one after any leaf was put into it.

-- a name of at most this depth that covers the key has a leaf
pub record Bound (m : LeafMap) (key deepest : ℕ) : Type 0 where
  pub depth : ℕ
  pub within : depth ≤ deepest
  pub there : is_some (get m (name_at key depth)) ≡ true

or-some : (a b : Option Leaf) → is_some a ≡ true → is_some (or_else a b) ≡ true
or-some None b e = cc
or-some (Some x) b e = refl

or-rest : (a b : Option Leaf) → is_some b ≡ true → is_some (or_else a b) ≡ true
or-rest None b e = e
or-rest (Some x) b e = refl

bound-below : (m : LeafMap) (key deepest d : ℕ) → d ≤ deepest → is_some (get m (name_at key d)) ≡ true → is_some (leaf_within m deepest key) ≡ true
bound-below m key zero d le e =
    let none : d ≡ zero = omega (arith, le) in
    ap is_some (within-none m key) ∙ subst (λ i. is_some (get m (name_at key i)) ≡ true) none e
bound-below m key (suc deepest) d le e = by (d == suc deepest) refl (λ less. bound-below m key deepest d less e)
  where
    by : (b : Bool) → (d == suc deepest) ≡ b → (d ≤ deepest → is_some (leaf_within m deepest key) ≡ true)
        → is_some (leaf_within m (suc deepest) key) ≡ true
    by true is rest =
        ap is_some (within-more m deepest key)
        ∙ or-some (get m (name_at key (suc deepest))) (leaf_within m deepest key)
        (subst (λ i. is_some (get m (name_at key i)) ≡ true) (eqb-true d (suc deepest) is) e)
    by false ne rest =
        let less : d ≤ deepest = grind (arith, nat_tests, ne, le) in
        ap is_some (within-more m deepest key)
        ∙ or-rest (get m (name_at key (suc deepest))) (leaf_within m deepest key) (rest less)

pub bound-found : (m : LeafMap) (key deepest : ℕ) → Bound m key deepest → is_some (leaf_within m deepest key) ≡ true
bound-found m key deepest h = bound-below m key deepest h.depth h.within h.there

or-either : (m : LeafMap) (key deepest : ℕ) (a b : Option Leaf) → get m (name_at key (suc deepest)) ≡ a → is_some (or_else a b) ≡ true
    → (is_some b ≡ true → Bound m key deepest) → Bound m key (suc deepest)
or-either m key deepest None b e h f = let k = f h in let le = k.within in record { depth = k.depth; within = omega (arith, le); there = k.there }
or-either m key deepest (Some x) b e h f = record { depth = suc deepest; within = omega arith; there = ap is_some e }

pub found-bound : (m : LeafMap) (key deepest : ℕ) → is_some (leaf_within m deepest key) ≡ true → Bound m key deepest
found-bound m key zero h = record { depth = zero; within = omega arith; there = ap is_some (sym (within-none m key)) ∙ h }
found-bound m key (suc deepest) h =
    or-either m key deepest (get m (name_at key (suc deepest))) (leaf_within m deepest key) refl (ap is_some (sym (within-more m deepest key)) ∙ h)
    (found-bound m key deepest)

-- a leaf is put into the map

cond-some : (b : Bool) (leaf : Leaf) (o : Option Leaf) → is_some o ≡ true → is_some (cond b (Some leaf) o) ≡ true
cond-some true leaf o e = refl
cond-some false leaf o e = e

cond-first : (b : Bool) (leaf : Leaf) (o : Option Leaf) → b ≡ true → is_some (cond b (Some leaf) o) ≡ true
cond-first true leaf o e = refl
cond-first false leaf o e = cc

-- the leaf that is put covers the key
pub put-own : (m : LeafMap) (leaf : Leaf) (key deepest : ℕ) → leaf.name.depth ≤ deepest → covers leaf.name key ≡ true → Bound (put m leaf) key deepest
put-own m leaf key deepest le e =
    let q = name_at key leaf.name.depth in
    record {
      depth = leaf.name.depth;
      within = le;
      there = ap is_some (get-with (cut m leaf.name) leaf.name leaf q)
          ∙ cond-first (q.bits == leaf.name.bits && q.depth == leaf.name.depth) leaf (get (cut m leaf.name) q)
          (and_from (q.bits == leaf.name.bits) (q.depth == leaf.name.depth) e (eq-eqb leaf.name.depth leaf.name.depth refl));
    }

pub put-bound : (m : LeafMap) (leaf : Leaf) (key deepest : ℕ) → Bound m key deepest → Bound (put m leaf) key deepest
put-bound m leaf key deepest h = by (is_under leaf.name (name_at key h.depth)) refl
  where
    by : (b : Bool) → is_under leaf.name (name_at key h.depth) ≡ b → Bound (put m leaf) key deepest
    by true e =
        let q = name_at key h.depth in
        let p = and_parts (nat_le leaf.name.depth q.depth) (covers leaf.name q.bits) e in
        let low = p.0 in
        let le : leaf.name.depth ≤ h.depth = grind (arith, nat_tests, low) in
        let within = h.within in
        put-own m leaf key deepest (omega (arith, le, within))
        (ap (λ x. x == leaf.name.bits) (sym (mod-mod-le key leaf.name.depth h.depth le)) ∙ p.1)
    by false e =
        let q = name_at key h.depth in
        record {
          depth = h.depth;
          within = h.within;
          there = ap is_some (get-with (cut m leaf.name) leaf.name leaf q)
              ∙ cond-some (q.bits == leaf.name.bits && q.depth == leaf.name.depth) leaf (get (cut m leaf.name) q)
              (ap is_some (get-cut m leaf.name q ∙ ap (λ c. cond (not c) (get m q) None) e) ∙ h.there);
        }

pub put-finds : (m : LeafMap) (leaf : Leaf) → FindsAll m → FindsAll (put m leaf)
put-finds m leaf h key = bound-found (put m leaf) key 16 (put-bound m leaf key 16 (found-bound m key 16 (h key)))

-- a library opens with leaves that cover each key

all-bound : (m : LeafMap) (ls : List Leaf) (key deepest : ℕ) → Bound m key deepest → Bound (put_all m ls) key deepest
all-bound m [] key deepest h = h
all-bound m (l ∷ ls) key deepest h = all-bound (put m l) ls key deepest (put-bound m l key deepest h)

covered-bound : (bricks : ℕ) (m : LeafMap) (ls : List Leaf) (key : ℕ) → AllByRecursion (IsPlaced bricks) ls → is_covered ls key ≡ true
    → Bound (put_all m ls) key 16
covered-bound bricks m [] key h e = cc
covered-bound bricks m (l ∷ ls) key h e = by (covers l.name key) refl e (covered-bound bricks (put m l) ls key h.1)
  where
    by : (b : Bool) → covers l.name key ≡ b → (b || is_covered ls key) ≡ true → (is_covered ls key ≡ true → Bound (put_all (put m l) ls) key 16)
        → Bound (put_all m (l ∷ ls)) key 16
    by true is f rest = all-bound (put m l) ls key 16 (put-own m l key 16 h.0.name.depth is)
    by false is f rest = rest f

pub opening-finds : (bricks : ℕ) (leaves old : List Leaf) → AllByRecursion (IsPlaced bricks) leaves → ((key : ℕ) → is_covered leaves key ≡ true)
    → FindsAll (put_all (put_all empty leaves) old)
opening-finds bricks leaves old h c key =
    let m = put_all empty leaves in
    bound-found (put_all m old) key 16 (all-bound m old key 16 (covered-bound bricks empty leaves key h (c key)))
