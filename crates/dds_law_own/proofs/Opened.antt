use Rattle.std.proofs.Common.{◌≡◌, Bool, true, false, inl, inr, List, [], ◌∷◌, refl, sym, ap, ◌∙◌, subst}
use Rattle.std.proofs.lemmas.Bool.{both_ways}
use Rattle.std.specs.FinMap.{empty, get-empty}
use Rattle.std.specs.List.{AllByRecursion}
use Rattle.std.specs.Prelude.{filter, is_some}
use Rattle.dds_base.specs.Name.{Name, overlaps}
use Rattle.dds_base.specs.declared.leaf.Leaf.{Leaf}
use Rattle.dds_core.proofs.Lists.{all-map}
use Rattle.dds_maps.specs.Judge.{put_all}
use Rattle.dds_net.proofs.Pairwise.{Pairwise, pairs-filter}
use Rattle.dds_script.specs.Opening.{AreApart}
use Rattle.dds_trie.specs.Trie.{LeafMap, name_cmp, put}
use Rattle.dds_law_own.proofs.Disjoint.{Disjoint, Has, disjoint-put, has-put}
use Rattle.dds_law_own.proofs.Halves.{overlap-sym}
use Rattle.dds_law_own.proofs.Lists.{none-passes}

-- The leaves with which a brick begins don't overlap.

abbrev Clear : Leaf → Leaf → Type 0
Clear a b = overlaps b.name a.name ≡ false

apart-pairs : (ls : List Leaf) → AreApart ls → Pairwise Clear ls
apart-pairs [] h = tt
apart-pairs (l ∷ ls) h = (none-passes (λ (k : Leaf). overlaps k.name l.name) ls h.0, apart-pairs ls h.1)

not-either : (x y : Bool) → x ≡ false → (y ≡ true → x ≡ true) → y ≡ false
not-either x true e f = absurd (both_ways x e (f refl))
not-either x false e f = refl

clear-of : (l k : Leaf) → Clear l k → overlaps l.name k.name ≡ false
clear-of l k h = not-either (overlaps k.name l.name) (overlaps l.name k.name) h (overlap-sym l.name k.name)

put-all : (m : LeafMap) (ls : List Leaf) → Disjoint m → ((q : Name) → Has m q → AllByRecursion (λ (l : Leaf). overlaps q l.name ≡ false) ls)
    → Pairwise Clear ls → Disjoint (put_all m ls)
put-all m [] d f h = d
put-all m (l ∷ ls) d f h =
    put-all (put m l) ls (disjoint-put m l d (λ q k e. absurd (both_ways (overlaps q l.name) (f q k).0 e)))
    (λ q k. elim (has-put m l q k) [
      | inl i ↦ subst (λ (n : Name). AllByRecursion (λ (x : Leaf). overlaps n x.name ≡ false) ls) (sym i)
          (all-map (Clear l) (λ (x : Leaf). overlaps l.name x.name ≡ false) ls (λ x c. clear-of l x c) h.0)
      | inr i ↦ (f q i.0).1
    ]) h.1

none-empty : (q : Name) → Has empty q → ⊥
none-empty q h = let no : false ≡ true = sym (ap is_some (get-empty name_cmp q)) ∙ h in cc

pub empty-disjoint : Disjoint empty
empty-disjoint a b ha hb e = absurd (none-empty a ha)

pub opening-disjoint : (ls : List Leaf) (p : Leaf → Bool) → AreApart ls → Disjoint (put_all empty (filter p ls))
opening-disjoint ls p h =
    put-all empty (filter p ls) empty-disjoint (λ q k. absurd (none-empty q k)) (pairs-filter Clear p ls (apart-pairs ls h))
