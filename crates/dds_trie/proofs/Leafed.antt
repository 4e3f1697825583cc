-- A trie whose node got another leaf.
use Rattle.std.proofs.Common.{◌≡◌, ℕ, Bool, true, false, List, [], ◌∷◌, set, get_or, Option, Some, None, refl, ap, sym, ◌∙◌, zero, suc}
use Rattle.std.proofs.Common.{length-set, subst, arith}
use Rattle.dds_base.specs.Name.{Name}
use Rattle.dds_base.specs.declared.leaf.Leaf.{Leaf}
use Rattle.dds_trie.specs.declared.nodes.Node.{Node}
use Rattle.dds_trie.specs.Nodes.{is_high, child, linked, first, next, place, blank, IsTrie}
use Rattle.dds_trie.proofs.Walks.{place-first, place-more}

kept-part : {X : Type 0} (f : Node → X) (ns : List Node) (i j : ℕ) (n : Node) → f n ≡ f (get_or ns i blank) →
    f (get_or (set ns i n) j blank) ≡ f (get_or ns j blank)
kept-part f [] i j n h = refl
kept-part f (x ∷ ns) zero zero n h = h
kept-part f (x ∷ ns) zero (suc j) n h = refl
kept-part f (x ∷ ns) (suc i) zero n h = refl
kept-part f (x ∷ ns) (suc i) (suc j) n h = kept-part f ns i j n h

first-kept : (ns : List Node) (i : ℕ) (n : Node) → first (set ns i n) ≡ first ns
first-kept [] i n = refl
first-kept (x ∷ ns) zero n = refl
first-kept (x ∷ ns) (suc i) n = refl

module _ (ns : List Node) (i : ℕ) (v : Option Leaf) where
  abbrev ms : List Node
  ms = set ns i (record (get_or ns i blank) { leaf = v })

  child-kept : (b : Bool) (j : ℕ) → child (get_or ms j blank) b ≡ child (get_or ns j blank) b
  child-kept true j = kept-part (λ (n : Node). n.high) ns i j (record (get_or ns i blank) { leaf = v }) refl
  child-kept false j = kept-part (λ (n : Node). n.low) ns i j (record (get_or ns i blank) { leaf = v }) refl

  next-kept : (o : Option ℕ) (b : Bool) → next ms o b ≡ next ns o b
  next-kept None b = refl
  next-kept (Some j) b = ap linked (child-kept b j)

  place-kept : (k e : ℕ) → place ms k e ≡ place ns k e
  place-kept k zero = place-first ms k ∙ first-kept ns i _ ∙ sym (place-first ns k)
  place-kept k (suc e) = place-more ms k e ∙ ap (λ o. next ms o (is_high k e)) (place-kept k e) ∙ next-kept (place ns k e) (is_high k e)
      ∙ sym (place-more ns k e)

  name-kept : (j : ℕ) → (get_or ms j blank).name ≡ (get_or ns j blank).name
  name-kept j = kept-part (λ (n : Node). n.name) ns i j (record (get_or ns i blank) { leaf = v }) refl

  pub trie-leaf : (xs : List Node) → xs ≡ set ns i (record (get_or ns i blank) { leaf = v }) → IsTrie ns → IsTrie xs
  trie-leaf xs made h = subst IsTrie (sym made) (record {
    there = λ k e j is. let lt = h.there k e j (sym (place-kept k e) ∙ is) in omega (arith, lt, length-set ns i (record (get_or ns i blank) { leaf = v }));
    named = λ k e j is. name-kept j ∙ h.named k e j (sym (place-kept k e) ∙ is);
    found = λ j lt. ap (λ (n : Name). place ms n.bits n.depth) (name-kept j) ∙ place-kept _ _
        ∙ h.found j (omega (arith, lt, length-set ns i (record (get_or ns i blank) { leaf = v })));
  })
