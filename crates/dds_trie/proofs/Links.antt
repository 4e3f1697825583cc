-- A trie with one node more: at the start, or as a half that wasn't there.
use Rattle.std.proofs.Common.{◌≡◌, ℕ, ◌+◌, ◌%◌, ◌^◌, ◌==◌, ◌<◌, ◌⊎◌, inl, inr, Bool, true, false, eqb, List, [], ◌∷◌, ◌++◌, length, set}
use Rattle.std.proofs.Common.{get_or, Option, Some, None, refl, ap, sym, ◌∙◌, zero, suc, subst, arith, length-append, length-set}
use Rattle.std.proofs.lemmas.Bool.Decides.{nat_tests}
use Rattle.std.proofs.lemmas.List.{get_or-set_same, get_or-set_other, get_or_append_left}
use Rattle.std.proofs.Math.Seq.{get_or-append_seam}
use Rattle.dds_base.specs.Name.{Name}
use Rattle.dds_trie.specs.declared.nodes.Node.{Node}
use Rattle.dds_trie.specs.Trie.{name_at}
use Rattle.dds_trie.specs.Nodes.{is_high, child, linked, linked_to, first, next, place, seen, blank, IsTrie}
use Rattle.dds_trie.proofs.Sightings.{seen-set, seen-push}
use Rattle.dds_trie.proofs.Walks.{place-first, place-more, place-next, place-low, name-next}

-- the list with one node more, linked to as a half of the node that a walk led to
pub record IsLinked (ns ms : List Node) (new : Node) (key depth from : ℕ) : Type 0 where
  pub trie : IsTrie ns
  pub at : place ns key depth ≡ Some from
  pub free : place ns key (depth + 1) ≡ None
  pub name : new.name ≡ name_at key (depth + 1)
  pub low : new.low ≡ 0
  pub high : new.high ≡ 0
  pub leaf : new.leaf ≡ None
  pub made : ms ≡ set (ns ++ new ∷ []) from (linked_to (get_or ns from blank) (is_high key depth) (length ns))

module _ (ns ms : List Node) (new : Node) (key depth from : ℕ) (h : IsLinked ns ms new key depth from) where
  within : from < length ns
  within = h.trie.there key depth from h.at

  longer : length (ns ++ new ∷ []) ≡ length ns + 1
  longer = grind (arith, length-append)

  pub length-linked : length ms ≡ length ns + 1
  length-linked = ap length h.made ∙ length-set (ns ++ new ∷ []) from _ ∙ longer

  other : (i : ℕ) → i < length ns → (i ≡ from → ⊥) → get_or ms i blank ≡ get_or ns i blank
  other i lt ne = ap (λ xs. get_or xs i blank) h.made ∙ get_or-set_other (ns ++ new ∷ []) from i _ blank ne ∙ get_or_append_left ns (new ∷ []) blank i lt

  itself : get_or ms from blank ≡ linked_to (get_or ns from blank) (is_high key depth) (length ns)
  itself = ap (λ xs. get_or xs from blank) h.made ∙ get_or-set_same (ns ++ new ∷ []) from _ blank (rw longer (omega (arith, within)))

  added : get_or ms (length ns) blank ≡ new
  added = ap (λ xs. get_or xs (length ns) blank) h.made ∙ get_or-set_other (ns ++ new ∷ []) from (length ns) _ blank (λ e. omega (arith, e, within))
      ∙ get_or-append_seam ns new [] blank

  -- what a walk does in the new list: what it did, or it comes to the new node
  abbrev Moved : ℕ → ℕ → Type 0
  Moved k e = (place ms k e ≡ place ns k e) ⊎ ((place ns k e ≡ None) × (place ms k e ≡ Some (length ns)) × (name_at k e ≡ name_at key (depth + 1)))

  child-linked : (n : Node) (a b : Bool) (to : ℕ) → (child (linked_to n b to) a ≡ child n a) ⊎ ((a ≡ b) × (child (linked_to n b to) a ≡ to))
  child-linked n true true to = inr (refl, refl)
  child-linked n true false to = inl refl
  child-linked n false true to = inl refl
  child-linked n false false to = inr (refl, refl)

  linked-length : linked (length ns) ≡ Some (length ns)
  linked-length = over (length ns) (omega (arith, within))
    where
      over : (n : ℕ) → 0 < n → linked n ≡ Some n
      over zero lt = absurd (omega (arith, lt))
      over (suc n) lt = refl

  step : (xs : List Node) (k e i : ℕ) → place xs k e ≡ Some i → place xs k (suc e) ≡ linked (child (get_or xs i blank) (is_high k e))
  step xs k e i at = place-more xs k e ∙ ap (λ o. next xs o (is_high k e)) at

  stop : (xs : List Node) (k e : ℕ) → place xs k e ≡ None → place xs k (suc e) ≡ None
  stop xs k e off = place-more xs k e ∙ ap (λ o. next xs o (is_high k e)) off

  no-half : place ns key (suc depth) ≡ None
  no-half =
      let e : suc depth ≡ depth + 1 = omega arith in
      ap (place ns key) e ∙ h.free

  free-child : linked (child (get_or ns from blank) (is_high key depth)) ≡ None
  free-child = sym (step ns key depth from h.at) ∙ no-half

  -- a walk goes on from a node that was there
  on-from : (k e : ℕ) → place ns k e ≡ Some from → place ms k e ≡ Some from → Moved k (suc e)
  on-from k e was is =
      let before = step ns k e from was in
      let after = step ms k e from is ∙ ap (λ (n : Node). linked (child n (is_high k e))) itself in
      elim (child-linked (get_or ns from blank) (is_high k e) (is_high key depth) (length ns)) [
        | inl w ↦ inl (after ∙ ap linked w ∙ sym before)
        | inr w ↦ inr (
          before ∙ ap (λ b. linked (child (get_or ns from blank) b)) w.0 ∙ free-child,
          after ∙ ap linked w.1 ∙ linked-length,
          name-next k key e depth (sym (h.trie.named k e from was) ∙ h.trie.named key depth from h.at) w.0,
        )
      ]

  on-other : (k e i : ℕ) → place ns k e ≡ Some i → place ms k e ≡ Some i → (i ≡ from → ⊥) → Moved k (suc e)
  on-other k e i was is ne =
      inl (step ms k e i is ∙ ap (λ (n : Node). linked (child n (is_high k e))) (other i (h.trie.there k e i was) ne) ∙ sym (step ns k e i was))

  on-some : (k e i : ℕ) → place ns k e ≡ Some i → place ms k e ≡ Some i → Moved k (suc e)
  on-some k e i was is =
      elim (eqb i from) as (λ b. eqb i from ≡ b → Moved k (suc e)) [
        | true ↦ λ t. let same : i ≡ from = grind (arith, nat_tests, t) in on-from k e (was ∙ ap Some same) (is ∙ ap Some same)
        | false ↦ λ t. on-other k e i was is (λ same. let no : eqb i from ≡ true = grind (arith, nat_tests, same) in let f : true ≡ false = sym no ∙ t in cc)
      ] refl

  on-any : (k e : ℕ) (o : Option ℕ) → place ns k e ≡ o → place ms k e ≡ o → Moved k (suc e)
  on-any k e None was is = inl (stop ms k e is ∙ sym (stop ns k e was))
  on-any k e (Some i) was is = on-some k e i was is

  -- nothing is under the new node
  on-new : (k e : ℕ) → place ns k e ≡ None → place ms k e ≡ Some (length ns) → Moved k (suc e)
  on-new k e was is =
      inl (step ms k e (length ns) is ∙ ap (λ (n : Node). linked (child n (is_high k e))) added ∙ bare (is_high k e) ∙ sym (stop ns k e was))
    where
      bare : (b : Bool) → linked (child new b) ≡ None
      bare true = ap linked h.high
      bare false = ap linked h.low

  first-linked : first ms ≡ first ns
  first-linked = over ns ms within length-linked
    where
      over : (xs ys : List Node) → from < length xs → length ys ≡ length xs + 1 → first ys ≡ first xs
      over [] ys lt len = absurd (omega (arith, lt))
      over (x ∷ xs) [] lt len = absurd (omega (arith, len))
      over (x ∷ xs) (y ∷ ys) lt len = refl

  moved : (k e : ℕ) → Moved k e
  moved k zero = inl (place-first ms k ∙ first-linked ∙ sym (place-first ns k))
  moved k (suc e) =
      elim (moved k e) [ inl w ↦ on-any k e (place ns k e) refl w | inr w ↦ on-new k e w.0 w.1 ]

  pub kept-linked : (k e i : ℕ) → place ns k e ≡ Some i → place ms k e ≡ Some i
  kept-linked k e i was =
      elim (moved k e) [ inl w ↦ w ∙ was | inr w ↦ (let no : None ≡ Some i = sym w.0 ∙ was in cc) ]

  pub new-linked : place ms key (depth + 1) ≡ Some (length ns)
  new-linked =
      let is = kept-linked key depth from h.at in
      place-next ms key depth from is ∙ ap (λ (n : Node). linked (child n (is_high key depth))) itself
      ∙ ap linked (child-same (get_or ns from blank) (is_high key depth) (length ns)) ∙ linked-length
    where
      child-same : (n : Node) (b : Bool) (to : ℕ) → child (linked_to n b to) b ≡ to
      child-same n true to = refl
      child-same n false to = refl

  name-kept : (i : ℕ) → i < length ns → (get_or ms i blank).name ≡ (get_or ns i blank).name
  name-kept i lt =
      elim (eqb i from) as (λ b. eqb i from ≡ b → (get_or ms i blank).name ≡ (get_or ns i blank).name) [
        | true ↦ λ t. let same : i ≡ from = grind (arith, nat_tests, t) in
            subst (λ j. (get_or ms j blank).name ≡ (get_or ns j blank).name) (sym same) (ap (λ (n : Node). n.name) itself
            ∙ name-same (get_or ns from blank) (is_high key depth) (length ns))
        | false ↦ λ t. ap (λ (n : Node). n.name)
            (other i lt (λ same. let no : eqb i from ≡ true = grind (arith, nat_tests, same) in let f : true ≡ false = sym no ∙ t in cc))
      ] refl
    where
      name-same : (n : Node) (b : Bool) (to : ℕ) → (linked_to n b to).name ≡ n.name
      name-same n true to = refl
      name-same n false to = refl

  there-linked : (k e i : ℕ) → place ms k e ≡ Some i → i < length ms
  there-linked k e i is =
      elim (moved k e) [
        | inl w ↦ let lt = h.trie.there k e i (sym w ∙ is) in omega (arith, lt, length-linked)
        | inr w ↦ let eq : Some i ≡ Some (length ns) = sym is ∙ w.1 in let same : i ≡ length ns = cc in omega (arith, same, length-linked)
      ]

  named-linked : (k e i : ℕ) → place ms k e ≡ Some i → (get_or ms i blank).name ≡ name_at k e
  named-linked k e i is =
      elim (moved k e) [
        | inl w ↦ let was = sym w ∙ is in name-kept i (h.trie.there k e i was) ∙ h.trie.named k e i was
        | inr w ↦ let eq : Some i ≡ Some (length ns) = sym is ∙ w.1 in let same : i ≡ length ns = cc in
            ap (λ j. (get_or ms j blank).name) same ∙ ap (λ (n : Node). n.name) added ∙ h.name ∙ sym w.2
      ]

  found-linked : (i : ℕ) → i < length ms → place ms (get_or ms i blank).name.bits (get_or ms i blank).name.depth ≡ Some i
  found-linked i lt =
      elim (eqb i (length ns)) as (λ b. eqb i (length ns) ≡ b → place ms (get_or ms i blank).name.bits (get_or ms i blank).name.depth ≡ Some i) [
        | true ↦ λ t. let same : i ≡ length ns = grind (arith, nat_tests, t) in
            subst (λ j. place ms (get_or ms j blank).name.bits (get_or ms j blank).name.depth ≡ Some j) (sym same)
            (ap (λ (n : Node). place ms n.name.bits n.name.depth) added ∙ ap (λ (n : Name). place ms n.bits n.depth) h.name ∙ place-low ms key (depth + 1)
            ∙ new-linked)
        | false ↦ λ t. let old : i < length ns = grind (arith, nat_tests, t, lt, length-linked) in
            ap (λ (n : Name). place ms n.bits n.depth) (name-kept i old) ∙ kept-linked _ _ i (h.trie.found i old)
      ] refl

  pub trie-linked : IsTrie ms
  trie-linked = record { there = there-linked; named = named-linked; found = found-linked }

  pub seen-linked : seen ms ≡ seen ns
  seen-linked =
      ap seen h.made ∙ seen-set (ns ++ new ∷ []) from (linked_to (get_or ns from blank) (is_high key depth) (length ns))
      (name-same (get_or ns from blank) (is_high key depth) (length ns) ∙ ap (λ (n : Node). n.name) there)
      (leaf-same (get_or ns from blank) (is_high key depth) (length ns) ∙ ap (λ (n : Node). n.leaf) there) ∙ seen-push ns new h.leaf
    where
      there : get_or ns from blank ≡ get_or (ns ++ new ∷ []) from blank
      there = sym (get_or_append_left ns (new ∷ []) blank from within)

      name-same : (n : Node) (b : Bool) (to : ℕ) → (linked_to n b to).name ≡ n.name
      name-same n true to = refl
      name-same n false to = refl

      leaf-same : (n : Node) (b : Bool) (to : ℕ) → (linked_to n b to).leaf ≡ n.leaf
      leaf-same n true to = refl
      leaf-same n false to = refl

-- a first node alone
pub place-none : (k e : ℕ) → place [] k e ≡ None
place-none k zero = place-first [] k
place-none k (suc e) = place-more [] k e ∙ ap (λ o. next [] o (is_high k e)) (place-none k e)

module _ (new : Node) (name : new.name ≡ name_at 0 0) (low : new.low ≡ 0) (high : new.high ≡ 0) where
  no-child : (b : Bool) → linked (child new b) ≡ None
  no-child true = ap linked high
  no-child false = ap linked low

  past : (k e : ℕ) → place (new ∷ []) k (suc e) ≡ None
  past k zero = place-more (new ∷ []) k 0 ∙ ap (λ o. next (new ∷ []) o (is_high k 0)) (place-first (new ∷ []) k) ∙ no-child (is_high k 0)
  past k (suc e) = place-more (new ∷ []) k (suc e) ∙ ap (λ o. next (new ∷ []) o (is_high k (suc e))) (past k e)

  start : (k e i : ℕ) → place (new ∷ []) k e ≡ Some i → (i ≡ 0) × (e ≡ 0)
  start k zero i is = let eq : Some 0 ≡ Some i = sym (place-first (new ∷ []) k) ∙ is in (cc, refl)
  start k (suc e) i is = let no : None ≡ Some i = sym (past k e) ∙ is in cc

  named-0 : (k : ℕ) → new.name ≡ name_at k 0
  named-0 k = let z : 0 % 2 ^ 0 ≡ k % 2 ^ 0 = grind arith in name ∙ ap (λ b. name_of b 0) z
    where
      name_of : ℕ → ℕ → Name
      name_of bits depth = record { bits = bits; depth = depth }

  pub trie-root : IsTrie (new ∷ [])
  trie-root = record {
    there = λ k e i is. let z = (start k e i is).0 in omega (arith, z);
    named = λ k e i is. let w = start k e i is in ap (λ j. (get_or (new ∷ []) j blank).name) w.0 ∙ named-0 k ∙ ap (name_at k) (sym w.1);
    found = λ i lt. let z : i ≡ 0 = omega (arith, lt) in
        subst (λ j. place (new ∷ []) (get_or (new ∷ []) j blank).name.bits (get_or (new ∷ []) j blank).name.depth ≡ Some j) (sym z)
        (ap (λ (n : Name). place (new ∷ []) n.bits n.depth) name ∙ place-first (new ∷ []) (0 % 2 ^ 0));
  }

pub trie-none : IsTrie []
trie-none = record {
  there = λ k e i is. let no : None ≡ Some i = sym (place-none k e) ∙ is in cc;
  named = λ k e i is. let no : None ≡ Some i = sym (place-none k e) ∙ is in cc;
  found = λ i lt. absurd (omega (arith, lt));
}

pub alone : (ns ms : List Node) (new : Node) → (length ns == 0) ≡ true → ms ≡ ns ++ new ∷ [] → ms ≡ new ∷ []
alone [] ms new h e = e
alone (n ∷ ns) ms new h e = absurd (let z : length (n ∷ ns) ≡ 0 = grind (arith, nat_tests, h) in omega (arith, z))

pub started : (ns : List Node) → (length ns == 0) ≡ false → (k : ℕ) → place ns k 0 ≡ Some 0
started [] h k = cc
started (n ∷ ns) h k = place-first (n ∷ ns) k

pub nothing : (ns : List Node) → (length ns == 0) ≡ true → (k e : ℕ) → place ns k e ≡ None
nothing [] h k e = place-none k e
nothing (n ∷ ns) h k e = absurd (let z : length (n ∷ ns) ≡ 0 = grind (arith, nat_tests, h) in omega (arith, z))
