use Rattle.std.proofs.Common.{◌≡◌, ℕ, ◌%◌, ◌^◌, ◌-◌, ◌<◌, ◌≤◌, ◌==◌, min, true, Some, refl, sym, ap, ◌∙◌, subst, arith}
use Rattle.std.proofs.Math.Nat.{mod-eq_of_lt}
use Rattle.std.proofs.lemmas.Bool.{both_ways, eq-eqb, eqb-true}
use Rattle.dds_base.proofs.Names.{mod-mod-le}
use Rattle.dds_base.specs.BrickList.{has}
use Rattle.dds_base.specs.Name.{Name, covers, overlaps}
use Rattle.dds_base.specs.declared.leaf.Leaf.{Leaf}
use Rattle.dds_brick_rows.specs.Refusal.{is_join}
use Rattle.dds_groups.specs.Leaves.{sibling}
use Rattle.dds_groups.specs.Names.{other_half}
use Rattle.dds_law_own.proofs.Changes.{own}
use Rattle.dds_law_own.proofs.Halves.{over-other, over-whole, whole-few}
use Rattle.dds_law_own.proofs.Lists as own_lists
use Rattle.dds_law_own.proofs.Owned.{IsOrderly, made_name, orderly}
use Rattle.dds_law_own.proofs.Parted.{IsBoth}
use Rattle.dds_maps.specs.Own.{whole}
use Rattle.dds_orders.proofs.Numbers.{the-order}
use Rattle.dds_orders.proofs.Over.{overlaps-self}
use Rattle.dds_pairs.proofs.Apart.{covered-apart}
use Rattle.dds_script.specs.Ranges.{IsName}
use Rattle.dds_states.specs.declared.brick_state.BrickState.{BrickState}
use Rattle.dds_states.specs.declared.brick_state.OpenOrder.{OpenOrder}
use Rattle.dds_states.specs.declared.brick_state.OrderPhase.{OrderPhase}
use Rattle.dds_states.specs.declared.brick_state.OrderPhase.TheVariants.{Installing}
use Rattle.dds_states.specs.declared.brick_state.Task.{Task}
use Rattle.dds_states.specs.declared.brick_state.Task.TheVariants.{Join, Split}
use Rattle.dds_world.specs.Groups as world
use Rattle.dds_listed.proofs.Unlisted.{covers-bits}
use Rattle.dds_listed.specs.Answers.{Answers, installs, serves}

-- A split's leaf comes in the place of one over its whole, together with its sibling: who answers for the two leaves answers for the
-- sibling.

-- a key of a name is one of each name over it
covers-over : (q w : Name) (key : ℕ) → w.bits < 2 ^ w.depth → w.depth ≤ q.depth → overlaps q w ≡ true → covers q key ≡ true → covers w key ≡ true
covers-over q w key few deep h k =
    let e : min q.depth w.depth ≡ w.depth = omega (arith, deep) in
    let bits : q.bits % 2 ^ w.depth ≡ w.bits % 2 ^ w.depth =
    eqb-true (q.bits % 2 ^ w.depth) (w.bits % 2 ^ w.depth) (subst (λ i. (q.bits % 2 ^ i == w.bits % 2 ^ i) ≡ true) e h) in
    let its : key % 2 ^ q.depth ≡ q.bits = eqb-true (key % 2 ^ q.depth) q.bits k in
    eq-eqb (key % 2 ^ w.depth) w.bits (sym (mod-mod-le key w.depth q.depth deep) ∙ ap (λ x. x % 2 ^ w.depth) its ∙ bits ∙ mod-eq_of_lt few)

whole-covers : (n : Name) (key : ℕ) → covers n key ≡ true → covers (whole n) key ≡ true
whole-covers n key h = covers-over n (whole n) key (whole-few n) (omega arith) (over-whole n n (overlaps-self n)) h

pub other-covers : (n : Name) (key : ℕ) → covers (other_half n) key ≡ true → covers (whole n) key ≡ true
other-covers n key h =
    covers-over (other_half n) (whole n) key (whole-few n) (omega arith) (over-other (other_half n) n (overlaps-self (other_half n))) h

join-named : (n : Name) (t : Task) → is_join t ≡ true → made_name n t ≡ n
join-named n (Join via) e = refl
join-named n Split e = cc

-- what an open join made has the join's name
pub made-named : (b : ℕ) (t : BrickState) (o : OpenOrder) (made : Leaf) → IsBoth b (own t) → t.order ≡ Some o → is_join o.task ≡ true
    → o.phase ≡ Installing made → made.name ≡ o.name
made-named b t o made both there join phase =
    let it : IsOrderly b o = orderly b t.order o there both.0.order in
    let its = (subst (λ i. own_lists.Each (λ (l : Leaf). (l.name ≡ made_name o.name o.task) × (has l.list b ≡ true)) (world.made_leaf i))
    phase it.made) in
    its.0 ∙ join-named o.name o.task join

same-leaf : (p : OrderPhase) (a b : Leaf) → p ≡ Installing a → p ≡ Installing b → a ≡ b
same-leaf p a b e f = let is : Installing a ≡ Installing b = sym e ∙ f in cc

pub not-whole : (n : Name) → 1 ≤ n.depth → n ≡ whole n → ⊥
not-whole n deep e = let d : n.depth ≡ n.depth - 1 = ap (λ (x : Name). x.depth) e in omega (arith, deep, d)

module _ (b : ℕ) (t : BrickState) (mine leaf : Leaf) (both : IsBoth b (own t)) (name : mine.name ≡ whole leaf.name) (named : IsName leaf.name)
    (deep : 1 ≤ leaf.name.depth)
  where
    -- a join that installs the leaf over the whole has no key of the half
    not-both : (o : OpenOrder) → t.order ≡ Some o → is_join o.task ≡ true → o.phase ≡ Installing mine → Answers t leaf → ⊥
    not-both o there join phase (serves over) =
        let key = leaf.name.bits in
        let its : o.name ≡ whole leaf.name = sym (made-named b t o mine both there join phase) ∙ name in
        both_ways (covers o.name key) (covered-apart b (own t) o key both there join (over key (covers-bits leaf.name named)))
        (subst (λ n. covers n key ≡ true) (sym its) (whole-covers leaf.name key (covers-bits leaf.name named)))
    not-both o there join phase (installs p open_order joins fixed its) =
        let same : p ≡ o = the-order p o (sym open_order ∙ there) in
        let is : mine ≡ leaf = same-leaf o.phase mine leaf phase (sym (ap (λ (x : OpenOrder). x.phase) same) ∙ its) in
        not-whole leaf.name deep (sym (ap (λ (l : Leaf). l.name) is) ∙ name)

    pub sibling-answers : Answers t mine → Answers t leaf → Answers t (sibling leaf)
    sibling-answers (serves over) h =
        serves (λ key under. over key (subst (λ n. covers n key ≡ true) (sym name) (other-covers leaf.name key under)))
    sibling-answers (installs o there join fixed phase) h = absurd (not-both o there join phase h)
