use Rattle.std.proofs.Common.{◌≡◌, ℕ, ◌+◌, ◌-◌, ◌^◌, ◌%◌, ◌<◌, ◌≤◌, ◌==◌, ◌||◌, inl, inr, true, false, not, Option, Some, List, [], refl}
use Rattle.std.proofs.Common.{sym, ap, ◌∙◌, subst, arith}
use Rattle.std.proofs.Math.Nat.{mod-eq_of_lt}
use Rattle.std.proofs.lemmas.Bool.{cases_eq, ne_eqb}
use Rattle.std.specs.FinMap.{get, remove}
use Rattle.std.specs.Prelude.{is_some}
use Rattle.dds_base.specs.BrickList.{has}
use Rattle.dds_base.specs.Name.{Name, covers}
use Rattle.dds_base.specs.NodeSet.{has_node}
use Rattle.dds_base.specs.declared.leaf.Leaf.{Leaf}
use Rattle.dds_brick_rows.specs.Refusal.{is_join}
use Rattle.dds_brick_rows.specs.Take.{replaced}
use Rattle.dds_groups.specs.Leaves.{sibling, successor}
use Rattle.dds_groups.specs.Names.{low_half}
use Rattle.dds_groups.specs.Take.{is_better_rival, maker_known}
use Rattle.dds_law_leaf.proofs.Book.{Book, Each, InMap, InOrder, Known, Leafing}
use Rattle.dds_law_leaf.proofs.Maps.{each-is, in-put, in-remove}
use Rattle.dds_law_own.proofs.Changes.{own, served}
use Rattle.dds_law_own.proofs.Disjoint.{replaces}
use Rattle.dds_law_own.proofs.Keeps.{NodeOk}
use Rattle.dds_law_own.proofs.Lists.{has-kept}
use Rattle.dds_law_own.proofs.Owned.{made_name}
use Rattle.dds_law_own.proofs.Parted.{IsBoth}
use Rattle.dds_maps.specs.Own.{own_leaf, whole}
use Rattle.dds_net.specs.Net.{Net, Sizes, a_brick}
use Rattle.dds_order_rows.specs.OwnOrder as order
use Rattle.dds_orders.proofs.Standing.{keyed}
use Rattle.dds_pairs.proofs.Grows.{Grows, cover-of}
use Rattle.dds_pairs.proofs.NameKeeps.{AreNamed, NodeNamed, keyed-at}
use Rattle.dds_pairs.proofs.Names.{Fit, FitOrder, IsFit, IsHalf, MayHalve}
use Rattle.dds_parents.proofs.Keeps.{Gone}
use Rattle.dds_parents.proofs.Lists.{AllList}
use Rattle.dds_parents.proofs.Makes.{served-leafing}
use Rattle.dds_parents.proofs.SplitLeaves.{SplitsIn}
use Rattle.dds_parents.specs.SplitLeaves.{HasSplitLeaf}
use Rattle.dds_serving.specs.Once.{ChangeOnce, HasMadeLeaf, IsOpen}
use Rattle.dds_serving.specs.Once.ChangeOnce.{rests, serves as serves_leaf}
use Rattle.dds_serving.specs.Once.HasMadeLeaf.{at_once, before}
use Rattle.dds_serving.specs.Once.IsOpen.{opens, was_open}
use Rattle.dds_serving.specs.Once.TakeOnce.{stays, takes}
use Rattle.dds_states.specs.Leaf.{leaf_for}
use Rattle.dds_states.specs.Turn.{BrickTurn, without}
use Rattle.dds_states.specs.declared.brick_state.BrickState.{BrickState}
use Rattle.dds_states.specs.declared.brick_state.OpenOrder.{OpenOrder}
use Rattle.dds_states.specs.declared.brick_state.OrderPhase.TheVariants.{Installing, Leasing}
use Rattle.dds_states.specs.declared.brick_state.Task.{Task}
use Rattle.dds_states.specs.declared.brick_state.Task.TheVariants.{Join, Split}
use Rattle.dds_trie.specs.Trie.{LeafMap, put}
use Rattle.dds_world.specs.Groups.{made_leaf}
use Rattle.dds_listed.proofs.Begun.{made-of, order-of}
use Rattle.dds_listed.proofs.FreshTurns.{IsFresh, in-own}
use Rattle.dds_listed.proofs.Later.{served-covers}
use Rattle.dds_listed.proofs.Listed.{MembersAnswer}
use Rattle.dds_listed.proofs.Made.{lists-parting, made-covers}
use Rattle.dds_listed.proofs.MadeFine.{made-name}
use Rattle.dds_listed.proofs.Makes.{OrderMakes}
use Rattle.dds_listed.proofs.Replaced.{in-replaced, split-lists}
use Rattle.dds_listed.proofs.SiblingMembers.{sibling-members}
use Rattle.dds_listed.proofs.Siblings.{not-whole, other-covers, sibling-answers}
use Rattle.dds_listed.specs.Answers.{Answers, serves}

-- What a brick serves at an order's end: the leaf that was made, and its sibling where it was split.

-- the sibling of what a split made
abbrev pub Beside : (Leaf → Type 0) → Leaf → Task → Type 0
Beside P made (Join via) = Unit {0}
Beside P made Split = P (sibling made)

pub in-served : (P : Leaf → Type 0) (m : LeafMap) (o : OpenOrder) (made : Leaf) (t : Task) → P made → Beside P made t → InMap P m
    → InMap P (served m o made t)
in-served P m o made (Join via) h k all = in-put P m made h all
in-served P m o made Split h k all = in-put P (put (remove m o.name) made) (sibling made) k (in-put P (remove m o.name) made h (in-remove P m o.name all))

-- what is made where no other brick takes part lists the brick alone
left-out : (ns : List ℕ) (me n : ℕ) → without ns me ≡ [] → (n ≡ me → ⊥) → has ns n ≡ true → ⊥
left-out ns me n none ne h =
    let k : has (without ns me) n ≡ true = has-kept (λ k. not (k == me)) ns n (ap not (ne_eqb n me ne)) h in
    let no : false ≡ true = ap (λ ks. has ks n) (sym none) ∙ k in cc

lists-alone : (u : BrickState) (o : OpenOrder) (leaf : Leaf) (t : Task) (n : ℕ) → without (order.parting u o leaf) u.number ≡ []
    → has (order.made_leaf u o leaf t).list n ≡ true → n ≡ u.number
lists-alone u o leaf t n none h = elim (cases_eq n u.number) [
  | inl e ↦ e
  | inr ne ↦ absurd (left-out (order.parting u o leaf) u.number n none ne (lists-parting u o leaf t n ne h))
]

-- names of halves
whole-low : (n : Name) → n.bits < 2 ^ n.depth → whole (low_half n) ≡ n
whole-low n few = λ i. record { bits = bits i; depth = depth i }
  where
    depth : n.depth + 1 - 1 ≡ n.depth
    depth = omega arith

    bits : n.bits % 2 ^ (n.depth + 1 - 1) ≡ n.bits
    bits = ap (λ d. n.bits % 2 ^ d) depth ∙ mod-eq_of_lt few

-- what is known of a brick, and of a leaf that it was told, at its turn; and of the world behind it
pub record Changed (z : Sizes) (m : Net) (me : ℕ) (s : BrickState) (told : Option Leaf) (t : BrickTurn) : Type 0 where
  pub here : m.node me ≡ a_brick t.state
  pub named : AreNamed z m
  pub both : IsBoth me (own s)
  pub fit : Fit s
  pub grows : Grows s.leaves t.state.leaves
  pub answer : InMap (MembersAnswer m) s.leaves × InOrder (MembersAnswer m) s.order
  pub heard : Each (MembersAnswer m) told
  pub heard_fit : Each IsFit told
  pub book : Book
  pub lists : AllList book (Gone m)
  pub knows : (k : ℕ) → has_node s.known k ≡ true → Gone m k
  pub leafed : InMap (Known book) s.leaves
  pub heard_known : Each (Known book) told
  pub fresh : InMap IsFresh s.leaves
  pub splits : SplitsIn s.leaves s.order
  pub makes : OrderMakes s.order

phase-not : (made : Leaf) → Leasing ≡ Installing made → ⊥
phase-not made e = cc

some-is : (a b : Leaf) → Some a ≡ Some b → a ≡ b
some-is a b e = cc

brick-is : (a b : BrickState) → a_brick a ≡ a_brick b → a ≡ b
brick-is a b e = cc

module _ (z : Sizes) (m : Net) (me : ℕ) (s : BrickState) (told : Option Leaf) (t : BrickTurn) (c : Changed z m me s told t) where
  abbrev P : Leaf → Type 0
  P = MembersAnswer m

  -- the brick answers for what its leaves cover
  both-now : IsBoth me (own t.state)
  both-now = subst (NodeOk me) c.here (c.named.copied.own me)

  fit-now : Fit t.state
  fit-now = subst (NodeNamed me) c.here (c.named.nodes me)

  itself : (u : BrickState) (leaf : Leaf) → m.node me ≡ a_brick u → Answers t.state leaf → Answers u leaf
  itself u leaf there h = subst (λ x. Answers x leaf) (brick-is t.state u (sym c.here ∙ there)) h

  put-answers : (leaf : Leaf) → t.state.leaves ≡ put s.leaves leaf → Answers t.state leaf
  put-answers leaf is = served-covers s t c.grows (keyed-at me t.state both-now) fit-now.is.0 leaf is

  -- the leaf of a split
  split-of : (p : OpenOrder) → IsOpen s p → p.task ≡ Split → HasSplitLeaf s.leaves p
  split-of p (was_open e) task = c.splits p e (ap is_join task)
  split-of p (opens at leaf none there fixed name split phase) task =
      record { leaf = leaf; fixed = fixed; there = ap (get s.leaves) (name ∙ keyed me (own s) leaf c.both.0 at there) ∙ there }

  module _ (p : OpenOrder) (made : Leaf) (opened : IsOpen s p) (has_made : HasMadeLeaf s.number s.made p made) where
    served-leaves : t.state.leaves ≡ (order.serving s p made p.task).leaves → t.state.leaves ≡ served s.leaves p made p.task
    served-leaves e = e ∙ ap (λ (x : Leafing). x.leaves) (served-leafing s p made p.task)

    module _ (task : p.task ≡ Split) where
      q : HasSplitLeaf s.leaves p
      q = split-of p opened task

      leaf-named : q.leaf.name ≡ p.name
      leaf-named = keyed me (own s) q.leaf c.both.0 p.name q.there

      leaf-fit : IsFit q.leaf
      leaf-fit = each-is IsFit (get s.leaves p.name) q.leaf q.there (c.fit.is.0 p.name)

      few : p.name.bits < 2 ^ p.name.depth
      few = subst (λ (n : Name). n.bits < 2 ^ n.depth) leaf-named leaf-fit.bits

      pub split-covers : (key : ℕ) → covers p.name key ≡ true → is_some (leaf_for t.state.leaves key) ≡ true
      split-covers key over =
          c.grows key (cover-of s.leaves key (keyed-at me s c.both) c.fit.is.0 (record { name = p.name; there = ap is_some q.there; over = over }))

      made-low : HasMadeLeaf s.number s.made p made → IsOpen s p → made.name ≡ low_half p.name
      made-low (before phase) (was_open e) = made-name me s p made c.both e phase ∙ ap (made_name p.name) task
      made-low (before phase) (opens at leaf none there fixed name split leasing) = absurd (phase-not made (sym leasing ∙ phase))
      made-low (at_once o leaf u same was fixed number count alone is) opened =
          ap (λ (l : Leaf). l.name) (is ∙ ap (order.made_leaf u o leaf) (same.2 ∙ task))
          ∙ ap (λ (l : Leaf). low_half l.name) (some-is leaf q.leaf (sym was ∙ q.fixed)) ∙ ap low_half leaf-named

      whole-made : whole made.name ≡ p.name
      whole-made = ap whole (made-low has_made opened) ∙ whole-low p.name few

      split-made : Answers t.state made
      split-made =
          serves (λ key over. split-covers key (made-covers p.name Split key few (subst (λ n. covers n key ≡ true) (made-low has_made opened) over)))

      split-sibling : Answers t.state (sibling made)
      split-sibling = serves (λ key over. split-covers key (subst (λ n. covers n key ≡ true) whole-made (other-covers made.name key over)))

    -- alone in what is made at once
    only-me : (o : OpenOrder) (leaf : Leaf) (u : BrickState) (b : ℕ) → u.number ≡ s.number → without (order.parting u o leaf) u.number ≡ []
        → made ≡ order.made_leaf u o leaf o.task → has made.list b ≡ true → b ≡ me
    only-me o leaf u b number alone is lists =
        lists-alone u o leaf o.task b alone (ap (λ (l : Leaf). has l.list b) (sym is) ∙ lists) ∙ number ∙ c.both.0.number

    itself-made : t.state.leaves ≡ served s.leaves p made p.task → Answers t.state made
    itself-made e = by p.task refl
      where
        by : (k : Task) → p.task ≡ k → Answers t.state made
        by (Join via) task = put-answers made (e ∙ ap (served s.leaves p made) task)
        by Split task = split-made task

    made-members : t.state.leaves ≡ served s.leaves p made p.task → HasMadeLeaf s.number s.made p made → IsOpen s p → P made
    made-members e (before phase) (was_open there) = made-of P p.phase made phase (order-of P s.order p there c.answer.1).1
    made-members e (before phase) (opens at leaf none there fixed name split leasing) = absurd (phase-not made (sym leasing ∙ phase))
    made-members e (at_once o leaf u same was fixed number count alone is) opened =
        λ new b x there live lists.
        let mine : b ≡ me = only-me o leaf u b number alone is lists in
        itself x made (ap m.node (sym mine) ∙ there) (itself-made e)

    -- others that list the sibling
    beside-others : (task : p.task ≡ Split) → P made → HasMadeLeaf s.number s.made p made → IsOpen s p → 1 ≤ made.epoch → (b : ℕ) (x : BrickState)
        → m.node b ≡ a_brick x → x.stopped ≡ false → (b ≡ me → ⊥) → has made.list b ≡ true → Answers x (sibling made)
    beside-others task h (before phase) (was_open there) new b x at_b live other lists =
        let k = q task in
        let named : (IsFit made) × (1 ≤ made.name.depth) = made-half p.task task there phase c.fit.is.1 in
        let whole_is = whole-made task in
        let differs : made.name ≡ k.leaf.name → ⊥ = (λ i. not-whole made.name named.1 (i ∙ leaf-named task ∙ sym whole_is)) in
        let comes = c.makes p there k.leaf made k.fixed phase (leaf-fit task).bits in
        let listed = split-lists k.leaf made (successor k.leaf made) refl comes differs b lists in
        let mine : P k.leaf = each-is P (get s.leaves p.name) k.leaf k.there (c.answer.0 p.name) in
        let fresh : IsFresh k.leaf = each-is IsFresh (get s.leaves p.name) k.leaf k.there (c.fresh p.name) in
        let its : IsBoth b (own x) = subst (NodeOk b) at_b (c.named.copied.own b) in
        sibling-answers b x k.leaf made its (leaf-named task ∙ sym whole_is) named.0 named.1 (mine fresh b x at_b live listed)
        (h new b x at_b live lists)
      where
        made-half : (k : Task) → k ≡ Split → s.order ≡ Some p → p.phase ≡ Installing made → FitOrder s.order → (IsFit made) × (1 ≤ made.name.depth)
        made-half k is e i h =
            let its : FitOrder (Some p) = subst FitOrder e h in
            let halves = subst (λ j. MayHalve j p.leaf (made_leaf p.phase)) task its.2 in
            (made-of IsFit p.phase made i its.1, made-of IsHalf p.phase made i halves.1)
    beside-others task h (before phase) (opens at leaf none there fixed name split leasing) new b x at_b live other lists =
        absurd (phase-not made (sym leasing ∙ phase))
    beside-others task h (at_once o leaf u same was fixed number count alone is) opened new b x at_b live other lists =
        absurd (other (only-me o leaf u b number alone is lists))

    beside : (task : p.task ≡ Split) → P made → P (sibling made)
    beside task h new b x there live lists = elim (cases_eq b me) [
      | inl e ↦ itself x (sibling made) (ap m.node (sym e) ∙ there) (split-sibling task)
      | inr ne ↦ beside-others task h has_made opened new b x there live ne lists
    ]

    served-answer : t.state.leaves ≡ served s.leaves p made p.task → InMap P t.state.leaves
    served-answer e =
        let h = made-members e has_made opened in
        subst (InMap P) (sym e) (in-served P s.leaves p made p.task h (by p.task refl h) c.answer.0)
      where
        by : (k : Task) → p.task ≡ k → P made → Beside P made k
        by (Join via) task h = tt
        by Split task h = beside task h

  -- a leaf that is told in the place of an own one
  taken-answer : (mine leaf : Leaf) → told ≡ Some leaf → own_leaf s.leaves leaf.name ≡ Some mine
      → (is_some (successor mine leaf) || is_better_rival (has_node s.known) mine leaf) ≡ true
      → (is_some (successor mine leaf) ≡ false → maker_known (has_node s.known) leaf.stamp ≡ true) → InMap P (replaced s.leaves mine leaf)
  taken-answer mine leaf is there comes maker =
      let h : P leaf = each-is P told leaf is c.heard in
      in-replaced P s.leaves mine leaf h (λ e.
      sibling-members z m c.book (has_node s.known) s.leaves mine leaf c.named (record {
        lists = c.lists;
        fresh = in-own IsFresh s.leaves leaf.name mine there c.fresh;
        knows = c.knows;
        old = in-own (Known c.book) s.leaves leaf.name mine there c.leafed;
        new = each-is (Known c.book) told leaf is c.heard_known;
        named = each-is IsFit told leaf is c.heard_fit;
        comes = comes;
        maker = maker;
      }) (replaces s.leaves mine leaf (λ k i. keyed me (own s) mine c.both.0 k i) there) e (in-own P s.leaves leaf.name mine there c.answer.0) h) c.answer.0

  pub change-answer : ChangeOnce s told t → InMap P t.state.leaves
  change-answer (rests (stays e)) = subst (InMap P) (sym e) c.answer.0
  change-answer (rests (takes mine leaf is there comes maker e)) = subst (InMap P) (sym e) (taken-answer mine leaf is there comes maker)
  change-answer (serves_leaf p made opened has_made e) = served-answer p made opened has_made (served-leaves p made opened has_made e)
