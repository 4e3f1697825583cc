use Rattle.std.proofs.Common.{◌≡◌, ℕ, ◌≤◌, ◌||◌, ◌⊎◌, inl, inr, true, Option, Some, None, sym, ap, ◌∙◌, subst, arith}
use Rattle.std.specs.FinMap.{get}
use Rattle.std.specs.Prelude.{is_some}
use Rattle.dds_base.specs.BrickList.{has}
use Rattle.dds_base.specs.Name.{Name}
use Rattle.dds_base.specs.NodeSet.{has_node}
use Rattle.dds_base.specs.declared.leaf.Leaf.{Leaf}
use Rattle.dds_base.specs.declared.node_set.NodeSet.{NodeSet}
use Rattle.dds_brick_rows.specs.Refusal.{is_join}
use Rattle.dds_brick_rows.specs.Take.{replaced}
use Rattle.dds_groups.specs.Leaves.{successor}
use Rattle.dds_groups.specs.Names.{low_half}
use Rattle.dds_groups.specs.Take.{is_better_rival}
use Rattle.dds_law_leaf.proofs.Book.{Body, Book, Each, Known, LeafedBy, Leafing, body, leafing}
use Rattle.dds_law_leaf.proofs.Maps.{each-is}
use Rattle.dds_law_leaf.proofs.Turns.{Turned}
use Rattle.dds_law_own.proofs.Changes.{own, served}
use Rattle.dds_law_own.proofs.Lists as own_lists
use Rattle.dds_law_own.proofs.Owned.{IsOrderly, made_name, orderly}
use Rattle.dds_law_own.proofs.Parted.{IsBoth}
use Rattle.dds_maps.specs.Own.{own_leaf}
use Rattle.dds_order_rows.specs.OwnOrder as order
use Rattle.dds_orders.proofs.Asked.{AskedBy, Asking}
use Rattle.dds_orders.proofs.Standing.{keyed}
use Rattle.dds_parents.proofs.Lists.{AllList, same-some, stands-known}
use Rattle.dds_parents.proofs.Makes.{Makes, a_leaf, no_leaf, prev-of, served-leafing, served-there, stamp-of}
use Rattle.dds_parents.proofs.SplitLeaves.{SplitsIn}
use Rattle.dds_parents.proofs.Taken.{comes-lists}
use Rattle.dds_parents.specs.SplitLeaves.{HasSplitLeaf}
use Rattle.dds_serving.specs.Once.{HasMadeLeaf, IsOf, IsOpen}
use Rattle.dds_serving.specs.Once.HasMadeLeaf.{at_once, before}
use Rattle.dds_serving.specs.Once.IsOpen.{opens, was_open}
use Rattle.dds_states.specs.Turn.{BrickTurn}
use Rattle.dds_states.specs.declared.brick_state.BrickState.{BrickState}
use Rattle.dds_states.specs.declared.brick_state.OpenOrder.{OpenOrder}
use Rattle.dds_states.specs.declared.brick_state.OrderPhase.TheVariants.{Installing, Leasing}
use Rattle.dds_states.specs.declared.brick_state.Task.{Task}
use Rattle.dds_states.specs.declared.brick_state.Task.TheVariants.{Split}
use Rattle.dds_world.specs.Groups as world
use Rattle.dds_share.proofs.Over.{IsOver, Was, in_place, itself, replaced-was, split-was}
use Rattle.dds_share.proofs.Turned.{Came, stays}

-- A turn in which a brick takes or installs a leaf, or serves the leaf of a split: what is over a spot came from what was there.

-- a brick's turn, with what the laws of leaves, of own leaves, of whom orders asked and of splits' leaves say of it
pub record Turn (me : ℕ) (b : Book) (gone : ℕ → Type 0) (told : Option Leaf) (s : BrickState) (t : BrickTurn) : Type 0 where
  pub both : IsBoth me (own s)
  pub asked : AskedBy me s.known s.order
  pub splits : SplitsIn s.leaves s.order
  pub leafed : LeafedBy me b (leafing s)
  pub heard : Each (Known b) told
  pub lists : AllList b gone
  pub knows : (k : ℕ) → has_node s.known k ≡ true → gone k
  pub known : NodeSet
  pub learns : (k : ℕ) → has_node known k ≡ true → gone k
  pub turned : Turned me b t
  pub makes : Makes (Known b) known me s.made t

phase-not : (made : Leaf) → Leasing ≡ Installing made → ⊥
phase-not made e = cc

split-is : (t : Task) → t ≡ Split → is_join t ≡ true → ⊥
split-is t e j = let no = sym (ap is_join e) ∙ j in cc

some-is : (a b : Leaf) → Some a ≡ Some b → a ≡ b
some-is a b e = cc

module _ (me : ℕ) (b : Book) (gone : ℕ → Type 0) (told : Option Leaf) (s : BrickState) (t : BrickTurn) (h : Turn me b gone told s t) where
  names : (n : Name) (l : Leaf) → get s.leaves n ≡ Some l → l.name ≡ n
  names n l e = keyed me (own s) l h.both.0 n e

  known-at : (n : Name) (l : Leaf) → get s.leaves n ≡ Some l → Known b l
  known-at n l e = each-is (Known b) (get s.leaves n) l e (h.leafed.leaves n)

  -- a leaf in the place of another one
  abbrev Lists : Leaf → Leaf → Type 0
  Lists old new = (k : ℕ) → has old.list k ≡ true → (has new.list k ≡ true) ⊎ gone k

  from-was : (spot : Name) (mine leaf new : Leaf) → (IsOver s.leaves spot mine → Lists mine leaf) → Was s.leaves spot mine leaf new
      → Came gone s.leaves spot new
  from-was spot mine leaf new f (itself k) = stays gone s.leaves spot new k
  from-was spot mine leaf new f (in_place k e) =
      record { old = mine; over = k; lists = λ i c. elim (f k i c) [ inl j ↦ inl (ap (λ ls. has ls i) e ∙ j) | inr j ↦ inr j ] }

  pub took : (mine leaf : Leaf) → told ≡ Some leaf → own_leaf s.leaves leaf.name ≡ Some mine
      → (is_some (successor mine leaf) || is_better_rival (has_node s.known) mine leaf) ≡ true → t.state.leaves ≡ replaced s.leaves mine leaf
      → (spot : Name) (new : Leaf) → IsOver t.state.leaves spot new → Came gone s.leaves spot new
  took mine leaf e there comes is spot new over =
      from-was spot mine leaf new
      (λ k. comes-lists b gone (has_node s.known) mine leaf h.lists h.knows (known-at k.name mine k.there) (each-is (Known b) told leaf e h.heard) comes)
      (replaced-was s.leaves names spot new mine leaf there (subst (λ m. IsOver m spot new) is over))

  -- the leaf of a split
  its-leaf : (p : OpenOrder) → IsOpen s p → p.task ≡ Split → HasSplitLeaf s.leaves p
  its-leaf p (was_open e) task = h.splits p e (ap is_join task)
  its-leaf p (opens at leaf none there l name task phase) split =
      record { leaf = leaf; fixed = l; there = ap (get s.leaves) (name ∙ names at leaf there) ∙ there }

  -- what was made has the name of a half, and lists the members of the split's leaf
  record MadeSo (p : OpenOrder) (leaf made : Leaf) : Type 0 where
    name : made.name ≡ low_half p.name
    lists : Lists leaf made

  made-before : (p : OpenOrder) (leaf made : Leaf) → s.order ≡ Some p → p.task ≡ Split → p.leaf ≡ Some leaf → p.phase ≡ Installing made
      → MadeSo p leaf made
  made-before p leaf made e task fixed phase =
      let it : IsOrderly me p = orderly me s.order p e h.both.0.order in
      let made_is = (subst (λ i. own_lists.Each (λ (l : Leaf). (l.name ≡ made_name p.name p.task) × (has l.list me ≡ true)) (world.made_leaf i))
      phase it.made) in
      let asking : Asking me s.known p = h.asked p e in
      record {
        name = made_is.0 ∙ ap (made_name p.name) task;
        lists = λ k c. elim (asking.made leaf made fixed phase k c) [ inl i ↦ inl i | inr i ↦ inr (h.knows k i) ];
      }

  its-stamp : (o : OpenOrder) (u : BrickState) (leaf : Leaf) → u.number ≡ s.number → u.made ≡ s.made
      → (order.made_leaf u o leaf Split).stamp ≡ record { maker = me; count = s.made }
  its-stamp o u leaf number count =
      stamp-of u o leaf Split ∙ (λ i. record { maker = (number ∙ h.both.0.number) i; count = count i })

  not-made : (q : Option Body) (x : Body) → q ≡ None → q ≡ Some x → ⊥
  not-made q x e f = let no : None ≡ Some x = sym e ∙ f in cc

  made-lists : (leaf made : Leaf) → Known b leaf → Known h.turned.next made → made.prev ≡ leaf.stamp → made.stamp ≡ record { maker = me; count = s.made }
      → Makes (Known b) h.known me s.made t → Lists leaf made
  made-lists leaf made first known prev stamp (no_leaf same) =
      let le : t.state.made ≤ s.made = omega (arith, same) in
      absurd (not-made (h.turned.next (record { maker = me; count = s.made })) (body made) (h.turned.state.fresh s.made le)
      (ap h.turned.next (sym stamp) ∙ known))
  made-lists leaf made first known prev stamp (a_leaf more m) =
      let c = h.turned.next in
      let also : Known c m.made = stands-known me c (leafing t.state) m.made h.turned.state m.stands in
      let same : body m.made ≡ body made = same-some (c made.stamp) (body m.made) (body made) (ap c (stamp ∙ sym m.stamp) ∙ also) known in
      let one : m.parent.stamp ≡ leaf.stamp = sym m.prev ∙ ap (λ (x : Body). x.prev) same ∙ prev in
      let parent : body leaf ≡ body m.parent = same-some (b leaf.stamp) (body leaf) (body m.parent) first (ap b (sym one) ∙ m.old) in
      λ k c. elim (m.lists k (sym (ap (λ (x : Body). has x.list k) parent) ∙ c)) [
        | inl i ↦ inl (sym (ap (λ (x : Body). has x.list k) same) ∙ i)
        | inr i ↦ inr (h.learns k i)
      ]

  made-at-once : (p o : OpenOrder) (leaf made fixed : Leaf) (u : BrickState) → IsOf p o → o.leaf ≡ Some leaf → u.number ≡ s.number → u.made ≡ s.made
      → made ≡ order.made_leaf u o leaf o.task → p.task ≡ Split → p.leaf ≡ Some fixed → get s.leaves p.name ≡ Some fixed
      → t.state.leaves ≡ served s.leaves p made Split → MadeSo p fixed made
  made-at-once p o leaf made fixed u same has_leaf number count is task has_fixed there leaves =
      let split : o.task ≡ Split = same.2 ∙ task in
      let made_is : made ≡ order.made_leaf u o leaf Split = is ∙ ap (order.made_leaf u o leaf) split in
      let of : leaf ≡ fixed = elim same.3 [
        | inl e ↦ some-is leaf fixed (sym has_leaf ∙ e ∙ has_fixed)
        | inr j ↦ absurd (split-is o.task split j)
      ] in
      let stamp = ap (λ (l : Leaf). l.stamp) made_is ∙ its-stamp o u leaf number count in
      let prev = ap (λ (l : Leaf). l.prev) made_is ∙ prev-of u o leaf Split ∙ ap (λ (l : Leaf). l.stamp) of in
      let known = stands-known me h.turned.next (leafing t.state) made h.turned.state (served-there (leafing t.state) s.leaves p made Split leaves) in
      record {
        name = ap (λ (l : Leaf). l.name) made_is ∙ ap (λ (l : Leaf). low_half l.name) of ∙ ap low_half (names p.name fixed there);
        lists = made-lists fixed made (known-at p.name fixed there) known prev stamp h.makes;
      }

  made-so : (p : OpenOrder) (made : Leaf) (q : HasSplitLeaf s.leaves p) → IsOpen s p → HasMadeLeaf s.number s.made p made → p.task ≡ Split
      → t.state.leaves ≡ served s.leaves p made Split → MadeSo p q.leaf made
  made-so p made q (was_open e) (before phase) task leaves = made-before p q.leaf made e task q.fixed phase
  made-so p made q (opens at leaf none there l name split leasing) (before phase) task leaves = absurd (phase-not made (sym leasing ∙ phase))
  made-so p made q open_order (at_once o leaf u same was fixed number count alone is) task leaves =
      made-at-once p o leaf made q.leaf u same fixed number count is task q.fixed q.there leaves

  pub split : (p : OpenOrder) (made : Leaf) → IsOpen s p → HasMadeLeaf s.number s.made p made → p.task ≡ Split
      → t.state.leaves ≡ (order.serving s p made p.task).leaves → (spot : Name) (new : Leaf) → IsOver t.state.leaves spot new
      → Came gone s.leaves spot new
  split p made open_order has_made task is spot new over =
      let leaves : t.state.leaves ≡ served s.leaves p made Split =
      is ∙ ap (λ (x : Leafing). x.leaves) (served-leafing s p made p.task) ∙ ap (served s.leaves p made) task in
      let q = its-leaf p open_order task in
      let so = made-so p made q open_order has_made task leaves in
      from-was spot q.leaf made new (λ k. so.lists)
      (split-was s.leaves names spot new p q.leaf made so.name q.there (subst (λ m. IsOver m spot new) leaves over))
