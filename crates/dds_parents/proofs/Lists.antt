use Rattle.std.proofs.Common.{◌≡◌, ℕ, ◌+◌, ◌<◌, ◌≤◌, ◌⊎◌, inl, inr, true, Option, Some, None, refl, sym, ap, ◌∙◌, subst, arith}
use Rattle.std.proofs.lemmas.Bool.{cases_eq, cases_lt}
use Rattle.std.specs.FinMap.{get}
use Rattle.std.specs.Prelude.{is_some}
use Rattle.dds_base.specs.BrickList.{has}
use Rattle.dds_base.specs.NodeSet.{has_node}
use Rattle.dds_base.specs.Number.{StampOf}
use Rattle.dds_base.specs.declared.leaf.Leaf.{Leaf}
use Rattle.dds_base.specs.declared.node_set.NodeSet.{NodeSet}
use Rattle.dds_law_leaf.proofs.Book.{Body, Book, Grows, InOrder, IsBred, Known, LeafedBy, Leafing, body, leafing}
use Rattle.dds_law_leaf.proofs.Maps.{each-is}
use Rattle.dds_law_leaf.proofs.Turns.{Grown}
use Rattle.dds_states.specs.Turn.{BrickTurn}
use Rattle.dds_states.specs.declared.brick_state.OpenOrder.{OpenOrder}
use Rattle.dds_states.specs.declared.brick_state.OrderPhase.TheVariants.{Installing}
use Rattle.dds_world.specs.Groups.{made_leaf}
use Rattle.dds_parents.proofs.Makes.{HasMade, Makes, Stands, a_leaf, installing, no_leaf, serving}

-- The invariant, over the laws of leaves, of notices, of own leaves and of whom orders have asked: what the book of stamps says of a
-- stamp's leaves and of those that they came from.
--
-- | part | why it is needed | which rows keep it |
-- |---|---|---|
-- | `there`: a stamp's leaves came from those of a stamp of the book; a leaf of the | the claim speaks of leaves | what begins to install |
-- | opening came from itself                                                        | of both stamps             |                        |
-- | `lists`: who is a member there is one here, or has stopped                      | claimed                    | what begins to install |
-- | `members`: who is a member here, but for the maker, is one there                | leaves that came from one  | what begins to install |
-- |                                                                                 | leaf list each other's     |                        |
-- | a live brick has given each of its stamps below its counter (`HasGiven`)        | a stamp that is new in the | what begins to install |
-- |                                                                                 | book is of the leaf that   |                        |
-- |                                                                                 | was made                   |                        |

pub record Lists (b : Book) (gone : ℕ → Type 0) (st : StampOf) (x : Body) : Type 0 where
  pub parent : Body
  pub there : b x.prev ≡ Some parent
  pub lists : (n : ℕ) → has parent.list n ≡ true → (has x.list n ≡ true) ⊎ gone n
  pub members : (n : ℕ) → (n ≡ st.maker → ⊥) → has x.list n ≡ true → has parent.list n ≡ true

abbrev pub AllList : Book → (ℕ → Type 0) → Type 0
AllList b gone = (st : StampOf) (x : Body) → b st ≡ Some x → Lists b gone st x

abbrev pub HasGiven : Book → ℕ → ℕ → Type 0
HasGiven b me made = (c : ℕ) → c < made → is_some (b (record { maker = me; count = c })) ≡ true

-- the book grows, and nodes stop
pub lists-later : (b c : Book) (gone later : ℕ → Type 0) (st : StampOf) (x : Body) → Grows b c → ((n : ℕ) → gone n → later n) → Lists b gone st x
    → Lists c later st x
lists-later b c gone later st x g f h =
    record {
      parent = h.parent;
      there = g x.prev h.parent h.there;
      lists = λ n k. elim (h.lists n k) [ inl e ↦ inl e | inr e ↦ inr (f n e) ];
      members = h.members;
    }

pub given-later : (b c : Book) (me made : ℕ) → Grows b c → HasGiven b me made → HasGiven c me made
given-later b c me made g h i lt = found (b (record { maker = me; count = i })) refl (h i lt)
  where
    found : (q : Option Body) → b (record { maker = me; count = i }) ≡ q → is_some q ≡ true → is_some (c (record { maker = me; count = i })) ≡ true
    found None e k = cc
    found (Some x) e k = ap is_some (g (record { maker = me; count = i }) x e)

-- the leaf that was made is in the book, which has all that stand
order-made : (P : Leaf → Type 0) (q : Option OpenOrder) (o : OpenOrder) (made : Leaf) → q ≡ Some o → o.phase ≡ Installing made → InOrder P q → P made
order-made P None o made e f h = cc
order-made P (Some p) o made e f h =
    let is : p ≡ o = cc in each-is P (made_leaf p.phase) made (ap (λ (x : OpenOrder). made_leaf x.phase) is ∙ ap made_leaf f) h.1

pub stands-known : (me : ℕ) (c : Book) (x : Leafing) (made : Leaf) → LeafedBy me c x → Stands x made → Known c made
stands-known me c x made h (installing o e f) = order-made (Known c) x.order o made e f h.order
stands-known me c x made h (serving name e) = each-is (Known c) (get x.leaves name) (record made { name = name }) e (h.leaves name)

pub same-some : (q : Option Body) (x y : Body) → q ≡ Some x → q ≡ Some y → x ≡ y
same-some q x y e f = let g : Some x ≡ Some y = sym e ∙ f in cc

not-none : (q : Option Body) (x : Body) → q ≡ None → q ≡ Some x → ⊥
not-none q x e f = let g : None ≡ Some x = sym e ∙ f in cc

not-given : (q : Option Body) → q ≡ None → is_some q ≡ true → ⊥
not-given None e h = cc
not-given (Some x) e h = cc

-- a turn of a brick
module _ (me count : ℕ) (b c : Book) (known : NodeSet) (t : BrickTurn) (gone later : ℕ → Type 0) (low : me < 64) (grown : Grown me b c)
    (bred : IsBred c) (leafed : LeafedBy me c (leafing t.state)) (given : HasGiven b me count) (f : (n : ℕ) → gone n → later n)
    (stops : (n : ℕ) → has_node known n ≡ true → later n) where
  made-lists : (m : HasMade (Known b) known me count (leafing t.state)) → Lists c later m.made.stamp (body m.made)
  made-lists m =
      let is : c m.made.stamp ≡ Some (body m.made) = stands-known me c (leafing t.state) m.made leafed m.stands in
      let parent : c m.made.prev ≡ Some (body m.parent) = ap c m.prev ∙ grown.grows m.parent.stamp (body m.parent) m.old in
      let maker : m.made.stamp.maker ≡ me = ap (λ (q : StampOf). q.maker) m.stamp in
      let from = bred m.made.stamp (body m.made) (subst (λ i. i < 64) (sym maker) low) is in
      let same : from.parent ≡ body m.parent = same-some (c m.made.prev) from.parent (body m.parent) from.there parent in
      record {
        parent = body m.parent;
        there = parent;
        lists = λ n k. elim (m.lists n k) [ inl e ↦ inl e | inr e ↦ inr (stops n e) ];
        members = λ n ne k. ap (λ (y : Body). has y.list n) (sym same) ∙ from.members n ne k;
      }

  -- a stamp that wasn't in the book
  new-lists : (st : StampOf) (y : Body) → Makes (Known b) known me count t → b st ≡ None → c st ≡ Some y → Lists c later st y
  new-lists st y m e is = elim (cases_eq st.maker me) [
    | inl mine ↦ of-mine mine m (cases_lt st.count count)
    | inr ne ↦ absurd (not-none (b st) y e (sym (grown.others st ne) ∙ is))
  ]
    where
      itself : st.maker ≡ me → st ≡ record { maker = me; count = st.count }
      itself mine = λ i. record { maker = mine i; count = st.count }

      below : st.maker ≡ me → st.count < count → ⊥
      below mine lt = not-given (b st) e (ap (λ q. is_some (b q)) (itself mine) ∙ given st.count lt)

      above : st.maker ≡ me → t.state.made ≤ st.count → ⊥
      above mine le = not-none (c st) y (ap c (itself mine) ∙ leafed.fresh st.count le) is

      that-made : st.maker ≡ me → st.count ≡ count → HasMade (Known b) known me count (leafing t.state) → Lists c later st y
      that-made mine at m =
          let there : st ≡ record { maker = me; count = count } = λ i. record { maker = mine i; count = at i } in
          let same : st ≡ m.made.stamp = there ∙ sym m.stamp in
          let its : c m.made.stamp ≡ Some (body m.made) = stands-known me c (leafing t.state) m.made leafed m.stands in
          let body_is : y ≡ body m.made = same-some (c st) y (body m.made) is (ap c same ∙ its) in
          subst (λ q. Lists c later q y) (sym same) (subst (Lists c later m.made.stamp) (sym body_is) (made-lists m))

      other : (st.count ≡ count → ⊥) → t.state.made ≡ count + 1 → count ≤ st.count → t.state.made ≤ st.count
      other ne made le = elim (cases_lt count st.count) [
        | inl lt ↦ omega (arith, made, lt)
        | inr ge ↦ absurd (ne (omega (arith, le, ge)))
      ]

      of-mine : st.maker ≡ me → Makes (Known b) known me count t → (st.count < count) ⊎ (count ≤ st.count) → Lists c later st y
      of-mine mine m (inl lt) = absurd (below mine lt)
      of-mine mine (no_leaf made) (inr le) = absurd (above mine (omega (arith, made, le)))
      of-mine mine (a_leaf made m) (inr le) = elim (cases_eq st.count count) [
        | inl at ↦ that-made mine at m
        | inr ne ↦ absurd (above mine (other ne made le))
      ]

  pub turned-lists : Makes (Known b) known me count t → AllList b gone → AllList c later
  turned-lists m h st y is = from (b st) refl
    where
      from : (q : Option Body) → b st ≡ q → Lists c later st y
      from None e = new-lists st y m e is
      from (Some z) e =
          let same : z ≡ y = same-some (c st) z y (grown.grows st z e) is in
          lists-later b c gone later st y grown.grows f (subst (Lists b gone st) same (h st z e))

  pub turned-given : Makes (Known b) known me count t → HasGiven c me t.state.made
  turned-given (no_leaf made) i lt = given-later b c me count grown.grows given i (omega (arith, made, lt))
  turned-given (a_leaf made m) i lt = elim (cases_lt i count) [
    | inl less ↦ given-later b c me count grown.grows given i less
    | inr ge ↦
        let at : i ≡ count = omega (arith, made, lt, ge) in
        let is : c m.made.stamp ≡ Some (body m.made) = stands-known me c (leafing t.state) m.made leafed m.stands in
        ap (λ j. is_some (c (record { maker = me; count = j }))) at ∙ ap (λ q. is_some (c q)) (sym m.stamp) ∙ ap is_some is
  ]

-- a leaf that came from another one of the book, and two that came from one leaf, of which the one's maker has stopped
module _ (b : Book) (gone : ℕ → Type 0) (h : AllList b gone) (mine leaf : Leaf) (known : Known b mine) (also : Known b leaf) where
  pub next-lists : leaf.prev ≡ mine.stamp → (n : ℕ) → has mine.list n ≡ true → (has leaf.list n ≡ true) ⊎ gone n
  next-lists prev n k =
      let l = h leaf.stamp (body leaf) also in
      let same : l.parent ≡ body mine = same-some (b leaf.prev) l.parent (body mine) l.there (ap b prev ∙ known) in
      l.lists n (ap (λ (y : Body). has y.list n) same ∙ k)

  pub beside-lists : mine.prev ≡ leaf.prev → gone mine.stamp.maker → (n : ℕ) → has mine.list n ≡ true → (has leaf.list n ≡ true) ⊎ gone n
  beside-lists prev stopped n k =
      let l = h leaf.stamp (body leaf) also in
      let m = h mine.stamp (body mine) known in
      let same : l.parent ≡ m.parent = same-some (b leaf.prev) l.parent m.parent l.there (ap b (sym prev) ∙ m.there) in
      elim (cases_eq n mine.stamp.maker) [
        | inl e ↦ inr (subst gone (sym e) stopped)
        | inr ne ↦ l.lists n (ap (λ (y : Body). has y.list n) same ∙ m.members n ne k)
      ]
