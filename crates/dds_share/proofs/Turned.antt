use Rattle.std.proofs.Common.{◌≡◌, ℕ, ◌⊎◌, inl, inr, true, false, Some, refl, sym, ap, ◌∙◌, subst}
use Rattle.std.proofs.lemmas.Bool.{both_ways, cases_eq, eq-eqb, ne_eqb}
use Rattle.std.specs.FinMap.{get}
use Rattle.std.specs.Prelude.{if◌then◌else◌}
use Rattle.dds_base.specs.BrickList.{has}
use Rattle.dds_base.specs.Name.{Name}
use Rattle.dds_base.specs.declared.leaf.Leaf.{Leaf}
use Rattle.dds_law_notice.proofs.Views.{view}
use Rattle.dds_net.specs.Net.{Net, Node, a_brick, put}
use Rattle.dds_parents.proofs.Keeps.{Gone}
use Rattle.dds_states.specs.declared.brick_state.BrickState.{BrickState}
use Rattle.dds_trie.specs.Trie.{LeafMap}
use Rattle.dds_share.proofs.Over.{IsOver}
use Rattle.dds_share.proofs.Together.{Serves, Share}

-- One brick's leaves change: live bricks with leaves over one spot list each other, where what is over a spot afterwards came from what
-- was there, or is new there and each other one's.

-- a leaf came from one over the spot, whose members it lists but for those that have stopped
pub record Came (gone : ℕ → Type 0) (m : LeafMap) (spot : Name) (new : Leaf) : Type 0 where
  pub old : Leaf
  pub over : IsOver m spot old
  pub lists : (b : ℕ) → has old.list b ≡ true → (has new.list b ≡ true) ⊎ gone b

-- or it is new over the spot, and lists and is listed by each other live brick there
abbrev pub IsNew : Net → ℕ → Name → Leaf → Type 0
IsNew n at spot new =
    (b : ℕ) (t : BrickState) (other : Leaf) → (b ≡ at → ⊥) → Serves n b spot t other → (has new.list b ≡ true) × (has other.list at ≡ true)

abbrev pub Comes : (ℕ → Type 0) → Net → ℕ → BrickState → BrickState → Type 0
Comes gone n at s u = (spot : Name) (new : Leaf) → IsOver u.leaves spot new → Came gone s.leaves spot new ⊎ IsNew n at spot new

pub stays : (gone : ℕ → Type 0) (m : LeafMap) (spot : Name) (new : Leaf) → IsOver m spot new → Came gone m spot new
stays gone m spot new h = record { old = new; over = h; lists = λ b k. inl k }

-- one node changes
pub put-same : (nodes : ℕ → Node) (at k : ℕ) (y : Node) → k ≡ at → put at y nodes k ≡ y
put-same nodes at k y e = ap (λ c. if c then y else nodes k) (eq-eqb k at e)

pub put-other : (nodes : ℕ → Node) (at k : ℕ) (y : Node) → (k ≡ at → ⊥) → put at y nodes k ≡ nodes k
put-other nodes at k y ne = ap (λ c. if c then y else nodes k) (ne_eqb k at ne)

pub same-brick : (s t : BrickState) → a_brick s ≡ a_brick t → s ≡ t
same-brick s t e = cc

-- who lives hasn't stopped
pub lives-not : (m : Net) (b : ℕ) (t : BrickState) → m.node b ≡ a_brick t → t.stopped ≡ false → Gone m b → ⊥
lives-not m b t here live gone = both_ways t.stopped live (sym (ap (λ x. (view x).stopped) here) ∙ gone)

module _ (n m : Net) (at : ℕ) (s u : BrickState) (here : n.node at ≡ a_brick s) (live : s.stopped ≡ false) (is : m.node ≡ put at (a_brick u) n.node) where
  pub others-same : (b : ℕ) (t : BrickState) → (b ≡ at → ⊥) → m.node b ≡ a_brick t → n.node b ≡ a_brick t
  others-same b t ne e = sym (put-other n.node at b (a_brick u) ne) ∙ sym (ap (λ (f : ℕ → Node). f b) is) ∙ e

  pub at-is : (t : BrickState) → m.node at ≡ a_brick t → t ≡ u
  at-is t e = same-brick t u (sym e ∙ ap (λ (f : ℕ → Node). f at) is ∙ put-same n.node at at (a_brick u) refl)

  other-serves : (b : ℕ) (spot : Name) (t : BrickState) (leaf : Leaf) → (b ≡ at → ⊥) → Serves m b spot t leaf → Serves n b spot t leaf
  other-serves b spot t leaf ne h = record { here = others-same b t ne h.here; live = h.live; over = h.over }

  pub share-turned : Share n → ((q : Name) (l : Leaf) → get u.leaves q ≡ Some l → has l.list at ≡ true) → Comes (Gone m) n at s u → Share m
  share-turned share own comes a b spot t v leaf other ha hb = elim (cases_eq a at) [
    | inl ea ↦ elim (cases_eq b at) [
      | inl eb ↦ both ea eb (subst (λ i. Serves m i spot t leaf) ea ha)
      | inr nb ↦ from-at nb (subst (λ i. Serves m i spot t leaf) ea ha) hb
    ]
    | inr na ↦ elim (cases_eq b at) [
      | inl eb ↦ subst (λ i. has leaf.list i ≡ true) (sym eb) (to-at na ha (subst (λ i. Serves m i spot v other) eb hb))
      | inr nb ↦ share a b spot t v leaf other (other-serves a spot t leaf na ha) (other-serves b spot v other nb hb)
    ]
  ]
    where
      mine : (t : BrickState) (l : Leaf) → Serves m at spot t l → IsOver u.leaves spot l
      mine t l h = subst (λ (w : BrickState). IsOver w.leaves spot l) (at-is t h.here) h.over

      both : a ≡ at → b ≡ at → Serves m at spot t leaf → has leaf.list b ≡ true
      both ea eb h = let it = mine t leaf h in subst (λ i. has leaf.list i ≡ true) (sym eb) (own it.name leaf it.there)

      from-at : (b ≡ at → ⊥) → Serves m at spot t leaf → Serves m b spot v other → has leaf.list b ≡ true
      from-at nb h k = elim (comes spot leaf (mine t leaf h)) [
        | inl came ↦
            let before : Serves n at spot s came.old = record { here = here; live = live; over = came.over } in
            elim (came.lists b (share at b spot s v came.old other before (other-serves b spot v other nb k))) [
              | inl e ↦ e
              | inr gone ↦ absurd (lives-not m b v k.here k.live gone)
            ]
        | inr new ↦ (new b v other nb (other-serves b spot v other nb k)).0
      ]

      to-at : (a ≡ at → ⊥) → Serves m a spot t leaf → Serves m at spot v other → has leaf.list at ≡ true
      to-at na h k = elim (comes spot other (mine v other k)) [
        | inl came ↦ share a at spot t s leaf came.old (other-serves a spot t leaf na h) (record { here = here; live = live; over = came.over })
        | inr new ↦ (new a t leaf na (other-serves a spot t leaf na h)).1
      ]
