use Rattle.std.proofs.Common.{◌≡◌, ℕ, ◌^◌, ◌<◌, inl, inr, true, false, not, Some, sym, ap, ◌∙◌, subst}
use Rattle.std.proofs.lemmas.Bool.{cases_Bool}
use Rattle.std.specs.Prelude.{is_some}
use Rattle.dds_base.specs.BrickList.{has}
use Rattle.dds_base.specs.Name.{Name, covers}
use Rattle.dds_base.specs.declared.leaf.Leaf.{Leaf}
use Rattle.dds_brick_rows.specs.Refusal.{is_join}
use Rattle.dds_law_own.proofs.Changes.{own}
use Rattle.dds_law_own.proofs.Lists as own_lists
use Rattle.dds_law_own.proofs.Owned.{IsOrderly, made_name, orderly}
use Rattle.dds_law_own.proofs.Parted.{IsBoth}
use Rattle.dds_net.specs.Net.{Net, a_brick}
use Rattle.dds_order_rows.specs.OwnOrder as order
use Rattle.dds_pairs.proofs.Names.{IsFit}
use Rattle.dds_states.specs.Leaf.{leaf_for}
use Rattle.dds_states.specs.declared.brick_state.BrickState.{BrickState}
use Rattle.dds_states.specs.declared.brick_state.OpenOrder.{OpenOrder}
use Rattle.dds_states.specs.declared.brick_state.OrderPhase.TheVariants.{Installing}
use Rattle.dds_world.specs.Groups as world
use Rattle.dds_listed.proofs.Begun.{As, Begun, IsWhole}
use Rattle.dds_listed.proofs.Listed.{MembersAnswer}
use Rattle.dds_listed.proofs.Made.{made-members}
use Rattle.dds_listed.specs.Answers.{Answers, installs, serves}

-- Live members answer for a leaf that an order made in a turn, where those that granted the order cover its keys.

-- the order's name is one of a partition's
pub few-of : (me : ℕ) (P : Leaf → Type 0) (first : OpenOrder) (made : Leaf) (b : Begun me P first made) → IsFit b.may.may.leaf
    → first.name.bits < 2 ^ first.name.depth
few-of me P first made b fit =
    let it : IsOrderly me b.o = orderly me b.at.own.order b.o b.there b.both.0.order in
    let named = (own_lists.each-is (λ (l : Leaf). (l.name ≡ b.o.name) × (has l.list me ≡ not (is_join b.o.task))) b.o.leaf b.may.may.leaf
    b.may.may.fixed it.leaf).0 in
    subst (λ (n : Name). n.bits < 2 ^ n.depth) (named ∙ b.like.1) fit.bits

-- what an open order installs has the name that its task gives
pub made-name : (me : ℕ) (t : BrickState) (o : OpenOrder) (made : Leaf) → IsBoth me (own t) → t.order ≡ Some o → o.phase ≡ Installing made
    → made.name ≡ made_name o.name o.task
made-name me t o made both there phase =
    let it : IsOrderly me o = orderly me t.order o there both.0.order in
    (subst (λ i. own_lists.Each (λ (l : Leaf). (l.name ≡ made_name o.name o.task) × (has l.list me ≡ true)) (world.made_leaf i)) phase it.made).0

-- the members that granted it, at the turn's beginning
abbrev pub GrantedCover : Net → ℕ → OpenOrder → Type 0
GrantedCover m me o =
    (b : ℕ) (t : BrickState) → m.node b ≡ a_brick t → t.stopped ≡ false → (b ≡ me → ⊥) → has o.granted b ≡ true → (key : ℕ)
    → covers o.name key ≡ true → is_some (leaf_for t.leaves key) ≡ true

pub begun-members : (m : Net) (me : ℕ) (P : Leaf → Type 0) (first o : OpenOrder) (made : Leaf) (t : BrickState) (b : Begun me P first made)
    → IsFit b.may.may.leaf → IsBoth me (own t) → t.order ≡ Some o → o.phase ≡ Installing made → As first o → GrantedCover m me first
    → ((u : BrickState) → m.node me ≡ a_brick u → Answers u made) → MembersAnswer m made
begun-members m me P first o made t b fit both there phase like covered maker =
    let name : made.name ≡ made_name first.name first.task =
    made-name me t o made both there phase ∙ ap (λ n. made_name n o.task) like.1 ∙ ap (made_name first.name) like.2 in
    made-members m me b.at b.o made b.nodes b.both.0.number b.may (record {
      name = name ∙ ap (λ n. made_name n first.task) (sym b.like.1) ∙ ap (made_name b.o.name) (sym b.like.2);
      few = subst (λ (n : Name). n.bits < 2 ^ n.depth) (sym b.like.1) (few-of me P first made b fit);
      members = λ k u here live other gave key over.
          covered k u here live other (ap (λ ns. has ns k) (sym b.like.3) ∙ gave) key (subst (λ n. covers n key ≡ true) b.like.1 over);
      maker = maker;
    })

-- the brick itself: a join installs what it made, and a split has its leaf's keys
pub maker-answers : (t : BrickState) (o : OpenOrder) (made : Leaf) → t.order ≡ Some o → o.phase ≡ Installing made → IsWhole o
    → (is_join o.task ≡ false → (key : ℕ) → covers made.name key ≡ true → is_some (leaf_for t.leaves key) ≡ true) → Answers t made
maker-answers t o made there phase whole split = elim (cases_Bool (is_join o.task)) [
  | inl join ↦ installs o there join (whole (ap order.is_installing phase)) phase
  | inr is ↦ serves (split is)
]
