use Rattle.std.proofs.Common.{◌≡◌, ℕ, ◌^◌, ◌<◌, ◌==◌, ◌||◌, inl, inr, Bool, true, false, not, List, [], ◌∷◌, refl, sym, ap, ◌∙◌, subst}
use Rattle.std.proofs.lemmas.Bool.{cases_eq, ne_eqb}
use Rattle.std.specs.Prelude.{is_some}
use Rattle.dds_base.specs.BrickList.{has}
use Rattle.dds_base.specs.Name.{Name, covers}
use Rattle.dds_base.specs.declared.leaf.Leaf.{Leaf}
use Rattle.dds_base.specs.declared.number.NodeNo.{NodeNo}
use Rattle.dds_groups.proofs.NameHalves.{halves-cover}
use Rattle.dds_groups.specs.Names.{high_half}
use Rattle.dds_law_own.proofs.Lists.{has-kept}
use Rattle.dds_law_own.proofs.Owned.{made_name}
use Rattle.dds_net.specs.Net.{Net, a_brick}
use Rattle.dds_order_rows.specs.OwnOrder as order
use Rattle.dds_order_talk.proofs.Kept.{begun-granted}
use Rattle.dds_order_talk.proofs.Members.{ne-one}
use Rattle.dds_orders.proofs.Deeds.{MayBegin, Seat}
use Rattle.dds_orders.proofs.Numbers.{has-append}
use Rattle.dds_states.specs.Leaf.{leaf_for}
use Rattle.dds_states.specs.declared.brick_state.BrickState.{BrickState}
use Rattle.dds_states.specs.declared.brick_state.OpenOrder.{OpenOrder}
use Rattle.dds_states.specs.declared.brick_state.Task.{Task}
use Rattle.dds_states.specs.declared.brick_state.Task.TheVariants.{Join, Split}
use Rattle.dds_listed.proofs.Listed.{MembersAnswer}
use Rattle.dds_listed.specs.Answers.{Answers, serves}

-- A leaf that an order makes lists the brick and members that granted; where these cover the order's keys, all live members answer for it.

pub or-first : (a b : Bool) → (a || b) ≡ true → b ≡ false → a ≡ true
or-first true b h e = refl
or-first false b h e = let no : false ≡ true = sym e ∙ h in cc

-- whom it lists beside the brick
pub lists-parting : (s : BrickState) (o : OpenOrder) (leaf : Leaf) (t : Task) (n : ℕ) → (n ≡ s.number → ⊥)
    → has (order.made_leaf s o leaf t).list n ≡ true → has (order.parting s o leaf) n ≡ true
lists-parting s o leaf (Join via) n ne h =
    or-first (has (order.parting s o leaf) n) (has (s.number ∷ []) n) (sym (has-append (order.parting s o leaf) (s.number ∷ []) n) ∙ h)
    (ne-one s.number n (λ e. ne (sym e)))
lists-parting s o leaf Split n ne h = h

pub who-made : (x : Seat) (o : OpenOrder) (made : Leaf) (nodes : List NodeNo) → MayBegin x o made nodes → (n : ℕ) → (n ≡ x.own.number → ⊥)
    → has made.list n ≡ true → has o.granted n ≡ true
who-made x o made nodes may n ne h =
    let s = may.may.state in
    let leaf = may.may.leaf in
    let in_it : has (order.made_leaf s o leaf o.task).list n ≡ true = ap (λ (l : Leaf). has l.list n) (sym may.may.is) ∙ h in
    let parts = lists-parting s o leaf o.task n (λ e. ne (e ∙ may.may.number)) in_it in
    begun-granted x o made nodes may n
    (ap (λ ns. has ns n) may.nodes_are ∙ has-kept (λ k. not (k == x.own.number)) (order.parting s o leaf) n (ap not (ne_eqb n x.own.number ne)) parts)

-- its keys are the order's
pub made-covers : (n : Name) (t : Task) (key : ℕ) → n.bits < 2 ^ n.depth → covers (made_name n t) key ≡ true → covers n key ≡ true
made-covers n (Join via) key few h = h
made-covers n Split key few h = halves-cover n key few ∙ ap (λ c. c || covers (high_half n) key) h

-- members that granted cover the order's keys, and the brick answers for what it made
pub record Covered (m : Net) (me : ℕ) (o : OpenOrder) (made : Leaf) : Type 0 where
  pub name : made.name ≡ made_name o.name o.task
  pub few : o.name.bits < 2 ^ o.name.depth
  pub members :
      (b : ℕ) (t : BrickState) → m.node b ≡ a_brick t → t.stopped ≡ false → (b ≡ me → ⊥) → has o.granted b ≡ true → (key : ℕ)
      → covers o.name key ≡ true → is_some (leaf_for t.leaves key) ≡ true
  pub maker : (t : BrickState) → m.node me ≡ a_brick t → Answers t made

pub made-members : (m : Net) (me : ℕ) (x : Seat) (o : OpenOrder) (made : Leaf) (nodes : List NodeNo) → x.own.number ≡ me → MayBegin x o made nodes
    → Covered m me o made → MembersAnswer m made
made-members m me x o made nodes number may c new b t here live lists = elim (cases_eq b me) [
  | inl e ↦ c.maker t (ap m.node (sym e) ∙ here)
  | inr ne ↦
      let gave = who-made x o made nodes may b (λ e. ne (e ∙ number)) lists in
      serves (λ key over.
      c.members b t here live ne gave key (made-covers o.name o.task key c.few (subst (λ n. covers n key ≡ true) c.name over)))
]
