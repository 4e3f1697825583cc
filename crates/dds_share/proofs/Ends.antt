use Rattle.std.proofs.Common.{◌≡◌, ℕ, ◌+◌, ◌==◌, ◌&&◌, inl, inr, Bool, true, false, not, Some, List, [], ◌∷◌, refl, sym, ap, ◌∙◌, subst, arith}
use Rattle.std.proofs.lemmas.Bool.{both_ways, cases_Bool, cases_eq, ne_eqb}
use Rattle.std.specs.FinMap.{get}
use Rattle.std.specs.Prelude.{is_some}
use Rattle.dds_base.specs.BrickList.{has}
use Rattle.dds_base.specs.Name.{Name}
use Rattle.dds_base.specs.NodeSet.{has_node}
use Rattle.dds_base.specs.declared.leaf.Leaf.{Leaf}
use Rattle.dds_brick_rows.specs.Refusal.{is_join}
use Rattle.dds_cluster.specs.declared.trace.Caller.{Caller}
use Rattle.dds_groups.proofs.Members.{has-live}
use Rattle.dds_groups.specs.Leaves.{live}
use Rattle.dds_groups.specs.Names.{low_half}
use Rattle.dds_law_notice.proofs.Link.{Link, Silent, lives as link_lives, over as link_over, told as link_told}
use Rattle.dds_law_notice.proofs.Views.{view}
use Rattle.dds_law_own.proofs.Lists as own_lists
use Rattle.dds_law_own.proofs.Lists.{has-kept}
use Rattle.dds_law_own.proofs.Owned.{IsOrderly, made_name, orderly}
use Rattle.dds_letters.specs.declared.letter.Letter.{Letter}
use Rattle.dds_net.specs.Event.{Fits, brick_takes}
use Rattle.dds_net.specs.Net.{Net, Sizes, a_brick}
use Rattle.dds_order_rows.specs.OwnOrder as order
use Rattle.dds_order_talk.proofs.Holds.{HasOf, granted-holds}
use Rattle.dds_order_talk.specs.Seen.{BrickTalk, New, Own, rests}
use Rattle.dds_order_talk.specs.Seen.New.{joined, split}
use Rattle.dds_orders.proofs.Asked.{or-left}
use Rattle.dds_orders.proofs.Leased.{In}
use Rattle.dds_states.specs.Turn.{is_none_left, without}
use Rattle.dds_states.specs.declared.brick_state.BrickState.{BrickState}
use Rattle.dds_states.specs.declared.brick_state.OpenOrder.{OpenOrder}
use Rattle.dds_states.specs.declared.brick_state.OrderPhase.{OrderPhase}
use Rattle.dds_states.specs.declared.brick_state.OrderPhase.TheVariants.{Copying, Installing, Leasing}
use Rattle.dds_states.specs.declared.brick_state.Task.{Task}
use Rattle.dds_states.specs.declared.brick_state.Task.TheVariants.{Join, Split}
use Rattle.dds_world.specs.Groups as world
use Rattle.dds_share.proofs.Bounds.{bound-part}
use Rattle.dds_share.proofs.Facts.{AreAll, both-of, lists-itself, unknown-of}
use Rattle.dds_share.proofs.Heard.{heard-new, says-new}
use Rattle.dds_share.proofs.Joins.{IsAnswer, IsPart, installs, stops}
use Rattle.dds_share.proofs.Over.{one-over}
use Rattle.dds_share.proofs.Together.{AreTogether, Bound, IsBound}
use Rattle.dds_share.proofs.Together.IsBound.{installs as it_installs}
use Rattle.dds_share.proofs.Turned.{IsNew}

-- A join ends: each other live brick with a leaf over a spot of it has what was made.

-- what is new over a spot, of a join that was bound
pub record JoinEnds (n : Net) (at : ℕ) (s : BrickState) (spot : Name) (new : Leaf) : Type 0 where
  pub ended : OpenOrder
  pub bound : Bound n at s ended
  pub over : In ended.name spot
  pub is : IsNew n at spot new

none-left : (ns : List ℕ) (b : ℕ) → is_none_left ns ≡ true → has ns b ≡ true → ⊥
none-left [] b e h = let no : false ≡ true = h in cc
none-left (m ∷ ns) b e h = cc

live-silent : {deaf stopped known : Bool} (c : List Letter) → stopped ≡ false → Link deaf c stopped known → Silent c
live-silent c e (link_lives h) = h
live-silent c e (link_told front is h) = cc
live-silent c e (link_over known is h) = over-silent c is
  where
    over-silent : (c : List Letter) → c ≡ [] → Silent c
    over-silent [] e = tt
    over-silent (x ∷ xs) e = cc

join-name : (t : Task) (name : Name) → is_join t ≡ true → made_name name t ≡ name
join-name (Join via) name e = refl
join-name Split name e = cc

made-name : (v : BrickState) (o : OpenOrder) (leaf : Leaf) (t : Task) → is_join t ≡ true → (order.made_leaf v o leaf t).name ≡ leaf.name
made-name v o leaf (Join via) e = refl
made-name v o leaf Split e = cc

not-half : (x : Name) → x ≡ low_half x → ⊥
not-half x e = let d : x.depth ≡ x.depth + 1 = ap (λ (n : Name). n.depth) e in omega (arith, d)

phases : (o : OpenOrder) (p : OrderPhase) → o.phase ≡ p → order.is_leasing p ≡ false → o.phase ≡ Leasing → ⊥
phases o Leasing e f g = cc
phases o (Copying source) e f g = let no = sym e ∙ g in cc
phases o (Installing made) e f g = let no = sym e ∙ g in cc

module _ (z : Sizes) (cs : List Caller) (n : Net) (at from : ℕ) (l : Letter) (s : BrickState) (f : Fits z cs n (brick_takes at from l s)) (g : AreAll z n)
    (h : AreTogether n) (p : OpenOrder) (there : s.order ≡ Some p) (join : is_join p.task ≡ true) where
  its : IsOrderly at p
  its = orderly at s.order p there (both-of z n g at s f.here).0.order

  -- the conversation with another live brick
  talks : (b : ℕ) (t : BrickState) → (b ≡ at → ⊥) → n.node b ≡ a_brick t → BrickTalk rests at b p.name s t (n.channel at b) (n.channel b at)
  talks b t ne here = g.talk at b p.name s t f.here here (ne_eqb at b (λ e. ne (sym e)))

  -- members have installed what it made
  module _ (made : Leaf) (phase : p.phase ≡ Installing made) where
    bound : Bound n at s p
    bound = record { here = f.here; live = f.live; there = there; join = join; bound = subst (IsBound n at p) (sym phase) (it_installs made) }

    made-is : (made.name ≡ p.name) × (has made.list at ≡ true)
    made-is =
        let k = subst (λ i. own_lists.Each (λ (l : Leaf). (l.name ≡ made_name p.name p.task) × (has l.list at ≡ true)) (world.made_leaf i)) phase its.made in
        (k.0 ∙ join-name p.task p.name join, k.1)

    module _ (b : ℕ) (t : BrickState) (ne : b ≡ at → ⊥) (here : n.node b ≡ a_brick t) (lives : t.stopped ≡ false) (gave : has p.granted b ≡ true) where
      fixed : is_some p.leaf ≡ true
      fixed = h.fixed at s p f.here f.live there join (ap order.is_leasing phase)

      from-sender : (first : Letter) (others : List Letter) → IsAnswer p first → n.channel b at ≡ first ∷ others → New t.leaves p.name made
      from-sender _ others (installs name) e =
          says-new at b s t p made (n.channel at b) (n.channel b at) f.live lives (unknown-of z n g at b s t f.here here lives) there phase
          (talks b t ne here) p.number name others refl e
      from-sender _ others stops e =
          let silent = live-silent (n.channel b at)
          (ap (λ c. c && not (b == at)) (ap (λ x. (view x).stopped) here ∙ lives))
          (g.low.listed.asked.links b at f.letter.receiver) in
          absurd (both_ways true (subst Silent e silent).0 refl)

      has-new : is_none_left (without p.waiting from) ≡ true → IsAnswer p l → New t.leaves p.name made
      has-new none answer = elim (cases_eq b from) [
        | inl e ↦ from-sender l f.letter.others answer (ap (λ i. n.channel i at) e ∙ f.letter.first)
        | inr other ↦ heard-new at b s t p made (n.channel at b) (n.channel b at) f.live lives (unknown-of z n g at b s t f.here here lives) there phase
            (talks b t ne here) fixed gave (elim (cases_Bool (has p.waiting b)) [
              | inl w ↦ absurd (none-left (without p.waiting from) b none
                  (has-kept (λ k. not (k == from)) p.waiting b (ap not (ne_eqb b from other)) w))
              | inr w ↦ w
            ])
      ]

      leaf-of : New t.leaves p.name made → get t.leaves p.name ≡ Some made
      leaf-of (joined name is) = is
      leaf-of (split name low high) = absurd (not-half p.name (sym made-is.0 ∙ name))

    pub installed-ends : (spot : Name) (new : Leaf) → is_none_left (without p.waiting from) ≡ true → IsAnswer p l → In made.name spot → new ≡ made
        → JoinEnds n at s spot new
    installed-ends spot new none answer over same =
        let its_over : In p.name spot = subst (λ i. In i spot) made-is.0 over in
        record {
          ended = p;
          bound = bound;
          over = its_over;
          is = λ b t other ne serves.
              let gave = h.granted at b spot s t p other bound ne serves its_over in
              let leaf = leaf-of b t ne serves.here serves.live gave (has-new b t ne serves.here serves.live gave none answer) in
              let one = one-over t.leaves spot other made (both-of z n g b t serves.here).1.leaves serves.over
              (record { name = p.name; there = leaf; over = its_over }) in (
                ap (λ (x : Leaf). has x.list b) same ∙ lists-itself z n g b t p.name made serves.here leaf,
                ap (λ (x : Leaf). has x.list at) one ∙ made-is.1,
              );
        }

  -- or there is no other one
  pub at-once-ends : (leaf : Leaf) (v : BrickState) (o : OpenOrder) (spot : Name) (new : Leaf) → p.phase ≡ Copying from → IsPart p l → p.leaf ≡ Some leaf
      → o.granted ≡ p.granted → v.number ≡ s.number → v.known ≡ s.known → without (order.parting v o leaf) v.number ≡ []
      → In (order.made_leaf v o leaf p.task).name spot → JoinEnds n at s spot new
  at-once-ends leaf v o spot new phase part fixed gave number known none over =
      let bound = bound-part z cs n at from l s f g p there join phase part in
      let name : leaf.name ≡ p.name =
      (own_lists.each-is (λ (l : Leaf). (l.name ≡ p.name) × (has l.list at ≡ not (is_join p.task))) p.leaf leaf fixed its.leaf).0 in
      let its_over : In p.name spot = subst (λ i. In i spot) (made-name v o leaf p.task join ∙ name) over in
      record {
        ended = p;
        bound = bound;
        over = its_over;
        is = λ b t other ne serves.
            absurd (no-other b t ne serves.here serves.live (h.granted at b spot s t p other bound ne serves its_over));
      }
    where
      no-other : (b : ℕ) (t : BrickState) → (b ≡ at → ⊥) → n.node b ≡ a_brick t → t.stopped ≡ false → has p.granted b ≡ true → ⊥
      no-other b t ne here lives granted =
          let unknown = unknown-of z n g at b s t f.here here lives in
          let it = granted-holds at b s t p leaf (n.channel at b) (n.channel b at) f.live lives unknown there fixed granted
          (λ e. absurd (phases p (Copying from) phase refl e)) (talks b t ne here) in
          let own = subst (λ q. HasOf (Own t.leaves p.name) (New t.leaves p.name) q leaf) phase it.1 in
          let listed = lists-itself z n g b t p.name leaf here own.is in
          let lives_there : has (live leaf.list (has_node v.known)) b ≡ true =
          has-live leaf.list (has_node v.known) b ∙ ap (λ c. c && not (has_node v.known b)) listed ∙ ap not (ap (λ k. has_node k b) known ∙ unknown) in
          let takes_part = or-left (has o.granted b) (not (is_join o.task) && b == v.number) (ap (λ ns. has ns b) gave ∙ granted) in
          let parts = has-kept (order.takes_part v o) (live leaf.list (has_node v.known)) b takes_part lives_there in
          let other = ne_eqb b v.number (λ e. ne (e ∙ number ∙ (both-of z n g at s f.here).0.number)) in
          let left = has-kept (λ k. not (k == v.number)) (order.parting v o leaf) b (ap not other) parts in
          let no : false ≡ true = sym (ap (λ ns. has ns b) none) ∙ left in
          cc
