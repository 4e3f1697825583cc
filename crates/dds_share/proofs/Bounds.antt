use Rattle.std.proofs.Common.{◌≡◌, ℕ, inl, inr, Bool, true, false, Option, Some, None, List, [], refl, sym, ap, ◌∙◌, subst}
use Rattle.std.proofs.lemmas.Bool.{both_ways, cases_Bool, cases_eq, eq-eqb, ne_eqb}
use Rattle.std.specs.Prelude.{is_some}
use Rattle.dds_base.specs.BrickList.{has}
use Rattle.dds_base.specs.NodeSet.{has_node}
use Rattle.dds_base.specs.declared.op.Order.{Order}
use Rattle.dds_brick_rows.specs.Refusal.{is_join}
use Rattle.dds_cluster.specs.World.{emptied}
use Rattle.dds_cluster.specs.declared.trace.Caller.{Caller}
use Rattle.dds_core.specs.Brick.{brick_input, live_brick_turn}
use Rattle.dds_law_notice.proofs.Link.{Link, lives as link_lives, over as link_over, told as link_told}
use Rattle.dds_law_notice.proofs.Views.{View, brick-does, brick-takes, knows, same-stopped, view}
use Rattle.dds_letters.specs.declared.letter.Letter.{Letter}
use Rattle.dds_net.specs.Event.{Event, nothing, unheard, unasked, brick_takes, brick_told, brick_stops, library_takes, library_asked, library_stops}
use Rattle.dds_net.specs.Event.{Fits, moved}
use Rattle.dds_net.specs.Net.{Net, Node, a_brick, a_library, Sizes, put}
use Rattle.dds_order_rows.specs.OwnOrder as order
use Rattle.dds_orders.proofs.Asked.{or-left}
use Rattle.dds_orders.proofs.Counting.{not-none}
use Rattle.dds_orders.proofs.Numbers.{the-order}
use Rattle.dds_states.specs.declared.brick_state.BrickState.{BrickState}
use Rattle.dds_states.specs.declared.brick_state.OpenOrder.{OpenOrder}
use Rattle.dds_states.specs.declared.brick_state.OrderPhase.{OrderPhase}
use Rattle.dds_states.specs.declared.brick_state.OrderPhase.TheVariants.{Copying, Installing, Leasing}
use Rattle.dds_states.specs.declared.library_state.LibraryState.{LibraryState}
use Rattle.dds_share.proofs.Facts.{AreAll}
use Rattle.dds_share.proofs.Heard.{part-copies}
use Rattle.dds_share.proofs.JoinTurns.{Rests, letter-goes, letter-rests, of_order, rests}
use Rattle.dds_share.proofs.Opens.{order-opens, order-still}
use Rattle.dds_share.proofs.Joins.{IsPart, JoinGoes, Same, at_once, begins, copies, ended, goes_on, installed, is_part, leases, same-order}
use Rattle.dds_share.proofs.Parts.{part-before, part-brick}
use Rattle.dds_share.proofs.Sources.{Copies, not-leasing}
use Rattle.dds_share.proofs.Tasks.{letter-stays}
use Rattle.dds_share.proofs.Together.{Bound, IsBound, comes, copied, has_part, installs, lives}
use Rattle.dds_share.proofs.Together.{is_part as has_this}
use Rattle.dds_share.proofs.Turned.{put-other, put-same, same-brick}

-- A join that is bound after an event was bound before it, or copies from a live member.

-- a brick before an event
pub data NodeWas (n : Net) (k : ℕ) (t : BrickState) : Type 0 where
  as_before : n.node k ≡ a_brick t → NodeWas n k t
  turned : (s : BrickState) → n.node k ≡ a_brick s → s.stopped ≡ t.stopped → NodeWas n k t
  stopped : (s : BrickState) → n.node k ≡ a_brick s → t.stopped ≡ true → NodeWas n k t

put-was : (n : Net) (at k : ℕ) (y : Node) (t : BrickState) → (k ≡ at → y ≡ a_brick t → NodeWas n k t) → put at y n.node k ≡ a_brick t → NodeWas n k t
put-was n at k y t f h = elim (cases_eq k at) [
  | inl e ↦ f e (sym (put-same n.node at k y e) ∙ h)
  | inr ne ↦ as_before (sym (put-other n.node at k y ne) ∙ h)
]

pub no-brick : (q : LibraryState) (t : BrickState) → a_library q ≡ a_brick t → ⊥
no-brick q t e = cc

pub takes-live : (s : BrickState) (from : ℕ) (l : Letter) → s.stopped ≡ false → (live_brick_turn s from l).state.stopped ≡ false
takes-live s from l live = ap (λ (v : View). v.stopped) (brick-takes s from l live).after ∙ same-stopped from l (view (a_brick s)) ∙ live

pub node-was : (z : Sizes) (cs : List Caller) (n : Net) (e : Event) (k : ℕ) (t : BrickState) → Fits z cs n e → (moved z n e).node k ≡ a_brick t → NodeWas n k t
node-was z cs n nothing k t f h = as_before h
node-was z cs n (unasked at caller call o) k t f h = as_before h
node-was z cs n (unheard at from l) k t f h = put-was n at k (n.node at) t (λ e g. as_before (ap n.node e ∙ g)) h
node-was z cs n (brick_takes at from l s) k t f h =
    put-was n at k (a_brick (live_brick_turn s from l).state) t
    (λ e g. turned s (ap n.node e ∙ f.here)
    (f.live ∙ sym (takes-live s from l f.live) ∙ ap (λ (x : BrickState). x.stopped) (same-brick (live_brick_turn s from l).state t g))) h
node-was z cs n (brick_told at o s) k t f h =
    put-was n at k (a_brick (brick_input s o).state) t
    (λ e g. turned s (ap n.node e ∙ f.here)
    (sym (ap (λ (v : View). v.stopped) (brick-does s o).after) ∙ ap (λ (x : BrickState). x.stopped) (same-brick (brick_input s o).state t g))) h
node-was z cs n (brick_stops at s kept) k t f h =
    put-was n at k (a_brick (emptied s.number)) t
    (λ e g. stopped s (ap n.node e ∙ f.here) (sym (ap (λ (x : BrickState). x.stopped) (same-brick (emptied s.number) t g)))) h
node-was z cs n (library_takes at from l s) k t f h = put-was n at k _ t (λ e g. absurd (no-brick _ t g)) h
node-was z cs n (library_asked at caller call o s) k t f h = put-was n at k _ t (λ e g. absurd (no-brick _ t g)) h
node-was z cs n (library_stops at s kept) k t f h = put-was n at k _ t (λ e g. absurd (no-brick _ t g)) h

-- who is known has nothing on its way
pub known-empty : {deaf stopped known : Bool} (c : List Letter) → Link deaf c stopped known → known ≡ true → c ≡ []
known-empty c (link_lives h) e = cc
known-empty c (link_told front is h) e = cc
known-empty c (link_over known is h) e = is

pub no-part : (number : ℕ) (c : List Letter) → c ≡ [] → has_part number c ≡ true → ⊥
no-part number c e h = let no : false ≡ true = sym (ap (has_part number) e) ∙ h in cc

module _ (z : Sizes) (cs : List Caller) (n : Net) (e : Event) (f : Fits z cs n e) where
  -- of an order that stays
  bound-lives : (j source : ℕ) (o : OpenOrder) (t : BrickState) → NodeWas n source t → t.stopped ≡ false → IsBound n j o (Copying source)
  bound-lives j source o t (as_before h) live = lives source t h live
  bound-lives j source o t (turned s h same_stopped) live = lives source s h (same_stopped ∙ live)
  bound-lives j source o t (stopped s h dead) live = absurd (both_ways t.stopped live dead)

  brick-was : (source : ℕ) (t : BrickState) → NodeWas n source t → (s : BrickState) × (n.node source ≡ a_brick s)
  brick-was source t (as_before h) = (t, h)
  brick-was source t (turned s h k) = (s, h)
  brick-was source t (stopped s h k) = (s, h)

  bound-was : (j : ℕ) (o : OpenOrder) (p : OrderPhase) → IsBound (moved z n e) j o p → IsBound n j o p
  bound-was j o _ (installs made) = installs made
  bound-was j o _ (copied source ne) = copied source ne
  bound-was j o _ (lives source t here live) = bound-lives j source o t (node-was z cs n e source t f here) live
  bound-was j o _ (comes source t here part) = elim (cases_Bool t.stopped) [
    | inl dead ↦
        let s = brick-was source t (node-was z cs n e source t f here) in
        comes source s.0 s.1 (part-before z cs n e o.number source j t f here dead part)
    | inr live ↦ bound-lives j source o t (node-was z cs n e source t f here) live
  ]

  pub still-bound : (j : ℕ) (s : BrickState) (o : OpenOrder) → n.node j ≡ a_brick s → Bound (moved z n e) j s o → Bound n j s o
  still-bound j s o here h = record { here = here; live = h.live; there = h.there; join = h.join; bound = bound-was j o o.phase h.bound }

-- a join that was bound, of the same name, whom no more have granted
pub record Was (n : Net) (j : ℕ) (o : OpenOrder) : Type 0 where
  pub state : BrickState
  pub before : OpenOrder
  pub bound : Bound n j state before
  pub name : before.name ≡ o.name
  pub granted : (b : ℕ) → has before.granted b ≡ true → has o.granted b ≡ true

-- or it copies from a live member
pub data IsFrom (n m : Net) (j : ℕ) (u : BrickState) (o : OpenOrder) : Type 0 where
  was : Was n j o → IsFrom n m j u o
  from_live : (source : ℕ) (t : BrickState) → Copies m j u o source t → IsFrom n m j u o

as-order : (n : Net) (j : ℕ) (o p : OpenOrder) (q : OrderPhase) → o.number ≡ p.number → o.copied ≡ p.copied → IsBound n j o q → IsBound n j p q
as-order n j o p _ number same (installs made) = installs made
as-order n j o p _ number same (lives source t here live) = lives source t here live
as-order n j o p _ number same (copied source ne) = copied source (λ k. ne (same ∙ k))
as-order n j o p _ number same (comes source t here part) = comes source t here (subst (λ i. has_part i (n.channel source j) ≡ true) number part)

pub leasing-is : (p : OrderPhase) → order.is_leasing p ≡ true → p ≡ Leasing
leasing-is Leasing h = refl
leasing-is (Copying source) h = cc
leasing-is (Installing made) h = cc

part-first : (p : OpenOrder) (l : Letter) → IsPart p l → has_this p.number l ≡ true
part-first p _ (is_part last pairs) = eq-eqb p.number p.number refl

-- a live brick takes a letter
module _ (z : Sizes) (cs : List Caller) (n : Net) (at from : ℕ) (l : Letter) (s : BrickState) (f : Fits z cs n (brick_takes at from l s)) (g : AreAll z n) where
  -- that copies from the sender of a part
  pub bound-part : (p : OpenOrder) → s.order ≡ Some p → is_join p.task ≡ true → p.phase ≡ Copying from → IsPart p l → Bound n at s p
  bound-part p there join phase part =
      let carried : has_part p.number (n.channel from at) ≡ true =
      ap (has_part p.number) f.letter.first
      ∙ or-left (has_this p.number l) (has_part p.number f.letter.others) (part-first p l part) in
      let w = part-brick n p.number from at g.low.parts carried in
      record {
        here = f.here;
        live = f.live;
        there = there;
        join = join;
        bound = subst (IsBound n at p) (sym phase) (comes from w.0 w.1 carried);
      }

  module _ (o : OpenOrder) (h : Bound (moved z n (brick_takes at from l s)) at (live_brick_turn s from l).state o) where
    was-this : (p : OpenOrder) → s.order ≡ Some p → is_join p.task ≡ true → IsBound n at p p.phase → Same p o
        → IsFrom n (moved z n (brick_takes at from l s)) at (live_brick_turn s from l).state o
    was-this p there join bound same =
        was (record {
          state = s;
          before = p;
          bound = record { here = f.here; live = f.live; there = there; join = join; bound = bound };
          name = sym same.name;
          granted = same.granted;
        })

    -- a part that is on its way from the member that it begins to copy from
    part-was : (p : OpenOrder) (source : ℕ) (t : BrickState) → s.order ≡ Some p → is_join p.task ≡ true → Same p o
        → (moved z n (brick_takes at from l s)).node source ≡ a_brick t → t.stopped ≡ true
        → has_part o.number ((moved z n (brick_takes at from l s)).channel source at) ≡ true
        → IsFrom n (moved z n (brick_takes at from l s)) at (live_brick_turn s from l).state o
    part-was p source t there join same here dead part =
        let e = brick_takes at from l s in
        let w = brick-was z cs n e f source t (node-was z cs n e source t f here) in
        let before = part-before z cs n e o.number source at t f here dead part in
        let carried : has_part p.number (n.channel source at) ≡ true = subst (λ i. has_part i (n.channel source at) ≡ true) same.number before in
        let ne = (λ (k : at ≡ source).
        let is : a_brick (live_brick_turn s from l).state ≡ a_brick t = sym (put-same n.node at at (a_brick (live_brick_turn s from l).state) refl)
        ∙ ap (moved z n e).node k ∙ here in
        both_ways (live_brick_turn s from l).state.stopped (takes-live s from l f.live) (ap (λ x. (view x).stopped) is ∙ dead)) in
        let phase = part-copies at source s w.0 p (n.channel at source) (n.channel source at) f.live (unknown source p.number carried) there
        (g.talk at source p.name s w.0 f.here w.1 (ne_eqb at source ne)) carried in
        was-this p there join (subst (IsBound n at p) (sym phase) (comes source w.0 w.1 carried)) same
      where
        unknown : (source number : ℕ) → has_part number (n.channel source at) ≡ true → has_node s.known source ≡ false
        unknown source number carried = elim (cases_Bool (has_node s.known source)) [
          | inl k ↦
              let knows_it : knows (view (n.node at)) source ≡ true = ap (λ x. knows (view x) source) f.here ∙ k in
              absurd (no-part number (n.channel source at) (known-empty _ (g.low.listed.asked.links source at f.letter.receiver) knows_it) carried)
          | inr k ↦ k
        ]

    from-source : (source : ℕ) (t : BrickState) → o.phase ≡ Copying source → is_some o.leaf ≡ true
        → (moved z n (brick_takes at from l s)).node source ≡ a_brick t → t.stopped ≡ false
        → IsFrom n (moved z n (brick_takes at from l s)) at (live_brick_turn s from l).state o
    from-source source t phase fixed here live =
        from_live source t (record {
          here = h.here;
          live = h.live;
          there = h.there;
          phase = phase;
          fixed = fixed;
          source_here = here;
          source_live = live;
        })

    begins-from : (p : OpenOrder) (source : ℕ) → s.order ≡ Some p → is_join p.task ≡ true → Same p o → o.copied ≡ [] → o.phase ≡ Copying source
        → is_some o.leaf ≡ true → IsBound (moved z n (brick_takes at from l s)) at o (Copying source)
        → IsFrom n (moved z n (brick_takes at from l s)) at (live_brick_turn s from l).state o
    begins-from p source there join same empty phase fixed (lives _ t here live) = from-source source t phase fixed here live
    begins-from p source there join same empty phase fixed (copied _ ne) = absurd (ne empty)
    begins-from p source there join same empty phase fixed (comes _ t here part) = elim (cases_Bool t.stopped) [
      | inl dead ↦ part-was p source t there join same here dead part
      | inr live ↦ from-source source t phase fixed here live
    ]

    goes-from : (p : OpenOrder) → s.order ≡ Some p → is_join p.task ≡ true → JoinGoes s.number s.known s.leaves p from l (live_brick_turn s from l)
        → IsFrom n (moved z n (brick_takes at from l s)) at (live_brick_turn s from l).state o
    goes-from p there join (leases q e same leasing leaves) =
        let is : q ≡ o = the-order q o (sym e ∙ h.there) in
        absurd (not-leasing (moved z n (brick_takes at from l s)) at o o.phase h.bound
        (leasing-is o.phase (subst (λ (x : OpenOrder). order.is_leasing x.phase ≡ true) is leasing)))
    goes-from p there join (goes_on q e same phase same_copied leaf leaves) =
        let is : q ≡ o = the-order q o (sym e ∙ h.there) in
        let old = bound-was z cs n (brick_takes at from l s) f at o o.phase h.bound in
        let same_o = subst (Same p) is same in
        let of_p = as-order n at o p o.phase same_o.number (subst (λ (x : OpenOrder). x.copied ≡ p.copied) is same_copied) old in
        was-this p there join (subst (IsBound n at p) (subst (λ (x : OpenOrder). x.phase ≡ p.phase) is phase) of_p) same_o
    goes-from p there join (begins q source e same empty phase fixed leaves) =
        let is : q ≡ o = the-order q o (sym e ∙ h.there) in
        let phase_o : o.phase ≡ Copying source = subst (λ (x : OpenOrder). x.phase ≡ Copying source) is phase in
        begins-from p source there join (subst (Same p) is same) (subst (λ (x : OpenOrder). x.copied ≡ []) is empty) phase_o
        (subst (λ (x : OpenOrder). is_some x.leaf ≡ true) is fixed)
        (subst (IsBound (moved z n (brick_takes at from l s)) at o) phase_o h.bound)
    goes-from p there join (copies q e same phase part leaf leaves) =
        let is : q ≡ o = the-order q o (sym e ∙ h.there) in
        was-this p there join (bound-part p there join phase part).bound (subst (Same p) is same)
    goes-from p there join (ended e leaves) = absurd (not-none o (sym e ∙ h.there))
    goes-from p there join (installed made phase none answer e leaves) = absurd (not-none o (sym e ∙ h.there))
    goes-from p there join (at_once leaf v q phase part fixed gave number known none e leaves) = absurd (not-none o (sym e ∙ h.there))

    pub takes-from : IsFrom n (moved z n (brick_takes at from l s)) at (live_brick_turn s from l).state o
    takes-from = by s.order refl
      where
        no-join : ((p : OpenOrder) → s.order ≡ Some p → is_join p.task ≡ false)
            → IsFrom n (moved z n (brick_takes at from l s)) at (live_brick_turn s from l).state o
        no-join k = absurd (both_ways (is_join o.task) ((letter-stays false s from l k).is o h.there) h.join)

        by-letter : (p : OpenOrder) → s.order ≡ Some p → is_join p.task ≡ true → Rests s l (live_brick_turn s from l)
            → IsFrom n (moved z n (brick_takes at from l s)) at (live_brick_turn s from l).state o
        by-letter p there join (rests e take) =
            let is : p ≡ o = the-order p o (sym there ∙ sym e ∙ h.there) in
            let old = bound-was z cs n (brick_takes at from l s) f at o o.phase h.bound in
            was-this p there join (subst (λ (x : OpenOrder). IsBound n at x x.phase) (sym is) old) (subst (Same p) is (same-order p))
        by-letter p there join (of_order k) = goes-from p there join (letter-goes s p there join from l k)

        by-task : (p : OpenOrder) (c : Bool) → s.order ≡ Some p → is_join p.task ≡ c
            → IsFrom n (moved z n (brick_takes at from l s)) at (live_brick_turn s from l).state o
        by-task p true there join = by-letter p there join (letter-rests s from l)
        by-task p false there join =
            no-join (λ q e. subst (λ (x : OpenOrder). is_join x.task ≡ false) (the-order p q (sym there ∙ e)) join)

        by : (q : Option OpenOrder) → s.order ≡ q → IsFrom n (moved z n (brick_takes at from l s)) at (live_brick_turn s from l).state o
        by None e = no-join (λ p k. absurd (not-none p (sym e ∙ k)))
        by (Some p) e = by-task p (is_join p.task) e refl

-- a brick is told an order
module _ (z : Sizes) (cs : List Caller) (n : Net) (at : ℕ) (c : Order) (s : BrickState) (f : Fits z cs n (brick_told at c s)) where
  pub told-from : (o : OpenOrder) → Bound (moved z n (brick_told at c s)) at (brick_input s c).state o
      → IsFrom n (moved z n (brick_told at c s)) at (brick_input s c).state o
  told-from o h = by s.order refl
    where
      by : (q : Option OpenOrder) → s.order ≡ q → IsFrom n (moved z n (brick_told at c s)) at (brick_input s c).state o
      by None e =
          absurd (not-leasing (moved z n (brick_told at c s)) at o o.phase h.bound (leasing-is o.phase ((order-opens s c e).is o h.there h.join)))
      by (Some p) e =
          let is : (brick_input s c).state ≡ s = order-still s p c e in
          let k = still-bound z cs n (brick_told at c s) f at s o f.here
          (subst (λ (x : BrickState). Bound (moved z n (brick_told at c s)) at x o) is h) in
          was (record { state = s; before = o; bound = k; name = refl; granted = λ b i. i })
