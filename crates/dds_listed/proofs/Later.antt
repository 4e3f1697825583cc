use Rattle.std.proofs.Common.{◌≡◌, ℕ, true, List, Some, refl, sym, ap, ◌∙◌, subst}
use Rattle.std.specs.FinMap.{get}
use Rattle.std.specs.Prelude.{is_some}
use Rattle.dds_base.specs.declared.leaf.Leaf.{Leaf}
use Rattle.dds_base.specs.declared.op.Order.{Order}
use Rattle.dds_brick_rows.specs.Refusal.{is_join}
use Rattle.dds_cluster.specs.declared.trace.Caller.{Caller}
use Rattle.dds_core.specs.Brick.{brick_input, live_brick_turn}
use Rattle.dds_law_leaf.proofs.Book.{InMap}
use Rattle.dds_law_notice.proofs.Views.{View, brick-does}
use Rattle.dds_law_own.proofs.Changes.{own}
use Rattle.dds_law_own.proofs.Keeps.{NodeOk}
use Rattle.dds_law_own.proofs.Parted.{IsBoth}
use Rattle.dds_letters.specs.declared.letter.Letter.{Letter}
use Rattle.dds_net.specs.Event.{Fits, brick_takes, brick_told, moved}
use Rattle.dds_net.specs.Net.{Net, Sizes, a_brick}
use Rattle.dds_orders.proofs.Over.{has-itself}
use Rattle.dds_pairs.proofs.Grows.{Grows, cover-of, leads-grows}
use Rattle.dds_share.proofs.Turned.{put-same}
use Rattle.dds_pairs.proofs.NameKeeps.{AreNamed, NodeNamed, keyed-at}
use Rattle.dds_pairs.proofs.NameTurns.{Keyed}
use Rattle.dds_pairs.proofs.Names.{Fit, IsFit}
use Rattle.dds_pending.proofs.Leads.{letter-leads, order-leads}
use Rattle.dds_share.proofs.Opens.{order-still}
use Rattle.dds_states.specs.Turn.{BrickTurn}
use Rattle.dds_states.specs.declared.brick_state.BrickState.{BrickState}
use Rattle.dds_states.specs.declared.brick_state.OpenOrder.{OpenOrder}
use Rattle.dds_states.specs.declared.brick_state.OrderPhase.TheVariants.{Installing}
use Rattle.dds_trie.specs.Trie.{LeafMap, put}
use Rattle.dds_listed.proofs.Installing.{InstallsOn, goes_on, is_served, letter-installs}
use Rattle.dds_listed.proofs.Keeps.{WasSo}
use Rattle.dds_listed.specs.Answers.{Answers, installs, serves}

-- After its turn a live brick answers for all that it answered for: its leaves cover what they covered, and what its join made is served.

module _ (s : BrickState) (t : BrickTurn) (grows : Grows s.leaves t.state.leaves) (keyed : Keyed t.state.leaves) (fit : InMap IsFit t.state.leaves) where
  -- what is served covers the keys under its name
  pub served-covers : (leaf : Leaf) → t.state.leaves ≡ put s.leaves leaf → Answers t.state leaf
  served-covers leaf is =
      serves (λ key over. cover-of t.state.leaves key keyed fit (record {
        name = leaf.name;
        there = subst (λ (x : LeafMap). is_some (get x leaf.name) ≡ true) (sym is) (has-itself s.leaves leaf);
        over = over;
      }))

  installs-later : (o : OpenOrder) (leaf : Leaf) → is_join o.task ≡ true → is_some o.leaf ≡ true → InstallsOn s.leaves o leaf t → Answers t.state leaf
  installs-later o leaf join fixed (goes_on p there task same phase) = installs p there (ap is_join task ∙ join) (ap is_some same ∙ fixed) phase
  installs-later o leaf join fixed (is_served is) = served-covers leaf is

  answers-later : (leaf : Leaf) → ((o : OpenOrder) → s.order ≡ Some o → is_join o.task ≡ true → o.phase ≡ Installing leaf → InstallsOn s.leaves o leaf t)
      → Answers s leaf → Answers t.state leaf
  answers-later leaf f (serves over) = serves (λ key under. grows key (over key under))
  answers-later leaf f (installs o there join fixed phase) = installs-later o leaf join fixed (f o there join phase)

pub takes-was : (z : Sizes) (cs : List Caller) (n : Net) (at from : ℕ) (l : Letter) (s : BrickState) → Fits z cs n (brick_takes at from l s)
    → AreNamed z n → AreNamed z (moved z n (brick_takes at from l s)) → WasSo n at (a_brick (live_brick_turn s from l).state)
takes-was z cs n at from l s f g later live =
    let t = live_brick_turn s from l in
    let both : IsBoth at (own s) = subst (NodeOk at) f.here (g.copied.own at) in
    let now : IsBoth at (own t.state) = subst (NodeOk at) (put-same n.node at at (a_brick t.state) refl) (later.copied.own at) in
    let fit : Fit t.state = subst (NodeNamed at) (put-same n.node at at (a_brick t.state) refl) (later.nodes at) in
    let keyed = keyed-at at t.state now in
    let grows = leads-grows at s t.state.leaves both keyed fit.is.0 (letter-leads at s from l both.0.order) in
    record {
      state = s;
      here = f.here;
      live = f.live;
      keeps = λ leaf h. answers-later s t grows keyed fit.is.0 leaf (λ o there join phase. letter-installs s o leaf there join phase from l) h;
    }

pub told-was : (z : Sizes) (cs : List Caller) (n : Net) (at : ℕ) (c : Order) (s : BrickState) → Fits z cs n (brick_told at c s)
    → AreNamed z n → AreNamed z (moved z n (brick_told at c s)) → WasSo n at (a_brick (brick_input s c).state)
told-was z cs n at c s f g later live =
    let t = brick_input s c in
    let both : IsBoth at (own s) = subst (NodeOk at) f.here (g.copied.own at) in
    let now : IsBoth at (own t.state) = subst (NodeOk at) (put-same n.node at at (a_brick t.state) refl) (later.copied.own at) in
    let fit : Fit t.state = subst (NodeNamed at) (put-same n.node at at (a_brick t.state) refl) (later.nodes at) in
    let keyed = keyed-at at t.state now in
    let grows = leads-grows at s t.state.leaves both keyed fit.is.0 (order-leads s c) in
    record {
      state = s;
      here = f.here;
      live = sym (ap (λ (v : View). v.stopped) (brick-does s c).after) ∙ live;
      keeps = λ leaf h. answers-later s t grows keyed fit.is.0 leaf
          (λ o there join phase. goes_on o (ap (λ (x : BrickState). x.order) (order-still s o c there) ∙ there) refl refl phase) h;
    }
