use Rattle.std.proofs.Common.{◌≡◌, ℕ, ◌≤◌, true, List, [], refl, sym, ap, ◌∙◌, subst}
use Rattle.std.specs.FinMap.{get, get-empty}
use Rattle.std.specs.Ordering.{nat_cmp}
use Rattle.std.specs.Prelude.{is_some, if◌then◌else◌}
use Rattle.dds_cluster.proofs.Sizes.{sized-start}
use Rattle.dds_cluster.specs.Trace.{is_run, start}
use Rattle.dds_cluster.specs.World.{emptied}
use Rattle.dds_cluster.specs.declared.step.Step.{Step}
use Rattle.dds_cluster.specs.declared.trace.Caller.{Caller}
use Rattle.dds_core.specs.Brick.{brick_input, live_brick_turn}
use Rattle.dds_law_own.proofs.Changes.{own}
use Rattle.dds_law_own.proofs.Keeps.{NodeOk}
use Rattle.dds_law_own.proofs.Parted.{IsBoth}
use Rattle.dds_net.proofs.Carried.{Becomes, nodes-moved}
use Rattle.dds_net.proofs.Nodes.{brick-node}
use Rattle.dds_net.proofs.Opening.{IsNew, new_a_brick, new_a_library, no_node, start-node}
use Rattle.std.proofs.lemmas.Bool.{both_ways, eq-eqb}
use Rattle.dds_net.proofs.Runs.{IsKept, run-keeps}
use Rattle.dds_net.specs.Event.{Event, nothing, unheard, unasked, brick_takes, brick_told, brick_stops, library_takes, library_asked, library_stops}
use Rattle.dds_net.specs.Event.{Fits, moved}
use Rattle.dds_net.specs.Net.{Net, Node, nowhere, a_brick, a_library, Sizes, net, put, sizes_of}
use Rattle.dds_orders.proofs.Stood.{AreStood, NodeStands, run-stood, stood-kept}
use Rattle.dds_pending.proofs.Leads.{letter-leads, order-leads}
use Rattle.dds_script.specs.Opening.{IsOpening, OpeningOf}
use Rattle.dds_world.specs.Places.{reached}
use Rattle.dds_pairs.proofs.Binds.{told}
use Rattle.dds_pairs.proofs.Grows.{leads-grows}
use Rattle.dds_pairs.proofs.Keeps.{NodeCopied}
use Rattle.dds_pairs.proofs.Lies.{Lies, turn-keys}
use Rattle.dds_pairs.proofs.NameKeeps.{AreNamed, NodeNamed, keyed-at, named-kept, run-named}
use Rattle.dds_pairs.proofs.Names.{Fit}
use Rattle.dds_pairs.specs.Lie.{PairsLieUnderLeaves}

-- Each event leaves pairs under leaves, over what is so of leaves, of leases and of what orders copied.

abbrev pub NodeLies : ℕ → Node → Type 0
NodeLies k nowhere = Unit {0}
NodeLies k (a_brick s) = Lies s
NodeLies k (a_library s) = Unit {0}

pub record AreLying (z : Sizes) (n : Net) : Type 0 where
  pub named : AreNamed z n
  pub stood : AreStood z n
  pub lies : (k : ℕ) → NodeLies k (n.node k)

-- a brick after an event
after-put : (P : ℕ → Node → Type 0) (at : ℕ) (y : Node) (nodes : ℕ → Node) → P at (put at y nodes at) → P at y
after-put P at y nodes h = subst (P at) (ap (λ c. if c then y else nodes at) (eq-eqb at at refl)) h

no-pairs : (key : ℕ) → is_some (get (emptied 0).pairs key) ≡ true → ⊥
no-pairs key b = both_ways (is_some (get (emptied 0).pairs key)) (ap is_some (get-empty nat_cmp key)) b

becomes : (z : Sizes) (cs : List Caller) (n : Net) (e : Event) → Fits z cs n e → AreLying z n → AreNamed z (moved z n e) → Becomes NodeLies e
becomes z cs n nothing f g later = tt
becomes z cs n (unheard at from l) f g later = tt
becomes z cs n (unasked at caller call o) f g later = tt
becomes z cs n (brick_takes at from l s) f g later =
    let t = live_brick_turn s from l in
    let both : IsBoth at (own s) = subst (NodeOk at) f.here (g.named.copied.own at) in
    let now : IsBoth at (own t.state) = after-put NodeOk at (a_brick t.state) n.node (later.copied.own at) in
    let fit : Fit t.state = after-put NodeNamed at (a_brick t.state) n.node (later.nodes at) in
    let keyed = keyed-at at t.state now in
    turn-keys at s from l (record {
      orderly = both.0.order;
      copied = subst (NodeCopied at) f.here (g.named.copied.nodes at);
      covering = (subst (NodeStands at) f.here (g.stood.stands at)).1;
      lies = subst (NodeLies at) f.here (g.lies at);
      grows = leads-grows at s t.state.leaves both keyed fit.is.0 (letter-leads at s from l both.0.order);
      keyed = keyed;
      fit = fit.is.0;
    })
becomes z cs n (brick_told at o s) f g later =
    let t = brick_input s o in
    let both : IsBoth at (own s) = subst (NodeOk at) f.here (g.named.copied.own at) in
    let now : IsBoth at (own t.state) = after-put NodeOk at (a_brick t.state) n.node (later.copied.own at) in
    let fit : Fit t.state = after-put NodeNamed at (a_brick t.state) n.node (later.nodes at) in
    let lies : Lies s = subst (NodeLies at) f.here (g.lies at) in
    let grows = leads-grows at s t.state.leaves both (keyed-at at t.state now) fit.is.0 (order-leads s o) in
    λ key b. grows key (lies key (sym (ap (λ m. is_some (get m key)) (told s o)) ∙ b))
becomes z cs n (brick_stops at s kept) f g later = λ key b. absurd (no-pairs key b)
becomes z cs n (library_takes at from l s) f g later = tt
becomes z cs n (library_asked at caller call o s) f g later = tt
becomes z cs n (library_stops at s kept) f g later = tt

pub lying-kept : (z : Sizes) → z.bricks ≤ 64 → z.libraries ≤ 16 → IsKept z (Unit {0}) (λ h n e u. tt) (λ h n u. AreLying z n)
lying-kept z few some h n e u built f g =
    let later = named-kept z few some h n e u built f g.named in
    record {
      named = later;
      stood = stood-kept z few some h n e u built f g.stood;
      lies = nodes-moved NodeLies z n e g.lies (becomes z h.callers n e f g later);
    }

-- the opening
start-lies : (o : OpeningOf) (k : ℕ) (x : Node) → IsNew o k x → NodeLies k x
start-lies o k x (no_node e) = subst (NodeLies k) (sym e) tt
start-lies o k x (new_a_brick e) = subst (NodeLies k) (sym e) (λ key b. absurd (no-pairs key b))
start-lies o k x (new_a_library high e) = subst (NodeLies k) (sym e) tt

pub run-lying : (o : OpeningOf) (journal : List Step) → IsOpening o → is_run o journal ≡ true → AreLying (sizes_of o) (net (sizes_of o) (reached o journal))
run-lying o journal h run =
    let z = sizes_of o in
    (run-keeps z (Unit {0}) (λ h n e u. tt) (λ h n u. AreLying z n) journal (start o) h.ranges.bricks (lying-kept z h.ranges.bricks h.ranges.libraries)
    (record {
      sized = sized-start o;
      books = tt;
      is = record { named = run-named o [] h refl; stood = run-stood o [] h refl; lies = λ k. start-lies o k _ (start-node o k) };
    }) run).is

pub pairs-lie : PairsLieUnderLeaves
pairs-lie o journal brick s key h run there b =
    let its : Lies s = subst (NodeLies brick) (brick-node (reached o journal) brick s there) ((run-lying o journal h run).lies brick) in its key b
