use Rattle.std.proofs.Common.{◌≡◌, ℕ, ◌≤◌, true, false, Option, Some, None, List, [], ◌∷◌, refl, sym, ap, subst}
use Rattle.dds_base.specs.Name.{Name}
use Rattle.dds_base.specs.NodeSet.{has_node}
use Rattle.dds_base.specs.declared.leaf.Leaf.{Leaf}
use Rattle.dds_base.specs.declared.number.NodeNo.{NodeNo}
use Rattle.dds_books.specs.Placed.{ArePlaced}
use Rattle.dds_cluster.specs.declared.trace.Caller.{Caller}
use Rattle.dds_core.specs.Brick.{brick_input, live_brick_turn}
use Rattle.dds_law_leaf.proofs.Book.{AreKnown}
use Rattle.dds_law_own.proofs.Keeps as law_own
use Rattle.dds_law_own.proofs.Keeps.{of-another}
use Rattle.dds_law_own.proofs.Parted.{IsBoth}
use Rattle.dds_letters.specs.declared.letter.Letter.{Letter}
use Rattle.dds_letters.specs.declared.letter.Letter.TheVariants as letter
use Rattle.dds_net.proofs.Carried.{Becomes, nodes-moved}
use Rattle.dds_net.proofs.Letters.{first-all}
use Rattle.dds_net.proofs.Puts.{Pairs}
use Rattle.dds_net.proofs.Runs.{IsBuilt}
use Rattle.dds_net.specs.Event.{Event, nothing, unheard, unasked, brick_takes, brick_told, brick_stops, library_takes, library_asked, library_stops}
use Rattle.dds_net.specs.Event.{Takes, moved}
use Rattle.dds_net.specs.Event as event
use Rattle.dds_net.specs.Net.{Net, a_brick, Sizes}
use Rattle.dds_order_talk.proofs.Fitting.{NodeFits, fits-kept, wanted-of}
use Rattle.dds_order_talk.proofs.Givers.{AreGiven, given-kept}
use Rattle.dds_order_talk.proofs.Letters.{AreWithin}
use Rattle.dds_order_talk.proofs.MemberHears.{sent}
use Rattle.dds_order_talk.proofs.TalkKeeps.{MayTake, talks-kept}
use Rattle.dds_order_talk.proofs.Talking as talking
use Rattle.dds_order_talk.proofs.Talking.{Talking, stood-at, with-of}
use Rattle.dds_order_talk.specs.Seen.{JoinersAreUnlisted, New, Own, is_its, is_named, says}
use Rattle.dds_order_talk.specs.Table.Say.{installed}
use Rattle.dds_order_rows.specs.OwnOrder.{is_leasing}
use Rattle.dds_orders.proofs.Asked.{AskedBy}
use Rattle.dds_orders.proofs.Asks.{AreAsked, NodeAsks}
use Rattle.dds_orders.proofs.Deeds.{seat}
use Rattle.dds_orders.proofs.Leases.{same-is}
use Rattle.dds_orders.proofs.Numbered as numbered
use Rattle.dds_orders.proofs.Standing.{heard-both, path-stood}
use Rattle.dds_orders.proofs.Stood.{AreStood}
use Rattle.dds_orders.proofs.Turns.{Turns, letter-turns, order-goes}
use Rattle.dds_orders.specs.Law.{asked_of}
use Rattle.dds_pairs.proofs.NameKeeps.{AreNamed, NodeNamed}
use Rattle.dds_pairs.proofs.Names.{Fit}
use Rattle.dds_states.specs.declared.brick_state.BrickState.{BrickState}
use Rattle.dds_states.specs.declared.brick_state.OpenOrder.{OpenOrder}
use Rattle.dds_order_runs.proofs.Grants.{granted-told}
use Rattle.dds_listed.proofs.Makes.{NodeMakes, OrderMakes, heard-makes, none-makes, path-makes}
use Rattle.dds_order_runs.proofs.Placed.{lists-once}
use Rattle.dds_order_runs.proofs.Told.{installs-it, order-of, phase-of}

-- Each event keeps that orders and their members talk by the table, over the laws below and where no leaf of a live brick lists another
-- one that joins its name.

-- the laws below, of one world
pub record AreBelow (z : Sizes) (n : Net) : Type 0 where
  pub stood : AreStood z n
  pub within : AreWithin n
  pub asked : AreAsked z n
  pub known : AreKnown n
  pub named : AreNamed z n
  pub placed : ArePlaced z n

-- what is kept
pub record AreTalking (z : Sizes) (n : Net) : Type 0 where
  pub given : AreGiven n
  pub fits : (k : ℕ) → NodeFits k (n.node k)
  pub makes : (k : ℕ) → NodeMakes k (n.node k)
  pub talks : Pairs Talking n

becomes : (z : Sizes) (cs : List Caller) (n : Net) (e : Event) → z.bricks ≤ 64 → z.libraries ≤ 16 → event.Fits z cs n e → AreStood z n
    → ((k : ℕ) → NodeMakes k (n.node k)) → Becomes NodeMakes e
becomes z cs n nothing few some f w h = tt
becomes z cs n (unheard at from l) few some f w h = tt
becomes z cs n (unasked at caller call o) few some f w h = tt
becomes z cs n (brick_takes at from l s) few some f w h =
    let both : IsBoth at (seat s).own = subst (law_own.NodeOk at) f.here (w.own at) in
    let it : OrderMakes s.order = subst (NodeMakes at) f.here (h at) in
    let t = letter-turns s from l (of-another z n at from l s few some w.links f both.0.number) in
    let first = path-makes at (seat s) t.first [] t.takes both it in
    let next = heard-makes from l t.first t.next t.answers t.hears first.1 in
    (path-makes at t.next (seat (live_brick_turn s from l).state) t.letters t.goes
    (heard-both at from t.first t.next l t.answers t.hears first.0) next).1
becomes z cs n (brick_told at o s) few some f w h =
    let both : IsBoth at (seat s).own = subst (law_own.NodeOk at) f.here (w.own at) in
    let it : OrderMakes s.order = subst (NodeMakes at) f.here (h at) in
    (path-makes at (seat s) (seat (brick_input s o).state) (brick_input s o).out.letters (order-goes s o).path both it).1
becomes z cs n (brick_stops at s kept) few some f w h = none-makes
becomes z cs n (library_takes at from l s) few some f w h = tt
becomes z cs n (library_asked at caller call o s) few some f w h = tt
becomes z cs n (library_stops at s kept) few some f w h = tt

-- a letter to install at a live member
installs-of : (z : Sizes) (n : Net) (at from : NodeNo) (l : Letter) (s sj : BrickState) (x : Name) (q : Option OpenOrder) (qleaf : Option Leaf)
    (u : Turns from (seat s) l (live_brick_turn s from l)) (number : ℕ) (made own : Leaf) → AreBelow z n → talking.Wanted z n → AreTalking z n
    → Takes z n at from l (a_brick s) → n.node from ≡ a_brick sj → sj.stopped ≡ false → has_node sj.known at ≡ false → sj.order ≡ q
    → ((o : OpenOrder) → q ≡ Some o → o.leaf ≡ qleaf) → l ≡ letter.Install number made → is_its q number ≡ true → is_named q x ≡ true
    → Own u.first.own.leaves x own → New u.next.own.leaves x made × (says q x (sent u.answers) ≡ installed ∷ [])
installs-of z n at from l s sj x None qleaf u number made own b w g f there alive unknown opened fixed e its named has_own =
    let no : false ≡ true = its in cc
installs-of z n at from l s sj x (Some o) None u number made own b w g f there alive unknown opened fixed e its named has_own =
    let phase = (phase-of z n at from l s sj o number made w f there alive opened e its).1 in
    absurd ((w.fits from sj there o opened).fixed (ap is_leasing phase) (fixed o refl))
installs-of z n at from l s sj x (Some o) (Some leaf) u number made own b w g f there alive unknown opened fixed e its named has_own =
    let ok = first-all (numbered.LetterOk n.node from at) z n at from l f.letter (w.stood.counted.letters from at) in
    let ne = (ok.asked number (ap asked_of e)).0 in
    let asked : AskedBy from sj.known sj.order = subst (NodeAsks from) there (b.asked.asks from) in
    let makes : OrderMakes sj.order = subst (NodeMakes from) there (g.makes from) in
    let fit : Fit s = subst (NodeNamed at) f.here (b.named.nodes at) in
    let k = order-of z n at from l s sj o number made leaf w asked makes f there alive unknown opened (fixed o refl) e its in
    let talk = with-of from at sj s (n.node from) (n.node at) (n.channel from at) (n.channel at from) there f.here ne (g.talks from at) o.name unknown in
    let is : o.name ≡ x = same-is o.name x named in
    subst (λ i. New u.next.own.leaves i made × (says (Some o) i (sent u.answers) ≡ installed ∷ [])) is
    (installs-it z n at from l s sj o number made leaf own u w fit f there alive ne k e its talk
    (subst (λ i. Own u.first.own.leaves i own) (sym is) has_own))

abbrev leaf_of : Option OpenOrder → Option Leaf
leaf_of None = None
leaf_of (Some o) = o.leaf

may-take : (z : Sizes) (cs : List Caller) (n : Net) (e : Event) → event.Fits z cs n e → AreBelow z n → talking.Wanted z n → AreTalking z n → MayTake n e
may-take z cs n nothing f b w g = tt
may-take z cs n (unheard at from l) f b w g = tt
may-take z cs n (unasked at caller call op) f b w g = tt
may-take z cs n (brick_takes at from l s) f b w g =
    λ sj x u there alive unknown. record {
      leaf = λ number told own e k found said.
          granted-told z n at from l s sj.order x u number told own b.known f (path-stood at (seat s) u.first [] u.takes (stood-at z n at s w f.here)) e k
          found said;
      install = λ number made own e its named has_own.
          installs-of z n at from l s sj x sj.order (leaf_of sj.order) u number made own b w g f there alive unknown refl (λ o k. sym (ap leaf_of k)) e its
          named has_own;
    }
may-take z cs n (brick_told at o s) f b w g = tt
may-take z cs n (brick_stops at s kept) f b w g = tt
may-take z cs n (library_takes at from l s) f b w g = tt
may-take z cs n (library_asked at caller call op s) f b w g = tt
may-take z cs n (library_stops at s kept) f b w g = tt

pub talking-kept : (z : Sizes) (cs : List Caller) (n : Net) (e : Event) → z.bricks ≤ 64 → z.libraries ≤ 16 → IsBuilt z n → event.Fits z cs n e
    → AreBelow z n → JoinersAreUnlisted n → AreTalking z n → AreTalking z (moved z n e)
talking-kept z cs n e few some built f b unlisted g =
    let once = lists-once z n b.placed in
    let w = wanted-of z n b.stood b.within g.given g.fits once unlisted in
    record {
      given = given-kept z cs n e few some f b.stood b.within g.given;
      fits = fits-kept z cs n e few some f b.stood b.within g.given once g.fits;
      makes = nodes-moved NodeMakes z n e g.makes (becomes z cs n e few some f b.stood g.makes);
      talks = talks-kept z cs n e few some built f w (may-take z cs n e f b w g) g.talks;
    }
