use Rattle.std.proofs.Common.{◌≡◌, ℕ, ◌||◌, zero, suc, true, Some, List, [], ◌∷◌, sym, ap, ◌∙◌, subst}
use Rattle.std.proofs.lemmas.Bool.{ne_eqb, or_right}
use Rattle.std.specs.Prelude.{slice_get}
use Rattle.dds_books.specs.Placed.{IsBrick}
use Rattle.dds_cluster.specs.Trace.{is_run}
use Rattle.dds_cluster.specs.declared.step.Step.{Step}
use Rattle.dds_core.proofs.Lists.{all-is}
use Rattle.dds_law_own.proofs.Changes.{own}
use Rattle.dds_law_own.proofs.Keeps as law_own
use Rattle.dds_law_own.proofs.Owned.{Unknown}
use Rattle.dds_law_own.proofs.Parted.{IsBoth}
use Rattle.dds_locks.specs.Leases.{is_given, is_lease}
use Rattle.dds_locks.specs.declared.leases.Lease.{Lease}
use Rattle.dds_net.proofs.Journals.{net_of}
use Rattle.dds_net.proofs.Nodes.{brick-node}
use Rattle.dds_net.proofs.Quiet.{quiet-net}
use Rattle.dds_net.specs.Net.{sizes_of}
use Rattle.dds_order_runs.proofs.Along.{below, run-kept}
use Rattle.dds_order_talk.proofs.Runs.{run-within}
use Rattle.dds_order_talk.proofs.TalkBegins.{orders-talk-of}
use Rattle.dds_orders.proofs.Leases.{lease-self}
use Rattle.dds_script.specs.Opening.{IsOpening, OpeningOf}
use Rattle.dds_world.specs.Places.{reached}
use Rattle.dds_order_ends.proofs.Events.{run-ending}
use Rattle.dds_order_ends.proofs.Lines.{will-give-back}
use Rattle.dds_order_ends.proofs.Live.{awaited-bricks, brick-in-world, brick-inside, brick-parts, brick-placed, live-talk, live-unknown}
use Rattle.dds_order_ends.proofs.Mine.{IsMine}
use Rattle.dds_order_ends.proofs.Over.{AreGround, awaited-other, ends-at, quiet-over}
use Rattle.dds_order_ends.specs.Leases.{LeasesAreHeld}
use Rattle.dds_order_ends.specs.Quiet.{QuietOrdersAreOver}
use Rattle.dds_order_ends.specs.Waiting.{OrdersWait}

-- Along each run: open orders wait for somebody, leases are given back, and where nothing is on its way there are none of either.

pub run-ground : (o : OpeningOf) (journal : List Step) → IsOpening o → is_run o journal ≡ true → AreGround (sizes_of o) (net_of o journal)
run-ground o journal h run =
    record {
      few = h.ranges.bricks;
      ending = run-ending o journal h run;
      placed = (below o journal h run).placed;
      within = run-within o journal h run;
      talk = orders-talk-of (net_of o journal) (run-kept o journal h run).talking.talks;
    }

pub orders-wait : OrdersWait
orders-wait o journal brick s q h run live e =
    let z = sizes_of o in
    let n = net_of o journal in
    let w = reached o journal in
    let g = run-ground o journal h run in
    let here = brick-node w brick s live.there in
    record {
      waits = (ends-at z n brick s g.ending here).waits q e;
      others = λ m k. awaited-other z n brick s q m g here e k;
      bricks = λ m k. brick-in-world w m (brick-placed z n m g.few g.placed (awaited-bricks z n brick s q m g.placed here e k));
    }

-- a lease of a list is given
given-at : (ls : List Lease) (at : ℕ) (a : Lease) → slice_get ls at ≡ Some a → is_given ls a.name a.holder ≡ true
given-at [] at a e = cc
given-at (l ∷ ls) zero a e =
    let is : l ≡ a = cc in
    ap (λ c. c || is_given ls a.name a.holder) (ap (is_lease a.name a.holder) is ∙ lease-self a.name a.holder)
given-at (l ∷ ls) (suc at) a e = or_right (is_lease a.name a.holder l) (is_given ls a.name a.holder) (given-at ls at a e)

pub leases-are-held : LeasesAreHeld
leases-are-held o journal brick s at a h run live e =
    let z = sizes_of o in
    let n = net_of o journal in
    let w = reached o journal in
    let g = run-ground o journal h run in
    let here = brick-node w brick s live.there in
    let both : IsBoth brick (own s) = subst (law_own.NodeOk brick) here (g.ending.stood.own brick) in
    let parts = brick-parts z n brick s g.placed here in
    let low = all-is (λ (l : Lease). IsBrick z l.holder) s.locks.leases at a parts.its_locks.1 e in
    record {
      there = brick-in-world w a.holder (brick-placed z n a.holder g.few g.placed low);
      unknown = all-is (Unknown s.known) s.locks.leases at a both.0.holders e;
      itself = λ is. all-is (IsMine s.number s.order) s.locks.leases at a (ends-at z n brick s g.ending here).mine e (is ∙ sym parts.its_number);
      other = λ t also ne.
          let there = brick-node w a.holder t also.there in
          let apart = live-unknown z n a.holder brick t s g.ending.stood.links (brick-inside z n a.holder t g.few g.placed there) there here live.live in
          will-give-back t.order brick (n.channel a.holder brick) (given-at s.locks.leases at a e)
          (live-talk n a.holder brick a.name t s g.talk there here also.live live.live (ne_eqb a.holder brick ne) apart);
    }

pub quiet-orders-are-over : QuietOrdersAreOver
quiet-orders-are-over o journal brick s h run quiet on live =
    let z = sizes_of o in
    let w = reached o journal in
    quiet-over z (net_of o journal) brick s (run-ground o journal h run) (quiet-net z w quiet) on (brick-node w brick s live.there) live.live
