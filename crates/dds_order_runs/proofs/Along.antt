use Rattle.std.proofs.Common.{◌≡◌, ℕ, true, List, [], ◌∷◌, length, sym, subst}
use Rattle.std.proofs.Math.Seq.{take-append_seam}
use Rattle.dds_cluster.proofs.Sizes.{sized-start}
use Rattle.dds_cluster.specs.Trace.{is_run, run_of, start}
use Rattle.dds_cluster.specs.declared.step.Step.{Step}
use Rattle.dds_law_leaf.proofs.Book.{AreKnown}
use Rattle.dds_law_leaf.proofs.Ever.{known-kept}
use Rattle.dds_law_leaf.proofs.Openings.{start-known}
use Rattle.dds_listed.proofs.Fresh.{BricksFresh, bricks-fresh, own-new, start-fresh}
use Rattle.dds_listed.proofs.Grounds.{Grounds}
use Rattle.dds_listed.proofs.Keeps.{event-keeps}
use Rattle.dds_listed.proofs.Listed.{AllAnswer}
use Rattle.dds_listed.proofs.Makes.{NodeMakes, none-makes}
use Rattle.dds_listed.proofs.Openings.{start-answers}
use Rattle.dds_listed.proofs.Owed.{owes}
use Rattle.dds_listed.proofs.Unlisted.{joiners-unlisted}
use Rattle.dds_members.proofs.Leaves.{run-lists}
use Rattle.dds_net.proofs.Journals.{EachKeeps, Grown, IsNext, journal-keeps, net_of}
use Rattle.dds_net.proofs.Opening.{IsNew, new_a_brick, new_a_library, no_node, start-node}
use Rattle.dds_net.proofs.Prefixes.{run-take}
use Rattle.dds_net.proofs.Runs.{net-built, run-keeps, sized-run}
use Rattle.dds_net.specs.Event.{Event, history_of, moved}
use Rattle.dds_net.specs.Net.{Net, Node, Sizes, net, sizes_of}
use Rattle.dds_order_talk.proofs.Runs.{run-within}
use Rattle.dds_order_talk.proofs.TalkBegins.{orders-talk-of, start-fits, start-given, start-talks}
use Rattle.dds_order_talk.specs.Seen.{JoinersAreUnlisted}
use Rattle.dds_orders.proofs.Asks.{run-asked}
use Rattle.dds_orders.proofs.Stood.{run-stood}
use Rattle.dds_pairs.proofs.NameKeeps.{AreNamed, run-named}
use Rattle.dds_script.specs.Opening.{IsOpening, OpeningOf}
use Rattle.dds_share.proofs.Events.{low-kept}
use Rattle.dds_share.proofs.Facts.{AreLow}
use Rattle.dds_share.proofs.Openings.{start-low}
use Rattle.dds_world.specs.Places.{reached}
use Rattle.dds_order_runs.proofs.Events.{AreBelow, AreTalking, talking-kept}

-- Along each run orders and their members talk by the table, and live members answer for the leaves that list them: neither is kept without
-- the other.

-- the laws below
run-known : (o : OpeningOf) (journal : List Step) → IsOpening o → is_run o journal ≡ true → AreKnown (net (sizes_of o) (reached o journal))
run-known o journal h run =
    (run-keeps (sizes_of o) (Unit {0}) (λ h n e u. tt) (λ h n u. AreKnown n) journal (start o) h.ranges.bricks (known-kept (sizes_of o))
    (record { sized = sized-start o; books = tt; is = start-known o h }) run).is

pub below : (o : OpeningOf) (journal : List Step) → IsOpening o → is_run o journal ≡ true → AreBelow (sizes_of o) (net_of o journal)
below o journal h run =
    record {
      stood = run-stood o journal h run;
      within = run-within o journal h run;
      asked = run-asked o journal h run;
      known = run-known o journal h run;
      named = run-named o journal h run;
      placed = (run-lists o journal h run).placed;
    }

-- the opening
new-makes : (o : OpeningOf) (k : ℕ) (x : Node) → IsNew o k x → NodeMakes k x
new-makes o k x (no_node e) = subst (NodeMakes k) (sym e) tt
new-makes o k x (new_a_brick e) = subst (NodeMakes k) (sym e) none-makes
new-makes o k x (new_a_library high e) = subst (NodeMakes k) (sym e) tt

pub start-talking : (o : OpeningOf) → AreTalking (sizes_of o) (net (sizes_of o) (start o).world)
start-talking o =
    record {
      given = start-given o;
      fits = start-fits o;
      makes = λ k. new-makes o k ((net (sizes_of o) (start o).world).node k) (start-node o k);
      talks = start-talks o;
    }

-- what is kept of runs, over the laws below
--
-- | part      | why it is needed                                        | what keeps it                                                   |
-- |---|---|---|
-- | `low`     | what a brick's turn gives stands on it                  | each event, over itself                                         |
-- | `fresh`   | members answer for all leaves but the opening's stale   | each event, over itself and names                               |
-- |           | ones, so for each leaf of a brick                       |                                                                 |
-- | `talking` | claimed: orders talk; what an order makes, tells and    | where no leaf of a live brick lists another one that joins its  |
-- |           | installs is a leaf that members have which granted      | name: by `answer` and `fresh`, a member has a key of the name   |
-- | `answer`  | claimed: live members answer; so none of them joins the | what a brick's turn leaves and sends, by `talking` and `low`    |
-- |           | leaf's name and has no leaf yet                         |                                                                 |
pub record Kept (z : Sizes) (n : Net) : Type 0 where
  pub low : AreLow z n
  pub fresh : BricksFresh n
  pub talking : AreTalking z n
  pub answer : AllAnswer n

-- so no leaf of a live brick lists another one that joins its name
pub unlisted-of : (z : Sizes) (n : Net) → AreNamed z n → Kept z n → JoinersAreUnlisted n
unlisted-of z n named g = joiners-unlisted z n named g.talking.fits (own-new n g.fresh) g.answer

next-kept : (o : OpeningOf) (journal : List Step) (x : Step) (e : Event) → IsOpening o → is_run o (Grown journal x) ≡ true → is_run o journal ≡ true
    → IsNext o journal x e → Kept (sizes_of o) (net_of o journal) → Kept (sizes_of o) (moved (sizes_of o) (net_of o journal) e)
next-kept o journal x e h run before next g =
    let z = sizes_of o in
    let few = h.ranges.bricks in
    let some = h.ranges.libraries in
    let cs = (run_of o journal).callers in
    let n = net_of o journal in
    let built = net-built z (run_of o journal).world (sized-run o journal) in
    let b = below o journal h before in
    let grounds : Grounds z n = record {
      all = record { low = g.low; built = built; talk = orders-talk-of n g.talking.talks };
      named = b.named;
      fits = g.talking.fits;
      makes = g.talking.makes;
      fresh = g.fresh;
      answer = g.answer;
    } in
    let after : AreNamed z (moved z n e) = subst (AreNamed z) next.after (run-named o (Grown journal x) h run) in
    record {
      low = low-kept z few some (history_of (run_of o journal)) n e tt built next.fits g.low;
      fresh = bricks-fresh z cs n e few some b.named next.fits g.fresh;
      talking = talking-kept z cs n e few some built next.fits b (unlisted-of z n b.named g) g.talking;
      answer = event-keeps z cs n e next.fits (owes z cs n e few some next.fits grounds after) g.answer;
    }

abbrev Holding : OpeningOf → List Step → Net → Type 0
Holding o journal n = is_run o journal ≡ true → Kept (sizes_of o) n

keeps : (o : OpeningOf) → IsOpening o → EachKeeps o (Holding o)
keeps o h journal x e next g =
    λ run.
    let before : is_run o journal ≡ true =
    subst (λ j. is_run o j ≡ true) (take-append_seam journal (x ∷ [])) (run-take (start o) (Grown journal x) (length journal) run) in
    next-kept o journal x e h run before next (g before)

start-kept : (o : OpeningOf) → IsOpening o → Kept (sizes_of o) (net (sizes_of o) (start o).world)
start-kept o h = record { low = start-low o h; fresh = start-fresh o h; talking = start-talking o; answer = start-answers o h }

pub run-kept : (o : OpeningOf) (journal : List Step) → IsOpening o → is_run o journal ≡ true → Kept (sizes_of o) (net_of o journal)
run-kept o journal h run = journal-keeps o (Holding o) journal h.ranges.bricks (keeps o h) (λ r. start-kept o h) run run
