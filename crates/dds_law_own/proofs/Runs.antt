use Rattle.std.proofs.Common.{◌≡◌, ℕ, Bool, true, false, List, [], ◌∷◌, refl, sym, ap, subst}
use Rattle.std.specs.FinMap.{get}
use Rattle.std.specs.List.{AllByRecursion}
use Rattle.std.specs.Prelude.{filter, is_some, if◌then◌else◌}
use Rattle.dds_base.specs.BrickList.{has}
use Rattle.dds_base.specs.Op.{the_key}
use Rattle.dds_base.specs.declared.leaf.Leaf.{Leaf}
use Rattle.dds_base.specs.Name.{covers}
use Rattle.dds_base.specs.declared.pending.Pending.{Pending}
use Rattle.dds_cluster.proofs.Sizes.{sized-start}
use Rattle.dds_cluster.specs.Trace.{is_run, start}
use Rattle.dds_cluster.specs.World.{new_brick}
use Rattle.dds_cluster.specs.declared.step.Step.{Step}
use Rattle.dds_core.proofs.Lists.{all-is}
use Rattle.dds_law_notice.proofs.Keeps.{AreLinked, links-kept}
use Rattle.dds_law_notice.proofs.Last.{start-links}
use Rattle.dds_law_notice.proofs.Views.{none-known}
use Rattle.dds_net.proofs.Nodes.{brick-node}
use Rattle.dds_net.proofs.Opening.{IsNew, new_a_brick, new_a_library, no_node, start-node}
use Rattle.dds_net.proofs.Runs.{run-keeps}
use Rattle.dds_net.proofs.Rungs.{Both, both_books, kept-over}
use Rattle.dds_net.specs.Net.{Node, net, sizes_of}
use Rattle.dds_script.specs.Opening.{IsOpening, OpeningOf}
use Rattle.dds_world.specs.Places.{reached}
use Rattle.dds_law_own.proofs.Changes.{own}
use Rattle.dds_law_own.proofs.Keeps.{AreOwn, NodeOk, own-over}
use Rattle.dds_law_own.proofs.Lists.{each-is, in-all, in-empty, none-passes, pair-at}
use Rattle.dds_law_own.proofs.Opened.{opening-disjoint}
use Rattle.dds_law_own.proofs.Owned.{Apart, Free, Named, Unknown}
use Rattle.dds_law_own.proofs.Parted.{IsBoth}
use Rattle.dds_law_own.specs.Law.{BricksKeepTheirOwn}

-- What is so of one brick holds along each run.

-- an opening brick has the leaves that list it
abbrev Lists : ℕ → List Leaf → Type 0
Lists me ls = AllByRecursion (λ (l : Leaf). Named me l.name l) ls

listing-if : (me : ℕ) (c : Bool) (l : Leaf) (ls : List Leaf) → has l.list me ≡ c → Lists me ls → Lists me (if c then l ∷ ls else ls)
listing-if me true l ls e h = ((refl, e), h)
listing-if me false l ls e h = h

listing : (me : ℕ) (ls : List Leaf) → Lists me (filter (λ (l : Leaf). has l.list me) ls)
listing me [] = tt
listing me (l ∷ ls) = listing-if me (has l.list me) l (filter (λ (k : Leaf). has k.list me) ls) refl (listing me ls)

start-brick : (o : OpeningOf) (k : ℕ) → IsOpening o → IsBoth k (own (new_brick o.leaves k))
start-brick o k h =
    let mine = filter (λ (l : Leaf). has l.list k) o.leaves in (
      record {
        number = refl;
        alone = none-known k;
        leaves = in-all (Named k) _ mine (listing k o.leaves) (in-empty (Named k));
        order = tt;
        apart = tt;
        free = tt;
        holders = tt;
      },
      record { leaves = opening-disjoint o.leaves (λ (l : Leaf). has l.list k) h.apart; order = tt },
    )

pub start-own : (o : OpeningOf) (k : ℕ) (x : Node) → IsOpening o → IsNew o k x → NodeOk k x
start-own o k x h (no_node e) = subst (NodeOk k) (sym e) tt
start-own o k x h (new_a_brick e) = subst (NodeOk k) (sym e) (start-brick o k h)
start-own o k x h (new_a_library high e) = subst (NodeOk k) (sym e) tt

run-own : (o : OpeningOf) (journal : List Step) → IsOpening o → is_run o journal ≡ true → AreOwn (net (sizes_of o) (reached o journal))
run-own o journal h run =
    let z = sizes_of o in
    let few = h.ranges.bricks in
    let kept = kept-over z (Unit {0}) (λ h n e a. tt) (λ h n a. AreLinked z n) (Unit {0}) (λ h n e a b. tt) (λ h n a b. AreOwn n)
    (links-kept z few h.ranges.libraries) (own-over z few h.ranges.libraries) in
    (run-keeps z (Unit {0} × Unit {0}) (both_books (λ h n e a. tt) (λ h n e a b. tt)) (Both (λ h n a. AreLinked z n) (λ h n a b. AreOwn n)) journal (start o)
    few kept (record { sized = sized-start o; books = (tt, tt); is = (start-links o, λ k. start-own o k _ h (start-node o k)) }) run).is.1

pub bricks-keep : BricksKeepTheirOwn
bricks-keep o journal brick s h run there =
    let g : IsBoth brick (own s) = subst (NodeOk brick) (brick-node (reached o journal) brick s there) (run-own o journal h run brick) in
    record {
      named = λ name leaf e. (each-is (Named brick name) (get s.leaves name) leaf e (g.0.leaves name)).0;
      lists = λ name leaf e. (each-is (Named brick name) (get s.leaves name) leaf e (g.0.leaves name)).1;
      disjoint = λ a b x y e f over. g.1.leaves a b (ap is_some e) (ap is_some f) over;
      apart = λ at also a b lt e f. pair-at Apart s.locks.leases at also a b g.0.apart lt e f;
      holders = λ at a e. all-is (Unknown s.known) s.locks.leases at a g.0.holders e;
      free = λ at also a p e f.
          all-is (λ (q : Pending). covers a.name (the_key q.op) ≡ false) s.locks.pending also p
          (none-passes (λ (q : Pending). covers a.name (the_key q.op)) s.locks.pending (all-is (Free s.locks.pending) s.locks.leases at a g.0.free e)) f;
    }
