use Rattle.std.proofs.Common.{◌≡◌, ℕ, ◌≤◌, true, List, [], sym, subst}
use Rattle.std.specs.List.{AllByRecursion}
use Rattle.dds_cluster.proofs.Sizes.{sized-start}
use Rattle.dds_cluster.specs.Trace.{is_run, start}
use Rattle.dds_cluster.specs.declared.step.Step.{Step}
use Rattle.dds_cluster.specs.declared.trace.Caller.{Caller}
use Rattle.dds_base.specs.declared.number.NodeNo.{NodeNo}
use Rattle.dds_core.proofs.Lists.{all-map}
use Rattle.dds_core.specs.Brick.{brick_input, live_brick_turn}
use Rattle.dds_law_notice.proofs.Keeps.{AreLinked, links-kept}
use Rattle.dds_law_notice.proofs.Last.{start-links}
use Rattle.dds_law_own.proofs.Changes.{own}
use Rattle.dds_law_own.proofs.Keeps.{AreOwn, NodeOk, of-another, own-over}
use Rattle.dds_law_own.proofs.Parted.{IsBoth}
use Rattle.dds_law_own.proofs.Runs.{start-own}
use Rattle.dds_letters.specs.declared.letter.Letter.{Letter}
use Rattle.dds_letters.specs.declared.letter.Letter.TheVariants as letter
use Rattle.dds_net.proofs.Carried.{AllCarried, Becomes, News, Sends, letters-moved, nodes-moved}
use Rattle.dds_net.proofs.Letters.{first-all}
use Rattle.dds_net.proofs.Nodes.{brick-node}
use Rattle.dds_net.proofs.Opening.{IsNew, new_a_brick, new_a_library, no_node, start-channel, start-node}
use Rattle.dds_net.proofs.Runs.{IsKept, run-keeps, sized-run}
use Rattle.dds_net.proofs.Ways.{travels}
use Rattle.dds_net.specs.Event.{Event, nothing, unheard, unasked, brick_takes, brick_told, brick_stops, library_takes, library_asked, library_stops}
use Rattle.dds_net.specs.Event.{Fits}
use Rattle.dds_net.specs.Net.{Net, Node, nowhere, a_brick, a_library, Sizes, lands, net, sizes_of}
use Rattle.dds_orders.proofs.Deeds.{seat}
use Rattle.dds_orders.proofs.LibraryLetters.{asked-others, library-others}
use Rattle.dds_orders.proofs.Turns.{letter-turns, order-goes}
use Rattle.dds_script.specs.Opening.{IsOpening, OpeningOf}
use Rattle.dds_world.specs.Places.{reached}
use Rattle.dds_pairs.proofs.Copies.{OrderCopied, PartRises, heard-copied, path-copied}
use Rattle.dds_pairs.proofs.Parts.{AllRise, others-rise, path-rises, turn-rises}
use Rattle.dds_pairs.specs.Copied.{CopiedPairsRise}

-- Each event keeps what orders have copied and what parts carry.

abbrev pub NodeCopied : ℕ → Node → Type 0
NodeCopied k nowhere = Unit {0}
NodeCopied k (a_brick s) = OrderCopied s.order
NodeCopied k (a_library s) = Unit {0}

abbrev LetterRises : ℕ → ℕ → Letter → Type 0
LetterRises a b l = PartRises l

pub record AreCopied (z : Sizes) (n : Net) : Type 0 where
  pub links : AreLinked z n
  pub own : AreOwn n
  pub nodes : (k : ℕ) → NodeCopied k (n.node k)
  pub letters : AllCarried LetterRises n

becomes : (z : Sizes) (cs : List Caller) (n : Net) (e : Event) → z.bricks ≤ 64 → z.libraries ≤ 16 → Fits z cs n e → AreCopied z n → Becomes NodeCopied e
becomes z cs n nothing few some f g = tt
becomes z cs n (unheard at from l) few some f g = tt
becomes z cs n (unasked at caller call o) few some f g = tt
becomes z cs n (brick_takes at from l s) few some f g =
    let both : IsBoth at (own s) = subst (NodeOk at) f.here (g.own at) in
    let it : OrderCopied s.order = subst (NodeCopied at) f.here (g.nodes at) in
    let rises = first-all (LetterRises from at) z n at from l f.letter (g.letters from at) in
    let t = letter-turns s from l (of-another z n at from l s few some g.links f both.0.number) in
    let a = path-copied (seat s) t.first [] t.takes it in
    let b = heard-copied from l t.first t.next t.answers t.hears rises a in
    path-copied t.next (seat (live_brick_turn s from l).state) t.letters t.goes b
becomes z cs n (brick_told at o s) few some f g =
    path-copied (seat s) (seat (brick_input s o).state) (brick_input s o).out.letters (order-goes s o).path (subst (NodeCopied at) f.here (g.nodes at))
becomes z cs n (brick_stops at s kept) few some f g = λ o e. cc
becomes z cs n (library_takes at from l s) few some f g = tt
becomes z cs n (library_asked at caller call o s) few some f g = tt
becomes z cs n (library_stops at s kept) few some f g = tt

news : (z : Sizes) (at : ℕ) (ls : List (NodeNo × Letter)) → AllRise ls → News LetterRises z at ls
news z at ls h b inside = all-map (λ (p : NodeNo × Letter). PartRises p.1) (λ p. lands z p.0 b ≡ true → PartRises p.1) ls (λ p k e. k) h

sends : (z : Sizes) (cs : List Caller) (n : Net) (e : Event) → z.bricks ≤ 64 → z.libraries ≤ 16 → Fits z cs n e → AreCopied z n → Sends LetterRises z e
sends z cs n nothing few some f g = tt
sends z cs n (unheard at from l) few some f g = tt
sends z cs n (unasked at caller call o) few some f g = tt
sends z cs n (brick_takes at from l s) few some f g =
    let both : IsBoth at (own s) = subst (NodeOk at) f.here (g.own at) in
    news z at _ (turn-rises s from l (of-another z n at from l s few some g.links f both.0.number))
sends z cs n (brick_told at o s) few some f g =
    news z at _ (path-rises (seat s) (seat (brick_input s o).state) (brick_input s o).out.letters (order-goes s o).path)
sends z cs n (brick_stops at s kept) few some f g = λ b. tt
sends z cs n (library_takes at from l s) few some f g = news z at _ (others-rise _ (library-others s from l))
sends z cs n (library_asked at caller call o s) few some f g = news z at _ (others-rise _ (asked-others s caller call o))
sends z cs n (library_stops at s kept) few some f g = λ b. tt

pub copied-kept : (z : Sizes) → z.bricks ≤ 64 → z.libraries ≤ 16 → IsKept z (Unit {0}) (λ h n e u. tt) (λ h n u. AreCopied z n)
copied-kept z few some h n e u built f g =
    let links = links-kept z few some h n e tt built f g.links in
    record {
      links = links;
      own = own-over z few some h n e tt tt built f g.links links g.own;
      nodes = nodes-moved NodeCopied z n e g.nodes (becomes z h.callers n e few some f g);
      letters = letters-moved LetterRises z h.callers n e f g.letters (sends z h.callers n e few some f g);
    }

-- the opening
start-copied : (o : OpeningOf) (k : ℕ) (x : Node) → IsNew o k x → NodeCopied k x
start-copied o k x (no_node e) = subst (NodeCopied k) (sym e) tt
start-copied o k x (new_a_brick e) = subst (NodeCopied k) (sym e) (λ p f. cc)
start-copied o k x (new_a_library high e) = subst (NodeCopied k) (sym e) tt

pub run-copied : (o : OpeningOf) (journal : List Step) → IsOpening o → is_run o journal ≡ true → AreCopied (sizes_of o) (net (sizes_of o) (reached o journal))
run-copied o journal h run =
    let z = sizes_of o in
    (run-keeps z (Unit {0}) (λ h n e u. tt) (λ h n u. AreCopied z n) journal (start o) h.ranges.bricks (copied-kept z h.ranges.bricks h.ranges.libraries)
    (record {
      sized = sized-start o;
      books = tt;
      is = record {
        links = start-links o;
        own = λ k. start-own o k _ h (start-node o k);
        nodes = λ k. start-copied o k _ (start-node o k);
        letters = λ a b. subst (AllByRecursion (LetterRises a b)) (sym (start-channel o a b)) tt;
      };
    }) run).is

pub copied-rise : CopiedPairsRise
copied-rise o journal h run =
    let z = sizes_of o in
    let w = reached o journal in
    let g = run-copied o journal h run in
    record {
      orders = λ brick s q there open_order.
          let its : OrderCopied s.order = subst (NodeCopied brick) (brick-node w brick s there) (g.nodes brick) in its q open_order;
      parts = λ from to number last pairs t. travels PartRises z w from to (letter.CopyPart number last pairs) (sized-run o journal) t (g.letters from to);
    }
