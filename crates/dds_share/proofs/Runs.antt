use Rattle.std.proofs.Common.{◌≡◌, ◌+◌, ◌≤◌, ◌++◌, true, List, [], ◌∷◌, length, sym, ap, ◌∙◌, subst, arith}
use Rattle.std.proofs.Math.Seq.{take-append_seam}
use Rattle.std.proofs.lemmas.List.{append-nil, append_assoc}
use Rattle.std.specs.Prelude.{take}
use Rattle.dds_cluster.specs.Trace.{is_run, run_of}
use Rattle.dds_cluster.specs.declared.step.Step.{Step}
use Rattle.dds_net.proofs.Journals.{EachKeeps, Grown, journal-keeps, net_of}
use Rattle.dds_net.proofs.Nodes.{brick-node}
use Rattle.dds_net.proofs.Runs.{net-built, sized-run, IsBuilt}
use Rattle.dds_net.specs.Event.{history_of, moved}
use Rattle.dds_net.specs.Net.{Net, sizes_of}
use Rattle.dds_order_talk.specs.Seen.{OrdersTalk}
use Rattle.dds_parents.proofs.Served.{covered-by}
use Rattle.dds_script.specs.Opening.{IsOpening, OpeningOf}
use Rattle.dds_world.specs.Places.{reached}
use Rattle.dds_share.proofs.Events.{event-keeps, low-kept}
use Rattle.dds_share.proofs.Facts.{AreAll, AreLow}
use Rattle.dds_share.proofs.Openings.{start-low, start-together}
use Rattle.dds_share.proofs.Over.{covers-over}
use Rattle.dds_share.proofs.Together.{AreTogether}
use Rattle.dds_share.specs.Law.{ServersListEachOther}

-- The invariant along each run at whose places orders and their members talk, and what it says of a world.

-- orders and their members talk at each place of the journal
abbrev TalkSoFar : OpeningOf → List Step → Type 0
TalkSoFar o journal = (front more : List Step) → front ++ more ≡ journal → OrdersTalk (net_of o front)

abbrev Holds : OpeningOf → List Step → Net → Type 0
Holds o journal n = AreLow (sizes_of o) n × (TalkSoFar o journal → AreTogether n)

keeps : (o : OpeningOf) → IsOpening o → EachKeeps o (Holds o)
keeps o h journal x e next g =
    let z = sizes_of o in
    let few = h.ranges.bricks in
    let some = h.ranges.libraries in
    let built = net-built z (run_of o journal).world (sized-run o journal) in
    let low = low-kept z few some (history_of (run_of o journal)) (net_of o journal) e tt built next.fits g.0 in (
      low,
      λ talk.
          let so_far : TalkSoFar o journal = (λ front more is. talk front (more ++ x ∷ [])
          (sym (append_assoc front more (x ∷ [])) ∙ ap (λ j. j ++ x ∷ []) is)) in
          let before : AreAll z (net_of o journal) = record { low = g.0; built = built; talk = so_far journal [] (append-nil journal) } in
          let grown = net-built z (run_of o (Grown journal x)).world (sized-run o (Grown journal x)) in
          let after : AreAll z (moved z (net_of o journal) e) = record {
            low = low;
            built = subst (IsBuilt z) next.after grown;
            talk = subst OrdersTalk next.after (talk (Grown journal x) [] (append-nil (Grown journal x)));
          } in
          event-keeps z (run_of o journal).callers (net_of o journal) e few some next.fits before after (g.1 so_far),
    )

pub run-together : (o : OpeningOf) (journal : List Step) → IsOpening o → is_run o journal ≡ true → TalkSoFar o journal → AreTogether (net_of o journal)
run-together o journal h run talk =
    (journal-keeps o (Holds o) journal h.ranges.bricks (keeps o h) (start-low o h, λ t. start-together o h) run).1 talk

pub servers-list : ServersListEachOther
servers-list o journal a b key s t leaf other h run talk x y =
    let so_far : TalkSoFar o journal = (λ front more is.
    subst (λ j. OrdersTalk (net_of o j)) (ap (take (length front)) (sym is) ∙ take-append_seam front more) (talk (length front))) in
    let p = covered-by s.leaves key leaf x.covers in
    let q = covered-by t.leaves key other y.covers in
    let deep = p.name.depth + q.name.depth in
    let first : p.name.depth ≤ deep = omega arith in
    let second : q.name.depth ≤ deep = omega arith in
    (run-together o journal h run so_far).share a b (record { bits = key; depth = deep }) s t leaf other
    (record { here = brick-node (reached o journal) a s x.live.there; live = x.live.live; over = covers-over s.leaves key deep leaf p first })
    (record { here = brick-node (reached o journal) b t y.live.there; live = y.live.live; over = covers-over t.leaves key deep other q second })
