use Rattle.std.proofs.Common.{◌≡◌, ℕ, zero, suc, ◌+◌, ◌++◌, inl, inr, true, false, Some, None, List, [], ◌∷◌, drop, length, is_some, refl}
use Rattle.std.proofs.Common.{sym, ap, ◌∙◌, subst, arith}
use Rattle.std.proofs.lemmas.Bool.{both_ways, cases_Bool, eq-eqb}
use Rattle.std.proofs.lemmas.List.{append-nil, append_assoc, drop_all, take-append-drop}
use Rattle.std.specs.FinMap.{get}
use Rattle.std.specs.Prelude.{slice_get, take}
use Rattle.dds_base.specs.Name.{Name, covers}
use Rattle.dds_base.specs.declared.number.NodeNo.{NodeNo}
use Rattle.dds_cluster.specs.Trace.{is_run, run_of}
use Rattle.dds_cluster.specs.declared.step.Step.{Step}
use Rattle.dds_cluster.specs.declared.trace.Made.{Made}
use Rattle.dds_history.specs.Map.{Map}
use Rattle.dds_letters.specs.declared.letter.Letter.TheVariants as letter
use Rattle.dds_net.proofs.Journals.{Grown, net_of, next-event, place-of}
use Rattle.dds_net.proofs.Nodes.{brick-node}
use Rattle.dds_net.proofs.Runs.{sized-run}
use Rattle.dds_net.proofs.Ways.{travels}
use Rattle.dds_net.specs.Net.{Net, a_brick, sizes_of}
use Rattle.dds_orders.proofs.Numbered.{BrickOk, Counts, NodeOk}
use Rattle.dds_orders.proofs.Deeds.{seat}
use Rattle.dds_orders.proofs.Numbers.{Counted, the-order}
use Rattle.dds_script.specs.Opening.{IsOpening, OpeningOf}
use Rattle.dds_share.proofs.Facts.{AreAll}
use Rattle.dds_share.proofs.Parts.{none-has}
use Rattle.dds_share.proofs.Sources.{bound-freezes}
use Rattle.dds_share.proofs.Together.{AreTogether, Freezes, IsBound, has_part, installs, is_part, lives}
use Rattle.dds_share.proofs.Turned.{same-brick}
use Rattle.dds_states.specs.declared.brick_state.BrickState.{BrickState}
use Rattle.dds_states.specs.declared.brick_state.OpenOrder.{OpenOrder}
use Rattle.dds_values.proofs.Histories.{history-leaves}
use Rattle.dds_values.specs.Held.{TalkAlong}
use Rattle.dds_values.specs.Values.{bound_in}
use Rattle.dds_world.specs.Places.{reached, world_at}
use Rattle.dds_world.specs.Values.{AreCopied, Copies, CopiesFrom, HasSentPart, pairs_of_order}
use Rattle.dds_copies.proofs.Frozen.{freezes-leased}
use Rattle.dds_copies.proofs.Late.{Late, ask, this-freezes}
use Rattle.dds_copies.proofs.LateBegins.{late-begins, open-counts, order_name}
use Rattle.dds_copies.proofs.LateEvents.{counts-kept, late-event}
use Rattle.dds_copies.proofs.Outside.{all-outside}
use Rattle.dds_copies.proofs.Runs.{Reached, along-talks, front-run, next-is-so, next-possible, run-along, run-reached}
use Rattle.dds_copies.proofs.Tables.{same-under}
use Rattle.dds_copies.specs.Frozen.{JoinsCopyFrozen}

-- A join copies what the history left, and is frozen, from where its source lives or a part of what it copies was on its way.

-- the last step
last-of : (journal : List Step) (at : ℕ) → length journal ≡ at + 1 → (x : Step) × (slice_get journal at ≡ Some x)
last-of [] at e = absurd (omega (arith, e))
last-of (x ∷ journal) zero e = (x, refl)
last-of (x ∷ journal) (suc at) e = last-of journal at (omega (arith, e))

-- a part on its way
part-travels : (o : OpeningOf) (journal : List Step) (source joiner : NodeNo) (number : ℕ) → (sent : HasSentPart o journal source joiner number)
    → has_part number ((net_of o (take sent.at journal)).channel source joiner) ≡ true
part-travels o journal source joiner number sent =
    elim (cases_Bool (has_part number ((net_of o (take sent.at journal)).channel source joiner))) [
      | inl e ↦ e
      | inr e ↦
          let not : is_part number (letter.CopyPart number sent.last sent.pairs) ≡ false =
          travels (λ l. is_part number l ≡ false) (sizes_of o) (world_at o journal sent.at) source joiner (letter.CopyPart number sent.last sent.pairs)
          (sized-run o (take sent.at journal)) sent.sent (none-has number _ e) in
          absurd (both_ways (is_part number (letter.CopyPart number sent.last sent.pairs)) not (eq-eqb number number refl))
    ]

module _ (o : OpeningOf) (journal : List Step) (h : IsOpening o) (run : is_run o journal ≡ true) (talk : TalkAlong o journal) where
  at-front : (was rest : List Step) → was ++ rest ≡ journal → Reached o was
  at-front was rest whole = run-reached o was h (front-run o journal h run talk was rest whole) (along-talks o journal h run talk was rest whole)

  late-next : (j number : ℕ) (name : Name) (was rest : List Step) (x : Step) → was ++ x ∷ rest ≡ journal → Late (net_of o was) j number name
      → Late (net_of o (Grown was x)) j number name
  late-next j number name was rest x whole late =
      let all = append_assoc was (x ∷ []) rest ∙ whole in
      let e = next-event o was x h.ranges.bricks (next-possible o was x (front-run o journal h run talk (Grown was x) rest all)) in
      let a = at-front was (x ∷ rest) whole in
      let b = at-front (Grown was x) rest all in
      subst (λ v. Late v j number name) (sym e.1.after)
      (late-event (sizes_of o) (run_of o was).callers (net_of o was) j number name h.ranges.bricks h.ranges.libraries a.all a.together e.0 e.1.fits a.lying
      (subst (AreAll (sizes_of o)) e.1.after b.all) (subst AreTogether e.1.after b.together) late)

  late-along : (j number : ℕ) (name : Name) (was rest : List Step) → was ++ rest ≡ journal → Late (net_of o was) j number name
      → Late (net_of o journal) j number name
  late-along j number name was [] whole late = subst (λ i. Late (net_of o i) j number name) (sym (append-nil was) ∙ whole) late
  late-along j number name was (x ∷ rest) whole late =
      late-along j number name (Grown was x) rest (append_assoc was (x ∷ []) rest ∙ whole) (late-next j number name was rest x whole late)

  its-late : (source joiner : NodeNo) (number : ℕ) → HasSentPart o journal source joiner number → (name : Name) × Late (net_of o journal) joiner number name
  its-late source joiner number sent =
      let was = take sent.at journal in
      let rest = drop sent.at journal in
      let whole = take-append-drop sent.at journal in
      let a = at-front was rest whole in (
        order_name ((net_of o was).node joiner),
        late-along joiner number (order_name ((net_of o was).node joiner)) was rest whole
            (late-begins (sizes_of o) (net_of o was) source joiner number a.all a.together a.lying.stood.counted
            (part-travels o journal source joiner number sent)),
      )

  -- each live brick that serves a key of a join that copies has granted it
  pub copies-freeze : (joiner : NodeNo) (s : BrickState) (q : OpenOrder) → Copies o journal joiner s q → Freezes (net_of o journal) joiner s q
  copies-freeze joiner s q c = elim c.copied [
    | inl i ↦ bound (subst (IsBound (net_of o journal) joiner q) (sym i.phase) (installs i.made))
    | inr f ↦ from-source f
  ]
    where
      here : (net_of o journal).node joiner ≡ a_brick s
      here = brick-node (reached o journal) joiner s c.live.there

      bound : IsBound (net_of o journal) joiner q q.phase → Freezes (net_of o journal) joiner s q
      bound b =
          bound-freezes (net_of o journal) joiner s q (at-front journal [] (append-nil journal)).together.granted
          (record { here = here; live = c.live.live; there = c.open_order; join = c.join; bound = b })

      from-source : CopiesFrom o journal joiner q → Freezes (net_of o journal) joiner s q
      from-source f = elim f.source_is [
        | inl l ↦
            bound (subst (IsBound (net_of o journal) joiner q) (sym f.phase)
            (lives f.source l.0 (brick-node (reached o journal) f.source l.0 l.1.there) l.1.live))
        | inr sent ↦
            let it = its-late f.source joiner q.number sent in
            this-freezes (net_of o journal) joiner q.number it.0 s q it.1
            (record { here = here; live = c.live.live; there = c.open_order; join = c.join; numbered = refl })
      ]

-- the last step changes nothing under the name of a join that copies before it and behind it
module _ (o : OpeningOf) (was : List Step) (x : Step) (h : IsOpening o) (run : is_run o (Grown was x) ≡ true) (talk : TalkAlong o (Grown was x))
    (joiner : NodeNo) (s t : BrickState) (q later : OpenOrder) (before : Freezes (net_of o was) joiner s q)
    (after : Freezes (net_of o (Grown was x)) joiner t later) (number : later.number ≡ q.number) where
  same-name : q.name ≡ later.name
  same-name =
      let n = net_of o was in
      let e = next-event o was x h.ranges.bricks (next-possible o was x run) in
      let a = at-front o (Grown was x) h run talk was (x ∷ []) refl in
      let ok : BrickOk joiner s = subst (NodeOk joiner) before.here (a.lying.stood.counted.nodes joiner) in
      let first = subst (λ y. Counts y q.number (ask q.number q.name)) (sym before.here) (open-counts joiner s q ok before.there before.phase) in
      let next = counts-kept (sizes_of o) (run_of o was).callers n e.0 joiner q.number (ask q.number q.name) h.ranges.bricks h.ranges.libraries e.1.fits
      a.lying.stood.links a.lying.stood.counted first in
      let there : Counts (a_brick t) q.number (ask q.number q.name) =
      subst (λ y. Counts y q.number (ask q.number q.name)) (ap (λ (v : Net). v.node joiner) (sym e.1.after) ∙ after.here) next in
      let it : Counted (seat t) q.number (ask q.number q.name) = there after.live in
      (it.of later after.there number).0

  frozen-before : (net_of o was).node joiner ≡ a_brick t → Freezes (net_of o was) joiner t later
  frozen-before here =
      let same : s ≡ t = same-brick s t (sym before.here ∙ here) in
      let is : q ≡ later = the-order q later (sym before.there ∙ ap (λ (y : BrickState). y.order) same ∙ after.there) in
      subst (λ i. Freezes (net_of o was) joiner t i) is (subst (λ i. Freezes (net_of o was) joiner i q) same before)

  pub still-pairs : pairs_of_order o (Grown was x) q ≡ pairs_of_order o was q
  still-pairs =
      let so_far = front-run o (Grown was x) h run talk was (x ∷ []) refl in
      let along = run-along o was h so_far (along-talks o (Grown was x) h run talk was (x ∷ []) refl) in
      let next = next-is-so o (Grown was x) h run talk was [] x refl (next-possible o was x run) along in
      let out = next.frozen joiner t later (record { here = after.here; there = after.there; join = after.join; before = frozen-before }) in
      same-under _ _ q.name None
      (λ key under.
      ap (λ (m : Map). get m key) (history-leaves (run_of o (Grown was x)))
      ∙ ap (λ (ms : List Made). bound_in ms key) next.made
      ∙ all-outside (run_of o was).made next.more later.name key (subst (λ i. covers i key ≡ true) same-name under) out
      ∙ ap (λ (m : Map). get m key) (sym (history-leaves (run_of o was))))

pub joins-copy-frozen : JoinsCopyFrozen
joins-copy-frozen o journal h run talk =
    let r = at-front o journal h run talk journal [] (append-nil journal) in
    record {
      leased = λ joiner brick s t q key leaf c under serves.
          freezes-leased (sizes_of o) (net_of o journal) r.all r.together r.lying joiner brick s t q key (copies-freeze o journal h run talk joiner s q c)
          (brick-node (reached o journal) brick t serves.live.there) serves.live.live (ap is_some serves.covers) under;
      copied = λ joiner s q c.
          subst (λ m. AreCopied m q q.phase) (sym (history-leaves (run_of o journal)))
          (r.along.copy joiner s q (brick-node (reached o journal) joiner s c.live.there) c.live.live c.open_order c.join).copied;
      still = λ joiner s t q later at size before after number.
          let last = last-of journal at size in
          let place = place-of o journal at last.0 run last.1 in
          let none : drop (at + 1) journal ≡ [] = drop_all (at + 1) journal (omega (arith, size)) in
          let whole : Grown (take at journal) last.0 ≡ journal =
          sym (append-nil (Grown (take at journal) last.0)) ∙ ap (λ (l : List Step). Grown (take at journal) last.0 ++ l) (sym none) ∙ place.whole in
          still-of joiner s t q later (take at journal) last.0 whole place.run before after number;
    }
  where
    still-of : (joiner : NodeNo) (s t : BrickState) (q later : OpenOrder) (was : List Step) (x : Step) → Grown was x ≡ journal → is_run o was ≡ true
        → Copies o was joiner s q → Copies o journal joiner t later → later.number ≡ q.number → pairs_of_order o journal q ≡ pairs_of_order o was q
    still-of joiner s t q later was x whole so_far before after number =
        let runs = subst (λ j. is_run o j ≡ true) (sym whole) run in
        let talks = subst (λ j. TalkAlong o j) (sym whole) talk in
        subst (λ j. pairs_of_order o j q ≡ pairs_of_order o was q) whole
        (still-pairs o was x h runs talks joiner s t q later
        (copies-freeze o was h so_far (along-talks o journal h run talk was (x ∷ []) whole) joiner s q before)
        (subst (λ j. Freezes (net_of o j) joiner t later) (sym whole) (copies-freeze o journal h run talk joiner t later after)) number)
