use Rattle.std.proofs.Common.{◌≡◌, ℕ, ◌≤◌, ◌⊎◌, inl, inr, true, List, [], sym, ap, ◌∙◌, subst}
use Rattle.std.proofs.lemmas.Bool.{cases_eq, eq-eqb, ne_eqb}
use Rattle.std.specs.Prelude.{if◌then◌else◌}
use Rattle.dds_base.specs.Name.{Name}
use Rattle.dds_cluster.specs.Trace.{is_possible, run_of}
use Rattle.dds_cluster.specs.declared.step.Step.{Step}
use Rattle.dds_cluster.specs.declared.step.Step.TheVariants as step
use Rattle.dds_cluster.specs.World.{emptied}
use Rattle.dds_core.specs.LibraryTurn.{live_library_turn}
use Rattle.dds_core.specs.Brick.{brick_input, live_brick_turn}
use Rattle.dds_law_own.proofs.Changes.{own}
use Rattle.dds_law_own.proofs.Keeps.{NodeOk, of-another}
use Rattle.dds_law_own.proofs.Parted.{IsBoth}
use Rattle.dds_letters.specs.declared.letter.Letter.{Letter}
use Rattle.dds_locks.specs.Leases as lease
use Rattle.dds_net.proofs.Journals.{Grown, IsNext, first-of, net_of, next-event}
use Rattle.dds_net.proofs.Letters.{first-all}
use Rattle.dds_net.proofs.Nodes.{brick-node}
use Rattle.dds_net.specs.Event.{Event, nothing, unheard, unasked, brick_takes, brick_told, brick_stops, library_takes, library_asked, library_stops}
use Rattle.dds_net.specs.Event.{asked_turn, moved}
use Rattle.dds_net.specs.Net.{Net, Node, a_brick, a_library, put, sizes_of}
use Rattle.dds_script.specs.Opening.{OpeningOf}
use Rattle.dds_states.specs.declared.brick_state.BrickState.{BrickState}
use Rattle.dds_states.specs.declared.library_state.LibraryState.{LibraryState}
use Rattle.dds_world.specs.Places.{reached}
use Rattle.dds_orders.proofs.Deeds.{seat}
use Rattle.dds_orders.proofs.Leased.{LeafStays, path-stays, turn-stays}
use Rattle.dds_orders.proofs.Numbered.{LetterOk}
use Rattle.dds_orders.proofs.Standing.{Standing, Stood}
use Rattle.dds_orders.proofs.Covered.{Covering}
use Rattle.dds_orders.proofs.Stood.{AreStood, NodeStands, run-stood}
use Rattle.dds_orders.proofs.Turns.{letter-turns, order-goes}
use Rattle.dds_orders.specs.Leased.{LeasedLeavesStay, TakesInstall}

-- The leaves in a lease's name, at each step of a run.

abbrev Stays : OpeningOf → List Step → Step → ℕ → ℕ → Name → BrickState → BrickState → Type 0
Stays o journal x brick holder name s t = LeafStays name s.leaves t.leaves ⊎ TakesInstall o journal x brick holder

same-state : (s t : BrickState) → a_brick s ≡ a_brick t → s ≡ t
same-state s t e = cc

no-library : (s : BrickState) (q : LibraryState) → a_brick s ≡ a_library q → ⊥
no-library s q e = cc

none-given : (name : Name) (holder : ℕ) → lease.is_given [] name holder ≡ true → ⊥
none-given name holder e = cc

-- a node that the event leaves alone
unchanged : (o : OpeningOf) (journal : List Step) (x : Step) (brick holder : ℕ) (name : Name) (s t : BrickState) → a_brick s ≡ a_brick t
    → Stays o journal x brick holder name s t
unchanged o journal x brick holder name s t e = inl (subst (λ (u : BrickState). LeafStays name s.leaves u.leaves) (same-state s t e) (λ q leaf i is. is))

-- a node that may be the one that changes
put-same : (nodes : ℕ → Node) (at k : ℕ) (y : Node) → k ≡ at → put at y nodes k ≡ y
put-same nodes at k y e = ap (λ c. if c then y else nodes k) (eq-eqb k at e)

put-other : (nodes : ℕ → Node) (at k : ℕ) (y : Node) → (k ≡ at → ⊥) → put at y nodes k ≡ nodes k
put-other nodes at k y ne = ap (λ c. if c then y else nodes k) (ne_eqb k at ne)

-- what each event does to a brick's leaves under a lease of another brick
module _ (o : OpeningOf) (journal : List Step) (x : Step) (brick holder : ℕ) (name : Name) (s t : BrickState) (few : o.bricks ≤ 64)
    (some : o.libraries ≤ 16) (g : AreStood (sizes_of o) (net_of o journal)) (here : (net_of o journal).node brick ≡ a_brick s) (ne : holder ≡ brick → ⊥)
    (before : lease.is_given s.locks.leases name holder ≡ true) (later : lease.is_given t.locks.leases name holder ≡ true) where
  stood : (at : ℕ) (q : BrickState) → brick ≡ at → (net_of o journal).node at ≡ a_brick q → Stood at (seat q) × (q ≡ s)
  stood at q e there =
      let both : IsBoth at (own q) = subst (NodeOk at) there (g.own at) in
      let it : Standing (own q) × Covering (own q) = subst (NodeStands at) there (g.stands at) in
      let same : a_brick q ≡ a_brick s = sym there ∙ ap (net_of o journal).node (sym e) ∙ here in
      (record { both = both; stands = it.0 }, same-state q s same)

  takes-stays : (at from : ℕ) (l : Letter) (q : BrickState) → IsNext o journal x (brick_takes at from l q) → brick ≡ at
      → a_brick t ≡ a_brick (live_brick_turn q from l).state → Stays o journal x brick holder name s t
  takes-stays at from l q next e is =
      let h = stood at q e next.fits.here in
      let same : t ≡ (live_brick_turn q from l).state = same-state t (live_brick_turn q from l).state is in
      let ok = first-all (LetterOk (net_of o journal).node from at) (sizes_of o) (net_of o journal) at from l next.fits.letter
      (g.counted.letters from at) in
      let turn = letter-turns q from l (of-another (sizes_of o) (net_of o journal) at from l q few some g.links next.fits h.0.both.0.number) in
      let given : lease.is_given q.locks.leases name holder ≡ true =
      subst (λ (u : BrickState). lease.is_given u.locks.leases name holder ≡ true) (sym h.1) before in
      let also : lease.is_given (live_brick_turn q from l).state.locks.leases name holder ≡ true =
      subst (λ (u : BrickState). lease.is_given u.locks.leases name holder ≡ true) same later in
      elim (turn-stays at from l (seat q) (live_brick_turn q from l) name holder turn (λ number k f. (ok.asked number k).0 f) h.0
      (λ f. ne (f ∙ sym e)) given also) [
        | inl k ↦ inl (subst (λ (u : BrickState). LeafStays name u.leaves t.leaves) h.1
            (subst (λ (u : BrickState). LeafStays name q.leaves u.leaves) (sym same) k))
        | inr i ↦
            let step_is : x ≡ step.Handle at from = next.step in
            let f = first-of o journal at from l (subst (λ y. is_possible (run_of o journal) y ≡ true) step_is next.possible) next.fits.letter in
            inr (subst (λ b. TakesInstall o journal x b holder) (sym e) (subst (λ j. TakesInstall o journal x at j) i.same (record {
              step = step_is;
              message = f.message;
              number = i.number;
              made = i.made;
              first = f.first;
              letter = f.letter ∙ i.is;
            })))
      ]

  beside : (at : ℕ) (q : LibraryState) (y : Node) → (net_of o journal).node at ≡ a_library q → put at y (net_of o journal).node brick ≡ a_brick t
      → Stays o journal x brick holder name s t
  beside at q y there is = elim (cases_eq brick at) [
    | inl e ↦ absurd (no-library s q (sym here ∙ ap (net_of o journal).node e ∙ there))
    | inr k ↦ unchanged o journal x brick holder name s t (sym here ∙ sym (put-other (net_of o journal).node at brick y k) ∙ is)
  ]

  event-stays : (e : Event) → IsNext o journal x e → (moved (sizes_of o) (net_of o journal) e).node brick ≡ a_brick t
      → Stays o journal x brick holder name s t
  event-stays nothing next is = unchanged o journal x brick holder name s t (sym here ∙ is)
  event-stays (unasked at caller call c) next is = unchanged o journal x brick holder name s t (sym here ∙ is)
  event-stays (unheard at from l) next is = elim (cases_eq brick at) [
    | inl e ↦ unchanged o journal x brick holder name s t
        (sym here ∙ ap (net_of o journal).node e ∙ sym (put-same (net_of o journal).node at brick ((net_of o journal).node at) e) ∙ is)
    | inr k ↦ unchanged o journal x brick holder name s t
        (sym here ∙ sym (put-other (net_of o journal).node at brick ((net_of o journal).node at) k) ∙ is)
  ]
  event-stays (brick_takes at from l q) next is =
      let y = a_brick (live_brick_turn q from l).state in
      elim (cases_eq brick at) [
        | inl e ↦ takes-stays at from l q next e (sym is ∙ put-same (net_of o journal).node at brick y e)
        | inr k ↦ unchanged o journal x brick holder name s t (sym here ∙ sym (put-other (net_of o journal).node at brick y k) ∙ is)
      ]
  event-stays (brick_told at c q) next is =
      let y = a_brick (brick_input q c).state in
      elim (cases_eq brick at) [
        | inl e ↦
            let h = stood at q e next.fits.here in
            let same : t ≡ (brick_input q c).state =
            same-state t (brick_input q c).state (sym is ∙ put-same (net_of o journal).node at brick y e) in
            let given : lease.is_given q.locks.leases name holder ≡ true =
            subst (λ (u : BrickState). lease.is_given u.locks.leases name holder ≡ true) (sym h.1) before in
            let k = path-stays at (seat q) (seat (brick_input q c).state) (brick_input q c).out.letters name holder (order-goes q c).path h.0
            (λ f. ne (f ∙ sym e)) given in
            inl (subst (λ (u : BrickState). LeafStays name u.leaves t.leaves) h.1
            (subst (λ (u : BrickState). LeafStays name q.leaves u.leaves) (sym same) k))
        | inr k ↦ unchanged o journal x brick holder name s t (sym here ∙ sym (put-other (net_of o journal).node at brick y k) ∙ is)
      ]
  event-stays (brick_stops at q kept) next is =
      let y = a_brick (emptied q.number) in
      elim (cases_eq brick at) [
        | inl e ↦
            let same : t ≡ emptied q.number = same-state t (emptied q.number) (sym is ∙ put-same (net_of o journal).node at brick y e) in
            absurd (none-given name holder (subst (λ (u : BrickState). lease.is_given u.locks.leases name holder ≡ true) same later))
        | inr k ↦ unchanged o journal x brick holder name s t (sym here ∙ sym (put-other (net_of o journal).node at brick y k) ∙ is)
      ]
  event-stays (library_takes at from l q) next is =
      beside at q (a_library (live_library_turn q from l).state) next.fits.here is
  event-stays (library_asked at caller call c q) next is =
      beside at q (a_library (asked_turn q caller call c).state) next.fits.here is
  event-stays (library_stops at q kept) next is =
      beside at q (a_library (record q { stopped = true })) next.fits.here is

pub leaves-stay : LeasedLeavesStay
leaves-stay o journal x brick holder s t name own leaf h run p there then_there ne before later meets deep is =
    let few = h.ranges.bricks in
    let n = next-event o journal x few p in
    let here : (net_of o journal).node brick ≡ a_brick s = brick-node (reached o journal) brick s there in
    let after : (net_of o (Grown journal x)).node brick ≡ a_brick t = brick-node (reached o (Grown journal x)) brick t then_there in
    let moves : (moved (sizes_of o) (net_of o journal) n.0).node brick ≡ a_brick t = sym (ap (λ (m : Net). m.node brick) n.1.after) ∙ after in
    elim (event-stays o journal x brick holder name s t few h.ranges.libraries (run-stood o journal h run) here ne before later n.0 n.1 moves) [
      | inl k ↦ inl (k own leaf (record { meets = meets; deep = deep }) is)
      | inr k ↦ inr k
    ]
