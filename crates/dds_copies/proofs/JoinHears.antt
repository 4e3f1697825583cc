use Rattle.std.proofs.Common.{◌≡◌, ℕ, ◌==◌, ◌++◌, inl, inr, true, false, Some, List, ◌∷◌, refl, sym, ap, ◌∙◌, subst}
use Rattle.std.proofs.lemmas.Bool.{cases_Bool, eq-eqb, ne_eqb}
use Rattle.std.specs.List.{AllByRecursion}
use Rattle.std.specs.Prelude.{drop, if◌then◌else◌}
use Rattle.dds_base.specs.NodeSet.{has_node}
use Rattle.dds_base.specs.declared.number.NodeNo.{NodeNo}
use Rattle.dds_brick_rows.specs.Refusal.{is_join}
use Rattle.dds_cluster.specs.declared.trace.Caller.{Caller}
use Rattle.dds_cluster.specs.declared.trace.Made.{Made}
use Rattle.dds_core.specs.Brick.{live_brick_turn}
use Rattle.dds_law_notice.proofs.Views.{knows, view}
use Rattle.dds_letters.specs.declared.letter.Letter.{Letter}
use Rattle.dds_net.proofs.Letters.{first-all}
use Rattle.dds_net.proofs.Puts.{first-taken}
use Rattle.dds_net.specs.Event.{Event, Takes, brick_takes, moved, without_first}
use Rattle.dds_net.specs.Net.{Net, Sizes, a_brick, gains}
use Rattle.dds_orders.proofs.Numbered.{AreCounted, BrickOk, NodeOk, counted-kept, put-at}
use Rattle.dds_share.proofs.Bounds.{known-empty, no-part}
use Rattle.dds_share.proofs.Heard.{part-copies}
use Rattle.dds_share.proofs.Parts.{part-brick}
use Rattle.dds_share.proofs.Together.{has_part}
use Rattle.dds_states.specs.declared.brick_state.BrickState.{BrickState}
use Rattle.dds_states.specs.declared.brick_state.OpenOrder.{OpenOrder}
use Rattle.dds_states.specs.declared.brick_state.OrderPhase.TheVariants.{Copying}
use Rattle.dds_values.specs.Values.{table}
use Rattle.dds_copies.proofs.Asked.{none-behind}
use Rattle.dds_copies.proofs.Before.{Before, its-counts, its-links, of-another}
use Rattle.dds_copies.proofs.Carried.{other-news, parts-moved}
use Rattle.dds_copies.proofs.Missing.{none-tell}
use Rattle.dds_copies.proofs.OrderWas.{Stays, WasJoin, as_it_was, hears, still-copies, was-join}
use Rattle.dds_copies.proofs.Turns.{turn}
use Rattle.dds_copies.specs.Copies.{CopiesTable, TellsNext}
use Rattle.dds_copies.specs.Turns.{JoinCopies, JoinHears}

-- The brick of a join takes a letter: what was copied is the table's, and what is on its way from the source is the next part.

module _ (z : Sizes) (cs : List Caller) (made : List Made) (n : Net) (g : Before z made n) (at from : ℕ) (l : Letter) (s : BrickState)
    (f : Takes z n at from l (a_brick s)) where
  abbrev e : Event
  e = brick_takes at from l s

  abbrev u : BrickState
  u = (live_brick_turn s from l).state

  pub copies-now : JoinCopies (table made) s
  copies-now q there join = (g.copy at s q f.here f.live there join).copied

  pub hears-next : JoinHears (table made) s from l
  hears-next q there join phase = first-all (TellsNext (table made) q) z n at from l f.letter ((g.copy at s q f.here f.live there join).parts from phase)

  -- it copies from another brick
  counts-after : AreCounted (moved z n e)
  counts-after = counted-kept z cs n e g.few g.some (its-links z made n g) f (its-counts z made n g)

  not-itself : (o : OpenOrder) (source : NodeNo) → u.order ≡ Some o → o.phase ≡ Copying source → at ≡ source → ⊥
  not-itself o source there phase is =
      let ok : BrickOk at u = subst (NodeOk at) (put-at n.node at (a_brick u)) (counts-after.nodes at) in
      (ok.is.order o there).source source phase (sym is)

  -- who is known to have stopped has nothing on its way
  unknown : (source number : ℕ) → has_part number (n.channel source at) ≡ true → has_node s.known source ≡ false
  unknown source number carried = elim (cases_Bool (has_node s.known source)) [
    | inl k ↦
        let knows_it : knows (view (n.node at)) source ≡ true = ap (λ x. knows (view x) source) f.here ∙ k in
        absurd (no-part number (n.channel source at) (known-empty _ (its-links z made n g source at f.letter.receiver) knows_it) carried)
    | inr k ↦ k
  ]

  -- what is left of a channel whose first letter was taken
  left-behind : (at ≡ from → ⊥) → (moved z n e).channel from at ≡ f.letter.others
  left-behind ne =
      let ls = (live_brick_turn s from l).out.letters in
      ap (λ c. if c then without_first n at from at at ++ gains z ls at else (if at == at then without_first n at from from at else n.channel from at))
      (ne_eqb from at (λ is. ne (sym is)))
      ∙ ap (λ c. if c then without_first n at from from at else n.channel from at) (eq-eqb at at refl)
      ∙ first-taken n at from ∙ ap (drop 1) f.letter.first

  module _ (o : OpenOrder) (there : u.order ≡ Some o) (join : is_join o.task ≡ true) where
    abbrev After : NodeNo → Type 0
    After source = AllByRecursion (TellsNext (table made) o) ((moved z n e).channel source at)

    moves : (source : NodeNo) → o.phase ≡ Copying source → AllByRecursion (TellsNext (table made) o) (n.channel source at) → After source
    moves source phase h =
        parts-moved (table made) o source at z cs n e f
        (other-news (table made) o source at z at (live_brick_turn s from l).out.letters (not-itself o source there phase)) h

    stayed : (source : NodeNo) (p : OpenOrder) → p.number ≡ o.number → o.phase ≡ Copying source → s.order ≡ Some p → is_join p.task ≡ true
        → p.phase ≡ Copying source
        → has_part p.number (n.channel source at) ≡ true → Stays p from source l o → After source
    stayed source p number phase was join_was phase_was carried (as_it_was is) =
        moves source phase (subst (λ (x : OpenOrder). AllByRecursion (TellsNext (table made) x) (n.channel source at)) (sym is)
        ((g.copy at s p f.here f.live was join_was).parts source phase_was))
    stayed source p number phase was join_was phase_was carried (hears is part) =
        let ne = not-itself o source there phase in
        let first : n.channel source at ≡ l ∷ f.letter.others = ap (λ i. n.channel i at) (sym is) ∙ f.letter.first in
        let t = part-brick n p.number source at g.all.low.parts carried in
        let none = none-behind at source s t.0 p l (n.channel at source) (n.channel source at) f.letter.others first f.live
        (unknown source p.number carried) was part (g.all.talk at source p.name s t.0 f.here t.1 (ne_eqb at source ne)) in
        let left : (moved z n e).channel source at ≡ f.letter.others = ap (λ i. (moved z n e).channel i at) (sym is) ∙ left-behind (λ k. ne (k ∙ is)) in
        subst (AllByRecursion (TellsNext (table made) o)) (sym left)
        (none-tell (table made) o f.letter.others (subst (λ i. has_part i f.letter.others ≡ false) number none))

    by-parts : (source : NodeNo) → o.phase ≡ Copying source → WasJoin s o → has_part o.number (n.channel source at) ≡ true → After source
    by-parts source phase w carried =
        let p = w.before in
        let carried_was : has_part p.number (n.channel source at) ≡ true = subst (λ i. has_part i (n.channel source at) ≡ true) w.same.number carried in
        let t = part-brick n p.number source at g.all.low.parts carried_was in
        let ne = not-itself o source there phase in
        let phase_was = part-copies at source s t.0 p (n.channel at source) (n.channel source at) f.live (unknown source p.number carried_was) w.there
        (g.all.talk at source p.name s t.0 f.here t.1 (ne_eqb at source ne)) carried_was in
        stayed source p (sym w.same.number) phase w.there w.join phase_was carried_was
        (still-copies s p o from source w.there phase_was phase l (of-another z made n g at from l s f).below there)

    pub join-kept : CopiesTable (table made) (moved z n e) at o
    join-kept =
        record {
          copied = (turn (table made) s from l copies-now hears-next).copies o there join;
          parts = λ source phase. elim (cases_Bool (has_part o.number (n.channel source at))) [
            | inl c ↦ by-parts source phase (was-join s from l o there join) c
            | inr c ↦ moves source phase (none-tell (table made) o (n.channel source at) c)
          ];
        }
