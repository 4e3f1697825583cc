use Rattle.std.proofs.Common.{◌≡◌, ℕ, zero, suc, ◌+◌, ◌<◌, ◌≤◌, ◌&&◌, true, false, Some, List, [], ◌∷◌, ◌++◌, drop, length, refl, sym, ap, ◌∙◌, subst, arith}
use Rattle.std.proofs.Math.Seq.{take-append_seam}
use Rattle.std.proofs.lemmas.Bool.{and_parts}
use Rattle.std.proofs.lemmas.List.{append-nil, append_assoc, length-take-le, take-append-le}
use Rattle.std.proofs.lemmas.Option.{slice_get_within}
use Rattle.std.specs.Prelude.{slice_get, take, if◌then◌else◌}
use Rattle.dds_base.specs.declared.number.NodeNo.{NodeNo}
use Rattle.dds_cluster.specs.Trace.{has_first, is_possible, is_run, is_run_from, next, replies_in, run_of, start, trace_from}
use Rattle.dds_cluster.specs.Turn.{turn}
use Rattle.dds_cluster.specs.World.{World, brick_at, is_node, link, place}
use Rattle.dds_cluster.specs.declared.step.Message.{Message}
use Rattle.dds_cluster.specs.declared.step.Step.{Step}
use Rattle.dds_cluster.specs.declared.step.Step.TheVariants as step
use Rattle.dds_cluster.specs.declared.trace.Trace.{Trace}
use Rattle.dds_letters.specs.declared.letter.Letter.{Letter}
use Rattle.dds_script.specs.Opening.{OpeningOf}
use Rattle.dds_states.specs.declared.brick_state.BrickState.{BrickState}
use Rattle.dds_world.specs.Places.{Handles, world_at}
use Rattle.dds_net.proofs.Places.{place-is}
use Rattle.dds_net.proofs.Prefixes.{run-take}
use Rattle.dds_net.proofs.Runs.{next-is, sized-run}
use Rattle.dds_net.proofs.Steps.{step-moves}
use Rattle.dds_net.proofs.Ways.{NodeIs, channel-is, is_brick, is_library, is_nowhere, node-is}
use Rattle.dds_net.specs.Event.{Event, Fits, IsFirst, moved, replies_of}
use Rattle.dds_net.specs.Law.{IsStepOf}
use Rattle.dds_net.specs.Net.{Net, a_brick, box, lane, letters_of, net, node_at, place_in, sent, sizes_of}

-- What is so of a journal and of the nodes and channels that it leaves, along each run; and what was so at a place of a journal
-- stays so as the journal grows.

abbrev pub net_of : OpeningOf → List Step → Net
net_of o journal = net (sizes_of o) (run_of o journal).world

abbrev pub Grown : List Step → Step → List Step
Grown journal x = journal ++ x ∷ []

-- the step comes next to the journal, and is this event
pub record IsNext (o : OpeningOf) (journal : List Step) (x : Step) (e : Event) : Type 0 where
  pub possible : is_possible (run_of o journal) x ≡ true
  pub step : IsStepOf x e
  pub fits : Fits (sizes_of o) (run_of o journal).callers (net_of o journal) e
  pub replies : replies_in (run_of o journal) x ≡ replies_of e
  pub after : net_of o (Grown journal x) ≡ moved (sizes_of o) (net_of o journal) e

trace-grown : (t : Trace) (journal : List Step) (x : Step) → trace_from t (Grown journal x) ≡ next (trace_from t journal) x
trace-grown t [] x = refl
trace-grown t (y ∷ journal) x = trace-grown (next t y) journal x

pub next-event : (o : OpeningOf) (journal : List Step) (x : Step) → o.bricks ≤ 64 → is_possible (run_of o journal) x ≡ true → (e : Event) × IsNext o journal x e
next-event o journal x few p =
    let t = run_of o journal in
    let m = step-moves (sizes_of o) t x few (sized-run o journal) p in (
      m.event,
      record {
        possible = p;
        step = m.step;
        fits = m.fits;
        replies = ap (λ b. if b then (turn t.steps t.world x).replies else []) p ∙ m.replies;
        after = ap (λ (u : Trace). net (sizes_of o) u.world) (trace-grown (start o) journal x ∙ next-is t x p) ∙ m.after;
      },
    )

-- each step that comes next keeps what is said
abbrev pub EachKeeps : OpeningOf → (List Step → Net → Type 0) → Type 0
EachKeeps o says =
    (journal : List Step) (x : Step) (e : Event) → IsNext o journal x e → says journal (net_of o journal)
    → says (Grown journal x) (moved (sizes_of o) (net_of o journal) e)

journal-from : (o : OpeningOf) (says : List Step → Net → Type 0) (journal more : List Step) → o.bricks ≤ 64 → EachKeeps o says → says journal (net_of o journal)
    → is_run_from (run_of o journal) more ≡ true → says (journal ++ more) (net_of o (journal ++ more))
journal-from o says journal [] few keeps g r = subst (λ steps. says steps (net_of o steps)) (sym (append-nil journal)) g
journal-from o says journal (x ∷ more) few keeps g r =
    let p = and_parts (is_possible (run_of o journal) x) (is_run_from (next (run_of o journal) x) more) r in
    let n = next-event o journal x few p.0 in
    let now = subst (says (Grown journal x)) (sym n.1.after) (keeps journal x n.0 n.1 g) in
    subst (λ steps. says steps (net_of o steps)) (append_assoc journal (x ∷ []) more)
    (journal-from o says (Grown journal x) more few keeps now (subst (λ (t : Trace). is_run_from t more ≡ true) (sym (trace-grown (start o) journal x)) p.1))

pub journal-keeps : (o : OpeningOf) (says : List Step → Net → Type 0) (journal : List Step) → o.bricks ≤ 64 → EachKeeps o says → says [] (net_of o [])
    → is_run o journal ≡ true → says journal (net_of o journal)
journal-keeps o says journal few keeps g r = journal-from o says [] journal few keeps g r

-- The step at a place of a run

pub record IsPlace (o : OpeningOf) (journal : List Step) (at : ℕ) (x : Step) : Type 0 where
  pub run : is_run o (take at journal) ≡ true
  pub possible : is_possible (run_of o (take at journal)) x ≡ true
  pub whole : Grown (take at journal) x ++ drop (at + 1) journal ≡ journal
  pub place : length (take at journal) ≡ at

possible-at : (t : Trace) (journal : List Step) (at : ℕ) (x : Step) → is_run_from t journal ≡ true → slice_get journal at ≡ Some x
    → is_possible (trace_from t (take at journal)) x ≡ true
possible-at t [] at x r e = cc
possible-at t (y ∷ journal) zero x r e =
    let is : y ≡ x = cc in
    subst (λ k. is_possible t k ≡ true) is (and_parts (is_possible t y) (is_run_from (next t y) journal) r).0
possible-at t (y ∷ journal) (suc at) x r e = possible-at (next t y) journal at x (and_parts (is_possible t y) (is_run_from (next t y) journal) r).1 e

whole-at : (journal : List Step) (at : ℕ) (x : Step) → slice_get journal at ≡ Some x → Grown (take at journal) x ++ drop (suc at) journal ≡ journal
whole-at [] at x e = cc
whole-at (y ∷ journal) zero x e = let is : y ≡ x = cc in ap (λ k. k ∷ journal) (sym is)
whole-at (y ∷ journal) (suc at) x e = ap (λ steps. y ∷ steps) (whole-at journal at x e)

pub place-of : (o : OpeningOf) (journal : List Step) (at : ℕ) (x : Step) → is_run o journal ≡ true → slice_get journal at ≡ Some x → IsPlace o journal at x
place-of o journal at x r e =
    let inside = slice_get_within journal at x e in
    let next_one : suc at ≡ at + 1 = omega arith in
    record {
      run = run-take (start o) journal at r;
      possible = possible-at (start o) journal at x r e;
      whole = ap (λ k. Grown (take at journal) x ++ drop k journal) (sym next_one) ∙ whole-at journal at x e;
      place = length-take-le at journal (omega (arith, inside));
    }

-- What was so at a place

pub last-is : (journal : List Step) (x : Step) → slice_get (Grown journal x) (length journal) ≡ Some x
last-is [] x = refl
last-is (y ∷ journal) x = last-is journal x

pub world-now : (o : OpeningOf) (journal more : List Step) → world_at o (journal ++ more) (length journal) ≡ (run_of o journal).world
world-now o journal more = ap (λ (steps : List Step). (run_of o steps).world) (take-append_seam journal more)

front-has : (journal more : List Step) (at : ℕ) → at < length journal → slice_get (journal ++ more) at ≡ slice_get journal at
front-has [] more at h = absurd (omega (arith, h))
front-has (x ∷ journal) more zero h = refl
front-has (x ∷ journal) more (suc at) h = front-has journal more at (omega (arith, h))

pub step-later : (journal more : List Step) (at : ℕ) (x : Step) → slice_get journal at ≡ Some x → slice_get (journal ++ more) at ≡ Some x
step-later journal more at x is = front-has journal more at (slice_get_within journal at x is) ∙ is

pub world-later : (o : OpeningOf) (journal more : List Step) (at : ℕ) (x : Step) → slice_get journal at ≡ Some x
    → world_at o (journal ++ more) at ≡ world_at o journal at
world-later o journal more at x is =
    let inside = slice_get_within journal at x is in
    ap (λ (steps : List Step). (run_of o steps).world) (take-append-le at journal more (omega (arith, inside)))

abbrev pub handles-later : (o : OpeningOf) (journal more : List Step) (at : ℕ) (brick : NodeNo) (l : Letter) (s : BrickState) → Handles o journal at brick l s
    → Handles o (journal ++ more) at brick l s
handles-later o journal more at brick l s h =
    let same = world-later o journal more at _ h.step in
    record {
      from = h.from;
      message = h.message;
      step = step-later journal more at _ h.step;
      first = ap (λ (w : World). slice_get (link w h.from brick) 0) same ∙ h.first;
      letter = h.letter;
      state = ap (λ (w : World). brick_at w brick) same ∙ h.state;
      live = h.live;
    }

-- a live brick takes the first letter of a channel at the step that comes next
brick-if : (w : World) (n : ℕ) (s : BrickState) → NodeIs w n → node_at w n ≡ a_brick s → brick_at w n ≡ Some s
brick-if w n s (is_nowhere e) h = let no = sym e ∙ h in cc
brick-if w n s (is_brick x b e) h = let same = sym e ∙ h in let is : x ≡ s = cc in b ∙ ap Some is
brick-if w n s (is_library x b e) h = let no = sym e ∙ h in cc

brick-of : (w : World) (n : ℕ) (s : BrickState) → node_at w n ≡ a_brick s → brick_at w n ≡ Some s
brick-of w n s h = brick-if w n s (node-is w n) h

-- the brick in the world in which the step at the end of a journal stands
pub brick-now : (o : OpeningOf) (journal : List Step) (x : Step) (n : ℕ) (s : BrickState) → (net_of o journal).node n ≡ a_brick s
    → brick_at (world_at o (Grown journal x) (length journal)) n ≡ Some s
brick-now o journal x n s here = ap (λ (v : World). brick_at v n) (world-now o journal (x ∷ [])) ∙ brick-of (run_of o journal).world n s here

pub record FirstOn (ms : List Message) (l : Letter) : Type 0 where
  pub message : Message
  pub first : slice_get ms 0 ≡ Some message
  pub letter : message.letter ≡ l

first-on : (ms more : List Message) (l : Letter) (others : List Letter) → has_first ms ≡ true → letters_of (ms ++ more) ≡ l ∷ others → FirstOn ms l
first-on [] more l others h e = cc
first-on (m ∷ ms) more l others h e = record { message = m; first = refl; letter = cc }

pub first-of : (o : OpeningOf) (journal : List Step) (n from : NodeNo) (l : Letter) → is_possible (run_of o journal) (step.Handle n from) ≡ true
    → IsFirst (sizes_of o) (net_of o journal) n from l → FirstOn (link (run_of o journal).world from n) l
first-of o journal n from l p f =
    let w = (run_of o journal).world in
    let z = sizes_of o in
    let g = sized-run o journal in
    let i = place_in z.bricks from in
    let j = place_in z.bricks n in
    let at : link w from n ≡ lane w i j = ap (λ p. lane w p (place w n)) (place-is z w from g) ∙ ap (lane w i) (place-is z w n g) in
    let may = and_parts (is_node w from) (has_first (link w from n)) (and_parts (is_node w n) (is_node w from && has_first (link w from n)) p).1 in
    let whole = sym (channel-is z w from n f.sender f.receiver) ∙ f.first in
    subst (λ ms. FirstOn ms l) (sym at) (first-on (lane w i j) (sent z.bricks j (box w i)) l f.others (ap has_first (sym at) ∙ may.1) whole)

abbrev pub handles-now : (o : OpeningOf) (journal : List Step) (x : Step) (n from : NodeNo) (l : Letter) (s : BrickState) → x ≡ step.Handle n from
    → is_possible (run_of o journal) x ≡ true → IsFirst (sizes_of o) (net_of o journal) n from l → (net_of o journal).node n ≡ a_brick s → s.stopped ≡ false
    → Handles o (Grown journal x) (length journal) n l s
handles-now o journal x n from l s is p f here live =
    let w = (run_of o journal).world in
    let now = world-now o journal (x ∷ []) in
    let first = first-of o journal n from l (subst (λ k. is_possible (run_of o journal) k ≡ true) is p) f in
    record {
      from = from;
      message = first.message;
      step = last-is journal x ∙ ap Some is;
      first = ap (λ (v : World). slice_get (link v from n) 0) now ∙ first.first;
      letter = first.letter;
      state = brick-now o journal x n s here;
      live = live;
    }
