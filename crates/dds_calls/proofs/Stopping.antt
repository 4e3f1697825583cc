use Rattle.std.proofs.Common.{◌≡◌, ℕ, ◌+◌, ◌⊎◌, inl, inr, ◌==◌, ◌||◌, Bool, true, false, Some, List, [], ◌∷◌, ◌++◌}
use Rattle.std.proofs.Common.{length, refl, sym}
use Rattle.std.proofs.Common.{ap, ◌∙◌, subst, arith}
use Rattle.std.proofs.lemmas.Bool.{eqb-true}
use Rattle.std.proofs.lemmas.List.{take_all}
use Rattle.std.specs.Prelude.{slice_get}
use Rattle.dds_base.specs.BrickList.{has}
use Rattle.dds_base.specs.NodeSet.{has_node}
use Rattle.dds_base.specs.Op.{the_key}
use Rattle.dds_base.specs.declared.number.CallNo.{CallNo}
use Rattle.dds_base.specs.declared.number.CallerNo.{CallerNo}
use Rattle.dds_base.specs.declared.op.Op.{Op}
use Rattle.dds_books.specs.Calls.{CallsOk}
use Rattle.dds_cluster.specs.Trace.{asked_by, is_possible, is_run, run_of, start}
use Rattle.dds_cluster.specs.World.{World, library_at, link}
use Rattle.dds_cluster.specs.declared.step.Input.TheVariants as input
use Rattle.dds_cluster.specs.declared.step.Step.{Step}
use Rattle.dds_cluster.specs.declared.step.Step.TheVariants as step
use Rattle.dds_cluster.specs.declared.trace.Asked.{Asked}
use Rattle.dds_cluster.specs.declared.trace.Trace.{Trace}
use Rattle.dds_commit.proofs.Runs.{parts-hold}
use Rattle.dds_core.proofs.CallTurns.{heard}
use Rattle.dds_core.proofs.Known.{has-with}
use Rattle.dds_core.proofs.Lists.{all-is}
use Rattle.dds_core.specs.LibraryTurn.{call_row, live_library_turn}
use Rattle.dds_law_notice.proofs.Views.{knows, view}
use Rattle.dds_letters.specs.declared.letter.Letter.{Letter}
use Rattle.dds_letters.specs.declared.letter.Letter.TheVariants as letter
use Rattle.dds_net.proofs.Journals.{Grown, IsNext, first-of, last-is, net_of, step-later, world-now}
use Rattle.dds_net.proofs.Places.{node-below}
use Rattle.dds_talk.proofs.Changes.{put-here}
use Rattle.dds_net.proofs.Runs.{next-is}
use Rattle.dds_net.specs.Event.{asked_turn, library_asked, library_takes}
use Rattle.dds_net.specs.Net.{a_library, is_in, sizes_of}
use Rattle.dds_script.specs.Opening.{IsOpening, OpeningOf}
use Rattle.dds_states.specs.Leaf.{leaf_for}
use Rattle.dds_states.specs.declared.library_state.LibraryState.{LibraryState}
use Rattle.dds_talk.proofs.Grounds.{known-over}
use Rattle.dds_world.specs.Causes.{StopsBefore}
use Rattle.dds_world.specs.Places.{world_at}
use Rattle.dds_world.specs.Treated.{attempt_list, list_of_call, list_of_leaf, map_list, open_as, treated_call}
use Rattle.dds_calls.proofs.Alone.{InTheMap}
use Rattle.dds_calls.proofs.Asked.{NodeIs, WasAsked, get-end, get-front}
use Rattle.dds_calls.proofs.Entries.{run-asked}
use Rattle.dds_calls.proofs.Losses.{find-this, library-of}
use Rattle.dds_calls.proofs.Requests.{RequestIs}
use Rattle.dds_calls.proofs.StopCauses.{Is, StopCause}
use Rattle.dds_calls.proofs.Stopped.{notice-stops, stopped-stops}
use Rattle.dds_calls.proofs.Told.{asked-from, steps-are, trace-grown}
use Rattle.dds_calls.proofs.Treats.{Treated}

-- A step at which a library treats a call, and a brick that is known to have stopped is one of the call's.

-- who is known has stopped

known-stops : (o : OpeningOf) (journal : List Step) (at : ℕ) (s : LibraryState) (b : ℕ) → IsOpening o → is_run o journal ≡ true
    → (net_of o journal).node at ≡ a_library s → is_in (sizes_of o) at ≡ true → has_node s.known b ≡ true
    → StopsBefore journal (length journal) b
known-stops o journal at s b h run here inside k =
    let all = parts-hold o journal h run in
    let over = known-over (sizes_of o) (net_of o journal) b at all.holds.linked inside (ap (λ y. knows (view y) b) here ∙ k) in
    stopped-stops o journal b h run over.0

heard-stops : (o : OpeningOf) (journal : List Step) (x : Step) (at from : ℕ) (l : Letter) (s : LibraryState) (b : ℕ) → IsOpening o → is_run o journal ≡ true
    → IsNext o journal x (library_takes at from l s) → has_node (heard s from l).known b ≡ true → StopsBefore journal (length journal) b
heard-stops o journal x at from letter.Notice s b h run next k =
    let f = next.fits in
    by (b == from) refl (sym (has-with s.known from b (node-below (sizes_of o) from h.ranges.bricks h.ranges.libraries f.letter.sender)) ∙ k)
  where
    by : (c : Bool) → (b == from) ≡ c → (c || has_node s.known b) ≡ true → StopsBefore journal (length journal) b
    by true e g =
        subst (StopsBefore journal (length journal)) (sym (eqb-true b from e)) (notice-stops o journal x at from letter.Notice s h run next refl)
    by false e g = known-stops o journal at s b h run next.fits.here next.fits.letter.receiver g
heard-stops o journal x at from other s b h run next k = known-stops o journal at s b h run next.fits.here next.fits.letter.receiver k

stops-later : (journal : List Step) (x : Step) (at b : ℕ) → StopsBefore journal at b → StopsBefore (Grown journal x) at b
stops-later journal x at b s = record { when = s.when; before = s.before; step = step-later journal (x ∷ []) s.when _ s.step }

-- places

length-grown : (xs : List Step) (y : Step) → length (Grown xs y) ≡ length xs + 1
length-grown [] y = refl
length-grown (z ∷ xs) y = let rest = length-grown xs y in omega (arith, rest)

library-before : (o : OpeningOf) (journal : List Step) (x : Step) (at : ℕ) (s : LibraryState) → (net_of o journal).node at ≡ a_library s
    → library_at (world_at o (Grown journal x) (length journal)) at ≡ Some s
library-before o journal x at s here = ap (λ (w : World). library_at w at) (world-now o journal (x ∷ [])) ∙ library-of o journal at s here

library-after : (o : OpeningOf) (journal : List Step) (x : Step) (at : ℕ) (s : LibraryState) → (net_of o (Grown journal x)).node at ≡ a_library s
    → library_at (world_at o (Grown journal x) (length journal + 1)) at ≡ Some s
library-after o journal x at s here =
    let one = length-grown journal x in
    ap (λ (steps : List Step). library_at (run_of o steps).world at) (take_all (length journal + 1) (Grown journal x) (omega (arith, one)))
    ∙ library-of o (Grown journal x) at s here

or-first : (x y : Bool) → x ≡ true → (x || y) ≡ true
or-first true y e = refl
or-first false y e = cc

or-then : (x y : Bool) → y ≡ true → (x || y) ≡ true
or-then true y e = refl
or-then false y e = e

-- at a letter

abbrev after_letter : ℕ → Letter → LibraryState → LibraryState
after_letter from l s = (live_library_turn s from l).state

pub letter-cause : (o : OpeningOf) (journal : List Step) (x : Step) (at from : ℕ) (l : Letter) (s : LibraryState) (t : Treated s from l) (b : ℕ)
    → IsOpening o → is_run o journal ≡ true → IsNext o journal x (library_takes at from l s) → CallsOk (run_of o journal).callers at s
    → ((a : Asked) → Is a t.call.request.caller t.call.request.call → open_as (after_letter from l s) a ≡ Some t.call → ⊥)
    → (has (attempt_list t.call.phase) b ≡ true) × (b ≡ from) × (l ≡ letter.Notice)
    ⊎ InTheMap t.desk.known (the_key t.call.request.op) (call_row t.desk t.call from l).desk.map b
    → StopCause o (Grown journal x) (length (Grown journal x)) t.call.request.caller t.call.request.call t.call.request.op b
letter-cause o journal x at from l s t b h run next own changes seen =
    let c = t.call in
    let after = after_letter from l s in
    let within = treated_call s from l (Some c) in
    let one = length-grown journal x in
    let f = next.fits in
    let first = first-of o journal at from l (subst (λ k. is_possible (run_of o journal) k ≡ true) next.step next.possible) f.letter in
    let g = run-asked o journal h.ranges run in
    let w = all-is (RequestIs (WasAsked (run_of o journal).asked (run_of o journal).steps)) s.calls t.index c
    (subst (NodeIs (WasAsked (run_of o journal).asked (run_of o journal).steps) at) f.here (g.nodes at)) t.there in
    let grew = asked-from (start o) journal (x ∷ []) in
    let count = steps-are o journal in
    let earlier = w.earlier in
    let found = (λ (a : Asked) (is : Is a c.request.caller c.request.call). find-this a s.calls t.index c own.apart t.there is.caller_is
    (ap (λ (k : CallNo). k.0) is.call_is)) in
    record {
      at = length journal;
      inside = omega (arith, one);
      end_in = omega arith;
      node = at;
      before = s;
      within = within;
      after = after;
      is_before = library-before o journal x at s f.here;
      is_after = library-after o journal x at after (ap (λ n. n.node at) next.after ∙ put-here at (a_library after) (net_of o journal).node);
      asked = record {
        index = w.index;
        it = w.it;
        there = ap (λ xs. slice_get xs w.index) grew.is ∙ get-front (run_of o journal).asked grew.more w.index w.it w.there;
        caller_is = w.caller_is;
        call_is = w.call_is;
        op_is = w.op_is;
        earlier = omega (arith, earlier, count);
      };
      how = λ a is. inr (record {
        from = from;
        message = first.message;
        step = last-is journal x ∙ ap Some next.step;
        first = ap (λ (v : World). slice_get (link v from at) 0) (world-now o journal (x ∷ [])) ∙ first.first;
        treats = sym (ap (λ m. treated_call s from m (open_as s a)) first.letter ∙ ap (treated_call s from l) (found a is));
        changes = λ e. changes a is (e ∙ found a is);
      });
      listed = λ a is same. elim seen [
        | inl p ↦ or-first (has (list_of_call (open_as s a)) b) _ (ap (λ q. has (list_of_call q) b) (found a is) ∙ p.0)
        | inr p ↦
            let mine : has (map_list within (the_key a.op)) b ≡ true =
            ap (λ m. has (list_of_leaf (leaf_for m (the_key a.op))) b) t.map
            ∙ ap (λ q. has (list_of_leaf (leaf_for (call_row t.desk c from l).desk.map (the_key q))) b) same ∙ p.0 in
            or-then (has (list_of_call (open_as s a)) b) _ (or-then (has (map_list s (the_key a.op)) b) _
            (or-first (has (map_list within (the_key a.op)) b) (has (map_list after (the_key a.op)) b) mine))
      ];
      stops = elim seen [
        | inl p ↦ subst (StopsBefore (Grown journal x) (length journal)) (sym p.1)
            (stops-later journal x (length journal) from (notice-stops o journal x at from l s h run next p.2))
        | inr p ↦ stops-later journal x (length journal) b
            (heard-stops o journal x at from l s b h run next (ap (λ k. has_node k b) (sym t.knows) ∙ p.1))
      ];
    }

-- at an input

asked-now : (o : OpeningOf) (journal : List Step) (x : Step) → is_possible (run_of o journal) x ≡ true
    → (run_of o (Grown journal x)).asked ≡ (run_of o journal).asked ++ asked_by (run_of o journal).steps x
asked-now o journal x p = ap (λ (t : Trace). t.asked) (trace-grown (start o) journal x ∙ next-is (run_of o journal) x p)

pub input-cause : (o : OpeningOf) (journal : List Step) (x : Step) (at : ℕ) (caller : CallerNo) (call : CallNo) (op : Op) (s : LibraryState) (b : ℕ)
    → IsOpening o → is_run o journal ≡ true → IsNext o journal x (library_asked at caller call op s)
    → InTheMap s.known (the_key op) (asked_turn s caller call op).state.map b
    → StopCause o (Grown journal x) (length (Grown journal x)) caller call op b
input-cause o journal x at caller call op s b h run next seen =
    let after = (asked_turn s caller call op).state in
    let one = length-grown journal x in
    let f = next.fits in
    let t = run_of o journal in
    let it : Asked = record { place = t.steps; caller = caller; call = call; op = op } in
    let now : (run_of o (Grown journal x)).asked ≡ t.asked ++ it ∷ [] =
    asked-now o journal x next.possible ∙ ap (λ y. t.asked ++ asked_by t.steps y) next.step in
    let count = steps-are o journal in
    record {
      at = length journal;
      inside = omega (arith, one);
      end_in = omega arith;
      node = at;
      before = s;
      within = after;
      after = after;
      is_before = library-before o journal x at s f.here;
      is_after = library-after o journal x at after (ap (λ n. n.node at) next.after ∙ put-here at (a_library after) (net_of o journal).node);
      asked = record {
        index = length t.asked;
        it = it;
        there = ap (λ xs. slice_get xs (length t.asked)) now ∙ get-end t.asked it;
        caller_is = refl;
        call_is = refl;
        op_is = refl;
        earlier = omega (arith, count);
      };
      how = λ a is. inl (record {
        op = op;
        step = last-is journal x ∙ ap Some next.step ∙ ap (λ i. Some (step.Input at (input.Call i call op))) (sym is.caller_is)
            ∙ ap (λ i. Some (step.Input at (input.Call a.caller i op))) (sym is.call_is);
        treats = refl;
      });
      listed = λ a is same.
          let mine : has (map_list after (the_key a.op)) b ≡ true =
          ap (λ q. has (list_of_leaf (leaf_for after.map (the_key q))) b) same ∙ seen.0 in
          or-then (has (list_of_call (open_as s a)) b) _ (or-then (has (map_list s (the_key a.op)) b) _
          (or-first (has (map_list after (the_key a.op)) b) (has (map_list after (the_key a.op)) b) mine));
      stops = stops-later journal x (length journal) b (known-stops o journal at s b h run f.here f.inside seen.1);
    }
