use Rattle.std.proofs.Common.{◌≡◌, ℕ, ◌+◌, ◌<◌, ◌≤◌, ◌⊎◌, inl, inr, ◌||◌, true, Some, List, [], ◌∷◌, ◌++◌}
use Rattle.std.proofs.Common.{length}
use Rattle.std.proofs.Common.{ap, ◌∙◌, arith}
use Rattle.std.proofs.lemmas.List.{take-append-le}
use Rattle.std.specs.Prelude.{slice_get}
use Rattle.dds_base.specs.BrickList.{has}
use Rattle.dds_base.specs.Op.{the_key}
use Rattle.dds_base.specs.declared.number.CallNo.{CallNo}
use Rattle.dds_base.specs.declared.number.NodeNo.{NodeNo}
use Rattle.dds_base.specs.declared.op.Op.{Op}
use Rattle.dds_cluster.specs.Trace.{run_of, start}
use Rattle.dds_cluster.specs.World.{World, library_at, link}
use Rattle.dds_cluster.specs.declared.step.Step.{Step}
use Rattle.dds_cluster.specs.declared.trace.Asked.{Asked}
use Rattle.dds_net.proofs.Journals.{step-later}
use Rattle.dds_script.specs.Opening.{OpeningOf}
use Rattle.dds_states.specs.declared.library_state.LibraryState.{LibraryState}
use Rattle.dds_world.specs.Causes.{StopsBefore}
use Rattle.dds_world.specs.Places.{world_at}
use Rattle.dds_world.specs.Treated.{IsHandleOf, IsInputOf, list_of_call, map_list, open_as}
use Rattle.dds_calls.proofs.Asked.{WasAsked, get-front}
use Rattle.dds_calls.proofs.Told.{asked-from}

-- At some step of the run its library treated a call, and a stopped brick was one of the call's attempt or of its leaf.

-- the asked call has this caller and number
pub record Is (a : Asked) (caller : ℕ) (call : CallNo) : Type 0 where
  pub caller_is : a.caller ≡ caller
  pub call_is : a.call ≡ call

abbrev pub Listed : Asked → LibraryState → LibraryState → LibraryState → ℕ → Type 0
Listed a before within after brick =
    (has (list_of_call (open_as before a)) brick
    || (has (map_list before (the_key a.op)) brick || (has (map_list within (the_key a.op)) brick || has (map_list after (the_key a.op)) brick)))
    ≡ true

-- at a place before an end
pub record StopCause (o : OpeningOf) (journal : List Step) (end : ℕ) (caller : ℕ) (call : CallNo) (op : Op) (brick : ℕ) : Type 0 where
  pub at : ℕ
  pub inside : at < end
  pub end_in : end ≤ length journal
  pub node : NodeNo
  pub before : LibraryState
  pub within : LibraryState
  pub after : LibraryState
  pub is_before : library_at (world_at o journal at) node ≡ Some before
  pub is_after : library_at (world_at o journal (at + 1)) node ≡ Some after
  pub asked : WasAsked (run_of o journal).asked (at + 1) caller call op
  pub how : (a : Asked) → Is a caller call → IsInputOf journal at node a within after ⊎ IsHandleOf o journal at node a before within after
  pub listed : (a : Asked) → Is a caller call → a.op ≡ op → Listed a before within after brick
  pub stops : StopsBefore journal at brick

-- it stays so as the journal grows

world-front : (o : OpeningOf) (journal more : List Step) (at : ℕ) → at ≤ length journal → world_at o (journal ++ more) at ≡ world_at o journal at
world-front o journal more at le = ap (λ (steps : List Step). (run_of o steps).world) (take-append-le at journal more le)

how-later : (o : OpeningOf) (journal more : List Step) (at : ℕ) (node : NodeNo) (a : Asked) (before within after : LibraryState) → at ≤ length journal
    → IsInputOf journal at node a within after ⊎ IsHandleOf o journal at node a before within after
    → IsInputOf (journal ++ more) at node a within after ⊎ IsHandleOf o (journal ++ more) at node a before within after
how-later o journal more at node a before within after le (inl h) = inl (record { op = h.op; step = step-later journal more at _ h.step; treats = h.treats })
how-later o journal more at node a before within after le (inr h) =
    inr (record {
      from = h.from;
      message = h.message;
      step = step-later journal more at _ h.step;
      first = ap (λ (w : World). slice_get (link w h.from node) 0) (world-front o journal more at le) ∙ h.first;
      treats = h.treats;
      changes = h.changes;
    })

pub cause-later : (o : OpeningOf) (journal more : List Step) (end caller : ℕ) (call : CallNo) (op : Op) (brick : ℕ)
    → StopCause o journal end caller call op brick → StopCause o (journal ++ more) end caller call op brick
cause-later o journal more end caller call op brick h =
    let inside = h.inside in
    let end_in = h.end_in in
    let at_most : h.at ≤ length journal = omega (arith, inside, end_in) in
    let next_too : h.at + 1 ≤ length journal = omega (arith, inside, end_in) in
    let grew = asked-from (start o) journal more in
    let w = h.asked in
    let s = h.stops in
    record {
      at = h.at;
      inside = h.inside;
      end_in = let longer = length-longer journal more in omega (arith, end_in, longer);
      node = h.node;
      before = h.before;
      within = h.within;
      after = h.after;
      is_before = ap (λ (v : World). library_at v h.node) (world-front o journal more h.at at_most) ∙ h.is_before;
      is_after = ap (λ (v : World). library_at v h.node) (world-front o journal more (h.at + 1) next_too) ∙ h.is_after;
      asked = record {
        index = w.index;
        it = w.it;
        there = ap (λ xs. slice_get xs w.index) grew.is ∙ get-front (run_of o journal).asked grew.more w.index w.it w.there;
        caller_is = w.caller_is;
        call_is = w.call_is;
        op_is = w.op_is;
        earlier = w.earlier;
      };
      how = λ a is. how-later o journal more h.at h.node a h.before h.within h.after at_most (h.how a is);
      listed = h.listed;
      stops = record { when = s.when; before = s.before; step = step-later journal more s.when _ s.step };
    }
  where
    length-longer : (xs ys : List Step) → length xs ≤ length (xs ++ ys)
    length-longer [] ys = omega arith
    length-longer (x ∷ xs) ys = let k = length-longer xs ys in omega (arith, k)

-- before a later end
pub cause-end : (o : OpeningOf) (journal : List Step) (end far caller : ℕ) (call : CallNo) (op : Op) (brick : ℕ) → end ≤ far → far ≤ length journal
    → StopCause o journal end caller call op brick → StopCause o journal far caller call op brick
cause-end o journal end far caller call op brick le within h =
    record {
      at = h.at;
      inside = let inside = h.inside in omega (arith, inside, le);
      end_in = within;
      node = h.node;
      before = h.before;
      within = h.within;
      after = h.after;
      is_before = h.is_before;
      is_after = h.is_after;
      asked = h.asked;
      how = h.how;
      listed = h.listed;
      stops = h.stops;
    }
