use Rattle.std.proofs.Common.{◌≡◌, ℕ, ◌+◌, ◌<◌, ◌&&◌, true, Some, List, [], ◌∷◌, ◌++◌, drop, sym, ap, ◌∙◌, subst, arith}
use Rattle.std.proofs.lemmas.Bool.{and_parts}
use Rattle.std.proofs.lemmas.List.{append_assoc}
use Rattle.std.specs.List.{AllByRecursion}
use Rattle.std.specs.Prelude.{slice_get, take}
use Rattle.dds_base.specs.declared.number.CallNo.{CallNo}
use Rattle.dds_base.specs.declared.number.NodeNo.{NodeNo}
use Rattle.dds_base.specs.declared.op.Op.{Op}
use Rattle.dds_cluster.specs.Trace.{has_first, is_run, run_of, start}
use Rattle.dds_cluster.specs.World.{is_node, link, place}
use Rattle.dds_cluster.specs.declared.step.Message.{Message}
use Rattle.dds_cluster.specs.declared.step.Step.{Step}
use Rattle.dds_cluster.specs.declared.step.Step.TheVariants as step
use Rattle.dds_cluster.specs.declared.trace.Asked.{Asked}
use Rattle.dds_letters.specs.declared.letter.Letter.{Letter}
use Rattle.dds_net.proofs.Journals.{net_of, place-of}
use Rattle.dds_net.proofs.Nodes.{brick-node}
use Rattle.dds_net.proofs.Places.{is-in, place-is}
use Rattle.dds_net.proofs.Runs.{sized-run}
use Rattle.dds_net.proofs.Ways.{channel-is}
use Rattle.dds_net.specs.Net.{a_brick, box, lane, letters_of, place_in, sent, sizes_of}
use Rattle.dds_script.specs.Opening.{OpeningOf, ranges_of}
use Rattle.dds_script.specs.Ranges.{IsRanges}
use Rattle.dds_states.specs.declared.brick_state.BrickState.{BrickState}
use Rattle.dds_world.specs.Places.{Handles}
use Rattle.dds_calls.proofs.Asked.{WasAsked, get-front, one-asked}
use Rattle.dds_calls.proofs.Entries.{run-asked}
use Rattle.dds_calls.proofs.Requests.{LetterIs, OfCall}
use Rattle.dds_calls.proofs.Told.{asked-from, steps-are}

-- A letter that a brick takes at a place: whose call it is of.

-- where the brick is, and what is in the channel
pub record IsTaken (o : OpeningOf) (journal : List Step) (at : ℕ) (from brick : NodeNo) (l : Letter) (s : BrickState) : Type 0 where
  pub run : is_run o (take at journal) ≡ true
  pub here : (net_of o (take at journal)).node brick ≡ a_brick s
  pub others : List Letter
  pub first : (net_of o (take at journal)).channel from brick ≡ l ∷ others

first-cons : (xs : List Message) (m : Message) → slice_get xs 0 ≡ Some m → xs ≡ m ∷ drop 1 xs
first-cons [] m e = cc
first-cons (x ∷ xs) m e = let is : x ≡ m = cc in ap (λ y. y ∷ xs) is

pub taken : (o : OpeningOf) (journal : List Step) (at : ℕ) (brick : NodeNo) (l : Letter) (s : BrickState) → is_run o journal ≡ true
    → (h : Handles o journal at brick l s) → IsTaken o journal at h.from brick l s
taken o journal at brick l s run h =
    let front = take at journal in
    let w = (run_of o front).world in
    let z = sizes_of o in
    let from = h.from in
    let g = sized-run o front in
    let p = place-of o journal at (step.Handle brick from) run h.step in
    let may = and_parts (is_node w brick) (is_node w from && has_first (link w from brick)) p.possible in
    let sender = (and_parts (is_node w from) (has_first (link w from brick)) may.1).0 in
    let i = place_in z.bricks from in
    let j = place_in z.bricks brick in
    let lane_is : link w from brick ≡ lane w i j = ap (λ k. lane w k (place w brick)) (place-is z w from g) ∙ ap (lane w i) (place-is z w brick g) in
    let cons : lane w i j ≡ h.message ∷ drop 1 (lane w i j) = first-cons (lane w i j) h.message (ap (λ ms. slice_get ms 0) (sym lane_is) ∙ h.first) in
    let others = letters_of (drop 1 (lane w i j) ++ sent z.bricks j (box w i)) in
    record {
      run = p.run;
      here = brick-node w brick s h.state;
      others = others;
      first = channel-is z w from brick (sym (is-in z w from g) ∙ sender) (sym (is-in z w brick g) ∙ may.0)
          ∙ ap (λ ms. letters_of (ms ++ sent z.bricks j (box w i))) cons
          ∙ ap (λ x. x ∷ others) h.letter;
    }

-- what was asked by a place

abbrev pub AskedBy : OpeningOf → List Step → ℕ → OfCall
AskedBy o journal at = WasAsked (run_of o (take at journal)).asked (run_of o (take at journal)).steps

pub taken-asked : (o : OpeningOf) (journal : List Step) (at : ℕ) (from brick : NodeNo) (l : Letter) (s : BrickState) → IsRanges (ranges_of o)
    → IsTaken o journal at from brick l s → LetterIs (AskedBy o journal at) l
taken-asked o journal at from brick l s ranges t =
    (subst (AllByRecursion (LetterIs (AskedBy o journal at))) t.first ((run-asked o (take at journal) ranges t.run).letters from brick)).0

-- it is this call of the run
pub record IsCall (a : Asked) (at : ℕ) (op : Op) : Type 0 where
  pub before : a.place < at
  pub op_is : a.op ≡ op

pub same-call : (o : OpeningOf) (journal : List Step) (at i : ℕ) (x : Step) (a : Asked) (caller : ℕ) (call : CallNo) (op : Op) → IsRanges (ranges_of o)
    → is_run o journal ≡ true → slice_get journal at ≡ Some x → slice_get (run_of o journal).asked i ≡ Some a → AskedBy o journal at caller call op
    → a.caller ≡ caller → a.call.0 ≡ call.0 → IsCall a at op
same-call o journal at i x a caller call op ranges run is there w callers calls =
    let front = take at journal in
    let p = place-of o journal at x run is in
    let whole : front ++ (x ∷ drop (at + 1) journal) ≡ journal = sym (append_assoc front (x ∷ []) (drop (at + 1) journal)) ∙ p.whole in
    let grew = asked-from (start o) front (x ∷ drop (at + 1) journal) in
    let later : slice_get (run_of o journal).asked w.index ≡ Some w.it =
    ap (λ (j : List Step). slice_get (run_of o j).asked w.index) (sym whole) ∙ ap (λ xs. slice_get xs w.index) grew.is
    ∙ get-front (run_of o front).asked grew.more w.index w.it w.there in
    let g = run-asked o journal ranges run in
    let same : a ≡ w.it = one-asked (run_of o journal).asked i w.index a w.it g.apart there later (callers ∙ sym w.caller_is)
    (calls ∙ sym (ap (λ (c : CallNo). c.0) w.call_is)) in
    let earlier = w.earlier in
    let count : (run_of o front).steps ≡ at = steps-are o front ∙ p.place in
    record {
      before = subst (λ (b : Asked). b.place < at) (sym same) (omega (arith, earlier, count));
      op_is = ap (λ (b : Asked). b.op) same ∙ w.op_is;
    }
