use Rattle.std.proofs.Common.{◌≡◌, ℕ, ◌≤◌, ◌⊎◌, inl, inr, true, Option, Some, List, [], ◌∷◌}
use Rattle.std.proofs.Common.{length, refl, sym, ap, ◌∙◌, subst, arith}
use Rattle.std.proofs.lemmas.Bool.{cases_eq}
use Rattle.std.specs.List.{AllByRecursion}
use Rattle.std.specs.Prelude.{slice_get}
use Rattle.dds_base.specs.Op.{the_key}
use Rattle.dds_base.specs.declared.leaf.Leaf.{Leaf}
use Rattle.dds_base.specs.declared.node_set.NodeSet.{NodeSet}
use Rattle.dds_base.specs.declared.number.CallNo.{CallNo}
use Rattle.dds_base.specs.declared.number.CallerNo.{CallerNo}
use Rattle.dds_base.specs.declared.number.NodeNo.{NodeNo}
use Rattle.dds_base.specs.declared.op.Met.{Met}
use Rattle.dds_base.specs.declared.op.Met.TheVariants as met
use Rattle.dds_base.specs.declared.op.Op.{Op}
use Rattle.dds_books.proofs.Turns.{end-with}
use Rattle.dds_books.specs.Calls.{CallsOk}
use Rattle.dds_books.specs.Placed as placed
use Rattle.dds_call_rows.specs.Library.{begin}
use Rattle.dds_cluster.specs.Trace.{is_run, next, run_of}
use Rattle.dds_cluster.specs.declared.step.Step.{Step}
use Rattle.dds_cluster.specs.declared.trace.Asked.{Asked}
use Rattle.dds_core.proofs.CallDoes.{call-does, new-begins}
use Rattle.dds_core.proofs.Lists.{all-is, all-map}
use Rattle.dds_core.specs.LibraryTurn.{call_row, desk_of, live_library_turn, new_request}
use Rattle.dds_law_leaf.proofs.Book.{InCall, InLibrary}
use Rattle.dds_letters.specs.declared.letter.Letter.{Letter}
use Rattle.dds_net.proofs.Carried.{Becomes, nodes-moved}
use Rattle.dds_net.proofs.Journals.{Grown, IsNext, net_of}
use Rattle.dds_net.proofs.Letters.{first-all}
use Rattle.dds_net.proofs.Opening.{IsNew, new_a_brick, new_a_library, no_node, start-node}
use Rattle.dds_net.specs.Event.{Event, nothing, unheard, unasked, brick_takes, brick_told, brick_stops, library_takes, library_asked, library_stops}
use Rattle.dds_net.specs.Event.{asked_turn}
use Rattle.dds_net.specs.Net.{Node, nowhere, a_brick, a_library, Sizes, sizes_of}
use Rattle.dds_script.specs.Opening.{IsOpening, OpeningOf}
use Rattle.dds_states.specs.declared.library_state.LibraryState.{LibraryState}
use Rattle.dds_states.specs.declared.library_state.OpenCall.{OpenCall}
use Rattle.dds_states.specs.declared.library_state.Phase.{Phase}
use Rattle.dds_states.specs.declared.library_state.Phase.TheVariants as phase
use Rattle.dds_talk.proofs.Changes.{put-here}
use Rattle.dds_world.specs.Treated.{open_as}
use Rattle.dds_calls.proofs.Alone.{Ends, InTheMap, Members, Seen, StopSeen, begin-ends, had, in_list, in_map, row-ends}
use Rattle.dds_calls.proofs.Answered.{differ, made-all, own-calls}
use Rattle.dds_calls.proofs.Asked.{all-each}
use Rattle.dds_calls.proofs.Filled.{NodeFilled, along, run-filled}
use Rattle.dds_calls.proofs.Fills.{Fills, IsFilled}
use Rattle.dds_calls.proofs.Locked.{run-booked}
use Rattle.dds_calls.proofs.Losses.{find-this}
use Rattle.dds_calls.proofs.Refused.{the_no}
use Rattle.dds_calls.proofs.Requests.{begun, does}
use Rattle.dds_calls.proofs.StopCauses.{Is, StopCause, cause-end, cause-later}
use Rattle.dds_calls.proofs.Stopping.{input-cause, letter-cause}
use Rattle.dds_calls.proofs.Treats.{Becomes as BecomesCall, Treated, Was, library-treats}

-- A call that was answered Again since a brick stopped had that brick in its attempt, or in its library's leaf.

-- The invariant, of each open call that looks for a newer map since a brick stopped.
--
-- | part       | why it is needed                                     | which rows keep it                                                 |
-- | `CallStop` | it may be answered so later: what a turn has met is  | what asks all bricks for their leaves has just met it, or kept it  |
-- |            | gone from the call's phase                           |                                                                    |

abbrev pub HasCause : OpeningOf → List Step → ℕ → ℕ → CallNo → Op → Type 0
HasCause o journal b caller call op = StopCause o journal (length journal) caller call op b

abbrev pub CallStop : OpeningOf → List Step → OpenCall → Type 0
CallStop o journal c =
    (w : List NodeNo) (n : Option Leaf) (b : ℕ) → c.phase ≡ phase.Asking w n (met.Stopped b) → HasCause o journal b c.request.caller c.request.call c.request.op

abbrev pub NodeStops : OpeningOf → List Step → ℕ → Node → Type 0
NodeStops o journal k nowhere = Unit {0}
NodeStops o journal k (a_brick s) = Unit {0}
NodeStops o journal k (a_library s) = AllByRecursion (CallStop o journal) s.calls

longer : (xs : List Step) (y : Step) → length xs ≤ length (Grown xs y)
longer [] y = omega arith
longer (z ∷ xs) y = let rest = longer xs y in omega (arith, rest)

cause-grown : (o : OpeningOf) (journal : List Step) (x : Step) (b caller : ℕ) (call : CallNo) (op : Op) → HasCause o journal b caller call op
    → HasCause o (Grown journal x) b caller call op
cause-grown o journal x b caller call op h =
    cause-end o (Grown journal x) (length journal) (length (Grown journal x)) caller call op b (longer journal x) (omega arith)
    (cause-later o journal (x ∷ []) (length journal) caller call op b h)

call-grown : (o : OpeningOf) (journal : List Step) (x : Step) (c : OpenCall) → CallStop o journal c → CallStop o (Grown journal x) c
call-grown o journal x c h w n b e = cause-grown o journal x b c.request.caller c.request.call c.request.op (h w n b e)

node-grown : (o : OpeningOf) (journal : List Step) (x : Step) (k : ℕ) (y : Node) → NodeStops o journal k y → NodeStops o (Grown journal x) k y
node-grown o journal x k nowhere h = tt
node-grown o journal x k (a_brick s) h = tt
node-grown o journal x k (a_library s) h = all-map (CallStop o journal) (CallStop o (Grown journal x)) s.calls (λ c i. call-grown o journal x c i) h

-- a phase that looks for that already
record Looks (p : Phase) (b : ℕ) : Type 0 where
  waiting : List NodeNo
  newest : Option Leaf
  is : p ≡ phase.Asking waiting newest (met.Stopped b)

abbrev NoLook : Phase → ℕ → Type 0
NoLook p b = (w : List NodeNo) (n : Option Leaf) → p ≡ phase.Asking w n (met.Stopped b) → ⊥

looks-met : (w : List NodeNo) (n : Option Leaf) (m : Met) (b : ℕ) → Looks (phase.Asking w n m) b ⊎ NoLook (phase.Asking w n m) b
looks-met w n (met.Stopped d) b = elim (cases_eq d b) [
  | inl e ↦ inl (record { waiting = w; newest = n; is = ap (λ i. phase.Asking w n (met.Stopped i)) e })
  | inr ne ↦ inr (λ v k e. ne cc)
]
looks-met w n (met.Lease d) b = inr (λ v k e. cc)
looks-met w n (met.Lock d) b = inr (λ v k e. cc)
looks-met w n (met.Stale d) b = inr (λ v k e. cc)

looks : (p : Phase) (b : ℕ) → Looks p b ⊎ NoLook p b
looks (phase.Asking w n m) b = looks-met w n m b
looks (phase.Getting leaf brick) b = inr (λ w n e. cc)
looks (phase.Preparing leaf list waiting) b = inr (λ w n e. cc)
looks (phase.Committing leaf list waiting was) b = inr (λ w n e. cc)
looks (phase.Aborting waiting why brick) b = inr (λ w n e. cc)

-- a library takes a letter

members-ok : (z : Sizes) (known : NodeSet) (op : Op) (p : Phase) → placed.PhaseOk z known op p → Members p
members-ok z known op (phase.Preparing leaf list waiting) h = h.1.members
members-ok z known op (phase.Getting leaf brick) h = tt
members-ok z known op (phase.Committing leaf list waiting was) h = tt
members-ok z known op (phase.Aborting waiting why brick) h = tt
members-ok z known op (phase.Asking waiting newest m) h = tt

pub its-ends : (o : OpeningOf) (journal : List Step) (x : Step) (at from : ℕ) (l : Letter) (s : LibraryState) (t : Treated s from l) → IsOpening o
    → is_run o journal ≡ true → IsNext o journal x (library_takes at from l s)
    → Ends (λ map m. Seen t.call from l t.desk.known map m) (call_row t.desk t.call from l)
its-ends o journal x at from l s t h run next =
    let z = sizes_of o in
    let n = net_of o journal in
    let f = next.fits in
    let g = run-filled o journal h run in
    let own : InLibrary IsFilled s = subst (NodeFilled at) f.here (g.nodes at) in
    let first = first-all Fills z n at from l f.letter (g.letters from at) in
    let k = subst (placed.NodeOk (placed.Made n) z at) f.here ((run-booked o journal h run).placed.nodes at) in
    let ok = all-is (placed.CallOk z s.number s.next s.known) s.calls t.index t.call k.calls t.there in
    row-ends t.desk t.call from l (t.filled own first) (all-is (InCall IsFilled) s.calls t.index t.call own.calls t.there) first
    (members-ok z s.known t.call.request.op t.call.phase ok.its_phase)

-- what it had, or what is seen now
pub cause-of : (o : OpeningOf) (journal : List Step) (x : Step) (at from : ℕ) (l : Letter) (s : LibraryState) (t : Treated s from l) (b : ℕ) → IsOpening o
    → is_run o journal ≡ true → IsNext o journal x (library_takes at from l s) → AllByRecursion (CallStop o journal) s.calls
    → (NoLook t.call.phase b → (a : Asked) → Is a t.call.request.caller t.call.request.call → open_as (live_library_turn s from l).state a ≡ Some t.call → ⊥)
    → StopSeen t.call from l t.desk.known (call_row t.desk t.call from l).desk.map b
    → HasCause o (Grown journal x) b t.call.request.caller t.call.request.call t.call.request.op
cause-of o journal x at from l s t b h run next g changes seen = elim (looks t.call.phase b) [
  | inl k ↦ old k.waiting k.newest k.is
  | inr no_look ↦ now seen no_look
]
  where
    old : (w : List NodeNo) (n : Option Leaf) → t.call.phase ≡ phase.Asking w n (met.Stopped b)
        → HasCause o (Grown journal x) b t.call.request.caller t.call.request.call t.call.request.op
    old w n e = call-grown o journal x t.call (all-is (CallStop o journal) s.calls t.index t.call g t.there) w n b e

    now : StopSeen t.call from l t.desk.known (call_row t.desk t.call from l).desk.map b → NoLook t.call.phase b
        → HasCause o (Grown journal x) b t.call.request.caller t.call.request.call t.call.request.op
    now (had w n e) k = absurd (k w n e)
    now (in_list p q n) k =
        letter-cause o journal x at from l s t b h run next (own-calls o journal at s h run next.fits.here) (changes k) (inl (p, q, n))
    now (in_map p) k =
        letter-cause o journal x at from l s t b h run next (own-calls o journal at s h run next.fits.here) (changes k) (inr p)

-- the library after the event
pub calls-after : (o : OpeningOf) (journal : List Step) (x : Step) (at from : ℕ) (l : Letter) (s : LibraryState) → IsOpening o
    → is_run o (Grown journal x) ≡ true
    → IsNext o journal x (library_takes at from l s) → CallsOk (run_of o (Grown journal x)).callers at (live_library_turn s from l).state
calls-after o journal x at from l s h run next =
    own-calls o (Grown journal x) at (live_library_turn s from l).state h run
    (ap (λ n. n.node at) next.after ∙ put-here at (a_library (live_library_turn s from l).state) (net_of o journal).node)

becomes-stop : (o : OpeningOf) (journal : List Step) (x : Step) (at from : ℕ) (l : Letter) (s : LibraryState) (j : ℕ) (y : OpenCall) → IsOpening o
    → is_run o journal ≡ true → is_run o (Grown journal x) ≡ true → IsNext o journal x (library_takes at from l s) → AllByRecursion (CallStop o journal) s.calls
    → slice_get (live_library_turn s from l).state.calls j ≡ Some y → BecomesCall s from l y → CallStop o (Grown journal x) y
becomes-stop o journal x at from l s j y h run run_on next g there k w n b e =
    let t = k.by in
    let c = t.call in
    let after = (live_library_turn s from l).state in
    let seen = (its-ends o journal x at from l s t h run next).asks y w n (met.Stopped b) k.goes e in
    let same = (does (λ i q p. (i ≡ c.request.caller) × (q ≡ c.request.call) × (p ≡ c.request.op)) t.desk c from l (call_row t.desk c from l)
    (call-does t.desk c from l) (refl, refl, refl)).stays y k.goes in
    let own = calls-after o journal x at from l s h run_on next in
    let cause = cause-of o journal x at from l s t b h run next g (λ no_look a is found.
    let mine = find-this a after.calls j y own.apart there (is.caller_is ∙ sym same.0) (ap the_no (is.call_is ∙ sym same.1)) in
    let one : y ≡ c = let both = sym mine ∙ found in cc in
    no_look w n (ap (λ (q : OpenCall). q.phase) (sym one) ∙ e)) seen in
    subst (λ p. HasCause o (Grown journal x) b y.request.caller y.request.call p) (sym same.2)
    (subst (λ q. HasCause o (Grown journal x) b y.request.caller q c.request.op) (sym same.1)
    (subst (λ i. HasCause o (Grown journal x) b i c.request.call c.request.op) (sym same.0) cause))

takes-stops : (o : OpeningOf) (journal : List Step) (x : Step) (at from : ℕ) (l : Letter) (s : LibraryState) → IsOpening o
    → is_run o journal ≡ true → is_run o (Grown journal x) ≡ true → IsNext o journal x (library_takes at from l s) → AllByRecursion (CallStop o journal) s.calls
    → AllByRecursion (CallStop o (Grown journal x)) (live_library_turn s from l).state.calls
takes-stops o journal x at from l s h run run_on next g =
    let own = own-calls o journal at s h run next.fits.here in
    let k = library-treats s from l next.fits.live (differ s.calls own.apart) (made-all s.next s.calls own.below) in
    all-each _ (live_library_turn s from l).state.calls (λ j y there.
    elim (all-is (λ q. Was s q ⊎ BecomesCall s from l q) (live_library_turn s from l).state.calls j y k.calls there) [
      | inl was ↦ call-grown o journal x y (all-is (CallStop o journal) s.calls was.index y g was.there)
      | inr b ↦ becomes-stop o journal x at from l s j y h run run_on next g there b
    ])

-- a call that begins
pub input-ends : (o : OpeningOf) (journal : List Step) (x : Step) (at : ℕ) (caller : CallerNo) (call : CallNo) (op : Op) (s : LibraryState) → IsOpening o
    → is_run o journal ≡ true → IsNext o journal x (library_asked at caller call op s)
    → Ends (λ map m. (b : ℕ) → m ≡ met.Stopped b → InTheMap s.known (the_key op) map b) (begin (desk_of s s.calls) (new_request caller call op))
input-ends o journal x at caller call op s h run next =
    let own : InLibrary IsFilled s = subst (NodeFilled at) next.fits.here ((run-filled o journal h run).nodes at) in
    begin-ends (λ map m. (b : ℕ) → m ≡ met.Stopped b → InTheMap s.known (the_key op) map b) (desk_of s s.calls) (new_request caller call op)
    (λ map b k d e. let is : b ≡ d = cc in subst (InTheMap s.known (the_key op) map) is k) own.map

begun-request : (o : OpeningOf) (caller : ℕ) (call : CallNo) (op : Op) (s : LibraryState) (y : OpenCall)
    → (begin (desk_of s s.calls) (new_request caller call op)).went.call ≡ Some y → (y.request.caller ≡ caller) × (y.request.call ≡ call) × (y.request.op ≡ op)
begun-request o caller call op s y e =
    (begun (λ i q p. (i ≡ caller) × (q ≡ call) × (p ≡ op)) (desk_of s s.calls) (new_request caller call op)
    (begin (desk_of s s.calls) (new_request caller call op)) (new-begins (desk_of s s.calls) (new_request caller call op))
    (refl, refl, refl)).stays y e

asked-stops : (o : OpeningOf) (journal : List Step) (x : Step) (at : ℕ) (caller : CallerNo) (call : CallNo) (op : Op) (s : LibraryState) → IsOpening o
    → is_run o journal ≡ true → IsNext o journal x (library_asked at caller call op s) → AllByRecursion (CallStop o journal) s.calls
    → AllByRecursion (CallStop o (Grown journal x)) (asked_turn s caller call op).state.calls
asked-stops o journal x at caller call op s h run next g =
    let t = begin (desk_of s s.calls) (new_request caller call op) in
    (end-with s.calls t.went.call).each (CallStop o (Grown journal x)) (all-map (CallStop o journal) _ s.calls (λ c i. call-grown o journal x c i) g)
    (λ y e w n b f.
    let same = begun-request o caller call op s y e in
    let seen = (input-ends o journal x at caller call op s h run next).asks y w n (met.Stopped b) e f b refl in
    subst (λ p. HasCause o (Grown journal x) b y.request.caller y.request.call p) (sym same.2)
    (subst (λ q. HasCause o (Grown journal x) b y.request.caller q op) (sym same.1)
    (subst (λ i. HasCause o (Grown journal x) b i call op) (sym same.0) (input-cause o journal x at caller call op s b h run next seen))))

becomes : (o : OpeningOf) (journal : List Step) (x : Step) (e : Event) → IsOpening o → is_run o journal ≡ true → is_run o (Grown journal x) ≡ true
    → IsNext o journal x e → ((k : ℕ) → NodeStops o journal k ((net_of o journal).node k)) → Becomes (NodeStops o (Grown journal x)) e
becomes o journal x (library_takes at from l s) h run run_on next g =
    takes-stops o journal x at from l s h run run_on next (subst (NodeStops o journal at) next.fits.here (g at))
becomes o journal x (library_asked at caller call op s) h run run_on next g =
    asked-stops o journal x at caller call op s h run next (subst (NodeStops o journal at) next.fits.here (g at))
becomes o journal x (library_stops at s left) h run run_on next g =
    node-grown o journal x at (a_library s) (subst (NodeStops o journal at) next.fits.here (g at))
becomes o journal x nothing h run run_on next g = tt
becomes o journal x (unheard at from l) h run run_on next g = tt
becomes o journal x (unasked at caller call op) h run run_on next g = tt
becomes o journal x (brick_takes at from l s) h run run_on next g = tt
becomes o journal x (brick_told at ord s) h run run_on next g = tt
becomes o journal x (brick_stops at s left) h run run_on next g = tt

new-stops : (o : OpeningOf) (k : ℕ) (x : Node) → IsNew o k x → NodeStops o [] k x
new-stops o k x (no_node e) = subst (NodeStops o [] k) (sym e) tt
new-stops o k x (new_a_brick e) = subst (NodeStops o [] k) (sym e) tt
new-stops o k x (new_a_library high e) = subst (NodeStops o [] k) (sym e) tt

pub run-stops : (o : OpeningOf) (journal : List Step) → IsOpening o → is_run o journal ≡ true → (k : ℕ) → NodeStops o journal k ((net_of o journal).node k)
run-stops o journal h run =
    along o (λ j n. (k : ℕ) → NodeStops o j k (n.node k)) h (λ k. new-stops o k _ (start-node o k))
    (λ j x e so_far on next g. nodes-moved (NodeStops o (Grown j x)) (sizes_of o) (net_of o j) e (λ k. node-grown o j x k ((net_of o j).node k) (g k))
    (becomes o j x e h so_far on next g)) journal run
