use Rattle.std.proofs.Common.{◌≡◌, ℕ, zero, suc, ◌<◌, ◌⊎◌, inl, inr, ◌==◌, ◌&&◌, ◌||◌, Bool, true, false, not, cond, Some, None, List, [], ◌∷◌}
use Rattle.std.proofs.Common.{find, refl, sym, ap}
use Rattle.std.proofs.Common.{◌∙◌, subst}
use Rattle.std.proofs.lemmas.Bool.{and_from, and_parts, eq-eqb, eqb-true}
use Rattle.std.specs.List.{AllByRecursion, list_all}
use Rattle.std.specs.Prelude.{slice_get, take}
use Rattle.dds_base.specs.BrickList.{has}
use Rattle.dds_base.specs.NodeSet.{has_node, with_node}
use Rattle.dds_base.specs.declared.leaf.Leaf.{Leaf}
use Rattle.dds_base.specs.declared.node_set.NodeSet.{NodeSet}
use Rattle.dds_base.specs.declared.number.NodeNo.{NodeNo}
use Rattle.dds_base.specs.declared.op.Reply.{Reply}
use Rattle.dds_base.specs.declared.op.Reply.TheVariants as reply
use Rattle.dds_books.specs.Calls.{Apart}
use Rattle.dds_books.specs.Placed as placed
use Rattle.dds_cluster.specs.Trace.{is_possible, is_run, run_of}
use Rattle.dds_cluster.specs.World.{World, library_at}
use Rattle.dds_cluster.specs.declared.step.Step.{Step}
use Rattle.dds_cluster.specs.declared.trace.Asked.{Asked}
use Rattle.dds_cluster.specs.declared.trace.Told.{Told}
use Rattle.dds_core.proofs.CallDoes.{call-does}
use Rattle.dds_core.proofs.Known.{has-with}
use Rattle.dds_core.proofs.Lists.{all-is}
use Rattle.dds_core.specs.LibraryTurn.{call_row}
use Rattle.dds_letters.specs.declared.letter.Letter.{Letter}
use Rattle.dds_letters.specs.declared.letter.Letter.TheVariants as letter
use Rattle.dds_net.proofs.Journals.{IsNext, first-of, net_of, place-of}
use Rattle.dds_net.proofs.Pairwise.{Pairwise}
use Rattle.dds_net.proofs.Places.{node-below}
use Rattle.dds_net.proofs.Ways.{NodeIs, is_brick, is_library, is_nowhere, node-is}
use Rattle.dds_net.specs.Event.{library_takes}
use Rattle.dds_net.specs.Net.{a_library, node_at, sizes_of}
use Rattle.dds_script.specs.Opening.{IsOpening, OpeningOf}
use Rattle.dds_states.specs.Turn.{is_none_left, without}
use Rattle.dds_states.specs.declared.library_state.LibraryState.{LibraryState}
use Rattle.dds_states.specs.declared.library_state.OpenCall.{OpenCall}
use Rattle.dds_states.specs.declared.library_state.Phase.TheVariants as phase
use Rattle.dds_talk.proofs.Letters.{has-without, none-has}
use Rattle.dds_world.specs.Causes.{LostAt}
use Rattle.dds_world.specs.Stands.{is_result}
use Rattle.dds_world.specs.Treated.{is_this}
use Rattle.dds_calls.proofs.Answered.{AnsweredBy, answered, at_input, at_letter, of-answer}
use Rattle.dds_calls.proofs.Answered as answered_so
use Rattle.dds_calls.proofs.Caused.{names}
use Rattle.dds_calls.proofs.Locked.{run-booked}
use Rattle.dds_calls.proofs.Refused.{the_no}
use Rattle.dds_calls.proofs.Reasons.{Reason, lost, met as has_met, reason, result, was_full}
use Rattle.dds_calls.proofs.Told.{IsGiven}

-- Each call that was answered Lost had lost all members that had not told.

-- the library of a number
pub library-if : (w : World) (n : ℕ) (s : LibraryState) → NodeIs w n → node_at w n ≡ a_library s → library_at w n ≡ Some s
library-if w n s (is_nowhere e) h = let no = sym e ∙ h in cc
library-if w n s (is_brick x b e) h = let no = sym e ∙ h in cc
library-if w n s (is_library x b e) h = let same = sym e ∙ h in let is : x ≡ s = cc in b ∙ ap Some is

pub library-of : (o : OpeningOf) (front : List Step) (n : ℕ) (s : LibraryState) → (net_of o front).node n ≡ a_library s
    → library_at (run_of o front).world n ≡ Some s
library-of o front n s h = library-if (run_of o front).world n s (node-is (run_of o front).world n) h

-- the open call of a caller is the one that is found
pub find-this : (a : Asked) (cs : List OpenCall) (i : ℕ) (c : OpenCall) → Pairwise Apart cs → slice_get cs i ≡ Some c → a.caller ≡ c.request.caller
    → a.call.0 ≡ c.request.call.0 → find (is_this a) cs ≡ Some c
find-this a [] i c h e p q = cc
find-this a (x ∷ cs) zero c h e p q =
    let is : x ≡ c = cc in
    let mine : is_this a c ≡ true = and_from (c.request.caller == a.caller) (c.request.call.0 == a.call.0) (eq-eqb c.request.caller a.caller (sym p))
    (eq-eqb c.request.call.0 a.call.0 (sym q)) in
    ap (λ b. cond b (Some x) (find (is_this a) cs)) (ap (is_this a) is ∙ mine) ∙ ap Some is
find-this a (x ∷ cs) (suc i) c h e p q = by (is_this a x) refl (find-this a cs i c h.1 e p q)
  where
    by : (b : Bool) → is_this a x ≡ b → find (is_this a) cs ≡ Some c → cond b (Some x) (find (is_this a) cs) ≡ Some c
    by true same rest =
        let k = eqb-true x.request.caller a.caller (and_parts (x.request.caller == a.caller) (x.request.call.0 == a.call.0) same).0 in
        absurd ((all-is (Apart x) cs i c h.0 e).1 (k ∙ p))
    by false other rest = rest

-- each member is known
right-of : (x y : Bool) → (x && not y) ≡ false → x ≡ true → y ≡ true
right-of x true e f = refl
right-of true false e f = cc
right-of false false e f = cc

or-from : (x y : Bool) → (x ≡ true) ⊎ (y ≡ true) → (x || y) ≡ true
or-from true y h = refl
or-from false y (inl e) = cc
or-from false y (inr e) = e

member-known : (known : NodeSet) (from n : ℕ) (waiting : List NodeNo) → from < 80 → is_none_left (without waiting from) ≡ true
    → (has waiting n ≡ true) ⊎ (has_node known n ≡ true) → has_node (with_node known from) n ≡ true
member-known known from n waiting low none h =
    has-with known from n low ∙ or-from (n == from) (has_node known n) (elim h [
      | inl e ↦ inl (right-of (has waiting n) (n == from) (sym (has-without waiting from n) ∙ none-has (without waiting from) n none) e)
      | inr e ↦ inr e
    ])

pub all-known : (known : NodeSet) (from : ℕ) (list waiting : List NodeNo) → from < 80 → is_none_left (without waiting from) ≡ true
    → AllByRecursion (λ n. (has waiting n ≡ true) ⊎ (has_node known n ≡ true)) list → list_all (λ n. has_node (with_node known from) n) list ≡ true
all-known known from [] waiting low none h = refl
all-known known from (n ∷ ns) waiting low none h =
    and_from (has_node (with_node known from) n) (list_all (λ m. has_node (with_node known from) m) ns) (member-known known from n waiting low none h.0)
    (all-known known from ns waiting low none h.1)

-- what the library has of the call
its-phase : (o : OpeningOf) (front : List Step) (at i : ℕ) (s : LibraryState) (c : OpenCall) → IsOpening o → is_run o front ≡ true
    → (net_of o front).node at ≡ a_library s → slice_get s.calls i ≡ Some c → placed.PhaseOk (sizes_of o) s.known c.request.op c.phase
its-phase o front at i s c h run here there =
    let z = sizes_of o in
    let n = net_of o front in
    let own = subst (placed.NodeOk (placed.Made n) z at) here ((run-booked o front h run).placed.nodes at) in
    (all-is (placed.CallOk z s.number s.next s.known) s.calls i c own.calls there).its_phase

lost-at : (o : OpeningOf) (journal : List Step) (a : Asked) (t : Told) (at from i : ℕ) (l : Letter) (s : LibraryState) (c : OpenCall) (leaf : Leaf)
    (list waiting : List NodeNo) → IsOpening o → is_run o journal ≡ true → (g : IsGiven o journal t)
    → IsNext o (take t.place journal) g.step (library_takes at from l s) → Pairwise Apart s.calls → slice_get s.calls i ≡ Some c
    → a.caller ≡ c.request.caller → a.call.0 ≡ c.request.call.0 → c.phase ≡ phase.Committing leaf list waiting None → l ≡ letter.Notice
    → is_none_left (without waiting from) ≡ true → LostAt o journal a t leaf.name
lost-at o journal a t at from i l s c leaf list waiting h run g next apart there e f p q none =
    let front = take t.place journal in
    let z = sizes_of o in
    let run_so_far = (place-of o journal t.place g.step run g.is).run in
    let first = first-of o front at from l (subst (λ x. is_possible (run_of o front) x ≡ true) next.step next.possible) next.fits.letter in
    let ok = subst (placed.PhaseOk z s.known c.request.op) p (its-phase o front at i s c h run_so_far next.fits.here there) in
    record {
      node = at;
      stopped = from;
      message = first.message;
      before = s;
      call = c;
      leaf = leaf;
      list = list;
      waiting = waiting;
      step = g.is ∙ ap Some next.step;
      first = first.first;
      notice = first.letter ∙ q;
      is_before = library-of o front at s next.fits.here;
      is_open = find-this a s.calls i c apart there e f;
      committing = p;
      known = all-known s.known from list waiting (node-below z from h.ranges.bricks h.ranges.libraries next.fits.letter.sender) none ok.2;
      named = refl;
    }

-- the call's library lost all members of the update that had not told
abbrev pub LostBy : OpeningOf → List Step → Asked → Told → Reply → Type 0
LostBy o journal a told (reply.Lost name) = LostAt o journal a told name
LostBy o journal a told other = Unit {0}

result-loses : (o : OpeningOf) (journal : List Step) (a : Asked) (told : Told) (r : Reply) → is_result r ≡ true → LostBy o journal a told r
result-loses o journal a told (reply.Lost name) e = cc
result-loses o journal a told other e = tt

pub answer-loses : (o : OpeningOf) (journal : List Step) (a : Asked) (t : Told) → IsOpening o → is_run o journal ≡ true → (g : IsGiven o journal t)
    → answered_so.IsOf a t → AnsweredBy o (take t.place journal) g.step t → LostBy o journal a t t.reply
answer-loses o journal a t h run g is (at_letter at from l s next own b) =
    let c = b.by.call in
    let named = names s from l t b in
    let because = (λ (r : Reply) (k : Reason c from l r). loses r k (is.0 ∙ named.caller) (is.1 ∙ ap the_no named.call)) in
    subst (LostBy o journal a t) named.reply
    (because b.reply (reason b.by.desk c from l (call_row b.by.desk c from l) b.reply (call-does b.by.desk c from l) b.given))
  where
    loses : (r : Reply) → Reason b.by.call from l r → a.caller ≡ b.by.call.request.caller → a.call.0 ≡ b.by.call.request.call.0 → LostBy o journal a t r
    loses r (result e) p q = result-loses o journal a t r e
    loses r (has_met m w e) p q = subst (LostBy o journal a t) e tt
    loses r (was_full waiting brick w e) p q = subst (LostBy o journal a t) e tt
    loses r (lost leaf list waiting w n none e) p q =
        subst (LostBy o journal a t) e (lost-at o journal a t at from b.by.index l s b.by.call leaf list waiting h run g next own.apart b.by.there p q w n none)
answer-loses o journal a t h run g is (at_input at caller call op s next own m stop row e p q) = subst (LostBy o journal a t) (sym e) tt
