-- A run that stands, seen by its clients.
use Rattle.std.proofs.Common.{◌≡◌, ◌≤◌, inl, inr, Bool, true, false, List, [], ◌∷◌, refl}
use Rattle.std.proofs.Common.{sym, ap, subst, ◌∙◌, arith, length}
use Rattle.std.specs.Prelude.{map, not, ◌&&◌, ◌||◌, ◌==◌, if◌then◌else◌}
use Rattle.std.specs.List.{AllByRecursion}
use Rattle.std.proofs.lemmas.Bool.Decides.{nat_tests}
use Rattle.dds_base.specs.declared.number.CallNo.{CallNo}
use Rattle.dds_client_view.proofs.Calls.{AreMade, IsCallOf, any-made, made-all, told_answer, made_calls}
use Rattle.dds_client_view.proofs.Order.{IsInOrder, NoLater}
use Rattle.dds_client_view.proofs.Sees.{HasOp, Keeps, all-mapped, answer-is, entry_in, has-at-most-one, has-none, has-one, have-ops, reply_of}
use Rattle.dds_client_view.proofs.Sees.{IsOver}
use Rattle.dds_client_view.proofs.Shows.{IsAsked, IsOther, IsUnmade, Shows}
use Rattle.dds_client_view.specs.Client as client
use Rattle.dds_client_view.specs.Client.{AnswersFit, AreToOthers, ClientSees, HasAtMostOne, HasNone, HasOne}
use Rattle.dds_client_view.specs.Client.{HasOneBy, IsOrdered, IsOrderedBy, StandsFirst, did_nothing, fate_by}
use Rattle.dds_client_view.specs.Client.{is_entry_of, is_loss, may_be_done}
use Rattle.dds_client_view.specs.Seen.{is_answer_to, SeenCall, SeenLine, answer_in, answers_in, calls_in, printed_by}
use Rattle.dds_cluster.specs.Lists.{is_asked, is_call_of}
use Rattle.dds_cluster.specs.declared.trace.Asked.{Asked}
use Rattle.dds_cluster.specs.declared.trace.Made.{Made}
use Rattle.dds_cluster.specs.declared.trace.Told.{Told}
use Rattle.dds_cluster.specs.declared.trace.Trace.{Trace}
use Rattle.dds_core.proofs.Lists.{all-both, all-map}
use Rattle.dds_net.proofs.Pairwise.{Pairwise, pairs-filter}
use Rattle.dds_walk.specs.declared.walk.Walk.{Walk}
use Rattle.dds_world.specs.Stands.{AnsweredOnce, IsOfACall, RefusedNever, Stands, UnansweredOnceOrNever}
use Rattle.dds_world.specs.Stands.{answer_to, placed_history, stands_in}
use Rattle.dds_client_view.proofs.Numbers.{no-answer}
use Rattle.dds_client_view.proofs.Once.{OtherTold}
use Rattle.dds_client_view.proofs.Ordered.{IsBehind, is_of, is-behind, none-first, none-last, ordered-where, ordered-two}

-- an entry isn't of a call that was never made
or-left : (a b : Bool) → (a || b) ≡ false → a ≡ false
or-left true b e = absurd (cc)
or-left false b e = refl

or-right : (a b : Bool) → (a || b) ≡ false → b ≡ false
or-right true b e = absurd (cc)
or-right false b e = e

not-of : (c : SeenCall) (asked : List Asked) (m : Made) → is_asked asked c.caller c.call ≡ false → IsOfACall asked m → is_of c m ≡ false
not-of c [] m e h = absurd h
not-of c (a ∷ asked) m e (inl h) =
    ap (λ n. n == c.caller && m.entry.call.0 == c.call.0) h.0
    ∙ ap (λ (n : CallNo). a.caller == c.caller && n.0 == c.call.0) h.1
    ∙ or-left (is_call_of c.caller c.call a) (is_asked asked c.caller c.call) e
not-of c (a ∷ asked) m e (inr h) = not-of c asked m (or-right (is_call_of c.caller c.call a) (is_asked asked c.caller c.call) e) h

none-of : (c : SeenCall) (asked : List Asked) (ms : List Made) → is_asked asked c.caller c.call ≡ false → AllByRecursion (IsOfACall asked) ms
    → client.entries_of (map entry_in ms) c ≡ []
none-of c asked [] e h = refl
none-of c asked (m ∷ ms) e h =
    ap (λ (b : Bool). if b then m.entry ∷ client.entries_of (map entry_in ms) c else client.entries_of (map entry_in ms) c) (not-of c asked m e h.0)
    ∙ none-of c asked ms e h.1

-- each entry is of a call of the lines
of-first : (told : List Told) (c : SeenCall) (calls made : List SeenCall) (asked : List Asked) (m : Made) → AreMade told (c ∷ made) asked → IsOfACall asked m
    → ((rest : List Asked) → AreMade told made rest → IsOfACall rest m → client.IsOfACall calls m.entry) → client.IsOfACall (c ∷ calls) m.entry
of-first told c calls made [] m h k f = absurd h
of-first told c calls made (a ∷ asked) m h (inl k) f = inl (k.0 ∙ h.0.caller, k.1 ∙ h.0.call, k.2 ∙ h.0.op)
of-first told c calls made (a ∷ asked) m h (inr k) f = inr (f asked h.1 k)

of-made : (told : List Told) (calls : List SeenCall) (asked : List Asked) (m : Made) → AreMade told (made_calls calls) asked → IsOfACall asked m
    → client.IsOfACall calls m.entry
of-made told [] [] m h k = absurd k
of-made told [] (a ∷ asked) m h k = absurd h
of-made told (c ∷ calls) asked m h k =
    elim (c.busy) as (λ b. AreMade told (if not b then c ∷ made_calls calls else made_calls calls) asked → client.IsOfACall (c ∷ calls) m.entry) [
      | true ↦ λ g. inr (of-made told calls asked m g k)
      | false ↦ λ g. of-first told c calls (made_calls calls) asked m g k (λ rest more i. of-made told calls rest m more i)
    ] h

all-of : {A : Type 0} (P : A → Type 0) (xs : List A) → ((x : A) → P x) → AllByRecursion P xs
all-of P [] h = tt
all-of P (x ∷ xs) h = (h x, all-of P xs h)

-- what is so of calls that were made, and of others, is so of all
all-parts : (P : SeenCall → Type 0) (cs : List SeenCall) → AllByRecursion (λ c. c.busy ≡ true → P c) cs
    → AllByRecursion (λ c. (c.busy ≡ false) → P c) (made_calls cs)
    → AllByRecursion P cs
all-parts P [] h k = tt
all-parts P (c ∷ cs) h k =
    elim (c.busy) as (λ b. c.busy ≡ b → AllByRecursion (λ (x : SeenCall). (x.busy ≡ false) → P x) (if not b then c ∷ made_calls cs else made_calls cs)
    → AllByRecursion P (c ∷ cs)) [
      | true ↦ λ e g. (h.0 e, all-parts P cs h.1 g)
      | false ↦ λ e g. (g.0 e, all-parts P cs h.1 g.1)
    ] refl k

-- each answer is to a call of the lines
is-to-a-call : (told : List Told) (r : Told) (calls : List SeenCall) (asked : List Asked) → AreMade told (made_calls calls) asked → IsAsked asked r
    → client.IsToACall calls (told_answer r)
is-to-a-call told r calls asked h k =
    any-made told (is_answer_to (told_answer r)) r.caller r.call calls asked h k
    (λ c free at its.
    let same : (c.caller == r.caller && c.call.0 == r.call.0) ≡ true = grind (arith, nat_tests, at, its) in
    ap (λ b. not b && (c.caller == r.caller && c.call.0 == r.call.0)) free ∙ same)

-- no call is answered twice
to-others : (told : List Told) → Pairwise OtherTold told → AreToOthers (map told_answer told)
to-others [] h = tt
to-others (r ∷ told) h = (
  no-answer told r.caller r.call (all-map (OtherTold r) (λ x. x.caller ≡ r.caller → x.call ≡ r.call → ⊥) told
      (λ x other same number. other (sym same) (sym number)) h.0),
  to-others told h.1,
)

-- what is so of each call of a run that stands, where each answered call is over
keeps-all : (t : Trace) → Pairwise IsOther t.asked → Stands t → AllByRecursion (IsOver t.told (placed_history t)) t.asked
    → AllByRecursion (Keeps t.told (placed_history t) t.asked) t.asked
keeps-all t apart stands over =
    let ms = placed_history t in
    let One = AnsweredOnce t.told ms in
    let Never = RefusedNever t.told ms in
    let Most = UnansweredOnceOrNever t.told ms in
    let Over = IsOver t.told ms in
    all-map (λ a. (One a × Never a) × ((Most a × HasOp t.asked a) × Over a)) (Keeps t.told ms t.asked) t.asked
    (λ a k. record { answered = k.0.0; refused = k.0.1; unanswered = k.1.0.0; op = k.1.0.1; over = k.1.1 })
    (all-both (λ a. One a × Never a) (λ a. (Most a × HasOp t.asked a) × Over a) t.asked (all-both One Never t.asked stands.answered_once stands.refused_never)
    (all-both (λ a. Most a × HasOp t.asked a) Over t.asked (all-both Most (HasOp t.asked) t.asked stands.unanswered_once_or_never
    (have-ops t.asked apart)) over))

-- a run that stands, and the lines that made it
pub client-sees : (seen : List SeenLine) (w : Walk) → Shows seen w → IsInOrder w.trace → Stands w.trace
    → AllByRecursion (IsOver w.trace.told (placed_history w.trace)) w.trace.asked → ClientSees seen
client-sees seen w h order stands over =
    let t = w.trace in
    let ms = placed_history t in
    let entries = map entry_in ms in
    let calls = calls_in seen in
    let made = made_calls calls in
    let in_order : Pairwise NoLater ms = pairs-filter NoLater (stands_in t.told) t.made order.order in
    let all = stands.entries_are_calls in
    let printed : answers_in (printed_by seen) ≡ map told_answer t.told = ap answers_in h.printed ∙ h.answers in
    let keeps = keeps-all t h.apart stands over in
    let unmade : AllByRecursion (λ c. c.busy ≡ true → client.entries_of entries c ≡ []) calls =
    all-map (IsUnmade t.asked) (λ c. c.busy ≡ true → client.entries_of entries c ≡ []) calls (λ c k b. none-of c t.asked ms (k b) all) h.busy in
    let behind : (a : Asked) → Keeps t.told ms t.asked a → IsBehind ms a = λ a k.
    is-behind ms a (answer_to t.told a.caller a.call) k.answered k.refused k.unanswered in
    let fate_is : (c : SeenCall) (a : Asked) → IsCallOf t.told c a → c.busy ≡ false
    → fate_by false (reply_of (answer_to t.told a.caller a.call)) ≡ client.fate seen c = λ c a g b.
    ap (fate_by false) (sym (answer-is (printed_by seen) t.told c a printed g.caller g.call)) ∙ ap (λ x. fate_by x (answer_in (printed_by seen) c)) (sym b) in
    let busy_fate : (c : SeenCall) → c.busy ≡ true → client.Busy ≡ client.fate seen c = λ c b. ap (λ x. fate_by x (answer_in (printed_by seen) c)) (sym b) in
    record {
      entries = entries;
      legal = stands.legal;
      answered = all-parts (HasOne seen entries) calls
          (all-map (λ c. c.busy ≡ true → client.entries_of entries c ≡ []) (λ c. c.busy ≡ true → HasOne seen entries c) calls
          (λ c k b. subst (λ f. HasOneBy c f (client.entries_of entries c)) (busy_fate c b) tt) unmade)
          (made-all t.told (λ c. (c.busy ≡ false) → HasOne seen entries c) (Keeps t.told ms t.asked) made t.asked
          (λ c a g k b. subst (λ f. HasOneBy c f (client.entries_of entries c)) (fate_is c a g b)
          (has-one t.told ms t.asked c a (answer_to t.told a.caller a.call) g.caller g.call g.op all k.op k.answered)) h.made keeps);
      refused = all-parts (HasNone seen entries) calls
          (all-map (λ c. c.busy ≡ true → client.entries_of entries c ≡ []) (λ c. c.busy ≡ true → HasNone seen entries c) calls (λ c k b nothing. k b) unmade)
          (made-all t.told (λ c. (c.busy ≡ false) → HasNone seen entries c) (Keeps t.told ms t.asked) made t.asked
          (λ c a g k b. subst (λ f. did_nothing c.op f ≡ true → client.entries_of entries c ≡ []) (fate_is c a g b)
          (has-none ms c a (answer_to t.told a.caller a.call) g.caller g.call g.op k.refused k.over)) h.made keeps);
      unanswered = all-parts (HasAtMostOne seen entries) calls
          (all-map (λ c. c.busy ≡ true → client.entries_of entries c ≡ []) (λ c. c.busy ≡ true → HasAtMostOne seen entries c) calls
          (λ c k b may. omega (arith, ap length (k b))) unmade)
          (made-all t.told (λ c. (c.busy ≡ false) → HasAtMostOne seen entries c) (Keeps t.told ms t.asked) made t.asked
          (λ c a g k b. subst (λ f. may_be_done c.op f ≡ true → length (client.entries_of entries c) ≤ 1) (fate_is c a g b)
          (has-at-most-one ms c a (answer_to t.told a.caller a.call) g.caller g.call g.op k.unanswered)) h.made keeps);
      others = all-mapped (IsOfACall t.asked) (client.IsOfACall calls) entry_in ms (λ m k. of-made t.told calls t.asked m h.made k) all;
      ordered = all-parts (λ d. AllByRecursion (λ c. IsOrdered entries c d) calls) calls
          (all-map (λ d. d.busy ≡ true → client.entries_of entries d ≡ []) (λ d. d.busy ≡ true → AllByRecursion (λ c. IsOrdered entries c d) calls) calls
          (λ d k b. all-of (λ c. IsOrdered entries c d) calls (λ c. ordered-where c d entries (answer_in d.before c) (none-last c d entries (k b)))) unmade)
          (made-all t.told (λ d. (d.busy ≡ false) → AllByRecursion (λ c. IsOrdered entries c d) calls) (Keeps t.told ms t.asked) made t.asked
          (λ d b g k not_busy. all-parts (λ c. IsOrdered entries c d) calls
          (all-map (λ c. c.busy ≡ true → client.entries_of entries c ≡ []) (λ c. c.busy ≡ true → IsOrdered entries c d) calls
          (λ c none is. ordered-where c d entries (answer_in d.before c) (none-first c d entries (none is))) unmade)
          (made-all t.told (λ c. (c.busy ≡ false) → IsOrdered entries c d) (Keeps t.told ms t.asked) made t.asked
          (λ c a f j other. ordered-two t.told ms c d a b f g in_order j.answered j.refused j.over (behind b k)) h.made keeps)) h.made keeps);
    }

-- what is printed is in order
pub answers-fit : (seen : List SeenLine) (w : Walk) → Shows seen w → AllByRecursion (IsAsked w.trace.asked) w.trace.told → Pairwise OtherTold w.trace.told
    → AnswersFit seen
answers-fit seen w h told apart =
    let t = w.trace in
    let calls = calls_in seen in
    let printed : answers_in (printed_by seen) ≡ map told_answer t.told = ap answers_in h.printed ∙ h.answers in
    record {
      answers = subst (AllByRecursion (client.IsToACall calls)) (sym printed)
          (all-mapped (IsAsked t.asked) (client.IsToACall calls) told_answer t.told (λ r k. is-to-a-call t.told r calls t.asked h.made k) told);
      once = subst AreToOthers (sym printed) (to-others t.told apart);
      behind = h.fresh;
      busy = h.waits;
    }
