-- Which of two calls' entries come first.
use Rattle.std.proofs.Common.{◌≡◌, ℕ, ◌<◌, ◌≤◌, inl, inr, Bool, true, false, List, [], ◌∷◌, ◌++◌, Option, Some, None, refl}
use Rattle.std.proofs.Common.{sym, ap, subst, ◌∙◌, arith}
use Rattle.std.specs.Prelude.{filter, map, ◌&&◌, ◌==◌, if◌then◌else◌}
use Rattle.std.specs.List.{AllByRecursion}
use Rattle.std.proofs.lemmas.Bool.{both_ways}
use Rattle.dds_base.specs.Op.{is_get}
use Rattle.dds_base.specs.declared.number.CallNo.{CallNo}
use Rattle.dds_client_view.proofs.Calls.{IsBefore, IsCallOf}
use Rattle.dds_client_view.proofs.Order.{NoLater}
use Rattle.dds_client_view.proofs.Sees.{answer-first, answer-has, answer-is, entry_in, reply_of}
use Rattle.dds_client_view.proofs.Sees.{IsOver, IsOverBy, no-result}
use Rattle.dds_client_view.specs.Client as client
use Rattle.dds_client_view.specs.Client.{ClientSees, HasAtMostOne, HasNone, HasOne, HasOneBy, IsOrdered, IsOrderedBy, StandsFirst, did_nothing, fate_by}
use Rattle.dds_client_view.specs.Client.{is_entry_of, is_loss, may_be_done}
use Rattle.dds_client_view.specs.Seen.{SeenCall}
use Rattle.dds_cluster.specs.declared.trace.Asked.{Asked}
use Rattle.dds_cluster.specs.declared.trace.Made.{Made}
use Rattle.dds_cluster.specs.declared.trace.Told.{Told}
use Rattle.dds_core.proofs.Lists.{all-map}
use Rattle.dds_history.specs.declared.entry.Entry.{Entry}
use Rattle.dds_net.proofs.Pairwise.{Pairwise}
use Rattle.dds_world.specs.Stands.{AnsweredOnce, AnsweredOnceBy, AtMostOneAfter, RefusedNever, RefusedNeverBy}
use Rattle.dds_world.specs.Stands.{UnansweredOnceOrNeverBy, answer_to, entries_of, is_result}

-- all entries of a call stand behind its Input
abbrev pub IsBehind : List Made → Asked → Type 0
IsBehind ms a = AllByRecursion (λ m. a.place < m.place) (entries_of ms a)

behind-most : (at : ℕ) (ms : List Made) → AtMostOneAfter at ms → AllByRecursion (λ m. at < m.place) ms
behind-most at [] h = tt
behind-most at (m ∷ []) h = (h, tt)
behind-most at (m ∷ n ∷ ms) h = absurd h

pub is-behind : (ms : List Made) (a : Asked) (t : Option Told) → AnsweredOnceBy ms a t → RefusedNeverBy ms a t → UnansweredOnceOrNeverBy ms a t → IsBehind ms a
is-behind ms a None h k l =
    elim (is_get a.op) as (λ b. is_get a.op ≡ b → IsBehind ms a) [
      | true ↦ λ e. subst (AllByRecursion (λ m. a.place < m.place)) (sym (k e)) tt
      | false ↦ λ e. behind-most a.place (entries_of ms a) (l e)
    ] refl
is-behind ms a (Some r) h k l =
    elim (is_result r.reply) as (λ b. is_result r.reply ≡ b → IsBehind ms a) [
      | true ↦ λ e. let one = h e in subst (AllByRecursion (λ m. a.place < m.place)) (sym one.only) (one.after_input, tt)
      | false ↦ λ e. behind-most a.place (entries_of ms a) (l e)
    ] refl

-- and before its answer
is-early : (ms : List Made) (a : Asked) (r : Told) → AnsweredOnceBy ms a (Some r) → RefusedNeverBy ms a (Some r) → IsOverBy ms a (Some r)
    → AllByRecursion (λ m. m.place < r.place) (entries_of ms a)
is-early ms a r h k over =
    elim (is_get a.op) as (λ b. is_get a.op ≡ b → AllByRecursion (λ (m : Made). m.place < r.place) (entries_of ms a)) [
      | false ↦ λ update. over.1 update
      | true ↦ λ get.
          elim (is_result r.reply) as (λ b. is_result r.reply ≡ b → AllByRecursion (λ (m : Made). m.place < r.place) (entries_of ms a)) [
            | true ↦ λ e. let one = h e in subst (AllByRecursion (λ m. m.place < r.place)) (sym one.only) (one.before_answer, tt)
            | false ↦ λ e. elim (no-result r.reply e) [
              | inl refused ↦ subst (AllByRecursion (λ m. m.place < r.place)) (sym (k refused)) tt
              | inr lost ↦ absurd (both_ways (is_get a.op) (over.0 lost) get)
            ]
          ] refl
    ] refl

-- points of the first call stand before a place, those of the second behind it
none-behind : (p : Made → Bool) (at from : ℕ) (ms : List Made) → from < at → AllByRecursion (λ m. at ≤ m.place) ms
    → AllByRecursion (λ m. m.place < from) (filter p ms) → filter p ms ≡ []
none-behind p at from [] less late h = refl
none-behind p at from (m ∷ ms) less late h =
    elim (p m) as (λ b. AllByRecursion (λ (x : Made). x.place < from) (if b then m ∷ filter p ms else filter p ms)
    → (if b then m ∷ filter p ms else filter p ms) ≡ []) [
      | true ↦ λ k. absurd (omega (arith, less, late.0, k.0))
      | false ↦ λ k. none-behind p at from ms less late.1 k
    ] h

rest-of : (P : Made → Type 0) (p : Made → Bool) (m : Made) (ms : List Made) → AllByRecursion P (filter p (m ∷ ms)) → AllByRecursion P (filter p ms)
rest-of P p m ms h =
    elim (p m) as (λ b. AllByRecursion P (if b then m ∷ filter p ms else filter p ms) → AllByRecursion P (filter p ms)) [
      | true ↦ λ k. k.1
      | false ↦ λ k. k
    ] h

first-of : (P : Made → Type 0) (p : Made → Bool) (m : Made) (ms : List Made) → p m ≡ true → AllByRecursion P (filter p (m ∷ ms)) → P m
first-of P p m ms e h = (subst (λ b. AllByRecursion P (if b then m ∷ filter p ms else filter p ms)) e h).0

-- the test of an entry by its call
abbrev pub is_of : SeenCall → Made → Bool
is_of c m = is_entry_of c m.entry

filter-in : (c : SeenCall) (ms : List Made) → client.entries_of (map entry_in ms) c ≡ map entry_in (filter (is_of c) ms)
filter-in c [] = refl
filter-in c (m ∷ ms) =
    elim (is_of c m) as (λ b. (if b then m.entry ∷ client.entries_of (map entry_in ms) c else client.entries_of (map entry_in ms) c) ≡ map entry_in
    (if b then m ∷ filter (is_of c) ms else filter (is_of c) ms)) [
      | true ↦ ap (λ (l : List Entry). m.entry ∷ l) (filter-in c ms)
      | false ↦ filter-in c ms
    ]

stands-first : (at : ℕ) (c d : SeenCall) (ms : List Made) → Pairwise NoLater ms → AllByRecursion (λ m. m.place < at) (filter (is_of c) ms)
    → AllByRecursion (λ m. at < m.place) (filter (is_of d) ms) → StandsFirst c d (map entry_in ms)
stands-first at c d [] order h k = tt
stands-first at c d (m ∷ ms) order h k = (
  (λ is.
      let late = first-of (λ x. at < x.place) (is_of d) m ms is k in
      filter-in c ms
      ∙ ap (map entry_in) (none-behind (is_of c) m.place at ms late order.0 (rest-of (λ x. x.place < at) (is_of c) m ms h))),
  stands-first at c d ms order.1 (rest-of (λ x. x.place < at) (is_of c) m ms h) (rest-of (λ x. at < x.place) (is_of d) m ms k),
)

-- the points of a call, by the call of the lines
own-points : (P : Made → Type 0) (ms : List Made) (c : SeenCall) (a : Asked) → a.caller ≡ c.caller → a.call ≡ c.call → AllByRecursion P (entries_of ms a)
    → AllByRecursion P (filter (is_of c) ms)
own-points P ms c a e f h =
    subst (λ (n : CallNo). AllByRecursion P (filter (λ (m : Made). m.entry.caller == c.caller && m.entry.call.0 == n.0) ms)) f
    (subst (λ (n : ℕ). AllByRecursion P (filter (λ (m : Made). m.entry.caller == n && m.entry.call.0 == a.call.0) ms)) e h)

-- where a call has no entries, its entries come first, and others come before them
pub none-first : (c d : SeenCall) (entries : List Entry) → client.entries_of entries c ≡ [] → StandsFirst c d entries
none-first c d [] h = tt
none-first c d (e ∷ entries) h =
    let rest : client.entries_of entries c ≡ [] =
    elim (is_entry_of c e) as (λ b. (if b then e ∷ client.entries_of entries c else client.entries_of entries c) ≡ [] → client.entries_of entries c ≡ []) [
      | true ↦ λ k. absurd (cc)
      | false ↦ λ k. k
    ] h in
    ((λ is. rest), none-first c d entries rest)

pub none-last : (c d : SeenCall) (entries : List Entry) → client.entries_of entries d ≡ [] → StandsFirst c d entries
none-last c d [] h = tt
none-last c d (e ∷ entries) h =
    elim (is_entry_of d e)
    as (λ b. (if b then e ∷ client.entries_of entries d else client.entries_of entries d) ≡ []
    → (b ≡ true → client.entries_of entries c ≡ []) × StandsFirst c d entries) [
      | true ↦ λ k. absurd (cc)
      | false ↦ λ k. ((λ is. absurd (cc)), none-last c d entries k)
    ] h

pub ordered-where : (c d : SeenCall) (entries : List Entry) (o : _) → StandsFirst c d entries → IsOrderedBy c d entries o
ordered-where c d entries None h = tt
ordered-where c d entries (Some reply) h = h

-- two calls of the run
ordered-by : (told first later : List Told) (ms : List Made) (c d : SeenCall) (a b : Asked) (o : Option Told) → told ≡ first ++ later
    → AllByRecursion (IsBefore b.place) first → a.caller ≡ c.caller → a.call ≡ c.call → b.caller ≡ d.caller → b.call ≡ d.call → Pairwise NoLater ms
    → AnsweredOnce told ms a → RefusedNever told ms a → IsOver told ms a → IsBehind ms b → answer_to first a.caller a.call ≡ o
    → IsOrderedBy c d (map entry_in ms) (reply_of o)
ordered-by told first later ms c d a b None e places f g p q order h refused over behind is = tt
ordered-by told first later ms c d a b (Some r) e places f g p q order h refused over behind is =
    let here : answer_to told a.caller a.call ≡ Some r =
    ap (λ (l : List Told). answer_to l a.caller a.call) e ∙ answer-first first later a.caller a.call r is in
    let before : r.place < b.place = answer-has (IsBefore b.place) first a.caller a.call r places is in
    let early = is-early ms a r (subst (AnsweredOnceBy ms a) here h) (subst (RefusedNeverBy ms a) here refused) (subst (IsOverBy ms a) here over) in
    let first_part : AllByRecursion (λ m. m.place < b.place) (entries_of ms a) =
    all-map (λ m. m.place < r.place) (λ m. m.place < b.place) (entries_of ms a) (λ m low. omega (arith, low, before)) early in
    stands-first b.place c d ms order (own-points (λ m. m.place < b.place) ms c a f g first_part) (own-points (λ m. b.place < m.place) ms d b p q behind)

pub ordered-two : (told : List Told) (ms : List Made) (c d : SeenCall) (a b : Asked) → IsCallOf told c a → IsCallOf told d b → Pairwise NoLater ms
    → AnsweredOnce told ms a → RefusedNever told ms a → IsOver told ms a → IsBehind ms b → IsOrdered (map entry_in ms) c d
ordered-two told ms c d a b x y order h refused over behind =
    subst (IsOrderedBy c d (map entry_in ms)) (sym (answer-is d.before y.first c a y.printed x.caller x.call))
    (ordered-by told y.first y.later ms c d a b (answer_to y.first a.caller a.call) y.whole y.places x.caller x.call y.caller y.call order h refused over behind
    refl)
