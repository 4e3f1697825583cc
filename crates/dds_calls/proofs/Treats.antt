use Rattle.std.proofs.Common.{◌≡◌, ℕ, zero, suc, ◌<◌, ◌≤◌, ◌⊎◌, inl, inr, Bool, true, false, Option, Some, None, List, [], ◌∷◌, refl, sym, ap, ◌∙◌}
use Rattle.std.proofs.Common.{subst, arith}
use Rattle.std.proofs.lemmas.List.Quantifiers.{position-Some}
use Rattle.std.specs.List.{AllByRecursion, remove}
use Rattle.std.specs.Prelude.{get_or, slice_get, if◌then◌else◌}
use Rattle.dds_base.specs.Number.{Txn, same_txn}
use Rattle.dds_base.specs.declared.node_set.NodeSet.{NodeSet}
use Rattle.dds_base.specs.declared.number.NodeNo.{NodeNo}
use Rattle.dds_base.specs.declared.op.Reply.{Reply}
use Rattle.dds_books.proofs.LibraryNotices.{Awaits}
use Rattle.dds_books.proofs.Turns.{back-with}
use Rattle.dds_core.proofs.CallAttempts.{does}
use Rattle.dds_core.proofs.CallDoes.{call-does}
use Rattle.dds_core.proofs.CallTurns.{Concerns, a_notice, both-assoc, both-nothing, heard, its_attempt, one_call, same-is}
use Rattle.dds_core.proofs.Lists.{all-append, all-is, all-map, all-taken}
use Rattle.dds_core.specs.LibraryTurn.{at_attempt, at_call, at_place, attempt_of, attempts, call_place, call_row, desk_of, learns, live_library_turn}
use Rattle.dds_core.specs.LibraryTurn.{notice_calls}
use Rattle.dds_core.specs.LibraryTurn.{keeps, library_turn, replies_of}
use Rattle.dds_law_leaf.proofs.Book.{InCall, InLibrary, InMap}
use Rattle.dds_law_leaf.proofs.Calls.{CallHas, InSome, call-has}
use Rattle.dds_letters.specs.declared.letter.Letter.{Letter}
use Rattle.dds_letters.specs.declared.letter.Letter.TheVariants as letter
use Rattle.dds_net.proofs.Pairwise.{Pairwise}
use Rattle.dds_states.specs.Turn.{LibraryTurn, both, no_out, read_of}
use Rattle.dds_states.specs.declared.library_state.Desk.{Desk}
use Rattle.dds_states.specs.declared.library_state.LibraryState.{LibraryState}
use Rattle.dds_states.specs.declared.library_state.OpenCall.{OpenCall}
use Rattle.dds_states.specs.declared.turn.CoreTurn.{CoreTurn}
use Rattle.dds_states.specs.declared.turn.Replied.{Replied}
use Rattle.dds_states.specs.declared.turn.Replied.TheVariants as replied
use Rattle.dds_talk.proofs.Parts.{same-self}
use Rattle.dds_world.specs.Treated.{treated, treated_call}
use Rattle.dds_calls.proofs.Asked.{all-each}
use Rattle.dds_calls.proofs.Fills.{Fills, IsFilled}

-- In a library's turn each open call has its turn at most once, as it was before the library's turn: each answer is given by one of
-- them, and each call that is open after it is one of them that had no turn, or what one of them became.

-- one of the open calls, and its turn
pub record Treated (old : LibraryState) (from : NodeNo) (l : Letter) : Type 0 where
  pub index : ℕ
  pub call : OpenCall
  pub there : slice_get old.calls index ≡ Some call
  pub concerns : Concerns l call
  pub desk : Desk
  pub knows : desk.known ≡ (heard old from l).known
  pub map : (treated_call old from l (Some call)).map ≡ (call_row desk call from l).desk.map
  pub filled : InLibrary IsFilled old → Fills l → InMap IsFilled desk.map

pub record Answers (old : LibraryState) (from : NodeNo) (l : Letter) (r : Replied) : Type 0 where
  pub by : Treated old from l
  pub reply : Reply
  pub given : (call_row by.desk by.call from l).went.reply ≡ Some reply
  pub is : r ≡ replied.Call (read_of by.call.txn reply) by.call.request.caller by.call.request.call reply

pub record Becomes (old : LibraryState) (from : NodeNo) (l : Letter) (x : OpenCall) : Type 0 where
  pub by : Treated old from l
  pub goes : (call_row by.desk by.call from l).went.call ≡ Some x

-- one of the calls that were open
pub record Was (old : LibraryState) (c : OpenCall) : Type 0 where
  pub index : ℕ
  pub there : slice_get old.calls index ≡ Some c

pub record Turned (old : LibraryState) (from : NodeNo) (l : Letter) (s : LibraryState) (out : CoreTurn) : Type 0 where
  pub calls : AllByRecursion (λ x. Was old x ⊎ Becomes old from l x) s.calls
  pub replies : AllByRecursion (Answers old from l) out.replies
  pub filled : InLibrary IsFilled old → Fills l → InLibrary IsFilled s

-- An answer of one call's turn

answer-is : (old : LibraryState) (from : NodeNo) (l : Letter) (b : Treated old from l) (o : Option Reply) → (call_row b.desk b.call from l).went.reply ≡ o
    → AllByRecursion (Answers old from l) (replies_of b.call.request.caller b.call.request.call b.call.txn o)
answer-is old from l b None e = tt
answer-is old from l b (Some r) e = (record { by = b; reply = r; given = e; is = refl }, tt)

-- leaves in one call's turn
in-some : (o : Option OpenCall) (x : OpenCall) → o ≡ Some x → InSome IsFilled o → InCall IsFilled x
in-some None x e h = cc
in-some (Some y) x e h = let is : y ≡ x = cc in subst (InCall IsFilled) is h

row-has : (d : Desk) (c : OpenCall) (from : NodeNo) (l : Letter) → InMap IsFilled d.map → InCall IsFilled c → Fills l → CallHas IsFilled (call_row d c from l)
row-has d c from (letter.Got txn a) h k f = call-has IsFilled d c from (letter.Got txn a) h k f
row-has d c from (letter.Vote txn vote) h k f = call-has IsFilled d c from (letter.Vote txn vote) h k f
row-has d c from (letter.MapTell txn leaf) h k f = call-has IsFilled d c from (letter.MapTell txn leaf) h k f
row-has d c from (letter.Applied txn was) h k f = call-has IsFilled d c from (letter.Applied txn was) h k tt
row-has d c from (letter.Aborted txn) h k f = call-has IsFilled d c from (letter.Aborted txn) h k tt
row-has d c from letter.Notice h k f = call-has IsFilled d c from letter.Notice h k tt
row-has d c from other h k f = record { map = h; call = k; letters = tt }

-- what is to come when a library has treated some of its calls: those yet to be treated are as they were

data Stands (old : LibraryState) (from : NodeNo) (l : Letter) (txns : List Txn) (c : OpenCall) : Type 0 where
  as_it_was : Was old c → Stands old from l txns c
  turned : Becomes old from l c → (Awaits c.txn txns → ⊥) → Stands old from l txns c

record Going_on (old : LibraryState) (from : NodeNo) (l : Letter) (known : NodeSet) (txns : List Txn) (s : LibraryState) (out : CoreTurn) : Type 0 where
  knows : s.known ≡ known
  more : old.next ≤ s.next
  calls : AllByRecursion (Stands old from l txns) s.calls
  replies : AllByRecursion (Answers old from l) out.replies
  filled : InLibrary IsFilled old → Fills l → InLibrary IsFilled s

-- attempts that were made, each once
abbrev pub Made : ℕ → List Txn → Type 0
Made next txns = AllByRecursion (λ (t : Txn). t.number < next) txns

abbrev pub Differ : Txn → Txn → Type 0
Differ t u = t.number ≡ u.number → ⊥

still-due : (old : LibraryState) (from : NodeNo) (l : Letter) (t : Txn) (ts : List Txn) (c : OpenCall) → Stands old from l (t ∷ ts) c → Stands old from l ts c
still-due old from l t ts c (as_it_was w) = as_it_was w
still-due old from l t ts c (turned b f) = turned b (λ a. f (inr a))

not-awaited : (t : Txn) (ts : List Txn) → AllByRecursion (Differ t) ts → Awaits t ts → ⊥
not-awaited t [] h a = a
not-awaited t (u ∷ ts) h a = elim a [ inl e ↦ h.0 (ap (λ (x : Txn). x.number) e) | inr b ↦ not-awaited t ts h.1 b ]

too-high : (t : Txn) (next : ℕ) (ts : List Txn) → Made next ts → next ≤ t.number → Awaits t ts → ⊥
too-high t next [] h le a = a
too-high t next (u ∷ ts) h le a = elim a [
  | inl e ↦ let low = h.0 in let same = ap (λ (x : Txn). x.number) e in omega (arith, low, le, same)
  | inr b ↦ too-high t next ts h.1 le b
]

-- the call that has its turn is one that was open
as-was : (old : LibraryState) (from : NodeNo) (l : Letter) (t : Txn) (ts : List Txn) (c : OpenCall) → c.txn ≡ t → Stands old from l (t ∷ ts) c → Was old c
as-was old from l t ts c e (as_it_was w) = w
as-was old from l t ts c e (turned b f) = absurd (f (inl e))

-- the call of this attempt at this place has its turn
treats-one : (old : LibraryState) (from : NodeNo) (l : Letter) (known : NodeSet) (t : Txn) (ts : List Txn) (s : LibraryState) (out : CoreTurn) (place : ℕ)
    (c : OpenCall) → slice_get s.calls place ≡ Some c → c.txn ≡ t → Concerns l c → known ≡ (heard old from l).known
    → treated_call old from l (Some c) ≡ (one_call s from l place c).state → AllByRecursion (Differ t) ts → Made old.next ts
    → Going_on old from l known (t ∷ ts) s out
    → Going_on old from l known ts (one_call s from l place c).state (both out (one_call s from l place c).out)
treats-one old from l known t ts s out place c is e concerns heard_is after apart made g =
    let rest = remove s.calls place in
    let d = desk_of (record s { calls = rest }) rest in
    let u = call_row d c from l in
    let w = as-was old from l t ts c e (all-is (Stands old from l (t ∷ ts)) s.calls place c g.calls is) in
    let b : Treated old from l = record {
      index = w.index;
      call = c;
      there = w.there;
      concerns = concerns;
      desk = d;
      knows = g.knows ∙ heard_is;
      map = ap (λ (x : LibraryState). x.map) after;
      filled = λ h k. (g.filled h k).map;
    } in
    let goes_so = does d c from l u (call-does d c from l) in
    let high = g.more in
    let le = goes_so.next in
    record {
      knows = g.knows;
      more = omega (arith, high, le);
      calls = (back-with rest place u.went.call).each (Stands old from l ts)
          (all-taken (Stands old from l ts) s.calls place (all-map (Stands old from l (t ∷ ts)) _ s.calls (λ x k. still-due old from l t ts x k) g.calls))
          (λ x q. turned (record { by = b; goes = q }) (elim (goes_so.stays x q).attempt [
            | inl same ↦ let own : c.txn ≡ x.txn = cc in not-awaited x.txn ts (subst (λ k. AllByRecursion (Differ k) ts) (sym e ∙ own) apart)
            | inr f ↦ (let from_next = f.from in too-high x.txn old.next ts made (omega (arith, high, from_next)))
          ]));
      replies = all-append (Answers old from l) out.replies _ g.replies (answer-is old from l b u.went.reply refl);
      filled = λ h k.
          let f = g.filled h k in
          let has_so = row-has d c from l f.map (all-is (InCall IsFilled) s.calls place c f.calls is) k in
          record {
            map = has_so.map;
            calls = (back-with rest place u.went.call).each (InCall IsFilled) (all-taken (InCall IsFilled) s.calls place f.calls)
                (λ x q. in-some u.went.call x q has_so.call);
          };
    }

-- no call has the attempt
passed : (old : LibraryState) (from : NodeNo) (l : Letter) (known : NodeSet) (t : Txn) (ts : List Txn) (s : LibraryState) (out : CoreTurn)
    → Going_on old from l known (t ∷ ts) s out → Going_on old from l known ts s (both out no_out)
passed old from l known t ts s out g =
    subst (Going_on old from l known ts s) (sym (both-nothing out)) (record {
      knows = g.knows;
      more = g.more;
      calls = all-map (Stands old from l (t ∷ ts)) _ s.calls (λ x k. still-due old from l t ts x k) g.calls;
      replies = g.replies;
      filled = g.filled;
    })

-- the attempt's part of the turn, where what the library is after it is known
abbrev Leaves : LibraryState → NodeNo → Letter → Txn → LibraryState → Type 0
Leaves old from l t u = (c : OpenCall) → c.txn ≡ t → treated_call old from l (Some c) ≡ u

treats-call : (old : LibraryState) (from : NodeNo) (l : Letter) (known : NodeSet) (t : Txn) (ts : List Txn) (s : LibraryState) (out : CoreTurn) (place : ℕ)
    (o : Option OpenCall) → slice_get s.calls place ≡ o → ((c : OpenCall) → o ≡ Some c → c.txn ≡ t) → ((c : OpenCall) → c.txn ≡ t → Concerns l c)
    → known ≡ (heard old from l).known → Leaves old from l t (at_call s from l place o).state → AllByRecursion (Differ t) ts → Made old.next ts
    → Going_on old from l known (t ∷ ts) s out
    → Going_on old from l known ts (at_call s from l place o).state (both out (at_call s from l place o).out)
treats-call old from l known t ts s out place None e own w k leaves apart made g = passed old from l known t ts s out g
treats-call old from l known t ts s out place (Some c) e own w k leaves apart made g =
    let mine = own c refl in
    treats-one old from l known t ts s out place c e mine (w c mine) k (leaves c mine) apart made g

get-is : (xs : List OpenCall) (i : ℕ) (x d : OpenCall) → slice_get xs i ≡ Some x → get_or xs i d ≡ x
get-is [] i x d e = cc
get-is (y ∷ xs) zero x d e = cc
get-is (y ∷ xs) (suc i) x d e = get-is xs i x d e

treats-place : (old : LibraryState) (from : NodeNo) (l : Letter) (known : NodeSet) (t : Txn) (ts : List Txn) (s : LibraryState) (out : CoreTurn)
    (o : Option ℕ) → call_place s.calls t ≡ o → ((c : OpenCall) → c.txn ≡ t → Concerns l c)
    → known ≡ (heard old from l).known → Leaves old from l t (at_place s from l o).state → AllByRecursion (Differ t) ts → Made old.next ts
    → Going_on old from l known (t ∷ ts) s out
    → Going_on old from l known ts (at_place s from l o).state (both out (at_place s from l o).out)
treats-place old from l known t ts s out None e w k leaves apart made g = passed old from l known t ts s out g
treats-place old from l known t ts s out (Some place) e w k leaves apart made g =
    treats-call old from l known t ts s out place (slice_get s.calls place) refl
    (λ c is. same-is c.txn t (ap (λ (x : OpenCall). same_txn x.txn t) (sym (get-is s.calls place c c is))
    ∙ (position-Some (λ (x : OpenCall). same_txn x.txn t) s.calls place c e).1)) w k leaves apart made g

-- a notice, to each of them

abbrev Chain : LibraryState → NodeNo → LibraryState → List Txn → Type 0
Chain old y s txns = (x : Txn) → Awaits x txns → treated (learns old y) y x (attempts old.calls) ≡ treated s y x txns

head-treated : (s : LibraryState) (y : NodeNo) (t : Txn) (ts : List Txn) → treated s y t (t ∷ ts) ≡ (at_attempt s y letter.Notice (Some t)).state
head-treated s y t ts =
    let u = (at_attempt s y letter.Notice (Some t)).state in
    ap (λ b. if b then u else treated u y t ts) (same-self t)

tail-treated : (s : LibraryState) (y : NodeNo) (t x : Txn) (ts : List Txn) → AllByRecursion (Differ t) ts → Awaits x ts
    → treated s y x (t ∷ ts) ≡ treated (at_attempt s y letter.Notice (Some t)).state y x ts
tail-treated s y t x ts apart a =
    let u = (at_attempt s y letter.Notice (Some t)).state in
    ap (λ b. if b then u else treated u y x ts) (not-same (same_txn t x) refl)
  where
    not-same : (b : Bool) → same_txn t x ≡ b → same_txn t x ≡ false
    not-same true same = absurd (not-awaited t ts apart (subst (λ k. Awaits k ts) (sym (same-is t x same)) a))
    not-same false other = other

treats-all : (old : LibraryState) (y : NodeNo) (s : LibraryState) (out : CoreTurn) (txns : List Txn) → Pairwise Differ txns → Made old.next txns
    → Chain old y s txns → Going_on old y letter.Notice (learns old y).known txns s out
    → Going_on old y letter.Notice (learns old y).known [] (notice_calls s y txns).state (both out (notice_calls s y txns).out)
treats-all old y s out [] apart made chain g = subst (Going_on old y letter.Notice (learns old y).known [] s) (sym (both-nothing out)) g
treats-all old y s out (t ∷ ts) apart made chain g =
    let now = at_attempt s y letter.Notice (Some t) in
    let rest = notice_calls now.state y ts in
    let leaves : Leaves old y letter.Notice t now.state =
    (λ c e. ap (λ x. treated (learns old y) y x (attempts old.calls)) e ∙ chain t (inl refl) ∙ head-treated s y t ts) in
    subst (Going_on old y letter.Notice (learns old y).known [] rest.state) (both-assoc out now.out rest.out)
    (treats-all old y now.state (both out now.out) ts apart.1 made.1 (λ x a. chain x (inr a) ∙ tail-treated s y t x ts apart.0 a)
    (treats-place old y letter.Notice (learns old y).known t ts s out (call_place s.calls t) refl (λ c e. a_notice refl) refl leaves apart.0 made.1 g))

-- The library's turn

start-standing : (old : LibraryState) (from : NodeNo) (l : Letter) (txns : List Txn) → AllByRecursion (Stands old from l txns) old.calls
start-standing old from l txns = all-each (Stands old from l txns) old.calls (λ i c e. as_it_was (record { index = i; there = e }))

stood : (old : LibraryState) (from : NodeNo) (l : Letter) (txns : List Txn) (x : OpenCall) → Stands old from l txns x → Was old x ⊎ Becomes old from l x
stood old from l txns x (as_it_was w) = inl w
stood old from l txns x (turned b f) = inr b

went-on : (old : LibraryState) (from : NodeNo) (l : Letter) (known : NodeSet) (txns : List Txn) (s : LibraryState) (out : CoreTurn)
    → Going_on old from l known txns s out → Turned old from l s out
went-on old from l known txns s out g =
    record {
      calls = all-map (Stands old from l txns) (λ x. Was old x ⊎ Becomes old from l x) s.calls (λ x k. stood old from l txns x k) g.calls;
      replies = g.replies;
      filled = g.filled;
    }

-- a letter of an attempt
treats-letter : (old : LibraryState) (from : NodeNo) (l : Letter) (o : Option Txn) → ((c : OpenCall) → o ≡ Some c.txn → Concerns l c)
    → ((c : OpenCall) → treated_call old from l (Some c) ≡ (at_attempt old from l o).state) → (heard old from l).known ≡ old.known
    → Turned old from l (at_attempt old from l o).state (at_attempt old from l o).out
treats-letter old from l None w leaves k =
    went-on old from l old.known [] old no_out
    (record { knows = refl; more = omega arith; calls = start-standing old from l []; replies = tt; filled = λ h k. h })
treats-letter old from l (Some t) w leaves k =
    went-on old from l old.known [] _ _ (treats-place old from l old.known t [] old no_out (call_place old.calls t) refl (λ c e. w c (ap Some (sym e)))
    (sym k) (λ c e. leaves c) tt tt
    (record { knows = refl; more = omega arith; calls = start-standing old from l (t ∷ []); replies = tt; filled = λ h k. h }))

live-turn : (old : LibraryState) (from : NodeNo) (l : Letter) → old.stopped ≡ false → library_turn old from l ≡ live_library_turn old from l
live-turn old from l e = ap (λ b. if b then keeps old else live_library_turn old from l) e

pub library-treats : (old : LibraryState) (from : NodeNo) (l : Letter) → old.stopped ≡ false → Pairwise Differ (attempts old.calls)
    → Made old.next (attempts old.calls) → Turned old from l (live_library_turn old from l).state (live_library_turn old from l).out
library-treats old from letter.Notice live apart made =
    went-on old from letter.Notice (learns old from).known [] _ _ (treats-all old from (learns old from) no_out (attempts old.calls) apart made
    (λ x a. refl)
    (record {
      knows = refl;
      more = omega arith;
      calls = start-standing old from letter.Notice (attempts old.calls);
      replies = tt;
      filled = λ h k. record { map = h.map; calls = h.calls };
    }))
library-treats old from other live apart made =
    treats-letter old from other (attempt_of other) (λ c e. its_attempt e) (λ c. ap (λ (t : LibraryTurn). t.state) (live-turn old from other live)) refl
