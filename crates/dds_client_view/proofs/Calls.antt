-- How the calls of the lines and the calls of the run belong together.
use Rattle.std.proofs.Common.{◌≡◌, ℕ, ◌<◌, Bool, true, false, sym, refl, List, [], ◌∷◌, ◌++◌, append_assoc, ◌∙◌, ap}
use Rattle.std.specs.Prelude.{map, filter, not, ◌||◌, ◌==◌, if◌then◌else◌}
use Rattle.std.proofs.lemmas.Bool.{and_parts, eqb-true}
use Rattle.std.specs.List.{AllByRecursion, list_any}
use Rattle.dds_base.specs.declared.number.CallNo.{CallNo}
use Rattle.dds_cluster.specs.Lists.{is_asked, is_call_of}
use Rattle.dds_client_view.specs.Seen.{SeenAnswer, SeenCall, answers_in}
use Rattle.dds_cluster.specs.declared.trace.Asked.{Asked}
use Rattle.dds_cluster.specs.declared.trace.Told.{Told}

-- the answer of a run, as the transcript says it
abbrev pub told_answer : Told → SeenAnswer
told_answer r = record { caller = r.caller; call = r.call; reply = r.reply }

abbrev pub IsBefore : ℕ → Told → Type 0
IsBefore place r = r.place < place

-- a call of the lines is this call of the run, of which these are all answers: what was printed before its line are the answers that
-- were given before its Input
pub record IsCallOf (told : List Told) (c : SeenCall) (a : Asked) : Type 0 where
  pub caller : a.caller ≡ c.caller
  pub call : a.call ≡ c.call
  pub op : a.op ≡ c.op
  pub first : List Told
  pub later : List Told
  pub whole : told ≡ first ++ later
  pub printed : answers_in c.before ≡ map told_answer first
  pub places : AllByRecursion (IsBefore a.place) first

-- so one after another
abbrev pub AreMade : List Told → List SeenCall → List Asked → Type 0
AreMade told [] [] = Unit {0}
AreMade told [] (a ∷ asked) = ⊥
AreMade told (c ∷ calls) [] = ⊥
AreMade told (c ∷ calls) (a ∷ asked) = IsCallOf told c a × AreMade told calls asked

call-later : (told more all : List Told) (c : SeenCall) (a : Asked) → all ≡ told ++ more → IsCallOf told c a → IsCallOf all c a
call-later told more all c a e g =
    record {
      caller = g.caller;
      call = g.call;
      op = g.op;
      first = g.first;
      later = g.later ++ more;
      whole = e ∙ ap (λ (x : List Told). x ++ more) g.whole ∙ append_assoc g.first g.later more;
      printed = g.printed;
      places = g.places;
    }

pub made-later : (told more all : List Told) (calls : List SeenCall) (asked : List Asked) → all ≡ told ++ more → AreMade told calls asked
    → AreMade all calls asked
made-later told more all [] [] e h = tt
made-later told more all [] (a ∷ asked) e h = absurd h
made-later told more all (c ∷ calls) [] e h = absurd h
made-later told more all (c ∷ calls) (a ∷ asked) e h = (call-later told more all c a e h.0, made-later told more all calls asked e h.1)

pub made-push : (told : List Told) (calls : List SeenCall) (asked : List Asked) (c : SeenCall) (a : Asked) → AreMade told calls asked → IsCallOf told c a
    → AreMade told (calls ++ c ∷ []) (asked ++ a ∷ [])
made-push told [] [] c a h k = (k, tt)
made-push told [] (b ∷ asked) c a h k = absurd h
made-push told (d ∷ calls) [] c a h k = absurd h
made-push told (d ∷ calls) (b ∷ asked) c a h k = (h.0, made-push told calls asked c a h.1 k)

-- what is so of each call of the run is so of each call of the lines
pub made-all : (told : List Told) (P : SeenCall → Type 0) (Q : Asked → Type 0) (calls : List SeenCall) (asked : List Asked)
    → ((c : SeenCall) (a : Asked) → IsCallOf told c a → Q a → P c) → AreMade told calls asked → AllByRecursion Q asked → AllByRecursion P calls
made-all told P Q [] [] f h q = tt
made-all told P Q [] (a ∷ asked) f h q = absurd h
made-all told P Q (c ∷ calls) [] f h q = absurd h
made-all told P Q (c ∷ calls) (a ∷ asked) f h q = (f c a h.0 q.0, made-all told P Q calls asked f h.1 q.1)

or-others : (a b : Bool) → b ≡ true → (a || b) ≡ true
or-others true b e = refl
or-others false b e = e

-- the calls whose callers weren't busy
abbrev pub made_calls : List SeenCall → List SeenCall
made_calls calls = filter (λ c. not c.busy) calls

-- a call that was asked is one of the lines
any-first : (told : List Told) (P : SeenCall → Bool) (k : ℕ) (call : CallNo) (c : SeenCall) (made : List SeenCall) (asked : List Asked) (others : Bool)
    → AreMade told (c ∷ made) asked → is_asked asked k call ≡ true → (c.caller ≡ k → c.call.0 ≡ call.0 → P c ≡ true)
    → ((rest : List Asked) → AreMade told made rest → is_asked rest k call ≡ true → others ≡ true) → (P c || others) ≡ true
any-first told P k call c made [] others h e own f = absurd h
any-first told P k call c made (a ∷ asked) others h e own f =
    elim (is_call_of k call a) as (λ b. is_call_of k call a ≡ b → (P c || others) ≡ true) [
      | true ↦ λ is.
          let parts = and_parts (a.caller == k) (a.call.0 == call.0) is in
          let number : c.call.0 ≡ call.0 = ap (λ (n : CallNo). n.0) (sym h.0.call) ∙ eqb-true a.call.0 call.0 parts.1 in
          ap (λ b. b || others) (own (sym h.0.caller ∙ eqb-true a.caller k parts.0) number)
      | false ↦ λ no. or-others (P c) others (f asked h.1 (ap (λ b. b || is_asked asked k call) (sym no) ∙ e))
    ] refl

pub any-made : (told : List Told) (P : SeenCall → Bool) (k : ℕ) (call : CallNo) (calls : List SeenCall) (asked : List Asked)
    → AreMade told (made_calls calls) asked → is_asked asked k call ≡ true
    → ((c : SeenCall) → c.busy ≡ false → c.caller ≡ k → c.call.0 ≡ call.0 → P c ≡ true) → list_any P calls ≡ true
any-made told P k call [] [] h e f = absurd (cc)
any-made told P k call [] (a ∷ asked) h e f = absurd h
any-made told P k call (c ∷ calls) asked h e f =
    elim (c.busy) as (λ b. c.busy ≡ b → AreMade told (if not b then c ∷ made_calls calls else made_calls calls) asked → (P c || list_any P calls) ≡ true) [
      | true ↦ λ is g. or-others (P c) (list_any P calls) (any-made told P k call calls asked g e f)
      | false ↦ λ is g. any-first told P k call c (made_calls calls) asked (list_any P calls) g e (f c is)
          (λ rest more i. any-made told P k call calls rest more i f)
    ] refl h
