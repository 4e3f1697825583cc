-- The numbers of calls: a caller's next call has none of those that were asked or answered.
use Rattle.std.proofs.Common.{◌≡◌, ℕ, ◌+◌, ◌<◌, true, false, List, [], ◌∷◌, ◌++◌, zero, suc, refl}
use Rattle.std.proofs.Common.{sym, ap, subst, ◌∙◌, arith, length}
use Rattle.std.specs.Prelude.{Some, None, map, if◌then◌else◌, ◌&&◌, ◌||◌, ◌==◌, slice_index_or, slice_set}
use Rattle.std.specs.List.{AllByRecursion}
use Rattle.std.proofs.lemmas.Bool.{and_parts, both_ways, eqb-true}
use Rattle.std.proofs.lemmas.Bool.Decides.{nat_tests}
use Rattle.std.proofs.lemmas.List.{length-set}
use Rattle.dds_base.specs.declared.number.CallNo.{CallNo}
use Rattle.dds_base.specs.declared.op.Op.{Op}
use Rattle.dds_client_view.proofs.Calls.{told_answer}
use Rattle.dds_client_view.specs.Seen.{SeenLine}
use Rattle.dds_client_view.specs.Seen.{first_answer, is_line_of, lines_of}
use Rattle.dds_cluster.specs.Lists.{is_asked, is_call_of}
use Rattle.dds_cluster.specs.declared.trace.Asked.{Asked}
use Rattle.dds_cluster.specs.declared.trace.Told.{Told}
use Rattle.dds_script.specs.declared.line.Line.TheVariants as line
use Rattle.dds_walk.specs.Walk.{counted}
use Rattle.dds_walk.specs.declared.walk.Walk.{Walk}
use Rattle.dds_client_view.proofs.Shows.{IsAsked, IsOld, Shows}
use Rattle.dds_client_view.proofs.Shows.{lines-same, lines-one}

-- a call that has the caller's next number isn't among those so far
pub other-call : (a b m n : ℕ) (before : List SeenLine) → m < lines_of a before → n ≡ lines_of b before → (a == b && m == n) ≡ false
other-call a b m n before h e = elim (a == b) as (λ c. (a == b) ≡ c → (c && m == n) ≡ false) [
  | true ↦ λ same.
      let at : a ≡ b = grind (arith, nat_tests, same) in
      let less : m < n = omega (arith, h, e, ap (λ i. lines_of i before) at) in
      grind (arith, nat_tests, less)
  | false ↦ λ same. refl
] refl

pub not-asked : (before : List SeenLine) (caller : ℕ) (call : CallNo) (asked : List Asked) → call.0 ≡ lines_of caller before
    → AllByRecursion (IsOld before) asked → is_asked asked caller call ≡ false
not-asked before caller call [] e h = refl
not-asked before caller call (a ∷ asked) e h =
    ap (λ b. b || is_asked asked caller call) (other-call a.caller caller a.call.0 call.0 before h.0 e) ∙ not-asked before caller call asked e h.1

-- a call that was asked has a number below the caller's next one
pub old-number : (before : List SeenLine) (k : ℕ) (call : CallNo) (asked : List Asked) → AllByRecursion (IsOld before) asked → is_asked asked k call ≡ true
    → call.0 < lines_of k before
old-number before k call [] h e = absurd (cc)
old-number before k call (a ∷ asked) h e =
    elim (is_call_of k call a) as (λ b. is_call_of k call a ≡ b → (b || is_asked asked k call) ≡ true → call.0 < lines_of k before) [
      | true ↦ λ is any.
          let parts = and_parts (a.caller == k) (a.call.0 == call.0) is in
          omega (arith, h.0, eqb-true a.call.0 call.0 parts.1, ap (λ i. lines_of i before) (eqb-true a.caller k parts.0))
      | false ↦ λ is rest. old-number before k call asked h.1 rest
    ] refl e

-- so it isn't answered yet
pub not-answered : (before : List SeenLine) (asked : List Asked) (told : List Told) (caller : ℕ) (call : CallNo) → call.0 ≡ lines_of caller before
    → AllByRecursion (IsOld before) asked → AllByRecursion (IsAsked asked) told → first_answer (map told_answer told) caller call ≡ None
not-answered before asked [] caller call e h k = refl
not-answered before asked (r ∷ told) caller call e h k =
    elim (r.caller == caller && r.call.0 == call.0)
    as (λ b. (r.caller == caller && r.call.0 == call.0) ≡ b
    → (if b then Some r.reply else first_answer (map told_answer told) caller call) ≡ None) [
      | true ↦ λ same.
          let parts = and_parts (r.caller == caller) (r.call.0 == call.0) same in
          let number : r.call.0 ≡ call.0 = eqb-true r.call.0 call.0 parts.1 in
          let its : r.call ≡ call = λ i. record { 0 = number i } in
          let was : is_asked asked caller call ≡ true =
          subst (λ n. is_asked asked n call ≡ true) (eqb-true r.caller caller parts.0) (subst (λ n. is_asked asked r.caller n ≡ true) its k.0) in
          absurd (both_ways (is_asked asked caller call) (not-asked before caller call asked e h) was)
      | false ↦ λ other. not-answered before asked told caller call e h k.1
    ] refl

pub asked-push : (asked : List Asked) (a : Asked) (caller : ℕ) (call : CallNo) → is_asked asked caller call ≡ false → is_call_of caller call a ≡ false
    → is_asked (asked ++ a ∷ []) caller call ≡ false
asked-push [] a caller call h k = ap (λ b. b || false) k
asked-push (b ∷ asked) a caller call h k =
    elim (is_call_of caller call b) as (λ x. (x || is_asked asked caller call) ≡ false → (x || is_asked (asked ++ a ∷ []) caller call) ≡ false) [
      | true ↦ λ e. absurd (cc)
      | false ↦ λ e. asked-push asked a caller call e k
    ] h

-- the new call has the number that none of the former ones has
pub new-call : (caller b m n : ℕ) (before : List SeenLine) → m ≡ lines_of caller before → n < lines_of b before → (caller == b && m == n) ≡ false
new-call caller b m n before e h = elim (caller == b) as (λ c. (caller == b) ≡ c → (c && m == n) ≡ false) [
  | true ↦ λ same.
      let at : caller ≡ b = grind (arith, nat_tests, same) in
      let less : n < m = omega (arith, h, e, ap (λ i. lines_of i before) at) in
      grind (arith, nat_tests, less)
  | false ↦ λ same. refl
] refl

-- the counts behind a call line
set-same : (ns : List ℕ) (i v : ℕ) → i < length ns → slice_index_or (slice_set ns i v) i 0 ≡ v
set-same [] i v h = omega (arith, h)
set-same (n ∷ ns) zero v h = refl
set-same (n ∷ ns) (suc i) v h = set-same ns i v (omega (arith, h))

set-other : (ns : List ℕ) (i j v : ℕ) → (i ≡ j → ⊥) → slice_index_or (slice_set ns i v) j 0 ≡ slice_index_or ns j 0
set-other [] i j v h = refl
set-other (n ∷ ns) zero zero v h = absurd (h refl)
set-other (n ∷ ns) zero (suc j) v h = refl
set-other (n ∷ ns) (suc i) zero v h = refl
set-other (n ∷ ns) (suc i) (suc j) v h = set-other ns i j v (λ e. h (ap suc e))

not-same : (i j : ℕ) → (i == j) ≡ false → i ≡ j → ⊥
not-same i j h e = let same : (i == j) ≡ true = grind (arith, nat_tests, e) in let no : true ≡ false = sym same ∙ h in cc

pub counts-more : (before : List SeenLine) (w : Walk) (caller : ℕ) (s : SeenLine) (op : Op) → s.line ≡ line.Call caller op → Shows before w
    → caller < length w.counts
    → (c : ℕ) → c < length (counted w caller).counts → slice_index_or (counted w caller).counts c 0 ≡ lines_of c (before ++ s ∷ [])
counts-more before w caller s op is h there c small =
    let size = length-set w.counts caller (slice_index_or w.counts caller 0 + 1) in
    let old = h.counts c (omega (arith, small, size)) in
    elim (caller == c) as (λ b. (caller == c) ≡ b → slice_index_or (counted w caller).counts c 0 ≡ lines_of c (before ++ s ∷ [])) [
      | true ↦ λ same.
          let at : caller ≡ c = grind (arith, nat_tests, same) in
          let one = lines-one c before s (ap (is_line_of c) is ∙ same) in
          let set = set-same w.counts caller (slice_index_or w.counts caller 0 + 1) there in
          ap (λ n. slice_index_or (counted w caller).counts n 0) (sym at) ∙ set ∙ ap (λ n. n + 1) (h.counts caller there)
          ∙ ap (λ n. lines_of n before + 1) at ∙ sym one
      | false ↦ λ other.
          set-other w.counts caller c (slice_index_or w.counts caller 0 + 1) (not-same caller c other) ∙ old
          ∙ sym (lines-same c before s (ap (is_line_of c) is ∙ other))
    ] refl

-- a call that isn't answered
pub no-answer : (told : List Told) (caller : ℕ) (call : CallNo) → AllByRecursion (λ r. r.caller ≡ caller → r.call ≡ call → ⊥) told
    → first_answer (map told_answer told) caller call ≡ None
no-answer [] caller call h = refl
no-answer (r ∷ told) caller call h =
    elim (r.caller == caller && r.call.0 == call.0)
    as (λ b. (r.caller == caller && r.call.0 == call.0) ≡ b
    → (if b then Some r.reply else first_answer (map told_answer told) caller call) ≡ None) [
      | true ↦ λ same.
          let parts = and_parts (r.caller == caller) (r.call.0 == call.0) same in
          let number : r.call.0 ≡ call.0 = eqb-true r.call.0 call.0 parts.1 in
          absurd (h.0 (eqb-true r.caller caller parts.0) (λ i. record { 0 = number i }))
      | false ↦ λ other. no-answer told caller call h.1
    ] refl
