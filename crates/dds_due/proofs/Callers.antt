use Rattle.std.proofs.Common.{◌≡◌, ℕ, ◌+◌, ◌==◌, ◌&&◌, ◌⊎◌, inl, inr, Bool, true, false, Option, Some, None, List, [], ◌∷◌, ◌++◌, refl, sym, ap, ◌∙◌, subst}
use Rattle.std.proofs.lemmas.Bool.{and_from, and_parts, cases_eq, eq-eqb, eqb-true}
use Rattle.std.proofs.lemmas.Option.{slice_get_within}
use Rattle.std.specs.Prelude.{is_none, is_some, nat_le, slice_get, slice_set, if◌then◌else◌}
use Rattle.dds_base.specs.Number.{Txn}
use Rattle.dds_base.specs.declared.number.CallNo.{CallNo}
use Rattle.dds_base.specs.declared.op.Reply.{Reply}
use Rattle.dds_cluster.specs.Trace.{all_closed, closed_by, closes, may_call, opens, told_at}
use Rattle.dds_cluster.specs.declared.trace.Caller.{Caller}
use Rattle.dds_cluster.specs.declared.trace.Told.{Told}
use Rattle.dds_core.proofs.Tells.{Given, Gives}
use Rattle.std.specs.List.{AllByRecursion}
use Rattle.dds_core.specs.LibraryTurn as core
use Rattle.dds_net.proofs.Nodes.{get-set-other, get-set-same}
use Rattle.dds_states.specs.declared.turn.Replied.{Replied}
use Rattle.dds_states.specs.declared.turn.Replied.TheVariants as replied
use Rattle.dds_world.specs.Stands.{answer_to, answers}
use Rattle.dds_due.specs.Opened.{HasOpen}

-- Callers, where calls are opened and answered.

pub some-is : {X : Type 0} (x y : X) → Some x ≡ Some y → x ≡ y
some-is x y e = cc

-- who has an open call after answers had it before them
abbrev pub Before : List Caller → List Caller → Type 0
Before cs ds = (k : ℕ) (who : Caller) (call : CallNo) → slice_get ds k ≡ Some who → who.call ≡ Some call → slice_get cs k ≡ Some who

closes-before : (cs : List Caller) (caller : ℕ) (o : Option Caller) → slice_get cs caller ≡ o → Before cs (closes cs caller o)
closes-before cs caller None e k who call there is = there
closes-before cs caller (Some c) e k who call there is = elim (cases_eq caller k) [
  | inl f ↦
      let d : Caller = record c { call = None } in
      let at : slice_get (slice_set cs caller d) k ≡ Some d =
      ap (slice_get (slice_set cs caller d)) (sym f) ∙ get-set-same cs caller d (slice_get_within cs caller c e) in
      let no : None ≡ Some call = ap (λ (y : Caller). y.call) (some-is d who (sym at ∙ there)) ∙ is in
      cc
  | inr ne ↦ sym (get-set-other cs caller k (record c { call = None }) ne) ∙ there
]

closed-before : (cs : List Caller) (r : Replied) → Before cs (closed_by cs r)
closed-before cs (replied.Call read caller call reply) k who next there is = closes-before cs caller (slice_get cs caller) refl k who next there is
closed-before cs (replied.Order reply) k who call there is = there

pub all-before : (cs : List Caller) (rs : List Replied) → Before cs (all_closed cs rs)
all-before cs [] k who call there is = there
all-before cs (r ∷ rs) k who call there is =
    closed-before cs r k who call (all-before (closed_by cs r) rs k who call there is) is

-- whose call is answered has none open
closes-own : (cs : List Caller) (caller : ℕ) (o : Option Caller) (who : Caller) (call : CallNo) → slice_get cs caller ≡ o
    → slice_get (closes cs caller o) caller ≡ Some who → who.call ≡ Some call → ⊥
closes-own cs caller None who call e there is = let no : None ≡ Some who = sym e ∙ there in cc
closes-own cs caller (Some c) who call e there is =
    let d : Caller = record c { call = None } in
    let no : None ≡ Some call =
    ap (λ (y : Caller). y.call) (some-is d who (sym (get-set-same cs caller d (slice_get_within cs caller c e)) ∙ there)) ∙ is in
    cc

pub answered-own : (cs : List Caller) (caller : ℕ) (call next : CallNo) (txn : Txn) (o : Option Reply) (r : Reply) (who : Caller) → o ≡ Some r
    → slice_get (all_closed cs (core.replies_of caller call txn o)) caller ≡ Some who → who.call ≡ Some next → ⊥
answered-own cs caller call next txn None r who e there is = cc
answered-own cs caller call next txn (Some x) r who e there is = closes-own cs caller (slice_get cs caller) who next refl there is

-- A call is opened

-- a caller that may make a call
pub record MayOpen (o : Option Caller) (at : ℕ) : Type 0 where
  pub who : Caller
  pub there : o ≡ Some who
  pub library : who.library ≡ at
  pub free : who.call ≡ None

none-is : (o : Option CallNo) → is_none o ≡ true → o ≡ None
none-is None e = refl
none-is (Some c) e = cc

pub may-open : (o : Option Caller) (at : ℕ) (call : CallNo) → may_call o at call ≡ true → MayOpen o at
may-open None at call e = cc
may-open (Some c) at call e =
    let p = and_parts (c.library == at) (is_none c.call && nat_le c.least call.0) e in
    let q = and_parts (is_none c.call) (nat_le c.least call.0) p.1 in
    record { who = c; there = refl; library = eqb-true c.library at p.0; free = none-is c.call q.0 }

abbrev pub opened_caller : Caller → CallNo → Caller
opened_caller c call = record c { call = Some call; least = call.0 + 1 }

pub opened-there : (cs : List Caller) (caller at : ℕ) (call : CallNo) (m : MayOpen (slice_get cs caller) at)
    → slice_get (opens cs caller call (slice_get cs caller)) caller ≡ Some (opened_caller m.who call)
opened-there cs caller at call m =
    ap (λ o. slice_get (opens cs caller call o) caller) m.there ∙ get-set-same cs caller _ (slice_get_within cs caller m.who m.there)

pub opens-other : (cs : List Caller) (caller k : ℕ) (call : CallNo) (o : Option Caller) → (caller ≡ k → ⊥)
    → slice_get (opens cs caller call o) k ≡ slice_get cs k
opens-other cs caller k call None ne = refl
opens-other cs caller k call (Some x) ne = get-set-other cs caller k _ ne

-- an open call is open still
pub opens-open : (cs : List Caller) (caller at k : ℕ) (call other : CallNo) → may_call (slice_get cs caller) at call ≡ true → HasOpen cs k other
    → HasOpen (opens cs caller call (slice_get cs caller)) k other
opens-open cs caller at k call other may h = elim (cases_eq caller k) [
  | inl e ↦
      let m = may-open (slice_get cs caller) at call may in
      let no : None ≡ Some other =
      sym m.free ∙ ap (λ (x : Caller). x.call) (some-is m.who h.who (sym m.there ∙ ap (slice_get cs) e ∙ h.there)) ∙ h.call_is in
      cc
  | inr ne ↦ record { who = h.who; there = opens-other cs caller k call (slice_get cs caller) ne ∙ h.there; call_is = h.call_is }
]

pub opens-own : (cs : List Caller) (caller at : ℕ) (call : CallNo) → may_call (slice_get cs caller) at call ≡ true
    → HasOpen (opens cs caller call (slice_get cs caller)) caller call
opens-own cs caller at call may =
    let m = may-open (slice_get cs caller) at call may in
    record { who = opened_caller m.who call; there = opened-there cs caller at call m; call_is = refl }

-- Answers, one after the other, each to a call that is open then

abbrev pub IsOpenFor : List Caller → Replied → Type 0
IsOpenFor cs (replied.Call read caller call reply) = HasOpen cs caller call
IsOpenFor cs (replied.Order reply) = Unit {0}

abbrev pub AreOpenFor : List Caller → List Replied → Type 0
AreOpenFor cs [] = Unit {0}
AreOpenFor cs (r ∷ rs) = IsOpenFor cs r × AreOpenFor (closed_by cs r) rs

pub open-append : (cs : List Caller) (rs qs : List Replied) → AreOpenFor cs rs → AreOpenFor (all_closed cs rs) qs → AreOpenFor cs (rs ++ qs)
open-append cs [] qs h k = k
open-append cs (r ∷ rs) qs h k = (h.0, open-append (closed_by cs r) rs qs h.1 k)

pub orders-open : (M : Given) (cs : List Caller) (rs : List Replied) → AllByRecursion (Gives M) rs → AreOpenFor cs rs
orders-open M cs [] h = tt
orders-open M cs (replied.Order r ∷ rs) h = (tt, orders-open M cs rs h.1)
orders-open M cs (replied.Call read caller call r ∷ rs) h = absurd h.0

pub one-open : (cs : List Caller) (caller : ℕ) (call : CallNo) (txn : Txn) (o : Option Reply) → HasOpen cs caller call
    → AreOpenFor cs (core.replies_of caller call txn o)
one-open cs caller call txn None h = tt
one-open cs caller call txn (Some r) h = (h, tt)

-- an open call is open still, or was answered

answers-this : (place : ℕ) (read : Option Txn) (caller : ℕ) (call : CallNo) (reply : Reply) (rest : List Told)
    → is_some (answer_to (record { place = place; read = read; caller = caller; call = call; reply = reply } ∷ rest) caller call) ≡ true
answers-this place read caller call reply rest =
    let r : Told = record { place = place; read = read; caller = caller; call = call; reply = reply } in
    ap (λ b. is_some (if b then Some r else answer_to rest caller call))
    (and_from (caller == caller) (call.0 == call.0) (eq-eqb caller caller refl) (eq-eqb call.0 call.0 refl))

pub answers-behind : (told more : List Told) (caller : ℕ) (call : CallNo) → is_some (answer_to more caller call) ≡ true
    → is_some (answer_to (told ++ more) caller call) ≡ true
answers-behind [] more caller call e = e
answers-behind (r ∷ rs) more caller call e = by (answers caller call r) (answers-behind rs more caller call e)
  where
    by : (b : Bool) → is_some (answer_to (rs ++ more) caller call) ≡ true → is_some (if b then Some r else answer_to (rs ++ more) caller call) ≡ true
    by true f = refl
    by false f = f

pub answers-before : (told more : List Told) (caller : ℕ) (call : CallNo) → is_some (answer_to told caller call) ≡ true
    → is_some (answer_to (told ++ more) caller call) ≡ true
answers-before [] more caller call e = cc
answers-before (r ∷ rs) more caller call e = by (answers caller call r) e (answers-before rs more caller call)
  where
    by : (b : Bool) → is_some (if b then Some r else answer_to rs caller call) ≡ true
        → (is_some (answer_to rs caller call) ≡ true → is_some (answer_to (rs ++ more) caller call) ≡ true)
        → is_some (if b then Some r else answer_to (rs ++ more) caller call) ≡ true
    by true f g = refl
    by false f g = g f

closes-or : (cs : List Caller) (place : ℕ) (read : Option Txn) (by k : ℕ) (call other : CallNo) (reply : Reply) → HasOpen cs by call → HasOpen cs k other
    → (is_some (answer_to (told_at place (replied.Call read by call reply ∷ [])) k other) ≡ true) ⊎ HasOpen (closes cs by (slice_get cs by)) k other
closes-or cs place read by k call other reply mine h = elim (cases_eq by k) [
  | inl e ↦
      let same : call ≡ other = some-is call other (sym mine.call_is
      ∙ ap (λ (x : Caller). x.call) (some-is mine.who h.who (sym mine.there ∙ ap (slice_get cs) e ∙ h.there)) ∙ h.call_is) in
      let told = told_at place (replied.Call read by call reply ∷ []) in
      inl (subst (λ i. is_some (answer_to told i other) ≡ true) e
      (subst (λ c. is_some (answer_to told by c) ≡ true) same (answers-this place read by call reply [])))
  | inr ne ↦
      inr (record {
        who = h.who;
        there = closes-other (slice_get cs by) ne ∙ h.there;
        call_is = h.call_is;
      })
]
  where
    closes-other : (o : Option Caller) → (by ≡ k → ⊥) → slice_get (closes cs by o) k ≡ slice_get cs k
    closes-other None ne = refl
    closes-other (Some x) ne = get-set-other cs by k _ ne

pub open-or-told : (cs : List Caller) (place k : ℕ) (call : CallNo) (rs : List Replied) → AreOpenFor cs rs → HasOpen cs k call
    → (is_some (answer_to (told_at place rs) k call) ≡ true) ⊎ HasOpen (all_closed cs rs) k call
open-or-told cs place k call [] o h = inr h
open-or-told cs place k call (replied.Order reply ∷ rs) o h = open-or-told cs place k call rs o.1 h
open-or-told cs place k call (replied.Call read by at reply ∷ rs) o h =
    elim (closes-or cs place read by k at call reply o.0 h) [
      | inl e ↦ inl (answers-before (told_at place (replied.Call read by at reply ∷ [])) (told_at place rs) k call e)
      | inr g ↦ elim (open-or-told (closes cs by (slice_get cs by)) place k call rs o.1 g) [
        | inl e ↦ inl (answers-behind (told_at place (replied.Call read by at reply ∷ [])) (told_at place rs) k call e)
        | inr m ↦ inr m
      ]
    ]
