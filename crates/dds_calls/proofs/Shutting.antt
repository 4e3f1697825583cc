use Rattle.std.proofs.Common.{◌≡◌, ℕ, ◌+◌, ◌<◌, ◌≤◌, inl, inr, ◌&&◌, ◌==◌, true, Option, Some, None, List, [], ◌∷◌, ◌++◌}
use Rattle.std.proofs.Common.{refl, sym}
use Rattle.std.proofs.Common.{ap, ◌∙◌, subst, arith}
use Rattle.std.proofs.lemmas.Bool.{and_parts, cases_eq}
use Rattle.std.proofs.lemmas.Bool.Decides.{nat_tests}
use Rattle.std.proofs.lemmas.List.{append-nil, append_assoc}
use Rattle.std.proofs.lemmas.Option.{slice_get_within}
use Rattle.std.specs.List.{AllByRecursion}
use Rattle.std.specs.Prelude.{is_none, nat_le, slice_get}
use Rattle.dds_base.specs.Number.{Txn}
use Rattle.dds_base.specs.declared.number.CallNo.{CallNo}
use Rattle.dds_base.specs.declared.op.Reply.{Reply}
use Rattle.dds_cluster.specs.Trace.{all_closed, closed_by, closes, may_call, opens, told_at}
use Rattle.dds_cluster.specs.declared.trace.Caller.{Caller}
use Rattle.dds_cluster.specs.declared.trace.Told.{Told}
use Rattle.dds_core.proofs.Lists.{all-append, all-map}
use Rattle.dds_core.proofs.Tells.{Given, Gives}
use Rattle.dds_core.specs.LibraryTurn.{live_library_turn}
use Rattle.dds_core.specs.LibraryTurn as core
use Rattle.dds_net.proofs.Nodes.{get-set-other, get-set-same}
use Rattle.dds_net.proofs.Pairwise.{Pairwise, pairs-append}
use Rattle.dds_states.specs.declared.turn.Replied.{Replied}
use Rattle.dds_states.specs.declared.turn.Replied.TheVariants as replied

-- No call is answered twice.
--
-- | part      | why it is needed                                                | which rows keep it                                  |
-- | `shut`    | a call that was answered isn't its caller's open one            | an answer closes the call; Input opens a higher one |
-- | `once`    | claimed                                                         | only an open call is answered                       |
-- | `opened`  | the call that an answer closes is below the caller's least one  | Input raises the least number                       |

-- the caller of an answered call has another one open, if any
pub record IsShut (cs : List Caller) (r : Told) : Type 0 where
  pub caller : Caller
  pub there : slice_get cs r.caller ≡ Some caller
  pub below : r.call.0 < caller.least
  pub shut : (k : CallNo) → caller.call ≡ Some k → k.0 ≡ r.call.0 → ⊥

abbrev pub OtherTold : Told → Told → Type 0
OtherTold a b = a.caller ≡ b.caller → a.call.0 ≡ b.call.0 → ⊥

abbrev pub AreOpened : List Caller → Type 0
AreOpened cs = (i : ℕ) (c : Caller) (k : CallNo) → slice_get cs i ≡ Some c → c.call ≡ Some k → k.0 < c.least

pub record Telling (cs : List Caller) (told : List Told) : Type 0 where
  pub shut : AllByRecursion (IsShut cs) told
  pub once : Pairwise OtherTold told
  pub opened : AreOpened cs

-- a caller's call is closed

same-caller : (cs : List Caller) (k : ℕ) (x y : Caller) → slice_get cs k ≡ Some x → slice_get cs k ≡ Some y → x ≡ y
same-caller cs k x y e f = let both = sym e ∙ f in cc

closes-shut : (cs : List Caller) (k : ℕ) (o : Option Caller) (r : Told) → slice_get cs k ≡ o → IsShut cs r → IsShut (closes cs k o) r
closes-shut cs k None r e h = h
closes-shut cs k (Some c) r e h = elim (cases_eq k r.caller) [
  | inl is ↦
      let same : c ≡ h.caller = same-caller cs k c h.caller e (ap (slice_get cs) is ∙ h.there) in
      record {
        caller = record c { call = None };
        there = subst (λ i. slice_get (closes cs k (Some c)) i ≡ Some (record c { call = None })) is (get-set-same cs k _ (slice_get_within cs k c e));
        below = subst (λ (x : Caller). r.call.0 < x.least) (sym same) h.below;
        shut = λ k e f. cc;
      }
  | inr ne ↦ record { caller = h.caller; there = get-set-other cs k r.caller _ ne ∙ h.there; below = h.below; shut = h.shut }
]

closes-opened : (cs : List Caller) (k : ℕ) (o : Option Caller) → slice_get cs k ≡ o → AreOpened cs → AreOpened (closes cs k o)
closes-opened cs k None e h i x call there is = h i x call there is
closes-opened cs k (Some c) e h i x call there is = elim (cases_eq k i) [
  | inl same ↦
      let set : slice_get (closes cs k (Some c)) i ≡ Some (record c { call = None }) =
      subst (λ j. slice_get (closes cs k (Some c)) j ≡ Some (record c { call = None })) same (get-set-same cs k _ (slice_get_within cs k c e)) in
      let shut : x ≡ record c { call = None } = let both = sym there ∙ set in cc in
      let no : None ≡ Some call = ap (λ (y : Caller). y.call) (sym shut) ∙ is in
      cc
  | inr ne ↦ h i x call (sym (get-set-other cs k i _ ne) ∙ there) is
]

-- a call is opened
pub record MayOpen (o : Option Caller) (call : CallNo) : Type 0 where
  pub who : Caller
  pub there : o ≡ Some who
  pub least : who.least ≤ call.0

pub may-open : (o : Option Caller) (at : ℕ) (call : CallNo) → may_call o at call ≡ true → MayOpen o call
may-open None at call e = cc
may-open (Some c) at call e =
    let p = and_parts (c.library == at) (is_none c.call && nat_le c.least call.0) e in
    let le = (and_parts (is_none c.call) (nat_le c.least call.0) p.1).1 in
    record { who = c; there = refl; least = grind (arith, nat_tests, le) }

abbrev pub opened_caller : Caller → CallNo → Caller
opened_caller c call = record c { call = Some call; least = call.0 + 1 }

opens-shut : (cs : List Caller) (k : ℕ) (call : CallNo) (c : Caller) (r : Told) → slice_get cs k ≡ Some c → c.least ≤ call.0 → IsShut cs r
    → IsShut (opens cs k call (Some c)) r
opens-shut cs k call c r e le h = elim (cases_eq k r.caller) [
  | inl is ↦
      let same : c ≡ h.caller = same-caller cs k c h.caller e (ap (slice_get cs) is ∙ h.there) in
      let low : r.call.0 < c.least = subst (λ (x : Caller). r.call.0 < x.least) (sym same) h.below in
      record {
        caller = opened_caller c call;
        there = subst (λ i. slice_get (opens cs k call (Some c)) i ≡ Some (opened_caller c call)) is (get-set-same cs k _ (slice_get_within cs k c e));
        below = omega (arith, low, le);
        shut = λ j f g. let is_call : call ≡ j = cc in let number = ap (λ (n : CallNo). n.0) is_call in omega (arith, low, le, g, number);
      }
  | inr ne ↦ record { caller = h.caller; there = get-set-other cs k r.caller _ ne ∙ h.there; below = h.below; shut = h.shut }
]

opens-opened : (cs : List Caller) (k : ℕ) (call : CallNo) (c : Caller) → slice_get cs k ≡ Some c → AreOpened cs → AreOpened (opens cs k call (Some c))
opens-opened cs k call c e h i x j there is = elim (cases_eq k i) [
  | inl same ↦
      let set : slice_get (opens cs k call (Some c)) i ≡ Some (opened_caller c call) =
      subst (λ q. slice_get (opens cs k call (Some c)) q ≡ Some (opened_caller c call)) same (get-set-same cs k _ (slice_get_within cs k c e)) in
      let now : x ≡ opened_caller c call = let both = sym there ∙ set in cc in
      let mine : call ≡ j = let both : Some call ≡ Some j = ap (λ (y : Caller). y.call) (sym now) ∙ is in cc in
      let number = ap (λ (n : CallNo). n.0) mine in
      let least = ap (λ (y : Caller). y.least) now in
      omega (arith, number, least)
  | inr ne ↦ h i x j (sym (get-set-other cs k i _ ne) ∙ there) is
]

pub opens-telling : (cs : List Caller) (k at : ℕ) (call : CallNo) (told : List Told) → may_call (slice_get cs k) at call ≡ true → Telling cs told
    → Telling (opens cs k call (slice_get cs k)) told
opens-telling cs k at call told may h =
    let m = may-open (slice_get cs k) at call may in
    subst (λ o. Telling (opens cs k call o) told) (sym m.there) (record {
      shut = all-map (IsShut cs) _ told (λ r s. opens-shut cs k call m.who r m.there m.least s) h.shut;
      once = h.once;
      opened = opens-opened cs k call m.who m.there h.opened;
    })

-- Answers, one after the other, each to a call that is open then

pub record IsOpenThen (cs : List Caller) (caller : ℕ) (call : CallNo) : Type 0 where
  pub who : Caller
  pub there : slice_get cs caller ≡ Some who
  pub call_is : who.call ≡ Some call

abbrev pub IsOpenFor : List Caller → Replied → Type 0
IsOpenFor cs (replied.Call read caller call reply) = IsOpenThen cs caller call
IsOpenFor cs (replied.Order reply) = Unit {0}

abbrev pub AreOpenFor : List Caller → List Replied → Type 0
AreOpenFor cs [] = Unit {0}
AreOpenFor cs (r ∷ rs) = IsOpenFor cs r × AreOpenFor (closed_by cs r) rs

pub open-append : (cs : List Caller) (rs qs : List Replied) → AreOpenFor cs rs → AreOpenFor (all_closed cs rs) qs → AreOpenFor cs (rs ++ qs)
open-append cs [] qs h k = k
open-append cs (r ∷ rs) qs h k = (h.0, open-append (closed_by cs r) rs qs h.1 k)

pub orders-open : (M : Given) (cs : List Caller) (rs : List Replied) → AllByRecursion (Gives M) rs → AreOpenFor cs rs
orders-open M cs [] h = tt
orders-open M cs (replied.Order r ∷ rs) h = (tt, orders-open M cs rs h.1)
orders-open M cs (replied.Call read caller call r ∷ rs) h = absurd h.0

pub one-open : (cs : List Caller) (caller : ℕ) (call : CallNo) (txn : Txn) (o : Option Reply) → IsOpenThen cs caller call
    → AreOpenFor cs (core.replies_of caller call txn o)
one-open cs caller call txn None h = tt
one-open cs caller call txn (Some r) h = (h, tt)

the_told : ℕ → Option Txn → ℕ → CallNo → Reply → Told
the_told place read caller call reply = record { place = place; read = read; caller = caller; call = call; reply = reply }

told-one : (cs : List Caller) (told : List Told) (place : ℕ) (read : Option Txn) (caller : ℕ) (call : CallNo) (reply : Reply) → IsOpenThen cs caller call
    → Telling cs told → Telling (closes cs caller (slice_get cs caller)) (told ++ the_told place read caller call reply ∷ [])
unfolding the_told
told-one cs told place read caller call reply o h =
    let t = the_told place read caller call reply in
    let ds = closes cs caller (slice_get cs caller) in
    let mine : IsShut ds t = record {
      caller = record o.who { call = None };
      there = ap (λ x. slice_get (closes cs caller x) caller) o.there ∙ get-set-same cs caller _ (slice_get_within cs caller o.who o.there);
      below = h.opened caller o.who call o.there o.call_is;
      shut = λ k e f. cc;
    } in
    record {
      shut = all-append (IsShut ds) told (t ∷ [])
          (all-map (IsShut cs) (IsShut ds) told (λ r s. closes-shut cs caller (slice_get cs caller) r refl s) h.shut) (mine, tt);
      once = pairs-append OtherTold told (t ∷ []) h.once (tt, tt)
          (all-map (IsShut cs) (λ r. AllByRecursion (OtherTold r) (t ∷ [])) told
          (λ r s. (
            (λ e f. s.shut call (ap (λ (x : Caller). x.call) (same-caller cs r.caller s.caller o.who s.there (ap (slice_get cs) e ∙ o.there))
                ∙ o.call_is) (sym f)),
            tt,
          )) h.shut);
      opened = closes-opened cs caller (slice_get cs caller) refl h.opened;
    }

pub told-all : (cs : List Caller) (told : List Told) (place : ℕ) (rs : List Replied) → AreOpenFor cs rs → Telling cs told
    → Telling (all_closed cs rs) (told ++ told_at place rs)
unfolding the_told
told-all cs told place [] o h = subst (Telling cs) (sym (append-nil told)) h
told-all cs told place (replied.Order reply ∷ rs) o h = told-all cs told place rs o.1 h
told-all cs told place (replied.Call read caller call reply ∷ rs) o h =
    let t = the_told place read caller call reply in
    let ds = closes cs caller (slice_get cs caller) in
    subst (Telling (all_closed ds rs)) (append_assoc told (t ∷ []) (told_at place rs))
    (told-all ds (told ++ t ∷ []) place rs o.1 (told-one cs told place read caller call reply o.0 h))
