use Rattle.std.proofs.Common.{◌≡◌, ℕ, ◌+◌, ◌<◌, inl, inr, true, Option, Some, None, List, [], ◌∷◌, refl, sym, ap, ◌∙◌, subst, arith}
use Rattle.std.proofs.lemmas.Bool.{cases_eq}
use Rattle.std.proofs.lemmas.Option.{slice_get_within}
use Rattle.std.specs.List.{AllByRecursion}
use Rattle.std.specs.Prelude.{slice_get, slice_set}
use Rattle.dds_attempts.proofs.Callers.{may-least}
use Rattle.dds_base.specs.declared.number.CallNo.{CallNo}
use Rattle.dds_cluster.specs.Trace.{all_closed, closed_by, closes, may_call, opens, told_at}
use Rattle.dds_cluster.specs.declared.trace.Caller.{Caller}
use Rattle.dds_cluster.specs.declared.trace.Told.{Told}
use Rattle.dds_core.proofs.Lists.{all-map}
use Rattle.dds_net.proofs.Nodes.{get-set-other, get-set-same}
use Rattle.dds_net.specs.Event.{Event, Fits, History, goes, library_asked, opened_of, replies_of, unasked}
use Rattle.dds_net.specs.Net.{Net, Sizes}
use Rattle.dds_once.proofs.Used.{IsUsed, closed-used}
use Rattle.dds_states.specs.declared.turn.Replied.{Replied}
use Rattle.dds_states.specs.declared.turn.Replied.TheVariants as replied
use Rattle.dds_world.specs.Stands.{is_refusal}

-- A call that was answered is never open again.

pub record IsShut (cs : List Caller) (k : ℕ) (call : CallNo) : Type 0 where
  pub who : Caller
  pub there : slice_get cs k ≡ Some who
  pub past : call.0 < who.least
  pub shut : who.call ≡ Some call → ⊥

closes-shut : (cs : List Caller) (caller k : ℕ) (call : CallNo) (o : Option Caller) → slice_get cs caller ≡ o → IsShut cs k call
    → IsShut (closes cs caller o) k call
closes-shut cs caller k call None e h = h
closes-shut cs caller k call (Some c) e h = elim (cases_eq caller k) [
  | inl f ↦
      let d : Caller = record c { call = None } in
      let same : c ≡ h.who = (let two : Some c ≡ Some h.who = sym e ∙ ap (slice_get cs) f ∙ h.there in cc) in
      record {
        who = d;
        there = ap (slice_get (slice_set cs caller d)) (sym f) ∙ get-set-same cs caller d (slice_get_within cs caller c e);
        past = subst (λ (y : Caller). call.0 < y.least) (sym same) h.past;
        shut = λ i. cc;
      }
  | inr ne ↦
      record { who = h.who; there = get-set-other cs caller k (record c { call = None }) ne ∙ h.there; past = h.past; shut = h.shut }
]

closed-shut : (cs : List Caller) (r : Replied) (k : ℕ) (call : CallNo) → IsShut cs k call → IsShut (closed_by cs r) k call
closed-shut cs (replied.Call read caller at reply) k call h = closes-shut cs caller k call (slice_get cs caller) refl h
closed-shut cs (replied.Order reply) k call h = h

pub all-closed-shut : (cs : List Caller) (rs : List Replied) (k : ℕ) (call : CallNo) → IsShut cs k call → IsShut (all_closed cs rs) k call
all-closed-shut cs [] k call h = h
all-closed-shut cs (r ∷ rs) k call h = all-closed-shut (closed_by cs r) rs k call (closed-shut cs r k call h)

opens-shut : (cs : List Caller) (caller at k : ℕ) (new call : CallNo) (o : Option Caller) → slice_get cs caller ≡ o → may_call o at new ≡ true
    → IsShut cs k call → IsShut (opens cs caller new o) k call
opens-shut cs caller at k new call None e may h = h
opens-shut cs caller at k new call (Some c) e may h =
    let d : Caller = record c { call = Some new; least = new.0 + 1 } in
    elim (cases_eq caller k) [
      | inl f ↦
          let same : c ≡ h.who = (let two : Some c ≡ Some h.who = sym e ∙ ap (slice_get cs) f ∙ h.there in cc) in
          let low = may-least (Some c) at new c may refl in
          let past = subst (λ (y : Caller). call.0 < y.least) (sym same) h.past in
          record {
            who = d;
            there = ap (slice_get (slice_set cs caller d)) (sym f) ∙ get-set-same cs caller d (slice_get_within cs caller c e);
            past = omega (arith, low, past);
            shut = λ i.
                let is : new ≡ call = cc in
                let number = ap (λ (q : CallNo). q.0) is in
                omega (arith, low, past, number);
          }
      | inr ne ↦ record { who = h.who; there = get-set-other cs caller k d ne ∙ h.there; past = h.past; shut = h.shut }
    ]

opened-shut : (z : Sizes) (cs : List Caller) (n : Net) (e : Event) (k : ℕ) (call : CallNo) → Fits z cs n e → IsShut cs k call
    → IsShut (opened_of cs e) k call
opened-shut z cs n (library_asked at caller new o s) k call f h = opens-shut cs caller at k new call (slice_get cs caller) refl f.may h
opened-shut z cs n (unasked at caller new o) k call f h = opens-shut cs caller at k new call (slice_get cs caller) refl f h
opened-shut z cs n other k call f h = h

pub shut-later : (z : Sizes) (h : History) (n : Net) (e : Event) (k : ℕ) (call : CallNo) → Fits z h.callers n e → IsShut h.callers k call
    → IsShut (goes h e).callers k call
shut-later z h n e k call f g = all-closed-shut (opened_of h.callers e) (replies_of e) k call (opened-shut z h.callers n e k call f g)

-- what is so of each refused call that a turn answers
abbrev pub ReplySays : (ℕ → CallNo → Type 0) → Replied → Type 0
ReplySays P (replied.Call read caller call reply) = is_refusal reply ≡ true → P caller call
ReplySays P (replied.Order reply) = Unit {0}

abbrev pub ToldSays : (ℕ → CallNo → Type 0) → Told → Type 0
ToldSays P r = is_refusal r.reply ≡ true → P r.caller r.call

pub says-map : (P Q : ℕ → CallNo → Type 0) (r : Replied) → ((k : ℕ) (call : CallNo) → P k call → Q k call) → ReplySays P r → ReplySays Q r
says-map P Q (replied.Call read caller call reply) f h = λ e. f caller call (h e)
says-map P Q (replied.Order reply) f h = tt

pub told-says : (P : ℕ → CallNo → Type 0) (place : ℕ) (rs : List Replied) → AllByRecursion (ReplySays P) rs → AllByRecursion (ToldSays P) (told_at place rs)
told-says P place [] h = tt
told-says P place (replied.Call read caller call reply ∷ rs) h = (h.0, told-says P place rs h.1)
told-says P place (replied.Order reply ∷ rs) h = told-says P place rs h.1

-- an answer closes its call
pub answered-shut : (cs : List Caller) (caller : ℕ) (call : CallNo) (o : Option Caller) → slice_get cs caller ≡ o → IsUsed cs caller call
    → IsShut (closes cs caller o) caller call
answered-shut cs caller call None e h = let no : None ≡ Some h.who = sym e ∙ h.there in cc
answered-shut cs caller call (Some c) e h =
    let d : Caller = record c { call = None } in
    let same : c ≡ h.who = (let two : Some c ≡ Some h.who = sym e ∙ h.there in cc) in
    record {
      who = d;
      there = get-set-same cs caller d (slice_get_within cs caller c e);
      past = subst (λ (y : Caller). call.0 < y.least) (sym same) h.past;
      shut = λ i. cc;
    }

pub replies-shut : (Q : ℕ → CallNo → Type 0) (cs : List Caller) (rs : List Replied) → AllByRecursion (ReplySays (λ k call. IsUsed cs k call × Q k call)) rs
    → AllByRecursion (ReplySays (λ k call. IsShut (all_closed cs rs) k call × Q k call)) rs
replies-shut Q cs [] h = tt
replies-shut Q cs (r ∷ rs) h = (
  first r h.0,
  replies-shut Q (closed_by cs r) rs
      (all-map (ReplySays (λ k call. IsUsed cs k call × Q k call)) (ReplySays (λ k call. IsUsed (closed_by cs r) k call × Q k call)) rs
      (λ q g. says-map (λ k call. IsUsed cs k call × Q k call) (λ k call. IsUsed (closed_by cs r) k call × Q k call) q
      (λ k call w. (closed-used cs r k call w.0, w.1)) g) h.1),
)
  where
    first : (q : Replied) → ReplySays (λ k call. IsUsed cs k call × Q k call) q
        → ReplySays (λ k call. IsShut (all_closed (closed_by cs q) rs) k call × Q k call) q
    first (replied.Call read caller call reply) g =
        λ e. (
          all-closed-shut (closes cs caller (slice_get cs caller)) rs caller call
              (answered-shut cs caller call (slice_get cs caller) refl (g e).0),
          (g e).1,
        )
    first (replied.Order reply) g = tt
