use Rattle.std.proofs.Common.{◌≡◌, ℕ, ◌+◌, ◌<◌, ◌≤◌, inl, inr, true, Option, Some, None, List, [], ◌∷◌, refl, sym, ap, ◌∙◌, subst, arith}
use Rattle.std.proofs.lemmas.Bool.{cases_eq}
use Rattle.std.proofs.lemmas.Option.{slice_get_within}
use Rattle.std.specs.List.{AllByRecursion}
use Rattle.std.specs.Prelude.{slice_get, slice_set}
use Rattle.dds_attempts.proofs.Callers.{CallersGo, may-least}
use Rattle.dds_base.specs.declared.number.CallNo.{CallNo}
use Rattle.dds_base.specs.declared.op.Op.{Op}
use Rattle.dds_cluster.specs.Trace.{all_closed, closed_by, closes, may_call, opens}
use Rattle.dds_cluster.specs.declared.trace.Asked.{Asked}
use Rattle.dds_cluster.specs.declared.trace.Caller.{Caller}
use Rattle.dds_net.proofs.Nodes.{get-set-other, get-set-same}
use Rattle.dds_net.specs.Event.{Event, Fits, History, asked_of, goes, library_asked, replies_of, unasked}
use Rattle.dds_net.specs.Net.{Net, Sizes}
use Rattle.dds_states.specs.declared.turn.Replied.{Replied}
use Rattle.dds_states.specs.declared.turn.Replied.TheVariants as replied

-- A caller makes no call with a number that it has used.

pub record IsUsed (cs : List Caller) (k : ℕ) (call : CallNo) : Type 0 where
  pub who : Caller
  pub there : slice_get cs k ≡ Some who
  pub past : call.0 < who.least

pub used-later : (cs ds : List Caller) (k : ℕ) (call : CallNo) → CallersGo cs ds → IsUsed cs k call → IsUsed ds k call
used-later cs ds k call g h =
    let w = g.on k h.who h.there in
    let low = h.past in
    let more = w.least in
    record { who = w.who; there = w.there; past = omega (arith, low, more) }

closes-used : (cs : List Caller) (caller k : ℕ) (call : CallNo) (o : Option Caller) → slice_get cs caller ≡ o → IsUsed cs k call
    → IsUsed (closes cs caller o) k call
closes-used cs caller k call None e h = h
closes-used cs caller k call (Some c) e h = elim (cases_eq caller k) [
  | inl f ↦
      let d : Caller = record c { call = None } in
      let same : c ≡ h.who = (let two : Some c ≡ Some h.who = sym e ∙ ap (slice_get cs) f ∙ h.there in cc) in
      record {
        who = d;
        there = ap (slice_get (slice_set cs caller d)) (sym f) ∙ get-set-same cs caller d (slice_get_within cs caller c e);
        past = subst (λ (y : Caller). call.0 < y.least) (sym same) h.past;
      }
  | inr ne ↦ record { who = h.who; there = get-set-other cs caller k (record c { call = None }) ne ∙ h.there; past = h.past }
]

pub closed-used : (cs : List Caller) (r : Replied) (k : ℕ) (call : CallNo) → IsUsed cs k call → IsUsed (closed_by cs r) k call
closed-used cs (replied.Call read caller at reply) k call h = closes-used cs caller k call (slice_get cs caller) refl h
closed-used cs (replied.Order reply) k call h = h

all-closed-used : (cs : List Caller) (rs : List Replied) (k : ℕ) (call : CallNo) → IsUsed cs k call → IsUsed (all_closed cs rs) k call
all-closed-used cs [] k call h = h
all-closed-used cs (r ∷ rs) k call h = all-closed-used (closed_by cs r) rs k call (closed-used cs r k call h)

pub opens-used : (cs : List Caller) (caller at : ℕ) (call : CallNo) (o : Option Caller) → slice_get cs caller ≡ o → may_call o at call ≡ true
    → IsUsed (opens cs caller call o) caller call
opens-used cs caller at call None e may = cc
opens-used cs caller at call (Some c) e may =
    let d : Caller = record c { call = Some call; least = call.0 + 1 } in
    record { who = d; there = get-set-same cs caller d (slice_get_within cs caller c e); past = omega arith }

-- its number was free for the call, which is made now
abbrev pub IsFree : List Caller → ℕ → CallNo → Type 0
IsFree cs k call = (who : Caller) → slice_get cs k ≡ Some who → who.least ≤ call.0

pub free-unused : (cs : List Caller) (k i : ℕ) (call other : CallNo) → IsFree cs k call → IsUsed cs i other → k ≡ i → call ≡ other → ⊥
free-unused cs k i call other h g e f =
    let high = subst (λ (q : CallNo). g.who.least ≤ q.0) f (h g.who (ap (slice_get cs) e ∙ g.there)) in
    let low = g.past in
    omega (arith, high, low)

pub record IsNew (cs ds : List Caller) (steps : ℕ) (x : Asked) : Type 0 where
  pub free : IsFree cs x.caller x.call
  pub used : IsUsed ds x.caller x.call
  pub place_is : x.place ≡ steps

pub may-free : (cs : List Caller) (caller at : ℕ) (call : CallNo) → may_call (slice_get cs caller) at call ≡ true → IsFree cs caller call
may-free cs caller at call may who there = may-least (slice_get cs caller) at call who may there

new-call : (cs : List Caller) (rs : List Replied) (steps caller at : ℕ) (call : CallNo) (o : Op) → may_call (slice_get cs caller) at call ≡ true
    → IsNew cs (all_closed (opens cs caller call (slice_get cs caller)) rs) steps (record { place = steps; caller = caller; call = call; op = o })
new-call cs rs steps caller at call o may =
    record {
      free = may-free cs caller at call may;
      used = all-closed-used (opens cs caller call (slice_get cs caller)) rs caller call (opens-used cs caller at call (slice_get cs caller) refl may);
      place_is = refl;
    }

pub asked-new : (z : Sizes) (h : History) (n : Net) (e : Event) → Fits z h.callers n e
    → AllByRecursion (IsNew h.callers (goes h e).callers h.steps) (asked_of h.steps e)
asked-new z h n (library_asked at caller call o s) f =
    (new-call h.callers (replies_of (library_asked at caller call o s)) h.steps caller at call o f.may, tt)
asked-new z h n (unasked at caller call o) f = (new-call h.callers [] h.steps caller at call o f, tt)
asked-new z h n other f = tt
