use Rattle.std.proofs.Common.{◌≡◌, ℕ, ◌+◌, ◌<◌, ◌≤◌, ◌==◌, ◌&&◌, inl, inr, true, Option, Some, None, List, [], ◌∷◌, refl, sym, ap, ◌∙◌, subst, arith}
use Rattle.std.proofs.lemmas.Bool.{and_parts, cases_eq}
use Rattle.std.proofs.lemmas.Bool.Decides.{nat_tests}
use Rattle.std.proofs.lemmas.Option.{slice_get_within}
use Rattle.std.specs.Prelude.{is_none, nat_le, slice_get, slice_set}
use Rattle.dds_base.specs.declared.number.CallNo.{CallNo}
use Rattle.dds_cluster.specs.Trace.{all_closed, closed_by, closes, may_call, opens}
use Rattle.dds_cluster.specs.declared.trace.Caller.{Caller}
use Rattle.dds_net.proofs.Nodes.{get-set-other, get-set-same}
use Rattle.dds_net.specs.Event.{Event, Fits, History, goes, opened_of, replies_of, nothing, unheard, unasked, brick_takes, brick_told, brick_stops}
use Rattle.dds_net.specs.Event.{library_takes, library_asked, library_stops}
use Rattle.dds_net.specs.Net.{Net, Sizes}
use Rattle.dds_states.specs.declared.turn.Replied.{Replied}
use Rattle.dds_states.specs.declared.turn.Replied.TheVariants as replied
use Rattle.dds_attempts.proofs.Claim.{AreCounted}

-- A caller keeps its library, and the number of its next call only grows.

pub record Onward (ds : List Caller) (k : ℕ) (x : Caller) : Type 0 where
  pub who : Caller
  pub there : slice_get ds k ≡ Some who
  pub library : who.library ≡ x.library
  pub least : x.least ≤ who.least

pub record CallersGo (cs ds : List Caller) : Type 0 where
  pub on : (k : ℕ) (x : Caller) → slice_get cs k ≡ Some x → Onward ds k x
  pub counted : AreCounted cs → AreCounted ds

pub callers-stay : (cs : List Caller) → CallersGo cs cs
callers-stay cs = record { on = λ k x e. record { who = x; there = e; library = refl; least = omega arith }; counted = λ h. h }

pub callers-then : (cs ds es : List Caller) → CallersGo cs ds → CallersGo ds es → CallersGo cs es
callers-then cs ds es h g =
    record {
      on = λ k x e.
          let a = h.on k x e in
          let b = g.on k a.who a.there in
          let low = a.least in
          let high = b.least in
          record { who = b.who; there = b.there; library = b.library ∙ a.library; least = omega (arith, low, high) };
      counted = λ c. g.counted (h.counted c);
    }

-- one caller changes
set-goes : (cs : List Caller) (at : ℕ) (c d : Caller) → slice_get cs at ≡ Some c → d.library ≡ c.library → c.least ≤ d.least
    → ((call : CallNo) → d.call ≡ Some call → call.0 < d.least) → CallersGo cs (slice_set cs at d)
set-goes cs at c d is library least counts =
    let same = get-set-same cs at d (slice_get_within cs at c is) in
    record {
      on = λ k x e. elim (cases_eq at k) [
        | inl f ↦
            let both : c ≡ x = (let two : Some c ≡ Some x = sym is ∙ ap (slice_get cs) f ∙ e in cc) in
            record {
              who = d;
              there = ap (slice_get (slice_set cs at d)) (sym f) ∙ same;
              library = library ∙ ap (λ (y : Caller). y.library) both;
              least = subst (λ (y : Caller). y.least ≤ d.least) both least;
            }
        | inr ne ↦ record { who = x; there = get-set-other cs at k d ne ∙ e; library = refl; least = omega arith }
      ];
      counted = λ h k x call e f. elim (cases_eq at k) [
        | inl g ↦
            let both : d ≡ x = (let two : Some d ≡ Some x = sym same ∙ ap (slice_get (slice_set cs at d)) g ∙ e in cc) in
            subst (λ (y : Caller). call.0 < y.least) both (counts call (ap (λ (y : Caller). y.call) both ∙ f))
        | inr ne ↦ h k x call (sym (get-set-other cs at k d ne) ∙ e) f
      ];
    }

closes-goes : (cs : List Caller) (caller : ℕ) (o : Option Caller) → slice_get cs caller ≡ o → CallersGo cs (closes cs caller o)
closes-goes cs caller None e = callers-stay cs
closes-goes cs caller (Some c) e = set-goes cs caller c (record c { call = None }) e refl (omega arith) (λ call f. cc)

closed-goes : (cs : List Caller) (r : Replied) → CallersGo cs (closed_by cs r)
closed-goes cs (replied.Call read caller call reply) = closes-goes cs caller (slice_get cs caller) refl
closed-goes cs (replied.Order reply) = callers-stay cs

all-closed-goes : (cs : List Caller) (rs : List Replied) → CallersGo cs (all_closed cs rs)
all-closed-goes cs [] = callers-stay cs
all-closed-goes cs (r ∷ rs) = callers-then cs (closed_by cs r) (all_closed (closed_by cs r) rs) (closed-goes cs r) (all-closed-goes (closed_by cs r) rs)

-- a call may have its number
pub may-least : (o : Option Caller) (at : ℕ) (call : CallNo) (c : Caller) → may_call o at call ≡ true → o ≡ Some c → c.least ≤ call.0
may-least None at call c e f = cc
may-least (Some x) at call c e f =
    let is : x ≡ c = cc in
    let q = (and_parts (is_none x.call) (nat_le x.least call.0) (and_parts (x.library == at) (is_none x.call && nat_le x.least call.0) e).1).1 in
    subst (λ (y : Caller). y.least ≤ call.0) is (grind (arith, nat_tests, q))

opens-goes : (cs : List Caller) (caller at : ℕ) (call : CallNo) (o : Option Caller) → slice_get cs caller ≡ o → may_call o at call ≡ true
    → CallersGo cs (opens cs caller call o)
opens-goes cs caller at call None e may = callers-stay cs
opens-goes cs caller at call (Some c) e may =
    let low = may-least (Some c) at call c may refl in
    set-goes cs caller c (record c { call = Some call; least = call.0 + 1 }) e refl (omega (arith, low))
    (λ k f. let is : call ≡ k = cc in subst (λ (i : CallNo). i.0 < call.0 + 1) is (omega arith))

opened-goes : (z : Sizes) (cs : List Caller) (n : Net) (e : Event) → Fits z cs n e → CallersGo cs (opened_of cs e)
opened-goes z cs n (library_asked at caller call o s) f = opens-goes cs caller at call (slice_get cs caller) refl f.may
opened-goes z cs n (unasked at caller call o) f = opens-goes cs caller at call (slice_get cs caller) refl f
opened-goes z cs n nothing f = callers-stay cs
opened-goes z cs n (unheard at from l) f = callers-stay cs
opened-goes z cs n (brick_takes at from l s) f = callers-stay cs
opened-goes z cs n (brick_told at o s) f = callers-stay cs
opened-goes z cs n (brick_stops at s kept) f = callers-stay cs
opened-goes z cs n (library_takes at from l s) f = callers-stay cs
opened-goes z cs n (library_stops at s kept) f = callers-stay cs

pub callers-go : (z : Sizes) (h : History) (n : Net) (e : Event) → Fits z h.callers n e → CallersGo h.callers (goes h e).callers
callers-go z h n e f =
    callers-then h.callers (opened_of h.callers e) (all_closed (opened_of h.callers e) (replies_of e)) (opened-goes z h.callers n e f)
    (all-closed-goes (opened_of h.callers e) (replies_of e))
