use Rattle.std.proofs.Common.{◌≡◌, ℕ, ◌+◌, ◌<◌, ◌≤◌, ◌&&◌, ◌==◌, inl, inr, true, Option, Some, None, List, [], ◌∷◌, ◌++◌}
use Rattle.std.proofs.Common.{refl, sym, ap, ◌∙◌, subst, arith}
use Rattle.std.proofs.lemmas.Bool.{and_parts, cases_eq}
use Rattle.std.proofs.lemmas.Bool.Decides.{nat_tests}
use Rattle.std.proofs.lemmas.Option.{slice_get_within}
use Rattle.std.specs.List.{AllByRecursion}
use Rattle.std.specs.Prelude.{is_none, nat_le, slice_get}
use Rattle.dds_base.specs.declared.number.CallNo.{CallNo}
use Rattle.dds_base.specs.declared.op.Op.{Op}
use Rattle.dds_cluster.specs.Trace.{all_closed, closed_by, closes, may_call, opens}
use Rattle.dds_cluster.specs.declared.trace.Asked.{Asked}
use Rattle.dds_cluster.specs.declared.trace.Caller.{Caller}
use Rattle.dds_core.proofs.Lists.{all-append, all-map}
use Rattle.dds_net.proofs.Nodes.{get-set-other, get-set-same}
use Rattle.dds_net.proofs.Pairwise.{Pairwise, pairs-append}
use Rattle.dds_net.specs.Event.{History}
use Rattle.dds_net.specs.Net.{Net}
use Rattle.dds_states.specs.declared.turn.Replied.{Replied}
use Rattle.dds_states.specs.declared.turn.Replied.TheVariants as replied
use Rattle.dds_calls.proofs.Asked.{AreAsked, IsUsed, OtherCall}

-- A new call has another number than its caller's others.

-- Callers

closed-used : (cs : List Caller) (k : ℕ) (o : Option Caller) (a : Asked) → slice_get cs k ≡ o → IsUsed cs a → IsUsed (closes cs k o) a
closed-used cs k None a e h = h
closed-used cs k (Some c) a e h = elim (cases_eq k a.caller) [
  | inl is ↦
      let same : c ≡ h.caller = let both = sym e ∙ ap (slice_get cs) is ∙ h.there in cc in
      record {
        caller = record c { call = None };
        there = subst (λ i. slice_get (closes cs k (Some c)) i ≡ Some (record c { call = None })) is (get-set-same cs k _ (slice_get_within cs k c e));
        below = subst (λ (x : Caller). a.call.0 < x.least) (sym same) h.below;
      }
  | inr ne ↦ record { caller = h.caller; there = get-set-other cs k a.caller _ ne ∙ h.there; below = h.below }
]

reply-used : (cs : List Caller) (r : Replied) (a : Asked) → IsUsed cs a → IsUsed (closed_by cs r) a
reply-used cs (replied.Call read caller call reply) a h = closed-used cs caller (slice_get cs caller) a refl h
reply-used cs (replied.Order reply) a h = h

pub all-used : (cs : List Caller) (rs : List Replied) (a : Asked) → IsUsed cs a → IsUsed (all_closed cs rs) a
all-used cs [] a h = h
all-used cs (r ∷ rs) a h = all-used (closed_by cs r) rs a (reply-used cs r a h)

-- a caller that may make a call
record MayAsk (o : Option Caller) (call : CallNo) : Type 0 where
  who : Caller
  there : o ≡ Some who
  least : who.least ≤ call.0

may-ask : (o : Option Caller) (at : ℕ) (call : CallNo) → may_call o at call ≡ true → MayAsk o call
may-ask None at call e = cc
may-ask (Some c) at call e =
    let p = and_parts (c.library == at) (is_none c.call && nat_le c.least call.0) e in
    let q = and_parts (is_none c.call) (nat_le c.least call.0) p.1 in
    let le = q.1 in
    record { who = c; there = refl; least = grind (arith, nat_tests, le) }

opened-used : (cs : List Caller) (k : ℕ) (call : CallNo) (o : Option Caller) (a : Asked) → slice_get cs k ≡ o → MayAsk o call → IsUsed cs a
    → IsUsed (opens cs k call o) a
opened-used cs k call None a e m h = h
opened-used cs k call (Some c) a e m h = elim (cases_eq k a.caller) [
  | inl is ↦
      let same : c ≡ h.caller = let both = sym e ∙ ap (slice_get cs) is ∙ h.there in cc in
      let mine : c ≡ m.who = let both = m.there in cc in
      let low : a.call.0 < c.least = subst (λ (x : Caller). a.call.0 < x.least) (sym same) h.below in
      let le : c.least ≤ call.0 = subst (λ (x : Caller). x.least ≤ call.0) (sym mine) m.least in
      record {
        caller = record c { call = Some call; least = call.0 + 1 };
        there = subst (λ i. slice_get (opens cs k call (Some c)) i ≡ Some (record c { call = Some call; least = call.0 + 1 })) is
            (get-set-same cs k _ (slice_get_within cs k c e));
        below = omega (arith, low, le);
      }
  | inr ne ↦ record { caller = h.caller; there = get-set-other cs k a.caller _ ne ∙ h.there; below = h.below }
]

-- a call that is asked
abbrev pub the_call : ℕ → ℕ → CallNo → Op → Asked
the_call place caller call op = record { place = place; caller = caller; call = call; op = op }

pub record Opened (h : History) (cs : List Caller) (a : Asked) : Type 0 where
  pub least : AllByRecursion (IsUsed cs) (h.asked ++ a ∷ [])
  pub apart : Pairwise OtherCall (h.asked ++ a ∷ [])
  pub past : AllByRecursion (λ (x : Asked). x.place < h.steps + 1) (h.asked ++ a ∷ [])

other-new : (cs : List Caller) (place caller : ℕ) (call : CallNo) (op : Op) (b : Asked) → MayAsk (slice_get cs caller) call → IsUsed cs b
    → OtherCall b (the_call place caller call op)
other-new cs place caller call op b m h e f =
    let same : h.caller ≡ m.who = let both = sym h.there ∙ ap (slice_get cs) e ∙ m.there in cc in
    let low : b.call.0 < m.who.least = subst (λ (x : Caller). b.call.0 < x.least) same h.below in
    let le = m.least in
    omega (arith, low, le, f)

pub opened : (h : History) (n : Net) (caller at : ℕ) (call : CallNo) (op : Op) → AreAsked h n → may_call (slice_get h.callers caller) at call ≡ true
    → Opened h (opens h.callers caller call (slice_get h.callers caller)) (the_call h.steps caller call op)
opened h n caller at call op g may =
    let cs = h.callers in
    let m = may-ask (slice_get cs caller) at call may in
    let a = the_call h.steps caller call op in
    let mine : IsUsed (opens cs caller call (slice_get cs caller)) a = record {
      caller = record m.who { call = Some call; least = call.0 + 1 };
      there = ap (λ o. slice_get (opens cs caller call o) caller) m.there ∙ get-set-same cs caller _ (slice_get_within cs caller m.who m.there);
      below = omega arith;
    } in
    record {
      least = all-append _ h.asked (a ∷ []) (all-map (IsUsed cs) _ h.asked (λ b u. opened-used cs caller call (slice_get cs caller) b refl m u) g.least)
          (mine, tt);
      apart = pairs-append OtherCall h.asked (a ∷ []) g.apart (tt, tt)
          (all-map (IsUsed cs) (λ b. AllByRecursion (OtherCall b) (a ∷ [])) h.asked (λ b u. (other-new cs h.steps caller call op b m u, tt)) g.least);
      past = all-append _ h.asked (a ∷ []) (all-map (λ (x : Asked). x.place < h.steps) _ h.asked (λ x low. omega (arith, low)) g.past) (omega arith, tt);
    }
