-- Each open call was asked.
use Rattle.std.proofs.Common.{◌≡◌, ℕ, ◌+◌, ◌++◌, ◌||◌, Bool, true, false, inl, inr, Option, Some, None, List, [], ◌∷◌, refl, sym, ap, ◌∙◌, subst}
use Rattle.std.proofs.lemmas.Bool.{cases_eq}
use Rattle.std.proofs.lemmas.List.Folds.{list_any-append}
use Rattle.std.proofs.lemmas.Option.{slice_get_within}
use Rattle.std.specs.Prelude.{slice_get, slice_set}
use Rattle.std.proofs.Common.{arith}
use Rattle.std.proofs.lemmas.Bool.Decides.{nat_tests}
use Rattle.dds_base.specs.declared.number.CallNo.{CallNo}
use Rattle.dds_base.specs.declared.op.Op.{Op}
use Rattle.dds_cluster.specs.Lists.{is_asked, is_call_of}
use Rattle.dds_cluster.specs.Trace.{all_closed, closes, opens}
use Rattle.dds_cluster.specs.declared.trace.Asked.{Asked}
use Rattle.dds_cluster.specs.declared.trace.Caller.{Caller}
use Rattle.dds_net.proofs.Nodes.{get-set-other, get-set-same}
use Rattle.dds_net.specs.Event.{Event, History, asked_of, goes, library_asked, opened_of, replies_of, unasked}
use Rattle.dds_states.specs.declared.turn.Replied.{Replied}
use Rattle.dds_states.specs.declared.turn.Replied.TheVariants as replied

abbrev pub OpenIsAsked : List Caller → List Asked → Type 0
OpenIsAsked cs asked = (k : ℕ) (x : Caller) (call : CallNo) → slice_get cs k ≡ Some x → x.call ≡ Some call → is_asked asked k call ≡ true

or-of : (a b : Bool) → a ≡ true → (a || b) ≡ true
or-of true b e = refl
or-of false b e = absurd (cc)

pub asked-more : (asked more : List Asked) (k : ℕ) (call : CallNo) → is_asked asked k call ≡ true → is_asked (asked ++ more) k call ≡ true
asked-more asked more k call e =
    list_any-append (is_call_of k call) asked more ∙ or-of (is_asked asked k call) (is_asked more k call) e

or-last : (a b : Bool) → b ≡ true → (a || b) ≡ true
or-last true b e = refl
or-last false b e = e

pub asked-last : (asked : List Asked) (a : Asked) → is_asked (asked ++ a ∷ []) a.caller a.call ≡ true
asked-last asked a =
    let same : is_asked (a ∷ []) a.caller a.call ≡ true = grind (arith, nat_tests) in
    list_any-append (is_call_of a.caller a.call) asked (a ∷ []) ∙ or-last (is_asked asked a.caller a.call) (is_asked (a ∷ []) a.caller a.call) same

closes-open : (cs : List Caller) (asked : List Asked) (caller : ℕ) (o : Option Caller) → slice_get cs caller ≡ o → OpenIsAsked cs asked
    → OpenIsAsked (closes cs caller o) asked
closes-open cs asked caller None e h = h
closes-open cs asked caller (Some c) e h = λ k x call there is.
    let d : Caller = record c { call = None } in
    elim (cases_eq caller k) [
      | inl f ↦
          let at : slice_get (slice_set cs caller d) k ≡ Some d =
          ap (slice_get (slice_set cs caller d)) (sym f) ∙ get-set-same cs caller d (slice_get_within cs caller c e) in
          let same : d ≡ x = (let two : Some d ≡ Some x = sym at ∙ there in cc) in
          let no : None ≡ Some call = ap (λ (y : Caller). y.call) same ∙ is in
          cc
      | inr ne ↦ h k x call (sym (get-set-other cs caller k d ne) ∙ there) is
    ]

closed-open : (cs : List Caller) (asked : List Asked) (rs : List Replied) → OpenIsAsked cs asked → OpenIsAsked (all_closed cs rs) asked
closed-open cs asked [] h = h
closed-open cs asked (replied.Call read caller call reply ∷ rs) h =
    closed-open (closes cs caller (slice_get cs caller)) asked rs (closes-open cs asked caller (slice_get cs caller) refl h)
closed-open cs asked (replied.Order reply ∷ rs) h = closed-open cs asked rs h

opens-open : (cs : List Caller) (asked : List Asked) (place caller : ℕ) (new : CallNo) (op : Op) (o : Option Caller) → slice_get cs caller ≡ o
    → OpenIsAsked cs asked
    → OpenIsAsked (opens cs caller new o) (asked ++ record { place = place; caller = caller; call = new; op = op } ∷ [])
opens-open cs asked place caller new op None e h = λ k x call there is. asked-more asked _ k call (h k x call there is)
opens-open cs asked place caller new op (Some c) e h = λ k x call there is.
    let d : Caller = record c { call = Some new; least = new.0 + 1 } in
    let a : Asked = record { place = place; caller = caller; call = new; op = op } in
    elim (cases_eq caller k) [
      | inl f ↦
          let at : slice_get (slice_set cs caller d) k ≡ Some d =
          ap (slice_get (slice_set cs caller d)) (sym f) ∙ get-set-same cs caller d (slice_get_within cs caller c e) in
          let same : d ≡ x = (let two : Some d ≡ Some x = sym at ∙ there in cc) in
          let mine : Some new ≡ Some call = ap (λ (y : Caller). y.call) same ∙ is in
          let its : new ≡ call = cc in
          subst (λ n. is_asked (asked ++ a ∷ []) k n ≡ true) its (subst (λ n. is_asked (asked ++ a ∷ []) n new ≡ true) f (asked-last asked a))
      | inr ne ↦ asked-more asked (a ∷ []) k call (h k x call (sym (get-set-other cs caller k d ne) ∙ there) is)
    ]

more-open : (cs : List Caller) (asked : List Asked) → OpenIsAsked cs asked → OpenIsAsked cs (asked ++ [])
more-open cs asked h = λ k x call there is. asked-more asked [] k call (h k x call there is)

opened-open : (h : History) (e : Event) → OpenIsAsked h.callers h.asked → OpenIsAsked (opened_of h.callers e) (h.asked ++ asked_of h.steps e)
opened-open h (library_asked at caller call o s) g = opens-open h.callers h.asked h.steps caller call o (slice_get h.callers caller) refl g
opened-open h (unasked at caller call o) g = opens-open h.callers h.asked h.steps caller call o (slice_get h.callers caller) refl g
opened-open h other g = more-open h.callers h.asked g

-- each event keeps it
pub open-then : (h : History) (e : Event) → OpenIsAsked h.callers h.asked → OpenIsAsked (goes h e).callers (goes h e).asked
open-then h e g = closed-open (opened_of h.callers e) (goes h e).asked (replies_of e) (opened-open h e g)
