use Rattle.std.proofs.Common.{◌≡◌, ℕ, ◌++◌, Bool, true, false, cond, List, [], ◌∷◌, Option, Some, None, zero, suc, take, drop, refl, sym, ap, ◌∙◌, subst}
use Rattle.std.specs.Prelude.{slice_get, option_to_list}
use Rattle.std.specs.List.{remove}
use Rattle.dds_base.specs.Number.{Txn, same_txn}
use Rattle.dds_core.specs.LibraryTurn.{put_back}
use Rattle.dds_states.specs.declared.library_state.OpenCall.{OpenCall}
use Rattle.dds_talk.specs.Seen.{call_of, Apart}
use Rattle.dds_talk.proofs.Parts.{is-same, same-self, same-swap}

-- Open calls by their attempts.

none-head : (b : Bool) (x : OpenCall) (r : Option OpenCall) → cond b (Some x) r ≡ None → (b ≡ false) × (r ≡ None)
none-head true x r e = cc
none-head false x r e = (refl, e)

-- the list round a place
pub split : (cs : List OpenCall) (place : ℕ) (c : OpenCall) → slice_get cs place ≡ Some c → cs ≡ take place cs ++ c ∷ drop (suc place) cs
split [] place c e = cc
split (x ∷ cs) zero c e = cc
split (x ∷ cs) (suc place) c e = ap (λ ys. x ∷ ys) (split cs place c e)

pub put-split : (cs : List OpenCall) (place : ℕ) (c : OpenCall) (r : Option OpenCall) → slice_get cs place ≡ Some c
    → put_back (remove cs place) place r ≡ take place cs ++ (option_to_list r ++ drop (suc place) cs)
put-split cs place c None e = refl
put-split [] place c (Some x) e = cc
put-split (y ∷ cs) zero c (Some x) e = refl
put-split (y ∷ cs) (suc place) c (Some x) e = ap (λ ys. y ∷ ys) (put-split cs place c (Some x) e)

find-none : (a z : List OpenCall) (t : Txn) → call_of (a ++ z) t ≡ None → call_of z t ≡ None
find-none [] z t e = e
find-none (x ∷ a) z t e = find-none a z t (none-head (same_txn x.txn t) x (call_of (a ++ z) t) e).1

there : (a z : List OpenCall) (c : OpenCall) → call_of (a ++ c ∷ z) c.txn ≡ None → ⊥
there a z c e = let k : true ≡ false = sym (same-self c.txn) ∙ (none-head (same_txn c.txn c.txn) c (call_of z c.txn) (find-none a (c ∷ z) c.txn e)).0 in cc

pub less : (a z : List OpenCall) (c : OpenCall) (t : Txn) → Apart (a ++ c ∷ z) → call_of (a ++ z) t ≡ cond (same_txn c.txn t) None (call_of (a ++ c ∷ z) t)
less [] z c t p =
    elim (same_txn c.txn t) as (λ b. same_txn c.txn t ≡ b → call_of z t ≡ cond b None (cond b (Some c) (call_of z t))) [
      | true ↦ λ e. ap (call_of z) (sym
          (is-same c.txn t e)) ∙ p.0
      | false ↦ λ e. refl
    ] refl
less (x ∷ a) z c t p =
    elim (same_txn x.txn t) as (λ b. same_txn x.txn t ≡ b → cond b (Some x) (call_of (a ++ z) t) ≡ cond (same_txn c.txn t) None (cond b (Some x) (call_of
    (a ++ c ∷ z) t))) [
      | true ↦ λ e. elim (same_txn c.txn t) as (λ b. same_txn c.txn t ≡ b → Some x ≡ cond b None (Some x)) [
        | true ↦ λ k. absurd (there a z c (ap (call_of
            (a ++ c ∷ z)) (is-same c.txn t k ∙ sym (is-same x.txn t e)) ∙ p.0))
        | false ↦ λ k. refl
      ] refl
      | false ↦ λ e. less a z c t p.1
    ] refl

pub more : (a z : List OpenCall) (x : OpenCall) (t : Txn) → call_of (a ++ z) x.txn ≡ None → call_of (a ++ x ∷ z) t ≡ cond (same_txn x.txn t) (Some x) (call_of
    (a ++ z) t)
more [] z x t n = refl
more (y ∷ a) z x t n =
    let w : (same_txn y.txn x.txn ≡ false) × (call_of (a ++ z) x.txn ≡ None) = none-head (same_txn y.txn x.txn) y (call_of (a ++ z) x.txn) n in
    elim (same_txn y.txn t) as (λ b. same_txn y.txn t ≡ b → cond b (Some y) (call_of (a ++ x ∷ z) t) ≡ cond (same_txn x.txn t) (Some x) (cond b (Some y)
    (call_of (a ++ z) t))) [
      | true ↦ λ e. elim (same_txn x.txn t) as (λ b. same_txn x.txn t ≡ b → Some y ≡ cond b (Some x) (Some y)) [
        | true ↦ λ k. let o : true ≡ false = sym e
            ∙ ap (same_txn y.txn) (sym (is-same x.txn t k)) ∙ w.0 in cc
        | false ↦ λ k. refl
      ] refl
      | false ↦ λ e. more a z x t w.1
    ] refl

-- whose attempt it is
abbrev pub is_call : Txn → Option OpenCall → Bool
is_call t None = false
is_call t (Some x) = same_txn x.txn t

-- the call at a place keeps its attempt, or takes a new one, or is over
abbrev pub IsNew : List OpenCall → Txn → Option OpenCall → Type 0
IsNew cs t None = Unit {0}
IsNew cs t (Some x) = cond (same_txn t x.txn) None (call_of cs x.txn) ≡ None

cond-none : (b : Bool) (r : Option OpenCall) → r ≡ None → cond b None r ≡ None
cond-none true r e = refl
cond-none false r e = e

put-call : (a z : List OpenCall) (c : OpenCall) (r : Option OpenCall) (t : Txn) (cs : List OpenCall) → cs ≡ a ++ c ∷ z → Apart (a ++ c ∷ z) → IsNew cs c.txn r
    → call_of (a ++ (option_to_list r ++ z)) t ≡ cond (is_call t r) r (cond (same_txn c.txn t) None (call_of cs t))
put-call a z c None t cs s q new = less a z c t q ∙ ap (λ ys. cond (same_txn c.txn t) None (call_of ys t)) (sym s)
put-call a z c (Some x) t cs s q new =
    let free : call_of (a ++ z) x.txn ≡ None = less a z c x.txn q ∙ ap (λ ys. cond (same_txn c.txn x.txn) None (call_of ys x.txn)) (sym s) ∙ new in
    more a z x t free ∙ ap (λ o. cond (same_txn x.txn t) (Some x) o) (less a z c t q ∙ ap (λ ys. cond (same_txn c.txn t) None (call_of ys t)) (sym s))

apart-less : (a z : List OpenCall) (c : OpenCall) → Apart (a ++ c ∷ z) → Apart (a ++ z)
apart-less [] z c p = p.1
apart-less (x ∷ a) z c p = (less a z c x.txn p.1 ∙ cond-none (same_txn c.txn x.txn) (call_of (a ++ c ∷ z) x.txn) p.0, apart-less a z c p.1)

pub apart-more : (a z : List OpenCall) (x : OpenCall) → Apart (a ++ z) → call_of (a ++ z) x.txn ≡ None → Apart (a ++ x ∷ z)
apart-more [] z x p n = (n, p)
apart-more (y ∷ a) z x p n =
    let w : (same_txn y.txn x.txn ≡ false) × (call_of (a ++ z) x.txn ≡ None) = none-head (same_txn y.txn x.txn) y (call_of (a ++ z) x.txn) n in
    (more a z x y.txn w.1 ∙ ap (λ b. cond b (Some x) (call_of (a ++ z) y.txn)) (same-swap x.txn y.txn ∙ w.0) ∙ p.0, apart-more a z x p.1 w.1)

put-apart : (a z : List OpenCall) (c : OpenCall) (r : Option OpenCall) (cs : List OpenCall) → cs ≡ a ++ c ∷ z → Apart (a ++ c ∷ z) → IsNew cs c.txn r
    → Apart (a ++ (option_to_list r ++ z))
put-apart a z c None cs s q new = apart-less a z c q
put-apart a z c (Some x) cs s q new = apart-more a z x (apart-less a z c q) (less a z c x.txn q
    ∙ ap (λ ys. cond (same_txn c.txn x.txn) None (call_of ys x.txn)) (sym s) ∙ new)

pub call-put : (cs : List OpenCall) (place : ℕ) (c : OpenCall) (r : Option OpenCall) (t : Txn) → slice_get cs place ≡ Some c → Apart cs → IsNew cs c.txn r
    → call_of (put_back (remove cs place) place r) t ≡ cond (is_call t r) r (cond (same_txn c.txn t) None (call_of cs t))
call-put cs place c r t e p new =
    let s : cs ≡ take place cs ++ c ∷ drop (suc place) cs = split cs place c e in
    let q : Apart (take place cs ++ c ∷ drop (suc place) cs) = subst Apart s p in
    ap (λ ys. call_of ys t) (put-split cs place c r e) ∙ put-call (take place cs) (drop (suc place) cs) c r t cs s q new

pub apart-put : (cs : List OpenCall) (place : ℕ) (c : OpenCall) (r : Option OpenCall) → slice_get cs place ≡ Some c → Apart cs → IsNew cs c.txn r
    → Apart (put_back (remove cs place) place r)
apart-put cs place c r e p new =
    let s : cs ≡ take place cs ++ c ∷ drop (suc place) cs = split cs place c e in
    let q : Apart (take place cs ++ c ∷ drop (suc place) cs) = subst Apart s p in
    subst Apart (sym (put-split cs place c r e)) (put-apart (take place cs) (drop (suc place) cs) c r cs s q new)
