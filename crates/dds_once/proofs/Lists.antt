use Rattle.std.proofs.Common.{◌≡◌, ℕ, ◌<◌, ◌&&◌, ◌||◌, Bool, true, false, not, List, [], ◌∷◌, ◌++◌, refl, sym, ap, ◌∙◌, subst, append_assoc}
use Rattle.std.proofs.lemmas.Bool.{both_ways}
use Rattle.std.proofs.lemmas.List.{append-nil}
use Rattle.std.specs.List.{AllByRecursion}
use Rattle.std.specs.Prelude.{filter, if◌then◌else◌}
use Rattle.dds_base.specs.Number.{Txn, same_txn}
use Rattle.dds_base.specs.Op.{is_get}
use Rattle.dds_cluster.specs.Trace.{all_kept, is_applied, kept}
use Rattle.dds_cluster.specs.declared.trace.Made.{Made}
use Rattle.dds_net.proofs.Pairwise.{Pairwise, pairs-append}
use Rattle.dds_talk.proofs.Parts.{same-self}
use Rattle.dds_world.specs.Stands.{AtMostOneAfter}

-- Of each attempt's applied points one is kept, and what a list has at most once.

-- two points that aren't both updates of one attempt
abbrev pub OtherUpdate : Made → Made → Type 0
OtherUpdate m n = is_get m.entry.op ≡ false → is_get n.entry.op ≡ false → m.txn ≡ n.txn → ⊥

-- none of the points is an update of the attempt
abbrev None_of : Txn → Made → Type 0
None_of txn n = is_get n.entry.op ≡ false → n.txn ≡ txn → ⊥

or-left : (x y : Bool) → (x || y) ≡ false → (x ≡ false) × (y ≡ false)
or-left true y e = cc
or-left false y e = (refl, e)

not-this : (c d : Bool) → (c && not d) ≡ false → d ≡ false → c ≡ true → ⊥
not-this true true e f g = cc
not-this true false e f g = cc
not-this false d e f g = cc

none-of : (txn : Txn) (made : List Made) → is_applied made txn ≡ false → AllByRecursion (None_of txn) made
none-of txn [] e = tt
none-of txn (n ∷ ms) e =
    let q = or-left (same_txn n.txn txn && not (is_get n.entry.op)) (is_applied ms txn) e in (
      λ update same.
          not-this (same_txn n.txn txn) (is_get n.entry.op) q.0 update (ap (λ t. same_txn t txn) same ∙ same-self txn),
      none-of txn ms q.1,
    )

one-if : (made : List Made) (m : Made) (b : Bool) → (not (is_get m.entry.op) && is_applied made m.txn) ≡ b → Pairwise OtherUpdate made
    → Pairwise OtherUpdate (made ++ (if b then [] else m ∷ []))
one-if made m true e h = subst (Pairwise OtherUpdate) (sym (append-nil made)) h
one-if made m false e h = pairs-append OtherUpdate made (m ∷ []) h (tt, tt) (pick (is_get m.entry.op) refl)
  where
    between : (ms : List Made) → ((n : Made) → None_of m.txn n → OtherUpdate n m) → AllByRecursion (None_of m.txn) ms
        → AllByRecursion (λ n. AllByRecursion (OtherUpdate n) (m ∷ [])) ms
    between [] f h = tt
    between (n ∷ ms) f h = ((f n h.0, tt), between ms f h.1)

    a_get : (ms : List Made) → is_get m.entry.op ≡ true → AllByRecursion (λ n. AllByRecursion (OtherUpdate n) (m ∷ [])) ms
    a_get [] f = tt
    a_get (n ∷ ms) f = ((λ x y same. both_ways (is_get m.entry.op) y f, tt), a_get ms f)

    pick : (c : Bool) → is_get m.entry.op ≡ c → AllByRecursion (λ n. AllByRecursion (OtherUpdate n) (m ∷ [])) made
    pick true f = a_get made f
    pick false f =
        between made (λ n k x y same. k x same)
        (none-of m.txn made (sym (ap (λ c. not c && is_applied made m.txn) f) ∙ e))

pub once-kept : (made ms : List Made) → Pairwise OtherUpdate made → Pairwise OtherUpdate (made ++ all_kept made ms)
once-kept made [] h = subst (Pairwise OtherUpdate) (sym (append-nil made)) h
once-kept made (m ∷ ms) h =
    subst (Pairwise OtherUpdate) (append_assoc made (kept made m) (all_kept (made ++ kept made m) ms))
    (once-kept (made ++ kept made m) ms (one-if made m (not (is_get m.entry.op) && is_applied made m.txn) refl h))

-- the items that are taken are as the test says
taken-if : (P : Made → Bool) (c : Bool) (m : Made) (ms : List Made) → P m ≡ c → AllByRecursion (λ n. P n ≡ true) ms
    → AllByRecursion (λ n. P n ≡ true) (if c then m ∷ ms else ms)
taken-if P true m ms e h = (e, h)
taken-if P false m ms e h = h

pub taken-are : (P : Made → Bool) (ms : List Made) → AllByRecursion (λ n. P n ≡ true) (filter P ms)
taken-are P [] = tt
taken-are P (m ∷ ms) = taken-if P (P m) m (filter P ms) refl (taken-are P ms)

-- of each two items
pub pairs-from : (F : Made → Type 0) (R S : Made → Made → Type 0) (ms : List Made) → ((m n : Made) → F m → F n → R m n → S m n) → AllByRecursion F ms
    → Pairwise R ms → Pairwise S ms
pairs-from F R S [] f h k = tt
pairs-from F R S (m ∷ ms) f h k = (each ms h.1 k.0, pairs-from F R S ms f h.1 k.1)
  where
    each : (ns : List Made) → AllByRecursion F ns → AllByRecursion (R m) ns → AllByRecursion (S m) ns
    each [] g r = tt
    each (n ∷ ns) g r = (f m n h.0 g.0 r.0, each ns g.1 r.1)

pub at-most-one : (at : ℕ) (ms : List Made) → AllByRecursion (λ m. at < m.place) ms → Pairwise (λ m n. ⊥) ms → AtMostOneAfter at ms
at-most-one at [] h k = tt
at-most-one at (m ∷ []) h k = h.0
at-most-one at (m ∷ n ∷ ms) h k = absurd k.0.0
