use Rattle.std.proofs.Common.{◌≡◌, ℕ, ◌==◌, ◌||◌, ◌⊎◌, inl, inr, Bool, true, false, Option, List, [], ◌∷◌, ◌++◌, refl, sym, ap, ◌∙◌, append_assoc}
use Rattle.std.proofs.lemmas.Bool.{eq-eqb, eqb-true}
use Rattle.std.proofs.lemmas.List.Folds.{list_any-append}
use Rattle.std.specs.Prelude.{if◌then◌else◌}
use Rattle.dds_base.specs.BrickList.{has}
use Rattle.dds_base.specs.Number.{Txn}
use Rattle.dds_base.specs.declared.number.NodeNo.{NodeNo}
use Rattle.dds_letters.specs.declared.letter.Letter.{Letter}
use Rattle.dds_net.proofs.Projections.{gains-append}
use Rattle.dds_net.specs.Net.{Sizes, gains, is_in, landing, lands, place_in, when_in}
use Rattle.dds_states.specs.Turn.{to_each}
use Rattle.dds_states.specs.declared.library_state.OpenCall.{OpenCall}
use Rattle.dds_due.specs.Due.{IsDue, asked_in, is_of, is_there, told_in}
use Rattle.dds_due.specs.Opened.{OfOne}

-- Letters on their way, where channels grow.

or-first : (a b : Bool) → a ≡ true → (a || b) ≡ true
or-first true b e = refl
or-first false b e = cc

or-second : (a b : Bool) → b ≡ true → (a || b) ≡ true
or-second true b e = refl
or-second false b e = e

pub or-parts : (a b : Bool) → (a || b) ≡ true → (a ≡ true) ⊎ (b ≡ true)
or-parts true b e = inl refl
or-parts false b e = inr e

pub there-front : (f : Letter → Option Txn) (t : Txn) (xs ys : List Letter) → is_there f t xs ≡ true → is_there f t (xs ++ ys) ≡ true
there-front f t xs ys e = list_any-append (λ l. is_of t (f l)) xs ys ∙ or-first (is_there f t xs) (is_there f t ys) e

pub there-end : (f : Letter → Option Txn) (t : Txn) (xs ys : List Letter) → is_there f t ys ≡ true → is_there f t (xs ++ ys) ≡ true
there-end f t xs ys e = list_any-append (λ l. is_of t (f l)) xs ys ∙ or-second (is_there f t xs) (is_there f t ys) e

pub due-by-asked : (c : OpenCall) (out back : List Letter) → is_there (asked_in c.phase) c.txn out ≡ true → IsDue c out back
due-by-asked c out back e = or-first (is_there (asked_in c.phase) c.txn out) (is_there (told_in c.phase) c.txn back) e

pub due-by-told : (c : OpenCall) (out back : List Letter) → is_there (told_in c.phase) c.txn back ≡ true → IsDue c out back
due-by-told c out back e = or-second (is_there (asked_in c.phase) c.txn out) (is_there (told_in c.phase) c.txn back) e

pub due-parts : (c : OpenCall) (out back : List Letter) → IsDue c out back
    → (is_there (asked_in c.phase) c.txn out ≡ true) ⊎ (is_there (told_in c.phase) c.txn back ≡ true)
due-parts c out back e = or-parts (is_there (asked_in c.phase) c.txn out) (is_there (told_in c.phase) c.txn back) e

pub due-more : (c : OpenCall) (out more back again : List Letter) → IsDue c out back → IsDue c (out ++ more) (back ++ again)
due-more c out more back again h = elim (due-parts c out back h) [
  | inl e ↦ due-by-asked c (out ++ more) (back ++ again) (there-front (asked_in c.phase) c.txn out more e)
  | inr e ↦ due-by-told c (out ++ more) (back ++ again) (there-front (told_in c.phase) c.txn back again e)
]

pub due-out : (c : OpenCall) (out more back : List Letter) → IsDue c out back → IsDue c (out ++ more) back
due-out c out more back h = elim (due-parts c out back h) [
  | inl e ↦ due-by-asked c (out ++ more) back (there-front (asked_in c.phase) c.txn out more e)
  | inr e ↦ due-by-told c (out ++ more) back e
]

pub due-back : (c : OpenCall) (out back again : List Letter) → IsDue c out back → IsDue c out (back ++ again)
due-back c out back again h = elim (due-parts c out back h) [
  | inl e ↦ due-by-asked c out (back ++ again) e
  | inr e ↦ due-by-told c out (back ++ again) (there-front (told_in c.phase) c.txn back again e)
]

-- what is sent to a node comes to it

pub record IsSentTo (f : Letter → Option Txn) (t : Txn) (b : ℕ) (p : NodeNo × Letter) : Type 0 where
  pub to : p.0 ≡ b
  pub of : is_of t (f p.1) ≡ true

abbrev pub Sends : (Letter → Option Txn) → Txn → ℕ → List (NodeNo × Letter) → Type 0
Sends f t b ls = OfOne (IsSentTo f t b) ls

landed : (f : Letter → Option Txn) (t : Txn) (c : Bool) (l : Letter) (ls : List Letter) → c ≡ true → is_of t (f l) ≡ true
    → is_there f t (if c then l ∷ ls else ls) ≡ true
landed f t true l ls e h = or-first (is_of t (f l)) (is_there f t ls) h
landed f t false l ls e h = cc

beside : (f : Letter → Option Txn) (t : Txn) (c : Bool) (l : Letter) (ls : List Letter) → is_there f t ls ≡ true
    → is_there f t (if c then l ∷ ls else ls) ≡ true
beside f t true l ls h = or-second (is_of t (f l)) (is_there f t ls) h
beside f t false l ls h = h

landing-has : (z : Sizes) (f : Letter → Option Txn) (t : Txn) (b : ℕ) (ls : List (NodeNo × Letter)) → Sends f t b ls → is_there f t (landing z b ls) ≡ true
landing-has z f t b [] h = absurd h
landing-has z f t b (p ∷ ps) h = elim h [
  | inl s ↦
      landed f t (lands z p.0 b) p.1 (landing z b ps)
      (eq-eqb (place_in z.bricks p.0) (place_in z.bricks b) (ap (place_in z.bricks) s.to)) s.of
  | inr k ↦ beside f t (lands z p.0 b) p.1 (landing z b ps) (landing-has z f t b ps k)
]

guarded : (f : Letter → Option Txn) (t : Txn) (c : Bool) (ls : List Letter) → c ≡ true → is_there f t ls ≡ true → is_there f t (when_in c ls) ≡ true
guarded f t true ls e h = h
guarded f t false ls e h = cc

pub gains-has : (z : Sizes) (f : Letter → Option Txn) (t : Txn) (b : ℕ) (ls : List (NodeNo × Letter)) → is_in z b ≡ true → Sends f t b ls
    → is_there f t (gains z ls b) ≡ true
gains-has z f t b ls inside h = guarded f t (is_in z b) (landing z b ls) inside (landing-has z f t b ls h)

-- letters to each of a list
pub sends-each : (f : Letter → Option Txn) (t : Txn) (b : ℕ) (ns : List NodeNo) (l : Letter) → has ns b ≡ true → is_of t (f l) ≡ true
    → Sends f t b (to_each ns l)
sends-each f t b [] l e h = cc
sends-each f t b (n ∷ ns) l e h = by (or-parts (n == b) (has ns b) e) (λ k. sends-each f t b ns l k h)
  where
    by : ((n == b) ≡ true) ⊎ (has ns b ≡ true) → (has ns b ≡ true → Sends f t b (to_each ns l)) → Sends f t b (to_each (n ∷ ns) l)
    by (inl is) rest = inl (record { to = eqb-true n b is; of = h })
    by (inr k) rest = inr (rest k)

-- letters of two turns
pub gains-twice : (z : Sizes) (b : ℕ) (xs ys : List (NodeNo × Letter)) (c : List Letter) → c ++ gains z (xs ++ ys) b ≡ (c ++ gains z xs b) ++ gains z ys b
gains-twice z b xs ys c = ap (λ r. c ++ r) (gains-append z b xs ys) ∙ sym (append_assoc c (gains z xs b) (gains z ys b))
