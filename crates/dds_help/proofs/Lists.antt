use Rattle.std.proofs.Common.{◌≡◌, ℕ, ◌==◌, ◌&&◌, ◌||◌, ◌⊎◌, inl, inr, Bool, true, false, not, Option, Some, None, is_some, List, [], ◌∷◌, ◌++◌}
use Rattle.std.proofs.Common.{refl, sym, ap, ◌∙◌, subst, arith}
use Rattle.std.proofs.lemmas.Bool.{and_parts, eqb-true}
use Rattle.std.proofs.lemmas.Bool.Decides.{nat_tests}
use Rattle.std.proofs.lemmas.List.Folds.{list_any-append}
use Rattle.std.specs.List.{AllByRecursion, list_all, list_any}
use Rattle.std.specs.Prelude.{if◌then◌else◌, slice_get}
use Rattle.dds_base.specs.BrickList.{has}
use Rattle.dds_base.specs.Number.{Txn, same_txn}
use Rattle.dds_base.specs.declared.number.NodeNo.{NodeNo}
use Rattle.dds_base.specs.declared.pending.Pending.{Pending}
use Rattle.dds_brick_rows.specs.Resolution.{before}
use Rattle.dds_groups.proofs.Members.{has-live}
use Rattle.dds_groups.specs.Leaves.{live}
use Rattle.dds_letters.specs.declared.letter.Letter.{Letter}
use Rattle.dds_locks.specs.Pending.{first_of, without}
use Rattle.dds_net.specs.Net.{Sizes, gains, is_in, landing, lands, place_in, when_in}
use Rattle.dds_states.specs.Turn.{to_each}
use Rattle.dds_talk.proofs.Parts.{is-same, pending-gone}
use Rattle.dds_talk.specs.Seen.{Once}

-- Lists: some item passes a test; what is pending; letters to one node.

pub or-right : (a b : Bool) → b ≡ true → (a || b) ≡ true
or-right true b e = refl
or-right false b e = e

pub or-left : (a b : Bool) → a ≡ true → (a || b) ≡ true
or-left true b e = refl
or-left false b e = cc

pub or-either : (a b : Bool) → (a || b) ≡ true → (a ≡ true) ⊎ (b ≡ true)
or-either true b e = inl refl
or-either false b e = inr e

pub any-left : {X : Type 0} (p : X → Bool) (xs ys : List X) → list_any p xs ≡ true → list_any p (xs ++ ys) ≡ true
any-left p xs ys e = list_any-append p xs ys ∙ or-left (list_any p xs) (list_any p ys) e

pub any-right : {X : Type 0} (p : X → Bool) (xs ys : List X) → list_any p ys ≡ true → list_any p (xs ++ ys) ≡ true
any-right p xs ys e = list_any-append p xs ys ∙ or-right (list_any p xs) (list_any p ys) e

pub any-last : {X : Type 0} (p : X → Bool) (xs : List X) (x : X) → p x ≡ true → list_any p (xs ++ x ∷ []) ≡ true
any-last p xs x e = any-right p xs (x ∷ []) (or-left (p x) false e)

-- an item that passes, with what is true of all
pub record Found (X : Type 0) (p : X → Bool) (P : X → Type 0) : Type 0 where
  pub item : X
  pub passes : p item ≡ true
  pub is : P item

pub found : {X : Type 0} (p : X → Bool) (P : X → Type 0) (xs : List X) → list_any p xs ≡ true → AllByRecursion P xs → Found X p P
found p P [] e h = cc
found {X = X} p P (x ∷ xs) e h = pick (λ i. found p P xs i h.1) (or-either (p x) (list_any p xs) e)
  where
    pick : (list_any p xs ≡ true → Found X p P) → (p x ≡ true) ⊎ (list_any p xs ≡ true) → Found X p P
    pick f (inl i) = record { item = x; passes = i; is = h.0 }
    pick f (inr i) = f i

-- letters to one node
abbrev pub sent_to : ℕ → (Letter → Bool) → List (NodeNo × Letter) → Bool
sent_to m p ls = list_any (λ q. q.0 == m && p q.1) ls

pub self : (n : ℕ) → (n == n) ≡ true
self n = grind (arith, nat_tests)

pub apart-swap : (a b : ℕ) → (a == b) ≡ false → (b == a) ≡ false
apart-swap a b e = grind (arith, nat_tests, e)

pub both-true : (a b : Bool) → a ≡ true → b ≡ true → (a && b) ≡ true
both-true true b i j = j
both-true false b i j = cc

landing-any : (z : Sizes) (m : ℕ) (p : Letter → Bool) (ls : List (NodeNo × Letter)) → sent_to m p ls ≡ true → list_any p (landing z m ls) ≡ true
landing-any z m p [] e = cc
landing-any z m p (l ∷ ls) e = pick (λ i. landing-any z m p ls i) (or-either (l.0 == m && p l.1) (sent_to m p ls) e)
  where
    keep : (c : Bool) → list_any p (landing z m ls) ≡ true → list_any p (if c then l.1 ∷ landing z m ls else landing z m ls) ≡ true
    keep true h = or-right (p l.1) (list_any p (landing z m ls)) h
    keep false h = h

    pick : (sent_to m p ls ≡ true → list_any p (landing z m ls) ≡ true) → ((l.0 == m && p l.1) ≡ true) ⊎ (sent_to m p ls ≡ true) →
        list_any p (landing z m (l ∷ ls)) ≡ true
    pick f (inr i) = keep (lands z l.0 m) (f i)
    pick f (inl i) =
        let k = and_parts (l.0 == m) (p l.1) i in
        let here : lands z l.0 m ≡ true = ap (λ x. place_in z.bricks x == place_in z.bricks m) (eqb-true l.0 m k.0) ∙ self (place_in z.bricks m) in
        ap (λ c. list_any p (if c then l.1 ∷ landing z m ls else landing z m ls)) here ∙ or-left (p l.1) (list_any p (landing z m ls)) k.1

pub gains-any : (z : Sizes) (m : ℕ) (p : Letter → Bool) (ls : List (NodeNo × Letter)) → is_in z m ≡ true → sent_to m p ls ≡ true →
    list_any p (gains z ls m) ≡ true
gains-any z m p ls inside e = ap (λ c. list_any p (when_in c (landing z m ls))) inside ∙ landing-any z m p ls e

pub each-sent : (m : ℕ) (p : Letter → Bool) (ns : List NodeNo) (l : Letter) → has ns m ≡ true → p l ≡ true → sent_to m p (to_each ns l) ≡ true
each-sent m p [] l h e = cc
each-sent m p (n ∷ ns) l h e = pick (λ i. each-sent m p ns l i e) (or-either (n == m) (has ns m) h)
  where
    pick : (has ns m ≡ true → sent_to m p (to_each ns l) ≡ true) → ((n == m) ≡ true) ⊎ (has ns m ≡ true) → sent_to m p (to_each (n ∷ ns) l) ≡ true
    pick f (inl i) = or-left (n == m && p l) _ (both-true (n == m) (p l) i e)
    pick f (inr i) = or-right (n == m && p l) _ (f i)

-- what is pending
pub first-other : (ps : List Pending) (u t : Txn) → same_txn u t ≡ false → first_of (without ps u) t ≡ first_of ps t
first-other [] u t e = refl
first-other (x ∷ ps) u t e = pick (same_txn x.txn u) refl (first-other ps u t e)
  where
    pick : (c : Bool) → same_txn x.txn u ≡ c → first_of (without ps u) t ≡ first_of ps t →
        first_of (if c then ps else x ∷ without ps u) t ≡ first_of (x ∷ ps) t
    pick true i h = sym (ap (λ b. if b then Some x else first_of ps t) (ap (λ a. same_txn a t) (is-same x.txn u i) ∙ e))
    pick false i h = ap (λ o. if same_txn x.txn t then Some x else o) h

pub first-gone : (ps : List Pending) (u : Txn) → Once ps → first_of (without ps u) u ≡ None
first-gone ps u o = none (first_of (without ps u) u) (pending-gone ps u o)
  where
    none : (o : Option Pending) → is_some o ≡ false → o ≡ None
    none None e = refl
    none (Some p) e = cc

pub first-push : (ps : List Pending) (p : Pending) (t : Txn) → same_txn p.txn t ≡ false → first_of (ps ++ p ∷ []) t ≡ first_of ps t
first-push [] p t e = ap (λ b. if b then Some p else None) e
first-push (x ∷ ps) p t e = ap (λ o. if same_txn x.txn t then Some x else o) (first-push ps p t e)

-- the first one that isn't known, in a list whose members before a known one are known
pub first-is : (list : List ℕ) (known : ℕ → Bool) (m f : ℕ) → list_all known (before list m) ≡ true → has list m ≡ true → known m ≡ false →
    slice_get (live list known) 0 ≡ Some f → f ≡ m
first-is [] known m f a h k e = cc
first-is (n ∷ ns) known m f a h k e = pick (λ a h e. first-is ns known m f a h k e) (n == m) (known n) refl refl a e
  where
    there : (a b : Bool) → a ≡ false → (a || b) ≡ true → b ≡ true
    there true b i j = cc
    there false b i j = j

    pick : (list_all known (before ns m) ≡ true → has ns m ≡ true → slice_get (live ns known) 0 ≡ Some f → f ≡ m) → (c d : Bool) → (n == m) ≡ c →
        known n ≡ d → list_all known (if c then [] else n ∷ before ns m) ≡ true →
        slice_get (if d then live ns known else n ∷ live ns known) 0 ≡ Some f → f ≡ m
    pick w true true i j a e = let bad : true ≡ false = sym j ∙ ap known (eqb-true n m i) ∙ k in cc
    pick w true false i j a e = let is : n ≡ f = cc in sym is ∙ eqb-true n m i
    pick w false true i j a e = w (and_parts (known n) _ a).1 (there (n == m) (has ns m) i h) e
    pick w false false i j a e = let bad : false ≡ true = sym j ∙ (and_parts (known n) _ a).0 in cc

pub some-first : {X : Type 0} (xs : List X) (x : X) → slice_get xs 0 ≡ Some x → (ys : List X) × (xs ≡ x ∷ ys)
some-first [] x e = cc
some-first (y ∷ ys) x e = let is : y ≡ x = cc in (ys, ap (λ k. k ∷ ys) is)

-- it isn't known; and it was the first one before a node was known that isn't before it
pub first-dark : (list : List ℕ) (known : ℕ → Bool) (f : ℕ) (fs : List ℕ) → live list known ≡ f ∷ fs → known f ≡ false
first-dark list known f fs e =
    dark (known f) (has list f) (sym (has-live list known f) ∙ ap (λ ns. has ns f) e ∙ or-left (f == f) (has fs f) (self f))
  where
    dark : (b c : Bool) → (c && not b) ≡ true → b ≡ false
    dark false c i = refl
    dark true true i = cc
    dark true false i = cc

either-false : (a b : Bool) → (a || b) ≡ false → (a ≡ false) × (b ≡ false)
either-false true b e = cc
either-false false b e = (refl, e)

pub first-before : (list : List ℕ) (known more : ℕ → Bool) (y f : ℕ) (fs : List ℕ) → ((n : ℕ) → more n ≡ (n == y || known n)) → more f ≡ false →
    has (before list f) y ≡ false → live list more ≡ f ∷ fs → slice_get (live list known) 0 ≡ Some f
first-before [] known more y f fs w dark h e = cc
first-before (n ∷ ns) known more y f fs w dark h e =
    pick (λ h e. first-before ns known more y f fs w dark h e) (n == f) (more n) (known n) refl refl refl h e
  where
    pick : (has (before ns f) y ≡ false → live ns more ≡ f ∷ fs → slice_get (live ns known) 0 ≡ Some f) → (a b c : Bool) → (n == f) ≡ a → more n ≡ b →
        known n ≡ c → has (if a then [] else n ∷ before ns f) y ≡ false → (if b then live ns more else n ∷ live ns more) ≡ f ∷ fs →
        slice_get (if c then live ns known else n ∷ live ns known) 0 ≡ Some f
    pick rest true true c i j k h e = let bad : true ≡ false = sym j ∙ ap more (eqb-true n f i) ∙ dark in cc
    pick rest false true true i j k h e = rest (either-false (n == y) _ h).1 e
    pick rest false true false i j k h e =
        let bad : true ≡ false = sym j ∙ w n ∙ ap (λ b. b || known n) (either-false (n == y) _ h).0 ∙ k in cc
    pick rest a false true i j k h e = let bad : true ≡ false = sym k ∙ (either-false (n == y) (known n) (sym (w n) ∙ j)).1 in cc
    pick rest a false false i j k h e = let is : n ≡ f = cc in ap (λ x. Some x) is

-- what is true of all numbers of a list
pub all-of : (P : ℕ → Type 0) (ns : List ℕ) (f : ℕ) → AllByRecursion P ns → has ns f ≡ true → P f
all-of P [] f h e = cc
all-of P (n ∷ ns) f h e = pick (λ i. all-of P ns f h.1 i) (or-either (n == f) (has ns f) e)
  where
    pick : (has ns f ≡ true → P f) → ((n == f) ≡ true) ⊎ (has ns f ≡ true) → P f
    pick rest (inl i) = subst P (eqb-true n f i) h.0
    pick rest (inr i) = rest i
