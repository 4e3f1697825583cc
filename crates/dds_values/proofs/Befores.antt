use Rattle.std.proofs.Common.{◌≡◌, ℕ, ◌==◌, ◌||◌, Bool, true, false, cond, Some, None, List, [], ◌∷◌, ◌++◌, refl, sym, ap, ◌∙◌}
use Rattle.std.specs.FinMap.{get}
use Rattle.std.specs.List.{find}
use Rattle.std.specs.Prelude.{if◌then◌else◌}
use Rattle.dds_base.specs.Number.{Txn}
use Rattle.dds_base.specs.Op.{is_get, the_key}
use Rattle.dds_cluster.specs.Lists.{is_applied, is_update_of}
use Rattle.dds_cluster.specs.declared.trace.Made.{Made}
use Rattle.dds_history.proofs.Bindings.{get-after}
use Rattle.dds_history.specs.Map.{bound_after, bound_by}
use Rattle.dds_values.proofs.Histories.{after-get, table-more}
use Rattle.dds_values.specs.Values.{HasFlag, bound_in, table}
use Rattle.dds_world.specs.Values.{before_entry}

-- The points before that of a transaction, with one point more.

or-left : (x y : Bool) → (x || y) ≡ false → (x ≡ false) × (y ≡ false)
or-left true y e = cc
or-left false y e = (refl, e)

-- a transaction that wasn't applied has all points before it
pub before-all : (made : List Made) (t : Txn) → is_applied made t ≡ false → before_entry made t ≡ made
before-all [] t e = refl
before-all (x ∷ made) t e =
    let q = or-left (is_update_of t x) (is_applied made t) e in
    ap (λ b. if b then [] else x ∷ before_entry made t) q.0 ∙ ap (λ l. x ∷ l) (before-all made t q.1)

-- the points before that of one that was applied stay
pub before-more : (made more : List Made) (t : Txn) → is_applied made t ≡ true → before_entry (made ++ more) t ≡ before_entry made t
before-more [] more t e = cc
before-more (x ∷ made) more t e = pick (is_update_of t x) e (before-more made more t)
  where
    pick : (b : Bool) → (b || is_applied made t) ≡ true → (is_applied made t ≡ true → before_entry (made ++ more) t ≡ before_entry made t)
        → (if b then [] else x ∷ before_entry (made ++ more) t) ≡ (if b then [] else x ∷ before_entry made t)
    pick true e f = refl
    pick false e f = ap (λ l. x ∷ l) (f e)

pub applied-more : (made more : List Made) (t : Txn) → is_applied made t ≡ true → is_applied (made ++ more) t ≡ true
applied-more [] more t e = cc
applied-more (x ∷ made) more t e = pick (is_update_of t x) e (applied-more made more t)
  where
    pick : (b : Bool) → (b || is_applied made t) ≡ true → (is_applied made t ≡ true → is_applied (made ++ more) t ≡ true)
        → (b || is_applied (made ++ more) t) ≡ true
    pick true e f = refl
    pick false e f = f e

-- one point more that isn't its own
pub applied-other : (made : List Made) (m : Made) (t : Txn) → is_update_of t m ≡ false → is_applied (made ++ m ∷ []) t ≡ is_applied made t
applied-other [] m t e = ap (λ b. b || false) e
applied-other (x ∷ made) m t e = ap (λ b. is_update_of t x || b) (applied-other made m t e)

pub applied-this : (made : List Made) (m : Made) (t : Txn) → is_update_of t m ≡ true → is_applied (made ++ m ∷ []) t ≡ true
applied-this [] m t e = ap (λ b. b || false) e
applied-this (x ∷ made) m t e = ap (λ b. is_update_of t x || b) (applied-this made m t e) ∙ or-true (is_update_of t x)
  where
    or-true : (b : Bool) → (b || true) ≡ true
    or-true true = refl
    or-true false = refl

-- and before its own point stands what stood there
pub before-this : (made : List Made) (m : Made) (t : Txn) → is_applied made t ≡ false → is_update_of t m ≡ true → before_entry (made ++ m ∷ []) t ≡ made
before-this [] m t e f = ap (λ b. if b then [] else m ∷ []) f
before-this (x ∷ made) m t e f =
    let q = or-left (is_update_of t x) (is_applied made t) e in
    ap (λ b. if b then [] else x ∷ before_entry (made ++ m ∷ []) t) q.0 ∙ ap (λ l. x ∷ l) (before-this made m t q.1 f)

-- the first point of a transaction
pub first-there : (made : List Made) (t : Txn) → is_applied made t ≡ true → (m : Made) × (find (is_update_of t) made ≡ Some m)
first-there [] t e = cc
first-there (x ∷ made) t e = pick (is_update_of t x) e (first-there made t)
  where
    pick : (b : Bool) → (b || is_applied made t) ≡ true → (is_applied made t ≡ true → (m : Made) × (find (is_update_of t) made ≡ Some m))
        → (m : Made) × (cond b (Some x) (find (is_update_of t) made) ≡ Some m)
    pick true e f = (x, refl)
    pick false e f = f e

pub first-more : (made more : List Made) (t : Txn) (m : Made) → find (is_update_of t) made ≡ Some m → find (is_update_of t) (made ++ more) ≡ Some m
first-more [] more t m e = cc
first-more (x ∷ made) more t m e = pick (is_update_of t x) e (first-more made more t m)
  where
    pick : (b : Bool) → cond b (Some x) (find (is_update_of t) made) ≡ Some m
        → (find (is_update_of t) made ≡ Some m → find (is_update_of t) (made ++ more) ≡ Some m)
        → cond b (Some x) (find (is_update_of t) (made ++ more)) ≡ Some m
    pick true e f = e
    pick false e f = f e

pub first-this : (made : List Made) (m : Made) (t : Txn) → is_applied made t ≡ false → is_update_of t m ≡ true
    → find (is_update_of t) (made ++ m ∷ []) ≡ Some m
first-this [] m t e f = ap (λ b. cond b (Some m) None) f
first-this (x ∷ made) m t e f =
    let q = or-left (is_update_of t x) (is_applied made t) e in
    ap (λ b. cond b (Some x) (find (is_update_of t) (made ++ m ∷ []))) q.0 ∙ first-this made m t q.1 f

-- stands behind the points before it
pub record Split (made : List Made) (t : Txn) (m : Made) : Type 0 where
  pub rest : List Made
  pub is : made ≡ before_entry made t ++ m ∷ rest

pub first-splits : (made : List Made) (t : Txn) (m : Made) → find (is_update_of t) made ≡ Some m → Split made t m
first-splits [] t m e = cc
first-splits (x ∷ made) t m e = pick (is_update_of t x) refl e (first-splits made t m)
  where
    pick : (b : Bool) → is_update_of t x ≡ b → cond b (Some x) (find (is_update_of t) made) ≡ Some m
        → (find (is_update_of t) made ≡ Some m → Split made t m) → Split (x ∷ made) t m
    pick true f g k =
        let here : x ≡ m = cc in
        record { rest = made; is = ap (λ y. y ∷ made) here ∙ sym (ap (λ b. (if b then [] else x ∷ before_entry made t) ++ m ∷ made) f) }
    pick false f g k =
        let r = k g in
        record { rest = r.rest; is = ap (λ l. x ∷ l) r.is ∙ sym (ap (λ b. (if b then [] else x ∷ before_entry made t) ++ m ∷ r.rest) f) }

-- a flag stays that of the first point
pub flag-more : (made more : List Made) (t : Txn) (was : Bool) → HasFlag made t was → HasFlag (made ++ more) t was
flag-more made more t was f = record { point = f.point; first = first-more made more t f.point f.first; reply = f.reply }

-- what the table has for a key after one point more
pub bound-more : (made : List Made) (m : Made) (key : ℕ) → bound_in (made ++ m ∷ []) key ≡ bound_by (bound_in made key) m.entry.op key
bound-more made m key = ap (λ t. get t key) (table-more made m) ∙ get-after (table made) m.entry.op key

-- another key's, or a read's, is as it was
pub bound-other : (made : List Made) (m : Made) (key : ℕ) → (the_key m.entry.op == key) ≡ false → bound_in (made ++ m ∷ []) key ≡ bound_in made key
bound-other made m key e =
    bound-more made m key ∙ ap (λ b. if b then bound_after (bound_in made key) m.entry.op else bound_in made key) e

pub bound-read : (made : List Made) (m : Made) (key : ℕ) → is_get m.entry.op ≡ true → bound_in (made ++ m ∷ []) key ≡ bound_in made key
bound-read made m key e = ap (λ t. get t key) (table-more made m ∙ after-get (table made) m.entry.op e)

pub bound-this : (made : List Made) (m : Made) (key : ℕ) → (the_key m.entry.op == key) ≡ true
    → bound_in (made ++ m ∷ []) key ≡ bound_after (bound_in made key) m.entry.op
bound-this made m key e =
    bound-more made m key ∙ ap (λ b. if b then bound_after (bound_in made key) m.entry.op else bound_in made key) e
