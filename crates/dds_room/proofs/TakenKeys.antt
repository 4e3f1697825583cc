use Rattle.std.proofs.Common.{◌≡◌, ℕ, ◌+◌, ◌&&◌, ◌||◌, ◌⊎◌, inl, inr, Bool, true, false, not, List, [], ◌∷◌, ◌++◌}
use Rattle.std.proofs.Common.{length, map, refl, sym, ap, ◌∙◌, subst, arith}
use Rattle.std.proofs.lemmas.Bool.{and_from, and_parts, or_left, or_right}
use Rattle.std.proofs.lemmas.Bool.Decides.{nat_tests}
use Rattle.std.proofs.lemmas.List.{length-append, length-map}
use Rattle.std.proofs.lemmas.List.Folds.{list_any-append}
use Rattle.std.proofs.lemmas.List.Sums.{length-filter}
use Rattle.std.specs.FinMap.{contains_key, contains_key-keys, keys}
use Rattle.std.specs.List.{filter, list_any}
use Rattle.std.specs.Ordering.{eq_by_cmp, nat_cmp}
use Rattle.std.specs.Prelude.{count_by, if◌then◌else◌}
use Rattle.dds_base.specs.Name.{Name, covers}
use Rattle.dds_base.specs.Op.{the_key}
use Rattle.dds_base.specs.declared.pending.Pending.{Pending}
use Rattle.dds_brick_rows.specs.Refusal.{is_new_under, is_put, pairs_under}
use Rattle.dds_history.specs.Map.{Map}

-- The keys that are taken under a name: those that are bound, and those that a pending put is on.

abbrev pub same : ℕ → ℕ → Bool
same q k = eq_by_cmp nat_cmp q k

-- some pending put is on the key
abbrev pub is_put_on : ℕ → Pending → Bool
is_put_on key p = is_put p.op && same key (the_key p.op)

abbrev pub is_taken : Map → List Pending → ℕ → Bool
is_taken m ps key = contains_key m key || list_any (λ p. is_put_on key p) ps

-- the keys that are taken under a name
abbrev pub new_keys : Map → Name → List Pending → List ℕ
new_keys m name ps = map (λ p. the_key p.op) (filter (λ p. is_new_under m name p) ps)

abbrev pub all_keys : Map → Name → List Pending → List ℕ
all_keys m name ps = filter (λ key. covers name key) (keys m) ++ new_keys m name ps

abbrev pub count_under : Map → Name → List Pending → ℕ
count_under m name ps = pairs_under m name + count_by (λ p. is_new_under m name p) ps

pub count-is : (m : Map) (name : Name) (ps : List Pending) → length (all_keys m name ps) ≡ count_under m name ps
count-is m name ps =
    length-append (filter (λ key. covers name key) (keys m)) (new_keys m name ps)
    ∙ ap (λ k. k + length (new_keys m name ps)) (length-filter (λ key. covers name key) (keys m))
    ∙ ap (λ k. pairs_under m name + k)
    (length-map (filter (λ p. is_new_under m name p) ps) (λ (p : Pending). the_key p.op) ∙ length-filter (λ p. is_new_under m name p) ps)

pub same-is : (q k : ℕ) → same q k ≡ true → q ≡ k
same-is q k e = grind (arith, nat_tests, e)

pub same-self : (q : ℕ) → same q q ≡ true
same-self q = grind (arith, nat_tests)

-- who is among them
abbrev pub Among : ℕ → List ℕ → Type 0
Among q ks = list_any (λ k. same q k) ks ≡ true

pub or-either : (a b : Bool) → (a || b) ≡ true → (a ≡ true) ⊎ (b ≡ true)
or-either true b h = inl refl
or-either false b h = inr h

filtered-if : (test : ℕ → Bool) (q k : ℕ) (ks : List ℕ) (c : Bool) → test k ≡ c → list_any (λ i. same q i) (if c then k ∷ ks else ks) ≡ true
    → (same q k ≡ true) × (test k ≡ true) ⊎ Among q ks
filtered-if test q k ks true e h = elim (or-either (same q k) (list_any (λ i. same q i) ks) h) [ inl i ↦ inl (i, e) | inr i ↦ inr i ]
filtered-if test q k ks false e h = inr h

pub from-filter : (test : ℕ → Bool) (q : ℕ) (ks : List ℕ) → Among q (filter test ks) → Among q ks × (test q ≡ true)
from-filter test q [] h = cc
from-filter test q (k ∷ ks) h = elim (filtered-if test q k (filter test ks) (test k) refl h) [
  | inl i ↦ (or_left (same q k) (list_any (λ i. same q i) ks) i.0, subst (λ j. test j ≡ true) (sym (same-is q k i.0)) i.1)
  | inr i ↦ (let r = from-filter test q ks i in (or_right (same q k) (list_any (λ i. same q i) ks) r.0, r.1))
]

kept-if : (q k : ℕ) (ks : List ℕ) (c : Bool) → c ≡ true → same q k ≡ true → list_any (λ i. same q i) (if c then k ∷ ks else ks) ≡ true
kept-if q k ks true e h = or_left (same q k) (list_any (λ i. same q i) ks) h
kept-if q k ks false e h = cc

more-if : (q k : ℕ) (ks : List ℕ) (c : Bool) → Among q ks → list_any (λ i. same q i) (if c then k ∷ ks else ks) ≡ true
more-if q k ks true h = or_right (same q k) (list_any (λ i. same q i) ks) h
more-if q k ks false h = h

pub to-filter : (test : ℕ → Bool) (q : ℕ) (ks : List ℕ) → Among q ks → test q ≡ true → Among q (filter test ks)
to-filter test q [] h t = cc
to-filter test q (k ∷ ks) h t = elim (or-either (same q k) (list_any (λ i. same q i) ks) h) [
  | inl i ↦ kept-if q k (filter test ks) (test k) (subst (λ j. test j ≡ true) (same-is q k i) t) i
  | inr i ↦ more-if q k (filter test ks) (test k) (to-filter test q ks i t)
]

-- those of pending puts
pub record IsNew (m : Map) (name : Name) (ps : List Pending) (q : ℕ) : Type 0 where
  pub over : covers name q ≡ true
  pub free : contains_key m q ≡ false
  pub put : list_any (λ p. is_put_on q p) ps ≡ true

is-false : (b : Bool) → not b ≡ true → b ≡ false
is-false true h = cc
is-false false h = refl

is-true : (b : Bool) → b ≡ false → not b ≡ true
is-true true h = cc
is-true false h = refl

this-new : (m : Map) (name : Name) (p : Pending) (ps : List Pending) (q : ℕ) → is_new_under m name p ≡ true → same q (the_key p.op) ≡ true
    → IsNew m name (p ∷ ps) q
this-new m name p ps q e h =
    let a = and_parts (is_put p.op) (covers name (the_key p.op) && not (contains_key m (the_key p.op))) e in
    let b = and_parts (covers name (the_key p.op)) (not (contains_key m (the_key p.op))) a.1 in
    let is = sym (same-is q (the_key p.op) h) in
    record {
      over = subst (λ k. covers name k ≡ true) is b.0;
      free = subst (λ k. contains_key m k ≡ false) is (is-false (contains_key m (the_key p.op)) b.1);
      put = or_left (is_put_on q p) (list_any (λ x. is_put_on q x) ps) (and_from (is_put p.op) (same q (the_key p.op)) a.0 h);
    }

rest-new : (m : Map) (name : Name) (p : Pending) (ps : List Pending) (q : ℕ) → IsNew m name ps q → IsNew m name (p ∷ ps) q
rest-new m name p ps q h =
    record { over = h.over; free = h.free; put = or_right (is_put_on q p) (list_any (λ x. is_put_on q x) ps) h.put }

new-if : (m : Map) (name : Name) (p : Pending) (ps qs : List Pending) (q : ℕ) (c : Bool) → is_new_under m name p ≡ c
    → Among q (map (λ x. the_key x.op) (if c then p ∷ qs else qs)) → (Among q (map (λ x. the_key x.op) qs) → IsNew m name ps q) → IsNew m name (p ∷ ps) q
new-if m name p ps qs q true e h f =
    elim (or-either (same q (the_key p.op)) (list_any (λ i. same q i) (map (λ x. the_key x.op) qs)) h) [
      | inl i ↦ this-new m name p ps q e i
      | inr i ↦ rest-new m name p ps q (f i)
    ]
new-if m name p ps qs q false e h f = rest-new m name p ps q (f h)

pub from-new : (m : Map) (name : Name) (ps : List Pending) (q : ℕ) → Among q (new_keys m name ps) → IsNew m name ps q
from-new m name [] q h = cc
from-new m name (p ∷ ps) q h =
    new-if m name p ps (filter (λ x. is_new_under m name x) ps) q (is_new_under m name p) refl h (λ i. from-new m name ps q i)

put-if : (q : ℕ) (p : Pending) (qs : List Pending) (c : Bool) → c ≡ true → same q (the_key p.op) ≡ true
    → Among q (map (λ x. the_key x.op) (if c then p ∷ qs else qs))
put-if q p qs true e h = or_left (same q (the_key p.op)) (list_any (λ i. same q i) (map (λ x. the_key x.op) qs)) h
put-if q p qs false e h = cc

later-if : (q : ℕ) (p : Pending) (qs : List Pending) (c : Bool) → Among q (map (λ x. the_key x.op) qs)
    → Among q (map (λ x. the_key x.op) (if c then p ∷ qs else qs))
later-if q p qs true h = or_right (same q (the_key p.op)) (list_any (λ i. same q i) (map (λ x. the_key x.op) qs)) h
later-if q p qs false h = h

to-new : (m : Map) (name : Name) (ps : List Pending) (q : ℕ) → IsNew m name ps q → Among q (new_keys m name ps)
to-new m name [] q h = let no = h.put in cc
to-new m name (p ∷ ps) q h = elim (or-either (is_put_on q p) (list_any (λ x. is_put_on q x) ps) h.put) [
  | inl i ↦
      let a = and_parts (is_put p.op) (same q (the_key p.op)) i in
      let is = same-is q (the_key p.op) a.1 in
      put-if q p (filter (λ x. is_new_under m name x) ps) (is_new_under m name p)
      (and_from (is_put p.op) (covers name (the_key p.op) && not (contains_key m (the_key p.op))) a.0
      (and_from (covers name (the_key p.op)) (not (contains_key m (the_key p.op))) (subst (λ k. covers name k ≡ true) is h.over)
      (is-true (contains_key m (the_key p.op)) (subst (λ k. contains_key m k ≡ false) is h.free)))) a.1
  | inr i ↦
      later-if q p (filter (λ x. is_new_under m name x) ps) (is_new_under m name p)
      (to-new m name ps q (record { over = h.over; free = h.free; put = i }))
]

-- a key is among those that are taken under a name exactly where it is taken and under the name
pub key-bound : (m : Map) (q : ℕ) → contains_key m q ≡ list_any (λ k. same q k) (keys m)
key-bound m q = contains_key-keys m q

pub from-all : (m : Map) (name : Name) (ps : List Pending) (q : ℕ) → Among q (all_keys m name ps) → (covers name q ≡ true) × (is_taken m ps q ≡ true)
from-all m name ps q h =
    elim (or-either (list_any (λ k. same q k) (filter (λ key. covers name key) (keys m))) (list_any (λ k. same q k) (new_keys m name ps))
    (sym (list_any-append (λ k. same q k) (filter (λ key. covers name key) (keys m)) (new_keys m name ps)) ∙ h)) [
      | inl i ↦
          let r = from-filter (λ key. covers name key) q (keys m) i in
          (r.1, or_left (contains_key m q) (list_any (λ p. is_put_on q p) ps) (key-bound m q ∙ r.0))
      | inr i ↦ (let r = from-new m name ps q i in (r.over, or_right (contains_key m q) (list_any (λ p. is_put_on q p) ps) r.put))
    ]

pub to-all : (m : Map) (name : Name) (ps : List Pending) (q : ℕ) → covers name q ≡ true → is_taken m ps q ≡ true → Among q (all_keys m name ps)
to-all m name ps q over h =
    list_any-append (λ k. same q k) (filter (λ key. covers name key) (keys m)) (new_keys m name ps)
    ∙ by (contains_key m q) refl
  where
    by : (c : Bool) → contains_key m q ≡ c
        → (list_any (λ k. same q k) (filter (λ key. covers name key) (keys m)) || list_any (λ k. same q k) (new_keys m name ps)) ≡ true
    by true e = or_left _ _ (to-filter (λ key. covers name key) q (keys m) (sym (key-bound m q) ∙ e) over)
    by false e =
        or_right (list_any (λ k. same q k) (filter (λ key. covers name key) (keys m))) _
        (to-new m name ps q (record { over = over; free = e; put = sym (ap (λ c. c || list_any (λ p. is_put_on q p) ps) e) ∙ h }))
