use Rattle.std.proofs.Common.{◌≡◌, ℕ, ◌==◌, ◌||◌, ◌++◌, Bool, true, false, List, [], ◌∷◌, inl, inr, arith, refl, sym, ap, ◌∙◌, subst}
use Rattle.std.proofs.lemmas.Bool.{and_parts, cases_Bool, eqb-true}
use Rattle.std.proofs.lemmas.Bool.Decides.{nat_tests}
use Rattle.std.specs.List.{AllByRecursion}
use Rattle.std.specs.Prelude.{if◌then◌else◌}
use Rattle.dds_base.specs.Name.{Name, overlaps, same_name}
use Rattle.dds_law_own.proofs.Owned.{Apart}
use Rattle.dds_locks.specs.Leases.{is_given, is_lease, released, released_all}
use Rattle.dds_locks.specs.declared.leases.Lease.{Lease}
use Rattle.dds_net.proofs.Pairwise.{Pairwise}
use Rattle.dds_law_own.proofs.Halves.{overlap-sym}

-- Which leases stand.

pub same-is : (x y : Name) → same_name x y ≡ true → x ≡ y
same-is x y e =
    let p = and_parts (x.bits == y.bits) (x.depth == y.depth) e in
    λ i. record { bits = eqb-true x.bits y.bits p.0 i; depth = eqb-true x.depth y.depth p.1 i }

or-none : (x : Bool) → (x || false) ≡ x
or-none true = refl
or-none false = refl

or-yes : (x : Bool) → (x || true) ≡ true
or-yes true = refl
or-yes false = refl

pub given-more : (ls : List Lease) (l : Lease) (x : Name) (h : ℕ) → is_given (ls ++ l ∷ []) x h ≡ (is_given ls x h || is_lease x h l)
given-more [] l x h = or-none (is_lease x h l)
given-more (k ∷ ls) l x h = ap (λ c. is_lease x h k || c) (given-more ls l x h) ∙ assoc (is_lease x h k) (is_given ls x h) (is_lease x h l)
  where
    assoc : (a b c : Bool) → (a || (b || c)) ≡ ((a || b) || c)
    assoc true b c = refl
    assoc false b c = refl

pub lease-self : (x : Name) (h : ℕ) → is_lease x h (record { name = x; holder = h }) ≡ true
lease-self x h = grind (arith, nat_tests)

pub given-new : (ls : List Lease) (x : Name) (h : ℕ) → is_given (ls ++ record { name = x; holder = h } ∷ []) x h ≡ true
given-new ls x h = given-more ls (record { name = x; holder = h }) x h ∙ ap (λ b. is_given ls x h || b) (lease-self x h) ∙ or-yes (is_given ls x h)

pub given-still : (ls : List Lease) (l : Lease) (x : Name) (h : ℕ) → is_given ls x h ≡ true → is_given (ls ++ l ∷ []) x h ≡ true
given-still ls l x h e = given-more ls l x h ∙ ap (λ b. b || is_lease x h l) e

-- another one stands still
pub given-other : (ls : List Lease) (x y : Name) (h k : ℕ) → ((l : Lease) → is_lease y k l ≡ true → is_lease x h l ≡ false)
    → is_given (released ls y k) x h ≡ is_given ls x h
given-other [] x y h k f = refl
given-other (l ∷ ls) x y h k f =
    elim (is_lease y k l) as (λ c. is_lease y k l ≡ c → is_given (if c then ls else l ∷ released ls y k) x h ≡ is_given (l ∷ ls) x h) [
      | true ↦ λ e. sym (ap (λ c. c || is_given ls x h) (f l e))
      | false ↦ λ e. ap (λ c. is_lease x h l || c) (given-other ls x y h k f)
    ] refl

pub other-holder : (x y : Name) (h k : ℕ) → (k ≡ h → ⊥) → (l : Lease) → is_lease y k l ≡ true → is_lease x h l ≡ false
other-holder x y h k ne l e = elim (cases_Bool (is_lease x h l)) [
  | inl f ↦
      let a = eqb-true l.holder k (and_parts (l.holder == k) (same_name l.name y) e).0 in
      let b = eqb-true l.holder h (and_parts (l.holder == h) (same_name l.name x) f).0 in
      absurd (ne (sym a ∙ b))
  | inr f ↦ f
]

other-if : (c : Bool) (l : Lease) (ls : List Lease) (x : Name) (h y : ℕ) → (l.holder == y) ≡ c → (h ≡ y → ⊥)
    → is_given (released_all ls y) x h ≡ is_given ls x h → is_given (if c then released_all ls y else l ∷ released_all ls y) x h ≡ is_given (l ∷ ls) x h
other-if true l ls x h y e ne f = f ∙ sym (ap (λ c. c || is_given ls x h) (not-its (is_lease x h l) refl))
  where
    not-its : (c : Bool) → is_lease x h l ≡ c → is_lease x h l ≡ false
    not-its true g =
        let b = eqb-true l.holder h (and_parts (l.holder == h) (same_name l.name x) g).0 in
        absurd (ne (sym b ∙ eqb-true l.holder y e))
    not-its false g = g
other-if false l ls x h y e ne f = ap (λ c. is_lease x h l || c) f

-- those of others, where a node's leases are dropped
pub given-dropped : (ls : List Lease) (x : Name) (h y : ℕ) → (h ≡ y → ⊥) → is_given (released_all ls y) x h ≡ is_given ls x h
given-dropped [] x h y ne = refl
given-dropped (l ∷ ls) x h y ne = other-if (l.holder == y) l ls x h y refl ne (given-dropped ls x h y ne)

-- where a lease of a name stands, no other one overlaps the name
abbrev pub Clear : Name → Lease → Type 0
Clear x l = overlaps l.name x ≡ false

pub clear-rest : (ls : List Lease) (l : Lease) (x : Name) → l.name ≡ x → AllByRecursion (Apart l) ls → AllByRecursion (Clear x) ls
clear-rest [] l x e h = tt
clear-rest (k ∷ ls) l x e h = (
  not-either (overlaps l.name k.name) (overlaps k.name x) h.0
      (λ f. overlap-sym k.name l.name (subst (λ n. overlaps k.name n ≡ true) (sym e) f)),
  clear-rest ls l x e h.1,
)
  where
    not-either : (a b : Bool) → a ≡ false → (b ≡ true → a ≡ true) → b ≡ false
    not-either a true e f = sym (f refl) ∙ e
    not-either a false e f = refl

-- the given one is among those that are apart from a lease
pub given-apart : (ls : List Lease) (l : Lease) (x : Name) (h : ℕ) → is_given ls x h ≡ true → AllByRecursion (Apart l) ls → Clear x l
given-apart [] l x h e a = cc
given-apart (k ∷ ls) l x h e a = elim (cases_Bool (is_lease x h k)) [
  | inl f ↦ subst (λ n. overlaps l.name n ≡ false) (same-is k.name x (and_parts (k.holder == h) (same_name k.name x) f).1) a.0
  | inr f ↦ given-apart ls l x h (sym (ap (λ c. c || is_given ls x h) f) ∙ e) a.1
]

pub clear-others : (ls : List Lease) (x : Name) (h : ℕ) → is_given ls x h ≡ true → Pairwise Apart ls → AllByRecursion (Clear x) (released ls x h)
clear-others [] x h e a = tt
clear-others (l ∷ ls) x h e a =
    elim (is_lease x h l) as (λ c. is_lease x h l ≡ c → AllByRecursion (Clear x) (if c then ls else l ∷ released ls x h)) [
      | true ↦ λ f. clear-rest ls l x (same-is l.name x (and_parts (l.holder == h) (same_name l.name x) f).1) a.0
      | false ↦ λ f.
          let g : is_given ls x h ≡ true = sym (ap (λ c. c || is_given ls x h) f) ∙ e in
          (given-apart ls l x h g a.0, clear-others ls x h g a.1)
    ] refl
