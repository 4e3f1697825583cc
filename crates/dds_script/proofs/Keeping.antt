-- What a reader keeps while it reads.
use Rattle.std.proofs.Common.{◌≡◌, ◌==◌, ℕ, ◌+◌, ◌^◌, ◌<◌, ◌≤◌, ◌%◌, min, true, false, List, [], ◌∷◌, ◌++◌, length, inl, inr, refl, ap, sym}
use Rattle.std.proofs.Common.{◌∙◌, subst, arith, length-append, append-nil, append_assoc}
use Rattle.std.proofs.lemmas.Bool.Decides.{nat_tests}
use Rattle.std.specs.List.{AllByRecursion}
use Rattle.dds_base.specs.Name.{Name, overlaps}
use Rattle.dds_base.specs.declared.leaf.Leaf.{Leaf}
use Rattle.dds_script.specs.Grammar.{IsOpened, MovesBy, Reads, Takes, after_blank, first_reader, script_of}
use Rattle.dds_script.specs.Grammar.MovesBy.{cluster, leaf, old, line}
use Rattle.dds_script.specs.Opening.{AreApart, AreOpeningLeaves, AreStaleLeaves, CoverAll, IsOpening, IsPlaced, meets, opening_leaf, stale_at, stale_leaf}
use Rattle.dds_script.specs.Ranges.{IsInRanges}
use Rattle.dds_script.specs.Sound.{IsFresh, IsSound}
use Rattle.dds_script.specs.declared.line.Line.TheVariants as lines
use Rattle.dds_script.specs.declared.place.Place.{Place}
use Rattle.dds_script.specs.declared.place.Place.TheVariants as places
use Rattle.dds_script.specs.declared.reader.Reader.{Reader}

all-push : {X : Type 0} (P : X → Type 0) (xs : List X) (x : X) → AllByRecursion P xs → P x → AllByRecursion P (xs ++ x ∷ [])
all-push P [] x h p = (p, tt)
all-push P (y ∷ xs) x h p = (h.0, all-push P xs x h.1 p)

numbers-push : (n : ℕ) (leaves : List Leaf) (name : Name) (list : List ℕ) → AreOpeningLeaves n leaves →
    AreOpeningLeaves n (leaves ++ opening_leaf (n + length leaves) name list ∷ [])
numbers-push n [] name list h =
    let e : n + 0 ≡ n = omega arith in
    (ap (λ (m : ℕ). opening_leaf m name list) e, tt)
numbers-push n (l ∷ leaves) name list h =
    let e : n + length (l ∷ leaves) ≡ n + 1 + length leaves = omega arith in
    let t = numbers-push (n + 1) leaves name list h.1 in
    (h.0, subst (λ (m : ℕ). AreOpeningLeaves (n + 1) (leaves ++ opening_leaf m name list ∷ [])) (sym e) t)

flip : (a b : Name) → overlaps a b ≡ overlaps b a
flip a b =
    let m : min a.depth b.depth ≡ min b.depth a.depth = omega arith in
    rw m (swap (a.bits % 2 ^ min b.depth a.depth) (b.bits % 2 ^ min b.depth a.depth))
  where
    swap : (x y : ℕ) → (x == y) ≡ (y == x)
    swap x y = elim (x == y) as (λ t. (x == y) ≡ t → t ≡ (y == x)) [ true ↦ λ e. grind (arith, nat_tests, e) | false ↦ λ e. grind (arith, nat_tests, e) ] refl

meets-push : (leaves : List Leaf) (l : Leaf) (name : Name) → meets leaves name ≡ false → overlaps l.name name ≡ false → meets (leaves ++ l ∷ []) name ≡ false
meets-push [] l name m o = rw o refl
meets-push (x ∷ leaves) l name m o =
    let a : overlaps x.name name ≡ false = grind (arith, nat_tests, m) in
    let b : meets leaves name ≡ false = grind (arith, nat_tests, m) in
    rw (a, meets-push leaves l name b o) refl

apart-push : (leaves : List Leaf) (l : Leaf) → AreApart leaves → meets leaves l.name ≡ false → AreApart (leaves ++ l ∷ [])
apart-push [] l a m = (refl, tt)
apart-push (x ∷ leaves) l a m =
    let o : overlaps x.name l.name ≡ false = grind (arith, nat_tests, m) in
    let b : meets leaves l.name ≡ false = grind (arith, nat_tests, m) in
    (meets-push leaves l x.name a.0 (flip l.name x.name ∙ o), apart-push leaves l a.1 b)

stale-push : (libraries : ℕ) (before leaves : List Leaf) (library : ℕ) (name : Name) (list : List ℕ) → library < libraries →
    AreStaleLeaves libraries before leaves →
    AreStaleLeaves libraries before (leaves ++ stale_leaf library (stale_at library (before ++ leaves)) name list ∷ [])
stale-push libraries before [] library name list l h =
    ((library, l, ap (λ (b : List Leaf). stale_leaf library (stale_at library b) name list) (append-nil before)), tt)
stale-push libraries before (x ∷ leaves) library name list l h =
    let e : before ++ x ∷ leaves ≡ (before ++ x ∷ []) ++ leaves = sym (append_assoc before (x ∷ []) leaves) in
    let t = stale-push libraries (before ++ x ∷ []) leaves library name list l h.1 in
    (h.0, subst (λ (b : List Leaf). AreStaleLeaves libraries (before ++ x ∷ []) (leaves ++ stale_leaf library (stale_at library b) name list ∷ [])) (sym e) t)

pub sound-first : IsSound first_reader
sound-first = record {
  ranges = record {
    some_brick = omega arith;
    bricks = omega arith;
    some_library = omega arith;
    libraries = omega arith;
    some_caller = omega arith;
    callers = omega arith;
  };
  leaves = tt;
  numbers = tt;
  apart = tt;
  old = tt;
  old_numbers = tt;
  lines = tt;
  fresh = (refl, refl, refl);
}

-- the leaves cover each key where the opening has ended
pub opened-all : (p : Place) (s : Reader) → IsOpened p s → IsFresh p s → CoverAll s.leaves
opened-all places.BeforeCluster s o f = absurd o
opened-all places.Leaves s o f = o
opened-all places.Old s o f = f
opened-all places.Body s o f = f

sound-blank : (s : Reader) (p : Place) → s.place ≡ p → IsSound s → IsSound (after_blank p s)
sound-blank s places.BeforeCluster e h = h
sound-blank s places.Leaves e h = h
sound-blank s places.Old e h = h
sound-blank s places.Body e h = record {
  ranges = h.ranges;
  leaves = h.leaves;
  numbers = h.numbers;
  apart = h.apart;
  old = h.old;
  old_numbers = h.old_numbers;
  lines = all-push (IsInRanges s.ranges) s.lines lines.Nothing h.lines tt;
  fresh = let f : IsFresh places.Body s = subst (λ (x : Place). IsFresh x s) e h.fresh in
      subst (λ (x : Place). IsFresh x (record s { lines = s.lines ++ lines.Nothing ∷ [] })) (sym e) f;
}

pub sound-by : (s : Reader) (ws : List (List ℕ)) (next : Reader) → MovesBy s ws next → IsSound s → IsSound next
sound-by _ _ _ (cluster s ws r place spelled is) h =
    let f : IsFresh places.BeforeCluster s = subst (λ (x : Place). IsFresh x s) place h.fresh in
    record {
      ranges = is;
      leaves = rw f.0 tt;
      numbers = rw f.0 tt;
      apart = rw f.0 tt;
      old = rw f.1 tt;
      old_numbers = rw f.1 tt;
      lines = rw f.2 tt;
      fresh = (f.1, f.2);
    }
sound-by _ _ _ (leaf s ws name list place spelled is group apart) h =
    let l = opening_leaf (length s.leaves) name list in
    let e : 0 + length s.leaves ≡ length s.leaves = omega arith in
    let f : IsFresh places.Leaves s = subst (λ (x : Place). IsFresh x s) place h.fresh in
    record {
      ranges = h.ranges;
      leaves = all-push (IsPlaced s.ranges.bricks) s.leaves l h.leaves (record { name = is; list = group });
      numbers = subst (λ (m : ℕ). AreOpeningLeaves 0 (s.leaves ++ opening_leaf m name list ∷ [])) e (numbers-push 0 s.leaves name list h.numbers);
      apart = apart-push s.leaves l h.apart apart;
      old = h.old;
      old_numbers = h.old_numbers;
      lines = h.lines;
      fresh = subst (λ (x : Place). IsFresh x (record s { leaves = s.leaves ++ l ∷ [] })) (sym place) f;
    }
sound-by _ _ _ (old s ws library name list place opened spelled below is group) h =
    record {
      ranges = h.ranges;
      leaves = h.leaves;
      numbers = h.numbers;
      apart = h.apart;
      old = all-push (IsPlaced s.ranges.bricks) s.stale (stale_leaf library (stale_at library s.stale) name list) h.old (record { name = is; list = group });
      old_numbers = stale-push s.ranges.libraries [] s.stale library name list below h.old_numbers;
      lines = h.lines;
      fresh = opened-all s.place s opened h.fresh;
    }
sound-by _ _ _ (line s ws l opened is) h =
    record {
      ranges = h.ranges;
      leaves = h.leaves;
      numbers = h.numbers;
      apart = h.apart;
      old = h.old;
      old_numbers = h.old_numbers;
      lines = all-push (IsInRanges s.ranges) s.lines l h.lines is.1;
      fresh = opened-all s.place s opened h.fresh;
    }

pub sound-takes : (s : Reader) (text : List ℕ) (next : Reader) → Takes s text next → IsSound s → IsSound next
sound-takes s text next m h = elim m [
  | inl b ↦ subst IsSound (sym b.1) (sound-blank s s.place refl h)
  | inr w ↦ sound-by s _ next w.1 h
]

pub sound-reads : (s : Reader) (texts : List (List ℕ)) (last : Reader) → Reads s texts last → IsSound s → IsSound last
sound-reads s [] last r h = subst IsSound (sym r) h
sound-reads s (text ∷ texts) last r h = sound-reads r.0 texts last r.2 (sound-takes s text r.0 r.1 h)

-- a reader whose opening has ended keeps what an opening keeps
pub sound-opening : (s : Reader) → IsSound s → IsOpened s.place s → IsOpening (script_of s).opening
sound-opening s h o = record {
  ranges = h.ranges;
  leaves = h.leaves;
  numbers = h.numbers;
  apart = h.apart;
  covered = opened-all s.place s o h.fresh;
  old = h.old;
  old_numbers = h.old_numbers;
}

-- no more lines than texts

blank-few : (s : Reader) (p : Place) → length (after_blank p s).lines ≤ length s.lines + 1
blank-few s places.BeforeCluster = omega arith
blank-few s places.Leaves = omega arith
blank-few s places.Old = omega arith
blank-few s places.Body = omega (arith, length-append s.lines (lines.Nothing ∷ []))

by-few : (s : Reader) (ws : List (List ℕ)) (next : Reader) → MovesBy s ws next → length next.lines ≤ length s.lines + 1
by-few _ _ _ (cluster s ws r place spelled is) = omega arith
by-few _ _ _ (leaf s ws name list place spelled is group apart) = omega arith
by-few _ _ _ (old s ws library name list place opened spelled below is group) = omega arith
by-few _ _ _ (line s ws l opened is) = omega (arith, length-append s.lines (l ∷ []))

takes-few : (s : Reader) (text : List ℕ) (next : Reader) → Takes s text next → length next.lines ≤ length s.lines + 1
takes-few s text next m = elim m [
  | inl b ↦ rw b.1 (blank-few s s.place)
  | inr w ↦ by-few s _ next w.1
]

pub reads-few : (s : Reader) (texts : List (List ℕ)) (last : Reader) → Reads s texts last → length last.lines ≤ length s.lines + length texts
reads-few s [] last r = rw r (omega arith)
reads-few s (text ∷ texts) last r = omega (arith, takes-few s text r.0 r.1, reads-few r.0 texts last r.2)
