use Rattle.std.proofs.Common.{◌≡◌, ℕ, zero, suc, ◌+◌, ◌-◌, ◌<◌, ◌≤◌, Bool, true, false, Some, None, List, [], ◌∷◌, length, refl, ap, ◌∙◌, arith}
use Rattle.std.proofs.lemmas.Bool.Decides.{nat_tests}
use Rattle.std.proofs.lemmas.Option.{slice_get_within}
use Rattle.std.specs.Prelude.{slice_get, slice_set, nat_lt, if◌then◌else◌}
use Rattle.dds_states.specs.declared.brick_state.BrickState.{BrickState}
use Rattle.dds_states.specs.declared.library_state.LibraryState.{LibraryState}
use Rattle.dds_cluster.proofs.Sizes.{IsSized}
use Rattle.dds_cluster.specs.World.{World, brick_at, is_node, library_at}
use Rattle.dds_net.proofs.Places.{high-in, low-in}
use Rattle.dds_net.specs.Net.{Sizes, a_brick, a_library, is_in, node_at, node_in, place_in}

-- Bricks and libraries of a world by their numbers.

pub get-set-same : {X : Type 0} (xs : List X) (i : ℕ) (x : X) → i < length xs → slice_get (slice_set xs i x) i ≡ Some x
get-set-same [] i x h = absurd (omega (arith, h))
get-set-same (y ∷ xs) zero x h = refl
get-set-same (y ∷ xs) (suc i) x h = get-set-same xs i x (omega (arith, h))

pub get-set-other : {X : Type 0} (xs : List X) (i j : ℕ) (x : X) → (i ≡ j → ⊥) → slice_get (slice_set xs i x) j ≡ slice_get xs j
get-set-other [] i j x h = refl
get-set-other (y ∷ xs) zero zero x h = absurd (h refl)
get-set-other (y ∷ xs) zero (suc j) x h = refl
get-set-other (y ∷ xs) (suc i) zero x h = refl
get-set-other (y ∷ xs) (suc i) (suc j) x h = get-set-other xs i j x (λ e. h (ap suc e))

there-is : {X : Type 0} (xs : List X) (i : ℕ) → i < length xs → (x : X) × (slice_get xs i ≡ Some x)
there-is [] i h = absurd (omega (arith, h))
there-is (x ∷ xs) zero h = (x, refl)
there-is (x ∷ xs) (suc i) h = there-is xs i (omega (arith, h))

-- a brick has a number below 64
pub brick-found :
    (w : World) (n : ℕ) (s : BrickState) (low : Bool) →
    (if low then slice_get w.bricks n else None) ≡ Some s → slice_get w.bricks n ≡ Some s
brick-found w n s true h = h
brick-found w n s false h = cc

pub brick-low : (w : World) (n : ℕ) (s : BrickState) (low : Bool) → nat_lt n 64 ≡ low → (if low then slice_get w.bricks n else None) ≡ Some s → n < 64
brick-low w n s true e h = grind (arith, nat_tests, e)
brick-low w n s false e h = cc

pub brick-here : (w : World) (n : ℕ) (s : BrickState) → n < 64 → slice_get w.bricks n ≡ Some s → brick_at w n ≡ Some s
brick-here w n s low e = let t : nat_lt n 64 ≡ true = grind (arith, nat_tests, low) in rw t e

pub no-brick : (w : World) (n : ℕ) → 64 ≤ n → brick_at w n ≡ None
no-brick w n high = let t : nat_lt n 64 ≡ false = grind (arith, nat_tests, high) in rw t refl

pub brick-place : (b n : ℕ) → n < 64 → place_in b n ≡ n
brick-place b n low = let t : nat_lt n 64 ≡ true = grind (arith, nat_tests, low) in rw t refl

-- a library has one from 64 on
pub library-found : (w : World) (n : ℕ) (s : LibraryState) (low : Bool) → (if low then None else slice_get w.libraries (n - 64)) ≡ Some s
    → slice_get w.libraries (n - 64) ≡ Some s
library-found w n s true h = cc
library-found w n s false h = h

pub library-high : (w : World) (n : ℕ) (s : LibraryState) (low : Bool) → nat_lt n 64 ≡ low → (if low then None else slice_get w.libraries (n - 64)) ≡ Some s
    → 64 ≤ n
library-high w n s true e h = cc
library-high w n s false e h = grind (arith, nat_tests, e)

pub library-here : (w : World) (n : ℕ) (s : LibraryState) → 64 ≤ n → slice_get w.libraries (n - 64) ≡ Some s → library_at w n ≡ Some s
library-here w n s high e = let t : nat_lt n 64 ≡ false = grind (arith, nat_tests, high) in rw t e

pub library-place : (b n : ℕ) → 64 ≤ n → place_in b n ≡ b + (n - 64)
library-place b n high = let t : nat_lt n 64 ≡ false = grind (arith, nat_tests, high) in rw t refl

-- a node of the cluster is one of them
pub data Which (w : World) (n : ℕ) : Type 0 where
  brick : (s : BrickState) → brick_at w n ≡ Some s → Which w n
  library : (s : LibraryState) → library_at w n ≡ Some s → Which w n

which-if : (w : World) (n : ℕ) (low : Bool) → nat_lt n 64 ≡ low → (if low then nat_lt n (length w.bricks) else nat_lt (n - 64) (length w.libraries)) ≡ true
    → Which w n
which-if w n true e h =
    let low : n < 64 = grind (arith, nat_tests, e) in
    let inside : n < length w.bricks = grind (arith, nat_tests, h) in
    let x = there-is w.bricks n inside in
    brick x.0 (brick-here w n x.0 low x.1)
which-if w n false e h =
    let high : 64 ≤ n = grind (arith, nat_tests, e) in
    let inside : n - 64 < length w.libraries = grind (arith, nat_tests, h) in
    let x = there-is w.libraries (n - 64) inside in
    library x.0 (library-here w n x.0 high x.1)

pub which : (w : World) (n : ℕ) → is_node w n ≡ true → Which w n
which w n h = which-if w n (nat_lt n 64) refl h

-- the net's node at such a number, which is one of the cluster
pub brick-node : (w : World) (n : ℕ) (s : BrickState) → brick_at w n ≡ Some s → node_at w n ≡ a_brick s
brick-node w n s e = ap (λ o. node_in o (library_at w n)) e

pub library-node : (w : World) (n : ℕ) (s : LibraryState) → library_at w n ≡ Some s → node_at w n ≡ a_library s
library-node w n s e = ap (λ o. node_in o (library_at w n)) (no-brick w n (library-high w n s (nat_lt n 64) refl e)) ∙ ap (node_in None) e

pub brick-in : (z : Sizes) (w : World) (n : ℕ) (s : BrickState) → IsSized z.bricks z.libraries w → brick_at w n ≡ Some s → is_in z n ≡ true
brick-in z w n s g e =
    let i = slice_get_within w.bricks n s (brick-found w n s (nat_lt n 64) e) in
    let k = g.bricks in
    low-in z n (brick-low w n s (nat_lt n 64) refl e) (omega (arith, i, k))

pub library-in : (z : Sizes) (w : World) (n : ℕ) (s : LibraryState) → IsSized z.bricks z.libraries w → library_at w n ≡ Some s → is_in z n ≡ true
library-in z w n s g e =
    let i = slice_get_within w.libraries (n - 64) s (library-found w n s (nat_lt n 64) e) in
    let k = g.libraries in
    high-in z n (library-high w n s (nat_lt n 64) refl e) (omega (arith, i, k))
