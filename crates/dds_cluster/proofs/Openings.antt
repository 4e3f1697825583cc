-- Rows of nodes with one node more.
use Rattle.std.proofs.Common.{◌≡◌, ℕ, ◌+◌, ◌-◌, ◌%◌, ◌<◌, List, [], ◌∷◌, ◌++◌, None, zero, suc, length, ap, sym, ◌∙◌, refl, arith, append_assoc}
use Rattle.dds_base.specs.declared.leaf.Leaf.{Leaf}
use Rattle.dds_script.specs.Opening.{OpeningOf}
use Rattle.dds_states.specs.declared.brick_state.BrickState.{BrickState}
use Rattle.dds_states.specs.declared.library_state.LibraryState.{LibraryState}
use Rattle.dds_cluster.specs.World.{new_brick, new_bricks, new_library, new_libraries}
use Rattle.dds_cluster.specs.Trace.{new_callers}
use Rattle.dds_cluster.specs.declared.trace.Caller.{Caller}

-- one item more of a row that is made from a number on
row-more : {X : Type 0} (row : ℕ → ℕ → List X) (one : ℕ → X) (grows : (k n : ℕ) → row (suc k) n ≡ one n ∷ row k (n + 1)) (done : List X) (count n : ℕ) (x : X)
    (whole : List X) → n < count → x ≡ one n → done ++ row (count - n) n ≡ whole → (done ++ x ∷ []) ++ row (count - (n + 1)) (n + 1) ≡ whole
row-more row one grows done count n x whole h is e =
    let k : count - n ≡ suc (count - (n + 1)) = omega (arith, h) in
    append_assoc done (x ∷ []) (row (count - (n + 1)) (n + 1))
    ∙ ap (λ y. done ++ y ∷ row (count - (n + 1)) (n + 1)) is
    ∙ ap (λ r. done ++ r) (sym (grows (count - (n + 1)) n) ∙ ap (λ j. row j n) (sym k))
    ∙ e

pub bricks-more : (leaves : List Leaf) (done : List BrickState) (count n : ℕ) (b : BrickState) (whole : List BrickState) → n < count →
    b ≡ new_brick leaves n → done ++ new_bricks leaves (count - n) n ≡ whole → (done ++ b ∷ []) ++ new_bricks leaves (count - (n + 1)) (n + 1) ≡ whole
bricks-more leaves = row-more (new_bricks leaves) (new_brick leaves) (λ k n. refl)

pub libraries-more : (o : OpeningOf) (done : List LibraryState) (count n : ℕ) (l : LibraryState) (whole : List LibraryState) → n < count →
    l ≡ new_library o n → done ++ new_libraries o (count - n) n ≡ whole → (done ++ l ∷ []) ++ new_libraries o (count - (n + 1)) (n + 1) ≡ whole
libraries-more o = row-more (new_libraries o) (new_library o) (λ k n. refl)

pub callers-more : (libraries : ℕ) (done : List Caller) (count n : ℕ) (c : Caller) (whole : List Caller) → n < count →
    c ≡ record { library = 64 + n % libraries; call = None; least = 0 } → done ++ new_callers libraries (count - n) n ≡ whole →
    (done ++ c ∷ []) ++ new_callers libraries (count - (n + 1)) (n + 1) ≡ whole
callers-more libraries =
    row-more (new_callers libraries) (λ n. record { library = 64 + n % libraries; call = None; least = 0 }) (λ k n. refl)

pub length-bricks : (leaves : List Leaf) (k n : ℕ) → length (new_bricks leaves k n) ≡ k
length-bricks leaves zero n = refl
length-bricks leaves (suc k) n = ap suc (length-bricks leaves k (n + 1))

pub length-libraries : (o : OpeningOf) (k n : ℕ) → length (new_libraries o k n) ≡ k
length-libraries o zero n = refl
length-libraries o (suc k) n = ap suc (length-libraries o k (n + 1))
