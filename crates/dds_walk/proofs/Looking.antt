-- Looking for a step among those of a journal.
use Rattle.std.proofs.Common.{◌≡◌, ℕ, ◌+◌, ◌<◌, Bool, true, false, List, [], ◌∷◌, drop, length, zero, suc, refl, ◌∙◌, sym, ap, arith}
use Rattle.std.specs.Prelude.{◌||◌, slice_get}
use Rattle.std.specs.List.{list_any}
use Rattle.std.proofs.lemmas.Grind.{common_steps}
use Rattle.dds_base.specs.declared.number.CallNo.{CallNo}
use Rattle.dds_walk.specs.Walk.{makes_call, makes_call_at}
use Rattle.dds_cluster.specs.declared.step.Step.{Step}

-- the step at a place, and those behind it
pub any-at : (caller : ℕ) (call : CallNo) (xs : List Step) (i : ℕ) → i < length xs →
    list_any (makes_call caller call) (drop i xs) ≡ (makes_call_at caller call (slice_get xs i) || list_any (makes_call caller call) (drop (i + 1) xs))
any-at caller call [] i h = absurd (omega (arith, h))
any-at caller call (x ∷ xs) zero h = refl
any-at caller call (x ∷ xs) (suc i) h =
    let s : suc i + 1 ≡ suc (i + 1) = omega arith in
    rw s (any-at caller call xs i (omega (arith, h)))

pub any-here : (caller : ℕ) (call : CallNo) (xs : List Step) (i : ℕ) → i < length xs → makes_call_at caller call (slice_get xs i) ≡ true →
    true ≡ list_any (makes_call caller call) (drop i xs)
any-here caller call xs i h e =
    sym (any-at caller call xs i h ∙ ap (λ b. b || list_any (makes_call caller call) (drop (i + 1) xs)) e)

pub any-next : (caller : ℕ) (call : CallNo) (xs : List Step) (i : ℕ) → i < length xs → makes_call_at caller call (slice_get xs i) ≡ false →
    list_any (makes_call caller call) (drop (i + 1) xs) ≡ list_any (makes_call caller call) (drop i xs)
any-next caller call xs i h e =
    sym (any-at caller call xs i h ∙ ap (λ b. b || list_any (makes_call caller call) (drop (i + 1) xs)) e)
