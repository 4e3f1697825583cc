use Rattle.std.proofs.Common.{◌≡◌, ℕ, ◌<◌, ◌≤◌, ◌||◌, true, false, List, [], ◌∷◌, refl, sym, ap, ◌∙◌, arith}
use Rattle.std.proofs.lemmas.Bool.{ne_eqb}
use Rattle.std.specs.List.{AllByRecursion}
use Rattle.dds_base.specs.BrickList.{has}
use Rattle.dds_net.proofs.Pairwise.{Pairwise}
use Rattle.dds_net.proofs.Places.{low-in}
use Rattle.dds_net.specs.Net.{Sizes, is_in}
use Rattle.dds_talk.specs.Seen.{Alone, IsGroup}

-- Bricks of the cluster, no two of which are the same, are a group.

among-none : (ns : List ℕ) (b : ℕ) → AllByRecursion (λ n. b ≡ n → ⊥) ns → has ns b ≡ false
among-none [] b h = refl
among-none (n ∷ ns) b h = ap (λ x. x || has ns b) (ne_eqb n b (λ e. h.0 (sym e))) ∙ among-none ns b h.1

all-alone : (ns : List ℕ) → Pairwise (λ m n. m ≡ n → ⊥) ns → Alone ns
all-alone [] h = tt
all-alone (n ∷ ns) h = (among-none ns n h.0, all-alone ns h.1)

all-inside : (z : Sizes) (ns : List ℕ) → z.bricks ≤ 64 → AllByRecursion (λ k. k < z.bricks) ns → AllByRecursion (λ n. is_in z n ≡ true) ns
all-inside z [] few h = tt
all-inside z (n ∷ ns) few h = let low = h.0 in (low-in z n (omega (arith, low, few)) low, all-inside z ns few h.1)

pub group-of : (z : Sizes) (ns : List ℕ) → z.bricks ≤ 64 → AllByRecursion (λ k. k < z.bricks) ns → Pairwise (λ m n. m ≡ n → ⊥) ns → IsGroup z ns
group-of z ns few h apart = record { alone = all-alone ns apart; inside = all-inside z ns few h }
