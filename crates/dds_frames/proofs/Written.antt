-- Pairs are written one by one.
use Rattle.std.proofs.Common.{ℕ, ◌≡◌, ◌+◌, ◌<◌, List, [], ◌∷◌, ◌++◌, length, get_or, take, sym, ◌∙◌, ap, subst, append_assoc}
use Rattle.std.specs.List.{flat_map}
use Rattle.std.proofs.lemmas.List.{append-nil, take_more}
use Rattle.std.proofs.lemmas.Grind.{flat_map-append}
use Rattle.dds_base.specs.declared.pair.Pair.{Pair}
use Rattle.dds_frames.specs.Ranges.{IsPair, ArePairs}
use Rattle.dds_frames.specs.Spelling.{pair_bytes}

ArePairs-push : (pairs : List Pair) (pair : Pair) → ArePairs pairs → IsPair pair → ArePairs (pairs ++ pair ∷ [])
ArePairs-push [] pair h k = (k, tt)
ArePairs-push (p ∷ pairs) pair h k = (h.0, ArePairs-push pairs pair h.1 k)

-- one pair more is within its ranges
pub each-range : (pairs : List Pair) (i : ℕ) (pair : Pair) → ArePairs (take i pairs) → IsPair pair → i < length pairs → pair ≡ get_or pairs i pair →
    ArePairs (take (i + 1) pairs)
each-range pairs i pair h k below e =
    let more : take (i + 1) pairs ≡ take i pairs ++ pair ∷ [] = take_more pairs i pair below ∙ ap (λ (p : Pair). take i pairs ++ p ∷ []) (sym e) in
    subst (λ (ps : List Pair). ArePairs ps) (sym more) (ArePairs-push (take i pairs) pair h k)

-- one pair more was written
pub each-more : (start was now : List ℕ) (pairs : List Pair) (i : ℕ) (pair : Pair) → was ≡ start ++ flat_map pair_bytes (take i pairs) →
    now ≡ was ++ pair_bytes pair → i < length pairs → pair ≡ get_or pairs i pair →
    now ≡ start ++ flat_map pair_bytes (take (i + 1) pairs)
each-more start was now pairs i pair w n below e =
    let more : flat_map pair_bytes (take (i + 1) pairs) ≡ flat_map pair_bytes (take i pairs) ++ pair_bytes pair =
    ap (flat_map pair_bytes) (take_more pairs i pair below ∙ ap (λ (p : Pair). take i pairs ++ p ∷ []) (sym e))
    ∙ flat_map-append pair_bytes (take i pairs) (pair ∷ [])
    ∙ ap (λ (b : List ℕ). flat_map pair_bytes (take i pairs) ++ b) (append-nil (pair_bytes pair)) in
    n ∙ ap (λ (b : List ℕ). b ++ pair_bytes pair) w ∙ append_assoc start (flat_map pair_bytes (take i pairs)) (pair_bytes pair)
    ∙ ap (λ (b : List ℕ). start ++ b) (sym more)
