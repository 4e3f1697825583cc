-- Laws of pairs in order of place.
use Rattle.std.proofs.Common.{ℕ, ◌≡◌, refl, true, List, [], ◌∷◌, ◌++◌, Option, Some, IsTrue}
use Rattle.std.proofs.lemmas.Bool.{and_from, and_parts}
use Rattle.dds_base.specs.declared.pair.Pair.{Pair}
use Rattle.dds_base.specs.Place.{is_after, last_key, rise_after}

-- pairs whose places rise, and one behind the last of them
pub rise-push : (after : Option ℕ) (ps : List Pair) (p : Pair) → IsTrue (rise_after after ps) → IsTrue (is_after (last_key after ps) p.key) →
    IsTrue (rise_after after (ps ++ p ∷ []))
rise-push after [] p rises next = and_from (is_after after p.key) true next refl
rise-push after (q ∷ ps) p rises next =
    let parts = and_parts (is_after after q.key) (rise_after (Some q.key) ps) rises in
    and_from (is_after after q.key) (rise_after (Some q.key) (ps ++ p ∷ [])) parts.0 (rise-push (Some q.key) ps p parts.1 next)

-- the last key of pairs, and one behind them
pub last-push : (after : Option ℕ) (ps : List Pair) (p : Pair) → last_key after (ps ++ p ∷ []) ≡ Some p.key
last-push after [] p = refl
last-push after (q ∷ ps) p = last-push (Some q.key) ps p
