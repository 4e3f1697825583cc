-- Laws of copied pairs.
use Rattle.std.proofs.Common.{◌≡◌, ◌<◌, ◌≤◌, List, [], ◌∷◌, ◌++◌, None, length, IsTrue, arith, length-append}
use Rattle.dds_base.specs.declared.pair.Pair.{Pair}
use Rattle.dds_base.specs.Place.{is_after, last_key, rise_after}
use Rattle.dds_base.proofs.Places.{rise-push}

-- a pair behind at most 31 others, with a place after theirs
pub copied-push : (old new : List Pair) (p : Pair) → new ≡ old ++ p ∷ [] → length old < 32 → IsTrue (rise_after None old) →
    IsTrue (is_after (last_key None old) p.key) →
    (length new ≤ 32) × IsTrue (rise_after None new)
copied-push old new p is room rises next =
    let long = length-append old (p ∷ []) in
    let short : length (old ++ p ∷ []) ≤ 32 = omega (arith, room, long) in
    rw is (short, rise-push None old p rises next)
