-- Lists of bricks and of pairs are read one by one, as the definitions say.
use Rattle.std.proofs.Common.{◌≡◌, ℕ, suc, ◌+◌, ◌-◌, ◌<◌, ◌≤◌, ◌&&◌, List, [], ◌∷◌, ◌++◌, nat_lt, not, Option, Some, None, Ok, Err, refl, sym, ◌∙◌, arith}
use Rattle.dds_base.specs.BrickList.{has}
use Rattle.dds_base.specs.Place.{last_key}
use Rattle.dds_base.specs.declared.pair.Pair.{Pair}
use Rattle.dds_frames.specs.declared.fault.FieldFault.{FieldFault}
use Rattle.dds_frames.specs.declared.fault.FieldFault.TheVariants.{Refused, Memory}
use Rattle.dds_frames.specs.Reading.{Reading, FailsAs, tested_at}
use Rattle.dds_frames.specs.Parts.{bricks_at, pair_at, pairs_from}

-- one brick more
pub bricks-more : (n i : ℕ) (bricks bytes rest : List ℕ) (brick : ℕ) (total : Reading (List ℕ)) → i < n →
    tested_at 1 (λ b. nat_lt b 64 && not (has bricks b)) bytes ≡ Ok (brick, rest) →
    bricks_at (n - i) bricks bytes ≡ total → bricks_at (n - (i + 1)) (bricks ++ brick ∷ []) rest ≡ total
unfolding bricks_at
bricks-more n i bricks bytes rest brick total below read e =
    let k : n - i ≡ suc (n - (i + 1)) = omega arith in
    let one : bricks_at (n - i) bricks bytes ≡ bricks_at (n - (i + 1)) (bricks ++ brick ∷ []) rest = rw (k, read) refl in
    sym one ∙ e

-- a brick that is refused
pub bricks-fail : (fault : FieldFault) (n i : ℕ) (bricks bytes : List ℕ) (total : Reading (List ℕ)) → i < n →
    FailsAs fault (tested_at 1 (λ b. nat_lt b 64 && not (has bricks b)) bytes) →
    bricks_at (n - i) bricks bytes ≡ total → FailsAs fault total
unfolding bricks_at
bricks-fail Memory n i bricks bytes total below read e = tt
bricks-fail (Refused left) n i bricks bytes total below read e =
    let k : n - i ≡ suc (n - (i + 1)) = omega arith in
    let one : bricks_at (n - i) bricks bytes ≡ Err left = rw (k, read) refl in
    sym e ∙ one

-- all bricks
pub bricks-done : (n i : ℕ) (bricks bytes : List ℕ) (total : Reading (List ℕ)) → n ≤ i → bricks_at (n - i) bricks bytes ≡ total → total ≡ Ok (bricks, bytes)
unfolding bricks_at
bricks-done n i bricks bytes total past e =
    let k : n - i ≡ 0 = omega arith in
    let one : bricks_at (n - i) bricks bytes ≡ Ok (bricks, bytes) = rw k refl in
    sym e ∙ one

-- the last key of some pairs and one more
pub last-push : (after : Option ℕ) (pairs : List Pair) (pair : Pair) → last_key after (pairs ++ pair ∷ []) ≡ Some pair.key
last-push after [] pair = refl
last-push after (p ∷ pairs) pair = last-push (Some p.key) pairs pair

-- one pair more
pub pairs-more : (n i : ℕ) (pairs : List Pair) (bytes rest : List ℕ) (pair : Pair) (total : Reading (List Pair)) → i < n →
    pair_at (last_key None pairs) bytes ≡ Ok (pair, rest) →
    pairs_from (n - i) pairs bytes ≡ total → pairs_from (n - (i + 1)) (pairs ++ pair ∷ []) rest ≡ total
unfolding pairs_from
pairs-more n i pairs bytes rest pair total below read e =
    let k : n - i ≡ suc (n - (i + 1)) = omega arith in
    let one : pairs_from (n - i) pairs bytes ≡ pairs_from (n - (i + 1)) (pairs ++ pair ∷ []) rest = rw (k, read) refl in
    sym one ∙ e

-- a pair that is refused
pub pairs-fail : (fault : FieldFault) (n i : ℕ) (pairs : List Pair) (bytes : List ℕ) (total : Reading (List Pair)) → i < n →
    FailsAs fault (pair_at (last_key None pairs) bytes) →
    pairs_from (n - i) pairs bytes ≡ total → FailsAs fault total
unfolding pairs_from
pairs-fail Memory n i pairs bytes total below read e = tt
pairs-fail (Refused left) n i pairs bytes total below read e =
    let k : n - i ≡ suc (n - (i + 1)) = omega arith in
    let one : pairs_from (n - i) pairs bytes ≡ Err left = rw (k, read) refl in
    sym e ∙ one

-- all pairs
pub pairs-done : (n i : ℕ) (pairs : List Pair) (bytes : List ℕ) (total : Reading (List Pair)) → n ≤ i → pairs_from (n - i) pairs bytes ≡ total →
    total ≡ Ok (pairs, bytes)
unfolding pairs_from
pairs-done n i pairs bytes total past e =
    let k : n - i ≡ 0 = omega arith in
    let one : pairs_from (n - i) pairs bytes ≡ Ok (pairs, bytes) = rw k refl in
    sym e ∙ one
