-- Replica groups and the pairs of a copy are exact.
use Rattle.std.proofs.Common.{Err, ◌^◌, ℕ, zero, suc, ◌≡◌, ◌<◌, ◌≤◌, ◌==◌, ◌&&◌, Bool, true, false, not, nat_lt, nat_le, List, [], ◌∷◌}
use Rattle.std.proofs.Common.{◌++◌, length, Option, Some, None, Ok, refl, sym, ◌∙◌, ap, subst, arith, append_assoc}
use Rattle.std.specs.Prelude.{IsTrue}
use Rattle.std.specs.List.{flat_map}
use Rattle.std.proofs.lemmas.Bool.Decides.{nat_tests}
use Rattle.std.proofs.lemmas.List.{append-nil}
use Rattle.std.proofs.lemmas.List.Concat.{flat_map-cons}
use Rattle.dds_base.specs.BrickList.{has, are_bricks}
use Rattle.dds_base.specs.Place.{is_after, rise_after, last_key}
use Rattle.dds_base.specs.declared.pair.Pair.{Pair}
use Rattle.dds_base.proofs.Bricks.{bricks-push}
use Rattle.dds_frames.specs.Ranges.{IsGroup, IsPair, ArePairs, AreCopied}
use Rattle.dds_frames.specs.Spelling.{AreBytes, number_bytes, group_bytes, pair_bytes, pairs_bytes}
use Rattle.dds_frames.specs.Reading.{tested_at}
use Rattle.dds_frames.specs.Parts.{bricks_at, group_at, pair_at, pairs_from, pairs_at}
use Rattle.dds_frames.proofs.Loops.{last-push}
use Rattle.dds_frames.proofs.Exact.{Exact, bind_ok, ok_is, then_within, rest-within, tested_exact, ◌&&&◌, made_exact}
use Rattle.dds_frames.proofs.ExactParts.{value_exact, le-is, le-back}

-- ---- bricks

abbrev is_other : List ℕ → ℕ → Bool
is_other bricks b = nat_lt b 64 && not (has bricks b)

other-is : (bricks : List ℕ) (b : ℕ) → IsTrue (is_other bricks b) → (b < 64) × (has bricks b ≡ false)
other-is bricks b h = (grind (arith, nat_tests, h), grind (arith, nat_tests, h))

-- the bricks behind some that were read
record WereRead (bricks bytes all rest : List ℕ) (n : ℕ) : Type 0 where
  pub new : List ℕ
  pub count : length new ≡ n
  pub joined : bricks ++ new ≡ all
  pub whole : bytes ≡ flat_map (number_bytes 1) new ++ rest
  pub group : IsTrue (are_bricks all)
  pub left : AreBytes rest

bricks_sound : (n : ℕ) (bricks bytes all rest : List ℕ) → AreBytes bytes → IsTrue (are_bricks bricks) → bricks_at n bricks bytes ≡ Ok (all, rest) →
    WereRead bricks bytes all rest n
unfolding bricks_at
bricks_sound zero bricks bytes all rest b h e =
    subst (λ (y : List ℕ × List ℕ). WereRead bricks bytes y.0 y.1 zero) (ok_is (bricks, bytes) (all, rest) e) record {
      new = [];
      count = refl;
      joined = append-nil bricks;
      whole = refl;
      group = h;
      left = b;
    }
bricks_sound (suc n) bricks bytes all rest b h e =
    let p = bind_ok (tested_at 1 (is_other bricks) bytes) (λ brick. bricks_at n (bricks ++ brick.0 ∷ []) brick.1) (all, rest) e in
    let u = (tested_exact 1 (is_other bricks)).sound bytes p.0.0 p.0.1 b p.1 in
    let o = other-is bricks p.0.0 u.fits.0 in
    let w = bricks_sound n (bricks ++ p.0.0 ∷ []) p.0.1 all rest u.left (bricks-push bricks p.0.0 h o.0 o.1) p.2 in
    let spelled : flat_map (number_bytes 1) (p.0.0 ∷ w.new) ≡ number_bytes 1 p.0.0
    ++ flat_map (number_bytes 1) w.new = flat_map-cons (number_bytes 1) p.0.0 w.new in
    record {
      new = p.0.0 ∷ w.new;
      count = omega (arith, w.count);
      joined = sym (append_assoc bricks (p.0.0 ∷ []) w.new) ∙ w.joined;
      whole = u.whole ∙ ap (λ (t : List ℕ). number_bytes 1 p.0.0 ++ t) w.whole
          ∙ sym (append_assoc (number_bytes 1 p.0.0) (flat_map (number_bytes 1) w.new) rest) ∙ ap (λ (t : List ℕ). t ++ rest) (sym spelled);
      group = w.group;
      left = w.left;
    }

bricks_within : (n : ℕ) (bricks bytes : List ℕ) (left : ℕ) → AreBytes bytes → bricks_at n bricks bytes ≡ Err left → left ≤ length bytes
unfolding bricks_at
bricks_within zero bricks bytes left b e = absurd cc
bricks_within (suc n) bricks bytes left b e =
    then_within (tested_at 1 (is_other bricks) bytes) (λ brick. bricks_at n (bricks ++ brick.0 ∷ []) brick.1) (length bytes)
    (λ l h. (tested_exact 1 (is_other bricks)).within bytes l b h)
    (λ brick l h k.
    let u = (tested_exact 1 (is_other bricks)).sound bytes brick.0 brick.1 b h in
    let shorter = rest-within (λ x. IsTrue (is_other bricks x) × (x < 256 ^ 1)) (number_bytes 1) bytes brick.0 brick.1 u in
    let w = bricks_within n (bricks ++ brick.0 ∷ []) brick.1 l u.left k in
    omega arith)
    left e

-- a number that does not stand in a list is none of its members
none-of : (xs : List ℕ) (b : ℕ) (ys : List ℕ) (x : ℕ) → has (xs ++ b ∷ ys) x ≡ false → (x == b) ≡ false
none-of [] b ys x h = grind (arith, nat_tests, h)
none-of (z ∷ xs) b ys x h = none-of xs b ys x (grind (arith, nat_tests, h))

-- a brick that stands behind some in a list of bricks
other-in : (xs : List ℕ) (b : ℕ) (ys : List ℕ) → IsTrue (are_bricks (xs ++ b ∷ ys)) → IsTrue (is_other xs b)
other-in [] b ys h = grind (arith, nat_tests, h)
other-in (x ∷ xs) b ys h =
    let i = other-in xs b ys (grind (arith, nat_tests, h)) in
    let n = none-of xs b ys x (grind (arith, nat_tests, h)) in
    grind (arith, nat_tests, i, n)

below-brick : (bricks : List ℕ) (b : ℕ) → IsTrue (is_other bricks b) → b < 256
below-brick bricks b h = let o = other-is bricks b h in omega (arith, o.0)

bricks_again : (new bricks rest : List ℕ) → IsTrue (are_bricks (bricks ++ new)) →
    bricks_at (length new) bricks (flat_map (number_bytes 1) new ++ rest) ≡ Ok (bricks ++ new, rest)
unfolding bricks_at
bricks_again [] bricks rest h = ap (λ (y : List ℕ). Ok (y, rest)) (sym (append-nil bricks))
bricks_again (b ∷ new) bricks rest h =
    let o = other-in bricks b new h in
    let regrouped : flat_map (number_bytes 1) (b ∷ new) ++ rest ≡ number_bytes 1 b ++ (flat_map (number_bytes 1) new ++ rest) =
    ap (λ (t : List ℕ). t ++ rest) (flat_map-cons (number_bytes 1) b new) ∙ append_assoc (number_bytes 1 b) (flat_map (number_bytes 1) new) rest in
    let e = (tested_exact 1 (is_other bricks)).again b (flat_map (number_bytes 1) new ++ rest) (o, below-brick bricks b o) in
    let more : IsTrue (are_bricks ((bricks ++ b ∷ []) ++ new)) = subst (λ (t : List ℕ). IsTrue (are_bricks t)) (sym (append_assoc bricks (b ∷ []) new)) h in
    let i = bricks_again new (bricks ++ b ∷ []) rest more in
    ap (bricks_at (suc (length new)) bricks) regrouped ∙ rw (e, i) (ap (λ (y : List ℕ). Ok (y, rest)) (append_assoc bricks (b ∷ []) new))

group-is : (n : ℕ) (xs : List ℕ) → length xs ≡ n → IsTrue (nat_le 1 n && nat_le n 8) → IsTrue (are_bricks xs) → IsGroup xs
group-is n xs e h k = rw e (grind (arith, nat_tests, h, k))

group-parts : (xs : List ℕ) → IsGroup xs → (1 ≤ length xs) × (length xs ≤ 8) × IsTrue (are_bricks xs)
group-parts xs h = (grind (arith, nat_tests, h), grind (arith, nat_tests, h), grind (arith, nat_tests, h))

count-back : (n : ℕ) → 1 ≤ n → n ≤ 8 → IsTrue (nat_le 1 n && nat_le n 8)
count-back n h k = grind (arith, nat_tests, h, k)

pub group_exact : Exact IsGroup group_bytes group_at
unfolding group_at group_bytes
group_exact = record {
  sound = λ bytes x rest b e.
      let p = bind_ok (tested_at 1 (λ n. nat_le 1 n && nat_le n 8) bytes) (λ n. bricks_at n.0 [] n.1) (x, rest) e in
      let u = (tested_exact 1 (λ n. nat_le 1 n && nat_le n 8)).sound bytes p.0.0 p.0.1 b p.1 in
      let w = bricks_sound p.0.0 [] p.0.1 x rest u.left refl p.2 in
      let count : length x ≡ p.0.0 = ap length (sym w.joined) ∙ w.count in
      let body : p.0.1 ≡ flat_map (number_bytes 1) x ++ rest = w.whole ∙ ap (λ (t : List ℕ). flat_map (number_bytes 1) t ++ rest) w.joined in
      record {
        whole = u.whole ∙ ap (λ (t : List ℕ). number_bytes 1 p.0.0 ++ t) body
            ∙ ap (λ (n : ℕ). number_bytes 1 n ++ (flat_map (number_bytes 1) x ++ rest)) (sym count)
            ∙ sym (append_assoc (number_bytes 1 (length x)) (flat_map (number_bytes 1) x) rest);
        fits = group-is p.0.0 x count u.fits.0 w.group;
        left = w.left;
      };
  again = λ x rest f.
      let g = group-parts x f in
      let e = (tested_exact 1 (λ n. nat_le 1 n && nat_le n 8)).again (length x) (flat_map (number_bytes 1) x ++ rest) (
        count-back (length x) g.0 g.1,
        omega (arith, g.1),
      ) in
      let i = bricks_again x [] rest g.2 in
      ap group_at (append_assoc (number_bytes 1 (length x)) (flat_map (number_bytes 1) x) rest) ∙ rw (e, i) refl;
  within = λ bytes left b e.
      then_within (tested_at 1 (λ n. nat_le 1 n && nat_le n 8) bytes) (λ n. bricks_at n.0 [] n.1) (length bytes)
      (λ l h. (tested_exact 1 (λ n. nat_le 1 n && nat_le n 8)).within bytes l b h)
      (λ n l h k.
      let u = (tested_exact 1 (λ n. nat_le 1 n && nat_le n 8)).sound bytes n.0 n.1 b h in
      let shorter = rest-within (λ x. IsTrue (nat_le 1 x && nat_le x 8) × (x < 256 ^ 1)) (number_bytes 1) bytes n.0 n.1 u in
      let w = bricks_within n.0 [] n.1 l u.left k in
      omega arith)
      left e;
}

-- ---- pairs

pair_exact : (after : Option ℕ) → Exact (λ pair. IsTrue (is_after after pair.key) × IsPair pair) pair_bytes (pair_at after)
unfolding pair_at pair_bytes
pair_exact after =
    made_exact (tested_exact 8 (is_after after) &&& value_exact) (λ f. record { key = f.0; value = f.1 }) (λ (p : Pair). (p.key, p.value)) (λ p. refl)
    (λ a. refl)
    (λ a f. (f.0.0, (f.0.1, f.1))) (λ p f. ((f.0, f.1.0), f.1.1))

-- the pairs behind some that were read
record PairsRead (pairs : List Pair) (bytes : List ℕ) (all : List Pair) (rest : List ℕ) (n : ℕ) : Type 0 where
  pub new : List Pair
  pub count : length new ≡ n
  pub joined : pairs ++ new ≡ all
  pub whole : bytes ≡ flat_map pair_bytes new ++ rest
  pub rise : IsTrue (rise_after (last_key None pairs) new)
  pub each : ArePairs new
  pub left : AreBytes rest

and-both : (a b : Bool) → IsTrue a → IsTrue b → IsTrue (a && b)
and-both true b h k = k
and-both false b h k = absurd cc

and-parts : (a b : Bool) → IsTrue (a && b) → IsTrue a × IsTrue b
and-parts true b h = (refl, h)
and-parts false b h = absurd cc

pairs_sound : (n : ℕ) (pairs : List Pair) (bytes : List ℕ) (all : List Pair) (rest : List ℕ) → AreBytes bytes → pairs_from n pairs bytes ≡ Ok (all, rest) →
    PairsRead pairs bytes all rest n
unfolding pairs_from
pairs_sound zero pairs bytes all rest b e =
    subst (λ (y : List Pair × List ℕ). PairsRead pairs bytes y.0 y.1 zero) (ok_is (pairs, bytes) (all, rest) e) record {
      new = [];
      count = refl;
      joined = append-nil pairs;
      whole = refl;
      rise = refl;
      each = tt;
      left = b;
    }
pairs_sound (suc n) pairs bytes all rest b e =
    let p = bind_ok (pair_at (last_key None pairs) bytes) (λ pair. pairs_from n (pairs ++ pair.0 ∷ []) pair.1) (all, rest) e in
    let u = (pair_exact (last_key None pairs)).sound bytes p.0.0 p.0.1 b p.1 in
    let w = pairs_sound n (pairs ++ p.0.0 ∷ []) p.0.1 all rest u.left p.2 in
    let rise : IsTrue (rise_after (Some p.0.0.key) w.new) = subst (λ (k : Option ℕ). IsTrue (rise_after k w.new)) (last-push None pairs p.0.0) w.rise in
    let spelled : flat_map pair_bytes (p.0.0 ∷ w.new) ≡ pair_bytes p.0.0 ++ flat_map pair_bytes w.new = flat_map-cons pair_bytes p.0.0 w.new in
    record {
      new = p.0.0 ∷ w.new;
      count = omega (arith, w.count);
      joined = sym (append_assoc pairs (p.0.0 ∷ []) w.new) ∙ w.joined;
      whole = u.whole ∙ ap (λ (t : List ℕ). pair_bytes p.0.0 ++ t) w.whole ∙ sym (append_assoc (pair_bytes p.0.0) (flat_map pair_bytes w.new) rest)
          ∙ ap (λ (t : List ℕ). t ++ rest) (sym spelled);
      rise = and-both (is_after (last_key None pairs) p.0.0.key) (rise_after (Some p.0.0.key) w.new) u.fits.0 rise;
      each = (u.fits.1, w.each);
      left = w.left;
    }

pairs_again : (new pairs : List Pair) (rest : List ℕ) → IsTrue (rise_after (last_key None pairs) new) → ArePairs new →
    pairs_from (length new) pairs (flat_map pair_bytes new ++ rest) ≡ Ok (pairs ++ new, rest)
unfolding pairs_from
pairs_again [] pairs rest h f = ap (λ (y : List Pair). Ok (y, rest)) (sym (append-nil pairs))
pairs_again (p ∷ new) pairs rest h f =
    let o = and-parts (is_after (last_key None pairs) p.key) (rise_after (Some p.key) new) h in
    let regrouped : flat_map pair_bytes (p ∷ new) ++ rest ≡ pair_bytes p
    ++ (flat_map pair_bytes new ++ rest) = ap (λ (t : List ℕ). t ++ rest) (flat_map-cons pair_bytes p new)
    ∙ append_assoc (pair_bytes p) (flat_map pair_bytes new) rest in
    let e = (pair_exact (last_key None pairs)).again p (flat_map pair_bytes new ++ rest) (o.0, f.0) in
    let more : IsTrue (rise_after (last_key None (pairs ++ p ∷ [])) new) =
    subst (λ (k : Option ℕ). IsTrue (rise_after k new)) (sym (last-push None pairs p)) o.1 in
    let i = pairs_again new (pairs ++ p ∷ []) rest more f.1 in
    ap (pairs_from (suc (length new)) pairs) regrouped ∙ rw (e, i) (ap (λ (y : List Pair). Ok (y, rest)) (append_assoc pairs (p ∷ []) new))

pairs_within : (n : ℕ) (pairs : List Pair) (bytes : List ℕ) (left : ℕ) → AreBytes bytes → pairs_from n pairs bytes ≡ Err left → left ≤ length bytes
unfolding pairs_from
pairs_within zero pairs bytes left b e = absurd cc
pairs_within (suc n) pairs bytes left b e =
    then_within (pair_at (last_key None pairs) bytes) (λ pair. pairs_from n (pairs ++ pair.0 ∷ []) pair.1) (length bytes)
    (λ l h. (pair_exact (last_key None pairs)).within bytes l b h)
    (λ pair l h k.
    let u = (pair_exact (last_key None pairs)).sound bytes pair.0 pair.1 b h in
    let shorter = rest-within (λ (p : Pair). IsTrue (is_after (last_key None pairs) p.key) × IsPair p) pair_bytes bytes pair.0 pair.1 u in
    let w = pairs_within n (pairs ++ pair.0 ∷ []) pair.1 l u.left k in
    omega arith)
    left e

pub pairs_exact : Exact AreCopied pairs_bytes pairs_at
unfolding pairs_at pairs_bytes
pairs_exact = record {
  sound = λ bytes x rest b e.
      let p = bind_ok (tested_at 2 (λ n. nat_le n 32) bytes) (λ n. pairs_from n.0 [] n.1) (x, rest) e in
      let u = (tested_exact 2 (λ n. nat_le n 32)).sound bytes p.0.0 p.0.1 b p.1 in
      let w = pairs_sound p.0.0 [] p.0.1 x rest u.left p.2 in
      let count : length x ≡ p.0.0 = ap length (sym w.joined) ∙ w.count in
      let few = le-is p.0.0 32 u.fits.0 in
      let body : p.0.1 ≡ flat_map pair_bytes x ++ rest = w.whole ∙ ap (λ (t : List Pair). flat_map pair_bytes t ++ rest) w.joined in
      record {
        whole = u.whole ∙ ap (λ (t : List ℕ). number_bytes 2 p.0.0 ++ t) body
            ∙ ap (λ (n : ℕ). number_bytes 2 n ++ (flat_map pair_bytes x ++ rest)) (sym count)
            ∙ sym (append_assoc (number_bytes 2 (length x)) (flat_map pair_bytes x) rest);
        fits = record {
          few = omega (arith, count, few);
          rise = subst (λ (t : List Pair). IsTrue (rise_after None t)) w.joined w.rise;
          each = subst (λ (t : List Pair). ArePairs t) w.joined w.each;
        };
        left = w.left;
      };
  again = λ x rest f.
      let e = (tested_exact 2 (λ n. nat_le n 32)).again (length x) (flat_map pair_bytes x ++ rest) (le-back (length x) 32 f.few, omega (arith, f.few)) in
      let i = pairs_again x [] rest f.rise f.each in
      ap pairs_at (append_assoc (number_bytes 2 (length x)) (flat_map pair_bytes x) rest) ∙ rw (e, i) refl;
  within = λ bytes left b e.
      then_within (tested_at 2 (λ n. nat_le n 32) bytes) (λ n. pairs_from n.0 [] n.1) (length bytes)
      (λ l h. (tested_exact 2 (λ n. nat_le n 32)).within bytes l b h)
      (λ n l h k.
      let u = (tested_exact 2 (λ n. nat_le n 32)).sound bytes n.0 n.1 b h in
      let shorter = rest-within (λ x. IsTrue (nat_le x 32) × (x < 256 ^ 2)) (number_bytes 2) bytes n.0 n.1 u in
      let w = pairs_within n.0 [] n.1 l u.left k in
      omega arith)
      left e;
}
