-- A field is exact where what is read is what the bytes spell, and what is spelled is read. How exact fields are put
-- together.
use Rattle.std.proofs.Common.{ℕ, ◌≡◌, ◌+◌, ◌^◌, ◌<◌, ◌≤◌, ◌==◌, ◌⊎◌, Bool, true, false, cond, nat_lt, List, [], ◌∷◌, ◌++◌, length, drop}
use Rattle.std.proofs.Common.{Result, Ok, Err, refl, sym, ◌∙◌, ap, subst, inl, inr, arith, append_assoc, length-append}
use Rattle.std.specs.Prelude.{IsTrue}
use Rattle.std.specs.List.{AllByRecursion}
use Rattle.std.proofs.lemmas.Bool.{eqb-true, ltb-false, le-ltb}
use Rattle.std.proofs.lemmas.List.{take-append-drop, get_or-drop, drop_at, append-nil}
use Rattle.byteorder.specs.Endian.{big_number}
use Rattle.dds_frames.specs.Spelling.{AreBytes, number_bytes}
use Rattle.dds_frames.specs.Reading.{Reading, Kinds, ◌>>=◌, number_at, tested_at, nothing_at, both_at, made, chosen, kind_at}
use Rattle.dds_frames.proofs.Numbers.{length-number, number-below, number-back, number-again}

-- the value and the rest that were read: the bytes are the value's and then the rest
pub record Was {A : Type 0} (Fits : A → Type 0) (spelled : A → List ℕ) (bytes : List ℕ) (x : A) (rest : List ℕ) : Type 0 where
  pub whole : bytes ≡ spelled x ++ rest
  pub fits : Fits x
  pub left : AreBytes rest

pub record Exact {A : Type 0} (Fits : A → Type 0) (spelled : A → List ℕ) (read : List ℕ → Reading A) : Type 0 where
  pub sound : (bytes : List ℕ) (x : A) (rest : List ℕ) → AreBytes bytes → read bytes ≡ Ok (x, rest) → Was Fits spelled bytes x rest
  pub again : (x : A) (rest : List ℕ) → Fits x → read (spelled x ++ rest) ≡ Ok (x, rest)
  pub within : (bytes : List ℕ) (left : ℕ) → AreBytes bytes → read bytes ≡ Err left → left ≤ length bytes

-- a reader of what stands behind some bytes
pub record Behind {A : Type 0} (Fits : A → Type 0) (spelled : A → List ℕ) (front : List ℕ) (read : List ℕ → Reading A) : Type 0 where
  pub sound : (bytes : List ℕ) (x : A) (rest : List ℕ) → AreBytes bytes → read bytes ≡ Ok (x, rest) → Was Fits spelled (front ++ bytes) x rest
  pub within : (bytes : List ℕ) (left : ℕ) → AreBytes bytes → read bytes ≡ Err left → left ≤ length bytes

-- the value of a step that did not fail
pub bind_ok : {A B : Type 0} (r : Result A ℕ) (f : A → Result B ℕ) (y : B) → (r >>= f) ≡ Ok y → (x : A) × (r ≡ Ok x) × (f x ≡ Ok y)
bind_ok (Ok x) f y e = (x, refl, e)
bind_ok (Err d) f y e = absurd cc

-- a test that did not fail
pub guard_ok : {A : Type 0} (b : Bool) (left : ℕ) (x y : A) → cond b (Err left) (Ok x) ≡ Ok y → (b ≡ false) × (x ≡ y)
guard_ok true left x y e = absurd cc
guard_ok false left x y e = (refl, cc)

pub pass_ok : {A : Type 0} (b : Bool) (left : ℕ) (x y : A) → cond b (Ok x) (Err left) ≡ Ok y → (b ≡ true) × (x ≡ y)
pass_ok true left x y e = (refl, cc)
pass_ok false left x y e = absurd cc

-- a step that failed left no more than these bytes
pub then_within : {A B : Type 0} (r : Result A ℕ) (f : A → Result B ℕ) (n : ℕ) → ((left : ℕ) → r ≡ Err left → left ≤ n) →
    ((x : A) (left : ℕ) → r ≡ Ok x → f x ≡ Err left → left ≤ n) → (left : ℕ) → (r >>= f) ≡ Err left → left ≤ n
then_within (Ok x) f n first second left e = second x left refl e
then_within (Err d) f n first second left e = let same : d ≡ left = cc in subst (λ (m : ℕ). m ≤ n) same (first d refl)

pub guard_err : {A : Type 0} (b : Bool) (d : ℕ) (x : A) (left : ℕ) → cond b (Err d) (Ok x) ≡ Err left → d ≡ left
guard_err true d x left e = cc
guard_err false d x left e = absurd cc

pub pass_err : {A : Type 0} (b : Bool) (d : ℕ) (x : A) (left : ℕ) → cond b (Ok x) (Err d) ≡ Err left → d ≡ left
pass_err true d x left e = absurd cc
pass_err false d x left e = cc

-- what is left is no more than there was
pub rest-within : {A : Type 0} (fits : A → Type 0) (spelled : A → List ℕ) (bytes : List ℕ) (x : A) (rest : List ℕ) → Was fits spelled bytes x rest →
    length rest ≤ length bytes
rest-within fits spelled bytes x rest w = omega (arith, ap length w.whole, length-append (spelled x) rest)

if_ok : {A : Type 0} (b : Bool) (x y z : A) → cond b x y ≡ z → ((b ≡ true) × (x ≡ z)) ⊎ ((b ≡ false) × (y ≡ z))
if_ok true x y z e = inl (refl, e)
if_ok false x y z e = inr (refl, e)

abbrev done : {A : Type 0} → A → Result A ℕ
done x = Ok x

pub ok_is : {A : Type 0} (x y : A) → done x ≡ done y → x ≡ y
ok_is x y e = cc

pub bytes-drop : (n : ℕ) (bytes : List ℕ) → AreBytes bytes → AreBytes (drop n bytes)
bytes-drop n bytes b k = rw get_or-drop (b (n + k))

-- ---- numbers

pub number_exact : (n : ℕ) → Exact (λ x. x < 256 ^ n) (number_bytes n) (number_at n)
unfolding number_at
number_exact n = record {
  sound = λ bytes x rest b e.
      let g = guard_ok (nat_lt (length bytes) n) (length bytes) (big_number n bytes, drop n bytes) (x, rest) e in
      let long : n ≤ length bytes = ltb-false _ _ g.0 in
      subst (λ (y : ℕ × List ℕ). Was (λ x. x < 256 ^ n) (number_bytes n) bytes y.0 y.1) g.1 record {
        whole = sym (ap (λ (t : List ℕ). t ++ drop n bytes) (number-again n bytes long b) ∙ take-append-drop n bytes);
        fits = number-below n bytes b;
        left = bytes-drop n bytes b;
      };
  again = λ x rest lt.
      let len = length-number n x in
      let long : nat_lt (length (number_bytes n x ++ rest)) n ≡ false = le-ltb _ _ (omega (arith, length-append (number_bytes n x) rest)) in
      rw (long, number-back n x rest lt, drop_at (number_bytes n x) rest n len) refl;
  within = λ bytes left b e. let same : length bytes ≡ left = guard_err (nat_lt (length bytes) n) (length bytes) (big_number n bytes, drop n bytes) left e in
      omega arith;
}

pub tested_exact : (n : ℕ) (accepts : ℕ → Bool) → Exact (λ x. IsTrue (accepts x) × (x < 256 ^ n)) (number_bytes n) (tested_at n accepts)
unfolding tested_at
tested_exact n accepts = record {
  sound = λ bytes x rest b e.
      let p = bind_ok (number_at n bytes) (λ y. cond (accepts y.0) (Ok y) (Err (length bytes))) (x, rest) e in
      let g = pass_ok (accepts p.0.0) (length bytes) p.0 (x, rest) p.2 in
      let w = (number_exact n).sound bytes p.0.0 p.0.1 b p.1 in
      subst (λ (y : ℕ × List ℕ). Was (λ x. IsTrue (accepts x) × (x < 256 ^ n)) (number_bytes n) bytes y.0 y.1) g.1 record {
        whole = w.whole;
        fits = (g.0, w.fits);
        left = w.left;
      };
  again = λ x rest f.
      let e = (number_exact n).again x rest f.1 in
      let g : accepts x ≡ true = f.0 in
      rw (e, g) refl;
  within = λ bytes left b e.
      then_within (number_at n bytes) (λ y. cond (accepts y.0) (Ok y) (Err (length bytes))) (length bytes) (λ l h. (number_exact n).within bytes l b h)
      (λ y l h k. let same : length bytes ≡ l = pass_err (accepts y.0) (length bytes) y l k in omega arith) left e;
}

-- ---- fields together

pub nothing_exact : Exact (λ _. Unit {0}) (λ _. []) nothing_at
nothing_exact = record {
  sound = λ bytes x rest b e. subst (λ (y : Unit {0} × List ℕ). Was (λ _. Unit {0}) (λ _. []) bytes y.0 y.1) (ok_is (tt, bytes) (x, rest) e)
      record { whole = refl; fits = tt; left = b };
  again = λ x rest f. refl;
  within = λ bytes left b e. absurd cc;
}

pub both_exact : {A B : Type 0} {fa : A → Type 0} {sa : A → List ℕ} {ra : List ℕ → Reading A} {fb : A → B → Type 0} {sb : A → B → List ℕ} {rb : A → List ℕ →
    Reading B} →
    Exact fa sa ra → ((a : A) → Exact (fb a) (sb a) (rb a)) → Exact (λ (p : A × B). fa p.0 × fb p.0 p.1) (λ (p : A × B). sa p.0 ++ sb p.0 p.1) (both_at ra rb)
both_exact {A} {B} {fa} {sa} {ra} {fb} {sb} {rb} first second = record {
  sound = λ bytes x rest b e.
      let p = bind_ok (ra bytes) (λ a. rb a.0 a.1 >>= λ c. Ok ((a.0, c.0), c.1)) (x, rest) e in
      let q = bind_ok (rb p.0.0 p.0.1) (λ c. Ok ((p.0.0, c.0), c.1)) (x, rest) p.2 in
      let u = first.sound bytes p.0.0 p.0.1 b p.1 in
      let v = (second p.0.0).sound p.0.1 q.0.0 q.0.1 u.left q.1 in
      subst (λ (y : (A × B) × List ℕ). Was (λ (p : A × B). fa p.0 × fb p.0 p.1) (λ (p : A × B). sa p.0 ++ sb p.0 p.1) bytes y.0 y.1)
      (ok_is ((p.0.0, q.0.0), q.0.1) (x, rest) q.2) record {
        whole = u.whole ∙ ap (λ (t : List ℕ). sa p.0.0 ++ t) v.whole ∙ sym (append_assoc (sa p.0.0) (sb p.0.0 q.0.0) q.0.1);
        fits = (u.fits, v.fits);
        left = v.left;
      };
  again = λ x rest f.
      let c = first.again x.0 (sb x.0 x.1 ++ rest) f.0 in
      let d = (second x.0).again x.1 rest f.1 in
      ap (both_at ra rb) (append_assoc (sa x.0) (sb x.0 x.1) rest) ∙ rw (c, d) refl;
  within = λ bytes left b e.
      then_within (ra bytes) (λ a. rb a.0 a.1 >>= λ c. Ok ((a.0, c.0), c.1)) (length bytes) (λ l h. first.within bytes l b h)
      (λ a l h k.
      let u = first.sound bytes a.0 a.1 b h in
      let shorter = rest-within fa sa bytes a.0 a.1 u in
      then_within (rb a.0 a.1) (λ c. Ok ((a.0, c.0), c.1)) (length bytes) (λ m g. let w = (second a.0).within a.1 m u.left g in
      omega arith) (λ c m g j. absurd cc) l k)
      left e;
}

infixr 6 ◌&&&◌
pub ◌&&&◌ : {A B : Type 0} {fa : A → Type 0} {sa : A → List ℕ} {ra : List ℕ → Reading A} {fb : B → Type 0} {sb : B → List ℕ} {rb : List ℕ → Reading B} →
    Exact fa sa ra → Exact fb sb rb → Exact (λ (p : A × B). fa p.0 × fb p.1) (λ (p : A × B). sa p.0 ++ sb p.1) (both_at ra (λ _. rb))
first &&& second = both_exact first (λ _. second)

-- ---- what is made of fields

pub made_again : {A B : Type 0} {fa : A → Type 0} {sa : A → List ℕ} {ra : List ℕ → Reading A} → Exact fa sa ra → (to : A → B) (a : A) (rest : List ℕ) → fa a →
    made to ra (sa a ++ rest) ≡ Ok (to a, rest)
made_again {A} {B} {fa} {sa} {ra} exact to a rest f = let e = exact.again a rest f in rw e refl

pub made_behind : {A B : Type 0} {fa : A → Type 0} {sa : A → List ℕ} {ra : List ℕ → Reading A} {fb : B → Type 0} {sb : B → List ℕ} (front : List ℕ) →
    Exact fa sa ra → (to : A → B) →
    ((a : A) → front ++ sa a ≡ sb (to a)) → ((a : A) → fa a → fb (to a)) → Behind fb sb front (made to ra)
made_behind {A} {B} {fa} {sa} {ra} {fb} {sb} front exact to same keeps = record {
  sound = λ bytes x rest b e.
      let p = bind_ok (ra bytes) (λ a. Ok (to a.0, a.1)) (x, rest) e in
      let u = exact.sound bytes p.0.0 p.0.1 b p.1 in
      subst (λ (y : B × List ℕ). Was fb sb (front ++ bytes) y.0 y.1) (ok_is (to p.0.0, p.0.1) (x, rest) p.2) record {
        whole = ap (λ (t : List ℕ). front ++ t) u.whole ∙ sym (append_assoc front (sa p.0.0) p.0.1) ∙ ap (λ (t : List ℕ). t ++ p.0.1) (same p.0.0);
        fits = keeps p.0.0 u.fits;
        left = u.left;
      };
  within = λ bytes left b e. then_within (ra bytes) (λ a. Ok (to a.0, a.1)) (length bytes) (λ l h. exact.within bytes l b h) (λ a l h k. absurd cc) left e;
}

pub made_exact : {A B : Type 0} {fa : A → Type 0} {sa : A → List ℕ} {ra : List ℕ → Reading A} {fb : B → Type 0} {sb : B → List ℕ} → Exact fa sa ra →
    (to : A → B) (from : B → A) →
    ((b : B) → to (from b) ≡ b) → ((a : A) → sa a ≡ sb (to a)) → ((a : A) → fa a → fb (to a)) → ((b : B) → fb b → fa (from b)) → Exact fb sb (made to ra)
made_exact {A} {B} {fa} {sa} {ra} {fb} {sb} exact to from round same keeps back = record {
  sound = λ bytes x rest b e. (made_behind {fb = fb} {sb = sb} [] exact to same keeps).sound bytes x rest b e;
  again = λ x rest f.
      let spelled : sb x ≡ sa (from x) = sym (same (from x) ∙ ap sb (round x)) in
      ap (λ (t : List ℕ). made to ra (t ++ rest)) spelled ∙ made_again exact to (from x) rest (back x f) ∙ ap (λ (y : B). Ok (y, rest)) (round x);
  within = λ bytes left b e. (made_behind {fb = fb} {sb = sb} [] exact to same keeps).within bytes left b e;
}

-- ---- kinds

pub kind_again : {A : Type 0} (kinds : Kinds A) (k : ℕ) (body rest : List ℕ) → k < 256 →
    kind_at kinds ((number_bytes 1 k ++ body) ++ rest) ≡ chosen kinds k (length ((number_bytes 1 k ++ body) ++ rest)) (body ++ rest)
kind_again kinds k body rest lt =
    let e = (number_exact 1).again k (body ++ rest) lt in
    let g = append_assoc (number_bytes 1 k) body rest in
    ap (kind_at kinds) g ∙ rw (e, g) refl

-- a kind alone
pub kind_alone : {A : Type 0} (kinds : Kinds A) (k : ℕ) (rest : List ℕ) → k < 256 →
    kind_at kinds (number_bytes 1 k ++ rest) ≡ chosen kinds k (length (number_bytes 1 k ++ rest)) rest
kind_alone kinds k rest lt = let e = (number_exact 1).again k rest lt in rw e refl

chosen_sound : {A : Type 0} (fits : A → Type 0) (spelled : A → List ℕ) (kinds : Kinds A) →
    AllByRecursion (λ c. Behind fits spelled (number_bytes 1 c.0) c.1) kinds → (k left : ℕ) (bytes : List ℕ) (x : A) (rest : List ℕ) → AreBytes bytes →
    chosen kinds k left bytes ≡ Ok (x, rest) → Was fits spelled (number_bytes 1 k ++ bytes) x rest
chosen_sound fits spelled [] all k left bytes x rest b e = absurd cc
chosen_sound fits spelled (c ∷ cs) all k left bytes x rest b e =
    elim (if_ok (k == c.0) (c.1 bytes) (chosen cs k left bytes) (Ok (x, rest)) e) [
      | inl h ↦ let same : c.0 ≡ k = sym (eqb-true k c.0 h.0) in
          subst (λ (n : ℕ). Was fits spelled (number_bytes 1 n ++ bytes) x rest) same (all.0.sound bytes x rest b h.1)
      | inr h ↦ chosen_sound fits spelled cs all.1 k left bytes x rest b h.1
    ]

kind_sound : {A : Type 0} (fits : A → Type 0) (spelled : A → List ℕ) (kinds : Kinds A) →
    AllByRecursion (λ c. Behind fits spelled (number_bytes 1 c.0) c.1) kinds → (bytes : List ℕ) (x : A) (rest : List ℕ) → AreBytes bytes →
    kind_at kinds bytes ≡ Ok (x, rest) → Was fits spelled bytes x rest
kind_sound fits spelled kinds all bytes x rest b e =
    let p = bind_ok (number_at 1 bytes) (λ k. chosen kinds k.0 (length bytes) k.1) (x, rest) e in
    let u = (number_exact 1).sound bytes p.0.0 p.0.1 b p.1 in
    subst (λ (t : List ℕ). Was fits spelled t x rest) (sym u.whole) (chosen_sound fits spelled kinds all p.0.0 (length bytes) p.0.1 x rest u.left p.2)

chosen_within : {A : Type 0} (fits : A → Type 0) (spelled : A → List ℕ) (kinds : Kinds A) →
    AllByRecursion (λ c. Behind fits spelled (number_bytes 1 c.0) c.1) kinds → (k long : ℕ) (bytes : List ℕ) (left : ℕ) → AreBytes bytes →
    length bytes ≤ long →
    chosen kinds k long bytes ≡ Err left → left ≤ long
chosen_within fits spelled [] all k long bytes left b h e = let same : long ≡ left = cc in omega arith
chosen_within fits spelled (c ∷ cs) all k long bytes left b h e =
    elim (if_ok (k == c.0) (c.1 bytes) (chosen cs k long bytes) (Err left) e) [
      | inl g ↦ let w = all.0.within bytes left b g.1 in omega arith
      | inr g ↦ chosen_within fits spelled cs all.1 k long bytes left b h g.1
    ]

kind_within : {A : Type 0} (fits : A → Type 0) (spelled : A → List ℕ) (kinds : Kinds A) →
    AllByRecursion (λ c. Behind fits spelled (number_bytes 1 c.0) c.1) kinds → (bytes : List ℕ) (left : ℕ) → AreBytes bytes → kind_at kinds bytes ≡ Err left →
    left ≤ length bytes
kind_within fits spelled kinds all bytes left b e =
    then_within (number_at 1 bytes) (λ k. chosen kinds k.0 (length bytes) k.1) (length bytes) (λ l h. (number_exact 1).within bytes l b h)
    (λ k l h j.
    let u = (number_exact 1).sound bytes k.0 k.1 b h in
    chosen_within fits spelled kinds all k.0 (length bytes) k.1 l u.left (rest-within (λ x. x < 256 ^ 1) (number_bytes 1) bytes k.0 k.1 u) j)
    left e

-- kinds of which each is exact
pub kind_exact : {A : Type 0} (fits : A → Type 0) (spelled : A → List ℕ) (kinds : Kinds A) →
    AllByRecursion (λ c. Behind fits spelled (number_bytes 1 c.0) c.1) kinds →
    ((x : A) (rest : List ℕ) → fits x → kind_at kinds (spelled x ++ rest) ≡ Ok (x, rest)) →
    Exact fits spelled (kind_at kinds)
kind_exact fits spelled kinds all again = record { sound = kind_sound fits spelled kinds all; again = again; within = kind_within fits spelled kinds all }

-- a kind that nothing follows
pub kind_behind : {B : Type 0} {fb : B → Type 0} {sb : B → List ℕ} (front : List ℕ) (b : B) → front ≡ sb b → fb b →
    Behind fb sb front (made (λ _. b) nothing_at)
kind_behind {B} {fb} {sb} front b same fits = made_behind {fb = fb} {sb = sb} front nothing_exact (λ _. b) (λ _. append-nil front ∙ same) (λ _ _. fits)
