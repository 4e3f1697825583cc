-- The frames of letters are exact.
use Rattle.std.proofs.Common.{ℕ, suc, ◌≡◌, ◌+◌, ◌-◌, ◌<◌, ◌≤◌, ◌==◌, ◌||◌, Bool, true, false, cond, nat_lt, List, [], ◌∷◌, ◌++◌, length}
use Rattle.std.proofs.Common.{take, drop, Option, Some, None, Result, Ok, Err, refl, sym, ◌∙◌, ap, subst, inl, inr, ◌⊎◌, arith}
use Rattle.std.proofs.Common.{append_assoc, length-append, lit<}
use Rattle.std.specs.Prelude.{IfOk}
use Rattle.std.proofs.Math.Nat.{mod-eq_of_lt}
use Rattle.std.proofs.Math.Seq.{take-add, drop-append_seam}
use Rattle.std.proofs.lemmas.Bool.{cases_lt, eqb-true, ltb-false, le-ltb}
use Rattle.std.proofs.lemmas.Bool.Decides.{nat_tests}
use Rattle.std.proofs.lemmas.List.{append-nil, nil_from_length, take-append-drop, take_at, drop_at, length-take, length-drop, get_or-take, get_or_past}
use Rattle.byteorder.specs.Endian.{big_number}
use Rattle.dds_letters.specs.declared.letter.Letter.{Letter}
use Rattle.dds_frames.specs.declared.fault.FrameFault.{FrameFault}
use Rattle.dds_frames.specs.declared.fault.FrameFault.TheVariants.{Short, BadLength, BadTag, BadField}
use Rattle.dds_frames.specs.declared.tag.Tag.{Tag}
use Rattle.dds_frames.specs.declared.tag.Tag.TheVariants as tags
use Rattle.dds_frames.specs.Spelling.{AreBytes, number_bytes}
use Rattle.dds_frames.specs.Tags.{tag_number, tag_among, all_tags, tag_with}
use Rattle.dds_frames.specs.Letters.{tag_of, field_bytes, IsInRange}
use Rattle.dds_frames.specs.Reading.{Reading}
use Rattle.dds_frames.specs.Fields.{letter_at}
use Rattle.dds_frames.specs.Frame.{frame, Spells, whole, tagged, versioned, framed, decoded, DecodesAs}
use Rattle.dds_frames.proofs.Numbers.{length-number, number-back, number-again}
use Rattle.dds_frames.proofs.Exact.{bytes-drop}
use Rattle.dds_frames.proofs.ExactLetters.{letter_behind, letter_again}
use Rattle.dds_frames.proofs.Lengths.{fields-short}

-- a number below 256 is its byte
pub one-byte : (k : ℕ) → k < 256 → number_bytes 1 k ≡ k ∷ []
unfolding number_bytes
one-byte k lt = ap (λ (b : ℕ). b ∷ []) (mod-eq_of_lt lt)

-- a choice that gave something
if_some : {A : Type 0} (b : Bool) (x : A) (o : Option A) (y : A) → cond b (Some x) o ≡ Some y → ((b ≡ true) × (x ≡ y)) ⊎ (o ≡ Some y)
if_some true x o y e = inl (refl, cc)
if_some false x o y e = inr e

-- a test that a frame passed
passed : {A : Type 0} (b : Bool) (fault : FrameFault) (r : Result A FrameFault) (y : A) → cond b (Err fault) r ≡ Ok y → (b ≡ false) × (r ≡ Ok y)
passed true fault r y e = absurd cc
passed false fault r y e = (refl, e)

met : {A : Type 0} (b : Bool) (fault : FrameFault) (r : Result A FrameFault) (y : A) → cond b r (Err fault) ≡ Ok y → (b ≡ true) × (r ≡ Ok y)
met true fault r y e = (refl, e)
met false fault r y e = absurd cc

-- ---- tags

among-is : (ts : List Tag) (n : ℕ) (t : Tag) → tag_among ts n ≡ Some t → n ≡ tag_number t
among-is [] n t e = absurd cc
among-is (s ∷ ts) n t e =
    elim (if_some (n == tag_number s) s (tag_among ts n) t e) [
      | inl h ↦ eqb-true n (tag_number s) h.0 ∙ ap tag_number h.1
      | inr h ↦ among-is ts n t h
    ]

tag-is : (n : ℕ) (t : Tag) → tag_with n ≡ Some t → n ≡ tag_number t
unfolding tag_with
tag-is n t e = among-is all_tags n t e

tag-again : (t : Tag) → tag_with (tag_number t) ≡ Some t
unfolding tag_with
tag-again tags.Get = refl
tag-again tags.Prepare = refl
tag-again tags.Commit = refl
tag-again tags.Abort = refl
tag-again tags.Push = refl
tag-again tags.MapAsk = refl
tag-again tags.Got = refl
tag-again tags.Vote = refl
tag-again tags.Applied = refl
tag-again tags.Aborted = refl
tag-again tags.MapTell = refl
tag-again tags.Help = refl
tag-again tags.Query = refl
tag-again tags.Status = refl
tag-again tags.Outcome = refl
tag-again tags.Lease = refl
tag-again tags.Granted = refl
tag-again tags.LeaseRefused = refl
tag-again tags.Release = refl
tag-again tags.CopyAsk = refl
tag-again tags.CopyPart = refl
tag-again tags.Install = refl
tag-again tags.Installed = refl
tag-again tags.Notice = refl

tag-small : (t : Tag) → tag_number t < 256
tag-small tags.Get = lit< tt
tag-small tags.Prepare = lit< tt
tag-small tags.Commit = lit< tt
tag-small tags.Abort = lit< tt
tag-small tags.Push = lit< tt
tag-small tags.MapAsk = lit< tt
tag-small tags.Got = lit< tt
tag-small tags.Vote = lit< tt
tag-small tags.Applied = lit< tt
tag-small tags.Aborted = lit< tt
tag-small tags.MapTell = lit< tt
tag-small tags.Help = lit< tt
tag-small tags.Query = lit< tt
tag-small tags.Status = lit< tt
tag-small tags.Outcome = lit< tt
tag-small tags.Lease = lit< tt
tag-small tags.Granted = lit< tt
tag-small tags.LeaseRefused = lit< tt
tag-small tags.Release = lit< tt
tag-small tags.CopyAsk = lit< tt
tag-small tags.CopyPart = lit< tt
tag-small tags.Install = lit< tt
tag-small tags.Installed = lit< tt
tag-small tags.Notice = lit< tt

-- ---- what is read was spelled

abbrev done : {A : Type 0} → A → Result A FrameFault
done x = Ok x

done-is : {A : Type 0} (x y : A) → done x ≡ done y → x ≡ y
done-is x y e = cc

whole_sound : (end : ℕ) (r : Reading Letter) (x : Letter × ℕ) → whole end r ≡ Ok x → (r ≡ Ok (x.0, [])) × (x.1 ≡ end)
whole_sound end (Err left) x e = absurd cc
whole_sound end (Ok y) x e =
    let g = met (length y.1 == 0) (BadField (end - length y.1)) (Ok (y.0, end)) x e in
    let nothing : y.1 ≡ [] = nil_from_length y.1 (eqb-true _ _ g.0) in
    let pair : (y.0, end) ≡ x = done-is (y.0, end) x g.1 in
    (ap (λ (rest : List ℕ). Ok (y.0, rest)) nothing ∙ ap (λ (p : Letter × ℕ). Ok (p.0, [])) pair, sym (ap (λ (p : Letter × ℕ). p.1) pair))

tagged_sound : (end : ℕ) (o : Option Tag) (fields : List ℕ) (x : Letter × ℕ) → tagged end o fields ≡ Ok x →
    (tag : Tag) × (o ≡ Some tag) × (whole end (letter_at tag fields) ≡ Ok x)
tagged_sound end None fields x e = absurd cc
tagged_sound end (Some tag) fields x e = (tag, refl, e)

-- what stands behind the length
abbrev pub body_of : Letter → List ℕ
body_of letter = number_bytes 1 2 ++ (number_bytes 1 (tag_number (tag_of letter)) ++ field_bytes letter)

pub body-is : (letter : Letter) → body_of letter ≡ 2 ∷ tag_number (tag_of letter) ∷ field_bytes letter
body-is letter =
    let v = one-byte 2 (lit< tt) in
    let t = one-byte (tag_number (tag_of letter)) (tag-small (tag_of letter)) in
    rw (v, t) refl

versioned_sound : (end : ℕ) (body : List ℕ) (x : Letter × ℕ) → AreBytes body → versioned end body ≡ Ok x → IsInRange x.0 × (body ≡ body_of x.0) × (x.1 ≡ end)
unfolding versioned
versioned_sound end [] x b e = absurd cc
versioned_sound end (v ∷ []) x b e = absurd cc
versioned_sound end (v ∷ t ∷ fields) x b e =
    let g = met (v == 2) (BadTag 4) (tagged end (tag_with t) fields) x e in
    let o = tagged_sound end (tag_with t) fields x g.1 in
    let w = whole_sound end (letter_at o.0 fields) x o.2 in
    let r = (letter_behind o.0).sound fields x.0 [] (λ k. b (suc (suc k))) w.0 in
    let same : fields ≡ field_bytes x.0 = r.whole ∙ append-nil (field_bytes x.0) in
    let tag : t ≡ tag_number (tag_of x.0) = tag-is t o.0 o.1 ∙ ap tag_number (sym r.fits.1) in
    let two : v ≡ 2 = eqb-true v 2 g.0 in
    (r.fits.0, (λ i. two i ∷ tag i ∷ same i) ∙ sym (body-is x.0), w.1)

pub bytes-take : (n : ℕ) (bytes : List ℕ) → AreBytes bytes → AreBytes (take n bytes)
bytes-take n bytes b k =
    elim (cases_lt k n) [
      | inl lt ↦ rw (get_or-take n bytes k 0 lt) (b k)
      | inr le ↦ rw (get_or_past (take n bytes) k 0 (omega (arith, length-take n bytes))) (omega arith)
    ]

-- the length is accepted, and the bytes are there
tests-are : (len long : ℕ) → (nat_lt len 2 || nat_lt 67108864 len) ≡ false → nat_lt long (4 + len) ≡ false → 4 + len ≤ long
tests-are len long h k = ltb-false _ _ k

framed_sound : (len : ℕ) (input : List ℕ) (x : Letter × ℕ) → AreBytes input → 4 ≤ length input → len ≡ big_number 4 input → framed len input ≡ Ok x →
    (x.1 ≤ length input) × Spells (take x.1 input) x.0
unfolding framed frame
framed_sound len input x b long number e =
    let g = passed (nat_lt len 2 || nat_lt 67108864 len) (BadLength 0)
    (cond (nat_lt (length input) (4 + len)) (Err Short) (versioned (4 + len) (take len (drop 4 input)))) x e in
    let h = passed (nat_lt (length input) (4 + len)) Short (versioned (4 + len) (take len (drop 4 input))) x g.1 in
    let enough = tests-are len (length input) g.0 h.0 in
    let v = versioned_sound (4 + len) (take len (drop 4 input)) x (bytes-take len (drop 4 input) (bytes-drop 4 input b)) h.1 in
    let front : take 4 input ≡ number_bytes 4 len = sym (number-again 4 input long b) ∙ ap (number_bytes 4) (sym number) in
    let count : length (take len (drop 4 input)) ≡ len = omega (arith, length-take len (drop 4 input), length-drop 4 input, enough) in
    let size : length (take len (drop 4 input)) ≡ 2 + length (field_bytes x.0) = omega (arith, ap length (v.1 ∙ body-is x.0)) in
    let same : len ≡ 2 + length (field_bytes x.0) = sym count ∙ size in
    let parts : take (4 + len) input ≡ number_bytes 4 (2 + length (field_bytes x.0)) ++ body_of x.0 =
    take-add 4 len input ∙ ap (λ (t : List ℕ). t ++ take len (drop 4 input)) (front ∙ ap (number_bytes 4) same)
    ∙ ap (λ (t : List ℕ). number_bytes 4 (2 + length (field_bytes x.0)) ++ t) v.1 in
    (omega (arith, v.2, enough), record { range = v.0; same = ap (λ (n : ℕ). take n input) v.2 ∙ parts })

pub decoded_sound : (input : List ℕ) (x : Letter × ℕ) → AreBytes input → decoded input ≡ Ok x → (x.1 ≤ length input) × Spells (take x.1 input) x.0
unfolding decoded
decoded_sound input x b e =
    let g = passed (nat_lt (length input) 4) Short (framed (big_number 4 input) input) x e in
    framed_sound (big_number 4 input) input x b (ltb-false _ _ g.0) refl g.1

-- ---- what is spelled is read

pub length-frame : (letter : Letter) → length (frame letter) ≡ 6 + length (field_bytes letter)
unfolding frame
length-frame letter =
    let a = length-append (number_bytes 4 (2 + length (field_bytes letter))) (body_of letter) in
    let b = length-number 4 (2 + length (field_bytes letter)) in
    let c = ap length (body-is letter) in
    omega (arith, a, b, c)

versioned_again : (end : ℕ) (letter : Letter) → IsInRange letter → versioned end (body_of letter) ≡ Ok (letter, end)
unfolding versioned
versioned_again end letter r =
    let e : letter_at (tag_of letter) (field_bytes letter) ≡ Ok (letter, []) = ap (letter_at (tag_of letter)) (sym (append-nil (field_bytes letter)))
    ∙ letter_again letter [] r in
    let t = tag-again (tag_of letter) in
    ap (versioned end) (body-is letter) ∙ rw (t, e) refl

not-refused : (len : ℕ) → 2 ≤ len → len ≤ 67108864 → (nat_lt len 2 || nat_lt 67108864 len) ≡ false
not-refused len h k = grind (arith, nat_tests, h, k)

pub decoded_again : (letter : Letter) (rest : List ℕ) → IsInRange letter → decoded (frame letter ++ rest) ≡ Ok (letter, length (frame letter))
unfolding decoded framed frame
decoded_again letter rest r =
    let len : ℕ = 2 + length (field_bytes letter) in
    let short : 2 + length (field_bytes letter) ≤ 67108864 = omega (arith, fields-short letter r) in
    let regrouped : frame letter ++ rest ≡ number_bytes 4 (2 + length (field_bytes letter))
    ++ (body_of letter ++ rest) = append_assoc (number_bytes 4 (2 + length (field_bytes letter))) (body_of letter) rest in
    let n4 = length-number 4 (2 + length (field_bytes letter)) in
    let body : length (body_of letter) ≡ 2 + length (field_bytes letter) = omega (arith, ap length (body-is letter)) in
    let size = length-append (number_bytes 4 (2 + length (field_bytes letter))) (body_of letter ++ rest) in
    let size2 = length-append (body_of letter) rest in
    let long : nat_lt (length (number_bytes 4 (2 + length (field_bytes letter)) ++ (body_of letter ++ rest))) 4 ≡ false =
    le-ltb _ _ (omega (arith, n4, size)) in
    let number = number-back 4 (2 + length (field_bytes letter)) (body_of letter ++ rest) (omega (arith, short)) in
    let accepted = not-refused (2 + length (field_bytes letter)) (omega arith) short in
    let there : nat_lt (length (number_bytes 4 (2 + length (field_bytes letter)) ++ (body_of letter ++ rest))) (4 + (2 + length (field_bytes letter)))
    ≡ false = le-ltb _ _ (omega (arith, n4, size, size2, body)) in
    let behind = drop_at (number_bytes 4 (2 + length (field_bytes letter))) (body_of letter ++ rest) 4 n4 in
    let front = take_at (body_of letter) rest (2 + length (field_bytes letter)) body in
    let v = versioned_again (4 + (2 + length (field_bytes letter))) letter r in
    let end : 4 + (2 + length (field_bytes letter)) ≡ length (frame letter) = omega (arith, length-frame letter) in
    ap decoded regrouped ∙ rw (long, number, accepted, there, behind, front, v) (ap (λ (n : ℕ). Ok (letter, n)) end)

-- bytes whose front spells a letter
pub decoded_only : (input : List ℕ) (letter : Letter) (end : ℕ) → end ≤ length input → Spells (take end input) letter → decoded input ≡ Ok (letter, end)
decoded_only input letter end within spells =
    let size : length (frame letter) ≡ end = ap length (sym spells.same)
    ∙ (let h : length (take end input) ≡ end = omega (arith, length-take end input, within) in h) in
    let parts : input ≡ frame letter ++ drop end input = sym (take-append-drop end input) ∙ ap (λ (t : List ℕ). t ++ drop end input) spells.same in
    ap decoded parts ∙ decoded_again letter (drop end input) spells.range ∙ ap (λ (n : ℕ). Ok (letter, n)) size

-- ---- what a function returned

pub was-spelled : (input : List ℕ) (r : Result (Letter × ℕ) FrameFault) → AreBytes input → DecodesAs r (decoded input) →
    IfOk r (λ read. (read.1 ≤ length input) × Spells (take read.1 input) read.0)
was-spelled input (Ok x) b e = decoded_sound input x b e
was-spelled input (Err fault) b e = tt

pub is-read : (input : List ℕ) (r : Result (Letter × ℕ) FrameFault) (letter : Letter) (end : ℕ) → DecodesAs r (decoded input) → end ≤ length input →
    Spells (take end input) letter → DecodesAs r (Ok (letter, end))
is-read input r letter end e within spells = subst (λ (d : Result (Letter × ℕ) FrameFault). DecodesAs r d) (decoded_only input letter end within spells) e

-- ---- spellings are apart

-- the front of some bytes spells one letter at most
pub one-front : (a b : Letter) (x y : List ℕ) → IsInRange a → IsInRange b → frame a ++ x ≡ frame b ++ y → (a ≡ b) × (x ≡ y)
one-front a b x y r s e =
    let first = decoded_again a x r in
    let second = decoded_again b y s in
    let same : (a, length (frame a)) ≡ (b, length (frame b)) = done-is (a, length (frame a)) (b, length (frame b)) (sym first ∙ ap decoded e ∙ second) in
    let letters : a ≡ b = ap (λ (p : Letter × ℕ). p.0) same in
    let moved : frame b ++ x ≡ frame b ++ y = ap (λ (l : Letter). frame l ++ x) (sym letters) ∙ e in
    (letters, sym (drop-append_seam (frame b) x) ∙ ap (drop (length (frame b))) moved ∙ drop-append_seam (frame b) y)
