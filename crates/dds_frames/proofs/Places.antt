-- A fault of a field stands within its frame.
use Rattle.std.proofs.Common.{ℕ, ◌≡◌, ◌+◌, ◌-◌, ◌≤◌, ◌==◌, ◌||◌, ◌⊎◌, Bool, true, false, nat_lt, List, [], ◌∷◌, length, take, drop, Option}
use Rattle.std.proofs.Common.{Some, None, Result, Ok, Err, refl, sym, ◌∙◌, inl, inr, suc, subst, arith}
use Rattle.std.proofs.lemmas.Bool.{ltb-false}
use Rattle.std.proofs.lemmas.List.{length-take}
use Rattle.byteorder.specs.Endian.{big_number}
use Rattle.dds_letters.specs.declared.letter.Letter.{Letter}
use Rattle.dds_frames.specs.declared.fault.FrameFault.{FrameFault}
use Rattle.dds_frames.specs.declared.fault.FrameFault.TheVariants.{Short, BadLength, BadTag, BadField}
use Rattle.dds_frames.specs.declared.tag.Tag.{Tag}
use Rattle.dds_frames.specs.Spelling.{AreBytes}
use Rattle.dds_frames.specs.Tags.{tag_with}
use Rattle.dds_frames.specs.Letters.{field_bytes}
use Rattle.dds_frames.specs.Reading.{Reading}
use Rattle.dds_frames.specs.Fields.{letter_at}
use Rattle.dds_frames.specs.Frame.{whole, tagged, versioned, framed, decoded, DecodesAs}
use Rattle.dds_frames.proofs.Exact.{bytes-drop, rest-within}
use Rattle.dds_frames.proofs.ExactLetters.{IsOf, letter_behind}
use Rattle.dds_frames.proofs.ExactFrames.{bytes-take}

either : (b : Bool) → (b ≡ true) ⊎ (b ≡ false)
either true = inl refl
either false = inr refl

-- what reading a letter's fields leaves, or is refused at, is within them
pub refused-within : (tag : Tag) (bytes : List ℕ) (left : ℕ) → AreBytes bytes → letter_at tag bytes ≡ Err left → left ≤ length bytes
refused-within tag bytes left b e = (letter_behind tag).within bytes left b e

pub left-within : (tag : Tag) (bytes : List ℕ) (letter : Letter) (rest : List ℕ) → AreBytes bytes → letter_at tag bytes ≡ Ok (letter, rest) →
    length rest ≤ length bytes
left-within tag bytes letter rest b e = rest-within (IsOf tag) field_bytes bytes letter rest ((letter_behind tag).sound bytes letter rest b e)

whole_place : (end n : ℕ) (r : Reading Letter) (at : ℕ) → n + 6 ≤ end → ((left : ℕ) → r ≡ Err left → left ≤ n) →
    ((x : Letter × List ℕ) → r ≡ Ok x → length x.1 ≤ n) → whole end r ≡ Err (BadField at) → (6 ≤ at) × (at ≤ end)
whole_place end n (Err left) at room refused there e =
    let same : end - left ≡ at = cc in
    let few = refused left refl in
    (omega arith, omega arith)
whole_place end n (Ok x) at room refused there e =
    let few = there x refl in
    elim (either (length x.1 == 0)) [
      | inl h ↦ let f : whole end (Ok x) ≡ Ok (x.0, end) = rw h refl in absurd (cc (e, f))
      | inr h ↦
          let f : whole end (Ok x) ≡ Err (BadField (end - length x.1)) = rw h refl in
          let same : end - length x.1 ≡ at = cc (e, f) in
          (omega arith, omega arith)
    ]

tagged_place : (end : ℕ) (o : Option Tag) (fields : List ℕ) (at : ℕ) → AreBytes fields → length fields + 6 ≤ end → tagged end o fields ≡ Err (BadField at) →
    (6 ≤ at) × (at ≤ end)
tagged_place end None fields at b room e = absurd cc
tagged_place end (Some tag) fields at b room e =
    whole_place end (length fields) (letter_at tag fields) at room (λ left h. refused-within tag fields left b h) (λ x h. left-within tag fields x.0 x.1 b h) e

versioned_place : (end : ℕ) (body : List ℕ) (at : ℕ) → AreBytes body → length body + 4 ≤ end → versioned end body ≡ Err (BadField at) → (6 ≤ at) × (at ≤ end)
unfolding versioned
versioned_place end [] at b room e = absurd cc
versioned_place end (v ∷ []) at b room e = absurd cc
versioned_place end (v ∷ t ∷ fields) at b room e = elim (either (v == 2)) [
  | inl h ↦
      let f : versioned end (v ∷ t ∷ fields) ≡ tagged end (tag_with t) fields = rw h refl in
      tagged_place end (tag_with t) fields at (λ k. b (suc (suc k))) (omega arith) (sym f ∙ e)
  | inr h ↦ let f : versioned end (v ∷ t ∷ fields) ≡ Err (BadTag 4) = rw h refl in absurd (cc (e, f))
]

framed_place : (len : ℕ) (input : List ℕ) (at : ℕ) → AreBytes input → framed len input ≡ Err (BadField at) → (6 ≤ at) × (at ≤ length input)
unfolding framed
framed_place len input at b e = elim (either (nat_lt len 2 || nat_lt 67108864 len)) [
  | inl h ↦ let f : framed len input ≡ Err (BadLength 0) = rw h refl in absurd (cc (e, f))
  | inr h ↦ elim (either (nat_lt (length input) (4 + len))) [
    | inl k ↦ let f : framed len input ≡ Err Short = rw (h, k) refl in absurd (cc (e, f))
    | inr k ↦
        let enough : 4 + len ≤ length input = ltb-false _ _ k in
        let f : framed len input ≡ versioned (4 + len) (take len (drop 4 input)) = rw (h, k) refl in
        let p = versioned_place (4 + len) (take len (drop 4 input)) at (bytes-take len (drop 4 input) (bytes-drop 4 input b))
        (omega (arith, length-take len (drop 4 input))) (sym f ∙ e) in
        (p.0, omega (arith, p.1))
  ]
]

decoded_place : (input : List ℕ) (at : ℕ) → AreBytes input → decoded input ≡ Err (BadField at) → (6 ≤ at) × (at ≤ length input)
unfolding decoded
decoded_place input at b e = elim (either (nat_lt (length input) 4)) [
  | inl h ↦ let f : decoded input ≡ Err Short = rw h refl in absurd (cc (e, f))
  | inr h ↦ let f : decoded input ≡ framed (big_number 4 input) input = rw h refl in framed_place (big_number 4 input) input at b (sym f ∙ e)
]

-- of what a function returned
pub is-placed : (input : List ℕ) (r : Result (Letter × ℕ) FrameFault) (at : ℕ) → AreBytes input → DecodesAs r (decoded input) → r ≡ Err (BadField at) →
    (6 ≤ at) × (at ≤ length input)
is-placed input r at b e f = decoded_place input at b (subst (λ (q : Result (Letter × ℕ) FrameFault). DecodesAs q (decoded input)) f e)
