-- A stream of frames, in whatever pieces it comes.
use Rattle.std.proofs.Common.{ℕ, ◌≡◌, ◌+◌, ◌-◌, ◌≤◌, ◌==◌, ◌||◌, ◌⊎◌, Bool, true, false, nat_lt, List, [], ◌∷◌, ◌++◌, length, take, drop}
use Rattle.std.proofs.Common.{Option, Some, None, Result, Ok, Err, refl, sym, ◌∙◌, ap, subst, inl, inr, arith, append_assoc, length-append}
use Rattle.std.proofs.Common.{length-drop}
use Rattle.std.specs.List.{flat_map, AllByRecursion}
use Rattle.std.proofs.Math.Seq.{drop-append_seam, take-append_seam}
use Rattle.std.proofs.lemmas.Bool.{ltb-false, le-ltb}
use Rattle.std.proofs.lemmas.Bool.Decides.{nat_tests}
use Rattle.std.proofs.lemmas.List.{append-nil, take-append-le, drop-append-le, take-append-drop, length-take}
use Rattle.std.proofs.lemmas.List.Concat.{flat_map-cons}
use Rattle.byteorder.specs.Endian.{big_number}
use Rattle.byteorder.specs.Numbers.{big_from-append}
use Rattle.dds_letters.specs.declared.letter.Letter.{Letter}
use Rattle.dds_frames.specs.declared.fault.FrameFault.{FrameFault}
use Rattle.dds_frames.specs.declared.fault.FrameFault.TheVariants.{Short, BadLength, BadTag, BadField, Memory}
use Rattle.dds_frames.specs.declared.tag.Tag.{Tag}
use Rattle.dds_frames.specs.Spelling.{AreBytes}
use Rattle.dds_frames.specs.Tags.{tag_with}
use Rattle.dds_frames.specs.Letters.{IsInRange}
use Rattle.dds_frames.specs.Reading.{Reading}
use Rattle.dds_frames.specs.Fields.{letter_at}
use Rattle.dds_frames.specs.Frame.{frame, whole, tagged, versioned, framed, decoded}
use Rattle.dds_frames.specs.Reader.{Held, IsBad, FaultStands, answer_of, held_after, IsNext, Event, Fed, Told, IsReading, fed, letter_of, told, AreTold}
use Rattle.dds_frames.proofs.Exact.{bytes-drop}
use Rattle.dds_frames.proofs.ExactFrames.{bytes-take, decoded_sound}

-- ---- bytes that are missing

either : (b : Bool) → (b ≡ true) ⊎ (b ≡ false)
either true = inl refl
either false = inr refl

whole-there : (end : ℕ) (r : Reading Letter) → whole end r ≡ Err Short → ⊥
whole-there end (Err left) e = absurd cc
whole-there end (Ok x) e = elim (either (length x.1 == 0)) [
  | inl h ↦ let f : whole end (Ok x) ≡ Ok (x.0, end) = rw h refl in absurd (cc (e, f))
  | inr h ↦ let f : whole end (Ok x) ≡ Err (BadField (end - length x.1)) = rw h refl in absurd (cc (e, f))
]

tagged-there : (end : ℕ) (o : Option Tag) (fields : List ℕ) → tagged end o fields ≡ Err Short → ⊥
tagged-there end None fields e = absurd cc
tagged-there end (Some tag) fields e = whole-there end (letter_at tag fields) e

versioned-there : (end : ℕ) (body : List ℕ) → 2 ≤ length body → versioned end body ≡ Err Short → ⊥
unfolding versioned
versioned-there end [] long e = absurd (omega arith)
versioned-there end (v ∷ []) long e = absurd (omega arith)
versioned-there end (v ∷ t ∷ fields) long e = elim (either (v == 2)) [
  | inl h ↦ let f : versioned end (v ∷ t ∷ fields) ≡ tagged end (tag_with t) fields = rw h refl in tagged-there end (tag_with t) fields (sym f ∙ e)
  | inr h ↦ let f : versioned end (v ∷ t ∷ fields) ≡ Err (BadTag 4) = rw h refl in absurd (cc (e, f))
]

body-there : (end len : ℕ) (input : List ℕ) → 2 ≤ len → 4 + len ≤ length input → versioned end (take len (drop 4 input)) ≡ Err Short → ⊥
body-there end len input some enough e = versioned-there end (take len (drop 4 input)) (omega (arith, length-take len (drop 4 input), length-drop 4 input)) e

accepted : (len : ℕ) → 2 ≤ len → len ≤ 67108864 → (nat_lt len 2 || nat_lt 67108864 len) ≡ false
accepted len h k = grind (arith, nat_tests, h, k)

pub framed-there : (len : ℕ) (input : List ℕ) → 2 ≤ len → len ≤ 67108864 → 4 + len ≤ length input → framed len input ≡ Err Short → ⊥
unfolding framed
framed-there len input some few enough e =
    let h = accepted len some few in
    let k : nat_lt (length input) (4 + len) ≡ false = le-ltb _ _ enough in
    let f : framed len input ≡ versioned (4 + len) (take len (drop 4 input)) = rw (h, k) refl in
    body-there (4 + len) len input some enough (sym f ∙ e)

-- ---- more bytes change nothing but that some are missing

framed-stays : (len : ℕ) (input more : List ℕ) → (framed len input ≡ Err Short → ⊥) → 4 ≤ length input → framed len (input ++ more) ≡ framed len input
unfolding framed
framed-stays len input more there long = elim (either (nat_lt len 2 || nat_lt 67108864 len)) [
  | inl h ↦ rw h refl
  | inr h ↦ elim (either (nat_lt (length input) (4 + len))) [
    | inl k ↦ let f : framed len input ≡ Err Short = rw (h, k) refl in absurd (there f)
    | inr k ↦
        let enough : 4 + len ≤ length input = ltb-false _ _ k in
        let still : nat_lt (length (input ++ more)) (4 + len) ≡ false = le-ltb _ _ (omega (arith, enough, length-append input more)) in
        let behind : drop 4 (input ++ more) ≡ drop 4 input ++ more = drop-append-le 4 input more long in
        let room : len ≤ length (drop 4 input) = omega (arith, enough, length-drop 4 input) in
        let body : take len (drop 4 (input ++ more)) ≡ take len (drop 4 input) = ap (take len) behind ∙ take-append-le len (drop 4 input) more room in
        rw (h, k, still, body) refl
  ]
]

decoded-stays : (input more : List ℕ) → (decoded input ≡ Err Short → ⊥) → decoded (input ++ more) ≡ decoded input
unfolding decoded
decoded-stays input more there = elim (either (nat_lt (length input) 4)) [
  | inl h ↦ let f : decoded input ≡ Err Short = rw h refl in absurd (there f)
  | inr h ↦
      let long : 4 ≤ length input = ltb-false _ _ h in
      let still : nat_lt (length (input ++ more)) 4 ≡ false = le-ltb _ _ (omega (arith, long, length-append input more)) in
      let number : big_number 4 (input ++ more) ≡ big_number 4 input = big_from-append 4 input more long in
      let same : decoded input ≡ framed (big_number 4 input) input = rw h refl in
      let now : decoded (input ++ more) ≡ framed (big_number 4 input) (input ++ more) = rw (still, number) refl in
      now ∙ framed-stays (big_number 4 input) input more (λ e. there (same ∙ e)) long ∙ sym same
]

not-short : (bytes : List ℕ) (fault : FrameFault) → IsBad fault → decoded bytes ≡ Err fault → decoded bytes ≡ Err Short → ⊥
not-short bytes Short bad e f = bad
not-short bytes (BadLength at) bad e f = absurd (cc (e, f))
not-short bytes (BadTag at) bad e f = absurd (cc (e, f))
not-short bytes (BadField at) bad e f = absurd (cc (e, f))
not-short bytes Memory bad e f = bad

pub fault-stays : (bytes more : List ℕ) (fault : Option FrameFault) → FaultStands bytes fault → FaultStands (bytes ++ more) fault
fault-stays bytes more None h = tt
fault-stays bytes more (Some fault) h = (h.0, decoded-stays bytes more (not-short bytes fault h.0 h.1) ∙ h.1)

-- ---- whole readings

-- what one answer took from the front
record Stepped (old : Held) (answer : Result (Option Letter) FrameFault) (new : Held) : Type 0 where
  pub range : AllByRecursion IsInRange (letter_of answer)
  pub whole : old.bytes ≡ flat_map frame (letter_of answer) ++ new.bytes
  pub fault : FaultStands new.bytes new.fault

unchanged : (old new : Held) (answer : Result (Option Letter) FrameFault) → letter_of answer ≡ [] → FaultStands old.bytes old.fault → new ≡ old →
    Stepped old answer new
unchanged old new answer none h e =
    subst (λ (held : Held). Stepped old answer held) (sym e) record {
      range = subst (λ (ls : List Letter). AllByRecursion IsInRange ls) (sym none) tt;
      whole = ap (λ (ls : List Letter). flat_map frame ls ++ old.bytes) (sym none);
      fault = h;
    }

refused : (old new : Held) (fault : FrameFault) → IsBad fault → decoded old.bytes ≡ Err fault → new ≡ record { bytes = old.bytes; fault = Some fault } →
    Stepped old (Err fault) new
refused old new fault bad d e = subst (λ (held : Held). Stepped old (Err fault) held) (sym e) record { range = tt; whole = refl; fault = (bad, d) }

abbrev answered : Option Letter → Result (Option Letter) FrameFault
answered letter = Ok letter

taken : (old new : Held) (x : Letter × ℕ) → AreBytes old.bytes → decoded old.bytes ≡ Ok x → new ≡ record { bytes = drop x.1 old.bytes; fault = None } →
    Stepped old (answered (Some x.0)) new
taken old new x b d e =
    let s = decoded_sound old.bytes x b d in
    let one : flat_map frame (x.0 ∷ []) ≡ frame x.0 = flat_map-cons frame x.0 [] ∙ append-nil (frame x.0) in
    let parts : old.bytes ≡ flat_map frame (x.0 ∷ []) ++ drop x.1 old.bytes = sym (take-append-drop x.1 old.bytes)
    ∙ ap (λ (t : List ℕ). t ++ drop x.1 old.bytes) (s.1.same ∙ sym one) in
    subst (λ (held : Held). Stepped old (answered (Some x.0)) held) (sym e) record { range = (s.1.range, tt); whole = parts; fault = tt }

step-by : (old new : Held) (answer : Result (Option Letter) FrameFault) (d : Result (Letter × ℕ) FrameFault) → AreBytes old.bytes →
    FaultStands old.bytes old.fault → decoded old.bytes ≡ d → answer_of d ≡ answer → new ≡ held_after old d →
    (answer ≡ Err Memory → ⊥) → Stepped old answer new
step-by old new answer (Ok x) b h d a e m = subst (λ (r : Result (Option Letter) FrameFault). Stepped old r new) a (taken old new x b d e)
step-by old new answer (Err Short) b h d a e m =
    subst (λ (r : Result (Option Letter) FrameFault). Stepped old r new) a (unchanged old new (answered None) refl h e)
step-by old new answer (Err (BadLength at)) b h d a e m =
    subst (λ (r : Result (Option Letter) FrameFault). Stepped old r new) a (refused old new (BadLength at) tt d e)
step-by old new answer (Err (BadTag at)) b h d a e m =
    subst (λ (r : Result (Option Letter) FrameFault). Stepped old r new) a (refused old new (BadTag at) tt d e)
step-by old new answer (Err (BadField at)) b h d a e m =
    subst (λ (r : Result (Option Letter) FrameFault). Stepped old r new) a (refused old new (BadField at) tt d e)
step-by old new answer (Err Memory) b h d a e m = absurd (m (sym a))

next-step : (old new : Held) (answer : Result (Option Letter) FrameFault) → AreBytes old.bytes → FaultStands old.bytes old.fault → IsNext old answer new →
    Stepped old answer new
next-step old new (Ok letter) b h n = step-by old new (Ok letter) (decoded old.bytes) b h refl n.0 n.1 (λ e. absurd cc)
next-step old new (Err Short) b h n = step-by old new (Err Short) (decoded old.bytes) b h refl n.0 n.1 (λ e. absurd cc)
next-step old new (Err (BadLength at)) b h n = step-by old new (Err (BadLength at)) (decoded old.bytes) b h refl n.0 n.1 (λ e. absurd cc)
next-step old new (Err (BadTag at)) b h n = step-by old new (Err (BadTag at)) (decoded old.bytes) b h refl n.0 n.1 (λ e. absurd cc)
next-step old new (Err (BadField at)) b h n = step-by old new (Err (BadField at)) (decoded old.bytes) b h refl n.0 n.1 (λ e. absurd cc)
next-step old new (Err Memory) b h n = unchanged old new (Err Memory) refl h n

front-bytes : (xs ys : List ℕ) → AreBytes (xs ++ ys) → AreBytes xs
front-bytes xs ys b = subst AreBytes (take-append_seam xs ys) (bytes-take (length xs) (xs ++ ys) b)

rest-bytes : (xs ys : List ℕ) → AreBytes (xs ++ ys) → AreBytes ys
rest-bytes xs ys b = subst AreBytes (drop-append_seam xs ys) (bytes-drop (length xs) (xs ++ ys) b)

all-append : (xs ys : List Letter) → AllByRecursion IsInRange xs → AllByRecursion IsInRange ys → AllByRecursion IsInRange (xs ++ ys)
all-append [] ys h k = k
all-append (x ∷ xs) ys h k = (h.0, all-append xs ys h.1 k)

frames-append : (xs ys : List Letter) → flat_map frame (xs ++ ys) ≡ flat_map frame xs ++ flat_map frame ys
frames-append [] ys = refl
frames-append (x ∷ xs) ys =
    flat_map-cons frame x (xs ++ ys) ∙ ap (λ (t : List ℕ). frame x ++ t) (frames-append xs ys)
    ∙ sym (append_assoc (frame x) (flat_map frame xs) (flat_map frame ys)) ∙ ap (λ (t : List ℕ). t ++ flat_map frame ys) (sym (flat_map-cons frame x xs))

reading : (events : List Event) (old new : Held) → AreBytes (old.bytes ++ fed events) → FaultStands old.bytes old.fault → IsReading old events new →
    AreTold (old.bytes ++ fed events) (told events) new
reading [] old new b h e =
    subst (λ (held : Held). AreTold (old.bytes ++ []) [] held) e record { range = tt; whole = append-nil old.bytes; fault = h }
reading (Fed piece ∷ events) old new b h e =
    let same : (old.bytes ++ piece) ++ fed events ≡ old.bytes ++ (piece ++ fed events) = append_assoc old.bytes piece (fed events) in
    subst (λ (bytes : List ℕ). AreTold bytes (told events) new) same
    (reading events (record { bytes = old.bytes ++ piece; fault = old.fault }) new (subst AreBytes (sym same) b) (fault-stays old.bytes piece old.fault h) e)
reading (Told answer ∷ events) old new b h e =
    let s = next-step old e.0 answer (front-bytes old.bytes (fed events) b) h e.1 in
    let parts : old.bytes ++ fed events ≡ flat_map frame (letter_of answer) ++ (e.0.bytes ++ fed events) = ap (λ (t : List ℕ). t ++ fed events) s.whole
    ∙ append_assoc (flat_map frame (letter_of answer)) e.0.bytes (fed events) in
    let r = reading events e.0 new (rest-bytes (flat_map frame (letter_of answer)) (e.0.bytes ++ fed events) (subst AreBytes parts b)) s.fault e.2 in
    record {
      range = all-append (letter_of answer) (told events) s.range r.range;
      whole = parts ∙ ap (λ (t : List ℕ). flat_map frame (letter_of answer) ++ t) r.whole
          ∙ sym (append_assoc (flat_map frame (letter_of answer)) (flat_map frame (told events)) new.bytes)
          ∙ ap (λ (t : List ℕ). t ++ new.bytes) (sym (frames-append (letter_of answer) (told events)));
      fault = r.fault;
    }

pub are-told : (events : List Event) (held : Held) → AreBytes (fed events) → IsReading (record { bytes = []; fault = None }) events held →
    AreTold (fed events) (told events) held
are-told events held b e = reading events (record { bytes = []; fault = None }) held b tt e
