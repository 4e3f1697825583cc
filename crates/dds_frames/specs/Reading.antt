-- Reading fields from left to right. A reader is given the bytes that are left of the frame. It gives a value and the
-- bytes behind it; or how many bytes were left at the first that is refused.
use Rattle.std.specs.Prelude.{ℕ, ◌≡◌, ◌==◌, Bool, List, [], ◌∷◌, length, drop, nat_lt, Result, Ok, Err, if◌then◌else◌}
use Rattle.byteorder.specs.Endian.{big_number}
use Rattle.dds_frames.specs.declared.fault.FieldFault.{FieldFault}
use Rattle.dds_frames.specs.declared.fault.FieldFault.TheVariants.{Refused, Memory}

abbrev pub Reading : Type 0 → Type 0
Reading A = Result (A × List ℕ) ℕ

-- what a function over the bytes that are left returned, with the bytes that it left, is what reading gives, unless
-- memory ran out
abbrev pub FailsAs : {A : Type 0} → FieldFault → Reading A → Type 0
FailsAs (Refused left) reading = reading ≡ Err left
FailsAs Memory reading = Unit {0}

abbrev pub ReadsAs : {A : Type 0} → Result A FieldFault → List ℕ → Reading A → Type 0
ReadsAs (Ok x) rest reading = reading ≡ Ok (x, rest)
ReadsAs (Err e) rest reading = FailsAs e reading

infixl 10 ◌>>=◌
abbrev pub ◌>>=◌ : {A B : Type 0} → Result A ℕ → (A → Result B ℕ) → Result B ℕ
(Ok x) >>= f = f x
(Err left) >>= f = Err left

-- a number of n bytes
unfoldable pub number_at : ℕ → List ℕ → Reading ℕ
number_at n bytes = if nat_lt (length bytes) n then Err (length bytes) else Ok (big_number n bytes, drop n bytes)

-- a number of n bytes that passes a test
unfoldable pub tested_at : ℕ → (ℕ → Bool) → List ℕ → Reading ℕ
tested_at n accepts bytes = do
  x ← number_at n bytes
  if accepts x.0 then Ok x else Err (length bytes)

-- no bytes
abbrev pub nothing_at : List ℕ → Reading (Unit {0})
nothing_at bytes = Ok (tt, bytes)

-- two fields, of which the second may be read by the first one's value
abbrev pub both_at : {A B : Type 0} → (List ℕ → Reading A) → (A → List ℕ → Reading B) → List ℕ → Reading (A × B)
both_at first second bytes = do
  a ← first bytes
  b ← second a.0 a.1
  Ok ((a.0, b.0), b.1)

infixr 6 ◌&◌
abbrev pub ◌&◌ : {A B : Type 0} → (List ℕ → Reading A) → (List ℕ → Reading B) → List ℕ → Reading (A × B)
first & second = both_at first (λ _. second)

-- what is made of what is read
abbrev pub made : {A B : Type 0} → (A → B) → (List ℕ → Reading A) → List ℕ → Reading B
made to read bytes = do
  a ← read bytes
  Ok (to a.0, a.1)

-- kinds, and the reader of what follows each
abbrev pub Kinds : Type 0 → Type 0
Kinds A = List (ℕ × (List ℕ → Reading A))

-- what follows a kind, at which `left` bytes were left
abbrev pub chosen : {A : Type 0} → Kinds A → ℕ → ℕ → List ℕ → Reading A
chosen [] kind left rest = Err left
chosen (c ∷ cs) kind left rest = if kind == c.0 then c.1 rest else chosen cs kind left rest

-- a kind in a byte, and what follows it
abbrev pub kind_at : {A : Type 0} → Kinds A → List ℕ → Reading A
kind_at kinds bytes = do
  kind ← number_at 1 bytes
  chosen kinds kind.0 (length bytes) kind.1
