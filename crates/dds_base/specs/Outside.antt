-- What the calls of a source and a sink do to what is left, to what was written and to the count of faults.
use Rattle.std.specs.Prelude.{◌≡◌, ℕ, ◌+◌, ◌-◌, ◌^◌, ◌<◌, ◌≤◌, ◌⊎◌, Bool, ◌&&◌, ◌||◌, min, List, [], ◌++◌, length, count_by, nat_eq, nat_lt}
use Rattle.std.specs.Prelude.{nat_le, None, Some, Option}
use Rattle.std.specs.List.{list_any}

-- the bytes were taken from the front of what was left; whether it is told doesn't change
abbrev pub Took : Option (List ℕ) → List ℕ → Option (List ℕ) → Type 0
Took None bytes None = Unit {0}
Took None bytes (Some rest) = ⊥
Took (Some all) bytes None = ⊥
Took (Some all) bytes (Some rest) = all ≡ bytes ++ rest

-- nothing is left, where it is told
abbrev pub IsEnded : Option (List ℕ) → Type 0
IsEnded None = Unit {0}
IsEnded (Some rest) = rest ≡ []

-- the bytes were added behind what was written; whether it is told doesn't change
abbrev pub Added : Option (List ℕ) → List ℕ → Option (List ℕ) → Type 0
Added None bytes None = Unit {0}
Added None bytes (Some now) = ⊥
Added (Some before) bytes None = ⊥
Added (Some before) bytes (Some now) = now ≡ before ++ bytes

-- a beginning of the text was added
pub record AddedPart (before : Option (List ℕ)) (text : List ℕ) (now : Option (List ℕ)) : Type 0 where
  pub part : List ℕ
  pub rest : List ℕ
  pub whole : text ≡ part ++ rest
  pub added : Added before part now

-- the count of faults rose, or it stood at its last value already
abbrev pub Rose : ℕ → ℕ → Type 0
Rose before now = (before < now) ⊎ (before ≡ 2 ^ 64 - 1)

-- a count after one more: it stays at its last value
abbrev pub one_more : ℕ → ℕ
one_more count = min (count + 1) (2 ^ 64 - 1)

-- how many line ends (byte 10) there are among the bytes
abbrev pub line_ends : List ℕ → ℕ
line_ends bytes = count_by (λ byte. nat_eq byte 10) bytes

-- more bytes or more line ends were taken than the limits allow
pub record TookPast (before : Option (List ℕ)) (most_bytes most_lines : ℕ) (now : Option (List ℕ)) : Type 0 where
  pub bytes : List ℕ
  pub taken : Took before bytes now
  pub past : (most_bytes < length bytes) ⊎ (most_lines < line_ends bytes)

-- what was taken is within the limits
pub record TookWithin (before : Option (List ℕ)) (most_bytes most_lines : ℕ) (now : Option (List ℕ)) : Type 0 where
  pub bytes : List ℕ
  pub taken : Took before bytes now
  pub short : length bytes ≤ most_bytes
  pub few : line_ends bytes ≤ most_lines

-- whether the call of this number is among those that are to fail
abbrev pub is_listed : ℕ → List ℕ → Bool
is_listed number failing = list_any (λ listed. nat_eq listed number) failing

-- a source over memory: the bytes left, the numbers of the calls that are to fail, the number of
-- the next call, and the count of faults
pub record MemorySourceState : Type 0 where
  pub left : List ℕ
  pub failing : List ℕ
  pub calls : ℕ
  pub faults : ℕ

-- a sink over memory: the bytes written, the numbers of the calls that are to fail, the most bytes
-- that one write takes, the bytes it has room for in all, the number of the next call, and the
-- count of faults
pub record MemorySinkState : Type 0 where
  pub written : List ℕ
  pub failing : List ℕ
  pub most : ℕ
  pub room : ℕ
  pub calls : ℕ
  pub faults : ℕ

-- whether a write of the piece fails: its number is listed, or there is no room for a byte of it
abbrev pub refuses : MemorySinkState → List ℕ → Bool
refuses sink piece =
    is_listed sink.calls sink.failing || (nat_lt 0 (length piece) && nat_le sink.room (length sink.written))
