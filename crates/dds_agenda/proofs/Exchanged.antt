-- What an exchange leaves: the same entries as before but for the two.
use Rattle.std.proofs.Common.{◌≡◌, ℕ, ◌+◌, ◌<◌, ◌≤◌, List, Option, Some, None, ap, arith}
use Rattle.std.specs.Prelude.{IfSome, if◌then◌else◌}
use Rattle.std.specs.List.{sum_by}
use Rattle.dds_agenda.proofs.Places.{is_same, sum-out, sum-put, times}
use Rattle.dds_agenda.proofs.Same.{is-itself}
use Rattle.dds_agenda.specs.Agenda.{AreSame, IsOrdered, exchanged, put_some, take_some}
use Rattle.dds_agenda.specs.declared.entry.Entry.{Entry}

-- what an entry adds to a sum, where there is one
abbrev pub weight : (Entry → ℕ) → Option Entry → ℕ
weight f None = 0
weight f (Some e) = f e

abbrev IsThere : Option Entry → List Entry → Type 0
IsThere None es = Unit {0}
IsThere (Some k) es = 0 < times k es

sum-take : (f : Entry → ℕ) (old : Option Entry) (es : List Entry) → IfSome old (λ e. IsOrdered es) → IsThere old es →
    sum_by f (take_some old es) + weight f old ≡ sum_by f es
sum-take f None es a t = omega arith
sum-take f (Some k) es a t = sum-out f k es a t

sum-some : (f : Entry → ℕ) (new : Option Entry) (es : List Entry) → sum_by f (put_some new es) ≡ sum_by f es + weight f new
sum-some f None es = omega arith
sum-some f (Some k) es = sum-put f k es

-- what adds to each sum is there
there : (old : Option Entry) (es fs : List Entry) → AreSame es fs → ((f : Entry → ℕ) → weight f old ≤ sum_by f es) → IsThere old fs
there None es fs same low = tt
there (Some k) es fs same low =
    let f : Entry → ℕ = λ x. if is_same k x then 1 else 0 in
    let one : f k ≡ 1 = ap (λ b. if b then 1 else 0) (is-itself k) in
    let all : f k ≤ sum_by f es = low f in
    let moved : sum_by f es ≡ sum_by f fs = same f in
    let some : 1 ≤ sum_by f fs = omega (arith, all, moved, one) in
    omega (arith, some)

pub exchanged-same : (old new : Option Entry) (es after fs : List Entry) → IfSome old (λ e. IsOrdered fs) → AreSame es fs →
    ((f : Entry → ℕ) → weight f old ≤ sum_by f es) → ((f : Entry → ℕ) → sum_by f after + weight f old ≡ sum_by f es + weight f new) →
    AreSame after (exchanged old new fs)
exchanged-same old new es after fs ordered same low change = λ f.
    let taken = sum-take f old fs ordered (there old es fs same low) in
    let came = sum-some f new (take_some old fs) in
    omega (arith, taken, came, same f, change f)
