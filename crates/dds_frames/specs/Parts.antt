-- Reading each kind of field.
use Rattle.std.specs.Prelude.{ℕ, zero, suc, ◌^◌, ◌&&◌, Bool, true, false, List, [], ◌∷◌, ◌++◌, length, take, drop, nat_lt, nat_le, not}
use Rattle.std.specs.Prelude.{Option, Some, None, Ok, Err, if◌then◌else◌}
use Rattle.dds_base.specs.Number.{Txn, StampOf, is_maker}
use Rattle.dds_base.specs.Name.{Name}
use Rattle.dds_base.specs.BrickList.{has}
use Rattle.dds_base.specs.Place.{is_after, last_key}
use Rattle.dds_base.specs.declared.leaf.Leaf.{Leaf}
use Rattle.dds_base.specs.declared.number.CallNo.{CallNo}
use Rattle.dds_base.specs.declared.op.Op.{Op}
use Rattle.dds_base.specs.declared.op.Op.TheVariants.{Put, Remove, Swap}
use Rattle.dds_base.specs.declared.pair.Pair.{Pair}
use Rattle.dds_base.specs.declared.pending.TxnStatus.{TxnStatus}
use Rattle.dds_base.specs.declared.pending.TxnStatus.TheVariants as status
use Rattle.dds_letters.specs.declared.refusal.Refusal.{Refusal}
use Rattle.dds_letters.specs.declared.refusal.Refusal.TheVariants as refusals
use Rattle.dds_letters.specs.declared.refusal.Denial.{Denial}
use Rattle.dds_letters.specs.declared.refusal.Denial.TheVariants as denials
use Rattle.dds_letters.specs.declared.refusal.Answer.{Answer}
use Rattle.dds_letters.specs.declared.refusal.Answer.TheVariants as answers
use Rattle.dds_letters.specs.declared.refusal.Ballot.{Ballot}
use Rattle.dds_letters.specs.declared.refusal.Ballot.TheVariants.{Yes, No}
use Rattle.dds_letters.specs.declared.refusal.Wanted.{Wanted}
use Rattle.dds_letters.specs.declared.refusal.Wanted.TheVariants as wants
use Rattle.dds_frames.specs.Reading.{Reading, Kinds, ◌>>=◌, number_at, tested_at, nothing_at, both_at, ◌&◌, made, kind_at}

abbrev pub flag_kinds : Kinds Bool
flag_kinds =
    (0, made (λ _. false) nothing_at) ∷ (1, made (λ _. true) nothing_at) ∷ []

unfoldable pub flag_at : List ℕ → Reading Bool
flag_at = kind_at flag_kinds

unfoldable pub txn_at : List ℕ → Reading Txn
txn_at = made (λ f. record { library = f.0; number = f.1 }) (tested_at 1 (λ n. nat_le 64 n && nat_lt n 80) & number_at 8)

unfoldable pub caller_at : List ℕ → Reading ℕ
caller_at = tested_at 1 (λ n. nat_lt n 64)

unfoldable pub call_at : List ℕ → Reading CallNo
call_at = made (λ n. record { 0 = n }) (number_at 4)

-- a name's depth tells how many bits are accepted
unfoldable pub name_at : List ℕ → Reading Name
name_at = made (λ f. record { bits = f.1; depth = f.0 }) (both_at (tested_at 1 (λ d. nat_le d 16)) (λ d. tested_at 2 (λ b. nat_lt b (2 ^ d))))

unfoldable pub stamp_at : List ℕ → Reading StampOf
stamp_at = made (λ f. record { maker = f.0; count = f.1 }) (tested_at 1 is_maker & number_at 8)

-- so many bricks more behind some, none of which stands twice
unfoldable pub bricks_at : ℕ → List ℕ → List ℕ → Reading (List ℕ)
bricks_at zero bricks bytes = Ok (bricks, bytes)
bricks_at (suc n) bricks bytes = do
  brick ← tested_at 1 (λ b. nat_lt b 64 && not (has bricks b)) bytes
  bricks_at n (bricks ++ brick.0 ∷ []) brick.1

unfoldable pub group_at : List ℕ → Reading (List ℕ)
group_at bytes = do
  n ← tested_at 1 (λ n. nat_le 1 n && nat_le n 8) bytes
  bricks_at n.0 [] n.1

unfoldable pub leaf_at : List ℕ → Reading Leaf
leaf_at =
    made (λ f. record { name = f.0; epoch = f.1.0; stamp = f.1.1.0; prev = f.1.1.1.0; list = f.1.1.1.1 })
    (name_at & number_at 8 & stamp_at & stamp_at & group_at)

abbrev pub optional_kinds : {A : Type 0} → (List ℕ → Reading A) → Kinds (Option A)
optional_kinds read = (0, made (λ _. None) nothing_at) ∷ (1, made Some read) ∷ []

unfoldable pub maybe_leaf_at : List ℕ → Reading (Option Leaf)
maybe_leaf_at = kind_at (optional_kinds leaf_at)

unfoldable pub after_at : List ℕ → Reading (Option ℕ)
after_at = kind_at (optional_kinds (number_at 8))

-- a value is refused at its length
unfoldable pub value_at : List ℕ → Reading (List ℕ)
value_at bytes = do
  n ← tested_at 2 (λ n. nat_le n 60000) bytes
  if nat_lt (length n.1) n.0 then Err (length bytes) else Ok (take n.0 n.1, drop n.0 n.1)

abbrev pub update_kinds : Kinds Op
update_kinds =
    (1, made (λ f. Put f.0 f.1) (number_at 8 & value_at))
    ∷ (2, made Remove (number_at 8))
    ∷ (3, made (λ f. Swap f.0 f.1.0 f.1.1) (number_at 8 & value_at & value_at)) ∷ []

unfoldable pub update_at : List ℕ → Reading Op
update_at = kind_at update_kinds

abbrev pub refusal_kinds : Kinds Refusal
refusal_kinds =
    (1, made (λ _. refusals.Lease) nothing_at) ∷ (2, made (λ _. refusals.Lock) nothing_at) ∷ (3, made refusals.Stale maybe_leaf_at) ∷ []

unfoldable pub refusal_at : List ℕ → Reading Refusal
refusal_at = kind_at refusal_kinds

abbrev pub denial_kinds : Kinds Denial
denial_kinds =
    (1, made (λ _. denials.Refused refusals.Lease) nothing_at) ∷ (2, made (λ _. denials.Refused refusals.Lock) nothing_at)
    ∷ (3, made (λ leaf. denials.Refused (refusals.Stale leaf)) maybe_leaf_at) ∷ (4, made (λ _. denials.Full) nothing_at) ∷ []

unfoldable pub denial_at : List ℕ → Reading Denial
denial_at = kind_at denial_kinds

abbrev pub answer_kinds : Kinds Answer
answer_kinds =
    (0, made (λ _. answers.Absent) nothing_at) ∷ (1, made answers.Value value_at) ∷ (2, made answers.Refused refusal_at) ∷ []

unfoldable pub answer_at : List ℕ → Reading Answer
answer_at = kind_at answer_kinds

abbrev pub ballot_kinds : Kinds Ballot
ballot_kinds =
    (0, made (λ _. Yes) nothing_at) ∷ (1, made No denial_at) ∷ []

unfoldable pub ballot_at : List ℕ → Reading Ballot
ballot_at = kind_at ballot_kinds

abbrev pub status_kinds : Kinds TxnStatus
status_kinds =
    (0, made (λ _. status.NotPrepared) nothing_at) ∷ (1, made (λ _. status.Prepared) nothing_at)
    ∷ (2, made (λ _. status.Committed) nothing_at) ∷ (3, made (λ _. status.Aborted) nothing_at) ∷ []

unfoldable pub status_at : List ℕ → Reading TxnStatus
status_at = kind_at status_kinds

abbrev pub wanted_kinds : Kinds Wanted
wanted_kinds =
    (0, made wants.Name name_at) ∷ (1, made wants.Leaf leaf_at) ∷ []

unfoldable pub wanted_at : List ℕ → Reading Wanted
wanted_at = kind_at wanted_kinds

-- a pair whose place is after that of a key, if there is one
unfoldable pub pair_at : Option ℕ → List ℕ → Reading Pair
pair_at after = made (λ f. record { key = f.0; value = f.1 }) (tested_at 8 (is_after after) & value_at)

-- so many pairs more behind some, in rising places
unfoldable pub pairs_from : ℕ → List Pair → List ℕ → Reading (List Pair)
pairs_from zero pairs bytes = Ok (pairs, bytes)
pairs_from (suc n) pairs bytes = do
  pair ← pair_at (last_key None pairs) bytes
  pairs_from n (pairs ++ pair.0 ∷ []) pair.1

unfoldable pub pairs_at : List ℕ → Reading (List Pair)
pairs_at bytes = do
  n ← tested_at 2 (λ n. nat_le n 32) bytes
  pairs_from n.0 [] n.1
