-- What the types of a letter's fields keep.
use Rattle.std.specs.Prelude.{ℕ, ◌<◌, ◌≤◌, ◌^◌, List, [], ◌∷◌, length, Option, Some, None, IsTrue}
use Rattle.dds_base.specs.Number.{Txn, StampOf, is_maker}
use Rattle.dds_base.specs.Name.{Name}
use Rattle.dds_base.specs.BrickList.{is_brick_list}
use Rattle.dds_base.specs.Place.{rise_after}
use Rattle.dds_base.specs.declared.leaf.Leaf.{Leaf}
use Rattle.dds_base.specs.declared.number.CallNo.{CallNo}
use Rattle.dds_base.specs.declared.op.Op.{Op}
use Rattle.dds_base.specs.declared.op.Op.TheVariants.{Get as GetOp, Put, Remove, Swap}
use Rattle.dds_base.specs.declared.pair.Pair.{Pair}
use Rattle.dds_letters.specs.declared.refusal.Refusal.{Refusal}
use Rattle.dds_letters.specs.declared.refusal.Refusal.TheVariants as refusals
use Rattle.dds_letters.specs.declared.refusal.Denial.{Denial}
use Rattle.dds_letters.specs.declared.refusal.Denial.TheVariants as denials
use Rattle.dds_letters.specs.declared.refusal.Answer.{Answer}
use Rattle.dds_letters.specs.declared.refusal.Answer.TheVariants as answers
use Rattle.dds_letters.specs.declared.refusal.Ballot.{Ballot}
use Rattle.dds_letters.specs.declared.refusal.Ballot.TheVariants.{Yes, No}
use Rattle.dds_letters.specs.declared.refusal.Wanted.{Wanted}
use Rattle.dds_letters.specs.declared.refusal.Wanted.TheVariants as wants

pub record IsTxn (t : Txn) : Type 0 where
  pub library : 64 ≤ t.library
  pub node : t.library < 80
  pub number : t.number < 2 ^ 64

abbrev pub IsCaller : ℕ → Type 0
IsCaller caller = caller < 64

abbrev pub IsCall : CallNo → Type 0
IsCall call = call.0 < 2 ^ 32

abbrev pub IsWord : ℕ → Type 0
IsWord n = n < 2 ^ 64

pub record IsName (n : Name) : Type 0 where
  pub depth : n.depth ≤ 16
  pub bits : n.bits < 2 ^ n.depth

pub record IsStamp (s : StampOf) : Type 0 where
  pub maker : IsTrue (is_maker s.maker)
  pub count : s.count < 2 ^ 64

abbrev pub IsGroup : List ℕ → Type 0
IsGroup bricks = IsTrue (is_brick_list bricks)

pub record IsLeaf (leaf : Leaf) : Type 0 where
  pub name : IsName leaf.name
  pub epoch : leaf.epoch < 2 ^ 64
  pub stamp : IsStamp leaf.stamp
  pub prev : IsStamp leaf.prev
  pub list : IsGroup leaf.list

-- what holds of the value behind a flag, if there is one
abbrev pub IfThere : {A : Type 0} → (A → Type 0) → Option A → Type 0
IfThere P None = Unit {0}
IfThere P (Some x) = P x

abbrev pub IsValue : List ℕ → Type 0
IsValue bytes = length bytes ≤ 60000

abbrev pub IsUpdate : Op → Type 0
IsUpdate (GetOp key) = ⊥
IsUpdate (Put key value) = IsWord key × IsValue value
IsUpdate (Remove key) = IsWord key
IsUpdate (Swap key expected value) = IsWord key × (IsValue expected × IsValue value)

abbrev pub IsRefusal : Refusal → Type 0
IsRefusal refusals.Lease = Unit {0}
IsRefusal refusals.Lock = Unit {0}
IsRefusal (refusals.Stale leaf) = IfThere IsLeaf leaf

abbrev pub IsDenial : Denial → Type 0
IsDenial (denials.Refused refusal) = IsRefusal refusal
IsDenial denials.Full = Unit {0}

abbrev pub IsAnswer : Answer → Type 0
IsAnswer answers.Absent = Unit {0}
IsAnswer (answers.Value value) = IsValue value
IsAnswer (answers.Refused refusal) = IsRefusal refusal

abbrev pub IsBallot : Ballot → Type 0
IsBallot Yes = Unit {0}
IsBallot (No denial) = IsDenial denial

abbrev pub IsWanted : Wanted → Type 0
IsWanted (wants.Name name) = IsName name
IsWanted (wants.Leaf leaf) = IsLeaf leaf

abbrev pub IsPair : Pair → Type 0
IsPair pair = IsWord pair.key × IsValue pair.value

abbrev pub ArePairs : List Pair → Type 0
ArePairs [] = Unit {0}
ArePairs (p ∷ ps) = IsPair p × ArePairs ps

-- the pairs of one letter: at most 32, whose places rise
pub record AreCopied (pairs : List Pair) : Type 0 where
  pub few : length pairs ≤ 32
  pub rise : IsTrue (rise_after None pairs)
  pub each : ArePairs pairs
