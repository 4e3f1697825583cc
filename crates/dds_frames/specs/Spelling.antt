-- The bytes of each kind of field. All numbers are big-endian.
use Rattle.std.specs.Prelude.{ℕ, Bool, true, false, List, [], ◌++◌, length, Option, Some, None, ◌<◌, get_or}
use Rattle.std.specs.List.{flat_map}
use Rattle.byteorder.specs.Endian.{big_bytes}
use Rattle.dds_base.specs.Number.{Txn, StampOf}
use Rattle.dds_base.specs.Name.{Name}
use Rattle.dds_base.specs.declared.leaf.Leaf.{Leaf}
use Rattle.dds_base.specs.declared.op.Op.{Op}
use Rattle.dds_base.specs.declared.op.Op.TheVariants.{Get as GetOp, Put, Remove, Swap}
use Rattle.dds_base.specs.declared.pair.Pair.{Pair}
use Rattle.dds_base.specs.declared.pending.TxnStatus.{TxnStatus}
use Rattle.dds_base.specs.declared.pending.TxnStatus.TheVariants as status
use Rattle.dds_letters.specs.declared.refusal.Refusal.{Refusal}
use Rattle.dds_letters.specs.declared.refusal.Refusal.TheVariants as refusals
use Rattle.dds_letters.specs.declared.refusal.Denial.{Denial}
use Rattle.dds_letters.specs.declared.refusal.Denial.TheVariants as denials
use Rattle.dds_letters.specs.declared.refusal.Answer.{Answer}
use Rattle.dds_letters.specs.declared.refusal.Answer.TheVariants as answers
use Rattle.dds_letters.specs.declared.refusal.Ballot.{Ballot}
use Rattle.dds_letters.specs.declared.refusal.Ballot.TheVariants.{Yes, No}
use Rattle.dds_letters.specs.declared.refusal.Wanted.{Wanted}
use Rattle.dds_letters.specs.declared.refusal.Wanted.TheVariants as wants

-- each item is a byte
abbrev pub AreBytes : List ℕ → Type 0
AreBytes bytes = (k : ℕ) → get_or bytes k 0 < 256

-- one field's bytes, and then the others'
infixr 5 ◌⧺◌
abbrev pub ◌⧺◌ : List ℕ → List ℕ → List ℕ
a ⧺ b = a ++ b

-- a number in n bytes
unfoldable pub number_bytes : ℕ → ℕ → List ℕ
number_bytes n x = big_bytes n x

unfoldable pub flag_bytes : Bool → List ℕ
flag_bytes false = number_bytes 1 0
flag_bytes true = number_bytes 1 1

unfoldable pub txn_bytes : Txn → List ℕ
txn_bytes t = number_bytes 1 t.library ⧺ number_bytes 8 t.number

unfoldable pub name_bytes : Name → List ℕ
name_bytes n = number_bytes 1 n.depth ⧺ number_bytes 2 n.bits

unfoldable pub stamp_bytes : StampOf → List ℕ
stamp_bytes s = number_bytes 1 s.maker ⧺ number_bytes 8 s.count

-- a replica group: the number of its members, and each
unfoldable pub group_bytes : List ℕ → List ℕ
group_bytes bricks = number_bytes 1 (length bricks) ⧺ flat_map (number_bytes 1) bricks

unfoldable pub leaf_bytes : Leaf → List ℕ
leaf_bytes l = name_bytes l.name ⧺ number_bytes 8 l.epoch ⧺ stamp_bytes l.stamp ⧺ stamp_bytes l.prev ⧺ group_bytes l.list

-- what may be absent: a flag, and what is there
abbrev pub optional_bytes : {A : Type 0} → (A → List ℕ) → Option A → List ℕ
optional_bytes spelled None = number_bytes 1 0
optional_bytes spelled (Some x) = number_bytes 1 1 ⧺ spelled x

unfoldable pub maybe_leaf_bytes : Option Leaf → List ℕ
maybe_leaf_bytes leaf = optional_bytes leaf_bytes leaf

unfoldable pub after_bytes : Option ℕ → List ℕ
after_bytes after = optional_bytes (number_bytes 8) after

-- a value: its length and its bytes
unfoldable pub value_bytes : List ℕ → List ℕ
value_bytes bytes = number_bytes 2 (length bytes) ⧺ bytes

-- an operation that changes the map: its kind, its key, and its values
unfoldable pub update_bytes : Op → List ℕ
update_bytes (GetOp key) = []
update_bytes (Put key value) = number_bytes 1 1 ⧺ number_bytes 8 key ⧺ value_bytes value
update_bytes (Remove key) = number_bytes 1 2 ⧺ number_bytes 8 key
update_bytes (Swap key expected value) = number_bytes 1 3 ⧺ number_bytes 8 key ⧺ value_bytes expected ⧺ value_bytes value

unfoldable pub refusal_bytes : Refusal → List ℕ
refusal_bytes refusals.Lease = number_bytes 1 1
refusal_bytes refusals.Lock = number_bytes 1 2
refusal_bytes (refusals.Stale leaf) = number_bytes 1 3 ⧺ maybe_leaf_bytes leaf

unfoldable pub denial_bytes : Denial → List ℕ
denial_bytes (denials.Refused refusal) = refusal_bytes refusal
denial_bytes denials.Full = number_bytes 1 4

unfoldable pub answer_bytes : Answer → List ℕ
answer_bytes answers.Absent = number_bytes 1 0
answer_bytes (answers.Value value) = number_bytes 1 1 ⧺ value_bytes value
answer_bytes (answers.Refused refusal) = number_bytes 1 2 ⧺ refusal_bytes refusal

unfoldable pub ballot_bytes : Ballot → List ℕ
ballot_bytes Yes = number_bytes 1 0
ballot_bytes (No denial) = number_bytes 1 1 ⧺ denial_bytes denial

unfoldable pub status_bytes : TxnStatus → List ℕ
status_bytes status.NotPrepared = number_bytes 1 0
status_bytes status.Prepared = number_bytes 1 1
status_bytes status.Committed = number_bytes 1 2
status_bytes status.Aborted = number_bytes 1 3

unfoldable pub wanted_bytes : Wanted → List ℕ
wanted_bytes (wants.Name name) = number_bytes 1 0 ⧺ name_bytes name
wanted_bytes (wants.Leaf leaf) = number_bytes 1 1 ⧺ leaf_bytes leaf

unfoldable pub pair_bytes : Pair → List ℕ
pair_bytes pair = number_bytes 8 pair.key ⧺ value_bytes pair.value

unfoldable pub pairs_bytes : List Pair → List ℕ
pairs_bytes pairs = number_bytes 2 (length pairs) ⧺ flat_map pair_bytes pairs
