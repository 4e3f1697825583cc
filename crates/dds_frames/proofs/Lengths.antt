-- How long fields are at most: the fields of a letter fit into a frame.
use Rattle.std.proofs.Common.{ℕ, ◌≡◌, ◌+◌, ◌*◌, ◌≤◌, Bool, true, false, List, [], ◌∷◌, ◌++◌, length, Option, Some, None, refl, ◌∙◌, ap, arith, length-append}
use Rattle.std.specs.List.{flat_map}
use Rattle.std.proofs.lemmas.Bool.Decides.{nat_tests}
use Rattle.std.proofs.lemmas.List.Concat.{flat_map-cons}
use Rattle.dds_base.specs.Number.{Txn, StampOf}
use Rattle.dds_base.specs.Name.{Name}
use Rattle.dds_base.specs.declared.leaf.Leaf.{Leaf}
use Rattle.dds_base.specs.declared.op.Op.{Op}
use Rattle.dds_base.specs.declared.op.Op.TheVariants.{Get as GetOp, Put, Remove, Swap}
use Rattle.dds_base.specs.declared.pair.Pair.{Pair}
use Rattle.dds_base.specs.declared.pending.TxnStatus.{TxnStatus}
use Rattle.dds_base.specs.declared.pending.TxnStatus.TheVariants as status
use Rattle.dds_letters.specs.declared.refusal.Refusal.{Refusal}
use Rattle.dds_letters.specs.declared.refusal.Refusal.TheVariants as refusals
use Rattle.dds_letters.specs.declared.refusal.Denial.{Denial}
use Rattle.dds_letters.specs.declared.refusal.Denial.TheVariants as denials
use Rattle.dds_letters.specs.declared.refusal.Answer.{Answer}
use Rattle.dds_letters.specs.declared.refusal.Answer.TheVariants as answers
use Rattle.dds_letters.specs.declared.refusal.Ballot.{Ballot}
use Rattle.dds_letters.specs.declared.refusal.Ballot.TheVariants.{Yes, No}
use Rattle.dds_letters.specs.declared.refusal.Wanted.{Wanted}
use Rattle.dds_letters.specs.declared.refusal.Wanted.TheVariants as wants
use Rattle.dds_letters.specs.declared.letter.Letter.{Letter}
use Rattle.dds_letters.specs.declared.letter.Letter.TheVariants.{Get, Prepare, Commit, Abort, Push, MapAsk, Got, Vote, Applied, Aborted}
use Rattle.dds_letters.specs.declared.letter.Letter.TheVariants.{MapTell, Help, Query, Status, Outcome, Lease, Granted, LeaseRefused}
use Rattle.dds_letters.specs.declared.letter.Letter.TheVariants.{Release, CopyAsk, CopyPart, Install, Installed, Notice}
use Rattle.dds_frames.specs.Ranges.{IsGroup, IsValue, IsUpdate, IsLeaf, IfThere, IsRefusal, IsDenial, IsAnswer, IsBallot, IsWanted, IsPair, ArePairs, AreCopied}
use Rattle.dds_frames.specs.Spelling.{number_bytes, flag_bytes, txn_bytes, name_bytes, stamp_bytes, group_bytes, leaf_bytes}
use Rattle.dds_frames.specs.Spelling.{maybe_leaf_bytes, after_bytes, value_bytes, update_bytes, refusal_bytes, denial_bytes, answer_bytes}
use Rattle.dds_frames.specs.Spelling.{ballot_bytes, status_bytes, wanted_bytes, pair_bytes, pairs_bytes}
use Rattle.dds_frames.specs.Letters.{field_bytes, IsInRange}
use Rattle.dds_frames.proofs.Numbers.{length-number}

-- two parts are as long as both
joined-short : (a b : List ℕ) (n m : ℕ) → length a ≤ n → length b ≤ m → length (a ++ b) ≤ n + m
joined-short a b n m h k = omega (arith, length-append a b)

number-short : (n x : ℕ) → length (number_bytes n x) ≤ n
number-short n x = omega (arith, length-number n x)

flag-short : (f : Bool) → length (flag_bytes f) ≤ 1
unfolding flag_bytes
flag-short false = number-short 1 0
flag-short true = number-short 1 1

txn-short : (t : Txn) → length (txn_bytes t) ≤ 9
unfolding txn_bytes
txn-short t = joined-short _ _ 1 8 (number-short 1 t.library) (number-short 8 t.number)

name-short : (n : Name) → length (name_bytes n) ≤ 3
unfolding name_bytes
name-short n = joined-short _ _ 1 2 (number-short 1 n.depth) (number-short 2 n.bits)

stamp-short : (s : StampOf) → length (stamp_bytes s) ≤ 9
unfolding stamp_bytes
stamp-short s = joined-short _ _ 1 8 (number-short 1 s.maker) (number-short 8 s.count)

bricks-long : (bricks : List ℕ) → length (flat_map (number_bytes 1) bricks) ≡ length bricks
bricks-long [] = refl
bricks-long (b ∷ bricks) =
    let e = bricks-long bricks in
    let l = ap length (flat_map-cons (number_bytes 1) b bricks) ∙ length-append (number_bytes 1 b) (flat_map (number_bytes 1) bricks) in
    let one = length-number 1 b in
    omega (arith, e, l, one)

group-few : (bricks : List ℕ) → IsGroup bricks → length bricks ≤ 8
group-few bricks h = grind (arith, nat_tests, h)

group-short : (bricks : List ℕ) → IsGroup bricks → length (group_bytes bricks) ≤ 9
unfolding group_bytes
group-short bricks h = joined-short _ _ 1 8 (number-short 1 (length bricks)) (omega (arith, bricks-long bricks, group-few bricks h))

leaf-short : (l : Leaf) → IsLeaf l → length (leaf_bytes l) ≤ 38
unfolding leaf_bytes
leaf-short l h =
    joined-short _ _ 3 35 (name-short l.name)
    (joined-short _ _ 8 27 (number-short 8 l.epoch)
    (joined-short _ _ 9 18 (stamp-short l.stamp) (joined-short _ _ 9 9 (stamp-short l.prev) (group-short l.list h.list))))

maybe-leaf-short : (l : Option Leaf) → IfThere IsLeaf l → length (maybe_leaf_bytes l) ≤ 39
unfolding maybe_leaf_bytes
maybe-leaf-short None h = omega (arith, number-short 1 0)
maybe-leaf-short (Some l) h = joined-short _ _ 1 38 (number-short 1 1) (leaf-short l h)

after-short : (key : Option ℕ) → length (after_bytes key) ≤ 9
unfolding after_bytes
after-short None = omega (arith, number-short 1 0)
after-short (Some key) = joined-short _ _ 1 8 (number-short 1 1) (number-short 8 key)

value-short : (value : List ℕ) → IsValue value → length (value_bytes value) ≤ 60002
unfolding value_bytes
value-short value h = joined-short _ _ 2 60000 (number-short 2 (length value)) h

update-short : (op : Op) → IsUpdate op → length (update_bytes op) ≤ 120013
unfolding update_bytes
update-short (GetOp key) h = absurd h
update-short (Put key value) h = omega (
  arith,
  joined-short _ _ 1 60010 (number-short 1 1) (joined-short _ _ 8 60002 (number-short 8 key) (value-short value h.1)),
)
update-short (Remove key) h = omega (arith, joined-short _ _ 1 8 (number-short 1 2) (number-short 8 key))
update-short (Swap key expected value) h =
    joined-short _ _ 1 120012 (number-short 1 3)
    (joined-short _ _ 8 120004 (number-short 8 key) (joined-short _ _ 60002 60002 (value-short expected h.1.0) (value-short value h.1.1)))

refusal-short : (x : Refusal) → IsRefusal x → length (refusal_bytes x) ≤ 40
unfolding refusal_bytes
refusal-short refusals.Lease h = omega (arith, number-short 1 1)
refusal-short refusals.Lock h = omega (arith, number-short 1 2)
refusal-short (refusals.Stale leaf) h = joined-short _ _ 1 39 (number-short 1 3) (maybe-leaf-short leaf h)

denial-short : (x : Denial) → IsDenial x → length (denial_bytes x) ≤ 40
unfolding denial_bytes
denial-short (denials.Refused refusal) h = refusal-short refusal h
denial-short denials.Full h = omega (arith, number-short 1 4)

answer-short : (x : Answer) → IsAnswer x → length (answer_bytes x) ≤ 60003
unfolding answer_bytes
answer-short answers.Absent h = omega (arith, number-short 1 0)
answer-short (answers.Value value) h = joined-short _ _ 1 60002 (number-short 1 1) (value-short value h)
answer-short (answers.Refused refusal) h = omega (arith, joined-short _ _ 1 40 (number-short 1 2) (refusal-short refusal h))

ballot-short : (x : Ballot) → IsBallot x → length (ballot_bytes x) ≤ 41
unfolding ballot_bytes
ballot-short Yes h = omega (arith, number-short 1 0)
ballot-short (No denial) h = joined-short _ _ 1 40 (number-short 1 1) (denial-short denial h)

status-short : (x : TxnStatus) → length (status_bytes x) ≤ 1
unfolding status_bytes
status-short status.NotPrepared = number-short 1 0
status-short status.Prepared = number-short 1 1
status-short status.Committed = number-short 1 2
status-short status.Aborted = number-short 1 3

wanted-short : (x : Wanted) → IsWanted x → length (wanted_bytes x) ≤ 39
unfolding wanted_bytes
wanted-short (wants.Name name) h = omega (arith, joined-short _ _ 1 3 (number-short 1 0) (name-short name))
wanted-short (wants.Leaf leaf) h = joined-short _ _ 1 38 (number-short 1 1) (leaf-short leaf h)

pair-short : (p : Pair) → IsPair p → length (pair_bytes p) ≤ 60010
unfolding pair_bytes
pair-short p h = joined-short _ _ 8 60002 (number-short 8 p.key) (value-short p.value h.1)

all-short : (pairs : List Pair) → ArePairs pairs → length (flat_map pair_bytes pairs) ≤ 60010 * length pairs
all-short [] h = omega arith
all-short (p ∷ pairs) h =
    let e = all-short pairs h.1 in
    let l = ap length (flat_map-cons pair_bytes p pairs) ∙ length-append (pair_bytes p) (flat_map pair_bytes pairs) in
    let one = pair-short p h.0 in
    omega (arith, e, l, one)

pairs-short : (pairs : List Pair) → AreCopied pairs → length (pairs_bytes pairs) ≤ 1920322
unfolding pairs_bytes
pairs-short pairs h = joined-short _ _ 2 1920320 (number-short 2 (length pairs)) (omega (arith, all-short pairs h.each, h.few))

-- the fields of a letter have room in a frame
pub fields-short : (letter : Letter) → IsInRange letter → length (field_bytes letter) ≤ 67108862
fields-short (Get txn caller call key name stamp) h =
    omega (
      arith,
      (joined-short _ _ 9 25 (txn-short txn)
          (joined-short _ _ 1 24 (number-short 1 caller)
          (joined-short _ _ 4 20 (number-short 4 call.0)
          (joined-short _ _ 8 12 (number-short 8 key) (joined-short _ _ 3 9 (name-short name) (stamp-short stamp)))))),
    )
fields-short (Prepare txn caller call below name stamp list op) h =
    omega (
      arith,
      (joined-short _ _ 9 120047 (txn-short txn)
          (joined-short _ _ 1 120046 (number-short 1 caller)
          (joined-short _ _ 4 120042 (number-short 4 call.0)
          (joined-short _ _ 8 120034 (number-short 8 below)
          (joined-short _ _ 3 120031 (name-short name)
          (joined-short _ _ 9 120022 (stamp-short stamp)
          (joined-short _ _ 9 120013 (group-short list h.1.1.1.1.1.1.0) (update-short op h.1.1.1.1.1.1.1)))))))),
    )
fields-short (Commit txn) h = omega (arith, (txn-short txn))
fields-short (Abort txn) h = omega (arith, (txn-short txn))
fields-short (Push leaf) h = omega (arith, (leaf-short leaf h))
fields-short (MapAsk txn caller call key) h =
    omega (
      arith,
      (joined-short _ _ 9 13 (txn-short txn)
          (joined-short _ _ 1 12 (number-short 1 caller) (joined-short _ _ 4 8 (number-short 4 call.0) (number-short 8 key)))),
    )
fields-short (Got txn answer) h = omega (arith, (joined-short _ _ 9 60003 (txn-short txn) (answer-short answer h.1)))
fields-short (Vote txn vote) h = omega (arith, (joined-short _ _ 9 41 (txn-short txn) (ballot-short vote h.1)))
fields-short (Applied txn was) h = omega (arith, (joined-short _ _ 9 1 (txn-short txn) (flag-short was)))
fields-short (Aborted txn) h = omega (arith, (txn-short txn))
fields-short (MapTell txn leaf) h = omega (arith, (joined-short _ _ 9 39 (txn-short txn) (maybe-leaf-short leaf h.1)))
fields-short (Help txn list) h = omega (arith, (joined-short _ _ 9 9 (txn-short txn) (group-short list h.1)))
fields-short (Query txn list) h = omega (arith, (joined-short _ _ 9 9 (txn-short txn) (group-short list h.1)))
fields-short (Status txn status) h = omega (arith, (joined-short _ _ 9 1 (txn-short txn) (status-short status)))
fields-short (Outcome txn commit) h = omega (arith, (joined-short _ _ 9 1 (txn-short txn) (flag-short commit)))
fields-short (Lease order what) h = omega (arith, (joined-short _ _ 8 39 (number-short 8 order) (wanted-short what h.1)))
fields-short (Granted order leaf) h = omega (arith, (joined-short _ _ 8 38 (number-short 8 order) (leaf-short leaf h.1)))
fields-short (LeaseRefused order refusal) h = omega (arith, (joined-short _ _ 8 40 (number-short 8 order) (refusal-short refusal h.1)))
fields-short (Release order name) h = omega (arith, (joined-short _ _ 8 3 (number-short 8 order) (name-short name)))
fields-short (CopyAsk order name after) h =
    omega (arith, (joined-short _ _ 8 12 (number-short 8 order) (joined-short _ _ 3 9 (name-short name) (after-short after))))
fields-short (CopyPart order last pairs) h =
    omega (arith, (joined-short _ _ 8 1920323 (number-short 8 order) (joined-short _ _ 1 1920322 (flag-short last) (pairs-short pairs h.1.1))))
fields-short (Install order leaf) h = omega (arith, (joined-short _ _ 8 38 (number-short 8 order) (leaf-short leaf h.1)))
fields-short (Installed order name) h = omega (arith, (joined-short _ _ 8 3 (number-short 8 order) (name-short name)))
fields-short Notice h = omega arith
