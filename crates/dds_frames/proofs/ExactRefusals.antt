-- Leaves, and what bricks answer by them, are exact.
use Rattle.std.proofs.Common.{ℕ, ◌≡◌, List, ◌++◌, Option, Ok, refl, ◌∙◌, lit<}
use Rattle.dds_base.specs.declared.leaf.Leaf.{Leaf}
use Rattle.dds_letters.specs.declared.refusal.Refusal.{Refusal}
use Rattle.dds_letters.specs.declared.refusal.Refusal.TheVariants as refusals
use Rattle.dds_letters.specs.declared.refusal.Denial.{Denial}
use Rattle.dds_letters.specs.declared.refusal.Denial.TheVariants as denials
use Rattle.dds_letters.specs.declared.refusal.Answer.{Answer}
use Rattle.dds_letters.specs.declared.refusal.Answer.TheVariants as answers
use Rattle.dds_letters.specs.declared.refusal.Ballot.{Ballot}
use Rattle.dds_letters.specs.declared.refusal.Ballot.TheVariants.{Yes, No}
use Rattle.dds_letters.specs.declared.refusal.Wanted.{Wanted}
use Rattle.dds_letters.specs.declared.refusal.Wanted.TheVariants as wants
use Rattle.dds_frames.specs.Ranges.{IsLeaf, IfThere, IsRefusal, IsDenial, IsAnswer, IsBallot, IsWanted}
use Rattle.dds_frames.specs.Spelling.{number_bytes, leaf_bytes, maybe_leaf_bytes, refusal_bytes, denial_bytes, value_bytes, answer_bytes}
use Rattle.dds_frames.specs.Spelling.{ballot_bytes, name_bytes, wanted_bytes}
use Rattle.dds_frames.specs.Parts.{leaf_at, maybe_leaf_at, refusal_at, refusal_kinds, denial_at, denial_kinds, answer_at, answer_kinds}
use Rattle.dds_frames.specs.Parts.{ballot_at, ballot_kinds, wanted_at, wanted_kinds}
use Rattle.dds_frames.proofs.Exact.{Exact, ◌&&&◌, made_again, made_behind, made_exact, kind_again, kind_alone, kind_exact, kind_behind}
use Rattle.dds_frames.proofs.ExactParts.{word_exact, name_exact, stamp_exact, optional_exact, value_exact}
use Rattle.dds_frames.proofs.ExactLists.{group_exact}

pub leaf_exact : Exact IsLeaf leaf_bytes leaf_at
unfolding leaf_at leaf_bytes
leaf_exact =
    made_exact (name_exact &&& word_exact &&& stamp_exact &&& stamp_exact &&& group_exact)
    (λ f. record { name = f.0; epoch = f.1.0; stamp = f.1.1.0; prev = f.1.1.1.0; list = f.1.1.1.1 })
    (λ (l : Leaf). (l.name, (l.epoch, (l.stamp, (l.prev, l.list)))))
    (λ l. refl) (λ a. refl)
    (λ a f. record { name = f.0; epoch = f.1.0; stamp = f.1.1.0; prev = f.1.1.1.0; list = f.1.1.1.1 })
    (λ l f. (f.name, (f.epoch, (f.stamp, (f.prev, f.list)))))

pub maybe_leaf_exact : Exact (IfThere IsLeaf) maybe_leaf_bytes maybe_leaf_at
unfolding maybe_leaf_at maybe_leaf_bytes
maybe_leaf_exact = optional_exact leaf_exact

refusal_again : (x : Refusal) (rest : List ℕ) → IsRefusal x → refusal_at (refusal_bytes x ++ rest) ≡ Ok (x, rest)
unfolding refusal_at refusal_bytes
refusal_again refusals.Lease rest f = kind_alone refusal_kinds 1 rest (lit< tt)
refusal_again refusals.Lock rest f = kind_alone refusal_kinds 2 rest (lit< tt)
refusal_again (refusals.Stale leaf) rest f = kind_again refusal_kinds 3 (maybe_leaf_bytes leaf) rest (lit< tt)
    ∙ made_again maybe_leaf_exact refusals.Stale leaf rest f

pub refusal_exact : Exact IsRefusal refusal_bytes refusal_at
unfolding refusal_at refusal_bytes
refusal_exact =
    kind_exact IsRefusal refusal_bytes refusal_kinds (
      kind_behind {fb = IsRefusal} {sb = refusal_bytes} (number_bytes 1 1) refusals.Lease refl tt,
      (
        kind_behind {fb = IsRefusal} {sb = refusal_bytes} (number_bytes 1 2) refusals.Lock refl tt,
        (made_behind {fb = IsRefusal} {sb = refusal_bytes} (number_bytes 1 3) maybe_leaf_exact refusals.Stale (λ a. refl) (λ a f. f), tt),
      ),
    )
    (refusal_again)

denial_again : (x : Denial) (rest : List ℕ) → IsDenial x → denial_at (denial_bytes x ++ rest) ≡ Ok (x, rest)
unfolding denial_at denial_bytes refusal_bytes
denial_again (denials.Refused refusals.Lease) rest f = kind_alone denial_kinds 1 rest (lit< tt)
denial_again (denials.Refused refusals.Lock) rest f = kind_alone denial_kinds 2 rest (lit< tt)
denial_again (denials.Refused (refusals.Stale leaf)) rest f =
    kind_again denial_kinds 3 (maybe_leaf_bytes leaf) rest (lit< tt)
    ∙ made_again maybe_leaf_exact (λ (leaf : Option Leaf). denials.Refused (refusals.Stale leaf)) leaf rest f
denial_again denials.Full rest f = kind_alone denial_kinds 4 rest (lit< tt)

pub denial_exact : Exact IsDenial denial_bytes denial_at
unfolding denial_at denial_bytes refusal_bytes
denial_exact =
    kind_exact IsDenial denial_bytes denial_kinds (
      kind_behind {fb = IsDenial} {sb = denial_bytes} (number_bytes 1 1) (denials.Refused refusals.Lease) refl tt,
      (
        kind_behind {fb = IsDenial} {sb = denial_bytes} (number_bytes 1 2) (denials.Refused refusals.Lock) refl tt,
        (
          made_behind {fb = IsDenial} {sb = denial_bytes} (number_bytes 1 3) maybe_leaf_exact (λ (leaf : Option Leaf). denials.Refused (refusals.Stale leaf))
              (λ a. refl) (λ a f. f),
          (kind_behind {fb = IsDenial} {sb = denial_bytes} (number_bytes 1 4) denials.Full refl tt, tt),
        ),
      ),
    )
    (denial_again)

answer_again : (x : Answer) (rest : List ℕ) → IsAnswer x → answer_at (answer_bytes x ++ rest) ≡ Ok (x, rest)
unfolding answer_at answer_bytes
answer_again answers.Absent rest f = kind_alone answer_kinds 0 rest (lit< tt)
answer_again (answers.Value value) rest f = kind_again answer_kinds 1 (value_bytes value) rest (lit< tt) ∙ made_again value_exact answers.Value value rest f
answer_again (answers.Refused refusal) rest f = kind_again answer_kinds 2 (refusal_bytes refusal) rest (lit< tt)
    ∙ made_again refusal_exact answers.Refused refusal rest f

pub answer_exact : Exact IsAnswer answer_bytes answer_at
unfolding answer_at answer_bytes
answer_exact =
    kind_exact IsAnswer answer_bytes answer_kinds (
      kind_behind {fb = IsAnswer} {sb = answer_bytes} (number_bytes 1 0) answers.Absent refl tt,
      (
        made_behind {fb = IsAnswer} {sb = answer_bytes} (number_bytes 1 1) value_exact answers.Value (λ a. refl) (λ a f. f),
        (made_behind {fb = IsAnswer} {sb = answer_bytes} (number_bytes 1 2) refusal_exact answers.Refused (λ a. refl) (λ a f. f), tt),
      ),
    )
    (answer_again)

ballot_again : (x : Ballot) (rest : List ℕ) → IsBallot x → ballot_at (ballot_bytes x ++ rest) ≡ Ok (x, rest)
unfolding ballot_at ballot_bytes
ballot_again Yes rest f = kind_alone ballot_kinds 0 rest (lit< tt)
ballot_again (No denial) rest f = kind_again ballot_kinds 1 (denial_bytes denial) rest (lit< tt) ∙ made_again denial_exact No denial rest f

pub ballot_exact : Exact IsBallot ballot_bytes ballot_at
unfolding ballot_at ballot_bytes
ballot_exact =
    kind_exact IsBallot ballot_bytes ballot_kinds (
      kind_behind {fb = IsBallot} {sb = ballot_bytes} (number_bytes 1 0) Yes refl tt,
      (made_behind {fb = IsBallot} {sb = ballot_bytes} (number_bytes 1 1) denial_exact No (λ a. refl) (λ a f. f), tt),
    )
    (ballot_again)

wanted_again : (x : Wanted) (rest : List ℕ) → IsWanted x → wanted_at (wanted_bytes x ++ rest) ≡ Ok (x, rest)
unfolding wanted_at wanted_bytes
wanted_again (wants.Name name) rest f = kind_again wanted_kinds 0 (name_bytes name) rest (lit< tt) ∙ made_again name_exact wants.Name name rest f
wanted_again (wants.Leaf leaf) rest f = kind_again wanted_kinds 1 (leaf_bytes leaf) rest (lit< tt) ∙ made_again leaf_exact wants.Leaf leaf rest f

pub wanted_exact : Exact IsWanted wanted_bytes wanted_at
unfolding wanted_at wanted_bytes
wanted_exact =
    kind_exact IsWanted wanted_bytes wanted_kinds (
      made_behind {fb = IsWanted} {sb = wanted_bytes} (number_bytes 1 0) name_exact wants.Name (λ a. refl) (λ a f. f),
      (made_behind {fb = IsWanted} {sb = wanted_bytes} (number_bytes 1 1) leaf_exact wants.Leaf (λ a. refl) (λ a f. f), tt),
    )
    (wanted_again)
