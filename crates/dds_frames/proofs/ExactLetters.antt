-- The fields of each kind of letter are exact.
use Rattle.std.proofs.Common.{ℕ, ◌≡◌, List, [], ◌++◌, Ok, refl}
use Rattle.dds_letters.specs.declared.letter.Letter.{Letter}
use Rattle.dds_letters.specs.declared.letter.Letter.TheVariants.{Get, Prepare, Commit, Abort, Push, MapAsk, Got, Vote, Applied, Aborted}
use Rattle.dds_letters.specs.declared.letter.Letter.TheVariants.{MapTell, Help, Query, Status, Outcome, Lease, Granted, LeaseRefused}
use Rattle.dds_letters.specs.declared.letter.Letter.TheVariants.{Release, CopyAsk, CopyPart, Install, Installed, Notice}
use Rattle.dds_frames.specs.declared.tag.Tag.{Tag}
use Rattle.dds_frames.specs.declared.tag.Tag.TheVariants as tags
use Rattle.dds_frames.specs.Letters.{tag_of, field_bytes, IsInRange}
use Rattle.dds_frames.specs.Fields.{get_at, prepare_at, map_ask_at, copy_ask_at, copy_part_at, letter_at}
use Rattle.dds_frames.proofs.Exact.{Behind, ◌&&&◌, nothing_exact, made_again, made_behind}
use Rattle.dds_frames.proofs.ExactParts.{flag_exact, txn_exact, caller_exact, call_exact, word_exact, name_exact, stamp_exact, after_exact}
use Rattle.dds_frames.proofs.ExactParts.{update_exact, status_exact}
use Rattle.dds_frames.proofs.ExactLists.{group_exact, pairs_exact}
use Rattle.dds_frames.proofs.ExactRefusals.{leaf_exact, maybe_leaf_exact, refusal_exact, answer_exact, ballot_exact, wanted_exact}

-- the letter is of this kind, and within its ranges
abbrev pub IsOf : Tag → Letter → Type 0
IsOf tag letter = IsInRange letter × (tag_of letter ≡ tag)

-- what is read is a letter of the kind, and its fields are the bytes
pub letter_behind : (tag : Tag) → Behind (IsOf tag) field_bytes [] (letter_at tag)
unfolding get_at prepare_at map_ask_at copy_ask_at copy_part_at
letter_behind tags.Get = made_behind {fb = IsOf tags.Get} {sb = field_bytes} []
    (txn_exact &&& caller_exact &&& call_exact &&& word_exact &&& name_exact &&& stamp_exact) (λ f. Get f.0 f.1.0 f.1.1.0 f.1.1.1.0 f.1.1.1.1.0 f.1.1.1.1.1)
    (λ a. refl) (λ a f. (f, refl))
letter_behind tags.Prepare = made_behind {fb = IsOf tags.Prepare} {sb = field_bytes} []
    (txn_exact &&& caller_exact &&& call_exact &&& word_exact &&& name_exact &&& stamp_exact &&& group_exact &&& update_exact)
    (λ f. Prepare f.0 f.1.0 f.1.1.0 f.1.1.1.0 f.1.1.1.1.0 f.1.1.1.1.1.0 f.1.1.1.1.1.1.0 f.1.1.1.1.1.1.1) (λ a. refl) (λ a f. (f, refl))
letter_behind tags.Commit = made_behind {fb = IsOf tags.Commit} {sb = field_bytes} [] txn_exact Commit (λ a. refl) (λ a f. (f, refl))
letter_behind tags.Abort = made_behind {fb = IsOf tags.Abort} {sb = field_bytes} [] txn_exact Abort (λ a. refl) (λ a f. (f, refl))
letter_behind tags.Push = made_behind {fb = IsOf tags.Push} {sb = field_bytes} [] leaf_exact Push (λ a. refl) (λ a f. (f, refl))
letter_behind tags.MapAsk = made_behind {fb = IsOf tags.MapAsk} {sb = field_bytes} [] (txn_exact &&& caller_exact &&& call_exact &&& word_exact)
    (λ f. MapAsk f.0 f.1.0 f.1.1.0 f.1.1.1) (λ a. refl) (λ a f. (f, refl))
letter_behind tags.Got = made_behind {fb = IsOf tags.Got} {sb = field_bytes} [] (txn_exact &&& answer_exact) (λ f. Got f.0 f.1) (λ a. refl) (λ a f. (f, refl))
letter_behind tags.Vote = made_behind {fb = IsOf tags.Vote} {sb = field_bytes} [] (txn_exact &&& ballot_exact) (λ f. Vote f.0 f.1) (λ a. refl)
    (λ a f. (f, refl))
letter_behind tags.Applied = made_behind {fb = IsOf tags.Applied} {sb = field_bytes} [] (txn_exact &&& flag_exact) (λ f. Applied f.0 f.1) (λ a. refl)
    (λ a f. (f, refl))
letter_behind tags.Aborted = made_behind {fb = IsOf tags.Aborted} {sb = field_bytes} [] txn_exact Aborted (λ a. refl) (λ a f. (f, refl))
letter_behind tags.MapTell = made_behind {fb = IsOf tags.MapTell} {sb = field_bytes} [] (txn_exact &&& maybe_leaf_exact) (λ f. MapTell f.0 f.1) (λ a. refl)
    (λ a f. (f, refl))
letter_behind tags.Help = made_behind {fb = IsOf tags.Help} {sb = field_bytes} [] (txn_exact &&& group_exact) (λ f. Help f.0 f.1) (λ a. refl) (λ a f. (f, refl))
letter_behind tags.Query = made_behind {fb = IsOf tags.Query} {sb = field_bytes} [] (txn_exact &&& group_exact) (λ f. Query f.0 f.1) (λ a. refl)
    (λ a f. (f, refl))
letter_behind tags.Status = made_behind {fb = IsOf tags.Status} {sb = field_bytes} [] (txn_exact &&& status_exact) (λ f. Status f.0 f.1) (λ a. refl)
    (λ a f. (f, refl))
letter_behind tags.Outcome = made_behind {fb = IsOf tags.Outcome} {sb = field_bytes} [] (txn_exact &&& flag_exact) (λ f. Outcome f.0 f.1) (λ a. refl)
    (λ a f. (f, refl))
letter_behind tags.Lease = made_behind {fb = IsOf tags.Lease} {sb = field_bytes} [] (word_exact &&& wanted_exact) (λ f. Lease f.0 f.1) (λ a. refl)
    (λ a f. (f, refl))
letter_behind tags.Granted = made_behind {fb = IsOf tags.Granted} {sb = field_bytes} [] (word_exact &&& leaf_exact) (λ f. Granted f.0 f.1) (λ a. refl)
    (λ a f. (f, refl))
letter_behind tags.LeaseRefused = made_behind {fb = IsOf tags.LeaseRefused} {sb = field_bytes} [] (word_exact &&& refusal_exact) (λ f. LeaseRefused f.0 f.1)
    (λ a. refl) (λ a f. (f, refl))
letter_behind tags.Release = made_behind {fb = IsOf tags.Release} {sb = field_bytes} [] (word_exact &&& name_exact) (λ f. Release f.0 f.1) (λ a. refl)
    (λ a f. (f, refl))
letter_behind tags.CopyAsk = made_behind {fb = IsOf tags.CopyAsk} {sb = field_bytes} [] (word_exact &&& name_exact &&& after_exact)
    (λ f. CopyAsk f.0 f.1.0 f.1.1) (λ a. refl) (λ a f. (f, refl))
letter_behind tags.CopyPart = made_behind {fb = IsOf tags.CopyPart} {sb = field_bytes} [] (word_exact &&& flag_exact &&& pairs_exact)
    (λ f. CopyPart f.0 f.1.0 f.1.1) (λ a. refl) (λ a f. (f, refl))
letter_behind tags.Install = made_behind {fb = IsOf tags.Install} {sb = field_bytes} [] (word_exact &&& leaf_exact) (λ f. Install f.0 f.1) (λ a. refl)
    (λ a f. (f, refl))
letter_behind tags.Installed = made_behind {fb = IsOf tags.Installed} {sb = field_bytes} [] (word_exact &&& name_exact) (λ f. Installed f.0 f.1) (λ a. refl)
    (λ a f. (f, refl))
letter_behind tags.Notice = made_behind {fb = IsOf tags.Notice} {sb = field_bytes} [] nothing_exact (λ _. Notice) (λ a. refl) (λ a f. (f, refl))

-- what is spelled is read
pub letter_again : (letter : Letter) (rest : List ℕ) → IsInRange letter → letter_at (tag_of letter) (field_bytes letter ++ rest) ≡ Ok (letter, rest)
unfolding get_at prepare_at map_ask_at copy_ask_at copy_part_at
letter_again (Get txn caller call key name stamp) rest r =
    made_again (txn_exact &&& caller_exact &&& call_exact &&& word_exact &&& name_exact &&& stamp_exact)
    (λ f. Get f.0 f.1.0 f.1.1.0 f.1.1.1.0 f.1.1.1.1.0 f.1.1.1.1.1) (txn, (caller, (call, (key, (name, stamp))))) rest r
letter_again (Prepare txn caller call below name stamp list op) rest r =
    made_again (txn_exact &&& caller_exact &&& call_exact &&& word_exact &&& name_exact &&& stamp_exact &&& group_exact &&& update_exact)
    (λ f. Prepare f.0 f.1.0 f.1.1.0 f.1.1.1.0 f.1.1.1.1.0 f.1.1.1.1.1.0 f.1.1.1.1.1.1.0 f.1.1.1.1.1.1.1)
    (txn, (caller, (call, (below, (name, (stamp, (list, op))))))) rest r
letter_again (Commit txn) rest r = made_again txn_exact Commit txn rest r
letter_again (Abort txn) rest r = made_again txn_exact Abort txn rest r
letter_again (Push leaf) rest r = made_again leaf_exact Push leaf rest r
letter_again (MapAsk txn caller call key) rest r =
    made_again (txn_exact &&& caller_exact &&& call_exact &&& word_exact) (λ f. MapAsk f.0 f.1.0 f.1.1.0 f.1.1.1) (txn, (caller, (call, key))) rest r
letter_again (Got txn answer) rest r = made_again (txn_exact &&& answer_exact) (λ f. Got f.0 f.1) (txn, answer) rest r
letter_again (Vote txn vote) rest r = made_again (txn_exact &&& ballot_exact) (λ f. Vote f.0 f.1) (txn, vote) rest r
letter_again (Applied txn was) rest r = made_again (txn_exact &&& flag_exact) (λ f. Applied f.0 f.1) (txn, was) rest r
letter_again (Aborted txn) rest r = made_again txn_exact Aborted txn rest r
letter_again (MapTell txn leaf) rest r = made_again (txn_exact &&& maybe_leaf_exact) (λ f. MapTell f.0 f.1) (txn, leaf) rest r
letter_again (Help txn list) rest r = made_again (txn_exact &&& group_exact) (λ f. Help f.0 f.1) (txn, list) rest r
letter_again (Query txn list) rest r = made_again (txn_exact &&& group_exact) (λ f. Query f.0 f.1) (txn, list) rest r
letter_again (Status txn status) rest r = made_again (txn_exact &&& status_exact) (λ f. Status f.0 f.1) (txn, status) rest r
letter_again (Outcome txn commit) rest r = made_again (txn_exact &&& flag_exact) (λ f. Outcome f.0 f.1) (txn, commit) rest r
letter_again (Lease order what) rest r = made_again (word_exact &&& wanted_exact) (λ f. Lease f.0 f.1) (order, what) rest r
letter_again (Granted order leaf) rest r = made_again (word_exact &&& leaf_exact) (λ f. Granted f.0 f.1) (order, leaf) rest r
letter_again (LeaseRefused order refusal) rest r = made_again (word_exact &&& refusal_exact) (λ f. LeaseRefused f.0 f.1) (order, refusal) rest r
letter_again (Release order name) rest r = made_again (word_exact &&& name_exact) (λ f. Release f.0 f.1) (order, name) rest r
letter_again (CopyAsk order name after) rest r = made_again (word_exact &&& name_exact &&& after_exact) (λ f. CopyAsk f.0 f.1.0 f.1.1) (order, (name, after))
    rest r
letter_again (CopyPart order last pairs) rest r =
    made_again (word_exact &&& flag_exact &&& pairs_exact) (λ f. CopyPart f.0 f.1.0 f.1.1) (order, (last, pairs)) rest r
letter_again (Install order leaf) rest r = made_again (word_exact &&& leaf_exact) (λ f. Install f.0 f.1) (order, leaf) rest r
letter_again (Installed order name) rest r = made_again (word_exact &&& name_exact) (λ f. Installed f.0 f.1) (order, name) rest r
letter_again Notice rest r = made_again nothing_exact (λ _. Notice) tt rest r
