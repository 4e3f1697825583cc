-- Reading the fields of each kind of letter.
use Rattle.std.specs.Prelude.{ℕ, List}
use Rattle.dds_letters.specs.declared.letter.Letter.{Letter}
use Rattle.dds_letters.specs.declared.letter.Letter.TheVariants.{Get, Prepare, Commit, Abort, Push, MapAsk, Got, Vote, Applied, Aborted}
use Rattle.dds_letters.specs.declared.letter.Letter.TheVariants.{MapTell, Help, Query, Status, Outcome, Lease, Granted, LeaseRefused}
use Rattle.dds_letters.specs.declared.letter.Letter.TheVariants.{Release, CopyAsk, CopyPart, Install, Installed, Notice}
use Rattle.dds_frames.specs.declared.tag.Tag.{Tag}
use Rattle.dds_frames.specs.declared.tag.Tag.TheVariants as tags
use Rattle.dds_frames.specs.Reading.{Reading, number_at, nothing_at, ◌&◌, made}
use Rattle.dds_frames.specs.Parts.{flag_at, txn_at, caller_at, call_at, name_at, stamp_at, group_at, leaf_at, maybe_leaf_at, after_at}
use Rattle.dds_frames.specs.Parts.{update_at, refusal_at, answer_at, ballot_at, status_at, wanted_at, pairs_at}

unfoldable pub get_at : List ℕ → Reading Letter
get_at =
    made (λ f. Get f.0 f.1.0 f.1.1.0 f.1.1.1.0 f.1.1.1.1.0 f.1.1.1.1.1)
    (txn_at & caller_at & call_at & number_at 8 & name_at & stamp_at)

unfoldable pub prepare_at : List ℕ → Reading Letter
prepare_at =
    made (λ f. Prepare f.0 f.1.0 f.1.1.0 f.1.1.1.0 f.1.1.1.1.0 f.1.1.1.1.1.0 f.1.1.1.1.1.1.0 f.1.1.1.1.1.1.1)
    (txn_at & caller_at & call_at & number_at 8 & name_at & stamp_at & group_at & update_at)

unfoldable pub map_ask_at : List ℕ → Reading Letter
map_ask_at = made (λ f. MapAsk f.0 f.1.0 f.1.1.0 f.1.1.1) (txn_at & caller_at & call_at & number_at 8)

unfoldable pub copy_ask_at : List ℕ → Reading Letter
copy_ask_at = made (λ f. CopyAsk f.0 f.1.0 f.1.1) (number_at 8 & name_at & after_at)

unfoldable pub copy_part_at : List ℕ → Reading Letter
copy_part_at = made (λ f. CopyPart f.0 f.1.0 f.1.1) (number_at 8 & flag_at & pairs_at)

-- the letter of this kind that the first bytes spell
abbrev pub letter_at : Tag → List ℕ → Reading Letter
letter_at tags.Get = get_at
letter_at tags.Prepare = prepare_at
letter_at tags.Commit = made Commit txn_at
letter_at tags.Abort = made Abort txn_at
letter_at tags.Push = made Push leaf_at
letter_at tags.MapAsk = map_ask_at
letter_at tags.Got = made (λ f. Got f.0 f.1) (txn_at & answer_at)
letter_at tags.Vote = made (λ f. Vote f.0 f.1) (txn_at & ballot_at)
letter_at tags.Applied = made (λ f. Applied f.0 f.1) (txn_at & flag_at)
letter_at tags.Aborted = made Aborted txn_at
letter_at tags.MapTell = made (λ f. MapTell f.0 f.1) (txn_at & maybe_leaf_at)
letter_at tags.Help = made (λ f. Help f.0 f.1) (txn_at & group_at)
letter_at tags.Query = made (λ f. Query f.0 f.1) (txn_at & group_at)
letter_at tags.Status = made (λ f. Status f.0 f.1) (txn_at & status_at)
letter_at tags.Outcome = made (λ f. Outcome f.0 f.1) (txn_at & flag_at)
letter_at tags.Lease = made (λ f. Lease f.0 f.1) (number_at 8 & wanted_at)
letter_at tags.Granted = made (λ f. Granted f.0 f.1) (number_at 8 & leaf_at)
letter_at tags.LeaseRefused = made (λ f. LeaseRefused f.0 f.1) (number_at 8 & refusal_at)
letter_at tags.Release = made (λ f. Release f.0 f.1) (number_at 8 & name_at)
letter_at tags.CopyAsk = copy_ask_at
letter_at tags.CopyPart = copy_part_at
letter_at tags.Install = made (λ f. Install f.0 f.1) (number_at 8 & leaf_at)
letter_at tags.Installed = made (λ f. Installed f.0 f.1) (number_at 8 & name_at)
letter_at tags.Notice = made (λ _. Notice) nothing_at
