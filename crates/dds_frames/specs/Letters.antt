-- The bytes of a letter's fields, its tag, and its ranges.
use Rattle.std.specs.Prelude.{ℕ, List, []}
use Rattle.dds_letters.specs.declared.letter.Letter.{Letter}
use Rattle.dds_letters.specs.declared.letter.Letter.TheVariants.{Get, Prepare, Commit, Abort, Push, MapAsk, Got, Vote, Applied, Aborted}
use Rattle.dds_letters.specs.declared.letter.Letter.TheVariants.{MapTell, Help, Query, Status, Outcome, Lease, Granted, LeaseRefused}
use Rattle.dds_letters.specs.declared.letter.Letter.TheVariants.{Release, CopyAsk, CopyPart, Install, Installed, Notice}
use Rattle.dds_frames.specs.declared.tag.Tag.{Tag}
use Rattle.dds_frames.specs.declared.tag.Tag.TheVariants as tags
use Rattle.dds_frames.specs.Ranges.{IsTxn, IsCaller, IsCall, IsWord, IsName, IsStamp, IsGroup, IsLeaf, IfThere, IsUpdate, IsRefusal}
use Rattle.dds_frames.specs.Ranges.{IsAnswer, IsBallot, IsWanted, AreCopied}
use Rattle.dds_frames.specs.Spelling.{◌⧺◌, number_bytes, flag_bytes, txn_bytes, name_bytes, stamp_bytes, group_bytes, leaf_bytes}
use Rattle.dds_frames.specs.Spelling.{maybe_leaf_bytes, after_bytes, update_bytes, refusal_bytes, answer_bytes, ballot_bytes, status_bytes}
use Rattle.dds_frames.specs.Spelling.{wanted_bytes, pairs_bytes}

-- which kind of letter it is
abbrev pub tag_of : Letter → Tag
tag_of (Get txn caller call key name stamp) = tags.Get
tag_of (Prepare txn caller call below name stamp list op) = tags.Prepare
tag_of (Commit txn) = tags.Commit
tag_of (Abort txn) = tags.Abort
tag_of (Push leaf) = tags.Push
tag_of (MapAsk txn caller call key) = tags.MapAsk
tag_of (Got txn answer) = tags.Got
tag_of (Vote txn vote) = tags.Vote
tag_of (Applied txn was) = tags.Applied
tag_of (Aborted txn) = tags.Aborted
tag_of (MapTell txn leaf) = tags.MapTell
tag_of (Help txn list) = tags.Help
tag_of (Query txn list) = tags.Query
tag_of (Status txn status) = tags.Status
tag_of (Outcome txn commit) = tags.Outcome
tag_of (Lease order what) = tags.Lease
tag_of (Granted order leaf) = tags.Granted
tag_of (LeaseRefused order refusal) = tags.LeaseRefused
tag_of (Release order name) = tags.Release
tag_of (CopyAsk order name after) = tags.CopyAsk
tag_of (CopyPart order last pairs) = tags.CopyPart
tag_of (Install order leaf) = tags.Install
tag_of (Installed order name) = tags.Installed
tag_of Notice = tags.Notice

-- the bytes of its fields, in their order
abbrev pub field_bytes : Letter → List ℕ
field_bytes (Get txn caller call key name stamp) =
    txn_bytes txn ⧺ number_bytes 1 caller ⧺ number_bytes 4 call.0 ⧺ number_bytes 8 key ⧺ name_bytes name ⧺ stamp_bytes stamp
field_bytes (Prepare txn caller call below name stamp list op) =
    txn_bytes txn ⧺ number_bytes 1 caller ⧺ number_bytes 4 call.0 ⧺ number_bytes 8 below ⧺ name_bytes name ⧺ stamp_bytes stamp ⧺ group_bytes list ⧺
    update_bytes op
field_bytes (Commit txn) = txn_bytes txn
field_bytes (Abort txn) = txn_bytes txn
field_bytes (Push leaf) = leaf_bytes leaf
field_bytes (MapAsk txn caller call key) = txn_bytes txn ⧺ number_bytes 1 caller ⧺ number_bytes 4 call.0 ⧺ number_bytes 8 key
field_bytes (Got txn answer) = txn_bytes txn ⧺ answer_bytes answer
field_bytes (Vote txn vote) = txn_bytes txn ⧺ ballot_bytes vote
field_bytes (Applied txn was) = txn_bytes txn ⧺ flag_bytes was
field_bytes (Aborted txn) = txn_bytes txn
field_bytes (MapTell txn leaf) = txn_bytes txn ⧺ maybe_leaf_bytes leaf
field_bytes (Help txn list) = txn_bytes txn ⧺ group_bytes list
field_bytes (Query txn list) = txn_bytes txn ⧺ group_bytes list
field_bytes (Status txn status) = txn_bytes txn ⧺ status_bytes status
field_bytes (Outcome txn commit) = txn_bytes txn ⧺ flag_bytes commit
field_bytes (Lease order what) = number_bytes 8 order ⧺ wanted_bytes what
field_bytes (Granted order leaf) = number_bytes 8 order ⧺ leaf_bytes leaf
field_bytes (LeaseRefused order refusal) = number_bytes 8 order ⧺ refusal_bytes refusal
field_bytes (Release order name) = number_bytes 8 order ⧺ name_bytes name
field_bytes (CopyAsk order name after) = number_bytes 8 order ⧺ name_bytes name ⧺ after_bytes after
field_bytes (CopyPart order last pairs) = number_bytes 8 order ⧺ flag_bytes last ⧺ pairs_bytes pairs
field_bytes (Install order leaf) = number_bytes 8 order ⧺ leaf_bytes leaf
field_bytes (Installed order name) = number_bytes 8 order ⧺ name_bytes name
field_bytes Notice = []

-- each field is within the range of its type
abbrev pub IsInRange : Letter → Type 0
IsInRange (Get txn caller call key name stamp) = IsTxn txn × (IsCaller caller × (IsCall call × (IsWord key × (IsName name × IsStamp stamp))))
IsInRange (Prepare txn caller call below name stamp list op) =
    IsTxn txn × (IsCaller caller × (IsCall call × (IsWord below × (IsName name × (IsStamp stamp × (IsGroup list × IsUpdate op))))))
IsInRange (Commit txn) = IsTxn txn
IsInRange (Abort txn) = IsTxn txn
IsInRange (Push leaf) = IsLeaf leaf
IsInRange (MapAsk txn caller call key) = IsTxn txn × (IsCaller caller × (IsCall call × IsWord key))
IsInRange (Got txn answer) = IsTxn txn × IsAnswer answer
IsInRange (Vote txn vote) = IsTxn txn × IsBallot vote
IsInRange (Applied txn was) = IsTxn txn × Unit {0}
IsInRange (Aborted txn) = IsTxn txn
IsInRange (MapTell txn leaf) = IsTxn txn × IfThere IsLeaf leaf
IsInRange (Help txn list) = IsTxn txn × IsGroup list
IsInRange (Query txn list) = IsTxn txn × IsGroup list
IsInRange (Status txn status) = IsTxn txn × Unit {0}
IsInRange (Outcome txn commit) = IsTxn txn × Unit {0}
IsInRange (Lease order what) = IsWord order × IsWanted what
IsInRange (Granted order leaf) = IsWord order × IsLeaf leaf
IsInRange (LeaseRefused order refusal) = IsWord order × IsRefusal refusal
IsInRange (Release order name) = IsWord order × IsName name
IsInRange (CopyAsk order name after) = IsWord order × (IsName name × IfThere IsWord after)
IsInRange (CopyPart order last pairs) = IsWord order × (Unit {0} × AreCopied pairs)
IsInRange (Install order leaf) = IsWord order × IsLeaf leaf
IsInRange (Installed order name) = IsWord order × IsName name
IsInRange Notice = Unit {0}
