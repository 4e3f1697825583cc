-- The number of each kind of letter.
use Rattle.std.specs.Prelude.{ℕ, ◌==◌, List, [], ◌∷◌, Option, Some, None, if◌then◌else◌}
use Rattle.dds_frames.specs.declared.tag.Tag.{Tag}
use Rattle.dds_frames.specs.declared.tag.Tag.TheVariants.{Get, Prepare, Commit, Abort, Push, MapAsk, Got, Vote, Applied, Aborted, MapTell}
use Rattle.dds_frames.specs.declared.tag.Tag.TheVariants.{Help, Query, Status, Outcome, Lease, Granted, LeaseRefused, Release, CopyAsk}
use Rattle.dds_frames.specs.declared.tag.Tag.TheVariants.{CopyPart, Install, Installed, Notice}

abbrev pub tag_number : Tag → ℕ
tag_number Get = 1
tag_number Prepare = 2
tag_number Commit = 3
tag_number Abort = 4
tag_number Push = 5
tag_number MapAsk = 6
tag_number Got = 7
tag_number Vote = 8
tag_number Applied = 9
tag_number Aborted = 10
tag_number MapTell = 11
tag_number Help = 12
tag_number Query = 13
tag_number Status = 14
tag_number Outcome = 15
tag_number Lease = 16
tag_number Granted = 17
tag_number LeaseRefused = 18
tag_number Release = 19
tag_number CopyAsk = 20
tag_number CopyPart = 21
tag_number Install = 22
tag_number Installed = 23
tag_number Notice = 24

-- the kind among these that has this number
abbrev pub tag_among : List Tag → ℕ → Option Tag
tag_among [] n = None
tag_among (t ∷ ts) n = if n == tag_number t then Some t else tag_among ts n

abbrev pub all_tags : List Tag
all_tags =
    Get ∷ Prepare ∷ Commit ∷ Abort ∷ Push ∷ MapAsk ∷ Got ∷ Vote ∷ Applied ∷ Aborted ∷ MapTell ∷ Help ∷ Query ∷ Status ∷ Outcome ∷ Lease ∷ Granted
    ∷ LeaseRefused ∷ Release ∷ CopyAsk ∷ CopyPart ∷ Install ∷ Installed ∷ Notice ∷ []

-- the kind that has this number
unfoldable pub tag_with : ℕ → Option Tag
tag_with n = tag_among all_tags n
