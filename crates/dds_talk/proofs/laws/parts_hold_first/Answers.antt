use Rattle.dds_talk.proofs.Groups.{group-of}
use Rattle.dds_talk.proofs.Keeps.{commit-kept-over, noted-once}
use Rattle.dds_talk.proofs.Start.{start-commit}
use Rattle.dds_talk.proofs.laws.parts_hold_first.Goals as goal

-- with it are checked that each event keeps them, and what makes a group
pub returns : goal.returns
returns c = let kept = commit-kept-over in let once = noted-once in start-commit
