use Rattle.dds_copies.proofs.Finishes.{finish-holds, finish-leaves}
use Rattle.dds_copies.proofs.Joins.{part-copies}
use Rattle.dds_copies.proofs.Points.{same-outside, still-copied}
use Rattle.dds_copies.proofs.Sources.{part-sent}
use Rattle.dds_copies.specs.Law.{CopyingKeepsTheTable}
use Rattle.dds_history.specs.Map.{after}

-- The steps of a join, all of them.

pub copying-keeps : CopyingKeepsTheTable
copying-keeps =
    record {
      answers = part-sent;
      grows = part-copies;
      stays = λ table op o phase out h. still-copied table (after table op) o phase (λ from. same-outside table op o.name from out) h;
      ends = λ table s o made via e none key over. finish-holds table s o key e none over;
      others = λ table s o made via key e out. finish-leaves table s o key e out;
    }
