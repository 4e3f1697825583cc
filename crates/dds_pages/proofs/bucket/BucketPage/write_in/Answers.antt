use Rattle.std.proofs.Common.{length, ap, arith}
use Rattle.dds_pages.proofs.PairPages.{pairs-few}
use Rattle.dds_pages.proofs.bucket.BucketPage.write_in.Goals as goal

pub overflow_cast-pairs : goal.overflow_cast-pairs
overflow_cast-pairs c =
    omega (arith, ap length c.as_slice-pairs.ensures, pairs-few c.self.inside.pairs, c.self.invariant.room)
