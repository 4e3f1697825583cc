use Rattle.std.proofs.Common.{refl, arith}
use Rattle.std.proofs.lemmas.Grind.{common_steps}
use Rattle.dds_pages.specs.Root.{numbers_at}
use Rattle.dds_pages.proofs.RootPages.{numbers-set}
use Rattle.dds_pages.proofs.root.firsts_of.Goals as goal

pub buckets-init : goal.buckets-init
unfolding numbers_at
buckets-init c = record { long = refl; read = refl }

pub buckets-preserved : goal.buckets-preserved
buckets-preserved c = record {
  long = grind (arith, common_steps);
  read = numbers-set c.args.page.now c.buckets.firsts 16 c.buckets.bucket c.number8_at.result c.buckets.invariant.read (omega arith) c.number8_at.ensures;
}
