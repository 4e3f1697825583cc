use Rattle.std.proofs.Common.{◌∙◌}
use Rattle.dds_cluster.proofs.KeyLists.{searched}
use Rattle.dds_cluster.proofs.keyed.is_among.Goals as goal

pub returns : goal.returns
returns g c =
    c.is_ok.ensures.value ∙ searched g.met.K.Ord.total c.args.keys.now c.args.key.now c.binary_search.result c.requires c.binary_search.ensures.bound
    c.binary_search.ensures.position
