use Rattle.dds_locks.specs.Outcomes.{txn_cmp}
use Rattle.dds_cluster.proofs.Keys.{keys-none}
use Rattle.dds_cluster.specs.Lists.{is_update_of}
use Rattle.dds_cluster.proofs.made_list.MadeList.new.Goals as goal

pub invariant_of-result : goal.invariant_of-result
invariant_of-result c =
    keys-none txn_cmp is_update_of c.new.result.items c.new.result.rising.items c.new.result.others c.new.ensures.items c.new.ensures.rising c.new.ensures.keys
