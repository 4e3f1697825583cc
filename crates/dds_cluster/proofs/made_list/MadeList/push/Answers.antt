use Rattle.dds_locks.specs.Outcomes.{txn_cmp}
use Rattle.dds_cluster.proofs.Keys.{keys-after}
use Rattle.dds_cluster.specs.Lists.{is_update_of}
use Rattle.dds_cluster.proofs.made_list.MadeList.push.Goals as goal

pub invariant_of-self : goal.invariant_of-self
invariant_of-self c =
    keys-after txn_cmp is_update_of c.self.inside.points.items c.push.new.self.items c.args.made c.applied_by-key.result c.self.inside.points.rising.items
    c.self.inside.points.others c.push.new.self.rising.items c.push.new.self.others c.push.result c.self.invariant c.applied_by-key.ensures
    c.push.ensures.rising c.push.ensures.items c.push.ensures.keys c.push.ensures.items_err
    c.push.ensures.keys_err
