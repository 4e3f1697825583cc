use Rattle.dds_cluster.proofs.Keys.{keys-none}
use Rattle.dds_cluster.specs.Lists.{call_cmp, is_call_of}
use Rattle.dds_cluster.specs.declared.asked_list.CallName.{CallName}
use Rattle.dds_cluster.specs.declared.trace.Asked.{Asked}
use Rattle.dds_cluster.proofs.asked_list.AskedList.new.Goals as goal

pub invariant_of-result : goal.invariant_of-result
invariant_of-result c =
    keys-none call_cmp (λ (name : CallName) (x : Asked). is_call_of name.caller name.call x) c.new.result.items
    c.new.result.rising.items c.new.result.others c.new.ensures.items c.new.ensures.rising c.new.ensures.keys
