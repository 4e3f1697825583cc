use Rattle.std.proofs.Common.{ap, ◌∙◌}
use Rattle.dds_cluster.specs.Lists.{is_asked}
use Rattle.dds_cluster.proofs.asked_list.AskedList.is_asked.Goals as goal

pub returns : goal.returns
returns c =
    c.has.ensures ∙ c.self.invariant.1 (record { caller = c.args.caller; call = c.args.call })
    ∙ ap (λ xs. is_asked xs c.args.caller c.args.call) c.self.view_is
