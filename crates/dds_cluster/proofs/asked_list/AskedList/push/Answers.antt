use Rattle.std.proofs.Common.{◌≡◌, Some, arith}
use Rattle.std.proofs.lemmas.Bool.Decides.{nat_tests}
use Rattle.dds_cluster.proofs.Keys.{keys-after}
use Rattle.dds_cluster.specs.Keyed.{is_key}
use Rattle.dds_cluster.specs.Lists.{call_cmp, is_call_of}
use Rattle.dds_cluster.specs.declared.asked_list.CallName.{CallName}
use Rattle.dds_cluster.specs.declared.trace.Asked.{Asked}
use Rattle.dds_cluster.proofs.asked_list.AskedList.push.Goals as goal

its-key : (a : Asked) (name : CallName) → is_key call_cmp (Some (record { caller = a.caller; call = a.call })) name ≡ is_call_of name.caller name.call a
its-key a name = grind (arith, nat_tests)

pub invariant_of-self : goal.invariant_of-self
invariant_of-self c =
    keys-after call_cmp (λ (name : CallName) (x : Asked). is_call_of name.caller name.call x) c.self.inside.calls.items c.push.new.self.items c.args.asked
    (Some (record { caller = c.args.asked.caller; call = c.args.asked.call })) c.self.inside.calls.rising.items
    c.self.inside.calls.others c.push.new.self.rising.items c.push.new.self.others c.push.result c.self.invariant
    (its-key c.args.asked) c.push.ensures.rising c.push.ensures.items c.push.ensures.keys c.push.ensures.items_err c.push.ensures.keys_err
