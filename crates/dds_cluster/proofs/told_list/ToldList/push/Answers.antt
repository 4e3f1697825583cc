use Rattle.std.proofs.Common.{◌≡◌, Option, Some, None, refl, arith}
use Rattle.std.proofs.lemmas.Bool.Decides.{nat_tests}
use Rattle.dds_base.specs.Number.{Txn}
use Rattle.dds_locks.specs.Outcomes.{txn_cmp}
use Rattle.dds_cluster.proofs.Keys.{keys-after}
use Rattle.dds_cluster.specs.Keyed.{is_key}
use Rattle.dds_cluster.specs.Lists.{is_read_of}
use Rattle.dds_cluster.specs.declared.trace.Told.{Told}
use Rattle.dds_cluster.proofs.told_list.ToldList.push.Goals as goal

its-key : (read : Option Txn) (txn : Txn) → is_key txn_cmp read txn ≡ is_read_of txn read
its-key None txn = refl
its-key (Some read) txn = grind (arith, nat_tests)

pub invariant_of-self : goal.invariant_of-self
invariant_of-self c =
    keys-after txn_cmp (λ txn (r : Told). is_read_of txn r.read) c.self.inside.answers.items c.push.new.self.items c.args.told c.args.told.read
    c.self.inside.answers.rising.items c.self.inside.answers.others c.push.new.self.rising.items c.push.new.self.others c.push.result c.self.invariant
    (its-key c.args.told.read) c.push.ensures.rising c.push.ensures.items c.push.ensures.keys
    c.push.ensures.items_err c.push.ensures.keys_err
