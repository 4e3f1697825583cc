use Rattle.std.proofs.Common.{◌≡◌, None, refl}
use Rattle.dds_base.specs.Op.{the_key}
use Rattle.dds_locks.specs.Pending.{holder}
use Rattle.dds_locks.proofs.Locked.{indexed-push}
use Rattle.dds_locks.proofs.pending.PendingSet.lock.Goals as goal

pub invariant_of-self-in-Ok-push : goal.invariant_of-self-in-Ok-push
invariant_of-self-in-Ok-push c =
    let free : holder c.self.inside.items (the_key c.args.pending.op) ≡ None = rw c.self.view_is c.requires in
    rw c.in-Ok-push.ensures.ok (indexed-push c.self.inside.items c.args.pending c.key-key.result c.args.pending.txn c.self.inside.keys c.insert.new.self
    c.self.inside.counts c.raise.new.counts c.self.invariant c.key-key.ensures refl free c.in_ok-insert.ensures.updates.0 c.in-Ok.ensures.ok)
