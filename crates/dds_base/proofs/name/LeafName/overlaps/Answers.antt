use Rattle.std.proofs.Common.{rules, ◌≡◌, ◌≤◌, ◌<◌, ◌^◌, ◌*◌, ◌%◌, nat_eq}
use Rattle.dds_base.specs.Name.{overlaps}
use Rattle.dds_base.proofs.Names.{shares-at, shares-from}
use Rattle.dds_base.proofs.name.LeafName.overlaps.Goals as goal

pub returns-clause-key : goal.returns-clause-key
returns-clause-key c =
    let value : nat_eq (c.from.result % (1 * 2 ^ c.min-shorter.result % 4294967296)) (c.from-2.result % (1 * 2 ^ c.min-shorter.result % 4294967296))
    ≡ overlaps c.args.self.now c.args.other.now = search rules in
    let da : c.args.self.now.depth ≤ 16 = rw (← c.self.view_is) c.self.invariant.0 in
    let db : c.args.other.now.depth ≤ 16 = rw (← c.other.view_is) c.other.invariant.0 in
    let ba : c.args.self.now.bits < 2 ^ c.args.self.now.depth = rw (← c.self.view_is) c.self.invariant.1 in
    let bb : c.args.other.now.bits < 2 ^ c.args.other.now.depth = rw (← c.other.view_is) c.other.invariant.1 in
    rw value (λ h. shares-from _ _ da db ba bb h, λ k. shares-at _ _ k.0 k.2 k.3)
