use Rattle.std.proofs.Common.{◌≡◌, Some, ap, sym, ◌∙◌, length, arith}
use Rattle.std.specs.List.{position, find}
use Rattle.dds_locks.specs.Pending.{is_numbered}
use Rattle.dds_locks.proofs.Places.{removed-at, removed-none, found-at, found-none, slice_get-within}
use Rattle.dds_locks.proofs.Locked.{indexed-without}
use Rattle.dds_locks.proofs.pending.PendingSet.unlock.Goals as goal

pub returns-in_default-clause-value : goal.returns-in_default-clause-value
returns-in_default-clause-value c =
    let test = is_numbered c.args.txn in
    rw (← c.self.view_is) (sym (found-none test c.self.inside.items (sym (c.in_default.ensures.value ∙ ap (position test) c.as_slice.ensures))))

pub returns-in_default-clause-items : goal.returns-in_default-clause-items
returns-in_default-clause-items c =
    let test = is_numbered c.args.txn in
    rw (← c.self.view_is) (removed-none test c.self.inside.items (sym (c.in_default.ensures.value ∙ ap (position test) c.as_slice.ensures)))

pub invariant_of-self : goal.invariant_of-self
invariant_of-self c =
    let test = is_numbered c.args.txn in
    let place : position test c.self.inside.items ≡ Some c.in-Some.place = sym (c.in-Some.ensures.value ∙ ap (position test) c.as_slice.ensures) in
    let found : find test c.self.inside.items ≡ Some c.remove-pending.result = found-at test c.self.inside.items c.in-Some.place place
    ∙ slice_get-within c.self.inside.items c.in-Some.place c.remove-pending.result (omega (arith, c.in-Some.ensures.within, ap length c.as_slice.ensures))
    c.remove-pending.ensures.value in
    indexed-without c.self.inside.items c.remove-pending.new.self c.remove-pending.result c.key.result c.args.txn c.self.inside.keys c.remove.new.self
    c.self.inside.counts c.lower.new.counts c.self.invariant found
    (c.remove-pending.ensures.items ∙ removed-at test c.self.inside.items c.in-Some.place place) c.key.ensures c.remove.ensures.updates.0 c.lower.ensures

pub returns-clause-value : goal.returns-clause-value
returns-clause-value c =
    let test = is_numbered c.args.txn in
    let place : position test c.self.inside.items ≡ Some c.in-Some.place = sym (c.in-Some.ensures.value ∙ ap (position test) c.as_slice.ensures) in
    rw (← c.self.view_is) (sym (found-at test c.self.inside.items c.in-Some.place place
    ∙ slice_get-within c.self.inside.items c.in-Some.place c.remove-pending.result (omega (arith, c.in-Some.ensures.within, ap length c.as_slice.ensures))
    c.remove-pending.ensures.value))

pub returns-clause-items : goal.returns-clause-items
returns-clause-items c =
    let test = is_numbered c.args.txn in
    let place : position test c.self.inside.items ≡ Some c.in-Some.place = sym (c.in-Some.ensures.value ∙ ap (position test) c.as_slice.ensures) in
    rw (← c.self.view_is) (c.remove-pending.ensures.items ∙ removed-at test c.self.inside.items c.in-Some.place place)
