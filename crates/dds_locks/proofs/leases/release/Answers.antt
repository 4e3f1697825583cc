use Rattle.std.proofs.Common.{ap, sym, ◌∙◌}
use Rattle.std.specs.List.{position}
use Rattle.dds_locks.specs.Leases.{is_lease}
use Rattle.dds_locks.proofs.Places.{removed-at, removed-none}
use Rattle.dds_locks.proofs.leases.release.Goals as goal

pub returns-in-Some : goal.returns-in-Some
returns-in-Some c =
    let test = is_lease c.args.name c.args.to in
    c.remove.ensures.items ∙ removed-at test c.args.leases.now c.in-Some.place (sym (c.in-Some.ensures.value ∙ ap (position test) c.as_slice.ensures))

pub returns-in_default : goal.returns-in_default
returns-in_default c =
    let test = is_lease c.args.name c.args.to in
    removed-none test c.args.leases.now (sym (c.in_default.ensures.value ∙ ap (position test) c.as_slice.ensures))
