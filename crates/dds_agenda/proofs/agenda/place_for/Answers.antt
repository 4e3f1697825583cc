use Rattle.std.proofs.Common.{arith, rules, sym}
use Rattle.std.proofs.lemmas.List.Sorted.{IsPartitionPoint-from_clause}
use Rattle.std.proofs.lemmas.List.Sums.{prefix_len_is}
use Rattle.dds_agenda.specs.Agenda.{precedes}
use Rattle.dds_agenda.proofs.Places.{ordered-parts}
use Rattle.dds_agenda.proofs.agenda.place_for.Goals as goal

pub returns : goal.returns
returns c =
    let parted = ordered-parts c.args.entry.now c.args.entries.now c.requires in
    let point = IsPartitionPoint-from_clause (λ x. precedes x c.args.entry.now) _ _ c.partition_point.ensures.partitioned parted (λ a r q k. search rules) in
    sym (prefix_len_is (λ x. precedes x c.args.entry.now) c.args.entries.now c.partition_point.result c.args.entry.now c.partition_point.ensures.bound
    (λ k l. point.0 k c.args.entry.now (omega arith) l)
    (λ l. point.1 c.partition_point.result c.args.entry.now (omega arith) l))
