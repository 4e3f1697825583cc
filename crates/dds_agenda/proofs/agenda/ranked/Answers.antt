use Rattle.std.proofs.Common.{arith}
use Rattle.std.proofs.lemmas.Bool.Decides.{nat_tests}
use Rattle.dds_agenda.proofs.Ranked.{ranked-here, ranked-missed, ranked-past}
use Rattle.dds_agenda.specs.declared.entry.Entry.{Entry}
use Rattle.dds_agenda.specs.declared.entry.Slot.TheVariants.{Outbox}
use Rattle.dds_agenda.proofs.agenda.ranked.Goals as goal

pub returns-then-rank-entries : goal.returns-then-rank-entries
returns-then-rank-entries c =
    ranked-past (record { number = 0; slot = Outbox 0 }) c.args.entries.now c.args.rank c.requires c.if-rank-entries.true

pub returns-then-is_repeated : goal.returns-then-is_repeated
returns-then-is_repeated c =
    let d : Entry = record { number = 0; slot = Outbox 0 } in
    let h = c.is_repeated.ensures d in
    let t = c.if-is_repeated.true in
    ranked-missed d c.args.entries.now c.args.rank c.requires (grind (arith, nat_tests, h, t)) (omega (arith, c.if-rank-entries.false))
    (grind (arith, nat_tests, h, t))

pub returns : goal.returns
returns c =
    let d : Entry = record { number = 0; slot = Outbox 0 } in
    let h = c.is_repeated.ensures d in
    let t = c.if-is_repeated.false in
    ranked-here d c.args.entries.now c.args.rank c.requires (omega (arith, c.if-rank-entries.false)) (λ p. grind (arith, nat_tests, h, t, p))
