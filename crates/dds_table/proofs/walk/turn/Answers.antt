use Rattle.std.proofs.Common.{sym, ◌∙◌}
use Rattle.dds_table.proofs.Meeting.{turn-seen, turn-taken}
use Rattle.dds_table.proofs.walk.turn.Goals as goal

pub returns-then-was_seen-clause-told : goal.returns-then-was_seen-clause-told
returns-then-was_seen-clause-told g c = λ p is.
    turn-seen p c.args.name c.args.root.now.firsts c.args.walk.now c.if-walk.false
    (sym (c.was_seen.ensures c.args.walk.now.seen c.requires.met.pages) ∙ c.if-was_seen.true)

pub returns-in-Ok-clause-told : goal.returns-in-Ok-clause-told
returns-in-Ok-clause-told g c = λ p is.
    turn-taken p c.args.name c.args.root.now.firsts c.args.walk.now c.take_page.new.walk c.in-Ok.bucket c.take_page.result c.if-walk.false
    (sym (c.was_seen.ensures c.args.walk.now.seen c.requires.met.pages) ∙ c.if-was_seen.false) (c.in-Ok.ensures.told p is) c.take_page.ensures.value
