use Rattle.std.proofs.Common.{sym, ◌∙◌}
use Rattle.std.proofs.lemmas.Result.{err_from_is_err_and}
use Rattle.dds_table.proofs.Refusing.{refused-stays}
use Rattle.dds_table.proofs.Turns.{covered-yes, covered-no}
use Rattle.dds_table.proofs.store.Store.put_covered.Goals as goal

pub returns-in_ok-put-clause-told : goal.returns-in_ok-put-clause-told
returns-in_ok-put-clause-told g c = λ a is. covered-yes _ _ _ c.args.name c.args.key c.args.value.now (sym c.covers.ensures ∙ c.if-covers.true)
    (c.in_ok-put.ensures.told a is)

pub returns-else-covers-clause-told : goal.returns-else-covers-clause-told
returns-else-covers-clause-told g c = λ a is. covered-no _ a c.args.self.now.tables c.args.name c.args.key c.args.value.now
    (sym c.covers.ensures ∙ c.if-covers.false) is

pub returns-in_err-put-clause-refused : goal.returns-in_err-put-clause-refused
returns-in_err-put-clause-refused g c =
    let p = err_from_is_err_and c.from_residual.result c.from_residual.ensures.1 in
    rw (p.1, p.2) (refused-stays _ _ _ _ c.in_err-put.ensures.stays c.in_err-put.ensures.refused)
