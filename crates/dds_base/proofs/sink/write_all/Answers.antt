use Rattle.std.proofs.Common.{◌≡◌, ◌-◌, take, drop, length, arith}
use Rattle.std.proofs.lemmas.Grind.{common_steps}
use Rattle.dds_base.proofs.Outside.{added-at, part-at}
use Rattle.dds_base.proofs.sink.write_all.Goals as goal

pub writing-preserved : goal.writing-preserved
writing-preserved g c =
    let rest : take (length c.args.text.now - c.writing.at) (drop c.writing.at c.args.text.now) ≡ drop c.writing.at c.args.text.now =
    grind (arith, common_steps) in
    record {
      within = grind (arith, common_steps);
      added = added-at _ _ _ c.args.text.now _ c.writing.at c.in-Ok.n rest c.writing.invariant.added c.in-Ok.ensures.added;
      never_falls = grind (arith, common_steps);
    }

pub returns-in-Err-clause-part : goal.returns-in-Err-clause-part
returns-in-Err-clause-part g c =
    part-at _ _ _ c.args.text.now c.writing.at c.writing.invariant.added c.in-Err.ensures.kept
