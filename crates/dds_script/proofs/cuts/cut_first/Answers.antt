use Rattle.std.proofs.Common.{arith}
use Rattle.std.proofs.lemmas.Grind.{common_steps}
use Rattle.dds_script.proofs.Parting.{cut-none, cut-found}
use Rattle.dds_script.proofs.cuts.cut_first.Goals as goal

pub returns-in-Some : goal.returns-in-Some
returns-in-Some c = cut-found c.args.mark c.args.text.now _ _ c.in-Some.place c.in-Some.ensures (grind (arith, common_steps)) (grind (arith, common_steps))

pub returns-in-None : goal.returns-in-None
returns-in-None c = cut-none c.args.mark c.args.text.now c.in-None.ensures
