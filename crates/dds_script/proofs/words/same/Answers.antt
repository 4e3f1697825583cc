use Rattle.std.proofs.lemmas.Bool.Decides.{Decides-eqb}
use Rattle.std.proofs.lemmas.Slice.Eq.{slice_eq-Decides}
use Rattle.dds_script.proofs.words.same.Goals as goal

pub returns-clause-same : goal.returns-clause-same
returns-clause-same c = slice_eq-Decides Decides-eqb c.args.text.now c.args.other.now _ c.eq.ensures
