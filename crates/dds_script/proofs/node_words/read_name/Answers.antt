use Rattle.std.proofs.Common.{arith}
use Rattle.std.proofs.lemmas.Grind.{common_steps}
use Rattle.dds_script.proofs.WordFacts.{name-found, no-name}
use Rattle.dds_script.proofs.node_words.read_name.Goals as goal

pub returns-in-Some : goal.returns-in-Some
returns-in-Some c = name-found c.args.word.now _ _ c.in-Some.place _ c.in-Some.ensures (grind (arith, common_steps)) (grind (arith, common_steps))
    c.read_parts.ensures

pub returns-in-None : goal.returns-in-None
returns-in-None c = no-name c.args.word.now c.in-None.ensures
