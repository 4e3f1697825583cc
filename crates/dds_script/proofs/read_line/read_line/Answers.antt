use Rattle.dds_script.proofs.NoLine.{err-line}
use Rattle.dds_script.proofs.read_line.read_line.Goals as goal

pub returns-clause-none : goal.returns-clause-none
returns-clause-none c = err-line c.args.ranges.now c.args.words.now c.read_text.result c.requires c.read_text.ensures
