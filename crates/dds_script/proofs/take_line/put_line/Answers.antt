use Rattle.std.proofs.Common.{refl}
use Rattle.dds_script.proofs.Behind.{gate-fault}
use Rattle.dds_script.specs.Grammar.MovesBy.{line}
use Rattle.dds_script.proofs.take_line.put_line.Goals as goal

pub returns-in-Some : goal.returns-in-Some
returns-in-Some c = gate-fault c.args.reader.now _ _ c.args.reader.now.place c.in-Some.kind refl c.in-Some.ensures c.requires.right

pub returns : goal.returns
returns c =
    rw c.in_ok-push.ensures.ok (line c.args.reader.now _ c.args.line c.in_default.ensures c.requires.line)
