use Rattle.std.proofs.Common.{refl}
use Rattle.dds_script.proofs.Behind.{late-number, late-value}
use Rattle.dds_script.proofs.take_line.take_line.Goals as goal

pub returns-in-Err-Number : goal.returns-in-Err-Number
returns-in-Err-Number c = late-number c.args.reader.now _ _ c.args.reader.now.place _ refl c.late.ensures
    (rw c.in-Err-Number.field-0-is at c.in-Err-Number.ensures)

pub returns-in-Err-Value : goal.returns-in-Err-Value
returns-in-Err-Value c = late-value c.args.reader.now _ _ c.args.reader.now.place _ refl c.late-in-Err-Value.ensures
    (rw c.in-Err-Value.field-0-is at c.in-Err-Value.ensures)
