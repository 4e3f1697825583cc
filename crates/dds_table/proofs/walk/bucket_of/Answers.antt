use Rattle.std.proofs.Common.{refl}
use Rattle.dds_table.proofs.OldPages.{old-accepted, old-refused}
use Rattle.dds_table.proofs.walk.bucket_of.Goals as goal

pub returns-in-Ok-clause-read : goal.returns-in-Ok-clause-read
returns-in-Ok-clause-read c = old-accepted c.args.bytes.now c.in-Ok.bucket c.in-Ok.ensures

pub returns-in-Err-NotAPage-clause-read : goal.returns-in-Err-NotAPage-clause-read
returns-in-Err-NotAPage-clause-read c = (refl, old-refused c.args.bytes.now c.in-Err-NotAPage.field-0 _ c.in-Err-NotAPage.field-0-is c.in-Err-NotAPage.ensures)
