use Rattle.std.proofs.Common.{refl}
use Rattle.dds_chains.proofs.Reading.{bucket-accepted, bucket-refused}
use Rattle.dds_chains.proofs.pairs.decode.Goals as goal

pub returns-in-Ok-clause-read : goal.returns-in-Ok-clause-read
returns-in-Ok-clause-read c = bucket-accepted c.args.bytes.now c.in-Ok.bucket c.in-Ok.ensures.verdict

pub returns-in-Err-NotAPage-clause-read : goal.returns-in-Err-NotAPage-clause-read
returns-in-Err-NotAPage-clause-read c = (
  refl,
  bucket-refused c.args.bytes.now c.in-Err-NotAPage.field-0 _ c.in-Err-NotAPage.field-0-is
      c.in-Err-NotAPage.ensures.verdict,
)
