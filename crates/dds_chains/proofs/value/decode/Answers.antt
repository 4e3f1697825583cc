use Rattle.std.proofs.Common.{refl}
use Rattle.dds_chains.proofs.Reading.{over-accepted, over-refused}
use Rattle.dds_chains.proofs.value.decode.Goals as goal

pub returns-in-Ok-clause-read : goal.returns-in-Ok-clause-read
returns-in-Ok-clause-read c = over-accepted c.args.bytes.now c.in-Ok.over c.in-Ok.ensures.verdict

pub returns-in-Err-NotAPage-clause-read : goal.returns-in-Err-NotAPage-clause-read
returns-in-Err-NotAPage-clause-read c = (
  refl,
  over-refused c.args.bytes.now c.in-Err-NotAPage.field-0 _ c.in-Err-NotAPage.field-0-is
      c.in-Err-NotAPage.ensures.verdict,
)
