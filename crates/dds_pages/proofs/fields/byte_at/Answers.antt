use Rattle.std.proofs.Common.{arith}
use Rattle.dds_pages.proofs.Numbers.{byte-number}
use Rattle.dds_pages.proofs.fields.byte_at.Goals as goal

pub returns : goal.returns
returns c = byte-number c.args.page.now c.args.at (omega arith)
