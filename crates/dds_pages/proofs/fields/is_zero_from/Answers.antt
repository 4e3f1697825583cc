use Rattle.dds_pages.proofs.Numbers.{zeros-equal}
use Rattle.dds_pages.proofs.fields.is_zero_from.Goals as goal

pub returns : goal.returns
returns c =
    zeros-equal c.args.page.now c.tail.result.now c.tail-2.result.now c.args.at c.eq.result c.tail.ensures.len c.tail.ensures.bytes c.tail-2.ensures.bytes
    c.eq.ensures
