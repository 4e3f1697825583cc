use Rattle.std.proofs.Common.{arith, ap}
use Rattle.dds_script.proofs.Lists.{list-word, no-list, no-long-list}
use Rattle.dds_script.proofs.Parting.{cut-some}
use Rattle.dds_script.specs.Cutting.{cut_rest}
use Rattle.dds_script.proofs.list_word.read_list.Goals as goal

pub returns-then-len-eq-MEMBERS : goal.returns-then-len-eq-MEMBERS
returns-then-len-eq-MEMBERS c =
    no-long-list _ _ c.reading.list.items _ (omega arith) (rw c.in-Some.is at c.reading.invariant.parts) (omega arith) (cut-some 44 c.in-Some.text.now)

pub returns-in-None : goal.returns-in-None
returns-in-None c =
    let n = rw c.in-None.is at c.read_below.ensures in
    no-list _ _ c.reading.list.items _ _ _ (omega arith) (rw c.in-Some.is at c.reading.invariant.parts) c.cut_first.ensures n

pub returns : goal.returns
returns c = list-word _ _ _ (cut_rest 44 c.reading.left) c.reading.invariant.parts (ap (cut_rest 44) c.in_default.is) c.reading.invariant.most
    c.reading.invariant.below
