use Rattle.std.proofs.Common.{arith}
use Rattle.dds_base.proofs.Sets.{added-brick, added-library, with-brick, with-library}
use Rattle.dds_base.proofs.node_set.NodeSet.add.Goals as goal

pub returns-then-number-lt64 : goal.returns-then-number-lt64
returns-then-number-lt64 c =
    record {
      value = rw c.number-number.ensures.value (with-brick c.args.self.now c.args.node (omega arith));
      nodes = λ other. rw c.number-number.ensures.value (added-brick c.args.self.now c.args.node other (omega arith));
    }

pub returns-else-number-lt64 : goal.returns-else-number-lt64
returns-else-number-lt64 c =
    record {
      value = rw c.number-number.ensures.value (with-library c.args.self.now c.args.node (omega arith) (omega arith));
      nodes = λ other. rw c.number-number.ensures.value (added-library c.args.self.now c.args.node other (omega arith) (omega arith));
    }
