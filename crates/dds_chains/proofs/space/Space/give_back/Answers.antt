use Rattle.dds_chains.proofs.Uses.{give-free}
use Rattle.dds_chains.proofs.space.Space.give_back.Goals as goal

pub returns-clause-number : goal.returns-clause-number
returns-clause-number g c = λ n. give-free n c.args.page c.args.self.now.fresh c.args.self.now.free.items c.push.new.self.items c.in_ok-push.ensures.items
