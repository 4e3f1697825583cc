use Rattle.dds_copies.proofs.Servers.{servers-hold}
use Rattle.dds_copies.proofs.laws.servers_hold_the_history.Goals as goal

pub returns : goal.returns
returns c = servers-hold
