use Rattle.dds_share.proofs.Runs.{servers-list}
use Rattle.dds_share.proofs.laws.servers_share.Goals as goal

pub returns : goal.returns
returns c = servers-list
