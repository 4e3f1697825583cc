use Rattle.dds_room.proofs.Runs.{parts-always-go-on}
use Rattle.dds_room.proofs.laws.parts_go_on.Goals as goal

pub returns : goal.returns
returns c = parts-always-go-on
