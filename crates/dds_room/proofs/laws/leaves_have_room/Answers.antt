use Rattle.dds_room.proofs.RoomKeeps.{leaves-have-room}
use Rattle.dds_room.proofs.laws.leaves_have_room.Goals as goal

pub returns : goal.returns
returns c = leaves-have-room
