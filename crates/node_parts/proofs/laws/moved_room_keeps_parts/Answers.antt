use Rattle.node_parts.proofs.Room.{room-moved}
use Rattle.node_parts.proofs.laws.moved_room_keeps_parts.Goals as goal

pub returns : goal.returns
returns c = room-moved
