use Rattle.traffic.proofs.Claims.{room_decides, refusal_leaves}
use Rattle.traffic.proofs.refused_only_for_want_of_room.Goals as goal

pub returns : goal.returns
returns c = (room_decides, refusal_leaves)
