use Rattle.ss_laws.proofs.RoomLemmas.{refuses-room}
use Rattle.ss_laws.proofs.room_laws.small_stores_have_room.Goals as goal

pub returns : goal.returns
returns c = refuses-room
