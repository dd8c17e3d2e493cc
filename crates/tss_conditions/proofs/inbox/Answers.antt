use Rattle.tss_conditions.proofs.Taking.{arriving, room_to_take, short_lines}
use Rattle.tss_conditions.proofs.inbox.Goals as goal

pub returns-clause-arriving : goal.returns-clause-arriving
returns-clause-arriving c = arriving

pub returns-clause-room : goal.returns-clause-room
returns-clause-room c = room_to_take

pub returns-clause-lines : goal.returns-clause-lines
returns-clause-lines c = short_lines
