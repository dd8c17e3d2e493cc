-- Something stands there, as the test says.
use Rattle.std.proofs.Common.{sym}
use Rattle.tss_tables.proofs.seats.Seats.get_mut.Goals as goal

pub value_mut-requires : goal.value_mut-requires
value_mut-requires g c = sym c.if-has.ensures
