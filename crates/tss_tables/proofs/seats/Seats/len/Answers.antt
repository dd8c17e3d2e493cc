-- No more stand than there are seats.
use Rattle.std.proofs.Common.{arith}
use Rattle.tss_tables.proofs.SeatsLemmas.{len-seen, size-seen, len-seats}
use Rattle.tss_tables.proofs.seats.Seats.len.Goals as goal

pub returns-clause-within : goal.returns-clause-within
returns-clause-within g c =
    let len = len-seen c.self.inside.seats.items _ c.self.view_is in
    let size = size-seen c.self.inside.seats.items _ c.self.view_is in
    let within = len-seats 0 c.self.inside.seats.items in
    omega (arith, len, size, within)
