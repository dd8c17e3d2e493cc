-- As many free seats as turns.
use Rattle.std.proofs.Common.{◌≡◌, ◌≤◌, None, vec_len, vec_capacity}
use Rattle.std.proofs.Math.ListN.{replicate}
use Rattle.tss_tables.proofs.seats.Seats.open.Given as goal

abbrev pub invariant-loop : goal.invariant-loop
invariant-loop g l = record {
  room : l.size ≤ vec_capacity l.seats;
  turns : vec_len l.seats ≡ l.counter;
  free : l.seats.items ≡ replicate l.counter None;
}
