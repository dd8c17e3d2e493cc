-- The seats that are left are free.
use Rattle.std.proofs.Common.{◌≡◌, ℕ, None, get_or, vec_len}
use Rattle.tss_tables.proofs.seats.Seats.close.Given as goal

abbrev pub invariant-loop-seat : goal.invariant-loop-seat
invariant-loop-seat g l = (k : ℕ) → get_or l.seats.items k None ≡ None

abbrev pub decreases-loop-seat : goal.decreases-loop-seat
decreases-loop-seat g l = vec_len l.seats
