-- The places that are left come before those that are free.
use Rattle.std.proofs.Common.{◌≡◌, ◌+◌, ◌≤◌, vec_len, vec_capacity}
use Rattle.std.specs.FinMap.{empty}
use Rattle.tss_tables.specs.Store.{AreFree}
use Rattle.tss_tables.proofs.FreeLemmas.{AreFrom}
use Rattle.tss_tables.proofs.store.Store.open.Given as goal

abbrev pub invariant-loop-place : goal.invariant-loop-place
invariant-loop-place g l = record {
  free : AreFree {X = g.row.V.Denot} l.size empty l.free.items;
  from : AreFrom l.place l.free.items;
  count : vec_len l.free + l.place ≡ l.size;
  room : l.size ≤ vec_capacity l.free;
}
