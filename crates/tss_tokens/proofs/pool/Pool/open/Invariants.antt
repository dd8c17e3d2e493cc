-- The places that are left are out.
use Rattle.std.proofs.Common.{◌≡◌, ◌+◌, ◌≤◌, vec_len, vec_capacity}
use Rattle.tss_maps.specs.Below.{all_below}
use Rattle.tss_tokens.specs.Pool.{places_out, AreFree}
use Rattle.tss_tokens.proofs.pool.Pool.open.Given as goal

abbrev pub invariant-loop-place : goal.invariant-loop-place
invariant-loop-place l = record {
  out : places_out l.size l.free.items ≡ all_below l.place;
  free : AreFree l.size l.free.items;
  count : vec_len l.free + l.place ≡ l.size;
  room : l.size ≤ vec_capacity l.free;
}
