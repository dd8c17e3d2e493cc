use Rattle.std.proofs.Common.{◌≡◌, ℕ, ◌<◌, false, get_or, string_bytes, String, Global}
use Rattle.std.specs.Str.{bytes_eq}
use Rattle.tss_outside.proofs.real.first_place.Given as goal

-- no name before this one is it
abbrev pub invariant-loop-i : goal.invariant-loop-i
invariant-loop-i l = (k : ℕ) (d : String Global) → k < l.i → bytes_eq (string_bytes (get_or l.names k d)) l.name ≡ false
