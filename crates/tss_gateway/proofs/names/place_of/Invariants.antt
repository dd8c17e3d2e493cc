-- The name isn't among those so far.
use Rattle.std.proofs.Common.{◌≡◌, drop}
use Rattle.std.specs.FinMap.Entries.{find}
use Rattle.tss_base.specs.Names.{name_cmp}
use Rattle.tss_gateway.specs.Names.{names_in, pairs_of}
use Rattle.tss_gateway.proofs.names.place_of.Given as goal

abbrev pub invariant-loop-place : goal.invariant-loop-place
invariant-loop-place l =
    find name_cmp l.o (pairs_of (names_in (drop l.place l.held))) ≡ find name_cmp l.o (pairs_of (names_in l.held))
