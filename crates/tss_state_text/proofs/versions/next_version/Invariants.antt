-- It is the first version of the banks before this one.
use Rattle.std.specs.Prelude.{option_map}
use Rattle.tss_state_text.specs.Versions.{shown}
use Rattle.tss_state_text.proofs.NextEntries.{IsFirst}
use Rattle.tss_state_text.proofs.EarlierVersions.{IsBefore}
use Rattle.tss_state_text.proofs.versions.next_version.Given as goal

abbrev pub invariant-loop-bank : goal.invariant-loop-bank
invariant-loop-bank l =
    IsFirst l.p.state.versions (IsBefore l.p.machine.sizes l.last l.bank) (option_map shown l.first)
