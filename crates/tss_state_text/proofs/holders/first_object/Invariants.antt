-- No name before this one has the object.
use Rattle.std.proofs.Common.{◌≡◌, drop}
use Rattle.std.specs.FinMap.{keys}
use Rattle.tss_state_text.specs.StateText.{bank_names, first_for, object_of}
use Rattle.tss_state_text.proofs.holders.first_object.Given as goal

abbrev pub invariant-loop-i : goal.invariant-loop-i
invariant-loop-i l =
    first_for (object_of l.p.machine.sizes l.p.state l.bank l.n) (keys (bank_names l.bank l.p.state.places))
    ≡ first_for (object_of l.p.machine.sizes l.p.state l.bank l.n) (drop l.i (keys (bank_names l.bank l.p.state.places)))
