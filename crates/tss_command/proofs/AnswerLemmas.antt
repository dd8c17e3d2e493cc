-- From the answers of the parts to what the bytes of a file come to.
use Rattle.std.proofs.Common.{◌≡◌, ℕ, List, Some, None, Result, Ok, Err, refl, sym, ap, ◌∙◌}
use Rattle.tss_base.specs.Image.{ImageState}
use Rattle.tss_base.specs.declared.machine.Machine.{Machine}
use Rattle.tss_elf.specs.Elf.{Refused, Accepted, image_of}
use Rattle.tss_machine.specs.declared.fault.MachineFault.{MachineFault}
use Rattle.tss_machine.specs.declared.fault.MachineFault.TheVariants as fault
use Rattle.tss_machine.specs.Description.{machine_of}
use Rattle.tss_machine.specs.Description as description
use Rattle.tss_protocol.specs.Migration.{migrated}
use Rattle.tss_unit_runs.specs.Runs.{fault_of}
use Rattle.tss_unit_runs.specs.declared.faults.LineFault.{LineFault}
use Rattle.tss_unit_runs.specs.declared.faults.LineFault.TheVariants as line
use Rattle.tss_command.specs.declared.outcome.Refusal.TheVariants as refusal
use Rattle.tss_command.specs.MachineCheck.{BadMachineState, bad_machine_of}
use Rattle.tss_command.specs.Work.{machine_refused, machine_answer, described_machine, image_answer, accepted_image, migration_answer, migrated_log, line_fault}

none_some : {X : Type 0} {x : X} → None ≡ Some x → ⊥
none_some e = cc

-- a fault that tells a check is the description's
pub fault_given : (f : MachineFault) (a : Result Machine MachineFault) (bad : BadMachineState) → bad_machine_of f ≡ Some bad →
    description.Gives (Err f) a → Err f ≡ a
fault_given fault.NotToml a bad e h = h
fault_given (fault.MissingKey k) a bad e h = h
fault_given (fault.UnknownKey t) a bad e h = h
fault_given (fault.NotInteger k) a bad e h = h
fault_given (fault.OutOfRange k) a bad e h = h
fault_given (fault.TooSmall k) a bad e h = h
fault_given fault.NoMemory a bad e h = absurd (none_some e)

pub described-ok : (bytes : List ℕ) (m : Machine) → Ok m ≡ machine_of bytes → Ok m ≡ described_machine bytes
unfolding described_machine
described-ok bytes m e = ap machine_answer e

pub described-err : (bytes : List ℕ) (f : MachineFault) (bad : BadMachineState) → bad_machine_of f ≡ Some bad →
    Err f ≡ machine_of bytes → Err (refusal.Machine bad) ≡ described_machine bytes
unfolding described_machine
described-err bytes f bad is e =
    ap (λ o. Err (machine_refused o)) (sym is) ∙ ap machine_answer e

pub accepted-ok : (bytes : List ℕ) (i : ImageState) → image_of bytes ≡ Accepted i → Ok i ≡ accepted_image bytes
unfolding accepted_image
accepted-ok bytes i e = sym (ap image_answer e)

pub accepted-err : (bytes : List ℕ) (n : ℕ) → image_of bytes ≡ Refused n → Err (refusal.Image n) ≡ accepted_image bytes
unfolding accepted_image
accepted-err bytes n e = sym (ap image_answer e)

pub migrated-ok : (bytes log : List ℕ) → migrated bytes ≡ Ok log → Ok log ≡ migrated_log bytes
unfolding migrated_log
migrated-ok bytes log e = sym (ap migration_answer e)

pub migrated-err : (bytes : List ℕ) (n : ℕ) → migrated bytes ≡ Err n → Err (refusal.Schedule (line.BadLine n)) ≡ migrated_log bytes
unfolding migrated_log
migrated-err bytes n e = sym (ap migration_answer e)

-- a fault of a line is one again
pub line_same : (fault : LineFault) → line_fault (fault_of fault) ≡ fault
line_same (line.BadLine n) = refl
line_same (line.NotEnabled n) = refl
line_same (line.Short n) = refl
line_same (line.Long n) = refl
