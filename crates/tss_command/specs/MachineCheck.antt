-- The check that a machine description fails first.
use Rattle.std.specs.Prelude.{ℕ, List, Option, option_map}
use Rattle.tss_machine.specs.declared.fault.MachineFault.{MachineFault}
use Rattle.tss_machine.specs.Fault.{number_of, key_of}

-- its number, and the key that fails it, if it is about a key
pub record BadMachineState : Type 0 where
  pub number : ℕ
  pub key : Option (List ℕ)

-- the check that a fault tells: none where it is that memory ran out
abbrev pub bad_machine_of : MachineFault → Option BadMachineState
bad_machine_of fault = option_map (λ n. record { number = n; key = key_of fault }) (number_of fault)
