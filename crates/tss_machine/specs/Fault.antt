-- The number and the key of a fault.
use Rattle.std.specs.Prelude.{ℕ, List, Option, Some, None}
use Rattle.tss_base.specs.Machine.{key_name}
use Rattle.tss_machine.specs.declared.fault.MachineFault.{MachineFault}
use Rattle.tss_machine.specs.declared.fault.MachineFault.TheVariants as fault

-- the number of the check that fails, where it isn't memory that is wanting
abbrev pub number_of : MachineFault → Option ℕ
number_of fault.NotToml = Some 1
number_of (fault.MissingKey k) = Some 2
number_of (fault.UnknownKey text) = Some 3
number_of (fault.NotInteger k) = Some 4
number_of (fault.OutOfRange k) = Some 5
number_of (fault.TooSmall k) = Some 6
number_of fault.NoMemory = None

-- the bytes of the key with which it fails, if there is one
abbrev pub key_of : MachineFault → Option (List ℕ)
key_of fault.NotToml = None
key_of (fault.MissingKey k) = Some (key_name k)
key_of (fault.UnknownKey text) = Some text
key_of (fault.NotInteger k) = Some (key_name k)
key_of (fault.OutOfRange k) = Some (key_name k)
key_of (fault.TooSmall k) = Some (key_name k)
key_of fault.NoMemory = None
