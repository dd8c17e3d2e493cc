-- The phases that the operand which opened a version may have, as the version stands.
use Rattle.std.specs.Prelude.{Bool, true, false, Option, Some, None}
use Rattle.tss_base.specs.declared.operand.Mode.{Mode}
use Rattle.tss_base.specs.declared.operand.Mode.TheVariants.{Input, Output, Inout}
use Rattle.tss_protocol.specs.Mail.{StorageName}
use Rattle.tss_protocol.specs.State.{Version}
use Rattle.tss_phases.specs.Phase.{Phase, Waiting, Told, Ready, Releasing, Leaving, Promised, Left}

-- it waits
abbrev pub is_waiting : Phase → Bool
is_waiting Waiting = true
is_waiting p = false

-- it was told its version, and hasn't released it
abbrev pub holds_version : Phase → Bool
holds_version Told = true
holds_version Ready = true
holds_version Releasing = true
holds_version p = false

-- it has released its version, and no link is to come
abbrev pub has_parted : Phase → Bool
has_parted Leaving = true
has_parted Left = true
has_parted p = false

-- it was told its version
abbrev pub knows_version : Phase → Bool
knows_version Told = true
knows_version Ready = true
knows_version Releasing = true
knows_version Leaving = true
knows_version Promised = true
knows_version Left = true
knows_version p = false

-- the opener of a produced version: a writer has produced it by its release, and an input is its first reader
abbrev pub produced_opener : Mode → Phase → Bool
produced_opener Input p = knows_version p
produced_opener Output p = has_parted p
produced_opener Inout p = has_parted p

-- of an open version: it waits for a storage, or holds the version
abbrev pub open_opener : Option StorageName → Phase → Bool
open_opener None p = is_waiting p
open_opener (Some s) p = holds_version p

-- of a version, by whether it is produced
abbrev pub opener_by : Version → Mode → Phase → Bool → Bool
opener_by x mode p true = produced_opener mode p
opener_by x mode p false = open_opener x.storage p

-- of a version that is registered
abbrev pub version_opener : Version → Mode → Phase → Bool
version_opener x mode p = opener_by x mode p x.produced
