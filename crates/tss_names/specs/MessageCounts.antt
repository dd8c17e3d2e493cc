-- How many messages of some kinds there are, and how many tasks in flight.
use Rattle.std.specs.Prelude.{ℕ, ◌+◌, ◌*◌, ◌≤◌, List}
use Rattle.std.specs.FinMap.{len}
use Rattle.tss_base.specs.declared.machine.Machine.{Machine}
use Rattle.tss_base.specs.declared.event.Event.{Event}
use Rattle.tss_base.specs.Image.{ImageState}
use Rattle.tss_protocol.specs.Mail.{Mail}
use Rattle.tss_protocol.specs.State.{State}
use Rattle.tss_protocol.specs.Counts.{all_slots}
use Rattle.tss_protocol.specs.Run.{OverRuns}

-- messages of operands in the gateway
abbrev pub gateway_messages : Mail → ℕ
gateway_messages m = len m.decodes + len m.acks

-- messages of versions that hold places
abbrev pub version_messages : Mail → ℕ
version_messages m = len m.opens + len m.idles + len m.nacks + len m.retires + len m.gones

-- no more tasks in flight than slots, no more messages of the gateway than operands that a window of tasks may have,
-- and no more of versions than places
pub record BoundsMessages (m : Machine) (i : ImageState) (es : List Event) (S : State) : Type 0 where
  pub flight : len S.flight ≤ all_slots m
  pub gateway : gateway_messages S.mail ≤ m.sizes.window * m.limits.max_operands
  pub versions : version_messages S.mail ≤ m.sizes.banks * m.sizes.versions

-- after every run
abbrev pub MessagesLaw : Type 0
MessagesLaw = OverRuns BoundsMessages
