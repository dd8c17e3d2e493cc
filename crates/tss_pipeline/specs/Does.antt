-- What each event does to the units.
use Rattle.std.specs.Prelude.{◌≡◌, true}
use Rattle.tss_base.specs.declared.event.Event.{Event}
use Rattle.tss_protocol.specs.UnitMachine.{is_enabled, after_event}
use Rattle.tss_pipeline.specs.declared.units.Units.{Units}
use Rattle.tss_pipeline.specs.State.{state_of}
use Rattle.tss_pipeline.specs.Fit.{IsFit}

-- an event may happen
abbrev pub May : Event → Units → Type 0
May e u = is_enabled u.machine (state_of u) e ≡ true

-- it has happened: the state is the definitions' after it, and the units still fit
pub record Does (e : Event) (old new : Units) : Type 0 where
  pub machine : new.machine ≡ old.machine
  pub state : state_of new ≡ after_event old.machine (state_of old) e
  pub fit : IsFit new
