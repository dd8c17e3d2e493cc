-- A release that may happen in a controlled state, with what is known of it.
use Rattle.std.proofs.Common.{◌≡◌, List, Some}
use Rattle.std.specs.FinMap.{get}
use Rattle.tss_base.specs.declared.operand.OpName.{OpName}
use Rattle.tss_base.specs.declared.machine.Machine.{Machine}
use Rattle.tss_base.specs.declared.event.Event.TheVariants as event
use Rattle.tss_base.specs.Names.{Named}
use Rattle.tss_protocol.specs.Mail.{ReleaseContents, Message}
use Rattle.tss_protocol.specs.State.{State, Version}
use Rattle.tss_protocol.specs.Versions.{Versioned, settled}
use Rattle.tss_protocol.specs.UnitMachine.{IsEnabled, after_event}
use Rattle.tss_phases.proofs.ReleaseEvent.{versions_released, heads_told}
use Rattle.tss_control.proofs.rounds.Facts.{Facts}
use Rattle.tss_control.proofs.rounds.ReleaseFacts.{Releases}

-- the operand, and what its message says
pub record Release (m : Machine) (S : State) : Type 0 where
  pub facts : Facts m S
  pub open facts use *
  pub o : OpName
  pub on : IsEnabled m S (event.Release o)
  pub c : ReleaseContents
  pub there : get S.mail.releases o ≡ Some c
  pub k : Releases ts g S o c

-- the state after it, its version as it was, the versions with that one released, what their settle does, and the
-- readers that are told
pub record Released : Type 0 where
  pub T : State
  pub v : OpName
  pub x : Version
  pub vs : Named Version
  pub d : Versioned
  pub hs : List Message

-- of a release
abbrev pub released : (m : Machine) (S : State) → Release m S → Released
released m S r =
    let vs = versions_released S.versions r.o r.c.version r.k.version r.c.producer in
    record {
      T = after_event m S (event.Release r.o);
      v = r.c.version;
      x = r.k.version;
      vs = vs;
      d = settled vs r.c.version;
      hs = heads_told r.c.version r.k.version r.c.producer;
    }
