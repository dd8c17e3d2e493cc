-- Every event leaves the chains of a controlled state.
use Rattle.std.proofs.Common.{◌≡◌, Some}
use Rattle.std.specs.Prelude.{is_some}
use Rattle.std.specs.FinMap.{get}
use Rattle.std.proofs.lemmas.Bool.{and_parts}
use Rattle.tss_base.specs.declared.operand.OpName.{OpName}
use Rattle.tss_base.specs.declared.machine.Machine.{Machine}
use Rattle.tss_base.specs.declared.event.Event.{Event}
use Rattle.tss_base.specs.declared.event.Event.TheVariants as event
use Rattle.tss_protocol.specs.State.{State}
use Rattle.tss_protocol.specs.UnitMachine.{IsEnabled, is_enabled, can_retire}
use Rattle.tss_control.specs.Chains.{HasChains}
use Rattle.tss_names.proofs.PlainLemmas.{some_unit}
use Rattle.tss_control.proofs.chains.Frames.{HasChains-quiet, HasChains-idle, HasChains-copy, HasChains-gone}
use Rattle.tss_control.proofs.chains.Decoded.{HasChains-decode}
use Rattle.tss_control.proofs.chains.Open.{HasChains-open}
use Rattle.tss_control.proofs.chains.Use.{HasChains-use}
use Rattle.tss_control.proofs.chains.Released.{HasChains-release, HasChains-nack}
use Rattle.tss_control.proofs.chains.Retired.{HasChains-retire}
use Rattle.tss_control.proofs.GroundworkJoin.{IsKept}
use Rattle.tss_control.proofs.GroundworkMain.{keeps_main}
use Rattle.tss_control.proofs.rounds.Facts.{Facts}

-- a retire that may happen has its message
retire_sent : (m : Machine) (S : State) (v : OpName) → IsEnabled m S (event.Retire v)
    → get S.mail.retires v ≡ Some tt
unfolding is_enabled
retire_sent m S v on =
    some_unit (get S.mail.retires v)
    (and_parts (is_some (get S.mail.retires v)) (can_retire m S (get S.versions v)) on).0

module _ (m : Machine) (S : State) (facts : Facts m S) where
  open facts use {ts, control as h}

  -- every event leaves the chains
  pub keeps_chains : (e : Event) → IsKept m S facts e (λ ts g S. HasChains ts S)
  keeps_chains event.Main on order = keeps_main.chains m S facts on order
  keeps_chains (event.Decode o) on order = HasChains-decode m S facts o on
  keeps_chains (event.Open o) on order = HasChains-open m S facts o on
  keeps_chains (event.Use o) on order = HasChains-use m ts S h.chains o on
  keeps_chains (event.Release o) on order = HasChains-release m S facts o
  keeps_chains (event.Idle v) on order = HasChains-idle m S ts h.chains v
  keeps_chains (event.Nack v) on order = HasChains-nack m S facts v
  keeps_chains (event.Retire v) on order =
      HasChains-retire m S facts v (retire_sent m S v on)
  keeps_chains (event.Copy b) on order = HasChains-copy m S ts h.chains b
  keeps_chains (event.Gone v) on order = HasChains-gone m S ts h.chains v
  keeps_chains e on order = HasChains-quiet m S ts h.chains e tt
