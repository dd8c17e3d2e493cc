-- Events that change no version, no open and no use: the chains are as they were.
use Rattle.std.proofs.Common.{ℕ, List, Option, Some, None, refl, ◌∙◌}
use Rattle.std.specs.FinMap.{get}
use Rattle.tss_base.specs.declared.operand.OpName.{OpName}
use Rattle.tss_base.specs.declared.operand.Task.{Task}
use Rattle.tss_base.specs.declared.machine.Machine.{Machine}
use Rattle.tss_base.specs.declared.event.Event.{Event}
use Rattle.tss_base.specs.declared.event.Event.TheVariants as event
use Rattle.tss_protocol.specs.Mail.{IdleContents, GoneContents, Message}
use Rattle.tss_protocol.specs.State.{State, CopyState}
use Rattle.tss_protocol.specs.Buffers.{is_last_piece}
use Rattle.tss_protocol.specs.UnitMachine.{after_event, with_sent, without, idle_message_taken, after_copy}
use Rattle.tss_protocol.specs.UnitMachine.{gone_message_taken}
use Rattle.tss_control.specs.Chains.{HasChains}
use Rattle.tss_protocol.proofs.SentLemmas.{AllSent, IsLater, posted_all-later, after_idle-later, sent_by_copy-later}
use Rattle.tss_control.proofs.rounds.EntriesQuiet.{IsQuietEvent, quiet_objects}
use Rattle.tss_control.proofs.chains.Alike.{KeepsChainMaps, alike_from_maps, HasChains-alike}

-- messages other than decode, ack, open and use leave the chains' maps
chain_maps_sent : (S T : State) (ms : List Message) → KeepsChainMaps S T → AllSent IsLater ms
    → KeepsChainMaps S (with_sent T ms)
chain_maps_sent S T ms k later =
    let same = posted_all-later T.mail ms later in
    record { versions = k.versions; opens = same.opens ∙ k.opens; uses = same.uses ∙ k.uses }

module _ (ts : List Task) (S T : State) where
  -- the chains of a state with the same maps
  pub HasChains-same : KeepsChainMaps S T → HasChains ts S → HasChains ts T
  HasChains-same k h = HasChains-alike ts S T (alike_from_maps S T k) h

module _ (m : Machine) (S : State) where
  maps_idle : (v : OpName) (c : Option IdleContents)
      → KeepsChainMaps S (idle_message_taken (without S (event.Idle v)) v c)
  maps_idle v None = record { versions = refl; opens = refl; uses = refl }
  maps_idle v (Some i) =
      chain_maps_sent S _ _ (record { versions = refl; opens = refl; uses = refl })
      (after_idle-later S.entries v i.base i.count)

  maps_copy : (b : ℕ) (c : Option CopyState) → KeepsChainMaps S (after_copy S b c)
  maps_copy b None = record { versions = refl; opens = refl; uses = refl }
  maps_copy b (Some c) =
      chain_maps_sent S _ _ (record { versions = refl; opens = refl; uses = refl })
      (sent_by_copy-later c (is_last_piece c))

  maps_gone : (v : OpName) (c : Option GoneContents)
      → KeepsChainMaps S (gone_message_taken (without S (event.Gone v)) v c)
  maps_gone v None = record { versions = refl; opens = refl; uses = refl }
  maps_gone v (Some g) = record { versions = refl; opens = refl; uses = refl }

  module _ (ts : List Task) (h : HasChains ts S) where
    -- take, ack, ready, link, start, exec, finish and bye leave the chains
    pub HasChains-quiet : (e : Event) → IsQuietEvent e → HasChains ts (after_event m S e)
    HasChains-quiet e q =
        let k = quiet_objects m S e q in
        HasChains-same ts S (after_event m S e) (record { versions = k.versions; opens = k.opens; uses = k.uses }) h

    -- and so do idle, copy and gone
    pub HasChains-idle : (v : OpName) → HasChains ts (after_event m S (event.Idle v))
    unfolding after_event
    HasChains-idle v = HasChains-same ts S _ (maps_idle v (get S.mail.idles v)) h

    -- a copy
    pub HasChains-copy : (b : ℕ) → HasChains ts (after_event m S (event.Copy b))
    unfolding after_event
    HasChains-copy b = HasChains-same ts S _ (maps_copy b (get S.copies b)) h

    -- and a gone
    pub HasChains-gone : (v : OpName) → HasChains ts (after_event m S (event.Gone v))
    unfolding after_event
    HasChains-gone v = HasChains-same ts S _ (maps_gone v (get S.mail.gones v)) h
