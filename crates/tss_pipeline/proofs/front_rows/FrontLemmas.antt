-- The units with another gateway, other stations, another queue and other mail.
use Rattle.std.proofs.Common.{◌≡◌, refl, ap, ◌∙◌}
use Rattle.tss_base.specs.declared.event.Event.{Event}
use Rattle.tss_protocol.specs.UnitMachine.{after_event}
use Rattle.tss_gateway.specs.Seen.{GatewayState}
use Rattle.tss_stations.specs.Slots.{StationsState}
use Rattle.tss_workers.specs.Queue.{QueueState}
use Rattle.tss_mail.specs.Letters.{MailState}
use Rattle.tss_pipeline.specs.declared.units.Units.{Units}
use Rattle.tss_pipeline.specs.State.{state_of}
use Rattle.tss_pipeline.specs.Fit.{ground_of, IsFit}
use Rattle.tss_pipeline.specs.Does.{May, Does}
use Rattle.tss_pipeline.proofs.places.Grounds.{does_elsewhere}

-- mail with the same room, and the same messages that have tokens or stand in a line
pub record KeepsRest (old new : MailState) : Type 0 where
  pub size : new.size ≡ old.size
  pub opens : new.opens ≡ old.opens
  pub gones : new.gones ≡ old.gones
  pub decodes : new.decodes ≡ old.decodes

pub rest_then : (a b c : MailState) → KeepsRest a b → KeepsRest b c → KeepsRest a c
rest_then a b c k l = record {
  size = l.size ∙ k.size;
  opens = l.opens ∙ k.opens;
  gones = l.gones ∙ k.gones;
  decodes = l.decodes ∙ k.decodes;
}

pub rest_by : (a b c : MailState) → KeepsRest a b → c ≡ b → KeepsRest a c
rest_by a b c k e = record {
  size = ap (λ (m : MailState). m.size) e ∙ k.size;
  opens = ap (λ (m : MailState). m.opens) e ∙ k.opens;
  gones = ap (λ (m : MailState). m.gones) e ∙ k.gones;
  decodes = ap (λ (m : MailState). m.decodes) e ∙ k.decodes;
}

module _ (e : Event) (u : Units) (fit : IsFit u) (may : May e u) (gateway : GatewayState) (stations : StationsState)
    (queue : QueueState) (mail : MailState) where
  -- an event of the front or the stations, which leaves the sizes and the tokens
  pub does_front : gateway.window ≡ u.gateway.window → stations.sizes ≡ u.stations.sizes → queue.size ≡ u.queue.size
      → KeepsRest u.mail mail
      → state_of (record u { gateway = gateway; stations = stations; queue = queue; mail = mail })
      ≡ after_event u.machine (state_of u) e
      → Does e u (record u { gateway = gateway; stations = stations; queue = queue; mail = mail })
  does_front window sizes size rest state =
      does_elsewhere e u (record u { gateway = gateway; stations = stations; queue = queue; mail = mail }) fit may refl
      state
      (record {
        limits = fit.sized.limits;
        window = window ∙ fit.sized.window;
        stations = sizes ∙ fit.sized.stations;
        queue = size ∙ fit.sized.queue;
        workers = fit.sized.workers;
        mail = rest.size ∙ fit.sized.mail;
        banks = fit.sized.banks;
        buffer_banks = fit.sized.buffer_banks;
        buffers = fit.sized.buffers;
        object_bytes = fit.sized.object_bytes;
      })
      (λ i. record (ground_of u) { opens = rest.opens i; gones = rest.gones i; decodes = rest.decodes i })
