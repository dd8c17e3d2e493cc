-- An acknowledgement: the gateway holds its operand, and holds it no more.
use Rattle.std.proofs.Common.{◌≡◌, true, Option, Some, None, refl, sym, ap, ◌∙◌}
use Rattle.std.specs.Option.{is_some}
use Rattle.std.specs.FinMap.{get}
use Rattle.std.proofs.lemmas.Option.{none-some}
use Rattle.tss_base.specs.declared.operand.OpName.{OpName}
use Rattle.tss_base.specs.declared.event.Event.TheVariants as event
use Rattle.tss_protocol.specs.Mail.{taken}
use Rattle.tss_protocol.specs.Gateway.{gateway_after_ack}
use Rattle.tss_protocol.specs.UnitMachine.{is_enabled, after_event}
use Rattle.tss_gateway.specs.Seen.{GatewayState}
use Rattle.tss_mail.specs.Letters.{MailState, mail_of, without_letter}
use Rattle.tss_conditions.proofs.Known.{facts_reached}
use Rattle.tss_pipeline.specs.declared.units.Units.{Units}
use Rattle.tss_pipeline.specs.State.{state_of}
use Rattle.tss_pipeline.specs.Fit.{IsFit}
use Rattle.tss_pipeline.specs.Does.{May, Does}
use Rattle.tss_pipeline.proofs.front_rows.FrontLemmas.{rest_by, does_front}

module _ (u : Units) (o : OpName) (fit : IsFit u) (may : May (event.Ack o) u) where
  -- its message is there
  pub ack_there : is_some (get u.mail.acks o) ≡ true
  unfolding is_enabled
  ack_there = may

  unit_there : (x : Option (Unit {0})) → is_some x ≡ true → x ≡ Some tt
  unit_there None e = absurd (cc)
  unit_there (Some x) e = refl

  -- the gateway holds its operand
  pub ack_held : get u.gateway.gateway o ≡ None → ⊥
  ack_held none =
      let facts = facts_reached u.machine fit.reached.image (state_of u) fit.reached.reached in
      none-some tt (sym none ∙ (facts.ground.gateway.acks o (unit_there (get u.mail.acks o) ack_there)).0)

  module _ (gateway : GatewayState) (mail : MailState)
      (acked : gateway ≡ record (u.gateway) { gateway = gateway_after_ack u.gateway.gateway o })
      (left : mail ≡ without_letter u.mail (event.Ack o)) (told : mail_of mail ≡ taken (mail_of u.mail) (event.Ack o)) where
    after_ack : state_of (record u { gateway = gateway; mail = mail })
        ≡ after_event u.machine (state_of u) (event.Ack o)
    unfolding after_event
    after_ack = λ i. record (state_of (record u { gateway = acked i })) { mail = told i }

    -- it is done
    pub does_ack : Does (event.Ack o) u (record u { gateway = gateway; mail = mail })
    does_ack =
        does_front (event.Ack o) u fit may gateway u.stations u.queue mail (ap (λ (g : GatewayState). g.window) acked) refl
        refl
        (rest_by u.mail (without_letter u.mail (event.Ack o)) mail
        (record { size = refl; opens = refl; gones = refl; decodes = refl }) left)
        after_ack
