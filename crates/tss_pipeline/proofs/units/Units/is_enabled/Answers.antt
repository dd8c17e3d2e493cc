use Rattle.std.proofs.Common.{◌≡◌, Bool, Option, Some, None, option_map, refl, sym, ap, ◌∙◌, inl, inr}
use Rattle.std.specs.Prelude.{is_some}
use Rattle.std.specs.FinMap.{get}
use Rattle.tss_base.specs.declared.machine.Machine.{Machine}
use Rattle.tss_base.specs.declared.event.Event.{Event}
use Rattle.tss_base.specs.declared.event.Event.TheVariants as event
use Rattle.tss_protocol.specs.Mail as mail
use Rattle.tss_protocol.specs.Mail.{message_at}
use Rattle.tss_protocol.specs.State.{State}
use Rattle.tss_protocol.specs.UnitMachine.{is_enabled}
use Rattle.tss_pipeline.specs.State.{state_of}
use Rattle.tss_pipeline.proofs.units.Units.is_enabled.Goals as goal

-- what is made into something else is there all the same
still_some : {X Y : Type 0} (f : X → Y) (o : Option X) → is_some (option_map f o) ≡ is_some o
still_some f None = refl
still_some f (Some x) = refl

-- an event that needs its message alone
by_message : (m : Machine) (S : State) (e same : Event) (there : Bool) → e ≡ same → there ≡ is_some (message_at S.mail e)
    → is_some (message_at S.mail same) ≡ is_enabled m S same → there ≡ is_enabled m S e
by_message m S e same there is has alike =
    has ∙ ap (λ e. is_some (message_at S.mail e)) is ∙ alike ∙ ap (is_enabled m S) (sym is)

pub returns-in-Ack : goal.returns-in-Ack
unfolding is_enabled
returns-in-Ack c =
    let m = c.args.self.now.machine in
    let S = state_of c.args.self.now in
    let by = by_message m S c.args.e in
    elim c.in-Ack.is [
      | inl t ↦ by (event.Ack t.0) c.has.result t.1 c.has.ensures (still_some (λ x. mail.Ack t.0) (get S.mail.acks t.0))
      | inr (inl t) ↦
          by (event.Ready t.0) c.has.result t.1 c.has.ensures (still_some (mail.Ready t.0) (get S.mail.readies t.0))
      | inr (inr (inl t)) ↦
          by (event.Link t.0) c.has.result t.1 c.has.ensures (still_some (mail.Link t.0) (get S.mail.links t.0))
      | inr (inr (inr (inl t))) ↦
          by (event.Release t.0) c.has.result t.1 c.has.ensures
          (still_some (mail.Release t.0) (get S.mail.releases t.0))
      | inr (inr (inr (inr (inl t)))) ↦
          by (event.Bye t.0) c.has.result t.1 c.has.ensures (still_some (mail.Bye t.0) (get S.mail.byes t.0))
      | inr (inr (inr (inr (inr (inl t))))) ↦
          by (event.Idle t.0) c.has.result t.1 c.has.ensures (still_some (mail.Idle t.0) (get S.mail.idles t.0))
      | inr (inr (inr (inr (inr (inr (inl t)))))) ↦
          by (event.Nack t.0) c.has.result t.1 c.has.ensures (still_some (λ x. mail.Nack t.0) (get S.mail.nacks t.0))
      | inr (inr (inr (inr (inr (inr (inr t)))))) ↦
          by (event.Gone t.0) c.has.result t.1 c.has.ensures (still_some (mail.Gone t.0) (get S.mail.gones t.0))
    ]
