-- When main's event may happen, by its next call.
use Rattle.std.proofs.Common.{◌≡◌, Bool, true, false, Option, is_none, sym, ap, ◌∙◌}
use Rattle.std.specs.Prelude.{◌&&◌}
use Rattle.tss_base.specs.declared.event.Event.TheVariants as event
use Rattle.tss_model.specs.MainStep.{Call, next_call}
use Rattle.tss_protocol.specs.MainEvent.{flat_of, call_next, may_call}
use Rattle.tss_protocol.specs.UnitMachine.{is_enabled}
use Rattle.tss_pipeline.specs.declared.units.Units.{Units}
use Rattle.tss_pipeline.specs.State.{state_of}
use Rattle.tss_pipeline.specs.Fit.{IsFit}

module _ (u : Units) where
  abbrev Goes : Bool
  Goes = is_none (state_of u).main.ending && is_none (state_of u).trap

  -- where main goes on its next call tells
  pub main_goes : (b : Bool) → b ≡ true → b ≡ Goes → (c : Bool)
      → c ≡ may_call (state_of u) (call_next u.machine (state_of u))
      → c ≡ is_enabled u.machine (state_of u) event.Main
  unfolding is_enabled
  main_goes b on is c call =
      call ∙ ap (λ a. a && may_call (state_of u) (call_next u.machine (state_of u))) (sym on ∙ is)

  -- else it may not
  pub main_stops : (b : Bool) → b ≡ false → b ≡ Goes → b ≡ is_enabled u.machine (state_of u) event.Main
  unfolding is_enabled
  main_stops b off is =
      off ∙ ap (λ a. a && may_call (state_of u) (call_next u.machine (state_of u))) (sym off ∙ is)

  -- the next call under main's limits is that under the machine's
  pub same_call : IsFit u → (o : Option Call) → o ≡ next_call u.code u.main.limits (flat_of (state_of u))
      → o ≡ call_next u.machine (state_of u)
  same_call fit o is = is ∙ ap (λ l. next_call u.code l (flat_of (state_of u))) fit.sized.limits
