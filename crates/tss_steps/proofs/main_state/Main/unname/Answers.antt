-- An object that is awaited is no longer named.
use Rattle.std.proofs.Common.{None, refl, sym, ap, subst, ◌∙◌}
use Rattle.tss_model.specs.MainStep.{MainState, Await}
use Rattle.tss_operands.specs.Naming.{EpochState}
use Rattle.tss_steps.specs.Limited.{LimitedMain, Calls}
use Rattle.tss_steps.proofs.CallLemmas.{main_with}
use Rattle.tss_steps.proofs.AwaitLemmas.{await_takes}
use Rattle.tss_steps.proofs.main_state.Main.unname.Goals as goal

pub returns-then-unname : goal.returns-then-unname
returns-then-unname c =
    let i = c.self.inside in
    subst (λ (x : LimitedMain). Calls Await c.args.space.now x
    (record { limits = i.limits; main = main_with c.called.new.self i.spawned c.unname.new.self.objects i.printed.pieces i.ending }) None) c.self.view_is
    (record {
      exact =
          ap (λ (m : MainState). (m, None))
          (await_takes i.regs i.spawned i.epoch.objects i.printed.pieces i.ending c.get.result c.get.ensures
          c.called.new.self c.unname.new.self.objects (sym c.if-unname.true ∙ c.unname.ensures.named) c.called.ensures
          (ap (λ (s : EpochState). s.objects) c.unname.ensures.left));
      limits = refl;
    })
