-- An accepted spawn, and the task that it hands over.
use Rattle.std.proofs.Common.{Some, refl, sym, ap, subst, ◌∙◌, arith}
use Rattle.tss_model.specs.MainStep.{Spawn}
use Rattle.tss_operands.specs.Naming.{EpochState}
use Rattle.tss_steps.specs.Limited.{LimitedMain, Calls}
use Rattle.tss_steps.proofs.CallLemmas.{main_with, spawn_calls}
use Rattle.tss_steps.proofs.RiseLemmas.{rise_later}
use Rattle.tss_steps.proofs.SpawnPlaces.{are_placed-spawn_of, number-spawn_of}
use Rattle.tss_steps.proofs.main_state.Main.spawn.Goals as goal

pub returns-in-Ok-clause-call : goal.returns-in-Ok-clause-call
returns-in-Ok-clause-call c =
    let i = c.self.inside in
    subst (λ (x : LimitedMain). Calls Spawn c.args.space.now x
    (record { limits = i.limits; main = main_with c.called.new.self c.in-Ok.task.number c.name_all.new.self.objects i.printed.pieces i.ending })
    (Some c.in-Ok.task)) c.self.view_is
    (record {
      exact =
          spawn_calls i.limits i.regs c.called.new.self i.spawned i.epoch.objects c.name_all.new.self.objects i.printed.pieces i.ending
          c.args.space.now c.in-Ok.task (record { entry = c.get.result; list = c.get-2.result; count = c.get-3.result; argument = c.get-4.result })
          (λ j. record { entry = c.get.ensures j; list = c.get-2.ensures j; count = c.get-3.ensures j; argument = c.get-4.ensures j })
          c.in-Ok.ensures.exact c.called.ensures (ap (λ (s : EpochState). s.objects) c.name_all.ensures);
      limits = refl;
    })

pub returns-in-Ok-clause-runnable : goal.returns-in-Ok-clause-runnable
returns-in-Ok-clause-runnable c =
    let few = c.in-Ok.ensures.few in
    record {
      count = few.0;
      listed = omega (arith, few.1, c.self.invariant.few);
      placed =
          are_placed-spawn_of c.self.inside.limits
          (record { entry = c.get.result; list = c.get-2.result; count = c.get-3.result; argument = c.get-4.result })
          c.args.space.now c.self.inside.epoch.objects c.self.inside.spawned c.in-Ok.task (sym c.in-Ok.ensures.exact);
    }

pub invariant_of-self : goal.invariant_of-self
invariant_of-self c =
    let i = c.self.inside in
    let next =
    number-spawn_of i.limits
    (record { entry = c.get.result; list = c.get-2.result; count = c.get-3.result; argument = c.get-4.result })
    c.args.space.now i.epoch.objects i.spawned c.in-Ok.task (sym c.in-Ok.ensures.exact) in
    record {
      few = c.self.invariant.few;
      objects = ap (λ (s : EpochState). s.limit) c.name_all.ensures ∙ c.self.invariant.objects;
      bytes = c.self.invariant.bytes;
      rise = rise_later 0 i.printed.pieces i.spawned c.in-Ok.task.number (omega (arith, next)) c.self.invariant.rise;
    }
