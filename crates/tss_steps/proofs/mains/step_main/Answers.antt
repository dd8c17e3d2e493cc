-- One step of main is one of the definition's.
use Rattle.std.proofs.Common.{◌≡◌, Bool, true, false, refl, sym, ap, subst, ◌∙◌, arith}
use Rattle.std.proofs.lemmas.Bool.{le-leb, lt-leb}
use Rattle.tss_core.specs.Steps.{step_of}
use Rattle.tss_steps.specs.Seen.{main_sight}
use Rattle.tss_steps.specs.Mains.{MainTurn, StepsMain, ending_of, main_turn}
use Rattle.tss_steps.proofs.MainLemmas.{main_turns-spent, main_turns-stepped, turn_by}
use Rattle.tss_steps.proofs.mains.step_main.Goals as goal

pub returns-then-done-limits-clause-exact : goal.returns-then-done-limits-clause-exact
returns-then-done-limits-clause-exact c spawned pieces =
    main_turns-spent c.args.view.now.code.now c.args.limits.now c.args.regs.now spawned c.args.view.now.epoch.now.objects pieces
    c.args.view.now.space.now (le-leb c.args.limits.now.main_budget c.args.regs.now.done (omega arith)) c.pc.result c.pc.ensures

pub returns-then-advance-clause-exact : goal.returns-then-advance-clause-exact
returns-then-advance-clause-exact c =
    let v = c.args.view.now in
    let is : main_turn c.advance.result (ending_of c.advance.new.regs c.advance.new.stop) ≡ main_turn true (ending_of c.advance.new.regs c.advance.new.stop) =
    ap (λ (b : Bool). main_turn b (ending_of c.advance.new.regs c.advance.new.stop)) c.if-advance.true in
    subst (λ (u : MainTurn). StepsMain v.code.now c.args.limits.now v.epoch.now.objects c.args.regs.now v.space.now c.advance.new.regs
    c.advance.new.view.space.now u) (turn_by c.advance.new.regs c.advance.result c.advance.new.stop ∙ is)
    (λ spawned pieces.
    main_turns-stepped v.code.now c.args.limits.now c.args.regs.now spawned v.epoch.now.objects pieces v.space.now
    (lt-leb c.args.limits.now.main_budget c.args.regs.now.done (omega arith)) c.advance.new.regs c.advance.new.view.space.now _
    (step_of (main_sight v.code.now v.epoch.now.objects v.space.now) c.args.regs.now)
    refl c.advance.ensures.exact c.advance.ensures.registers c.advance.ensures.leaves.memory)

pub returns-clause-exact : goal.returns-clause-exact
returns-clause-exact c =
    let v = c.args.view.now in
    let is : main_turn c.advance.result (ending_of c.advance.new.regs c.advance.new.stop) ≡ main_turn false c.ending_of.result =
    (λ i. main_turn (c.if-advance.false i) (sym c.ending_of.ensures i)) in
    subst (λ (u : MainTurn). StepsMain v.code.now c.args.limits.now v.epoch.now.objects c.args.regs.now v.space.now c.advance.new.regs
    c.advance.new.view.space.now u) (turn_by c.advance.new.regs c.advance.result c.advance.new.stop ∙ is)
    (λ spawned pieces.
    main_turns-stepped v.code.now c.args.limits.now c.args.regs.now spawned v.epoch.now.objects pieces v.space.now
    (lt-leb c.args.limits.now.main_budget c.args.regs.now.done (omega arith)) c.advance.new.regs c.advance.new.view.space.now _
    (step_of (main_sight v.code.now v.epoch.now.objects v.space.now) c.args.regs.now)
    refl c.advance.ensures.exact c.advance.ensures.registers c.advance.ensures.leaves.memory)
