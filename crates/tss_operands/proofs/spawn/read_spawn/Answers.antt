-- The checks of the list and its entries, and then those of the task.
use Rattle.std.proofs.Common.{◌≤◌, ap, sym, ◌∙◌}
use Rattle.std.proofs.lemmas.Bool.{cond-true, cond-false, le-ltb, lt-ltb}
use Rattle.std.proofs.lemmas.Result.{err_from_is_err_and}
use Rattle.tss_model.specs.Access.{operands_of}
use Rattle.tss_model.specs.Spawn.{objects_of, task_checked}
use Rattle.tss_operands.specs.Naming.{CanNameAll}
use Rattle.tss_operands.specs.Spawning.{call_of}
use Rattle.tss_operands.proofs.SpawnLemmas.{CanNameAll-spawn_of, IfOk-numbered, few-spawn_of, spawn_of-listed}
use Rattle.tss_operands.proofs.spawn.read_spawn.Goals as goal

pub returns-then-limits-words-clause-exact : goal.returns-then-limits-words-clause-exact
returns-then-limits-words-clause-exact c =
    sym (spawn_of-listed (call_of c.args.words.now) c.args.space.now c.args.epoch.now.objects c.args.limits.now c.args.spawned
    ∙ cond-true _ _ _ (lt-ltb _ _ c.if-limits-words.true))

pub returns-in_err-listed-clause-exact : goal.returns-in_err-listed-clause-exact
returns-in_err-listed-clause-exact c =
    let call = call_of c.args.words.now in
    let named = c.args.epoch.now.objects in
    let limits = c.args.limits.now in
    let p = err_from_is_err_and c.from_residual.result c.from_residual.ensures.1 in
    rw (p.1, p.2) (sym (spawn_of-listed call c.args.space.now named limits c.args.spawned
    ∙ cond-false _ _ _ (le-ltb _ _ c.if-limits-words.false)
    ∙ ap (task_checked limits call named c.args.spawned) (sym c.in_err-listed.ensures)))

pub returns-clause-exact : goal.returns-clause-exact
returns-clause-exact c =
    let call = call_of c.args.words.now in
    let named = c.args.epoch.now.objects in
    let limits = c.args.limits.now in
    c.checked_task.ensures
    ∙ sym (spawn_of-listed call c.args.space.now named limits c.args.spawned
    ∙ cond-false _ _ _ (le-ltb _ _ c.if-limits-words.false)
    ∙ ap (task_checked limits call named c.args.spawned) (sym c.in_ok-listed.ensures))

pub returns-clause-nameable : goal.returns-clause-nameable
returns-clause-nameable c =
    let named = c.args.epoch.now.objects in
    let limits = c.args.limits.now in
    IfOk-numbered (λ t. CanNameAll limits.epoch_objects named (objects_of (operands_of t))) _
    (λ t accepted. CanNameAll-spawn_of (call_of c.args.words.now) c.args.space.now named limits c.args.spawned t accepted)
    c.checked_task.result (returns-clause-exact c)

pub returns-clause-few : goal.returns-clause-few
returns-clause-few c =
    let limits = c.args.limits.now in
    IfOk-numbered (λ t. (t.count ≤ t.listed) × (t.listed ≤ limits.max_operands)) _
    (λ t accepted. few-spawn_of (call_of c.args.words.now) c.args.space.now c.args.epoch.now.objects limits c.args.spawned t accepted)
    c.checked_task.result (returns-clause-exact c)
