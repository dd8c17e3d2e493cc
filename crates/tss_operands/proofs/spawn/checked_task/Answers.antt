-- The objects that aren't named yet are counted, each once.
use Rattle.std.proofs.Common.{arith, ap, sym, ◌∙◌, Ok}
use Rattle.tss_model.specs.Spawn.{merged_operands}
use Rattle.tss_operands.specs.Spawning.{call_of}
use Rattle.tss_operands.proofs.SpawnLemmas.{task_checked-Ok, task_checked-full, task_checked-many}
use Rattle.tss_operands.proofs.spawn.checked_task.Goals as goal

pub returns-then-from-named_with : goal.returns-then-from-named_with
returns-then-from-named_with c =
    sym (task_checked-full c.args.limits.now (call_of c.args.words.now) c.args.epoch.now.objects c.args.spawned
    c.args.listed.now c.merged-merged.result (c.merged-merged.ensures ∙ ap merged_operands c.as_slice.ensures.items)
    (omega (arith, c.named_with.ensures, c.from.ensures, c.if-from-named_with.true)))

pub returns-then-limits-spawned : goal.returns-then-limits-spawned
returns-then-limits-spawned c =
    sym (task_checked-many c.args.limits.now (call_of c.args.words.now) c.args.epoch.now.objects c.args.spawned
    c.args.listed.now c.merged-merged.result (c.merged-merged.ensures ∙ ap merged_operands c.as_slice.ensures.items)
    (omega (arith, c.named_with.ensures, c.from.ensures, c.if-from-named_with.false)) c.if-limits-spawned.true)

pub returns : goal.returns
returns c =
    ap Ok c.task_of.ensures
    ∙ sym (task_checked-Ok c.args.limits.now (call_of c.args.words.now) c.args.epoch.now.objects c.args.spawned
    c.args.listed.now c.merged-merged.result (c.merged-merged.ensures ∙ ap merged_operands c.as_slice.ensures.items)
    (omega (arith, c.named_with.ensures, c.from.ensures, c.if-from-named_with.false)) c.if-limits-spawned.false)
