-- A load by the rule of access lies in the scratch or in the bytes.
use Rattle.std.proofs.Common.{ℕ, List, length, ap, sym, ◌∙◌}
use Rattle.tss_base.specs.declared.range.Range.{Range}
use Rattle.tss_model.specs.Memory.{range_of}
use Rattle.tss_model.specs.Access.{Loads, task_may_within}
use Rattle.tss_core_tests.specs.Plain.{plain_ranges, lies_in}
use Rattle.tss_core_tests.proofs.TaskLemmas.{lies_in-granted}
use Rattle.tss_core_tests.proofs.tests.plain_task.PlainTaskView.load.Goals as goal

pub read-requires-clause-there : goal.read-requires-clause-there
read-requires-clause-there c =
    let r : Range = record { base = c.args.at; len = c.args.width } in
    let n : ℕ = length c.args.self.now.bytes.items in
    let writable = c.args.self.now.writable in
    let within = c.within.ensures ∙ ap (λ (b : List ℕ). range_of
    (plain_ranges (length b) writable) r) c.deref-2.ensures.value in
    let may = (λ i. task_may_within Loads (sym c.deref.ensures.value i) r (sym within i))
    ∙ c.in_ok-task_access.ensures.placed in
    let there = lies_in-granted Loads n writable c.args.self.now.operands.items r c.args.self.now.inside may in
    ap (λ (b : List ℕ). lies_in (length b) r) c.deref-3.ensures.value ∙ there
