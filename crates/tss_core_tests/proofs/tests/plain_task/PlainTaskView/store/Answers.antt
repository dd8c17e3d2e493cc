-- A store by the rule of access lies in the scratch or in the bytes, and its bytes stand there.
use Rattle.std.proofs.Common.{◌≡◌, ◌≤◌, ℕ, List, ◌++◌, length, take, drop, ap, sym, ◌∙◌, arith}
use Rattle.std.proofs.lemmas.Grind.{common_steps}
use Rattle.tss_base.specs.declared.range.Range.{Range}
use Rattle.tss_model.specs.Memory.{range_of}
use Rattle.tss_model.specs.Access.{Stores, task_may_within}
use Rattle.tss_core.specs.Views.{stored}
use Rattle.tss_core_tests.specs.Plain.{plain_ranges, lies_in, task_sight, task_bytes_after, scratch_after}
use Rattle.tss_core_tests.proofs.TaskLemmas.{lies_in-granted, LiesThere-stored, IsAfter-task_sight}
use Rattle.tss_core_tests.proofs.tests.plain_task.PlainTaskView.store.Goals as goal

pub write-requires-clause-there : goal.write-requires-clause-there
write-requires-clause-there c =
    let r : Range = record { base = c.args.at; len = c.args.width } in
    let n : ℕ = length c.args.self.now.bytes.items in
    let writable = c.args.self.now.writable in
    let within = c.within.ensures ∙ ap (λ (b : List ℕ). range_of
    (plain_ranges (length b) writable) r) c.deref-2.ensures.value in
    let may = (λ i. task_may_within Stores (sym c.deref.ensures.value i) r (sym within i))
    ∙ c.in_ok-task_access.ensures.placed in
    let there = lies_in-granted Stores n writable c.args.self.now.operands.items r c.args.self.now.inside may in
    ap (λ (b : List ℕ). lies_in (length b) r) c.deref_mut.ensures.value ∙ there

pub returns-clause-bytes : goal.returns-clause-bytes
returns-clause-bytes c =
    let r : Range = record { base = c.args.at; len = c.args.width } in
    let bytes : List ℕ = c.args.self.now.bytes.items in
    let scratch : List ℕ = c.args.self.now.scratch.items in
    let writable = c.args.self.now.writable in
    let operands = c.args.self.now.operands.items in
    let within = c.within.ensures ∙ ap (λ (b : List ℕ). range_of
    (plain_ranges (length b) writable) r) c.deref-2.ensures.value in
    let may = (λ i. task_may_within Stores (sym c.deref.ensures.value i) r (sym within i))
    ∙ c.in_ok-task_access.ensures.placed in
    let there = lies_in-granted Stores (length bytes) writable operands r c.args.self.now.inside may in
    let text = c.args.self.now.text in
    let code = c.args.self.now.code.items in
    let sight = task_sight bytes writable scratch operands text code in
    let w = stored sight c.args.at c.args.width c.args.value in
    let new : List ℕ = take c.args.self.now.bytes.len (c.write.new.bytes ++ drop (length c.write.new.bytes) bytes) in
    let put : List ℕ = take c.args.self.now.scratch.len
    (c.write.new.scratch ++ drop (length c.write.new.scratch) scratch) in
    let new_is : new ≡ task_bytes_after bytes w = grind (arith, common_steps) in
    let put_is : put ≡ scratch_after scratch w = grind (arith, common_steps) in
    let placed : length bytes ≤ 0xFFFD0000 = omega arith in
    let whole : length scratch ≡ 65536 = omega arith in
    IsAfter-task_sight bytes scratch placed whole writable operands text code new put w new_is put_is
    (LiesThere-stored sight (length bytes) c.args.at c.args.width c.args.value c.requires there)
