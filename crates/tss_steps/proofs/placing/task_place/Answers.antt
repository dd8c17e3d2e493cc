-- An access that the rule grants to a task, and that lies outside its scratch, lies in a range of memory.
use Rattle.std.proofs.Common.{ap, sym, ◌∙◌}
use Rattle.std.specs.Prelude.{option_map}
use Rattle.tss_memory.specs.declared.found.Found.{Found}
use Rattle.tss_steps.proofs.GrantLemmas.{task_unplaced, task_stored}
use Rattle.tss_steps.proofs.placing.task_place.Goals as goal

pub unreachable-requires : goal.unreachable-requires
unreachable-requires c =
    task_unplaced c.args.space.now.ranges c.requires.ranges c.args.operands.now c.requires.placed c.args.r.now c.requires.some
    c.requires.outside c.args.purpose c.writable.result
    (c.writable.ensures ∙ ap (option_map (λ (f : Found). f.writable)) c.in-None.is)
    (sym c.in-None.ensures.exact)
    c.in_ok-task_access.ensures.placed

pub returns-clause-found : goal.returns-clause-found
returns-clause-found c = record {
  found = c.in-Some.ensures.found;
  within = sym c.in-Some.ensures.exact;
  stored =
      task_stored c.args.space.now.ranges c.requires.ranges c.args.operands.now c.requires.placed c.args.r.now c.requires.some
      c.requires.outside c.args.purpose c.writable.result (c.in-Some.found).writable (sym c.in-Some.ensures.exact)
      c.in_ok-task_access.ensures.placed;
}
