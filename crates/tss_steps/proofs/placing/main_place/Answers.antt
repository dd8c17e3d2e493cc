-- An access that the rule grants to main lies in a range of memory.
use Rattle.std.proofs.Common.{ap, sym, ◌∙◌}
use Rattle.std.specs.Prelude.{option_map}
use Rattle.tss_memory.specs.declared.found.Found.{Found}
use Rattle.tss_steps.proofs.GrantLemmas.{main_unplaced, main_stored}
use Rattle.tss_steps.proofs.placing.main_place.Goals as goal

pub unreachable-requires : goal.unreachable-requires
unreachable-requires c =
    main_unplaced c.args.purpose c.writable.result
    (c.writable.ensures ∙ ap (option_map (λ (f : Found). f.writable)) c.in-None.is)
    c.in_ok-main_access.ensures.placed

pub returns-clause-found : goal.returns-clause-found
returns-clause-found c = record {
  found = c.in-Some.ensures.found;
  within = sym c.in-Some.ensures.exact;
  stored =
      main_stored c.args.purpose c.writable.result (c.in-Some.found).writable
      (c.writable.ensures ∙ ap (option_map (λ (f : Found). f.writable)) c.in-Some.is)
      c.in_ok-main_access.ensures.placed;
}
