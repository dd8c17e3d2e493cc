-- Each bank is empty exactly where the tables of all are.
use Rattle.std.proofs.Common.{ap, ◌∙◌}
use Rattle.std.specs.List.{list_all}
use Rattle.tss_pipeline.specs.Emptiness.{is_empty}
use Rattle.tss_pipeline.proofs.ends.EmptyBanks.{empty_banks}
use Rattle.tss_pipeline.proofs.units.Units.has_no_object.Goals as goal

pub returns : goal.returns
returns c =
    c.are_empty.ensures
    ∙ ap (list_all is_empty) c.deref.ensures.value
    ∙ empty_banks 0 c.args.self.now.banks.items (λ i b at. (c.requires.placed.own i b at).engine)
