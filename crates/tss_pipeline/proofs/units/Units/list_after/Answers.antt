-- Names that aren't tested are as they were before the event.
use Rattle.std.proofs.Common.{sym, ◌∙◌, subst}
use Rattle.tss_pipeline.specs.Listing.{FitsIn, AreListed}
use Rattle.tss_pipeline.proofs.listed.ListedAfter.{listed_nobody, fits_one, listed_one, fits_all, fits_others}
use Rattle.tss_pipeline.proofs.units.Units.list_after.Goals as goal
use Rattle.tss_pipeline.proofs.units.Units.list_after.Goals.{in-Some, in_default}

pub mark_name-requires-clause-fits : goal.mark_name-requires-clause-fits
mark_name-requires-clause-fits c =
    fits_one c.args.e.now c.args.self.now c.args.kind c.args.list.now c.requires.kind c.requires.before c.in-One.o
    (sym c.suspects_of.ensures ∙ c.in-One.is)

pub list_anew-requires-clause-fits : goal.list_anew-requires-clause-fits
list_anew-requires-clause-fits c =
    let u = c.args.self.now in
    let k = c.args.kind in
    let all = sym c.suspects_of.ensures ∙ c.in-All.is in
    elim c.match-name_taken.branch [
      | in-Some w ↦
          subst (FitsIn u k) (sym (w.list-is ∙ w.remove.ensures.others))
          (fits_others c.args.e.now u k c.args.list.now c.requires.kind c.requires.before all w.in-Some.o
          (sym c.name_taken.ensures ∙ w.in-Some.is))
      | in_default w ↦
          subst (FitsIn u k) (sym w.list-is)
          (fits_all c.args.e.now u k c.args.list.now c.requires.kind c.requires.before all
          (sym c.name_taken.ensures ∙ w.in_default.is))
    ]

pub returns-in-Nobody : goal.returns-in-Nobody
returns-in-Nobody c =
    listed_nobody c.args.e.now c.args.self.now c.args.kind c.args.list.now c.requires.kind c.requires.before
    (sym c.suspects_of.ensures ∙ c.in-Nobody.is)

pub returns-in-One : goal.returns-in-One
returns-in-One c =
    subst (AreListed c.args.self.now c.args.kind) (sym c.mark_name.ensures)
    (listed_one c.args.e.now c.args.self.now c.args.kind c.args.list.now c.requires.kind c.requires.before c.in-One.o
    (sym c.suspects_of.ensures ∙ c.in-One.is))
