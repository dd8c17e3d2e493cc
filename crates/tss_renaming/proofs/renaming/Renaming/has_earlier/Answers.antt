-- The first operand of the line tells.
use Rattle.std.proofs.Common.{ap, sym, ◌∙◌}
use Rattle.tss_maps.specs.Ordered.{least}
use Rattle.tss_renaming.specs.Bank.{RenamingState}
use Rattle.tss_renaming.proofs.LineLemmas.{earlier_first, earlier_none}
use Rattle.tss_renaming.proofs.renaming.Renaming.has_earlier.Goals as goal

pub returns-in-Some : goal.returns-in-Some
returns-in-Some c =
    earlier_first c.args.self.now.line c.args.o c.in-Some.first
    (ap (λ (s : RenamingState). least s.line) (sym c.self.view_is) ∙ sym c.first.ensures ∙ c.in-Some.is)

pub returns-in-None : goal.returns-in-None
returns-in-None c =
    earlier_none c.args.self.now.line c.args.o
    (ap (λ (s : RenamingState). least s.line) (sym c.self.view_is) ∙ sym c.first.ensures ∙ c.in-None.is)
