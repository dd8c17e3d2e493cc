use Rattle.std.proofs.Common.{sym, ap, ◌∙◌, None, Some}
use Rattle.std.specs.Option.{option_copied}
use Rattle.tss_asm.specs.Labels.{place_of}
use Rattle.tss_asm.proofs.LabelLemmas.{place_is}
use Rattle.tss_asm.proofs.label.Labels.place_of.Goals as goal

pub returns-in-Some : goal.returns-in-Some
returns-in-Some c =
    place_is c.self.inside.places c.label.inside.number (Some c.in-Some.place.now)
    (ap option_copied (sym c.in-Some.is) ∙ c.get.ensures)
    ∙ (λ i. place_of (c.self.view_is i) (c.label.view_is i))

pub returns-in-None : goal.returns-in-None
returns-in-None c =
    place_is c.self.inside.places c.label.inside.number None (ap option_copied (sym c.in-None.is) ∙ c.get.ensures)
    ∙ (λ i. place_of (c.self.view_is i) (c.label.view_is i))
