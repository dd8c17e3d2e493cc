-- The names of a list are those of the messages of its kind that may be taken, in order.
use Rattle.std.proofs.Common.{option_map, sym, ap, ◌∙◌, refl}
use Rattle.std.specs.Prelude.{slice_get}
use Rattle.tss_base.specs.declared.event.Event.TheVariants as event
use Rattle.tss_mail.specs.declared.kind.Kind.TheVariants as kind
use Rattle.tss_pipeline.specs.declared.enabling.Source.TheVariants as source
use Rattle.tss_pipeline.specs.Enabling.{enabled_of_kind}
use Rattle.tss_pipeline.specs.State.{state_of}
use Rattle.tss_pipeline.proofs.listed.ListedNames.{listed_at}
use Rattle.tss_pipeline.proofs.units.Units.letter_in.Goals as goal

pub returns-in-Some : goal.returns-in-Some
returns-in-Some c =
    let u = c.args.self.now in
    ap (option_map event.Open) (sym c.in-Some.is ∙ c.key_at.ensures)
    ∙ listed_at u kind.Open refl c.args.kept.now.waiting.opens c.requires.kept.waiting.opens c.args.place
    ∙ ap (λ k. slice_get (enabled_of_kind u.machine (state_of u) (source.Letters k)) c.args.place) (sym c.in-Open.is)

pub returns-in-None : goal.returns-in-None
returns-in-None c =
    let u = c.args.self.now in
    ap (option_map event.Open) (sym c.in-None.is ∙ c.key_at.ensures)
    ∙ listed_at u kind.Open refl c.args.kept.now.waiting.opens c.requires.kept.waiting.opens c.args.place
    ∙ ap (λ k. slice_get (enabled_of_kind u.machine (state_of u) (source.Letters k)) c.args.place) (sym c.in-Open.is)

pub returns-in-Some-key_at : goal.returns-in-Some-key_at
returns-in-Some-key_at c =
    let u = c.args.self.now in
    ap (option_map event.Use) (sym c.in-Some-key_at.is ∙ c.key_at-in-Use.ensures)
    ∙ listed_at u kind.Use refl c.args.kept.now.waiting.uses c.requires.kept.waiting.uses c.args.place
    ∙ ap (λ k. slice_get (enabled_of_kind u.machine (state_of u) (source.Letters k)) c.args.place) (sym c.in-Use.is)

pub returns-in-None-key_at : goal.returns-in-None-key_at
returns-in-None-key_at c =
    let u = c.args.self.now in
    ap (option_map event.Use) (sym c.in-None-key_at.is ∙ c.key_at-in-Use.ensures)
    ∙ listed_at u kind.Use refl c.args.kept.now.waiting.uses c.requires.kept.waiting.uses c.args.place
    ∙ ap (λ k. slice_get (enabled_of_kind u.machine (state_of u) (source.Letters k)) c.args.place) (sym c.in-Use.is)
