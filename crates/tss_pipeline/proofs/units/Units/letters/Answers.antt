-- Each message of the kind may be taken.
use Rattle.std.proofs.Common.{List, length, sym, ap, ◌∙◌}
use Rattle.tss_base.specs.declared.event.Event.{Event}
use Rattle.tss_pipeline.specs.declared.enabling.Source.TheVariants as source
use Rattle.tss_pipeline.specs.State.{state_of}
use Rattle.tss_pipeline.proofs.listed.FreeEvents.{free_kind}
use Rattle.tss_pipeline.proofs.units.Units.letters.Goals as goal

pub returns : goal.returns
returns c =
    c.count_of.ensures
    ∙ ap (λ (es : List Event). length es)
    (sym (free_kind c.args.self.now.machine (state_of c.args.self.now) (source.Letters c.args.kind) c.requires))
