-- Each bank has as many as the joined tables say of it.
use Rattle.std.proofs.Common.{ap, ◌∙◌, length}
use Rattle.tss_protocol.specs.Counts.{greatest}
use Rattle.tss_pipeline.specs.Emptiness.{fill_at}
use Rattle.tss_pipeline.proofs.shown.BankFills.{all_buffers}
use Rattle.tss_pipeline.proofs.units.Units.most_buffers.Goals as goal

pub returns : goal.returns
returns c =
    c.most_buffers.ensures
    ∙ ap (λ bs. greatest (λ b. (fill_at bs b).buffers) (length bs)) c.deref.ensures.value
    ∙ all_buffers c.args.self.now.machine c.args.self.now.banks.items c.requires.sized.banks c.requires.placed.tables
