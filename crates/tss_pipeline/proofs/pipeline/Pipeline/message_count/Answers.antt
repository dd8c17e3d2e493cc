-- The mail counts its names.
use Rattle.std.proofs.Common.{length, sym, ap, ◌∙◌}
use Rattle.tss_protocol.specs.Mail.{message_names}
use Rattle.tss_mail.specs.Letters.{mail_of}
use Rattle.tss_pipeline.specs.Seen.{PipelineState}
use Rattle.tss_pipeline.proofs.ends.EndingLemmas.{length-message_names}
use Rattle.tss_pipeline.proofs.pipeline.Pipeline.message_count.Goals as goal

pub returns : goal.returns
returns c =
    c.count.ensures.exact
    ∙ sym (length-message_names (mail_of c.self.inside.units.mail))
    ∙ ap (λ (p : PipelineState). length (message_names p.state.mail)) c.self.view_is
