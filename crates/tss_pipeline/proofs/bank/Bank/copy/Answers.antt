-- The buffer of a copy is held.
use Rattle.std.proofs.Common.{sym, ◌∙◌}
use Rattle.tss_pipeline.proofs.shown.SeenBanks.{buffer_of_job}
use Rattle.tss_pipeline.proofs.bank.Bank.copy.Goals as goal

pub unreachable-requires : goal.unreachable-requires
unreachable-requires c =
    let b = c.args.self.now in
    buffer_of_job b.renaming b.engine b.job c.in-Some.job c.in-Some.is c.requires
    (sym c.buffer.ensures.exact ∙ c.in-None-buffer.is)
