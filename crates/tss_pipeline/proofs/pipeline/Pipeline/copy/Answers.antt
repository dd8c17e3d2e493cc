-- The engine copies what the bank has as its job.
use Rattle.std.proofs.Common.{ap, option_map, ◌∙◌}
use Rattle.tss_pipeline.specs.BankParts.{copy_told}
use Rattle.tss_pipeline.proofs.shown.SeenBanks.{engaged_here, seen_copied, seen_no_copy}
use Rattle.tss_pipeline.proofs.pipeline.Pipeline.copy.Goals as goal

pub copy-requires : goal.copy-requires
copy-requires c =
    engaged_here c.self.inside.units c.self.invariant.fit c.args.self.now c.self.view_is
    c.deref.result.now c.deref.ensures.value c.args.bank c.in-Some.bank.now c.in-Some.ensures

pub returns-in-Some : goal.returns-in-Some
returns-in-Some c =
    c.copy.ensures
    ∙ seen_copied c.self.inside.units c.self.invariant.fit c.args.self.now c.self.view_is
    c.deref.result.now c.deref.ensures.value c.args.bank c.in-Some.bank.now c.in-Some.ensures

pub returns-in-None : goal.returns-in-None
returns-in-None c =
    ap (option_map copy_told) (seen_no_copy c.self.inside.units c.self.invariant.fit c.args.self.now c.self.view_is
    c.deref.result.now c.deref.ensures.value c.args.bank c.in-None.ensures)
