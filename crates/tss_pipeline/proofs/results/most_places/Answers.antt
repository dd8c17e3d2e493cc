-- The next bank may have more.
use Rattle.std.proofs.Common.{sym, ap, ◌∙◌}
use Rattle.std.specs.FinMap.{len}
use Rattle.tss_pipeline.proofs.shown.BankFills.{more_places}
use Rattle.tss_pipeline.proofs.results.most_places.Goals as goal

pub loop-i-preserved : goal.loop-i-preserved
loop-i-preserved c =
    more_places c.args.banks.now c.loop-i.i c.index-banks-i.result c.loop-i-test.true c.index-banks-i.is c.loop-i.most
    c.places.result c.max-most.result c.loop-i.invariant
    (c.places.ensures.exact ∙ ap (λ b. len b.renaming.places) (sym c.index-banks-i.is)) c.max-most.ensures
