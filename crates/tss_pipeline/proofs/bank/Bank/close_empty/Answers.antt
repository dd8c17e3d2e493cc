use Rattle.std.proofs.Common.{sym, ap, ◌∙◌}
use Rattle.std.specs.FinMap.{get, get-empty}
use Rattle.std.proofs.lemmas.Option.{none-some}
use Rattle.tss_base.specs.Names.{name_cmp}
use Rattle.tss_pipeline.proofs.bank.Bank.close_empty.Goals as goal

pub close-requires : goal.close-requires
close-requires c v x there =
    absurd (none-some x (sym (get-empty name_cmp v) ∙ ap (λ m. get m v) (sym c.requires.versions) ∙ there))
