use Rattle.std.proofs.Common.{sym, ◌∙◌}
use Rattle.tss_pipeline.proofs.bank.Bank.close.Goals as goal

pub close-requires : goal.close-requires
close-requires c = λ v x there. record {
  place = (c.requires.versions v x there).place.number ∙ sym c.close-places.ensures.places;
  buffer = λ h held. ((c.requires.versions v x there).buffer h held).number ∙ sym c.close-places.ensures.buffers;
}
