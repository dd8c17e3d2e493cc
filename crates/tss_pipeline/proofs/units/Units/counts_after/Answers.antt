-- Each count is what its table says.
use Rattle.std.proofs.Common.{sym, ◌∙◌}
use Rattle.tss_maps.proofs.MappedLemmas.{len-mapped}
use Rattle.tss_workers.specs.Seen.{busy_of}
use Rattle.tss_pipeline.proofs.units.Units.counts_after.Goals as goal

pub returns : goal.returns
returns c = λ i. record {
  messages = c.count.ensures.exact i;
  slots = c.slots_after.ensures i;
  ready = c.len.ensures i;
  workers = (c.busy.ensures.exact ∙ sym (len-mapped busy_of c.args.self.now.workers.entries)) i;
  entries = c.entries_after.ensures i;
  versions = c.places_after.ensures i;
  buffers = c.buffers_after.ensures i;
}
