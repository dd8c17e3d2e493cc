-- Each count is what its table says.
use Rattle.std.proofs.Common.{sym, ◌∙◌}
use Rattle.tss_maps.proofs.MappedLemmas.{len-mapped}
use Rattle.tss_workers.specs.Seen.{busy_of}
use Rattle.tss_pipeline.proofs.units.Units.counts.Goals as goal

pub returns : goal.returns
returns c = λ i. record {
  messages = c.count.ensures.exact i;
  slots = c.most_slots.ensures i;
  ready = c.len.ensures i;
  workers = (c.busy.ensures.exact ∙ sym (len-mapped busy_of c.args.self.now.workers.entries)) i;
  entries = c.most_entries.ensures i;
  versions = c.most_places.ensures i;
  buffers = c.most_buffers.ensures i;
}
