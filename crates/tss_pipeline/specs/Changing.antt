-- The parts of the units that an event may change.
use Rattle.tss_base.specs.declared.event.Event.{Event}
use Rattle.tss_locality.specs.Leaves.{changes}
use Rattle.tss_pipeline.specs.declared.changing.Parts.{Parts}

-- each is a field of the state
abbrev pub parts_changed : Event → Parts
parts_changed e = record {
  flight = (changes e).flight;
  queue = (changes e).queue;
  workers = (changes e).workers;
  entries = (changes e).entries;
  places = (changes e).places;
  buffers = (changes e).buffers;
  versions = (changes e).versions;
  mail = (changes e).mail;
  copies = (changes e).copies;
}
