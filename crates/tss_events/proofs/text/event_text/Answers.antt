-- The text is read as the event.
use Rattle.tss_events.proofs.EventTexts.{event_of_text-event_text}
use Rattle.tss_events.proofs.text.event_text.Goals as goal

pub returns-clause-inverse : goal.returns-clause-inverse
returns-clause-inverse c = event_of_text-event_text c.args.e.now c.requires
