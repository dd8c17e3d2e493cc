-- The names of the messages of one kind, in order.
use Rattle.std.specs.Prelude.{List, map}
use Rattle.std.specs.FinMap.{keys}
use Rattle.tss_base.specs.declared.event.Event.{Event}
use Rattle.tss_base.specs.declared.event.Event.TheVariants as event
use Rattle.tss_protocol.specs.Mail.{Mail}
use Rattle.tss_mail.specs.declared.kind.Kind.{Kind}
use Rattle.tss_mail.specs.declared.kind.Kind.TheVariants as kind

abbrev pub names_of_kind : Mail → Kind → List Event
names_of_kind m kind.Decode = map event.Decode (keys m.decodes)
names_of_kind m kind.Ack = map event.Ack (keys m.acks)
names_of_kind m kind.Open = map event.Open (keys m.opens)
names_of_kind m kind.Use = map event.Use (keys m.uses)
names_of_kind m kind.Ready = map event.Ready (keys m.readies)
names_of_kind m kind.Link = map event.Link (keys m.links)
names_of_kind m kind.Release = map event.Release (keys m.releases)
names_of_kind m kind.Bye = map event.Bye (keys m.byes)
names_of_kind m kind.Idle = map event.Idle (keys m.idles)
names_of_kind m kind.Nack = map event.Nack (keys m.nacks)
names_of_kind m kind.Retire = map event.Retire (keys m.retires)
names_of_kind m kind.Gone = map event.Gone (keys m.gones)
