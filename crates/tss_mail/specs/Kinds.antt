-- The kinds of messages by number, and the names of their messages.
use Rattle.std.specs.Prelude.{ℕ, List, [], ◌∷◌, slice_index_or, Option, Some, None}
use Rattle.tss_base.specs.declared.operand.OpName.{OpName}
use Rattle.tss_base.specs.declared.event.Event.{Event}
use Rattle.tss_base.specs.declared.event.Event.TheVariants as event
use Rattle.tss_mail.specs.declared.kind.Kind.{Kind}
use Rattle.tss_mail.specs.declared.kind.Kind.TheVariants.{Decode, Ack, Open, Use, Ready, Link, Release, Bye, Idle, Nack, Retire, Gone}

-- the kinds in the order of events
abbrev pub all_kinds : List Kind
all_kinds =
    Decode ∷ Ack ∷ Open ∷ Use ∷ Ready ∷ Link ∷ Release ∷ Bye ∷ Idle ∷ Nack ∷ Retire ∷ Gone ∷ []

-- the kind at a place
abbrev pub kind_at : ℕ → Kind
kind_at number = slice_index_or all_kinds number Gone

-- the place of a kind
abbrev pub number_of : Kind → ℕ
number_of Decode = 0
number_of Ack = 1
number_of Open = 2
number_of Use = 3
number_of Ready = 4
number_of Link = 5
number_of Release = 6
number_of Bye = 7
number_of Idle = 8
number_of Nack = 9
number_of Retire = 10
number_of Gone = 11

-- the name of a message
abbrev pub event_of : Kind → OpName → Event
event_of Decode o = event.Decode o
event_of Ack o = event.Ack o
event_of Open o = event.Open o
event_of Use o = event.Use o
event_of Ready o = event.Ready o
event_of Link o = event.Link o
event_of Release o = event.Release o
event_of Bye o = event.Bye o
event_of Idle o = event.Idle o
event_of Nack o = event.Nack o
event_of Retire o = event.Retire o
event_of Gone o = event.Gone o

-- the kind and the name of the message that an event takes
abbrev pub address_of : Event → Option (Kind × OpName)
address_of (event.Decode o) = Some (Decode, o)
address_of (event.Ack o) = Some (Ack, o)
address_of (event.Open o) = Some (Open, o)
address_of (event.Use o) = Some (Use, o)
address_of (event.Ready o) = Some (Ready, o)
address_of (event.Link o) = Some (Link, o)
address_of (event.Release o) = Some (Release, o)
address_of (event.Bye o) = Some (Bye, o)
address_of (event.Idle v) = Some (Idle, v)
address_of (event.Nack v) = Some (Nack, v)
address_of (event.Retire v) = Some (Retire, v)
address_of (event.Gone v) = Some (Gone, v)
address_of event.Main = None
address_of event.Take = None
address_of (event.Start w) = None
address_of (event.Exec w) = None
address_of (event.Finish w) = None
address_of (event.Copy b) = None
