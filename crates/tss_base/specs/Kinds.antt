-- The kinds of events, and the messages that events take.
use Rattle.std.specs.Prelude.{ℕ, Option, Some, None}
use Rattle.tss_base.specs.declared.operand.OpName.{OpName}
use Rattle.tss_base.specs.declared.event.Event.{Event}
use Rattle.tss_base.specs.declared.event.Event.TheVariants as event
use Rattle.tss_base.specs.declared.kind.Kind.{Kind}
use Rattle.tss_base.specs.declared.kind.Kind.TheVariants as kind

-- the kind of an event
abbrev pub kind_of : Event → Kind
kind_of event.Main = kind.Main
kind_of event.Take = kind.Take
kind_of (event.Decode o) = kind.Decode
kind_of (event.Ack o) = kind.Ack
kind_of (event.Open o) = kind.Open
kind_of (event.Use o) = kind.Use
kind_of (event.Ready o) = kind.Ready
kind_of (event.Link o) = kind.Link
kind_of (event.Start w) = kind.Start
kind_of (event.Exec w) = kind.Exec
kind_of (event.Finish w) = kind.Finish
kind_of (event.Release o) = kind.Release
kind_of (event.Bye o) = kind.Bye
kind_of (event.Idle v) = kind.Idle
kind_of (event.Nack v) = kind.Nack
kind_of (event.Retire v) = kind.Retire
kind_of (event.Copy b) = kind.Copy
kind_of (event.Gone v) = kind.Gone

-- the place of a kind among all, from 0
abbrev pub number_of : Kind → ℕ
number_of kind.Main = 0
number_of kind.Take = 1
number_of kind.Decode = 2
number_of kind.Ack = 3
number_of kind.Open = 4
number_of kind.Use = 5
number_of kind.Ready = 6
number_of kind.Link = 7
number_of kind.Start = 8
number_of kind.Exec = 9
number_of kind.Finish = 10
number_of kind.Release = 11
number_of kind.Bye = 12
number_of kind.Idle = 13
number_of kind.Nack = 14
number_of kind.Retire = 15
number_of kind.Copy = 16
number_of kind.Gone = 17

-- the event of a kind with a name, that of an operand or a version, or of a worker or a bank by its task
abbrev pub event_of : Kind → OpName → Event
event_of kind.Main o = event.Main
event_of kind.Take o = event.Take
event_of kind.Decode o = event.Decode o
event_of kind.Ack o = event.Ack o
event_of kind.Open o = event.Open o
event_of kind.Use o = event.Use o
event_of kind.Ready o = event.Ready o
event_of kind.Link o = event.Link o
event_of kind.Start o = event.Start o.task
event_of kind.Exec o = event.Exec o.task
event_of kind.Finish o = event.Finish o.task
event_of kind.Release o = event.Release o
event_of kind.Bye o = event.Bye o
event_of kind.Idle o = event.Idle o
event_of kind.Nack o = event.Nack o
event_of kind.Retire o = event.Retire o
event_of kind.Copy o = event.Copy o.task
event_of kind.Gone o = event.Gone o

-- the message that an event takes, by its kind and the operand or version that it is for
abbrev pub message_taken : Event → Option (Kind × OpName)
message_taken event.Main = None
message_taken event.Take = None
message_taken (event.Decode o) = Some (kind.Decode, o)
message_taken (event.Ack o) = Some (kind.Ack, o)
message_taken (event.Open o) = Some (kind.Open, o)
message_taken (event.Use o) = Some (kind.Use, o)
message_taken (event.Ready o) = Some (kind.Ready, o)
message_taken (event.Link o) = Some (kind.Link, o)
message_taken (event.Start w) = None
message_taken (event.Exec w) = None
message_taken (event.Finish w) = None
message_taken (event.Release o) = Some (kind.Release, o)
message_taken (event.Bye o) = Some (kind.Bye, o)
message_taken (event.Idle v) = Some (kind.Idle, v)
message_taken (event.Nack v) = Some (kind.Nack, v)
message_taken (event.Retire v) = Some (kind.Retire, v)
message_taken (event.Copy b) = None
message_taken (event.Gone v) = Some (kind.Gone, v)
