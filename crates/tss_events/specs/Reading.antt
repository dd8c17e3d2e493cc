-- Events with the numbers that 32 bits hold.
use Rattle.std.specs.Prelude.{ℕ, ◌-◌, ◌^◌, min}
use Rattle.tss_base.specs.declared.operand.OpName.{OpName}
use Rattle.tss_base.specs.declared.event.Event.{Event}
use Rattle.tss_base.specs.declared.event.Event.TheVariants.{Main, Take, Decode, Ack, Open, Use, Ready, Link, Start, Exec, Finish, Release, Bye, Idle, Nack, Retire, Copy, Gone}

-- a number, or the greatest of 32 bits where it is above that
abbrev pub clipped : ℕ → ℕ
clipped n = min n (2 ^ 32 - 1)

-- a name with such numbers
abbrev pub clipped_name : OpName → OpName
clipped_name o = record { task = clipped o.task; place = clipped o.place }

-- an event with such numbers
abbrev pub clipped_event : Event → Event
clipped_event Main = Main
clipped_event Take = Take
clipped_event (Decode o) = Decode (clipped_name o)
clipped_event (Ack o) = Ack (clipped_name o)
clipped_event (Open o) = Open (clipped_name o)
clipped_event (Use o) = Use (clipped_name o)
clipped_event (Ready o) = Ready (clipped_name o)
clipped_event (Link o) = Link (clipped_name o)
clipped_event (Start w) = Start (clipped w)
clipped_event (Exec w) = Exec (clipped w)
clipped_event (Finish w) = Finish (clipped w)
clipped_event (Release o) = Release (clipped_name o)
clipped_event (Bye o) = Bye (clipped_name o)
clipped_event (Idle v) = Idle (clipped_name v)
clipped_event (Nack v) = Nack (clipped_name v)
clipped_event (Retire v) = Retire (clipped_name v)
clipped_event (Copy b) = Copy (clipped b)
clipped_event (Gone v) = Gone (clipped_name v)
