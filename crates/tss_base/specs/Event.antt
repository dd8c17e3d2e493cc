-- Which events a log can name.
use Rattle.std.specs.Prelude.{ℕ, Bool, true, ◌&&◌, nat_lt, nat_le}
use Rattle.tss_base.specs.declared.bounds.TheConstants.{MAX_TASKS, MAX_OPERANDS, MAX_WORKERS, MAX_BANKS}
use Rattle.tss_base.specs.declared.operand.OpName.{OpName}
use Rattle.tss_base.specs.declared.event.Event.{Event}
use Rattle.tss_base.specs.declared.event.Event.TheVariants as event

-- the task is 1 to 65,536 and the place 0 to 6
abbrev pub name_fits : OpName → Bool
name_fits o = nat_le 1 o.task && nat_le o.task MAX_TASKS && nat_lt o.place MAX_OPERANDS

-- a worker is 0 to 63
abbrev pub worker_fits : ℕ → Bool
worker_fits w = nat_lt w MAX_WORKERS

-- and a bank is
abbrev pub bank_fits : ℕ → Bool
bank_fits b = nat_lt b MAX_BANKS

-- the event's numbers lie in the ranges that a log has
abbrev pub fits : Event → Bool
fits event.Main = true
fits event.Take = true
fits (event.Decode o) = name_fits o
fits (event.Ack o) = name_fits o
fits (event.Open o) = name_fits o
fits (event.Use o) = name_fits o
fits (event.Ready o) = name_fits o
fits (event.Link o) = name_fits o
fits (event.Start w) = worker_fits w
fits (event.Exec w) = worker_fits w
fits (event.Finish w) = worker_fits w
fits (event.Release o) = name_fits o
fits (event.Bye o) = name_fits o
fits (event.Idle o) = name_fits o
fits (event.Nack o) = name_fits o
fits (event.Retire o) = name_fits o
fits (event.Copy b) = bank_fits b
fits (event.Gone o) = name_fits o
