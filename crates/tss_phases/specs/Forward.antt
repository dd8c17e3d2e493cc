-- How a phase goes on in one event.
use Rattle.std.specs.Prelude.{Bool, true, false}
use Rattle.tss_phases.specs.Phase.{Phase, Ahead, Decoding, Sent, Waiting, Told, Ready, Releasing, Leaving, Promised}
use Rattle.tss_phases.specs.Phase.{Left}

-- a phase stays, or the second comes next after the first. A name that no operand of its task has is ahead, and then
-- left
abbrev pub may_follow : Phase → Phase → Bool
may_follow Ahead Ahead = true
may_follow Ahead Decoding = true
may_follow Ahead Left = true
may_follow Decoding Decoding = true
may_follow Decoding Sent = true
may_follow Sent Sent = true
may_follow Sent Waiting = true
may_follow Sent Told = true
may_follow Waiting Waiting = true
may_follow Waiting Told = true
may_follow Told Told = true
may_follow Told Ready = true
may_follow Ready Ready = true
may_follow Ready Releasing = true
may_follow Releasing Releasing = true
may_follow Releasing Leaving = true
may_follow Leaving Leaving = true
may_follow Leaving Promised = true
may_follow Leaving Left = true
may_follow Promised Promised = true
may_follow Promised Left = true
may_follow Left Left = true
may_follow p q = false
