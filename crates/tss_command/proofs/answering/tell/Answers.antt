-- The text is written, or a part of it where a write failed.
use Rattle.std.proofs.Common.{inl, inr, refl}
use Rattle.tss_command.proofs.answering.tell.Goals as goal

pub returns-in-Ok : goal.returns-in-Ok
returns-in-Ok g c = inl (c.status.ensures, c.in-Ok.ensures.ok)

pub returns-in-Err : goal.returns-in-Err
returns-in-Err g c = inr (refl, c.in-Err.ensures.cause, c.in-Err.ensures.prefix)
