-- What the digits that are left make of the number so far.
use Rattle.std.proofs.Common.{◌≡◌, ◌<◌, ◌^◌, drop}
use Rattle.tss_protocol.specs.Text.{number_in}
use Rattle.tss_events.specs.Reading.{clipped}
use Rattle.tss_events.proofs.Clipping.{number_from}
use Rattle.tss_events.proofs.text.number_in.Given as goal

abbrev pub invariant-loop-digit : goal.invariant-loop-digit
invariant-loop-digit l = record {
  small : l.number < 2 ^ 32;
  read : clipped (number_from l.number (drop l.digit-index l.digits)) ≡ clipped (number_in l.digits);
}
