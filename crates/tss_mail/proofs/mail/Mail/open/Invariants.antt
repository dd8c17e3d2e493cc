-- As many empty tables as turns.
use Rattle.std.proofs.Common.{◌≡◌, ◌≤◌, vec_len, vec_capacity}
use Rattle.std.proofs.Math.ListN.{replicate}
use Rattle.std.specs.FinMap.{empty}
use Rattle.tss_mail.proofs.mail.Mail.open.Given as goal

abbrev pub invariant-loop : goal.invariant-loop
invariant-loop l = record {
  room : 12 ≤ vec_capacity l.tables;
  turns : vec_len l.tables ≡ l.counter;
  empty : l.tables.items ≡ replicate l.counter (record { size = l.size; entries = empty });
}
