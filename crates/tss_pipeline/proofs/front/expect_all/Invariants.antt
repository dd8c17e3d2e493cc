-- What is left to be sent may be posted, and the banks have the lines of what was sent.
use Rattle.std.proofs.Common.{◌≡◌, ◌+◌, ◌*◌, ◌≤◌, length, drop}
use Rattle.std.specs.FinMap.{len}
use Rattle.tss_base.specs.declared.bounds.TheConstants.{MAX_OPERANDS}
use Rattle.tss_protocol.specs.Mail.{posted_all}
use Rattle.tss_protocol.specs.Gateway.{decodes_from, sent_by_take}
use Rattle.tss_mail.specs.Letters.{mail_of}
use Rattle.tss_conditions.specs.Posting.{MayPostAll}
use Rattle.tss_pipeline.specs.Lines.{AwaitDecodes, lined}
use Rattle.tss_pipeline.proofs.front.expect_all.Given as goal

abbrev pub invariant-loop-place : goal.invariant-loop-place
invariant-loop-place l = record {
  mail : l.mail ≡ record (l.initial.mail) { decodes = l.mail.decodes };
  lines : l.banks ≡ lined l.sizes l.mail.decodes 0 l.initial.banks;
  awaits : AwaitDecodes l.sizes l.mail.decodes l.banks;
  room : len l.mail.decodes + length (drop l.place l.operands) ≤ l.sizes.window * MAX_OPERANDS;
  may : MayPostAll l.mail.size (mail_of l.mail) (decodes_from l.task.number l.place (drop l.place l.operands));
  sent : posted_all (mail_of l.mail) (decodes_from l.task.number l.place (drop l.place l.operands))
      ≡ posted_all (mail_of l.initial.mail) (sent_by_take l.task);
}
