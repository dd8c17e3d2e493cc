-- The image, or the number of the check, is that of the bytes.
use Rattle.std.proofs.Common.{Err, inr, subst}
use Rattle.tss_elf.specs.Elf.{Gives, image_of}
use Rattle.tss_command.proofs.AnswerLemmas.{accepted-ok, accepted-err}
use Rattle.tss_command.proofs.inputs.accepted_image.Goals as goal

pub returns-in-Ok : goal.returns-in-Ok
returns-in-Ok c = record { exact = inr (accepted-ok c.args.bytes.now c.in-Ok.image c.in-Ok.ensures.exact) }

pub returns-in-Err-Check : goal.returns-in-Err-Check
returns-in-Err-Check c = record {
  exact = inr (accepted-err c.args.bytes.now c.in-Err-Check.n (subst (λ e. Gives (Err e) (image_of c.args.bytes.now)) c.in-Err-Check.field-0-is c.in-Err-Check.ensures.exact));
}
