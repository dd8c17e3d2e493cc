use Rattle.std.proofs.Common.{sym, ap, ◌∙◌, subst, Some, None}
use Rattle.tss_base.specs.Image.{IsAccepted}
use Rattle.tss_elf.specs.Elf.{Accepted}
use Rattle.tss_elf.proofs.Acceptance.{IsAccepted-loaded_image}
use Rattle.tss_elf.proofs.Verdicts.{any_can_load, any_few, any_checks, in_order, loaded_image_is, refused_kept}
use Rattle.tss_elf.proofs.Verdicts.{accepted_all, gives_refused}
use Rattle.tss_elf.proofs.reading.load.Goals as goal

pub check_kept-requires-clause-some : goal.check_kept-requires-clause-some
check_kept-requires-clause-some c k d within =
    (any_can_load c.args.bytes.now c.args.kept.now c.requires.all c.requires.each k d within).some

pub check_kept-requires-clause-few : goal.check_kept-requires-clause-few
check_kept-requires-clause-few c = any_few c.args.bytes.now c.args.kept.now c.requires.all c.requires.file

pub returns-in_err-check_kept : goal.returns-in_err-check_kept
returns-in_err-check_kept c =
    let r = c.in_err-check_kept.field-0.0 in
    let first =
    any_checks c.args.bytes.now c.args.kept.now c.requires.all c.u32_at-entry.result (Some r)
    c.u32_at-entry.ensures c.in_err-check_kept.ensures in
    gives_refused c.from_residual.result c.args.bytes.now r
    (refused_kept c.args.bytes.now c.requires.file c.requires.each r first) c.from_residual.ensures.1

pub segments-requires : goal.segments-requires
segments-requires c = any_can_load c.args.bytes.now c.args.kept.now c.requires.all c.requires.each

pub new-requires : goal.new-requires
new-requires c =
    let bytes = c.args.bytes.now in
    let together =
    any_checks bytes c.args.kept.now c.requires.all c.u32_at-entry.result None c.u32_at-entry.ensures
    c.in_ok-check_kept.ensures in
    let ordered = in_order bytes c.args.kept.now c.requires.all c.requires.each c.requires.sorted together in
    let same =
    loaded_image_is bytes c.args.kept.now c.requires.all c.u32_at-entry.result c.in_ok-segments.segments.items
    ordered c.u32_at-entry.ensures c.in_ok-segments.ensures.ok in
    subst IsAccepted same (IsAccepted-loaded_image bytes c.requires.file c.requires.each together)

pub returns : goal.returns
returns c =
    let bytes = c.args.bytes.now in
    let together =
    any_checks bytes c.args.kept.now c.requires.all c.u32_at-entry.result None c.u32_at-entry.ensures
    c.in_ok-check_kept.ensures in
    let ordered = in_order bytes c.args.kept.now c.requires.all c.requires.each c.requires.sorted together in
    let same =
    loaded_image_is bytes c.args.kept.now c.requires.all c.u32_at-entry.result c.in_ok-segments.segments.items
    ordered c.u32_at-entry.ensures c.in_ok-segments.ensures.ok in
    accepted_all bytes c.requires.file c.requires.each together ∙ ap Accepted (same ∙ sym c.new.ensures)
