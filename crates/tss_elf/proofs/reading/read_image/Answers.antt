use Rattle.std.proofs.Common.{◌≡◌, length, refl, sym, ◌∙◌, subst, arith}
use Rattle.std.specs.List.Sorted.{IsNonDecreasingBy}
use Rattle.std.proofs.lemmas.List.Sorted.{length_permutation}
use Rattle.tss_elf.specs.declared.header.ProgramHeader.{ProgramHeader}
use Rattle.tss_elf.specs.Checks.{each_header_checks, first_failing}
use Rattle.tss_elf.specs.Elf.{image_of}
use Rattle.tss_elf.proofs.Verdicts.{refused_file, gives_refused, headers_failed, gives_same, written_whole}
use Rattle.tss_elf.proofs.Verdicts.{image_is_accepted}
use Rattle.tss_elf.proofs.reading.read_image.Goals as goal

pub returns-in_err-check_file-clause-exact : goal.returns-in_err-check_file-clause-exact
returns-in_err-check_file-clause-exact c =
    let r = c.in_err-check_file.field-0.0 in
    gives_refused c.from_residual.result c.args.bytes.now r
    (refused_file c.args.bytes.now r (sym c.in_err-check_file.ensures.first)) c.from_residual.ensures.1

pub returns-in_err-check_file-clause-accepted : goal.returns-in_err-check_file-clause-accepted
returns-in_err-check_file-clause-accepted c = image_is_accepted c.args.bytes.now

pub returns-in_err-kept-clause-exact : goal.returns-in_err-kept-clause-exact
returns-in_err-kept-clause-exact c =
    let bytes = c.args.bytes.now in
    let fails =
    headers_failed bytes _ c.in_err-kept.field-0.0
    (first_failing (each_header_checks bytes))
    (sym c.in_ok-check_file.ensures.first) refl c.in_err-kept.ensures in
    gives_same c.from_residual-in_err-kept.result c.in_err-kept.field-0.0 (image_of bytes) fails
    c.from_residual-in_err-kept.ensures.1

pub returns-in_err-kept-clause-accepted : goal.returns-in_err-kept-clause-accepted
returns-in_err-kept-clause-accepted c = image_is_accepted c.args.bytes.now

pub load-requires-clause-sorted : goal.load-requires-clause-sorted
load-requires-clause-sorted c =
    let n = c.in_ok-kept.kept.len in
    let size : length c.sort_by_address.new.headers ≡ n =
    length_permutation c.deref_mut.result.now c.sort_by_address.new.headers c.sort_by_address.ensures.permutation
    ∙ c.deref_mut.ensures.len in
    let whole =
    c.deref.ensures.value ∙ written_whole c.sort_by_address.new.headers c.in_ok-kept.kept.items n size
    (omega arith) in
    subst (IsNonDecreasingBy (λ (h : ProgramHeader). h.address)) (sym whole) c.sort_by_address.ensures.sorted

pub returns-clause-accepted : goal.returns-clause-accepted
returns-clause-accepted c = image_is_accepted c.args.bytes.now
