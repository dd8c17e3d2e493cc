use Rattle.std.proofs.Common.{◌<◌, length, ap, sym, ◌∙◌, arith, true, false}
use Rattle.std.proofs.lemmas.List.{take_all, append-nil}
use Rattle.std.specs.Prelude.{flat_map, filter}
use Rattle.tss_elf.specs.Fields.{headers, header_count, is_kept}
use Rattle.tss_elf.specs.Checks.{each_header_checks, first_failing, header_checks}
use Rattle.tss_elf.proofs.Failing.{fails_at, passed_more, kept_more, failed, length-headers, header_read}
use Rattle.tss_elf.proofs.reading.kept_headers.Goals as goal
use Rattle.tss_elf.proofs.reading.kept_headers.Goals.{then-is_kept+in_ok-push, else-is_kept}

pub returns-in_err-check : goal.returns-in_err-check
returns-in_err-check c =
    let bytes = c.args.bytes.now in
    let within : c.loop-i.i < header_count bytes = omega arith in
    let inside : c.loop-i.i < length (headers bytes) = omega (arith, length-headers bytes) in
    let here =
    header_read bytes c.loop-i.i c.u32_at-place.result c.read-header.result within c.u32_at-place.ensures
    c.read-header.ensures in
    let fails = ap (λ h. first_failing (header_checks (length bytes) h)) here ∙ sym c.in_err-check.ensures in
    let first =
    fails_at (header_checks (length bytes)) (headers bytes) c.loop-i.i c.read-header.result
    c.in_err-check.field-0.0 inside c.loop-i.invariant.passed fails in
    failed c.from_residual-in_err-check.result
    (first_failing (each_header_checks bytes)) _ c.in_err-check.field-0.0 first
    c.from_residual-in_err-check.ensures.1

pub loop-i-preserved : goal.loop-i-preserved
loop-i-preserved c =
    let bytes = c.args.bytes.now in
    let i = c.loop-i.i in
    let h = c.read-header.result in
    let within : c.loop-i.i < header_count bytes = omega arith in
    let inside : c.loop-i.i < length (headers bytes) = omega (arith, length-headers bytes) in
    let here = header_read bytes i c.u32_at-place.result h within c.u32_at-place.ensures c.read-header.ensures in
    record {
      passed = passed_more (header_checks (length bytes)) (headers bytes) i h inside c.loop-i.invariant.passed
          (ap (λ g. first_failing (header_checks (length bytes) g)) here ∙ sym c.in_ok-check.ensures);
      kept = elim c.if-is_kept.branch [
        | then-is_kept+in_ok-push w ↦ kept_more (headers bytes) i h h true c.loop-i.kept.items _ inside here
            (sym w.if-is_kept.true ∙ c.is_kept.ensures) c.loop-i.invariant.kept
            ((λ k. (w.kept-is k).items) ∙ w.in_ok-push.ensures.items)
        | else-is_kept w ↦ kept_more (headers bytes) i h h false c.loop-i.kept.items _ inside here
            (sym w.if-is_kept.false ∙ c.is_kept.ensures) c.loop-i.invariant.kept
            ((λ k. (w.kept-is k).items) ∙ sym (append-nil c.loop-i.kept.items))
      ];
    }

pub returns : goal.returns
returns c =
    let bytes = c.args.bytes.now in
    let all = take_all c.loop-i.i (headers bytes) (omega (arith, length-headers bytes)) in (
      sym (ap (λ hs. first_failing (flat_map (header_checks (length bytes)) hs)) all) ∙ c.loop-i.invariant.passed,
      c.loop-i.invariant.kept ∙ ap (filter is_kept) all,
    )
