-- The ranges of memory go out one after another.
use Rattle.std.proofs.Common.{◌+◌, true, length, get_or, ap, ◌∙◌, arith}
use Rattle.std.proofs.lemmas.Option.{slice_get-get_or}
use Rattle.tss_model.specs.Memory.{MemoryRange, loaded, stack_range}
use Rattle.tss_report.specs.Rows.{range_text}
use Rattle.tss_text.proofs.PieceLemmas.{none_put, more_put, failed_put, all_put}
use Rattle.tss_report.proofs.RowLemmas.{ranges_from, all_ranges, no_ranges, ranges_next, range_count}
use Rattle.tss_report.proofs.rows.put_changed.Goals as goal

-- what is read where there is nothing
none_there : MemoryRange
none_there = record { range = stack_range; writable = true }

pub loop-i-init : goal.loop-i-init
loop-i-init g c =
    none_put g.K.Sink c.args.to.now _ _
    (all_ranges (loaded c.args.image.now) c.args.space.now)

pub put_range-requires-clause-there : goal.put_range-requires-clause-there
put_range-requires-clause-there g c =
    let count = ap length c.requires.ranges ∙ range_count c.args.image.now in
    omega (arith, count)

pub returns-in_err-put_range : goal.returns-in_err-put_range
returns-in_err-put_range g c =
    let old = loaded c.args.image.now in
    let new = c.args.space.now in
    let i = c.loop-i.i in
    let m = get_or new.ranges i none_there in
    let count = ap length c.requires.ranges ∙ range_count c.args.image.now in
    let there = slice_get-get_or new.ranges i none_there (omega (arith, count)) in
    let failed = c.in_err-put_range.ensures m there in
    failed_put c.loop-i.invariant (range_text old new m) (ranges_from old new (i + 1)) (ranges_next old new i m there)
    failed c.from_residual.ensures.0

pub loop-i-preserved : goal.loop-i-preserved
loop-i-preserved g c =
    let old = loaded c.args.image.now in
    let new = c.args.space.now in
    let i = c.loop-i.i in
    let m = get_or new.ranges i none_there in
    let count = ap length c.requires.ranges ∙ range_count c.args.image.now in
    let there = slice_get-get_or new.ranges i none_there (omega (arith, count)) in
    let put = c.in_ok-put_range.ensures m there in
    more_put c.loop-i.invariant (range_text old new m) (ranges_from old new (i + 1)) (ranges_next old new i m there)
    put

pub returns : goal.returns
returns g c =
    let count = ap length c.requires.ranges ∙ range_count c.args.image.now in
    all_put c.loop-i.invariant
    (no_ranges (loaded c.args.image.now) c.args.space.now c.loop-i.i (omega (arith, count)))
