-- Few digits each, after the word.
use Rattle.std.proofs.Common.{◌∙◌, arith}
use Rattle.tss_events.proofs.EventTexts.{task_digits, place_digits}
use Rattle.tss_events.proofs.Bytes.{later_same}
use Rattle.tss_events.proofs.text.put_named.Goals as goal

pub put_number-stop-requires : goal.put_number-stop-requires
put_number-stop-requires c =
    let few = task_digits c.args.o c.requires.fits in omega (arith, few, c.put-task.ensures.end, c.requires.kind)

pub put-place-requires : goal.put-place-requires
put-place-requires c =
    let few = task_digits c.args.o c.requires.fits in
    omega (arith, few, c.put-task.ensures.end, c.put_number-stop.ensures.end, c.requires.kind)

pub put_number-requires : goal.put_number-requires
put_number-requires c =
    let few = task_digits c.args.o c.requires.fits in
    let one = place_digits c.args.o c.requires.fits in
    omega (arith, few, one, c.put-task.ensures.end, c.put_number-stop.ensures.end, c.put-place.ensures.end, c.requires.kind)

pub returns-clause-others : goal.returns-clause-others
returns-clause-others c =
    c.put_number.ensures.others
    ∙ later_same _ _ c.put-place.result c.put_number.result (omega (arith, c.put_number.ensures.end)) c.put-place.ensures.others
    ∙ later_same _ _ c.put_number-stop.result c.put_number.result
    (omega (arith, c.put_number.ensures.end, c.put-place.ensures.end)) c.put_number-stop.ensures.others
    ∙ later_same _ _ c.put-task.result c.put_number.result
    (omega (arith, c.put_number.ensures.end, c.put-place.ensures.end, c.put_number-stop.ensures.end)) c.put-task.ensures.others

pub returns-clause-short : goal.returns-clause-short
returns-clause-short c =
    let few = task_digits c.args.o c.requires.fits in
    let one = place_digits c.args.o c.requires.fits in
    omega (arith, few, one, c.put-task.ensures.end, c.put_number-stop.ensures.end, c.put-place.ensures.end, c.put_number.ensures.end, c.requires.kind)
