-- Few digits, after the word.
use Rattle.std.proofs.Common.{◌∙◌, arith}
use Rattle.tss_events.proofs.EventTexts.{unit_digits}
use Rattle.tss_events.proofs.Bytes.{later_same}
use Rattle.tss_events.proofs.text.put_unit.Goals as goal

pub put_number-requires : goal.put_number-requires
put_number-requires c =
    let few = unit_digits c.args.unit c.requires.fits in omega (arith, few, c.put-number.ensures.end, c.requires.kind)

pub returns-clause-others : goal.returns-clause-others
returns-clause-others c =
    c.put_number.ensures.others
    ∙ later_same _ _ c.put-number.result c.put_number.result (omega (arith, c.put_number.ensures.end)) c.put-number.ensures.others

pub returns-clause-short : goal.returns-clause-short
returns-clause-short c =
    let few = unit_digits c.args.unit c.requires.fits in
    omega (arith, few, c.put-number.ensures.end, c.put_number.ensures.end, c.requires.kind)
