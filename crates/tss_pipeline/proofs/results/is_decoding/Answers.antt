-- Some operand is on the object, or none is.
use Rattle.std.proofs.Common.{sym, ◌∙◌, arith}
use Rattle.std.specs.FinMap.{keys}
use Rattle.std.proofs.lemmas.List.{length-map}
use Rattle.tss_base.specs.declared.event.Event.TheVariants as event
use Rattle.tss_pipeline.proofs.shown.DecodingObjects.{decode_found, decode_nowhere}
use Rattle.tss_pipeline.proofs.results.is_decoding.Goals as goal

pub returns-then-eq : goal.returns-then-eq
returns-then-eq c =
    decode_found c.args.object.now c.args.mail.now.decodes c.loop-i.i c.in-Some.operand
    (sym c.decode_at.ensures ∙ c.in-Some.is) (sym c.eq.ensures ∙ c.if-eq.true)

pub returns : goal.returns
returns c =
    let many = c.count_of-i-end.ensures ∙ length-map (keys c.args.mail.now.decodes) event.Decode in
    let past = c.loop-i-test.false in
    decode_nowhere c.args.object.now c.args.mail.now.decodes c.loop-i.i (omega (arith, many, past)) c.loop-i.invariant
