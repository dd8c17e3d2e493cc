-- The first pieces end where the first marks do.
use Rattle.std.proofs.Common.{length, sym, ap, subst, ◌∙◌, arith}
use Rattle.tss_model.specs.MainStep.{output_of}
use Rattle.tss_steps.specs.Printing.{PrintedState, Rise, part, pieces_from, end_before}
use Rattle.tss_steps.proofs.PieceLemmas.{end_within, early, front_pieces}
use Rattle.tss_steps.proofs.printed.Printed.bytes_before.Goals as goal

pub part-requires-clause-until : goal.part-requires-clause-until
part-requires-clause-until c =
    let i = c.self.inside in
    let end = c.end_before.ensures ∙ ap (end_before c.args.task 0) c.deref-2.ensures.value in
    let within = (end_within c.args.task 0 i.marks.items (length i.bytes.items) c.self.invariant.goes_on).1 in
    let long = ap length c.deref.ensures.value in
    omega (arith, end, within, long)

pub returns : goal.returns
returns c =
    let i = c.self.inside in
    let rise : Rise (pieces_from i.bytes.items 0 i.marks.items) =
    subst (λ (p : PrintedState). Rise p.pieces) (sym c.self.view_is) c.requires in
    c.part.ensures
    ∙ (λ j. part (c.deref.ensures.value j) 0 ((c.end_before.ensures ∙ ap (end_before c.args.task 0) c.deref-2.ensures.value) j))
    ∙ sym (front_pieces i.bytes.items c.args.task 0 0 i.marks.items rise.0 (length i.bytes.items) c.self.invariant.goes_on rise.1)
    ∙ ap (λ (p : PrintedState). output_of (early c.args.task p.pieces)) c.self.view_is
