-- A piece is that of its mark.
use Rattle.std.proofs.Common.{ℕ, List, Some, length, sym, ap, ◌∙◌, arith}
use Rattle.std.specs.Prelude.{slice_get}
use Rattle.tss_steps.specs.Printing.{PrintedState, part, start_at}
use Rattle.tss_steps.proofs.PieceLemmas.{piece_within, mark_read, some_piece, no_piece}
use Rattle.tss_steps.proofs.printed.Printed.piece_at.Goals as goal

pub part-requires-clause-from : goal.part-requires-clause-from
part-requires-clause-from c =
    let i = c.self.inside in
    let m = c.in-Some.mark.now in
    let there = mark_read c.deref.result.now i.marks.items c.args.i m c.deref.ensures.value c.in-Some.ensures.lookup.3.0 c.in-Some.ensures.lookup.1 in
    let start = c.start_at-start.ensures ∙ ap (start_at c.args.i 0) c.deref-in-Some.ensures.value in
    let low = (piece_within 0 i.marks.items (length i.bytes.items) c.args.i m c.self.invariant.goes_on there).0 in
    omega (arith, start, low)

pub part-requires-clause-until : goal.part-requires-clause-until
part-requires-clause-until c =
    let i = c.self.inside in
    let m = c.in-Some.mark.now in
    let there = mark_read c.deref.result.now i.marks.items c.args.i m c.deref.ensures.value c.in-Some.ensures.lookup.3.0 c.in-Some.ensures.lookup.1 in
    let high = (piece_within 0 i.marks.items (length i.bytes.items) c.args.i m c.self.invariant.goes_on there).1 in
    let long = ap length c.deref-in-Some-2.ensures.value in
    omega (arith, high, long)

pub returns-in-Some : goal.returns-in-Some
returns-in-Some c =
    let i = c.self.inside in
    let m = c.in-Some.mark.now in
    let there = mark_read c.deref.result.now i.marks.items c.args.i m c.deref.ensures.value c.in-Some.ensures.lookup.3.0 c.in-Some.ensures.lookup.1 in
    let start = c.start_at-start.ensures ∙ ap (start_at c.args.i 0) c.deref-in-Some.ensures.value in
    ap (λ (xs : List ℕ). Some (record { before = m.before; bytes = xs }))
    (c.part.ensures ∙ (λ j. part (c.deref-in-Some-2.ensures.value j) (start j) m.end))
    ∙ sym (some_piece i.marks.items i.bytes.items c.args.i m there)
    ∙ ap (λ (p : PrintedState). slice_get p.pieces c.args.i) c.self.view_is

pub returns-in-None : goal.returns-in-None
returns-in-None c =
    let i = c.self.inside in
    sym (no_piece c.deref.result.now i.marks.items i.bytes.items c.args.i c.deref.ensures.value c.in-None.ensures.lookup.3)
    ∙ ap (λ (p : PrintedState). slice_get p.pieces c.args.i) c.self.view_is
