-- There are as many pieces as marks, and no more than bytes.
use Rattle.std.proofs.Common.{◌≡◌, ap, sym, ◌∙◌, length, arith}
use Rattle.tss_steps.specs.Printing.{PrintedState}
use Rattle.tss_steps.proofs.PrintedLemmas.{GoOn-long}
use Rattle.tss_steps.proofs.PieceLemmas.{length-pieces_from}
use Rattle.tss_steps.proofs.printed.Printed.count.Goals as goal

pub overflow_cast-result : goal.overflow_cast-result
overflow_cast-result c =
    let i = c.self.inside in
    omega (arith, c.len.ensures, c.self.invariant.word, c.self.invariant.few, GoOn-long i.marks.items 0 (length i.bytes.items) c.self.invariant.goes_on)

pub returns : goal.returns
returns c =
    let i = c.self.inside in
    let many : c.len.result ≡ length i.marks.items = omega (arith, c.len.ensures) in
    many
    ∙ sym (length-pieces_from i.bytes.items 0 i.marks.items)
    ∙ ap (λ (p : PrintedState). length p.pieces) c.self.view_is
