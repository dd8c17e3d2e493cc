-- A prefix of the full piece was put.
use Rattle.std.proofs.Common.{◌++◌, ap, ◌∙◌, subst}
use Rattle.tss_outside.specs.Outside.{PutsPrefix}
use Rattle.tss_text.proofs.PieceLemmas.{on_any_err}
use Rattle.tss_text.proofs.piece.Piece.write_full.Goals as goal

pub returns-in_err-write_piece-clause-err : goal.returns-in_err-write_piece-clause-err
returns-in_err-write_piece-clause-err g c =
    on_any_err c.from_residual.result _
    (subst (λ piece. PutsPrefix (g.K.Sink.written c.args.out.now) (g.K.Sink.written c.write_piece.new.self) piece)
    (c.fill.ensures ∙ ap (λ kept. kept ++ c.args.bytes.now) c.self.view_is)
    c.in_err-write_piece.ensures.prefix)
