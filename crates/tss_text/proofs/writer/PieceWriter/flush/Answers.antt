-- What was kept is written.
use Rattle.std.proofs.Common.{refl}
use Rattle.tss_text.proofs.PieceLemmas.{rest_put}
use Rattle.tss_text.proofs.writer.PieceWriter.flush.Goals as goal

pub returns : goal.returns
returns g c =
    let wrote = c.write_rest.ensures in
    record {
      nothing_put = rest_put refl wrote.ok wrote.kept wrote.err wrote.cause wrote.never_falls;
      nothing_kept = wrote.kept;
      same_sink = refl;
    }
