-- Each full piece goes out with the bytes that were put before.
use Rattle.std.proofs.Common.{◌≡◌, ◌++◌, ℕ, List, refl, sym, ◌∙◌, take, drop}
use Rattle.std.proofs.lemmas.List.{take-append-drop}
use Rattle.tss_text.proofs.PieceLemmas.{none_put, more_put, last_put, failed_put, kept_put, piece_put}
use Rattle.tss_text.proofs.writer.PieceWriter.put.Goals as goal

-- a list is its two parts
parted : (k : ℕ) (xs front back : List ℕ) → front ≡ take k xs → back ≡ drop k xs → xs ≡ front ++ back
parted k xs front back e f = sym (take-append-drop k xs) ∙ (λ i. sym e i ++ sym f i)

pub loop-rest-init : goal.loop-rest-init
loop-rest-init g c = none_put g.K.Sink c.args.self.now c.args.bytes.now c.args.bytes.now refl

pub returns-in_err-write_full : goal.returns-in_err-write_full
returns-in_err-write_full g c =
    let front = c.split_at.result.0.now in
    let back = c.split_at.result.1.now in
    let wrote = c.in_err-write_full.ensures in
    failed_put c.loop-rest.invariant front back (parted _ _ _ _ c.split_at.ensures.front c.split_at.ensures.back)
    (piece_put front refl wrote.ok wrote.kept wrote.err wrote.cause wrote.never_falls) c.from_residual.ensures.0

pub loop-rest-preserved : goal.loop-rest-preserved
loop-rest-preserved g c =
    let front = c.split_at.result.0.now in
    let back = c.split_at.result.1.now in
    let wrote = c.in_ok-write_full.ensures in
    more_put c.loop-rest.invariant front back (parted _ _ _ _ c.split_at.ensures.front c.split_at.ensures.back)
    (piece_put front refl wrote.ok wrote.kept wrote.err wrote.cause wrote.never_falls)

pub returns : goal.returns
returns g c = last_put c.loop-rest.invariant (kept_put c.loop-rest.rest.now refl c.keep.ensures)
