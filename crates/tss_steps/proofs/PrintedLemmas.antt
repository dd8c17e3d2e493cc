-- The pieces that main has printed, by where each ends.
use Rattle.std.proofs.Common.{◌≡◌, ℕ, ◌+◌, ◌-◌, ◌<◌, ◌≤◌, List, [], ◌∷◌, ◌++◌, length, take, drop, refl, sym, ap, subst, ◌∙◌, arith}
use Rattle.std.proofs.lemmas.List.{take-append-drop, drop-append-le, take-append-le, length-drop, length-append, take_all, drop-drop}
use Rattle.std.proofs.Math.Seq.{drop-append_seam, drop-length}
use Rattle.tss_model.specs.MainStep.{output_of}
use Rattle.tss_steps.specs.declared.printed.Mark.{Mark}
use Rattle.tss_steps.specs.Printing.{part, pieces_from, GoOn, IsPrinted}

-- marks that go on from a place end no earlier, by at least one place each
pub GoOn-long : (marks : List Mark) (at until : ℕ) → GoOn at marks until → at + length marks ≤ until
GoOn-long [] at until e = omega (arith, e)
GoOn-long (m ∷ ms) at until g =
    let rest = GoOn-long ms m.end until g.1 in
    let first = g.0 in
    omega (arith, rest, first)

-- with one more at the end
pub GoOn-more : (marks : List Mark) (at until : ℕ) (n : Mark) → GoOn at marks until → until < n.end → GoOn at (marks ++ n ∷ []) n.end
GoOn-more [] at until n e h = (omega (arith, e, h), refl)
GoOn-more (m ∷ ms) at until n g h = (g.0, GoOn-more ms m.end until n g.1 h)

-- all bytes are printed
pub output_of-pieces : (marks : List Mark) (bytes : List ℕ) (at : ℕ) → GoOn at marks (length bytes) → output_of (pieces_from bytes at marks) ≡ drop at bytes
output_of-pieces [] bytes at e = sym (drop-length bytes) ∙ ap (λ (n : ℕ). drop n bytes) (sym e)
output_of-pieces (m ∷ ms) bytes at g =
    let low = g.0 in
    let there : at + (m.end - at) ≡ m.end = omega (arith, low) in
    ap (λ (xs : List ℕ). part bytes at m.end ++ xs)
    (output_of-pieces ms bytes m.end g.1
    ∙ ap (λ (n : ℕ). drop n bytes) (sym there)
    ∙ sym (drop-drop (m.end - at) at bytes))
    ∙ take-append-drop (m.end - at) (drop at bytes)

-- bytes that are added leave the pieces before
part-more : (bytes more : List ℕ) (at until : ℕ) → at ≤ until → until ≤ length bytes → part (bytes ++ more) at until ≡ part bytes at until
part-more bytes more at until low high =
    ap (take (until - at)) (drop-append-le at bytes more (omega (arith, low, high)))
    ∙ take-append-le (until - at) (drop at bytes) more (omega (arith, low, high, length-drop at bytes))

-- and are one piece more
pub pieces_from-more : (marks : List Mark) (bytes more : List ℕ) (at : ℕ) (n : Mark) → GoOn at marks (length bytes) → n.end ≡ length bytes + length more
    → pieces_from (bytes ++ more) at (marks ++ n ∷ []) ≡ pieces_from bytes at marks ++ record { before = n.before; bytes = more } ∷ []
pieces_from-more [] bytes more at n e end =
    let all : n.end - length bytes ≡ length more = omega (arith, end) in
    ap (λ (xs : List ℕ). record { before = n.before; bytes = xs } ∷ [])
    (ap (λ (k : ℕ). part (bytes ++ more) k n.end) e
    ∙ ap (take (n.end - length bytes)) (drop-append_seam bytes more)
    ∙ take_all (n.end - length bytes) more (omega (arith, all)))
pieces_from-more (m ∷ ms) bytes more at n g end =
    let rest = GoOn-long ms m.end (length bytes) g.1 in
    let low = g.0 in
    (λ i. record { before = m.before; bytes = part-more bytes more at m.end (omega (arith, low)) (omega (arith, rest)) i } ∷ pieces_from-more ms bytes more m.end n g.1 end i)

-- one piece more is kept
pub IsPrinted-more : (limit : ℕ) (bytes more bs : List ℕ) (marks ms : List Mark) (room spare r s : ℕ) (n : Mark)
    → IsPrinted limit bytes marks room spare → bs ≡ bytes ++ more → ms ≡ marks ++ n ∷ [] → n.end ≡ length bytes + length more → 0 < length more
    → length bytes + length more ≤ limit → room ≤ r → spare ≤ s → IsPrinted limit bs ms r s
IsPrinted-more limit bytes more bs marks ms room spare r s n p items marked end some fits same kept =
    let long : length bs ≡ length bytes + length more = ap length items ∙ length-append bytes more in
    record {
      word = p.word;
      few = omega (arith, long, fits);
      fits = omega (arith, p.fits, same);
      mark_fits = omega (arith, p.mark_fits, kept);
      goes_on =
          subst (λ (xs : List Mark). GoOn 0 xs (length bs)) (sym marked)
          (subst (λ (k : ℕ). GoOn 0 (marks ++ n ∷ []) k) (end ∙ sym long)
          (GoOn-more marks 0 (length bytes) n p.goes_on (omega (arith, end, some))));
    }
