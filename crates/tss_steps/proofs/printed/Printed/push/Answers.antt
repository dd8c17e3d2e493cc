-- There is room for one piece more, and it goes to the end.
use Rattle.std.proofs.Common.{◌≡◌, ◌+◌, ◌≤◌, ◌++◌, ◌∷◌, [], ℕ, List, length, sym, ap, subst, ◌∙◌, arith}
use Rattle.tss_model.specs.MainStep.{Piece, output_of}
use Rattle.tss_steps.specs.declared.printed.Mark.{Mark}
use Rattle.tss_steps.specs.Printing.{PrintedState, pieces_from}
use Rattle.tss_steps.proofs.PrintedLemmas.{GoOn-long, output_of-pieces, pieces_from-more, IsPrinted-more}
use Rattle.tss_steps.proofs.printed.Printed.push.Goals as goal

-- the bytes have room
room : (limit : ℕ) (bytes more : List ℕ) (marks : List Mark) (p : PrintedState) → record { limit = limit; pieces = pieces_from bytes 0 marks } ≡ p
    → output_of (pieces_from bytes 0 marks) ≡ bytes → length (output_of p.pieces) + length more ≤ p.limit → length bytes + length more ≤ limit
room limit bytes more marks p view all h =
    subst (λ (xs : List ℕ). length xs + length more ≤ limit) all
    (subst (λ (s : PrintedState). length (output_of s.pieces) + length more ≤ s.limit) (sym view) h)

pub unreachable-requires : goal.unreachable-requires
unreachable-requires c =
    let i = c.self.inside in
    let all = output_of-pieces i.marks.items i.bytes.items 0 c.self.invariant.goes_on in
    let fits = room i.limit i.bytes.items c.args.bytes.now i.marks.items c.args.self.now c.self.view_is all c.requires.room in
    omega (arith, fits, c.self.invariant.fits, c.in-Err.ensures.full)

pub overflow_cast-len : goal.overflow_cast-len
overflow_cast-len c =
    let i = c.self.inside in
    let all = output_of-pieces i.marks.items i.bytes.items 0 c.self.invariant.goes_on in
    let fits = room i.limit i.bytes.items c.args.bytes.now i.marks.items c.args.self.now c.self.view_is all c.requires.room in
    omega (arith, fits, c.self.invariant.word, c.len.ensures, c.in-Ok.ensures.len)

pub push_reserved-requires : goal.push_reserved-requires
push_reserved-requires c =
    let i = c.self.inside in
    let all = output_of-pieces i.marks.items i.bytes.items 0 c.self.invariant.goes_on in
    let fits = room i.limit i.bytes.items c.args.bytes.now i.marks.items c.args.self.now c.self.view_is all c.requires.room in
    omega (arith, fits, c.requires.some, c.self.invariant.mark_fits, GoOn-long i.marks.items 0 (length i.bytes.items) c.self.invariant.goes_on)

pub invariant_of-self : goal.invariant_of-self
invariant_of-self c =
    let i = c.self.inside in
    let all = output_of-pieces i.marks.items i.bytes.items 0 c.self.invariant.goes_on in
    let fits = room i.limit i.bytes.items c.args.bytes.now i.marks.items c.args.self.now c.self.view_is all c.requires.room in
    let end : c.len.result ≡ length i.bytes.items + length c.args.bytes.now = omega (arith, c.len.ensures, c.in-Ok.ensures.len) in
    IsPrinted-more i.limit i.bytes.items c.args.bytes.now _ i.marks.items _ _ _ _ _ (record { before = c.args.before; end = c.len.result })
    c.self.invariant c.in-Ok.ensures.items c.push_reserved.ensures.items end c.requires.some fits c.in-Ok.ensures.capacity (omega (arith, c.push_reserved.ensures.capacity))

pub returns : goal.returns
returns c =
    let i = c.self.inside in
    let end : c.len.result ≡ length i.bytes.items + length c.args.bytes.now = omega (arith, c.len.ensures, c.in-Ok.ensures.len) in
    (λ j. record { limit = i.limit; pieces = pieces_from (c.in-Ok.ensures.items j) 0 (c.push_reserved.ensures.items j) })
    ∙ ap (λ (xs : List Piece). record { limit = i.limit; pieces = xs })
    (pieces_from-more i.marks.items i.bytes.items c.args.bytes.now 0 (record { before = c.args.before; end = c.len.result }) c.self.invariant.goes_on end)
    ∙ ap (λ (p : PrintedState). record p { pieces = p.pieces ++ record { before = c.args.before; bytes = c.args.bytes.now } ∷ [] }) c.self.view_is
