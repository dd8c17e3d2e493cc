-- The part of a buffer.
use Rattle.std.proofs.Common.{◌≡◌, ◌*◌, Bool, true, false, List, ℕ, Option, length, take, drop, ap, sym, subst, ◌∙◌, arith}
use Rattle.std.specs.Prelude.{IfSome}
use Rattle.tss_buffers.specs.Block.{where_set}
use Rattle.tss_buffers.proofs.SeenLemmas.{seen_get, part_fits, length-part}
use Rattle.tss_buffers.proofs.buffers.Buffers.bytes.Goals as goal

pub part-requires : goal.part-requires
part-requires c =
    let b = c.self.inside in
    let fits = part_fits b.banks b.each b.object_bytes b.set.items b.bytes.items c.self.invariant c.args.self.now
    c.self.view_is c.args.bank c.args.place c.requires c.number_of.result c.number_of.ensures in
    omega (arith, fits, ap (λ (xs : List ℕ). length xs) c.as_slice.ensures.value)

shown : (b : Bool) (bytes xs : List ℕ) → xs ≡ bytes → IfSome (where_set b bytes) (λ ys. xs ≡ ys)
shown true bytes xs e = e
shown false bytes xs e = tt

pub returns-clause-exact : goal.returns-clause-exact
returns-clause-exact c =
    let b = c.self.inside in
    let seen = seen_get b.banks b.each b.object_bytes b.set.items b.bytes.items c.self.invariant c.args.self.now
    c.self.view_is c.args.bank c.args.place c.requires c.number_of.result c.number_of.ensures in
    subst (λ (o : Option (List ℕ)). IfSome o (λ bytes. c.part.result.now ≡ bytes)) (sym seen)
    (shown _ _ c.part.result.now
    (c.part.ensures ∙ ap (λ xs. take b.object_bytes (drop (c.number_of.result * b.object_bytes) xs)) c.as_slice.ensures.value))

pub returns-clause-len : goal.returns-clause-len
returns-clause-len c =
    let b = c.self.inside in
    let fits = part_fits b.banks b.each b.object_bytes b.set.items b.bytes.items c.self.invariant c.args.self.now
    c.self.view_is c.args.bank c.args.place c.requires c.number_of.result c.number_of.ensures in
    ap (λ (xs : List ℕ). length xs)
    (c.part.ensures ∙ ap (λ xs. take b.object_bytes (drop (c.number_of.result * b.object_bytes) xs)) c.as_slice.ensures.value)
    ∙ length-part b.bytes.items (c.number_of.result * b.object_bytes) b.object_bytes fits
    ∙ (λ i. (c.self.view_is i).object_bytes)
