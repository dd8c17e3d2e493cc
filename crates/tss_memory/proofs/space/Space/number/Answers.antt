-- The number in the block that was found is that in memory.
use Rattle.std.proofs.Common.{◌≡◌, ℕ, List, length, subst, sym, ap, ◌∙◌, arith}
use Rattle.std.specs.Prelude.{slice_index}
use Rattle.tss_model.specs.Memory.{Memory, byte_at, number_at}
use Rattle.tss_memory.specs.Ranges.{IsFound}
use Rattle.tss_memory.proofs.ReadLemmas.{found_in, count_read, number_read}
use Rattle.tss_memory.proofs.space.Space.number.Goals as goal

-- the bytes of the range are as many as it says
pub number-requires-clause-there : goal.number-requires-clause-there
number-requires-clause-there c =
    let blocks = c.self.inside.blocks.items in
    let r = c.args.r.now in
    let P : Memory → Type 0 = λ m. IsFound m.ranges c.args.found r in
    let inside = found_in blocks c.args.found r (subst P (sym c.self.view_is) c.requires.found) in
    let as_long : length c.bytes.result.now ≡ r.len =
    ap length c.bytes.ensures ∙ count_read blocks r c.args.found.index c.index.result.now inside c.index.ensures in
    omega (arith, as_long)

pub returns-clause-exact : goal.returns-clause-exact
returns-clause-exact c =
    let blocks = c.self.inside.blocks.items in
    let r = c.args.r.now in
    let P : Memory → Type 0 = λ m. IsFound m.ranges c.args.found r in
    let inside = found_in blocks c.args.found r (subst P (sym c.self.view_is) c.requires.found) in
    let as_long : length c.bytes.result.now ≡ r.len =
    ap length c.bytes.ensures ∙ count_read blocks r c.args.found.index c.index.result.now inside c.index.ensures in
    c.number.ensures.exact
    ∙ ap (number_at (slice_index c.bytes.result.now) 0) (sym as_long)
    ∙ ap (λ (xs : List ℕ). number_at (slice_index xs) 0 (length xs)) c.bytes.ensures
    ∙ number_read blocks c.self.invariant r c.args.found.index c.index.result.now inside c.index.ensures
    ∙ ap (λ (m : Memory). number_at (byte_at m) r.base r.len) c.self.view_is
