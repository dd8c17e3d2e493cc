-- What is kept at a pc's place is kept for that pc.
use Rattle.std.proofs.Common.{◌≡◌, ℕ, ◌+◌, ◌-◌, ◌*◌, ◌/◌, ◌%◌, ◌^◌, ◌<◌, List, Option, Some, length, IfSome, refl, sym, subst, rules, arith}
use Rattle.std.specs.Prelude.{slice_get}
use Rattle.std.proofs.lemmas.Option.{slice_get_read, IfSome_then}
use Rattle.tss_base.specs.Image.{SegmentState}
use Rattle.tss_isa.specs.declared.instr.Instr.{Instr}
use Rattle.tss_model.specs.Memory.{code_word}
use Rattle.tss_memory.specs.Segments.{IsKept}
use Rattle.tss_memory.proofs.KeptLemmas.{IsInstrOf, kept_unless_break}
use Rattle.tss_memory.proofs.code.Code.kept.Goals as goal
use Rattle.tss_memory.proofs.code.Code.kept.Goals.{After-unless_break}

found : (c : After-unless_break) → IfSome c.unless_break.result (IsInstrOf (code_word c.args.self.now c.args.pc))
found c =
    let kept = c.self.inside.kept.items in
    let start : ℕ = c.self.inside.start in
    let pc : ℕ = c.args.pc in
    let k : ℕ = (pc + (2 ^ 32 - start)) % 2 ^ 32 / 4 in
    let i : Instr = c.index-instr.result.now in
    let placed : k < length kept = search rules in
    let there : slice_get kept k ≡ Some i = slice_get_read kept (length kept) k i refl placed c.index-instr.ensures in
    let same : start + 4 * k ≡ pc = omega (arith, c.self.invariant.within, placed, c.if-beyond-eq0.true, c.ranges.pc.fits) in
    let here = subst (λ (n : ℕ). IsKept (code_word c.self.inside.segments.items n) i) same
    (c.self.invariant.each k i there) in
    let view : c.self.inside.segments.items ≡ c.args.self.now = search rules in
    let at = subst (λ (ss : List SegmentState). IsKept (code_word ss pc) i) view here in
    subst (λ (r : Option Instr). IfSome r (IsInstrOf (code_word c.args.self.now pc))) (sym c.unless_break.ensures)
    (kept_unless_break (code_word c.args.self.now pc) i at)

pub returns-then-place-len-clause-exact : goal.returns-then-place-len-clause-exact
returns-then-place-len-clause-exact c = IfSome_then c.unless_break.result (found c) (λ i p. p.0)

pub returns-then-place-len-clause-fits : goal.returns-then-place-len-clause-fits
returns-then-place-len-clause-fits c = IfSome_then c.unless_break.result (found c) (λ i p. p.1)
