-- One more is kept for the next pc.
use Rattle.std.proofs.Common.{ℕ, ◌+◌, ◌*◌, Option, sym, subst, rules}
use Rattle.tss_isa.specs.declared.instr.Instr.{Instr}
use Rattle.tss_model.specs.Memory.{code_word}
use Rattle.tss_memory.specs.Segments.{AreKept, IsKept}
use Rattle.tss_memory.proofs.KeptLemmas.{AreKept-more}
use Rattle.tss_memory.proofs.code.kept_from.Goals as goal

pub loop-k-preserved : goal.loop-k-preserved
loop-k-preserved c =
    let segments = c.args.segments.now in
    let start : ℕ = c.args.start in
    let i : Instr = c.kept_for.result in
    let before = c.loop-k.invariant in
    let here = subst (λ (w : Option ℕ). IsKept w i) c.word_at.ensures c.kept_for.ensures in
    let at_end = subst (λ (n : ℕ). IsKept (code_word segments (start + 4 * n)) i) (sym before.1) here in (
      subst (AreKept segments start) (sym c.in_ok-push.ensures.items)
          (AreKept-more segments start c.loop-k.kept.items i before.0 at_end),
      search rules,
    )
