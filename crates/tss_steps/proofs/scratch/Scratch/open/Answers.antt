-- All are zeros.
use Rattle.std.proofs.Common.{ℕ, List, subst, sym}
use Rattle.tss_model.specs.Memory.{scratch_range}
use Rattle.tss_steps.specs.Scratches.{IsScratch}
use Rattle.tss_steps.proofs.ZeroLemmas.{IsScratch-zeros}
use Rattle.tss_steps.proofs.scratch.Scratch.open.Goals as goal

pub invariant_of-result : goal.invariant_of-result
invariant_of-result c =
    subst (λ (xs : List ℕ). IsScratch xs scratch_range.len) (sym c.in_ok-zero_bytes.ensures.zeros) IsScratch-zeros
