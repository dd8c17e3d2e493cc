-- Main's stack has its bytes, and ends where memory does.
use Rattle.std.proofs.Common.{◌≡◌, ◌∙◌, ap, length, arith}
use Rattle.tss_memory.proofs.PartLemmas.{length-zeros}
use Rattle.tss_memory.proofs.block.Block.stack.Goals as goal

pub invariant_of-result : goal.invariant_of-result
invariant_of-result c =
    let len : length c.in_ok-zero_bytes.field-0.items ≡ 65536 = ap length c.in_ok-zero_bytes.ensures
    ∙ length-zeros 65536 in
    (omega arith, omega arith)
