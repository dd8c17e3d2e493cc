-- All are zeros.
use Rattle.std.proofs.Common.{length, drop, rules}
use Rattle.tss_steps.proofs.ZeroLemmas.{IsScratch-cleared}
use Rattle.tss_steps.proofs.scratch.Scratch.clear.Goals as goal

pub invariant_of-self : goal.invariant_of-self
invariant_of-self c =
    IsScratch-cleared c.self.inside.bytes.len (length c.as_mut_slice.result.now) c.clear_from.new.bytes
    (drop (length c.clear_from.new.bytes) c.self.inside.bytes.items) c.clear_from.ensures (search rules) (search rules)
