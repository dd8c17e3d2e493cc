-- The name stands at its place in the bank.
use Rattle.std.proofs.Common.{ℕ, ap, option_map, ◌∙◌}
use Rattle.tss_base.specs.declared.operand.OpName.{OpName}
use Rattle.tss_pipeline.proofs.shown.SeenBanks.{name_under, seen_buffers, seen_no_buffer}
use Rattle.tss_pipeline.proofs.pipeline.Pipeline.buffer_at.Goals as goal

pub returns-in-Some : goal.returns-in-Some
returns-in-Some c =
    ap (option_map (λ (b : OpName × ℕ). b.0)) c.buffer_at.ensures
    ∙ name_under c.in-Some.bank.now.renaming.buffers c.args.i
    ∙ seen_buffers c.self.inside.units c.self.invariant.fit c.args.self.now c.self.view_is
    c.deref.result.now c.deref.ensures.value c.args.bank c.in-Some.bank.now c.in-Some.ensures c.args.i

pub returns-in-None : goal.returns-in-None
returns-in-None c =
    seen_no_buffer c.self.inside.units c.self.invariant.fit c.args.self.now c.self.view_is
    c.deref.result.now c.deref.ensures.value c.args.bank c.in-None.ensures c.args.i
