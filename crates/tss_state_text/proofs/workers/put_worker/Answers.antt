-- The lines of a busy worker go out one after another.
use Rattle.std.proofs.Common.{ℕ, Option, ◌++◌, sym, ap, ◌∙◌}
use Rattle.std.specs.Prelude.{is_some}
use Rattle.std.specs.FinMap.{get}
use Rattle.tss_base.specs.declared.ending.Trap.{Trap}
use Rattle.tss_protocol.specs.State.{Busy}
use Rattle.tss_text.proofs.PieceLemmas.{same_text}
use Rattle.tss_state_lines.specs.Lines.{worker_line, worker_registers_line}
use Rattle.tss_state_text.specs.StateText.{scratch_text, worker_text}
use Rattle.tss_state_lines.proofs.Sequences.{then_put, first_failed}
use Rattle.tss_state_text.proofs.WorkerLemmas.{busy_there, part_there}
use Rattle.tss_state_text.proofs.workers.put_worker.Goals as goal

pub returns-in_err-put_busy : goal.returns-in_err-put_busy
returns-in_err-put_busy g c =
    let w = c.args.w in
    let o = get c.args.p.now.state.workers w in
    let t = busy_there o (c.in-Some.task, c.in-Some.trap) (sym c.in-Some.is ∙ c.task.ensures) in
    let b = t.0 in
    let regs = part_there (λ (b : Busy). b.registers) o b c.regs.result.now t.1 c.regs.ensures in
    let trapped = c.is_some.ensures ∙ ap (λ (p : ℕ × Option Trap). is_some p.1) (sym t.2) in
    same_text (sym (ap (worker_text w) t.1))
    (first_failed (worker_line w b.task.number b.registers (is_some b.trap))
    (worker_registers_line w b.registers ++ scratch_text w b.scratch)
    (same_text (λ i. worker_line w (sym t.2 i).0 (sym regs i) (trapped i)) c.in_err-put_busy.ensures) c.from_residual.ensures.0)

pub returns-in_err-put_worker_registers : goal.returns-in_err-put_worker_registers
returns-in_err-put_worker_registers g c =
    let w = c.args.w in
    let o = get c.args.p.now.state.workers w in
    let t = busy_there o (c.in-Some.task, c.in-Some.trap) (sym c.in-Some.is ∙ c.task.ensures) in
    let b = t.0 in
    let regs = part_there (λ (b : Busy). b.registers) o b c.regs.result.now t.1 c.regs.ensures in
    let trapped = c.is_some.ensures ∙ ap (λ (p : ℕ × Option Trap). is_some p.1) (sym t.2) in
    let again = part_there (λ (b : Busy). b.registers) o b c.regs-2.result.now t.1 c.regs-2.ensures in
    let second = ap (worker_registers_line w) (sym again) in
    same_text (sym (ap (worker_text w) t.1))
    (then_put (worker_line w b.task.number b.registers (is_some b.trap))
    (worker_registers_line w b.registers ++ scratch_text w b.scratch)
    (same_text (λ i. worker_line w (sym t.2 i).0 (sym regs i) (trapped i)) c.in_ok-put_busy.ensures)
    (first_failed (worker_registers_line w b.registers) (scratch_text w b.scratch)
    (same_text second c.in_err-put_worker_registers.ensures) c.from_residual-in_err-put_worker_registers.ensures.0))

pub returns : goal.returns
returns g c =
    let w = c.args.w in
    let o = get c.args.p.now.state.workers w in
    let t = busy_there o (c.in-Some.task, c.in-Some.trap) (sym c.in-Some.is ∙ c.task.ensures) in
    let b = t.0 in
    let regs = part_there (λ (b : Busy). b.registers) o b c.regs.result.now t.1 c.regs.ensures in
    let trapped = c.is_some.ensures ∙ ap (λ (p : ℕ × Option Trap). is_some p.1) (sym t.2) in
    let again = part_there (λ (b : Busy). b.registers) o b c.regs-2.result.now t.1 c.regs-2.ensures in
    let second = ap (worker_registers_line w) (sym again) in
    let scratch = part_there (λ (b : Busy). b.scratch) o b c.scratch.result.now t.1 c.scratch.ensures.exact in
    same_text (sym (ap (worker_text w) t.1))
    (then_put (worker_line w b.task.number b.registers (is_some b.trap))
    (worker_registers_line w b.registers ++ scratch_text w b.scratch)
    (same_text (λ i. worker_line w (sym t.2 i).0 (sym regs i) (trapped i)) c.in_ok-put_busy.ensures)
    (then_put (worker_registers_line w b.registers) (scratch_text w b.scratch)
    (same_text second c.in_ok-put_worker_registers.ensures)
    (same_text (ap (scratch_text w) (sym scratch)) c.put_scratch.ensures)))
