-- The buffer is the one that is shown, with its contents.
use Rattle.std.proofs.Common.{ℕ, sym, ap, ◌∙◌}
use Rattle.std.specs.Prelude.{option_map}
use Rattle.tss_base.specs.declared.operand.OpName.{OpName}
use Rattle.tss_text.proofs.PieceLemmas.{same_text}
use Rattle.tss_state_lines.specs.Lines.{buffer_line}
use Rattle.tss_state_text.specs.StateText.{text_if, buffer_object, buffer_text, object_bytes}
use Rattle.tss_state_text.proofs.ShownTexts.{contents_there, name_place, nothing_put}
use Rattle.tss_state_text.proofs.banks.put_buffer_at.Goals as goal

pub returns-in-Some : goal.returns-in-Some
returns-in-Some g c =
    let a = c.args in
    let s = a.p.now.state in
    let m = a.p.now.machine in
    let n = c.in-Some.name in
    let named = ap (option_map (λ (b : OpName × ℕ). b.0)) (sym c.in-Some.is) ∙ c.buffer_at.ensures in
    same_text (ap (buffer_line a.bank n)
    (c.shown_bytes.ensures
    ∙ ap (option_map (object_bytes (buffer_object m.sizes s a.bank n)))
    (contents_there a.bank s.buffers s.contents a.i n (sym named)))
    ∙ ap (text_if (buffer_text m.sizes s a.bank)) (named ∙ name_place a.bank s.buffers a.i)) c.put_buffer.ensures

pub returns-in-None : goal.returns-in-None
returns-in-None g c =
    let a = c.args in
    let s = a.p.now.state in
    let named = ap (option_map (λ (b : OpName × ℕ). b.0)) (sym c.in-None.is) ∙ c.buffer_at.ensures in
    same_text (ap (text_if (buffer_text a.p.now.machine.sizes s a.bank)) (named ∙ name_place a.bank s.buffers a.i))
    (nothing_put g.K.Sink a.to.now)
