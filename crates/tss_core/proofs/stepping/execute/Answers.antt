-- A load is one from the register's value moved by the offset.
use Rattle.std.proofs.Common.{rules, ◌≡◌, ℕ, w32, FitsSigned, sym, ap, subst, ◌∙◌}
use Rattle.std.proofs.lemmas.Int.{to_z-of_z}
use Rattle.tss_isa.specs.declared.instr.Instr.{Instr}
use Rattle.tss_model.specs.Registers.{register_at}
use Rattle.tss_model.specs.Core.{Stepped, execute, load_from, moved}
use Rattle.tss_core.specs.Steps.{IsStep, outcome_by}
use Rattle.tss_core.proofs.stepping.execute.Goals as goal

pub returns-in-Load : goal.returns-in-Load
returns-in-Load g c =
    let s = g.V.View.sight c.args.view.now in
    let r = c.args.regs.now in
    let fits : FitsSigned w32 c.in-Load.offset = search rules in
    let at : moved (register_at r c.in-Load.rs1) c.in-Load.offset ≡ c.moved-in-Load.result =
    sym (c.moved-in-Load.ensures ∙ (λ i. moved (c.get-in-Load.ensures i) (to_z-of_z w32 c.in-Load.offset fits i))) in
    let same : execute s.actor s.byte r c.args.instr ≡ load_from s.actor s.byte r c.in-Load.kind c.in-Load.rd c.moved-in-Load.result =
    ap (λ (i : Instr). execute s.actor s.byte r i) c.in-Load.is
    ∙ ap (λ (n : ℕ). load_from s.actor s.byte r c.in-Load.kind c.in-Load.rd n) at in
    subst (λ (x : Stepped). IsStep x r c.load_from.new.regs (outcome_by c.load_from.result c.load_from.new.stop) s
    (g.V.View.sight c.load_from.new.view) (λ w. g.V.View.Leaves c.args.view.now w c.load_from.new.view)) (sym same) c.load_from.ensures
