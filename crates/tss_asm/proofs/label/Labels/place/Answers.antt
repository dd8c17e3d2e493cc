use Rattle.std.proofs.Common.{sym, ap, ◌∙◌}
use Rattle.std.specs.Option.{option_copied_mut}
use Rattle.tss_asm.proofs.LabelLemmas.{placed_some, placed_none}
use Rattle.tss_asm.proofs.label.Labels.place.Goals as goal
use Rattle.tss_asm.proofs.label.Labels.place.Goals.{in-Some, in_default}

pub returns : goal.returns
returns c =
    let old = c.self.inside.places in
    let new = c.match-get_mut.self-inside.places in
    elim c.match-get_mut.branch [
      | in-Some w ↦ placed_some old new c.args.self.now c.label.inside.number c.args.label c.args.at w.in-Some.place.now
          c.self.view_is c.label.view_is (sym c.get_mut.follows ∙ ap option_copied_mut w.in-Some.is)
          (ap (λ r. r.places) w.self-inside-is)
      | in_default w ↦ placed_none old new c.args.self.now c.label.inside.number c.args.label c.args.at
          c.self.view_is c.label.view_is (sym c.get_mut.follows ∙ ap option_copied_mut w.in_default.is)
          (ap (λ r. r.places) w.self-inside-is)
    ]
