-- All names of a kind are tested.
use Rattle.std.proofs.Common.{◌+◌, option_map, sym, ap, ◌∙◌, subst, arith}
use Rattle.tss_mail.specs.Kinds.{event_of}
use Rattle.tss_pipeline.proofs.listed.ListedNames.{AreTestedTo, more_tested, none_more, all_tested}
use Rattle.tss_pipeline.proofs.units.Units.list_anew.Goals as goal
use Rattle.tss_pipeline.proofs.units.Units.list_anew.Goals.{in-Some, in_default}

pub loop-i-preserved : goal.loop-i-preserved
loop-i-preserved c =
    let u = c.args.self.now in
    let k = c.args.kind in
    elim c.match-name_at.branch [
      | in-Some w ↦
          subst (λ t. AreTestedTo u k t (c.loop-i.i + 1)) (sym (w.list-is ∙ w.mark_name.ensures))
          (more_tested u k c.requires.kind c.loop-i.list c.loop-i.i c.loop-i.invariant w.in-Some.o
          (sym c.name_at.ensures ∙ ap (option_map (event_of k)) w.in-Some.is))
      | in_default w ↦
          subst (λ t. AreTestedTo u k t (c.loop-i.i + 1)) (sym w.list-is)
          (none_more u k c.requires.kind c.loop-i.list c.loop-i.i c.loop-i.invariant
          (sym c.name_at.ensures ∙ ap (option_map (event_of k)) w.in_default.is))
    ]

pub returns : goal.returns
returns c =
    let past = c.loop-i-test.false in
    let count = c.count_of-i-end.ensures in
    all_tested c.args.self.now c.args.kind c.requires.kind c.loop-i.list c.loop-i.i c.loop-i.invariant
    (omega (arith, past, count))
