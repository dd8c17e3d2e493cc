-- A test of the named objects and then of the operands' objects.
use Rattle.std.proofs.Common.{sym, ap, ◌∙◌, ◌&&◌, ◌||◌, not}
use Rattle.std.specs.List.{list_any}
use Rattle.std.proofs.lemmas.List.Folds.{list_any-append}
use Rattle.tss_base.specs.declared.range.Range.{Range}
use Rattle.tss_base.specs.Range.{meets}
use Rattle.tss_model.specs.Spawn.{objects_of, same_range}
use Rattle.tss_operands.proofs.MergingLemmas.{list_any-objects_of}
use Rattle.tss_operands.proofs.checking.meets_in_part.Goals as goal

pub returns-else-overlaps : goal.returns-else-overlaps
returns-else-overlaps c =
    let r = c.args.object.now in
    let named = c.args.epoch.now.objects in
    let test = λ (n : Range). meets n r && not (same_range n r) in
    c.overlaps_earlier.ensures ∙ sym (list_any-objects_of test c.args.earlier.now)
    ∙ ap (λ b. b || list_any test (objects_of c.args.earlier.now)) (sym c.if-overlaps.false ∙ c.overlaps.ensures)
    ∙ sym (list_any-append test named (objects_of c.args.earlier.now))
