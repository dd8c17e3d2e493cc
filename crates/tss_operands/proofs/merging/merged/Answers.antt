-- An object that isn't listed before adds its operand.
use Rattle.std.proofs.Common.{arith, ◌≡◌, ap, sym, ◌∙◌, length, get_or, [], ◌∷◌, ◌++◌}
use Rattle.std.specs.List.{list_any}
use Rattle.tss_model.specs.Spawn.{no_operand, same_range}
use Rattle.tss_operands.proofs.MergingLemmas.{length-merged_front, merged_front, merged_front-again, merged_front-more}
use Rattle.tss_operands.proofs.merging.merged.Goals as goal
use Rattle.tss_operands.proofs.merging.merged.Goals.{then-not-is_listed, else-not-is_listed}

pub push-requires : goal.push-requires
push-requires c =
    omega (arith, length-merged_front c.args.listed.now c.loop-operand.operand-index, ap length c.loop-operand.invariant)

pub loop-operand-preserved : goal.loop-operand-preserved
loop-operand-preserved c =
    let listed = c.args.listed.now in
    let i = c.loop-operand.operand-index in
    let object = (get_or listed i no_operand).object in
    let same = c.loop-operand.invariant in
    let test : c.is_listed.result ≡ list_any (λ o. same_range object o.object) (merged_front listed i) =
    c.is_listed.ensures ∙ ap (list_any (λ o. same_range object o.object)) (c.as_slice.ensures.items ∙ same) in
    elim c.if-not-is_listed.branch [
      | then-not-is_listed w ↦
          w.merged-is ∙ w.push.ensures ∙ ap (λ os. os ++ w.merged_on.result ∷ []) same
          ∙ ap (λ o. merged_front listed i ++ o ∷ []) w.merged_on.ensures
          ∙ sym (merged_front-more listed i no_operand c.loop-operand-test.true (sym test ∙ w.if-not-is_listed.true))
      | else-not-is_listed w ↦
          w.merged-is ∙ same
          ∙ sym (merged_front-again listed i no_operand c.loop-operand-test.true (sym test ∙ w.if-not-is_listed.false))
    ]
