-- An entry that passes its checks adds its operand, and one that fails one is the end.
use Rattle.std.proofs.Common.{arith, ◌≡◌, ◌+◌, ◌-◌, ◌*◌, ap, sym, ◌∙◌, ◌++◌, Ok, Err, length}
use Rattle.std.proofs.lemmas.List.{length_push}
use Rattle.std.proofs.lemmas.Result.{err_from_is_err_and}
use Rattle.tss_base.specs.declared.lists.TheConstants.{ENTRY_BYTES}
use Rattle.tss_model.specs.Spawn.{objects_of, entry_at, entry_checked}
use Rattle.tss_operands.proofs.ReadingLemmas.{rest_checked, rest_checked-more, rest_checked-none, rest_checked-over}
use Rattle.tss_operands.proofs.reading.checked_entries.Goals as goal

pub returns-in_err-operand : goal.returns-in_err-operand
returns-in_err-operand c =
    let limits = c.args.limits.now in
    let m = c.args.space.now in
    let named = c.args.epoch.now.objects in
    let words = c.args.words.now in
    let i = c.loop-i.i in
    let k = c.in_err-operand.field-0.0.0 in
    let fails : entry_checked limits m (named ++ objects_of c.loop-i.listed) (entry_at m (words.list + ENTRY_BYTES * i)) ≡ Err k =
    ap (λ os. entry_checked limits m (named ++ objects_of os) (entry_at m (words.list + ENTRY_BYTES * i))) (sym c.as_slice.ensures.items)
    ∙ sym c.in_err-operand.ensures in
    let p = err_from_is_err_and c.from_residual.result c.from_residual.ensures.1 in
    rw (p.1, p.2) (sym (c.loop-i.invariant.same
    ∙ rest_checked-over limits m named words.list words.count i c.loop-i.listed c.loop-i-test.true k fails))

pub loop-i-preserved : goal.loop-i-preserved
loop-i-preserved c =
    let limits = c.args.limits.now in
    let m = c.args.space.now in
    let named = c.args.epoch.now.objects in
    let words = c.args.words.now in
    let i = c.loop-i.i in
    let listed = c.loop-i.listed in
    let o = c.in_ok-operand.operand in
    let passes : entry_checked limits m (named ++ objects_of listed) (entry_at m (words.list + ENTRY_BYTES * i)) ≡ Ok o =
    ap (λ os. entry_checked limits m (named ++ objects_of os) (entry_at m (words.list + ENTRY_BYTES * i))) (sym c.as_slice.ensures.items)
    ∙ sym c.in_ok-operand.ensures in
    record {
      many = ap length c.push.ensures ∙ length_push listed o ∙ ap (λ n. n + 1) c.loop-i.invariant.many;
      same = c.loop-i.invariant.same
          ∙ rest_checked-more limits m named words.list words.count i listed c.loop-i-test.true o passes
          ∙ ap (λ os. rest_checked limits m named os (words.list + ENTRY_BYTES * (i + 1)) (words.count - (i + 1))) (sym c.push.ensures);
    }

pub returns : goal.returns
returns c =
    let limits = c.args.limits.now in
    let m = c.args.space.now in
    let named = c.args.epoch.now.objects in
    let words = c.args.words.now in
    let listed = c.loop-i.listed in
    let at = words.list + ENTRY_BYTES * c.loop-i.i in
    let over : words.count - c.loop-i.i ≡ 0 = omega arith in
    sym (c.loop-i.invariant.same ∙ ap (rest_checked limits m named listed at) over
    ∙ rest_checked-none limits m named listed at)
