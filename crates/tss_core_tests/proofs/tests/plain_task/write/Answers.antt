-- A write into the scratch, or into the bytes.
use Rattle.std.proofs.Common.{length, sym, ◌∙◌, arith}
use Rattle.std.proofs.lemmas.Bool.{cond-true, cond-false}
use Rattle.tss_core_tests.proofs.TaskLemmas.{width_some, in_scratch, in_bytes, covers_from, covers_below}
use Rattle.tss_core_tests.proofs.tests.plain_task.write.Goals as goal

pub put-requires-clause-there : goal.put-requires-clause-there
put-requires-clause-there c =
    let in_it = in_scratch (length c.args.bytes.now) c.args.at c.args.width c.requires.placed
    (width_some c.args.width c.requires.width) c.requires.there c.if-at.true in
    omega (arith, c.requires.whole)

pub put-requires-else-at-clause-there : goal.put-requires-else-at-clause-there
put-requires-else-at-clause-there c =
    in_bytes (length c.args.bytes.now) c.args.at c.args.width c.requires.placed
    (width_some c.args.width c.requires.width) c.requires.there c.if-at.false

pub returns-then-at-clause-bytes : goal.returns-then-at-clause-bytes
returns-then-at-clause-bytes c =
    let some = width_some c.args.width c.requires.width in
    let in_it = in_scratch
    (length c.args.bytes.now) c.args.at c.args.width c.requires.placed some c.requires.there c.if-at.true in
    sym (cond-true _ _ _ (covers_from c.args.at c.args.width c.if-at.true in_it some))

pub returns-then-at-clause-scratch : goal.returns-then-at-clause-scratch
returns-then-at-clause-scratch c =
    let some = width_some c.args.width c.requires.width in
    let in_it = in_scratch
    (length c.args.bytes.now) c.args.at c.args.width c.requires.placed some c.requires.there c.if-at.true in
    c.put.ensures ∙ sym (cond-true _ _ _ (covers_from c.args.at c.args.width c.if-at.true in_it some))

pub returns-else-at-clause-bytes : goal.returns-else-at-clause-bytes
returns-else-at-clause-bytes c = c.put-else-at.ensures ∙ sym (cond-false _ _ _ (covers_below c.args.at c.if-at.false))

pub returns-else-at-clause-scratch : goal.returns-else-at-clause-scratch
returns-else-at-clause-scratch c = sym (cond-false _ _ _ (covers_below c.args.at c.if-at.false))
