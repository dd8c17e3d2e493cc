-- A number in the scratch, or in the bytes.
use Rattle.std.proofs.Common.{ℕ, ◌+◌, ◌≤◌, length, ◌∙◌, arith}
use Rattle.tss_core_tests.proofs.TaskLemmas.{width_some, in_scratch, in_bytes, number-in_scratch, number-in_bytes}
use Rattle.tss_core_tests.proofs.tests.plain_task.read.Goals as goal

pub number-requires-clause-there : goal.number-requires-clause-there
number-requires-clause-there c =
    let n : ℕ = length c.args.bytes.now in
    let in_it = in_scratch n c.args.at c.args.width c.requires.placed
    (width_some c.args.width c.requires.width) c.requires.there c.if-at.true in
    omega (arith, c.requires.whole)

pub number-requires-else-at-clause-there : goal.number-requires-else-at-clause-there
number-requires-else-at-clause-there c =
    in_bytes (length c.args.bytes.now) c.args.at c.args.width c.requires.placed
    (width_some c.args.width c.requires.width) c.requires.there c.if-at.false

pub returns-then-at-clause-exact : goal.returns-then-at-clause-exact
returns-then-at-clause-exact c =
    let in_it = in_scratch (length c.args.bytes.now) c.args.at c.args.width c.requires.placed
    (width_some c.args.width c.requires.width) c.requires.there c.if-at.true in
    c.number.ensures.exact
    ∙ number-in_scratch c.args.bytes.now c.args.scratch.now c.args.at c.args.width c.if-at.true in_it

pub returns-else-at-clause-exact : goal.returns-else-at-clause-exact
returns-else-at-clause-exact c =
    let in_it = in_bytes (length c.args.bytes.now) c.args.at c.args.width c.requires.placed
    (width_some c.args.width c.requires.width) c.requires.there c.if-at.false in
    let below : c.args.at + c.args.width ≤ 0xFFFD0000 = omega (arith, c.requires.placed) in
    c.number-else-at.ensures.exact ∙ number-in_bytes c.args.bytes.now c.args.scratch.now c.args.at c.args.width below
