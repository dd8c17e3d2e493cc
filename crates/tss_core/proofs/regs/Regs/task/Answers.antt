-- The registers of a task at its start, word by word.
use Rattle.std.proofs.Common.{◌≡◌, ℕ, ◌+◌, ◌<◌, ◌≤◌, List, length, ap, ◌∙◌, arith}
use Rattle.std.specs.Prelude.{slice_set, slice_index_or}
use Rattle.tss_core.proofs.WordsLemmas.{with_words, with_words-then, with_words-more}
use Rattle.tss_core.proofs.regs.Regs.task.Goals as goal

pub loop-i-preserved : goal.loop-i-preserved
loop-i-preserved c =
    let there : c.loop-i.i < length c.args.task.now.bases = omega arith in
    let few : c.loop-i.i < 22 = omega arith in
    ap (λ (v : List ℕ). slice_set v (10 + c.loop-i.i)
    (slice_index_or c.args.task.now.bases c.loop-i.i 0)) c.loop-i.invariant
    ∙ with_words-more c.args.task.now.bases c.loop-i.i there few

pub returns : goal.returns
returns c =
    let all : c.loop-i.i ≡ c.args.task.now.listed = omega arith in
    let there : c.args.task.now.listed ≤ length c.args.task.now.bases = omega arith in
    let few : c.args.task.now.listed < 22 = omega arith in
    let put = with_words-then c.args.task.now.bases c.args.task.now.listed there few c.args.task.now.argument in
    let values = ap (λ (v : List ℕ). slice_set v (10 + c.args.task.now.listed) c.args.task.now.argument)
    (c.loop-i.invariant ∙ ap (with_words c.args.task.now.bases) all) ∙ put in
    λ i. record { values = values i; pc = c.args.task.now.entry; done = 0 }
