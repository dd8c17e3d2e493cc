use Rattle.std.proofs.Common.{arith}
use Rattle.tss_gen.proofs.ItemLists.{words_more}
use Rattle.tss_gen.proofs.building.put_blocks.Goals as goal

pub loop-word-preserved : goal.loop-word-preserved
loop-word-preserved c =
    words_more c.args.program.now c.loop-word.program c.data_word.new.self c.args.program.now.data_words
    c.loop-word.word (omega arith) c.loop-word.invariant c.in_ok-data_word.ensures.ok
