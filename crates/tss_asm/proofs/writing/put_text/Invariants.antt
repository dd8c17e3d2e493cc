use Rattle.std.proofs.Common.{◌≡◌, ◌++◌, take}
use Rattle.tss_asm.specs.Words.{words_from}
use Rattle.tss_asm.specs.Image.{bytes_of_words}
use Rattle.tss_asm.proofs.writing.put_text.Given as goal

-- the words of the items so far are put
abbrev pub invariant-loop-at : goal.invariant-loop-at
invariant-loop-at l =
    l.out.items ≡ l.initial.out.items ++ bytes_of_words (words_from l.text_at l.labels 0 (take l.at l.text))
