use Rattle.std.proofs.Common.{◌≡◌, ◌++◌, take}
use Rattle.tss_asm.specs.Image.{bytes_of_words}
use Rattle.tss_asm.proofs.writing.put_words.Given as goal

-- the words so far are put
abbrev pub invariant-loop-word : goal.invariant-loop-word
invariant-loop-word l = l.out.items ≡ l.initial.out.items ++ bytes_of_words (take l.word-index l.words)
