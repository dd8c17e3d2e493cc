use Rattle.std.proofs.Common.{◌≡◌, ◌++◌, ◌-◌}
use Rattle.std.specs.List.{range_with_len}
use Rattle.tss_gen.proofs.building.put_blocks.Given as goal

-- the words so far are put
abbrev pub invariant-loop-word : goal.invariant-loop-word
invariant-loop-word l =
    l.program ≡ record l.initial.program { data_words = l.initial.program.data_words ++ range_with_len 1 (l.word - 1) }
