-- Each of the first words is known where all are.
use Rattle.std.proofs.Common.{◌≡◌, ℕ, List, true, map, string_bytes, arith}
use Rattle.std.proofs.lemmas.List.Elements.{All-take, All-map}
use Rattle.tss_outside.specs.MemFiles.{is_known}
use Rattle.tss_command_tests.proofs.tests.knows_words.Goals as goal

pub returns : goal.returns
returns c =
    let words = c.args.words.now in
    let Known : List ℕ → Type 0 = λ w. is_known c.args.files.now w ≡ true in
    λ _. All-take Known 8 (map string_bytes words) (All-map Known string_bytes words (λ k d h. c.loop-word.invariant k d (omega arith)))
