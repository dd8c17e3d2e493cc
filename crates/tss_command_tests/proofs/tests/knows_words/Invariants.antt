use Rattle.std.proofs.Common.{◌≡◌, ℕ, ◌<◌, true, get_or, string_bytes, String, Global}
use Rattle.tss_outside.specs.MemFiles.{is_known}
use Rattle.tss_command_tests.proofs.tests.knows_words.Given as goal

-- each word before this one is known
abbrev pub invariant-loop-word : goal.invariant-loop-word
invariant-loop-word l = (k : ℕ) (d : String Global) → k < l.word-index → is_known l.files (string_bytes (get_or l.words k d)) ≡ true
