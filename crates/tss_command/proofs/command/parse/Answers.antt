-- Words of another number are no command.
use Rattle.std.proofs.Common.{rules}
use Rattle.tss_command.proofs.WordLemmas.{other_number}
use Rattle.tss_command.proofs.command.parse.Goals as goal
use Rattle.tss_command.proofs.command.parse.Goals.{in_default-via-then-words-lt2, in_default-via-else-words-lt2+else-words-lt3+else-words-lt4+then-words-lt5, in_default-via-else-words-lt2+else-words-lt3+else-words-lt4+else-words-lt5+else-words-lt6+then-words-lt7, in_default-via-else-words-lt2+else-words-lt3+else-words-lt4+else-words-lt5+else-words-lt6+else-words-lt7+else-words-lt8}

pub returns-in_default-clause-exact : goal.returns-in_default-clause-exact
returns-in_default-clause-exact c = elim c.in_default.branch [
  | in_default-via-then-words-lt2 w ↦ search (other_number, rules)
  | in_default-via-else-words-lt2+else-words-lt3+else-words-lt4+then-words-lt5 w ↦ search (other_number, rules)
  | in_default-via-else-words-lt2+else-words-lt3+else-words-lt4+else-words-lt5+else-words-lt6+then-words-lt7 w ↦ search (other_number, rules)
  | in_default-via-else-words-lt2+else-words-lt3+else-words-lt4+else-words-lt5+else-words-lt6+else-words-lt7+else-words-lt8 w ↦ search (other_number, rules)
]
