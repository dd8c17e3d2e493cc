-- What the calls of a log in a file keep, one call after another.
use Rattle.std.specs.Prelude.{ℕ, ◌≤◌, refl}
use Rattle.std.proofs.Common.{◌∙◌, arith}
use Rattle.tss_outside.specs.declared.files.Files.{Ghosts}
use Rattle.tss_log.specs.declared.file_log.FileLog.{FileLog}
use Rattle.tss_log.specs.FileLogs.{KeepsFiles}

le_refl : (n : ℕ) → n ≤ n
le_refl n = omega arith

le_then : (a b c : ℕ) → a ≤ b → b ≤ c → a ≤ c
le_then a b c h k = omega arith

-- where nothing is done all is kept
pub keeps_files_itself : {F : Type 0} {g : Ghosts F} (log : FileLog F) → KeepsFiles g log log
keeps_files_itself log = record {
  reference = refl;
  name = refl;
  knows = λ n. refl;
  read_faults = λ n. refl;
  append_faults = record { never_falls = λ n. le_refl _; others = λ n known apart. refl };
}

-- what one step and the next keep, both together do
pub keeps_files_then : {F : Type 0} {g : Ghosts F} {a b c : FileLog F}
    → KeepsFiles g a b → KeepsFiles g b c → KeepsFiles g a c
keeps_files_then first then = record {
  reference = then.reference ∙ first.reference;
  name = then.name ∙ first.name;
  knows = λ n. then.knows n ∙ first.knows n;
  read_faults = λ n. then.read_faults n ∙ first.read_faults n;
  append_faults = record {
    never_falls = λ n. le_then _ _ _ (first.append_faults.never_falls n) (then.append_faults.never_falls n);
    others = λ n known apart.
        then.append_faults.others n (first.knows n ∙ known) (λ e. apart (e ∙ first.name))
        ∙ first.append_faults.others n known apart;
  };
}
