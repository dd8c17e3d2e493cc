-- The outcomes that are due to words, over files that may fail: what files tell before and after, and their faults.
use Rattle.std.specs.Prelude.{◌≡◌, ◌⊎◌, ◌≤◌, ℕ, List, [], ◌++◌, Option, Some, None, IfSome, unwrap_or, Ok, Err}
use Rattle.tss_outside.specs.declared.files.Files.{Ghosts as FilesMeaning}
use Rattle.tss_outside.specs.Outside.{Held, Rose, IsPrefix, AppendsTo, SameOthers}
use Rattle.tss_command.specs.declared.outcome.Refusal.{Refusal}
use Rattle.tss_command.specs.declared.outcome.Refusal.TheVariants as refusal
use Rattle.tss_command.specs.Reading.{Reading, ComesTo}
use Rattle.tss_command.specs.Words.{Command}
use Rattle.tss_command.specs.Work.{Addition, Deed, Outcome, work_of}

-- what files tell at a moment: what they hold, where that is told, and how often reading and appending have failed under
-- each name
pub record FilesSeen : Type 0 where
  pub held : Option Held
  pub read_faults : List ℕ → ℕ
  pub append_faults : List ℕ → ℕ

-- by what files mean
abbrev pub files_seen : {F : Type 0} → FilesMeaning F → F → FilesSeen
files_seen f files = record { held = f.held files; read_faults = f.read_faults files; append_faults = f.append_faults files }

-- reading the file of a name failed between two moments, and appending to it
abbrev pub FailedToRead : FilesSeen → FilesSeen → List ℕ → Type 0
FailedToRead before after name = Rose (before.read_faults name) (after.read_faults name)

abbrev pub FailedToAppend : FilesSeen → FilesSeen → List ℕ → Type 0
FailedToAppend before after name = Rose (before.append_faults name) (after.append_faults name)

-- no file is changed
abbrev pub KeepsFiles : FilesSeen → FilesSeen → Type 0
KeepsFiles before after = after.held ≡ before.held

-- between two moments files were only read
pub record OnlyReads (before after : FilesSeen) : Type 0 where
  pub held : after.held ≡ before.held
  pub read_faults : (n : List ℕ) → before.read_faults n ≤ after.read_faults n
  pub append_faults : (n : List ℕ) → after.append_faults n ≡ before.append_faults n

-- all is appended that should be, and nothing else is changed
abbrev pub AppendsAll : FilesSeen → FilesSeen → Option Addition → Type 0
AppendsAll before after None = KeepsFiles before after
AppendsAll before after (Some x) = AppendsTo before.held after.held x.name x.bytes

-- a part of bytes, from their beginning, stands after what a file held, where that is told, and no other file is
-- changed. A file without bytes and no file are the same here
abbrev pub AppendsPartTo : Option Held → Option Held → List ℕ → List ℕ → Type 0
AppendsPartTo before after name bytes =
    IfSome after (λ b. (a : Held) × (before ≡ Some a)
    × ((p : List ℕ) × IsPrefix p bytes × (unwrap_or (b name) [] ≡ unwrap_or (a name) [] ++ p))
    × SameOthers a b name)

-- a part of it is, and nothing else is changed
abbrev pub AppendsPart : FilesSeen → FilesSeen → Option Addition → Type 0
AppendsPart before after None = KeepsFiles before after
AppendsPart before after (Some x) = AppendsPartTo before.held after.held x.name x.bytes

-- appending has failed
abbrev pub FailedToAdd : FilesSeen → FilesSeen → Option Addition → Type 0
FailedToAdd before after None = ⊥
FailedToAdd before after (Some x) = FailedToAppend before after x.name

-- a deed was done and its report is the outcome; or appending failed
abbrev pub IsDone : FilesSeen → FilesSeen → Deed → Outcome → Type 0
IsDone before after d o =
    ((o ≡ Ok d.report) × AppendsAll before after d.appended)
    ⊎ ((o ≡ Err refusal.WriteLog) × FailedToAdd before after d.appended × AppendsPart before after d.appended)

-- the outcome is that of this reading: it found no deed, and no file is changed; or it found one, which was done
abbrev pub IsOutcomeOf : FilesSeen → FilesSeen → Reading Deed → Outcome → Type 0
IsOutcomeOf before after work o =
    ((e : Refusal) × (o ≡ Err e) × ComesTo before.held (FailedToRead before after) work (Err e) × KeepsFiles before after)
    ⊎ ((d : Deed) × ComesTo before.held (FailedToRead before after) work (Ok d) × IsDone before after d o)

-- it is due to a command: the usage where there is none
abbrev pub IsDueTo : Option Command → FilesSeen → FilesSeen → Outcome → Type 0
IsDueTo None before after o = (o ≡ Err refusal.Usage) × KeepsFiles before after
IsDueTo (Some c) before after o = IsOutcomeOf before after (work_of c) o
