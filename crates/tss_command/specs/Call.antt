-- What is claimed of a call of the program: its words, what the files and the sink tell before and after it, and its
-- status.
use Rattle.std.specs.Prelude.{◌≡◌, ◌≢◌, ◌⊎◌, ◌<◌, ◌≤◌, ℕ, List, Option, Some, None, Result, IfSome, IfOk, All}
use Rattle.std.proofs.Common.{String, Global}
use Rattle.tss_outside.specs.declared.files.Files.{Ghosts as FilesMeaning}
use Rattle.tss_outside.specs.declared.sink.Sink.{Ghosts as SinkMeaning}
use Rattle.tss_outside.specs.Outside.{Held, Rose, AppendsWhereTold, PutsPrefix}
use Rattle.tss_command.specs.declared.outcome.Refusal.{Refusal}
use Rattle.tss_command.specs.declared.statuses.TheConstants.{BAD_IMAGE, WRITE_FAILED, NO_MEMORY}
use Rattle.tss_command.specs.Answer.{status_of, text_of}
use Rattle.tss_command.specs.Outcomes.{FilesSeen, files_seen, FailedToRead, FailedToAdd, KeepsFiles, AppendsAll, AppendsPart, IsDueTo}
use Rattle.tss_command.specs.Reading.{found_on, names_read}
use Rattle.tss_command.specs.Words.{Command, words_of, command_of}
use Rattle.tss_command.specs.Work.{Addition, Deed, Outcome, work_of, outcome_of, appended_by}

-- what a sink tells at a moment: what was written, where that is told, and how often writing has failed
pub record SinkSeen : Type 0 where
  pub written : Option (List ℕ)
  pub faults : ℕ

-- by what it means
abbrev pub sink_seen : {K : Type 0} → SinkMeaning K → K → SinkSeen
sink_seen k out = record { written = k.written out; faults = k.faults out }

-- the files and the sink at a moment
pub record Outside : Type 0 where
  pub files : FilesSeen
  pub sink : SinkSeen

abbrev pub outside_of : {F K : Type 0} → FilesMeaning F → SinkMeaning K → F → K → Outside
outside_of f k files out = record { files = files_seen f files; sink = sink_seen k out }

-- a call: its words, the outside before and after it, and its status
pub record Call : Type 0 where
  pub words : List (List ℕ)
  pub before : Outside
  pub after : Outside
  pub status : ℕ

abbrev pub called : {F K : Type 0} → FilesMeaning F → SinkMeaning K → List (String Global) → F → K → F → K → ℕ → Call
called f k words files out files_after out_after status = record {
  words = words_of words;
  before = outside_of f k files out;
  after = outside_of f k files_after out_after;
  status = status;
}

-- ---- the answer

-- a write failed between two moments
abbrev pub FailedToWrite : SinkSeen → SinkSeen → Type 0
FailedToWrite before after = Rose before.faults after.faults

-- an outcome was told: its status, and its whole text
abbrev pub TellsAll : SinkSeen → SinkSeen → ℕ → Outcome → Type 0
TellsAll before after status o = (status ≡ status_of o) × AppendsWhereTold before.written after.written (text_of o)

-- a write failed: the status says so, and a part of the text was written, from its beginning
abbrev pub TellsPart : SinkSeen → SinkSeen → ℕ → Outcome → Type 0
TellsPart before after status o =
    (status ≡ WRITE_FAILED) × FailedToWrite before after × PutsPrefix before.written after.written (text_of o)

-- it was told, whole or cut short
abbrev pub Tells : SinkSeen → SinkSeen → ℕ → Outcome → Type 0
Tells before after status o = TellsAll before after status o ⊎ TellsPart before after status o

-- ---- where files tell what they hold

-- what the work of the words finds in what is held: none where they are no command, or it comes to a file that isn't held
abbrev pub found_by : Held → Option Command → Option (Result Deed Refusal)
found_by held None = None
found_by held (Some command) = found_on held (work_of command)

-- what is then to be appended
abbrev pub expected_by : Option (Result Deed Refusal) → Option Addition
expected_by None = None
expected_by (Some found) = appended_by found

abbrev pub expected_log : Call → Held → Option Addition
expected_log c held = expected_by (found_by held (command_of c.words))

-- a report is told, whole or in part, only once all is appended that what is held asks for
abbrev pub AppendsFirst : Call → Outcome → Type 0
AppendsFirst c o =
    IfOk o (λ r. IfSome c.before.files.held (λ held. AppendsAll c.before.files c.after.files (expected_log c held)))

-- the call tells an outcome that is due to its words over these files, with the faults that they had in the call
pub record IsAnswered (c : Call) : Type 0 where
  pub outcome : Outcome
  pub due : IsDueTo (command_of c.words) c.before.files c.after.files outcome
  pub told : Tells c.before.sink c.after.sink c.status outcome
  pub appended_first : AppendsFirst c outcome

-- no read that a command's work makes over what is held has failed, no write, and no append that it makes
pub record HasNoFault (c : Call) (held : Held) (command : Command) (found : Result Deed Refusal) : Type 0 where
  pub read : All (λ name. FailedToRead c.before.files c.after.files name → ⊥) (names_read held (work_of command))
  pub append : FailedToAdd c.before.files c.after.files (appended_by found) → ⊥
  pub write : FailedToWrite c.before.sink c.after.sink → ⊥

-- where the files tell what they hold and there is no fault, it answers the outcome of that, or memory ran out
abbrev pub IsComplete : Call → Type 0
IsComplete c =
    IfSome c.before.files.held (λ held. (command : Command) (found : Result Deed Refusal)
    → command_of c.words ≡ Some command
    → found_on held (work_of command) ≡ Some found
    → HasNoFault c held command found
    → TellsAll c.before.sink c.after.sink c.status (outcome_of found) ⊎ (c.status ≡ NO_MEMORY))

-- ---- the files

-- with a status of a report, all is appended that what is held asks for, and nothing else is changed
abbrev pub AppendsExpected : Call → Type 0
AppendsExpected c =
    IfSome c.before.files.held (λ held. c.status < BAD_IMAGE
    → AppendsAll c.before.files c.after.files (expected_log c held))

-- with that of a failed write a part of it is
abbrev pub AppendsPartly : Call → Type 0
AppendsPartly c =
    IfSome c.before.files.held (λ held. c.status ≡ WRITE_FAILED
    → AppendsPart c.before.files c.after.files (expected_log c held))

-- with any other status no file is changed
abbrev pub ChangesNoFile : Call → Type 0
ChangesNoFile c = BAD_IMAGE ≤ c.status → c.status ≢ WRITE_FAILED → KeepsFiles c.before.files c.after.files
