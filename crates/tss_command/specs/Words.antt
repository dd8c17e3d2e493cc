-- The words of the program, and the commands that they are.
use Rattle.std.specs.Prelude.{ℕ, ◌^◌, nat_lt, ◌&&◌, ◌||◌, if◌then◌else◌, List, [], ◌∷◌, map, Option, Some, None, option_map, codes, decimal, string_bytes}
use Rattle.std.specs.Str.{bytes_eq}
use Rattle.std.proofs.Common.{String, Global}
use Rattle.std.specs.Option.{option_and_then}
use Rattle.tss_gen.specs.declared.form.Form.{Form}
use Rattle.tss_gen.specs.declared.form.Form.TheVariants.{Shifts, Products}
use Rattle.tss_protocol.specs.Text.{number_in}
use Rattle.tss_self.specs.SelfAnswer.{SelfWork}
use Rattle.tss_command.specs.declared.command.Command as declared
use Rattle.tss_command.specs.declared.command.Command.TheVariants as form

-- words as bytes
abbrev pub words_of : List (String Global) → List (List ℕ)
words_of words = map string_bytes words

-- the files that name a program: an image, and a machine's description
pub record Names : Type 0 where
  pub image : List ℕ
  pub machine : List ℕ

-- the number that a word writes in its one spelling, below 2 ^ 64
abbrev pub number_if_spelled : List ℕ → ℕ → Option ℕ
number_if_spelled word n = if bytes_eq (decimal n) word && nat_lt n (2 ^ 64) then Some n else None

abbrev pub number_of : List ℕ → Option ℕ
number_of word = number_if_spelled word (number_in word)

-- the files that name a migration: a log, and the one to which its new form is appended
pub record LogNames : Type 0 where
  pub log : List ℕ
  pub new_log : List ℕ

-- a command, with the names that it has
pub data Command : Type 0 where
  RunSeeded : Names → ℕ → Command
  RunLogged : Names → ℕ → List ℕ → Command
  RunGiven : Names → List ℕ → Command
  StateGiven : Names → List ℕ → Command
  InOrder : Names → Command
  Workload : SelfWork → Command
  Migrate : LogNames → Command

-- that of a command of the code
abbrev pub command_meant : declared.Command → Command
command_meant (form.RunSeeded image machine seed) = RunSeeded (record { image = image.now; machine = machine.now }) seed
command_meant (form.RunLogged image machine seed log) =
    RunLogged (record { image = image.now; machine = machine.now }) seed log.now
command_meant (form.RunGiven image machine schedule) =
    RunGiven (record { image = image.now; machine = machine.now }) schedule.now
command_meant (form.StateGiven image machine schedule) =
    StateGiven (record { image = image.now; machine = machine.now }) schedule.now
command_meant (form.Workload n kind) = Workload (record { n = n; form = kind })
command_meant (form.InOrder image machine) = InOrder (record { image = image.now; machine = machine.now })
command_meant (form.Migrate log new_log) = Migrate (record { log = log.now; new_log = new_log.now })

-- ---- the forms

-- the workload with n blocks a side, from 1 to 40
abbrev pub workload_with : Form → ℕ → Option Command
workload_with form n = if nat_lt n 1 || nat_lt 40 n then None else Some (Workload (record { n = n; form = form }))

abbrev pub workload_command : Form → List ℕ → Option Command
workload_command form word = option_and_then (workload_with form) (number_of word)

-- the command that words are, by their number: `self N`; `self N mul`, `inorder IMAGE MACHINE` and `migrate FILE NEW`;
-- `run IMAGE MACHINE seed N`, `run IMAGE MACHINE given FILE` and `state IMAGE MACHINE given FILE`; and
-- `run IMAGE MACHINE seed N log FILE`. Other words are none
abbrev pub command_of : List (List ℕ) → Option Command
command_of (form ∷ n ∷ []) = if bytes_eq form (codes "self") then workload_command Shifts n else None
command_of (form ∷ first ∷ second ∷ []) =
    if bytes_eq form (codes "self") && bytes_eq second (codes "mul") then workload_command Products first
    else if bytes_eq form (codes "inorder") then Some (InOrder (record { image = first; machine = second }))
    else if bytes_eq form (codes "migrate") then Some (Migrate (record { log = first; new_log = second }))
    else None
command_of (form ∷ image ∷ machine ∷ how ∷ what ∷ []) =
    if bytes_eq form (codes "run") && bytes_eq how (codes "seed")
    then option_map (RunSeeded (record { image = image; machine = machine })) (number_of what)
    else if bytes_eq form (codes "run") && bytes_eq how (codes "given")
    then Some (RunGiven (record { image = image; machine = machine }) what)
    else if bytes_eq form (codes "state") && bytes_eq how (codes "given")
    then Some (StateGiven (record { image = image; machine = machine }) what)
    else None
command_of (form ∷ image ∷ machine ∷ how ∷ seed ∷ and_log ∷ log ∷ []) =
    if bytes_eq form (codes "run") && bytes_eq how (codes "seed") && bytes_eq and_log (codes "log")
    then option_map (λ n. RunLogged (record { image = image; machine = machine }) n log) (number_of seed)
    else None
command_of words = None
