-- A log in a file: what it means by what its files mean, and what a call does with the piece that it keeps.
use Rattle.std.specs.Prelude.{◌≡◌, ℕ, ◌+◌, nat_lt, Bool, true, false, if◌then◌else◌, List, [], ◌++◌, length, bytes_eq, Option, None, option_map, unwrap_or, Result, IsOk, OnOk, OnErr}
use Rattle.tss_outside.specs.declared.files.Failed.{Failed}
use Rattle.tss_outside.specs.declared.files.Files.{Ghosts}
use Rattle.tss_outside.specs.Outside.{Held, Rose, AppendsTo, PutsPrefixTo, RaisesOnly}
use Rattle.tss_log.specs.declared.file_log.FileLog.{FileLog}
use Rattle.tss_log.specs.Logs.{followed_by}

-- ---- what it means

-- what the file of a name holds, where that is told: no bytes where there is no such file
abbrev pub held_under : List ℕ → Option Held → Option (List ℕ)
held_under name files = option_map (λ h. unwrap_or (h name) []) files

-- what each file of another name holds
abbrev pub held_beside : List ℕ → Option Held → Option Held
held_beside name files = option_map (λ h n. if bytes_eq n name then None else h n) files

-- the file of its name, that with what is kept, all others, and how often appending to it has failed
abbrev pub held_by : {F : Type 0} → Ghosts F → FileLog F → Option (List ℕ)
held_by g log = held_under log.name.now (g.held log.files.now)

abbrev pub text_by : {F : Type 0} → Ghosts F → FileLog F → Option (List ℕ)
text_by g log = followed_by log.kept (held_by g log)

abbrev pub other_by : {F : Type 0} → Ghosts F → FileLog F → Option Held
other_by g log = held_beside log.name.now (g.held log.files.now)

abbrev pub faults_by : {F : Type 0} → Ghosts F → FileLog F → ℕ
faults_by g log = g.append_faults log.files.now log.name.now

-- ---- what a call leaves

-- what a call answers
abbrev pub Outcome : Type 0
Outcome = Result (Unit {0}) Failed

-- the files behind the log are the same, under the same name, and of their known counts only that of appending to it
-- has risen
pub record KeepsFiles {F : Type 0} (g : Ghosts F) (old new : FileLog F) : Type 0 where
  pub reference : new.files.ghost_name ≡ old.files.ghost_name
  pub name : new.name.now ≡ old.name.now
  pub knows : (n : List ℕ) → g.knows new.files.now n ≡ g.knows old.files.now n
  pub read_faults : (n : List ℕ) → g.read_faults new.files.now n ≡ g.read_faults old.files.now n
  pub append_faults : RaisesOnly (g.knows old.files.now) (g.append_faults old.files.now)
      (g.append_faults new.files.now) old.name.now

-- what was kept was appended as one piece, and this line is kept; or that failed, and the same is kept
pub record AppendsPiece {F : Type 0} (g : Ghosts F) (old new : FileLog F) (result : Outcome) (line : List ℕ)
    : Type 0 where
  pub ok : OnOk result (AppendsTo (g.held old.files.now) (g.held new.files.now) old.name.now old.kept)
  pub kept : OnOk result (new.kept ≡ line)
  pub prefix : OnErr result (PutsPrefixTo (g.held old.files.now) (g.held new.files.now) old.name.now old.kept)
  pub unchanged : OnErr result (new.kept ≡ old.kept)
  pub cause : OnErr result (Rose (faults_by g old) (faults_by g new))

-- nothing was appended, and this line is kept after what was
pub record KeepsMore {F : Type 0} (old new : FileLog F) (result : Outcome) (line : List ℕ) : Type 0 where
  pub ok : IsOk result
  pub files : new.files.now ≡ old.files.now
  pub kept : new.kept ≡ old.kept ++ line

-- by whether a piece goes out
abbrev pub Puts : {F : Type 0} → Ghosts F → Bool → FileLog F → FileLog F → Outcome → List ℕ → Type 0
Puts g true old new result line = AppendsPiece g old new result line
Puts g false old new result line = KeepsMore old new result line

-- how many bytes a piece may have
abbrev pub piece_len : ℕ
piece_len = 4096

-- the line doesn't fit into the piece that is kept
abbrev pub is_full_for : List ℕ → List ℕ → Bool
is_full_for kept line = nat_lt piece_len (length kept + length line)

-- something is kept
abbrev pub keeps_any : List ℕ → Bool
keeps_any kept = nat_lt 0 (length kept)

-- a line was put: a piece goes out exactly where the line doesn't fit into it
pub record PutsLine {F : Type 0} (g : Ghosts F) (old new : FileLog F) (result : Outcome) (line : List ℕ)
    : Type 0 where
  pub keeps : KeepsFiles g old new
  pub puts : Puts g (is_full_for old.kept line) old new result line

-- the log was closed: a last piece goes out exactly where anything is kept
pub record PutsLast {F : Type 0} (g : Ghosts F) (old new : FileLog F) (result : Outcome) : Type 0 where
  pub keeps : KeepsFiles g old new
  pub puts : Puts g (keeps_any old.kept) old new result []
