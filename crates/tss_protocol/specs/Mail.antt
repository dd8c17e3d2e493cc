-- The messages under way: the contents of each kind, and what stands under each name.
use Rattle.std.specs.Prelude.{ℕ, ◌+◌, ◌==◌, Bool, List, [], ◌∷◌, ◌++◌, map, Option, None, option_map}
use Rattle.std.specs.FinMap.{get, insert, remove, empty, len, keys}
use Rattle.tss_base.specs.declared.range.Range.{Range}
use Rattle.tss_base.specs.declared.operand.OpName.{OpName}
use Rattle.tss_base.specs.declared.operand.Operand.{Operand}
use Rattle.tss_base.specs.declared.marks.Follow.{Follow}
use Rattle.tss_base.specs.declared.event.Event.{Event}
use Rattle.tss_base.specs.declared.event.Event.TheVariants as event
use Rattle.tss_base.specs.Names.{Named}

-- where an object's value lies: at home, which is the object's own place in memory, or in a buffer, by its name
pub data StorageName : Type 0 where
  Home : StorageName
  Buffer : OpName → StorageName

-- a version, and the storage of its value
pub record Source : Type 0 where
  pub version : OpName
  pub storage : StorageName

-- ---- contents

-- open, for an operand that opens a version: its object and mode, the storage where it has one already, and the version
-- that it follows, how, and with the final number of that version's uses
pub record OpenContents : Type 0 where
  pub operand : Operand
  pub storage : Option StorageName
  pub follows : Option Follow

-- release, for an operand: the version that it used, and whether it produced it
pub record ReleaseContents : Type 0 where
  pub version : OpName
  pub producer : Bool

-- idle, for a version: the base of its object, and the number of readers that it counted
pub record IdleContents : Type 0 where
  pub base : ℕ
  pub count : ℕ

-- gone, for a version: its object, its buffer where that ends with it, and whether it was the last of its object
pub record GoneContents : Type 0 where
  pub object : Range
  pub buffer : Option OpName
  pub retired : Bool

-- ---- messages

-- a message: its kind, the operand or version that it is for, and its contents. Those of use are the version, those of
-- link the next operand, and those of bye whether it is promised
pub data Message : Type 0 where
  Decode : OpName → Operand → Message
  Ack : OpName → Message
  Open : OpName → OpenContents → Message
  Use : OpName → OpName → Message
  Ready : OpName → Source → Message
  Link : OpName → OpName → Message
  Release : OpName → ReleaseContents → Message
  Bye : OpName → Bool → Message
  Idle : OpName → IdleContents → Message
  Nack : OpName → Message
  Retire : OpName → Message
  Gone : OpName → GoneContents → Message

-- its name, which is the event that takes it
abbrev pub name_of : Message → Event
name_of (Decode o operand) = event.Decode o
name_of (Ack o) = event.Ack o
name_of (Open o opening) = event.Open o
name_of (Use o v) = event.Use o
name_of (Ready o source) = event.Ready o
name_of (Link o next) = event.Link o
name_of (Release o releasing) = event.Release o
name_of (Bye o promised) = event.Bye o
name_of (Idle v asking) = event.Idle v
name_of (Nack v) = event.Nack v
name_of (Retire v) = event.Retire v
name_of (Gone v going) = event.Gone v

-- the mail: for each kind, what stands under each name
pub record Mail : Type 0 where
  pub decodes : Named Operand
  pub acks : Named (Unit {0})
  pub opens : Named OpenContents
  pub uses : Named OpName
  pub readies : Named Source
  pub links : Named OpName
  pub releases : Named ReleaseContents
  pub byes : Named Bool
  pub idles : Named IdleContents
  pub nacks : Named (Unit {0})
  pub retires : Named (Unit {0})
  pub gones : Named GoneContents

-- no message
abbrev pub no_mail : Mail
no_mail = record {
  decodes = empty;
  acks = empty;
  opens = empty;
  uses = empty;
  readies = empty;
  links = empty;
  releases = empty;
  byes = empty;
  idles = empty;
  nacks = empty;
  retires = empty;
  gones = empty;
}

-- a message is sent
abbrev pub posted : Mail → Message → Mail
posted m (Decode o operand) = record m { decodes = insert m.decodes o operand }
posted m (Ack o) = record m { acks = insert m.acks o tt }
posted m (Open o opening) = record m { opens = insert m.opens o opening }
posted m (Use o v) = record m { uses = insert m.uses o v }
posted m (Ready o source) = record m { readies = insert m.readies o source }
posted m (Link o next) = record m { links = insert m.links o next }
posted m (Release o releasing) = record m { releases = insert m.releases o releasing }
posted m (Bye o promised) = record m { byes = insert m.byes o promised }
posted m (Idle v asking) = record m { idles = insert m.idles v asking }
posted m (Nack v) = record m { nacks = insert m.nacks v tt }
posted m (Retire v) = record m { retires = insert m.retires v tt }
posted m (Gone v going) = record m { gones = insert m.gones v going }

-- messages are sent, one after the other
abbrev pub posted_all : Mail → List Message → Mail
posted_all m [] = m
posted_all m (x ∷ xs) = posted_all (posted m x) xs

-- the message of a name
abbrev pub message_at : Mail → Event → Option Message
message_at m (event.Decode o) = option_map (Decode o) (get m.decodes o)
message_at m (event.Ack o) = option_map (λ x. Ack o) (get m.acks o)
message_at m (event.Open o) = option_map (Open o) (get m.opens o)
message_at m (event.Use o) = option_map (Use o) (get m.uses o)
message_at m (event.Ready o) = option_map (Ready o) (get m.readies o)
message_at m (event.Link o) = option_map (Link o) (get m.links o)
message_at m (event.Release o) = option_map (Release o) (get m.releases o)
message_at m (event.Bye o) = option_map (Bye o) (get m.byes o)
message_at m (event.Idle v) = option_map (Idle v) (get m.idles v)
message_at m (event.Nack v) = option_map (λ x. Nack v) (get m.nacks v)
message_at m (event.Retire v) = option_map (λ x. Retire v) (get m.retires v)
message_at m (event.Gone v) = option_map (Gone v) (get m.gones v)
message_at m event.Main = None
message_at m event.Take = None
message_at m (event.Start w) = None
message_at m (event.Exec w) = None
message_at m (event.Finish w) = None
message_at m (event.Copy b) = None

-- the message of a name is taken
abbrev pub taken : Mail → Event → Mail
taken m (event.Decode o) = record m { decodes = remove m.decodes o }
taken m (event.Ack o) = record m { acks = remove m.acks o }
taken m (event.Open o) = record m { opens = remove m.opens o }
taken m (event.Use o) = record m { uses = remove m.uses o }
taken m (event.Ready o) = record m { readies = remove m.readies o }
taken m (event.Link o) = record m { links = remove m.links o }
taken m (event.Release o) = record m { releases = remove m.releases o }
taken m (event.Bye o) = record m { byes = remove m.byes o }
taken m (event.Idle v) = record m { idles = remove m.idles v }
taken m (event.Nack v) = record m { nacks = remove m.nacks v }
taken m (event.Retire v) = record m { retires = remove m.retires v }
taken m (event.Gone v) = record m { gones = remove m.gones v }
taken m event.Main = m
taken m event.Take = m
taken m (event.Start w) = m
taken m (event.Exec w) = m
taken m (event.Finish w) = m
taken m (event.Copy b) = m

-- the names of the messages that come before the start of a task, and of those after its finish, by kind and then by
-- name
abbrev pub early_names : Mail → List Event
early_names m =
    map event.Decode (keys m.decodes)
    ++ map event.Ack (keys m.acks)
    ++ map event.Open (keys m.opens)
    ++ map event.Use (keys m.uses)
    ++ map event.Ready (keys m.readies)
    ++ map event.Link (keys m.links)

-- those after the finish
abbrev pub late_names : Mail → List Event
late_names m =
    map event.Release (keys m.releases)
    ++ map event.Bye (keys m.byes)
    ++ map event.Idle (keys m.idles)
    ++ map event.Nack (keys m.nacks)
    ++ map event.Retire (keys m.retires)

-- those of gone, which come after the copies
abbrev pub gone_names : Mail → List Event
gone_names m = map event.Gone (keys m.gones)

-- the names of all messages, in the order of events
abbrev pub message_names : Mail → List Event
message_names m = early_names m ++ late_names m ++ gone_names m

-- how many there are, in the same two groups
abbrev pub early_count : Mail → ℕ
early_count m = len m.decodes + len m.acks + len m.opens + len m.uses + len m.readies + len m.links

-- how many of the second group
abbrev pub late_count : Mail → ℕ
late_count m = len m.releases + len m.byes + len m.idles + len m.nacks + len m.retires

-- how many messages there are
abbrev pub message_count : Mail → ℕ
message_count m = early_count m + late_count m + len m.gones

-- no message is under way
abbrev pub is_silent : Mail → Bool
is_silent m = message_count m == 0
