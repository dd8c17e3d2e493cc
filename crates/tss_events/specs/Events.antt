-- From messages with tokens to those of the definitions, which have none.
use Rattle.std.specs.Prelude.{List, map, option_map}
use Rattle.tss_base.specs.declared.operand.OpName.{OpName}
use Rattle.tss_base.specs.declared.operand.Storage.{Storage}
use Rattle.tss_base.specs.declared.operand.Storage.TheVariants as place
use Rattle.tss_protocol.specs.Mail.{StorageName, Home, Buffer, Source, OpenContents, GoneContents}
use Rattle.tss_protocol.specs.Mail as mail
use Rattle.tss_events.specs.declared.message.Opening.{Opening}
use Rattle.tss_events.specs.declared.message.Gone.{Gone}
use Rattle.tss_events.specs.declared.message.Message.{Message}
use Rattle.tss_events.specs.declared.message.Message.TheVariants as message

-- a storage by its name alone
abbrev pub storage_name : Storage → StorageName
storage_name place.Home = Home
storage_name (place.Buffer p name) = Buffer name

-- a version and the storage of its value
abbrev pub source_of : OpName → Storage → Source
source_of v storage = record { version = v; storage = storage_name storage }

-- what an open has
abbrev pub opening_of : Opening → OpenContents
opening_of m = record {
  operand = m.operand;
  storage = option_map storage_name m.storage;
  follows = m.follows;
}

-- what a gone has
abbrev pub gone_of : Gone → GoneContents
gone_of m = record {
  object = m.object;
  buffer = option_map (λ b. b.name) m.buffer;
  retired = m.retired;
}

-- the message of the definitions
abbrev pub message_of : Message → mail.Message
message_of (message.Decode o operand) = mail.Decode o operand
message_of (message.Ack o) = mail.Ack o
message_of (message.Open m) = mail.Open m.o (opening_of m)
message_of (message.Use o v) = mail.Use o v
message_of (message.Ready o v storage) = mail.Ready o (source_of v storage)
message_of (message.Link o next) = mail.Link o next
message_of (message.Release o v producer) = mail.Release o (record { version = v; producer = producer })
message_of (message.Bye o promised) = mail.Bye o promised
message_of (message.Idle v base count) = mail.Idle v (record { base = base; count = count })
message_of (message.Nack v) = mail.Nack v
message_of (message.Retire v) = mail.Retire v
message_of (message.Gone m) = mail.Gone m.version (gone_of m)

-- those of a list
abbrev pub messages_of : List Message → List mail.Message
messages_of ms = map message_of ms
