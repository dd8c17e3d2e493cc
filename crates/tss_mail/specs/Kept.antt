-- What the tables of the mail hold: messages, each of its table's kind and under its name.
use Rattle.std.specs.Prelude.{◌≡◌, ℕ, ◌≤◌, ◌^◌, ◌<◌, Bool, false, List, length, slice_index_or, sum_by, None, Some}
use Rattle.std.specs.FinMap.{get, empty, len}
use Rattle.tss_base.specs.declared.operand.OpName.{OpName}
use Rattle.tss_base.specs.declared.operand.Operand.{Operand}
use Rattle.tss_base.specs.declared.operand.Mode.TheVariants.{Input}
use Rattle.tss_base.specs.declared.operand.Storage.{Storage}
use Rattle.tss_base.specs.declared.operand.Storage.TheVariants.{Home}
use Rattle.tss_base.specs.Names.{name_cmp, Named}
use Rattle.tss_maps.specs.Mapped.{mapped}
use Rattle.tss_tables.specs.Table.{TableState}
use Rattle.tss_events.specs.declared.message.Opening.{Opening}
use Rattle.tss_events.specs.declared.message.Gone.{Gone}
use Rattle.tss_events.specs.declared.message.Message.{Message}
use Rattle.tss_events.specs.declared.message.Message.TheVariants as message
use Rattle.tss_mail.specs.declared.kind.Kind.{Kind}
use Rattle.tss_mail.specs.declared.kind.Kind.TheVariants as kind
use Rattle.tss_mail.specs.Kinds.{kind_at}
use Rattle.tss_mail.specs.Letters.{MailState}

-- ---- the contents of a message of a kind. Those of other messages are of no meaning, since none stands in its table

abbrev pub no_name : OpName
no_name = record { task = 0; place = 0 }

abbrev pub no_operand : Operand
no_operand = record { object = record { base = 0; len = 0 }; mode = Input }

abbrev pub decode_in : Message → Operand
decode_in (message.Decode o operand) = operand
decode_in m = no_operand

abbrev pub ack_in : Message → Unit {0}
ack_in m = tt

abbrev pub open_in : Message → Opening
open_in (message.Open x) = x
open_in m = record {
  o = no_name;
  operand = no_operand;
  storage = None;
  follows = None;
  place = record { number = 0; place = 0 };
  buffer = None;
}

abbrev pub use_in : Message → OpName
use_in (message.Use o v) = v
use_in m = no_name

abbrev pub ready_in : Message → OpName × Storage
ready_in (message.Ready o v storage) = (v, storage)
ready_in m = (no_name, Home)

abbrev pub link_in : Message → OpName
link_in (message.Link o next) = next
link_in m = no_name

abbrev pub release_in : Message → OpName × Bool
release_in (message.Release o v producer) = (v, producer)
release_in m = (no_name, false)

abbrev pub bye_in : Message → Bool
bye_in (message.Bye o promised) = promised
bye_in m = false

abbrev pub idle_in : Message → ℕ × ℕ
idle_in (message.Idle v base count) = (base, count)
idle_in m = (0, 0)

abbrev pub gone_in : Message → Gone
gone_in (message.Gone x) = x
gone_in m = record {
  version = no_name;
  object = record { base = 0; len = 0 };
  place = record { number = 0; place = 0 };
  buffer = None;
  retired = false;
}

-- ---- tables

-- a table of the mail
abbrev pub Letters : Type 0
Letters = TableState name_cmp Message

-- the table of a number. Past the others nothing stands in it
abbrev pub table_in : List Letters → ℕ → Letters
table_in ts number = slice_index_or ts number (record { size = 0; entries = empty })

-- what stands in it
abbrev pub table_at : List Letters → ℕ → Named Message
table_at ts number = (table_in ts number).entries

-- what the tables mean
abbrev pub letters_of : ℕ → List Letters → MailState
letters_of size ts = record {
  size = size;
  decodes = mapped decode_in (table_at ts 0);
  acks = mapped ack_in (table_at ts 1);
  opens = mapped open_in (table_at ts 2);
  uses = mapped use_in (table_at ts 3);
  readies = mapped ready_in (table_at ts 4);
  links = mapped link_in (table_at ts 5);
  releases = mapped release_in (table_at ts 6);
  byes = mapped bye_in (table_at ts 7);
  idles = mapped idle_in (table_at ts 8);
  nacks = mapped ack_in (table_at ts 9);
  retires = mapped ack_in (table_at ts 10);
  gones = mapped gone_in (table_at ts 11);
}

-- the message of a kind and a name
abbrev pub IsFor : Kind → OpName → Message → Type 0
IsFor kind.Decode o m = message.Decode o (decode_in m) ≡ m
IsFor kind.Ack o m = message.Ack o ≡ m
IsFor kind.Open o m = (message.Open (open_in m) ≡ m) × ((open_in m).o ≡ o)
IsFor kind.Use o m = message.Use o (use_in m) ≡ m
IsFor kind.Ready o m = message.Ready o (ready_in m).0 (ready_in m).1 ≡ m
IsFor kind.Link o m = message.Link o (link_in m) ≡ m
IsFor kind.Release o m = message.Release o (release_in m).0 (release_in m).1 ≡ m
IsFor kind.Bye o m = message.Bye o (bye_in m) ≡ m
IsFor kind.Idle o m = message.Idle o (idle_in m).0 (idle_in m).1 ≡ m
IsFor kind.Nack o m = message.Nack o ≡ m
IsFor kind.Retire o m = message.Retire o ≡ m
IsFor kind.Gone o m = (message.Gone (gone_in m) ≡ m) × ((gone_in m).version ≡ o)

-- how many messages the tables have
abbrev pub total : List Letters → ℕ
total ts = sum_by (λ t. len t.entries) ts

-- a table for each kind with room for all messages, each message in the table of its kind and under its name, and their
-- number
pub record AreLetters (size n : ℕ) (ts : List Letters) : Type 0 where
  pub tables : length ts ≡ 12
  pub sizes : (k : ℕ) → k < 12 → (table_in ts k).size ≡ size
  pub kept : (k : ℕ) → k < 12 → (o : OpName) (m : Message) → get (table_at ts k) o ≡ Some m → IsFor (kind_at k) o m
  pub count : n ≡ total ts
  pub within : n ≤ size
  pub short : size < 2 ^ 32
