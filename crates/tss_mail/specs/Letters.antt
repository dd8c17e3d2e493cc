-- What contracts see of the mail: for each kind what stands under each name, with the tokens.
use Rattle.std.specs.Prelude.{ℕ, Bool, Option, None, option_map}
use Rattle.std.specs.FinMap.{get, insert, remove, empty}
use Rattle.tss_base.specs.declared.operand.OpName.{OpName}
use Rattle.tss_base.specs.declared.operand.Operand.{Operand}
use Rattle.tss_base.specs.declared.operand.Storage.{Storage}
use Rattle.tss_base.specs.declared.event.Event.{Event}
use Rattle.tss_base.specs.declared.event.Event.TheVariants as event
use Rattle.tss_base.specs.Names.{Named}
use Rattle.tss_maps.specs.Mapped.{mapped}
use Rattle.tss_protocol.specs.Mail as mail
use Rattle.tss_events.specs.declared.message.Opening.{Opening}
use Rattle.tss_events.specs.declared.message.Gone.{Gone}
use Rattle.tss_events.specs.declared.message.Message.{Message}
use Rattle.tss_events.specs.declared.message.Message.TheVariants as message
use Rattle.tss_events.specs.Events.{source_of, opening_of, gone_of}

-- how many messages there is room for, and what stands under each name: a ready's version and storage, a release's
-- version and whether the operand produced it, an idle's base and number of readers
pub record MailState : Type 0 where
  pub size : ℕ
  pub decodes : Named Operand
  pub acks : Named (Unit {0})
  pub opens : Named Opening
  pub uses : Named OpName
  pub readies : Named (OpName × Storage)
  pub links : Named OpName
  pub releases : Named (OpName × Bool)
  pub byes : Named Bool
  pub idles : Named (ℕ × ℕ)
  pub nacks : Named (Unit {0})
  pub retires : Named (Unit {0})
  pub gones : Named Gone

-- what a ready, a release and an idle tell, by the definitions
abbrev pub told_source : OpName × Storage → mail.Source
told_source r = source_of r.0 r.1

abbrev pub told_release : OpName × Bool → mail.ReleaseContents
told_release r = record { version = r.0; producer = r.1 }

abbrev pub told_idle : ℕ × ℕ → mail.IdleContents
told_idle r = record { base = r.0; count = r.1 }

-- the mail of the definitions
abbrev pub mail_of : MailState → mail.Mail
mail_of m = record {
  decodes = m.decodes;
  acks = m.acks;
  opens = mapped opening_of m.opens;
  uses = m.uses;
  readies = mapped told_source m.readies;
  links = m.links;
  releases = mapped told_release m.releases;
  byes = m.byes;
  idles = mapped told_idle m.idles;
  nacks = m.nacks;
  retires = m.retires;
  gones = mapped gone_of m.gones;
}

-- no message, and room for so many
abbrev pub no_letters : ℕ → MailState
no_letters size = record {
  size = size;
  decodes = empty;
  acks = empty;
  opens = empty;
  uses = empty;
  readies = empty;
  links = empty;
  releases = empty;
  byes = empty;
  idles = empty;
  nacks = empty;
  retires = empty;
  gones = empty;
}

-- the message of a name
abbrev pub letter_at : MailState → Event → Option Message
letter_at m (event.Decode o) = option_map (message.Decode o) (get m.decodes o)
letter_at m (event.Ack o) = option_map (λ x. message.Ack o) (get m.acks o)
letter_at m (event.Open o) = option_map message.Open (get m.opens o)
letter_at m (event.Use o) = option_map (message.Use o) (get m.uses o)
letter_at m (event.Ready o) = option_map (λ r. message.Ready o r.0 r.1) (get m.readies o)
letter_at m (event.Link o) = option_map (message.Link o) (get m.links o)
letter_at m (event.Release o) = option_map (λ r. message.Release o r.0 r.1) (get m.releases o)
letter_at m (event.Bye o) = option_map (message.Bye o) (get m.byes o)
letter_at m (event.Idle v) = option_map (λ r. message.Idle v r.0 r.1) (get m.idles v)
letter_at m (event.Nack v) = option_map (λ x. message.Nack v) (get m.nacks v)
letter_at m (event.Retire v) = option_map (λ x. message.Retire v) (get m.retires v)
letter_at m (event.Gone v) = option_map message.Gone (get m.gones v)
letter_at m event.Main = None
letter_at m event.Take = None
letter_at m (event.Start w) = None
letter_at m (event.Exec w) = None
letter_at m (event.Finish w) = None
letter_at m (event.Copy b) = None

-- a message is put under its name
abbrev pub with_letter : MailState → Message → MailState
with_letter m (message.Decode o operand) = record m { decodes = insert m.decodes o operand }
with_letter m (message.Ack o) = record m { acks = insert m.acks o tt }
with_letter m (message.Open x) = record m { opens = insert m.opens x.o x }
with_letter m (message.Use o v) = record m { uses = insert m.uses o v }
with_letter m (message.Ready o v storage) = record m { readies = insert m.readies o (v, storage) }
with_letter m (message.Link o next) = record m { links = insert m.links o next }
with_letter m (message.Release o v producer) = record m { releases = insert m.releases o (v, producer) }
with_letter m (message.Bye o promised) = record m { byes = insert m.byes o promised }
with_letter m (message.Idle v base count) = record m { idles = insert m.idles v (base, count) }
with_letter m (message.Nack v) = record m { nacks = insert m.nacks v tt }
with_letter m (message.Retire v) = record m { retires = insert m.retires v tt }
with_letter m (message.Gone x) = record m { gones = insert m.gones x.version x }

-- the message of a name is taken out
abbrev pub without_letter : MailState → Event → MailState
without_letter m (event.Decode o) = record m { decodes = remove m.decodes o }
without_letter m (event.Ack o) = record m { acks = remove m.acks o }
without_letter m (event.Open o) = record m { opens = remove m.opens o }
without_letter m (event.Use o) = record m { uses = remove m.uses o }
without_letter m (event.Ready o) = record m { readies = remove m.readies o }
without_letter m (event.Link o) = record m { links = remove m.links o }
without_letter m (event.Release o) = record m { releases = remove m.releases o }
without_letter m (event.Bye o) = record m { byes = remove m.byes o }
without_letter m (event.Idle v) = record m { idles = remove m.idles v }
without_letter m (event.Nack v) = record m { nacks = remove m.nacks v }
without_letter m (event.Retire v) = record m { retires = remove m.retires v }
without_letter m (event.Gone v) = record m { gones = remove m.gones v }
without_letter m event.Main = m
without_letter m event.Take = m
without_letter m (event.Start w) = m
without_letter m (event.Exec w) = m
without_letter m (event.Finish w) = m
without_letter m (event.Copy b) = m
