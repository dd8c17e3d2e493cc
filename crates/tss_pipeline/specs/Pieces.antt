-- The next piece of what a bank copies, and what the bank has after it.
use Rattle.std.specs.Prelude.{◌≡◌, ◌+◌, ◌^◌, ◌<◌, Bool, true, false, List, [], ◌∷◌, Option, Some, None}
use Rattle.std.specs.FinMap.{insert}
use Rattle.tss_base.specs.Names.{Named}
use Rattle.tss_protocol.specs.Mail.{Message}
use Rattle.tss_protocol.specs.Mail as mail
use Rattle.tss_events.specs.Events.{gone_of}
use Rattle.tss_tokens.specs.Pool.{TokenState}
use Rattle.tss_events.specs.declared.message.Gone.{Gone}
use Rattle.tss_buffers.specs.declared.copying.Copying.{Copying}
use Rattle.tss_buffers.specs.Copies.{next_len, is_last, copying_after}
use Rattle.tss_pipeline.specs.declared.bank.Bank.{Bank}
use Rattle.tss_pipeline.specs.declared.bank.Job.{Job}
use Rattle.tss_pipeline.specs.declared.bank.Piece.{Piece}

-- the version of a job is gone, with its buffer
abbrev pub gone_with : Job → TokenState → Gone
gone_with j token = record {
  version = j.version;
  object = j.object;
  place = j.place;
  buffer = Some (record { name = j.buffer; token = token });
  retired = true;
}

-- after the last piece
abbrev pub gone_after : Copying → Job → Bool → Option Gone
gone_after c j true = Some (gone_with j c.buffer)
gone_after c j false = None

abbrev pub job_after : Job → Bool → Option Job
job_after j true = None
job_after j false = Some j

-- the next piece of a copy
pub record PieceOf (old : Bank) (c : Copying) (j : Job) (p : Piece) (new : Bank) : Type 0 where
  pub place : p.place ≡ c.buffer.place
  pub from : p.from ≡ c.moved
  pub to : p.to ≡ j.object.base + c.moved
  pub len : p.len ≡ next_len c
  pub gone : p.gone ≡ gone_after c j (is_last c)
  pub left : new ≡ record old { engine = copying_after c (is_last c); job = job_after j (is_last c) }

-- of a bank that copies
abbrev pub IsPieceOf : Bank → Option Copying → Option Job → Piece → Bank → Type 0
IsPieceOf old None j p new = ⊥
IsPieceOf old (Some c) None p new = ⊥
IsPieceOf old (Some c) (Some j) p new = PieceOf old c j p new

-- a bank copies to addresses
abbrev pub CopiesWithin : Option Copying → Option Job → Type 0
CopiesWithin None j = ⊥
CopiesWithin (Some c) None = ⊥
CopiesWithin (Some c) (Some j) = j.object.base + c.moved < 2 ^ 32

-- the message that it is gone, and the mail's with it
abbrev pub gone_messages : Option Gone → List Message
gone_messages None = []
gone_messages (Some g) = mail.Gone g.version (gone_of g) ∷ []

abbrev pub gones_with : Named Gone → Option Gone → Named Gone
gones_with gones None = gones
gones_with gones (Some g) = insert gones g.version g
