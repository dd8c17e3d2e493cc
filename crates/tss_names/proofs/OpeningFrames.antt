-- What each event that opens nothing leaves alone of opens, uses and versions.
use Rattle.std.proofs.Common.{◌≡◌, ℕ, suc, Bool, List, [], ◌∷◌, Option, Some, None, refl, ◌∙◌}
use Rattle.std.specs.FinMap.{get, insert}
use Rattle.tss_base.specs.declared.range.Range.{Range}
use Rattle.tss_base.specs.declared.operand.OpName.{OpName}
use Rattle.tss_base.specs.declared.operand.Operand.{Operand}
use Rattle.tss_base.specs.declared.operand.Task.{Task}
use Rattle.tss_base.specs.declared.machine.Machine.{Machine}
use Rattle.tss_base.specs.declared.event.Event.TheVariants as event
use Rattle.tss_base.specs.Names.{Named}
use Rattle.tss_model.specs.Access.{operands_of}
use Rattle.tss_model.specs.MainStep.{MainState, Call, main_call}
use Rattle.tss_protocol.specs.Mail.{Source, ReleaseContents, IdleContents, GoneContents, Message, Mail, posted_all}
use Rattle.tss_protocol.specs.State.{State, Flying, Busy, Version, CopyState}
use Rattle.tss_protocol.specs.Names.{operand_name}
use Rattle.tss_protocol.specs.Gateway.{decodes_from}
use Rattle.tss_protocol.specs.Buffers.{is_last_piece}
use Rattle.tss_protocol.specs.MainEvent.{main_by, after_call}
use Rattle.tss_protocol.specs.UnitMachine.{with_sent, without, after_take, ready_message_taken, link_message_taken}
use Rattle.tss_protocol.specs.UnitMachine.{after_start, start_task, after_exec, after_finish, release_message_taken}
use Rattle.tss_protocol.specs.UnitMachine.{bye_message_taken, idle_message_taken, nack_message_taken, retire_version}
use Rattle.tss_protocol.specs.UnitMachine.{after_copy, gone_message_taken}
use Rattle.tss_protocol.proofs.SentLemmas.{AllSent, IsLater, posted_all-later, after_release-later, after_nack-later}
use Rattle.tss_protocol.proofs.SentLemmas.{after_ready-later, after_link-later, flight_after_finish-later}
use Rattle.tss_protocol.proofs.SentLemmas.{after_idle-later, sent_by_retire-later, sent_by_copy-later}
use Rattle.tss_names.proofs.VersionObjects.{objects_release, objects_nack, objects_retire}

-- each version was there before, of the same object
abbrev pub VersionsFrom : Named Version → Named Version → Type 0
VersionsFrom vs ws = (v : OpName) (x : Version) → get ws v ≡ Some x
    → (y : Version) × (get vs v ≡ Some y) × (x.object ≡ y.object)

-- nothing has changed
pub all_from : (vs : Named Version) → VersionsFrom vs vs
all_from vs v x e = (x, e, refl)

-- opens and uses are as they were, and each version was there before
pub record KeepsOpenings (S T : State) : Type 0 where
  pub opens : T.mail.opens ≡ S.mail.opens
  pub uses : T.mail.uses ≡ S.mail.uses
  pub versions : VersionsFrom S.versions T.versions

openings_sent : (S T : State) (ms : List Message) → KeepsOpenings S T → AllSent IsLater ms
    → KeepsOpenings S (with_sent T ms)
openings_sent S T ms k later =
    let same = posted_all-later T.mail ms later in
    record { opens = same.opens ∙ k.opens; uses = same.uses ∙ k.uses; versions = k.versions }

-- decodes change neither opens nor uses
pub posted_all-taken : (m : Mail) (n place : ℕ) (os : List Operand)
    → ((posted_all m (decodes_from n place os)).opens ≡ m.opens)
    × ((posted_all m (decodes_from n place os)).uses ≡ m.uses)
posted_all-taken m n place [] = (refl, refl)
posted_all-taken m n place (o ∷ os) =
    posted_all-taken (record m { decodes = insert m.decodes (operand_name n place) o }) n (suc place) os

module _ (m : Machine) (S : State) where
  openings_call : (d : MainState × Option Task) → KeepsOpenings S (after_call S d)
  openings_call (main, None) = record { opens = refl; uses = refl; versions = all_from S.versions }
  openings_call (main, Some t) = record { opens = refl; uses = refl; versions = all_from S.versions }

  -- main's event
  pub openings_main : (c : Option Call) → KeepsOpenings S (main_by m S c)
  openings_main None = record { opens = refl; uses = refl; versions = all_from S.versions }
  openings_main (Some call) = openings_call (main_call m.limits S.home S.main call)

  -- take
  pub openings_take : (t : Option Task) → KeepsOpenings S (after_take S t)
  openings_take None = record { opens = refl; uses = refl; versions = all_from S.versions }
  openings_take (Some t) =
      let same = posted_all-taken S.mail t.number 0 (operands_of t) in
      record { opens = same.0; uses = same.1; versions = all_from S.versions }

  -- ready
  pub openings_ready : (o : OpName) (c : Option Source)
      → KeepsOpenings S (ready_message_taken (without S (event.Ready o)) o c)
  openings_ready o None = record { opens = refl; uses = refl; versions = all_from S.versions }
  openings_ready o (Some source) =
      openings_sent S _ _ (record { opens = refl; uses = refl; versions = all_from S.versions })
      (after_ready-later S.flight o source)

  -- link
  pub openings_link : (o : OpName) (c : Option OpName)
      → KeepsOpenings S (link_message_taken (without S (event.Link o)) o c)
  openings_link o None = record { opens = refl; uses = refl; versions = all_from S.versions }
  openings_link o (Some next) =
      openings_sent S _ _ (record { opens = refl; uses = refl; versions = all_from S.versions })
      (after_link-later S.flight o next)

  -- bye
  pub openings_bye : (o : OpName) (c : Option Bool) → KeepsOpenings S (bye_message_taken (without S (event.Bye o)) o c)
  openings_bye o None = record { opens = refl; uses = refl; versions = all_from S.versions }
  openings_bye o (Some promised) = record { opens = refl; uses = refl; versions = all_from S.versions }

  openings_start_task : (w t : ℕ) (ts : List ℕ) (x : Option Flying) → KeepsOpenings S (start_task m S w t ts x)
  openings_start_task w t ts None = record { opens = refl; uses = refl; versions = all_from S.versions }
  openings_start_task w t ts (Some x) = record { opens = refl; uses = refl; versions = all_from S.versions }

  -- start
  pub openings_start : (w : ℕ) (queue : List ℕ) → KeepsOpenings S (after_start m S w queue)
  openings_start w [] = record { opens = refl; uses = refl; versions = all_from S.versions }
  openings_start w (t ∷ ts) = openings_start_task w t ts (get S.flight t)

  -- exec
  pub openings_exec : (w : ℕ) (b : Option Busy) → KeepsOpenings S (after_exec m S w b)
  openings_exec w None = record { opens = refl; uses = refl; versions = all_from S.versions }
  openings_exec w (Some b) = record { opens = refl; uses = refl; versions = all_from S.versions }

  -- finish
  pub openings_finish : (w : ℕ) (b : Option Busy) → KeepsOpenings S (after_finish S w b)
  openings_finish w None = record { opens = refl; uses = refl; versions = all_from S.versions }
  openings_finish w (Some b) =
      openings_sent S _ _ (record { opens = refl; uses = refl; versions = all_from S.versions })
      (flight_after_finish-later S.flight b.task.number)

  -- a version of this object was there before
  abbrev pub Before : OpName → Range → Type 0
  Before v r = (y : Version) × (get S.versions v ≡ Some y) × (r ≡ y.object)

  -- release
  pub openings_release : (o : OpName) (c : Option ReleaseContents)
      → KeepsOpenings S (release_message_taken (without S (event.Release o)) o c)
  openings_release o None = record { opens = refl; uses = refl; versions = all_from S.versions }
  openings_release o (Some r) =
      openings_sent S _ _
      (record { opens = refl; uses = refl; versions = objects_release Before S.versions (all_from S.versions) o r })
      (after_release-later S.versions o r)

  -- idle
  pub openings_idle : (v : OpName) (c : Option IdleContents)
      → KeepsOpenings S (idle_message_taken (without S (event.Idle v)) v c)
  openings_idle v None = record { opens = refl; uses = refl; versions = all_from S.versions }
  openings_idle v (Some i) =
      openings_sent S _ _ (record { opens = refl; uses = refl; versions = all_from S.versions })
      (after_idle-later S.entries v i.base i.count)

  -- nack
  pub openings_nack : (v : OpName) → KeepsOpenings S (nack_message_taken (without S (event.Nack v)) v)
  openings_nack v =
      openings_sent S _ _
      (record { opens = refl; uses = refl; versions = objects_nack Before S.versions (all_from S.versions) v })
      (after_nack-later S.versions v)

  -- retire
  pub openings_retire : (v : OpName) (x : Option Version)
      → KeepsOpenings S (retire_version m (without S (event.Retire v)) v x)
  openings_retire v None = record { opens = refl; uses = refl; versions = all_from S.versions }
  openings_retire v (Some x) =
      openings_sent S _ _
      (record { opens = refl; uses = refl; versions = objects_retire Before S.versions (all_from S.versions) v })
      (sent_by_retire-later v x.object x.storage)

  -- copy
  pub openings_copy : (b : ℕ) (c : Option CopyState) → KeepsOpenings S (after_copy S b c)
  openings_copy b None = record { opens = refl; uses = refl; versions = all_from S.versions }
  openings_copy b (Some c) =
      openings_sent S _ _ (record { opens = refl; uses = refl; versions = all_from S.versions })
      (sent_by_copy-later c (is_last_piece c))

  -- gone
  pub openings_gone : (v : OpName) (c : Option GoneContents)
      → KeepsOpenings S (gone_message_taken (without S (event.Gone v)) v c)
  openings_gone v None = record { opens = refl; uses = refl; versions = all_from S.versions }
  openings_gone v (Some g) = record { opens = refl; uses = refl; versions = all_from S.versions }
