-- Events that change nothing that is looked up of any operand, and so no phase.
use Rattle.std.proofs.Common.{◌≡◌, ℕ, Bool, true, false, Option, Some, None, refl, ap}
use Rattle.std.specs.FinMap.{get}
use Rattle.tss_base.specs.declared.operand.OpName.{OpName}
use Rattle.tss_base.specs.declared.machine.Machine.{Machine}
use Rattle.tss_base.specs.declared.event.Event.TheVariants as event
use Rattle.tss_protocol.specs.Mail.{StorageName, Home, Buffer, IdleContents, GoneContents}
use Rattle.tss_protocol.specs.State.{State, Busy, Entry, Version, CopyState}
use Rattle.tss_protocol.specs.Renaming.{idle_by, may_retire}
use Rattle.tss_protocol.specs.Buffers.{copies_after_retire, sent_by_retire, sent_by_copy, home_after_copy, buffer_bytes}
use Rattle.tss_protocol.specs.Buffers.{copies_after_copy, is_last_piece}
use Rattle.tss_protocol.specs.Versions.{after_retire}
use Rattle.tss_protocol.specs.Names.{bank_of}
use Rattle.tss_protocol.specs.UnitMachine.{after_event, after_exec, with_entries, idle_message_taken, retire_version}
use Rattle.tss_protocol.specs.UnitMachine.{after_copy, gone_message_taken, without, with_sent}
use Rattle.tss_phases.specs.Phase.{look_ups, phase_at, phase_of}

module _ (m : Machine) (S : State) where
  -- ack
  pub look_ups-ack : (o q : OpName) → look_ups (after_event m S (event.Ack o)) q ≡ look_ups S q
  unfolding after_event
  look_ups-ack o q = refl

  executed : (w : ℕ) (b : Option Busy) (q : OpName) → look_ups (after_exec m S w b) q ≡ look_ups S q
  executed w None q = refl
  executed w (Some b) q = refl

  -- exec
  pub look_ups-exec : (w : ℕ) (q : OpName) → look_ups (after_event m S (event.Exec w)) q ≡ look_ups S q
  unfolding after_event
  look_ups-exec w q = executed w (get S.workers w) q

  answered : (T : State) (v : OpName) (base : ℕ) (entry : Option Entry) (b : Bool) (q : OpName)
      → look_ups (with_entries T (idle_by T.entries v base entry b)) q ≡ look_ups T q
  answered T v base entry true q = refl
  answered T v base entry false q = refl

  asked : (T : State) (v : OpName) (i : Option IdleContents) (q : OpName)
      → look_ups (idle_message_taken T v i) q ≡ look_ups T q
  asked T v None q = refl
  asked T v (Some i) q =
      answered T v i.base (get T.entries i.base) (may_retire v i.count (get T.entries i.base)) q

  -- idle
  pub look_ups-idle : (v q : OpName) → look_ups (after_event m S (event.Idle v)) q ≡ look_ups S q
  unfolding after_event
  look_ups-idle v q = asked (without S (event.Idle v)) v (get S.mail.idles v) q

  left_storage : (T : State) (v : OpName) (x : Version) (s : Option StorageName) (q : OpName)
      → look_ups (with_sent (record T {
        versions = after_retire T.versions v;
        copies = copies_after_retire T.copies (bank_of m.sizes x.object) v x.object s;
      }) (sent_by_retire v x.object s)) q ≡ look_ups T q
  left_storage T v x None q = refl
  left_storage T v x (Some Home) q = refl
  left_storage T v x (Some (Buffer n)) q = refl

  retired : (T : State) (v : OpName) (x : Option Version) (q : OpName)
      → look_ups (retire_version m T v x) q ≡ look_ups T q
  retired T v None q = refl
  retired T v (Some x) q = left_storage T v x x.storage q

  -- retire
  pub look_ups-retire : (v q : OpName) → look_ups (after_event m S (event.Retire v)) q ≡ look_ups S q
  unfolding after_event
  look_ups-retire v q = retired (without S (event.Retire v)) v (get S.versions v) q

  moved : (T : State) (c : CopyState) (b : Bool) (q : OpName)
      → look_ups (with_sent T (sent_by_copy c b)) q ≡ look_ups T q
  moved T c true q = refl
  moved T c false q = refl

  copied : (b : ℕ) (c : Option CopyState) (q : OpName) → look_ups (after_copy S b c) q ≡ look_ups S q
  copied b None q = refl
  copied b (Some c) q =
      moved (record S {
        home = home_after_copy S.home c (buffer_bytes S.contents c.buffer);
        copies = copies_after_copy S.copies b c (is_last_piece c);
      }) c (is_last_piece c) q

  -- copy
  pub look_ups-copy : (b : ℕ) (q : OpName) → look_ups (after_event m S (event.Copy b)) q ≡ look_ups S q
  unfolding after_event
  look_ups-copy b q = copied b (get S.copies b) q

  freed : (T : State) (v : OpName) (g : Option GoneContents) (q : OpName)
      → look_ups (gone_message_taken T v g) q ≡ look_ups T q
  freed T v None q = refl
  freed T v (Some g) q = refl

  -- gone
  pub look_ups-gone : (v q : OpName) → look_ups (after_event m S (event.Gone v)) q ≡ look_ups S q
  unfolding after_event
  look_ups-gone v q = freed (without S (event.Gone v)) v (get S.mail.gones v) q

  -- no phase is changed by an ack
  pub phase_of-ack : (o q : OpName) → phase_of (after_event m S (event.Ack o)) q ≡ phase_of S q
  phase_of-ack o q = ap phase_at (look_ups-ack o q)

  -- nor by a stretch of a worker
  pub phase_of-exec : (w : ℕ) (q : OpName) → phase_of (after_event m S (event.Exec w)) q ≡ phase_of S q
  phase_of-exec w q = ap phase_at (look_ups-exec w q)

  -- nor by an idle
  pub phase_of-idle : (v q : OpName) → phase_of (after_event m S (event.Idle v)) q ≡ phase_of S q
  phase_of-idle v q = ap phase_at (look_ups-idle v q)

  -- nor by a retire
  pub phase_of-retire : (v q : OpName) → phase_of (after_event m S (event.Retire v)) q ≡ phase_of S q
  phase_of-retire v q = ap phase_at (look_ups-retire v q)

  -- nor by a piece that is copied
  pub phase_of-copy : (b : ℕ) (q : OpName) → phase_of (after_event m S (event.Copy b)) q ≡ phase_of S q
  phase_of-copy b q = ap phase_at (look_ups-copy b q)

  -- nor by a gone
  pub phase_of-gone : (v q : OpName) → phase_of (after_event m S (event.Gone v)) q ≡ phase_of S q
  phase_of-gone v q = ap phase_at (look_ups-gone v q)
