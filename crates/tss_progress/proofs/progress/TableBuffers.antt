-- Events of the front and of stations, and decodes, leave each held buffer a holder.
use Rattle.std.proofs.Common.{◌≡◌, ℕ, Bool, true, false, List, [], ◌∷◌, Option, Some, None, refl, sym, ap, ◌∙◌, inl}
use Rattle.std.proofs.Common.{inr}
use Rattle.std.specs.FinMap.{get, insert}
use Rattle.std.proofs.lemmas.Option.{none-some}
use Rattle.tss_base.specs.declared.operand.OpName.{OpName}
use Rattle.tss_base.specs.declared.operand.Mode.{Mode}
use Rattle.tss_base.specs.declared.operand.Mode.TheVariants.{Input, Output, Inout}
use Rattle.tss_base.specs.declared.operand.Operand.{Operand}
use Rattle.tss_base.specs.declared.operand.Task.{Task}
use Rattle.tss_base.specs.declared.machine.Machine.{Machine}
use Rattle.tss_base.specs.declared.event.Event.TheVariants as event
use Rattle.tss_maps.proofs.Keys.{name_order}
use Rattle.tss_maps.proofs.Changes.{at_inserted, beside_inserted, from_inserted}
use Rattle.tss_model.specs.Access.{operands_of}
use Rattle.tss_model.specs.MainStep.{MainState, Call, main_call}
use Rattle.tss_protocol.specs.Names.{bank_of}
use Rattle.tss_protocol.specs.Mail.{Buffer, Source, OpenContents, IdleContents, Message, Mail, posted, posted_all}
use Rattle.tss_protocol.specs.Mail.{taken}
use Rattle.tss_protocol.specs.State.{State, Flying, Busy, Entry}
use Rattle.tss_protocol.specs.Renaming.{takes_buffer, buffers_after_decode, live_message, decode_message, may_retire}
use Rattle.tss_protocol.specs.Renaming.{idle_by}
use Rattle.tss_protocol.specs.MainEvent.{main_by, after_call}
use Rattle.tss_protocol.specs.UnitMachine.{without, after_take, decode_message_taken, ready_message_taken}
use Rattle.tss_protocol.specs.UnitMachine.{link_message_taken, after_start, start_task, after_exec, after_finish}
use Rattle.tss_protocol.specs.UnitMachine.{bye_message_taken, idle_message_taken}
use Rattle.tss_protocol.proofs.SentLemmas.{after_ready-all, after_link-all, flight_after_finish-all}
use Rattle.tss_names.proofs.HeldEvents.{HoldsNothing, decodes_nothing}
use Rattle.tss_progress.proofs.progress.Drained.{HaveHolders}
use Rattle.tss_progress.proofs.progress.Holders.{Holder, Held, sent_nothing}
use Rattle.tss_control.proofs.rounds.Facts.{Facts}

module _ (m : Machine) (S : State) (facts : Facts m S) (h : HaveHolders S) where
  open facts use {ground}

  -- of a state
  abbrev Keeps : State → Type 0
  Keeps T = HaveHolders T

  -- ---- events that leave the holders

  buffers_call : (d : MainState × Option Task) → Keeps (after_call S d)
  buffers_call (main, None) = h
  buffers_call (main, Some t) = h

  -- main leaves each held buffer a holder
  pub buffers_main : (c : Option Call) → Keeps (main_by m S c)
  buffers_main None = h
  buffers_main (Some call) = buffers_call (main_call m.limits S.home S.main call)

  -- take leaves each held buffer a holder
  pub buffers_take : (t : Option Task) → Keeps (after_take S t)
  buffers_take None = h
  buffers_take (Some t) = λ n bank e.
      sent_nothing S.copies S.versions n S.mail _ (decodes_nothing t.number 0 (operands_of t)) (h n bank e)

  -- ready leaves each held buffer a holder
  pub buffers_ready : (o : OpName) (c : Option Source) → Keeps (ready_message_taken (without S (event.Ready o)) o c)
  buffers_ready o None = h
  buffers_ready o (Some source) = λ n bank e.
      sent_nothing S.copies S.versions n (taken S.mail (event.Ready o)) _
      (after_ready-all HoldsNothing (λ o source. tt) (λ o r. tt) S.flight o source) (h n bank e)

  -- link leaves each held buffer a holder
  pub buffers_link : (o : OpName) (next : Option OpName) → Keeps (link_message_taken (without S (event.Link o)) o next)
  buffers_link o None = h
  buffers_link o (Some next) = λ n bank e.
      sent_nothing S.copies S.versions n (taken S.mail (event.Link o)) _
      (after_link-all HoldsNothing (λ o source. tt) (λ o r. tt) S.flight o next) (h n bank e)

  -- bye leaves each held buffer a holder
  pub buffers_bye : (o : OpName) (c : Option Bool) → Keeps (bye_message_taken (without S (event.Bye o)) o c)
  buffers_bye o None = h
  buffers_bye o (Some promised) = h

  buffers_start_task : (w t : ℕ) (us : List ℕ) (x : Option Flying) → Keeps (start_task m S w t us x)
  buffers_start_task w t us None = h
  buffers_start_task w t us (Some x) = h

  -- start leaves each held buffer a holder
  pub buffers_start : (w : ℕ) (queue : List ℕ) → Keeps (after_start m S w queue)
  buffers_start w [] = h
  buffers_start w (t ∷ us) = buffers_start_task w t us (get S.flight t)

  -- exec leaves each held buffer a holder
  pub buffers_exec : (w : ℕ) (b : Option Busy) → Keeps (after_exec m S w b)
  buffers_exec w None = h
  buffers_exec w (Some b) = h

  -- finish leaves each held buffer a holder
  pub buffers_finish : (w : ℕ) (b : Option Busy) → Keeps (after_finish S w b)
  buffers_finish w None = h
  buffers_finish w (Some b) = λ n bank e.
      sent_nothing S.copies S.versions n S.mail _
      (flight_after_finish-all HoldsNothing (λ o source. tt) (λ o r. tt) S.flight b.task.number) (h n bank e)

  abbrev idle_sent : OpName → IdleContents → Bool → Mail
  idle_sent v i may =
      posted_all (taken S.mail (event.Idle v)) (idle_by S.entries v i.base (get S.entries i.base) may).sent

  buffers_idle_by : (v : OpName) (i : IdleContents) (may : Bool) (n : OpName) (bank : ℕ) → get S.buffers n ≡ Some bank
      → Holder (idle_sent v i may).opens S.versions (idle_sent v i may).gones S.copies n
  buffers_idle_by v i true = h
  buffers_idle_by v i false = h

  -- idle leaves each held buffer a holder
  pub buffers_idle : (v : OpName) (c : Option IdleContents) → Keeps (idle_message_taken (without S (event.Idle v)) v c)
  buffers_idle v None = h
  buffers_idle v (Some i) = buffers_idle_by v i (may_retire v i.count (get S.entries i.base))

  -- ---- decode

  module _ (o : OpName) (operand : Operand) (there : get S.mail.decodes o ≡ Some operand) where
    no_open : (c : OpenContents) → get S.mail.opens o ≡ Some c → ⊥
    no_open c e = none-some operand (sym (ground.openings.opens o c e).no_decode ∙ there)

    -- with one more open
    opens_more : (c : OpenContents) (n : OpName) → Holder S.mail.opens S.versions S.mail.gones S.copies n
        → Holder (insert S.mail.opens o c) S.versions S.mail.gones S.copies n
    opens_more c n (inr rest) = inr rest
    opens_more c n (inl d) =
        inl (
          d.0,
          d.1,
          beside_inserted name_order S.mail.opens o c d.0
              (λ same. no_open d.1 (ap (get S.mail.opens) (sym same) ∙ d.2)) ∙ d.2,
          d.3,
        )

    opens_held : (c : OpenContents) → Held S.buffers (insert S.mail.opens o c) S.versions S.mail.gones S.copies
    opens_held c n bank e = opens_more c n (h n bank e)

    -- with a buffer of its own
    opens_buffer : (c : OpenContents) (b : ℕ) → c.storage ≡ Some (Buffer o)
        → Held (insert S.buffers o b) (insert S.mail.opens o c) S.versions S.mail.gones S.copies
    opens_buffer c b own n bank e = elim (from_inserted name_order S.buffers o b n bank e) [
      | inl new ↦
          inl (o, c, at_inserted name_order S.mail.opens o c, own ∙ ap (λ (n : OpName). Some (Buffer n)) (sym new.0))
      | inr old ↦ opens_more c n (h n bank old.1)
    ]

    abbrev With : Option Entry → Mode → Message → Type 0
    With entry mode x =
        Held (buffers_after_decode S.buffers o (bank_of m.sizes operand.object) (takes_buffer entry mode))
        (posted (taken S.mail (event.Decode o)) x).opens S.versions
        (posted (taken S.mail (event.Decode o)) x).gones S.copies

    buffers_live : (e : Entry) (mode : Mode) → With (Some e) mode (live_message o operand e mode)
    buffers_live e Input = h
    buffers_live e Output = opens_buffer _ (bank_of m.sizes operand.object) refl
    buffers_live e Inout = opens_held _

    buffers_decoded : (entry : Option Entry) → With entry operand.mode (decode_message o operand entry)
    buffers_decoded None = opens_held _
    buffers_decoded (Some e) = buffers_live e operand.mode

  -- decode leaves each held buffer a holder
  pub buffers_decode : (o : OpName) (c : Option Operand) → get S.mail.decodes o ≡ c
      → Keeps (decode_message_taken m (without S (event.Decode o)) o c)
  buffers_decode o None e = h
  buffers_decode o (Some operand) e = buffers_decoded o operand e (get S.entries operand.object.base)
