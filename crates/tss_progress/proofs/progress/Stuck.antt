-- A state in which no event is enabled: no message is under way but decodes, and nothing is queued, runs or is copied.
use Rattle.std.proofs.Common.{◌≡◌, ℕ, zero, suc, ◌<◌, Bool, true, false, List, [], ◌∷◌, Option, Some, None, refl, sym}
use Rattle.std.proofs.Common.{ap, ◌∙◌, inl, inr, arith, true≢false}
use Rattle.std.specs.Prelude.{not, is_some, is_none, nat_lt}
use Rattle.std.specs.FinMap.{get}
use Rattle.std.proofs.lemmas.Bool.{and_from, lt-ltb}
use Rattle.std.proofs.lemmas.Option.{none-some}
use Rattle.tss_base.specs.declared.operand.OpName.{OpName}
use Rattle.tss_base.specs.declared.machine.Key.TheVariants.{Workers}
use Rattle.tss_base.specs.declared.machine.Machine.{Machine}
use Rattle.tss_base.specs.declared.event.Event.{Event}
use Rattle.tss_base.specs.declared.event.Event.TheVariants as event
use Rattle.tss_base.specs.declared.marks.Follow.{Follow}
use Rattle.tss_base.specs.Machine.{IsAdmissible}
use Rattle.tss_protocol.specs.Names.{bank_of}
use Rattle.tss_protocol.specs.Mail.{StorageName, Home, Buffer, OpenContents}
use Rattle.tss_protocol.specs.State.{State, Busy, Version}
use Rattle.tss_protocol.specs.Versions.{is_followable}
use Rattle.tss_protocol.specs.Buffers.{can_retire_from}
use Rattle.tss_protocol.specs.Workers.{can_start, can_exec, can_finish, has_ended}
use Rattle.tss_protocol.specs.UnitMachine.{is_enabled, can_open_message, can_use_message, can_retire}
use Rattle.tss_control.specs.Chains.{OpensAfter}
use Rattle.tss_progress.proofs.progress.CalmStates.{IsCalm}
use Rattle.tss_progress.proofs.progress.Choice.{IsStuck}
use Rattle.tss_control.proofs.rounds.Facts.{Facts}

-- ---- stuck

-- no message is under way but decodes, and nothing is copied, runs or is queued
pub record IsQuiet (S : State) : Type 0 where
  pub acks : (o : OpName) → get S.mail.acks o ≡ None
  pub opens : (o : OpName) → get S.mail.opens o ≡ None
  pub uses : (o : OpName) → get S.mail.uses o ≡ None
  pub readies : (o : OpName) → get S.mail.readies o ≡ None
  pub links : (o : OpName) → get S.mail.links o ≡ None
  pub releases : (o : OpName) → get S.mail.releases o ≡ None
  pub byes : (o : OpName) → get S.mail.byes o ≡ None
  pub idles : (v : OpName) → get S.mail.idles v ≡ None
  pub nacks : (v : OpName) → get S.mail.nacks v ≡ None
  pub retires : (v : OpName) → get S.mail.retires v ≡ None
  pub gones : (v : OpName) → get S.mail.gones v ≡ None
  pub copies : (b : ℕ) → get S.copies b ≡ None
  pub workers : (w : ℕ) → get S.workers w ≡ None
  pub queue : S.queue ≡ []

-- so it is calm
pub calm_of : (S : State) → IsQuiet S → IsCalm S
calm_of S quiet = record {
  opens = quiet.opens;
  uses = quiet.uses;
  readies = quiet.readies;
  links = quiet.links;
  releases = quiet.releases;
  byes = quiet.byes;
  idles = quiet.idles;
  nacks = quiet.nacks;
  retires = quiet.retires;
}

-- ---- messages that are enabled wherever they are

-- nothing is there where a test finds nothing
none_unless : {X : Type 0} (o : Option X) → is_some o ≡ false → o ≡ None
none_unless None e = refl
none_unless (Some x) e = absurd (true≢false e)

module _ (m : Machine) (S : State) (stuck : IsStuck m S) where
  -- an event that may happen
  cannot : (e : Event) → is_enabled m S e ≡ true → ⊥
  cannot e on = true≢false (sym on ∙ stuck e)

  no_acks : (o : OpName) → get S.mail.acks o ≡ None
  unfolding is_enabled
  no_acks o = none_unless (get S.mail.acks o) (stuck (event.Ack o))

  no_readies : (o : OpName) → get S.mail.readies o ≡ None
  unfolding is_enabled
  no_readies o = none_unless (get S.mail.readies o) (stuck (event.Ready o))

  no_links : (o : OpName) → get S.mail.links o ≡ None
  unfolding is_enabled
  no_links o = none_unless (get S.mail.links o) (stuck (event.Link o))

  no_releases : (o : OpName) → get S.mail.releases o ≡ None
  unfolding is_enabled
  no_releases o = none_unless (get S.mail.releases o) (stuck (event.Release o))

  no_byes : (o : OpName) → get S.mail.byes o ≡ None
  unfolding is_enabled
  no_byes o = none_unless (get S.mail.byes o) (stuck (event.Bye o))

  no_idles : (v : OpName) → get S.mail.idles v ≡ None
  unfolding is_enabled
  no_idles v = none_unless (get S.mail.idles v) (stuck (event.Idle v))

  no_nacks : (v : OpName) → get S.mail.nacks v ≡ None
  unfolding is_enabled
  no_nacks v = none_unless (get S.mail.nacks v) (stuck (event.Nack v))

  no_gones : (v : OpName) → get S.mail.gones v ≡ None
  unfolding is_enabled
  no_gones v = none_unless (get S.mail.gones v) (stuck (event.Gone v))

  no_copies : (b : ℕ) → get S.copies b ≡ None
  unfolding is_enabled
  no_copies b = none_unless (get S.copies b) (stuck (event.Copy b))

  -- ---- workers and the queue

  -- a busy worker's task has ended, or goes on
  not_busy : (w : ℕ) (b : Busy) → get S.workers w ≡ Some b → (t : Bool) → has_ended b ≡ t → ⊥
  unfolding is_enabled
  not_busy w b there true ended = cannot (event.Finish w) (ap can_finish there ∙ ended)
  not_busy w b there false on = cannot (event.Exec w) (ap can_exec there ∙ ap not on)

  no_workers : (w : ℕ) → get S.workers w ≡ None
  no_workers w = by (get S.workers w) refl
    where
      by : (b : Option Busy) → get S.workers w ≡ b → get S.workers w ≡ None
      by None e = e
      by (Some b) e = absurd (not_busy w b e (has_ended b) refl)

  no_queue : IsAdmissible m → S.queue ≡ []
  unfolding is_enabled
  no_queue fit = by S.queue refl
    where
      by : (ts : List ℕ) → S.queue ≡ ts → S.queue ≡ []
      by [] e = e
      by (t ∷ ts) e =
          let some = (fit.sizes Workers m.sizes.workers refl).0 in
          let first = lt-ltb 0 m.sizes.workers (omega (arith, some)) in
          absurd (cannot (event.Start 0)
          (ap (can_start m.sizes.workers 0 (get S.workers 0)) e
          ∙ and_from (nat_lt 0 m.sizes.workers) (is_none (get S.workers 0)) first (ap is_none (no_workers 0))))

-- ---- opens, uses and retires

module _ (m : Machine) (S : State) (facts : Facts m S) (stuck : IsStuck m S) where
  open facts use {ts, ground, control}

  -- a version that is registered is found
  found_version : (v : OpName) (y : Version) → get S.versions v ≡ Some y → is_some (get S.versions v) ≡ true
  found_version v y e = ap is_some e

  opens_after : (o : OpName) (c : OpenContents) (f : Follow) → get S.mail.opens o ≡ Some c → c.follows ≡ Some f
      → OpensAfter ts S o c f → ((q : OpName) → q.task < o.task → get S.mail.opens q ≡ None) → ⊥
  unfolding is_enabled
  opens_after o c f there follows after before = elim after.member [
    | inl version ↦
        cannot m S stuck (event.Open o) (ap (can_open_message S) there ∙ ap (is_followable S.versions) follows
        ∙ found_version f.version version.0 version.1)
    | inr opening ↦ none-some opening.0 (sym (before f.version after.older) ∙ opening.1)
  ]

  open_by : (o : OpName) (c : OpenContents) → get S.mail.opens o ≡ Some c
      → ((q : OpName) → q.task < o.task → get S.mail.opens q ≡ None)
      → (follows : Option Follow) → c.follows ≡ follows → ⊥
  unfolding is_enabled
  open_by o c there before None follows =
      cannot m S stuck (event.Open o) (ap (can_open_message S) there ∙ ap (is_followable S.versions) follows)
  open_by o c there before (Some f) follows =
      opens_after o c f there follows ((control.chains.opens o c there).after f follows) before

  open_step : (o : OpName) → ((q : OpName) → q.task < o.task → get S.mail.opens q ≡ None)
      → (c : Option OpenContents) → get S.mail.opens o ≡ c → get S.mail.opens o ≡ None
  open_step o before None e = e
  open_step o before (Some c) e = absurd (open_by o c e before c.follows refl)

  -- the opens of earlier tasks come first
  no_opens_below : (n : ℕ) (o : OpName) → o.task < n → get S.mail.opens o ≡ None
  no_opens_below zero o h = absurd (omega (arith, h))
  no_opens_below (suc n) o h =
      open_step o (λ q lower. no_opens_below n q (omega (arith, h, lower))) (get S.mail.opens o) refl

  no_opens : (o : OpName) → get S.mail.opens o ≡ None
  no_opens o = no_opens_below (suc (o.task)) o (omega arith)

  no_use : (o v : OpName) → get S.mail.uses o ≡ Some v → ⊥
  unfolding is_enabled
  no_use o v there =
      let sent = control.chains.uses o v there in
      elim sent.member [
        | inl version ↦
            cannot m S stuck (event.Use o) (ap (can_use_message S) there ∙ found_version v version.0 version.1)
        | inr opening ↦ none-some opening.0 (sym (no_opens v) ∙ opening.1)
      ]

  no_uses : (o : OpName) → get S.mail.uses o ≡ None
  no_uses o = by (get S.mail.uses o) refl
    where
      by : (v : Option OpName) → get S.mail.uses o ≡ v → get S.mail.uses o ≡ None
      by None e = e
      by (Some v) e = absurd (no_use o v e)

  -- a version that may retire lies at home, or in a buffer, and its bank copies nothing
  retires_from : (v : OpName) (y : Version) (count : ℕ) → get S.versions v ≡ Some y → y.asked ≡ Some count
      → (s : Option StorageName) → y.storage ≡ s
      → can_retire_from s (get S.copies (bank_of m.sizes y.object)) ≡ true
  retires_from v y count there asked None e =
      let over = (control.chains.storages v y there).over.0 e in
      let oldest = (control.retirement.asked v y count there asked).oldest in
      absurd (none-some over.0 (sym oldest ∙ over.3))
  retires_from v y count there asked (Some Home) e = refl
  retires_from v y count there asked (Some (Buffer n)) e =
      ap is_none (no_copies m S stuck (bank_of m.sizes y.object))

  no_retire : (v : OpName) → get S.mail.retires v ≡ Some tt → ⊥
  unfolding is_enabled
  no_retire v there =
      let asks = ground.asking.retires v there in
      let y = asks.1.0 in
      let may = retires_from v y asks.0 asks.1.1 asks.1.2 y.storage refl in
      cannot m S stuck (event.Retire v)
      (and_from (is_some (get S.mail.retires v)) (can_retire m S (get S.versions v)) (ap is_some there)
      (ap (can_retire m S) asks.1.1 ∙ may))

  no_retires : (v : OpName) → get S.mail.retires v ≡ None
  no_retires v = by (get S.mail.retires v) refl
    where
      by : (u : Option (Unit {0})) → get S.mail.retires v ≡ u → get S.mail.retires v ≡ None
      by None e = e
      by (Some tt) e = absurd (no_retire v e)

  -- so the state is quiet
  pub quiet_when_stuck : IsAdmissible m → IsQuiet S
  quiet_when_stuck fit = record {
    acks = no_acks m S stuck;
    opens = no_opens;
    uses = no_uses;
    readies = no_readies m S stuck;
    links = no_links m S stuck;
    releases = no_releases m S stuck;
    byes = no_byes m S stuck;
    idles = no_idles m S stuck;
    nacks = no_nacks m S stuck;
    retires = no_retires;
    gones = no_gones m S stuck;
    copies = no_copies m S stuck;
    workers = no_workers m S stuck;
    queue = no_queue m S stuck fit;
  }
