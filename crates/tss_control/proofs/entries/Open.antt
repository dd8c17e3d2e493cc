-- An open keeps the entries: its version is registered, and the one that it follows is settled.
use Rattle.std.proofs.Common.{◌≡◌, inl, inr, true, List, [], ◌++◌, Option, Some, None, refl, sym, ap, ◌∙◌, subst}
use Rattle.std.specs.Prelude.{is_some}
use Rattle.std.specs.FinMap.{get}
use Rattle.std.proofs.lemmas.Option.{none-some}
use Rattle.tss_base.specs.declared.operand.OpName.{OpName}
use Rattle.tss_base.specs.declared.machine.Machine.{Machine}
use Rattle.tss_base.specs.declared.event.Event.TheVariants as event
use Rattle.tss_base.specs.declared.marks.How.{How}
use Rattle.tss_base.specs.declared.marks.How.TheVariants.{Beside, Over}
use Rattle.tss_base.specs.declared.marks.Follow.{Follow}
use Rattle.tss_maps.proofs.Changes.{decide_get}
use Rattle.tss_protocol.specs.Mail.{OpenContents, Message, Mail, posted_all, taken}
use Rattle.tss_protocol.specs.State.{State, Version}
use Rattle.tss_protocol.specs.Versions.{ready_with, first_version, settled, sending, opened_first, opened_how}
use Rattle.tss_protocol.specs.Versions.{opened_by, is_followable}
use Rattle.tss_protocol.specs.UnitMachine.{IsEnabled, is_enabled, after_event, without, with_versioned}
use Rattle.tss_protocol.specs.UnitMachine.{can_open_message, open_message_taken}
use Rattle.tss_phases.specs.Phase.{phase_of, is_decoded}
use Rattle.tss_phases.specs.Orderly.{AreOrderly}
use Rattle.tss_phases.proofs.Tests.{something}
use Rattle.tss_control.specs.Chains.{HasChains}
use Rattle.tss_control.specs.Entries.{HasEntries, HasRetirement}
use Rattle.tss_protocol.proofs.SentLemmas.{AllSent, AllSent-append}
use Rattle.tss_protocol.proofs.SettleCases.{OthersSettled}
use Rattle.tss_control.proofs.chains.Registered.{Registers}
use Rattle.tss_control.proofs.chains.Opened.{HasChains-registered}
use Rattle.tss_control.proofs.chains.Open.{following, others_followed, registers_first, registered_state}
use Rattle.tss_control.proofs.chains.Open.{registers_behind, front_apart}
use Rattle.tss_control.proofs.rounds.EntriesFrames.{DecodesNoMore}
use Rattle.tss_control.proofs.entries.Decoded.{later_decodes_none}
use Rattle.tss_control.proofs.entries.Registered.{entries_registered, opened_decoded}
use Rattle.tss_control.proofs.rounds.EntriesQuiet.{mail_posted_all}
use Rattle.tss_control.proofs.entries.Use.{ready_quiet}
use Rattle.tss_control.proofs.entries.SettleCases.{IsOfSettle, KeepsSettled, posted_all_settled, ready_of_settle}
use Rattle.tss_control.proofs.entries.SettleCases.{settles_with}
use Rattle.tss_control.proofs.entries.RetirementWritten.{AfterSettle, entries_then, retirement_then}
use Rattle.tss_control.proofs.entries.RetirementOpen.{nacks_ready, quiet_first, retires_added, sound_opened}
use Rattle.tss_control.proofs.rounds.Facts.{Facts}

module _ (m : Machine) (S : State) (facts : Facts m S) (o : OpName) (c : OpenContents)
    (opening : get S.mail.opens o ≡ Some c) where
  open facts use {all, ts, ground, control as h}

  abbrev T : State
  T = after_event m S (event.Open o)

  no_retire : get S.mail.retires o ≡ None
  no_retire = elim (decide_get S.mail.retires o) [
    | inl none ↦ none
    | inr may ↦
        let a = (ground.asking.retires o (may.1 ∙ ap Some (unit may.0))).1 in
        absurd (none-some a.0 (sym (ground.openings.opens o c opening).no_version ∙ a.1))
  ]
    where
      unit : (u : Unit {0}) → u ≡ tt
      unit tt = refl

  event_decodes_none : AreOrderly T → DecodesNoMore ts S T
  event_decodes_none after q p among d = later_decodes_none m all S h.orderly (event.Open o) refl after q d

  open_state : T ≡ with_versioned (without S (event.Open o)) (opened_by S.versions o c c.follows)
  unfolding after_event
  open_state = ap (open_message_taken (without S (event.Open o)) o) opening

  -- ---- it follows nothing

  module _ (to : c.follows ≡ None) where
    abbrev first : Version
    first = first_version o c.operand.object c.storage c.operand.mode

    first_state : T ≡ with_versioned (without S (event.Open o)) (opened_first S.versions o c)
    first_state = open_state ∙ ap (λ f. with_versioned (without S (event.Open o)) (opened_by S.versions o c f)) to

    abbrev left : Mail
    left = taken S.mail (event.Open o)

    open_first : AreOrderly T → HasEntries ts T × HasRetirement T
    open_first after =
        let q = mail_posted_all left (ready_with o o c.storage) (ready_quiet o o c.storage) in
        let mail : T.mail ≡ posted_all left (ready_with o o c.storage) = λ i. (first_state i).mail in
        let registers : Registers S T o c first =
        registers_first m S facts o c opening T to (λ i. (first_state i).versions)
        (ap (λ (m : Mail). m.opens) mail ∙ q.opens) (ap (λ (m : Mail). m.uses) mail ∙ q.uses) in
        let quiet = quiet_first o c c.operand.mode in (
          entries_registered ts S T h.chains h.entries o c first registers
              (record {
                copies = λ i. (first_state i).copies;
                retires = ap (λ (m : Mail). m.retires) mail ∙ q.retires;
                gones = ap (λ (m : Mail). m.gones) mail ∙ q.gones;
                entries = λ i. (first_state i).entries;
              })
              no_retire (event_decodes_none after),
          retires_added S T h.retirement o first (λ i. (first_state i).versions) quiet.0 quiet.1 quiet.2
              (λ i. (first_state i).entries) (ap (λ (m : Mail). m.nacks) mail ∙ nacks_ready left o o c.storage),
        )

  -- ---- it follows another

  module _ (f : Follow) (to : c.follows ≡ Some f) (u : Version) (at : get S.versions f.version ≡ Some u) where
    -- the state before that is settled
    abbrev U : State
    U = registered_state m S facts o c opening f to u at

    registers : Registers S U o c (following c f)
    registers = registers_behind m S facts o c opening f to u at

    u_chains : HasChains ts U
    u_chains = HasChains-registered ts S U h.chains o c (following c f) registers

    same_decoded : (q : OpName) → is_decoded (phase_of U q) ≡ is_decoded (phase_of S q)
    same_decoded = opened_decoded S h.orderly o c opening U.versions

    u_entries : HasEntries ts U
    u_entries =
        entries_registered ts S U h.chains h.entries o c (following c f) registers
        (record { copies = refl; retires = refl; gones = refl; entries = refl }) no_retire
        (λ q p among e. sym (same_decoded q) ∙ e)

    others : OthersSettled U.versions f.version
    others =
        others_followed S.versions o c f (front_apart m S facts o c opening f to u at)
        (λ q y e. h.retirement.settled q y e)

    u_decodes_none : AreOrderly T → DecodesNoMore ts U T
    u_decodes_none after q p among e = same_decoded q ∙ event_decodes_none after q p among e

    behind : (after : AreOrderly T) (ms : List Message) → AllSent (IsOfSettle f.version) ms
        → T ≡ with_versioned (without S (event.Open o)) (sending ms (settled U.versions f.version))
        → HasEntries ts T × HasRetirement T
    behind after ms news is =
        let d = settled U.versions f.version in
        let w = settles_with ts U u_chains f.version others in
        let kept : KeepsSettled f.version U.mail T.mail =
        subst (KeepsSettled f.version U.mail) (sym (λ i. (is i).mail))
        (posted_all_settled f.version U.mail (ms ++ d.sent)
        (AllSent-append (IsOfSettle f.version) ms d.sent news w.sent)) in
        let settles : AfterSettle ts U T f.version =
        record {
          versions = λ i. (is i).versions;
          copies = λ i. (is i).copies;
          entries = λ i. (is i).entries;
          mail = kept;
          stays = (ground.places.versions f.version u at).2;
          decoded = u_decodes_none after;
        } in (
          entries_then ts U T f.version settles u_chains others u_entries,
          retirement_then ts U T f.version settles u_chains others
              (sound_opened m S facts o c opening f to u at),
        )

    how_state : T ≡ with_versioned (without S (event.Open o)) (opened_how S.versions o c f f.how)
    how_state = open_state ∙ ap (λ f. with_versioned (without S (event.Open o)) (opened_by S.versions o c f)) to

    by_how : AreOrderly T → (how : How) → f.how ≡ how → HasEntries ts T × HasRetirement T
    by_how after Beside is =
        behind after (ready_with o o c.storage) (ready_of_settle f.version o o c.storage)
        (how_state ∙ ap (λ how. with_versioned (without S (event.Open o)) (opened_how S.versions o c f how)) is)
    by_how after Over is =
        behind after [] tt
        (how_state ∙ ap (λ how. with_versioned (without S (event.Open o)) (opened_how S.versions o c f how)) is)

  by_follow : AreOrderly T → (f : Option Follow) → c.follows ≡ f → is_followable S.versions f ≡ true
      → HasEntries ts T × HasRetirement T
  by_follow after None to on = open_first to after
  by_follow after (Some f) to on =
      let u = something is_some (get S.versions f.version) refl on in
      by_how f to u.0 u.1 after f.how refl

module _ (m : Machine) (S : State) (facts : Facts m S) (o : OpName) where
  open facts use {ts}

  -- entries after an open
  pub HasEntries-open : IsEnabled m S (event.Open o) → AreOrderly (after_event m S (event.Open o))
      → HasEntries ts (after_event m S (event.Open o))
  unfolding is_enabled
  HasEntries-open on after =
      let c = something (can_open_message S) (get S.mail.opens o) refl on in
      (by_follow m S facts o c.0 c.1 after c.0.follows refl (sym (ap (can_open_message S) c.1) ∙ on)).0

  -- asking and refusing after an open
  pub HasRetirement-open : IsEnabled m S (event.Open o) → AreOrderly (after_event m S (event.Open o))
      → HasRetirement (after_event m S (event.Open o))
  unfolding is_enabled
  HasRetirement-open on after =
      let c = something (can_open_message S) (get S.mail.opens o) refl on in
      (by_follow m S facts o c.0 c.1 after c.0.follows refl (sym (ap (can_open_message S) c.1) ∙ on)).1
