-- The bytes in the storages of versions after an open: a version that follows nothing finds its value at home.
use Rattle.std.proofs.Common.{◌≡◌, true, false, Option, Some, None, refl, sym, ap, ◌∙◌, subst, inl, inr, true≢false}
use Rattle.std.specs.Prelude.{cond, is_some}
use Rattle.std.specs.FinMap.{get}
use Rattle.std.proofs.lemmas.Option.{none-some, same_Some}
use Rattle.tss_base.specs.declared.operand.OpName.{OpName}
use Rattle.tss_base.specs.declared.operand.Mode.{Mode}
use Rattle.tss_base.specs.declared.operand.Mode.TheVariants.{Input, Output, Inout}
use Rattle.tss_base.specs.declared.operand.Operand.{Operand}
use Rattle.tss_base.specs.declared.machine.Machine.{Machine}
use Rattle.tss_base.specs.declared.event.Event.TheVariants as event
use Rattle.tss_base.specs.declared.marks.Follow.{Follow}
use Rattle.tss_base.specs.Image.{ImageState}
use Rattle.tss_maps.proofs.Keys.{name_order}
use Rattle.tss_maps.proofs.Changes.{from_inserted}
use Rattle.tss_model.specs.Access.{writes}
use Rattle.tss_model.specs.Memory.{bytes_of}
use Rattle.tss_model.specs.InOrder.{Started, end_of_started}
use Rattle.tss_protocol.specs.Mail.{Home, OpenContents}
use Rattle.tss_protocol.specs.State.{State, Version}
use Rattle.tss_protocol.specs.Versions.{first_version, opened_by, is_followable}
use Rattle.tss_protocol.specs.UnitMachine.{IsEnabled, is_enabled, can_open_message, after_event, without}
use Rattle.tss_protocol.specs.UnitMachine.{open_message_taken}
use Rattle.tss_phases.specs.Phase.{Sent, Releasing, look_ups, phase_of}
use Rattle.tss_phases.specs.Orderly.{KeepsOrder}
use Rattle.tss_phases.proofs.AloneLemmas.{silent_but_opening}
use Rattle.tss_phases.proofs.PhaseLemmas.{phase_opening}
use Rattle.tss_phases.proofs.ForwardEvents.{forward-after_event}
use Rattle.tss_phases.proofs.Tests.{something}
use Rattle.tss_locality.proofs.LeftFields.{Leaves-after_event}
use Rattle.tss_control.proofs.holders.Later.{later-open}
use Rattle.tss_control.proofs.holders.Settled.{HeldAlike}
use Rattle.tss_control.proofs.chains.Registered.{linked_to}
use Rattle.tss_control.proofs.chains.Opened.{HasChains-registered}
use Rattle.tss_control.proofs.chains.Open.{following, behind_followed, others_followed, registered_state}
use Rattle.tss_control.proofs.chains.Open.{registers_behind, front_apart, part_how}
use Rattle.tss_control.proofs.entries.RetirementOpen.{opened_from}
use Rattle.tss_values.proofs.Values.{content, bytes_before, bytes_after, IsKnown, HasStored, HasHome}
use Rattle.tss_values.proofs.stored.Frames.{IsStored, stored_each, stored_at, stored_kept, lets_before}
use Rattle.tss_values.proofs.stored.Quiet.{LeavesBytes, content_left, keeps_alike}
use Rattle.tss_values.proofs.stored.Settled.{FindsLeft, SettlesStored, stored_settled, waits_still}
use Rattle.tss_control.proofs.rounds.Facts.{Facts}

sent_not_releasing : Sent ≡ Releasing → ⊥
sent_not_releasing e = cc

output_not_inout : Output ≡ Inout → ⊥
output_not_inout e = cc

input_not_output : Input ≡ Output → ⊥
input_not_output e = cc

inout_not_output : Inout ≡ Output → ⊥
inout_not_output e = cc

module _ (m : Machine) (i : ImageState) (S : State) (facts : Facts m S) (h : HasStored m i facts.ts S)
    (home : HasHome m i facts.ts S) (finds : FindsLeft m i facts.ts S) (o : OpName)
    (on : IsEnabled m S (event.Open o)) (order : KeepsOrder S (event.Open o)) (c : OpenContents)
    (opening : get S.mail.opens o ≡ Some c) where
  open facts use {ts, g, control as k}

  abbrev T : State
  T = after_event m S (event.Open o)

  left : LeavesBytes S T
  left =
      let same = Leaves-after_event m S (event.Open o) in
      record { home = λ i. (same i).home; contents = λ i. (same i).contents; workers = λ i. (same i).workers }

  not_yet : phase_of T o ≡ Releasing → ⊥
  not_yet lets =
      let l = look_ups S o in
      let s = silent_but_opening l c (k.orderly o).alone opening in
      sent_not_releasing
      (sym (phase_opening l c s.decoding opening)
      ∙ lets_before S T o (forward-after_event m S k.orderly (event.Open o) on order o)
      (later-open m S k.orderly o on order o) lets)

  same_operand : (p : Operand) (s : Started) → IsKnown m i ts o p s → p ≡ c.operand
  same_operand p s known = same_Some p c.operand (sym known.operand ∙ (k.chains.opens o c opening).operand)

  old_stored : (w : OpName) (y z : Version) → get S.versions w ≡ Some y → HeldAlike y z → IsStored m i ts T w z
  old_stored w y z there alike =
      stored_kept m i ts S T w y z
      (keeps_alike m i ts g S T k left (forward-after_event m S k.orderly (event.Open o) on order)
      (later-open m S k.orderly o on order) w y z there alike)
      (stored_at m i ts S h w y there)

  versions : T.versions ≡ (opened_by S.versions o c c.follows).part
  unfolding after_event
  versions = ap (λ x. (open_message_taken (without S (event.Open o)) o x).versions) opening

  -- ---- it follows nothing

  module _ (to : c.follows ≡ None) where
    at_home : (mode : Mode) → c.operand.mode ≡ mode → (mode ≡ Output → ⊥) → (p : Operand) (s : Started)
        → IsKnown m i ts o p s → bytes_of T.home c.operand.object ≡ bytes_before s p
    at_home mode is reads p s known =
        ap (λ b. bytes_of b c.operand.object) left.home
        ∙ home.opening o c s opening to (λ e. reads (sym is ∙ e)) known.starts
        ∙ ap (bytes_before s) (sym (same_operand p s known))

    first_stored : (mode : Mode) → c.operand.mode ≡ mode
        → IsStored m i ts T o (first_version o c.operand.object (Some Home) mode)
    first_stored Input is = record {
      produced = λ st p s made at known good.
          let input = ap (λ (x : Operand). writes x.mode) (same_operand p s known) ∙ ap writes is in
          subst (λ st. content T c.operand.object st ≡ bytes_after m i s p) (same_Some Home st at)
          (at_home Input is input_not_output p s known
          ∙ ap (λ b. cond b (bytes_of (end_of_started i m.limits s).memory p.object) (bytes_before s p)) (sym input));
      awaited = λ st p s at known mode waits idle.
          subst (λ st. content T c.operand.object st ≡ bytes_before s p) (same_Some Home st at)
          (at_home Input is input_not_output p s known);
      releasing = λ st p s at known writer lets ends. absurd (not_yet lets);
    }
    first_stored Output is = record {
      produced = λ st p s made at known good. absurd (true≢false (sym made));
      awaited = λ st p s at known mode waits idle.
          absurd (output_not_inout
          (sym is ∙ ap (λ (x : Operand). x.mode) (sym (same_operand p s known)) ∙ mode));
      releasing = λ st p s at known writer lets ends. absurd (not_yet lets);
    }
    first_stored Inout is = record {
      produced = λ st p s made at known good. absurd (true≢false (sym made));
      awaited = λ st p s at known mode waits idle.
          subst (λ st. content T c.operand.object st ≡ bytes_before s p) (same_Some Home st at)
          (at_home Inout is inout_not_output p s known);
      releasing = λ st p s at known writer lets ends. absurd (not_yet lets);
    }

    open_first : HasStored m i ts T
    open_first =
        let storage = ((k.chains.opens o c opening).first to).storage in
        let n = first_version o c.operand.object c.storage c.operand.mode in
        let put = versions ∙ ap (λ s. (opened_by S.versions o c s).part) to in
        stored_each m i ts T (λ w z e.
        elim (from_inserted name_order S.versions o n w z (sym (ap (λ vs. get vs w) put) ∙ e)) [
          | inl new ↦
              subst (λ q. IsStored m i ts T q z) (sym new.0)
              (subst (IsStored m i ts T o)
              (ap (λ s. first_version o c.operand.object s c.operand.mode) (sym storage) ∙ sym new.1)
              (first_stored c.operand.mode refl))
          | inr old ↦ old_stored w z z old.1 (record { object = refl; produced = refl; storage = refl })
        ])

  -- ---- it follows another

  module _ (f : Follow) (to : c.follows ≡ Some f) (u : Version) (there : get S.versions f.version ≡ Some u) where
    abbrev U : State
    U = registered_state m S facts o c opening f to u there

    u_chains : HasStored m i ts S → SettlesStored m i ts U T f.version
    u_chains h = record {
      chains =
          HasChains-registered ts S U k.chains o c (following c f)
          (registers_behind m S facts o c opening f to u there);
      others =
          others_followed S.versions o c f (front_apart m S facts o c opening f to u there)
          (λ q y e. k.retirement.settled q y e);
      versions =
          versions
          ∙ ap (λ s. (opened_by S.versions o c s).part) to
          ∙ part_how m S facts o c opening f f.how;
      each = λ w y z e alike at. elim (opened_from m S facts o c opening f to u there w y e) [
        | inl new ↦
            subst (λ q. IsStored m i ts T q z) (sym new.0)
            (new_stored z (subst (λ b. HeldAlike b z) new.1 alike))
        | inr (inl front) ↦
            let like = subst (λ b. HeldAlike b z) front.1 alike in
            subst (λ q. IsStored m i ts T q z) (sym front.0)
            (old_stored f.version u z there
            (record { object = like.object; produced = like.produced; storage = like.storage }))
        | inr (inr old) ↦ old_stored w y z old alike
      ];
      leaves = λ y st q t e made at known good.
          let is =
          same_Some y (linked_to o f u)
          (sym e
          ∙ behind_followed S.versions o c f (front_apart m S facts o c opening f to u there) u there) in
          ap (λ (b : Version). content T b.object st) is
          ∙ content_left S T left u.object st
          ∙ h.produced f.version u st q t there (ap (λ (b : Version). b.produced) (sym is) ∙ made)
          (ap (λ (b : Version). b.storage) (sym is) ∙ at) known good;
      keeps = λ w y e none off lets. elim (opened_from m S facts o c opening f to u there w y e) [
        | inl new ↦ not_yet (ap (phase_of T) (sym new.0) ∙ lets)
        | inr (inl front) ↦
            still f.version u there (ap (λ (b : Version). b.storage) (sym front.1) ∙ none)
            (ap (λ (b : Version). b.produced) (sym front.1) ∙ off) (ap (phase_of T) (sym front.0) ∙ lets)
        | inr (inr old) ↦ still w y old none off lets
      ];
    }
      where
        still : (w : OpName) (y : Version) → get S.versions w ≡ Some y → y.storage ≡ None → y.produced ≡ false
            → phase_of T w ≡ Releasing → ⊥
        still w y e none off lets =
            waits_still ts g S T k w (forward-after_event m S k.orderly (event.Open o) on order w)
            (later-open m S k.orderly o on order w) y e none off lets

        new_stored : (z : Version) → HeldAlike (following c f) z → IsStored m i ts T o z
        new_stored z like = record {
          produced = λ st p s made at known good. absurd (true≢false (sym made ∙ like.produced));
          awaited = λ st p s at known mode waits idle.
              elim (((k.chains.opens o c opening).after f to).way) [
                | inl over ↦ absurd (none-some st (sym (like.storage ∙ over.2) ∙ at))
                | inr beside ↦
                    absurd (output_not_inout
                    (sym beside.0 ∙ ap (λ (x : Operand). x.mode) (sym (same_operand p s known)) ∙ mode))
              ];
          releasing = λ st p s at known writer lets ends. absurd (not_yet lets);
        }

    open_behind : HasStored m i ts T
    open_behind =
        stored_settled m i ts S U T f.version (u_chains h) finds
        (λ q among.
        let p = k.chains.opener f.version u there in
        inl (u, there, sym p.2 ∙ ap (λ (p : Operand). p.object) (same_Some p.0 q (sym p.1 ∙ among))))

  by_follow : (s : Option Follow) → c.follows ≡ s → is_followable S.versions s ≡ true → HasStored m i ts T
  by_follow None to follows = open_first to
  by_follow (Some f) to follows =
      let u = something is_some (get S.versions f.version) refl follows in
      open_behind f to u.0 u.1

module _ (m : Machine) (i : ImageState) (S : State) (facts : Facts m S) (h : HasStored m i facts.ts S)
    (home : HasHome m i facts.ts S) (finds : FindsLeft m i facts.ts S) where
  open facts use {ts}

  -- open
  pub HasStored-open : (o : OpName) → IsEnabled m S (event.Open o) → KeepsOrder S (event.Open o)
      → HasStored m i ts (after_event m S (event.Open o))
  unfolding is_enabled
  HasStored-open o on order =
      let c = something (can_open_message S) (get S.mail.opens o) refl on in
      by_follow m i S facts h home finds o on order c.0 c.1 c.0.follows refl
      (sym (ap (can_open_message S) c.1) ∙ on)
