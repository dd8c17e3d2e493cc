-- Asking and refusing where an open has been taken and its version is registered.
use Rattle.std.proofs.Common.{◌≡◌, ◌≢◌, ℕ, ◌≤◌, ◌⊎◌, Option, Some, None, refl, sym, ap, ◌∙◌, subst, inl, inr}
use Rattle.std.specs.FinMap.{get}
use Rattle.std.proofs.lemmas.Option.{none-some, same_Some}
use Rattle.tss_base.specs.declared.operand.OpName.{OpName}
use Rattle.tss_base.specs.declared.operand.Mode.{Mode}
use Rattle.tss_base.specs.declared.operand.Mode.TheVariants.{Input, Output, Inout}
use Rattle.tss_base.specs.declared.machine.Machine.{Machine}
use Rattle.tss_base.specs.declared.marks.Follow.{Follow}
use Rattle.tss_maps.proofs.Keys.{name_order, decide_key}
use Rattle.tss_maps.proofs.Changes.{from_inserted}
use Rattle.tss_protocol.specs.Mail.{StorageName, OpenContents, Mail, posted_all}
use Rattle.tss_protocol.specs.State.{State, Version}
use Rattle.tss_protocol.specs.Versions.{ready_with, put_version, first_version}
use Rattle.tss_control.specs.Entries.{HasCause, HasRetirement}
use Rattle.tss_protocol.specs.Settled.{IsSettled}
use Rattle.tss_control.proofs.rounds.RetirementFrames.{cause_same}
use Rattle.tss_names.specs.Asking.{AsksFor}
use Rattle.tss_control.proofs.entries.Settled.{AsksSoundly}
use Rattle.tss_control.proofs.chains.Registered.{linked_to}
use Rattle.tss_control.proofs.chains.Open.{following, at_followed, behind_followed, beside_followed, registered_state}
use Rattle.tss_control.proofs.chains.Open.{front_apart, fresh}
use Rattle.tss_control.proofs.rounds.Facts.{Facts}

-- a ready is no nack
pub nacks_ready : (m : Mail) (o v : OpName) (s : Option StorageName) → (posted_all m (ready_with o v s)).nacks ≡ m.nacks
nacks_ready m o v None = refl
nacks_ready m o v (Some s) = refl

-- ---- a version that is new

-- one that follows nothing has nothing to say of asking
pub quiet_first : (o : OpName) (c : OpenContents) (mode : Mode)
    → ((first_version o c.operand.object c.storage mode).asked ≡ None)
    × ((first_version o c.operand.object c.storage mode).refused ≡ None)
    × IsSettled (first_version o c.operand.object c.storage mode)
quiet_first o c Input =
    (refl, refl, record { dies = λ f to. absurd (none-some f to); asks = λ last. refl })
quiet_first o c Output =
    (refl, refl, record { dies = λ f to. absurd (none-some f to); asks = λ last. refl })
quiet_first o c Inout =
    (refl, refl, record { dies = λ f to. absurd (none-some f to); asks = λ last. refl })

module _ (S T : State) (h : HasRetirement S) (o : OpName) (n : Version) (put : T.versions ≡ put_version S.versions o n)
    (asked : n.asked ≡ None) (refused : n.refused ≡ None) (calm : IsSettled n) (entries : T.entries ≡ S.entries)
    (nacks : T.mail.nacks ≡ S.mail.nacks) where
  added_from : (w : OpName) (t : Version) → get T.versions w ≡ Some t
      → ((w ≡ o) × (t ≡ n)) ⊎ ((w ≢ o) × (get S.versions w ≡ Some t))
  added_from w t e = from_inserted name_order S.versions o n w t (sym (ap (λ m. get m w) put) ∙ e)

  -- asking and refusing with it
  pub retires_added : HasRetirement T
  retires_added = record {
    asked = λ w t count e asks. elim (added_from w t e) [
      | inl new ↦
          absurd (none-some count (sym asked ∙ ap (λ (k : Version). k.asked) (sym new.1) ∙ asks))
      | inr old ↦
          let a = h.asked w t count old.1 asks in
          record { produced = a.produced; oldest = a.oldest; released = a.released }
    ];
    refused = λ w t count e r. elim (added_from w t e) [
      | inl new ↦ absurd (none-some count (sym refused ∙ ap (λ (k : Version). k.refused) (sym new.1) ∙ r))
      | inr old ↦ cause_same S T entries w t count (h.refused w t count old.1 r)
    ];
    refusing = λ w t count e asks n. elim (added_from w t e) [
      | inl new ↦
          absurd (none-some count (sym asked ∙ ap (λ (k : Version). k.asked) (sym new.1) ∙ asks))
      | inr old ↦
          cause_same S T entries w t count
          (h.refusing w t count old.1 asks (sym (ap (λ m. get m w) nacks) ∙ n))
    ];
    settled = λ w t e. elim (added_from w t e) [
      | inl new ↦ subst IsSettled (sym new.1) calm
      | inr old ↦ h.settled w t old.1
    ];
  }

-- ---- open

module _ (m : Machine) (S : State) (facts : Facts m S) (o : OpName) (c : OpenContents)
    (opening : get S.mail.opens o ≡ Some c) where
  open facts use {ground, control as k}

  module _ (f : Follow) (to : c.follows ≡ Some f) (u : Version) (there : get S.versions f.version ≡ Some u) where
    abbrev U : State
    U = registered_state m S facts o c opening f to u there

    apart : f.version ≢ o
    apart = front_apart m S facts o c opening f to u there

    -- each version is new, the one that is followed, or as it was
    pub opened_from : (w : OpName) (t : Version) → get U.versions w ≡ Some t
        → ((w ≡ o) × (t ≡ following c f))
        ⊎ (((w ≡ f.version) × (t ≡ linked_to o f u)) ⊎ (get S.versions w ≡ Some t))
    opened_from w t e = elim (decide_key name_order w o) [
      | inl is ↦
          inl (
            is,
            same_Some t (following c f) (sym e ∙ ap (λ q. get U.versions q) is ∙ at_followed S.versions o c f apart),
          )
      | inr far ↦ inr (elim (decide_key name_order w f.version) [
        | inl is ↦
            inl (
              is,
              same_Some t (linked_to o f u)
                  (sym e ∙ ap (λ q. get U.versions q) is ∙ behind_followed S.versions o c f apart u there),
            )
        | inr other ↦ inr (sym (beside_followed S.versions o c f apart w far other) ∙ e)
      ])
    ]

    asks_still : (w : OpName) (count : ℕ) (x : Version) → get S.versions w ≡ Some x → x.asked ≡ Some count
        → AsksFor U.versions w count
    asks_still w count x e asks =
        let far : w ≢ o = λ is.
        none-some x (sym (fresh m S facts o c opening) ∙ ap (λ q. get S.versions q) (sym is) ∙ e) in
        elim (decide_key name_order w f.version) [
          | inl is ↦
              let same = same_Some u x (sym there ∙ ap (λ q. get S.versions q) (sym is) ∙ e) in (
                linked_to o f u,
                ap (λ q. get U.versions q) is ∙ behind_followed S.versions o c f apart u there,
                ap (λ (z : Version). z.asked) same ∙ asks,
              )
          | inr other ↦ (x, beside_followed S.versions o c f apart w far other ∙ e, asks)
        ]

    -- each of them asks and was refused rightly
    pub sound_opened : AsksSoundly U
    sound_opened = record {
      asked = λ w t count e asks. elim (opened_from w t e) [
        | inl new ↦ absurd (none-some count (ap (λ (k : Version). k.asked) (sym new.1) ∙ asks))
        | inr (inl front) ↦
            let a =
            k.retirement.asked f.version u count there (ap (λ (k : Version). k.asked) (sym front.1) ∙ asks) in
            record {
              produced = ap (λ (k : Version). k.produced) front.1 ∙ a.produced;
              oldest = ap (λ (k : Version). k.predecessor) front.1 ∙ a.oldest;
              released = subst (λ (k : Version). count ≤ k.released) (sym front.1) a.released;
            }
        | inr (inr old) ↦
            let a = k.retirement.asked w t count old asks in
            record { produced = a.produced; oldest = a.oldest; released = a.released }
      ];
      refused = λ w t count e r. elim (opened_from w t e) [
        | inl new ↦ absurd (none-some count (ap (λ (k : Version). k.refused) (sym new.1) ∙ r))
        | inr (inl front) ↦
            subst (λ q. HasCause U q t count) (sym front.0)
            (subst (λ z. HasCause U f.version z count) (sym front.1)
            (k.retirement.refused f.version u count there (ap (λ (k : Version). k.refused) (sym front.1) ∙ r)))
        | inr (inr old) ↦ k.retirement.refused w t count old r
      ];
      refusing = λ w t count e asks n. elim (opened_from w t e) [
        | inl new ↦ absurd (none-some count (ap (λ (k : Version). k.asked) (sym new.1) ∙ asks))
        | inr (inl front) ↦
            subst (λ q. HasCause U q t count) (sym front.0)
            (subst (λ z. HasCause U f.version z count) (sym front.1)
            (k.retirement.refusing f.version u count there (ap (λ (k : Version). k.asked) (sym front.1) ∙ asks)
            (ap (λ q. get S.mail.nacks q) (sym front.0) ∙ n)))
        | inr (inr old) ↦ k.retirement.refusing w t count old asks n
      ];
      nacks = λ w n.
          let a = (ground.asking.nacks w n).0 in
          (a.0, asks_still w a.0 a.1.0 a.1.1 a.1.2);
    }
