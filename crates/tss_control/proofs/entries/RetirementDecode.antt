-- Every decode keeps the causes of refusals: the latest version is another one, or more readers were directed to it.
use Rattle.std.proofs.Common.{◌≡◌, ◌≢◌, ℕ, suc, ◌<◌, ◌⊎◌, inl, inr, [], ◌∷◌, Option, Some, None, refl, sym, ap, ◌∙◌}
use Rattle.std.proofs.Common.{subst, arith}
use Rattle.std.specs.FinMap.{get, insert}
use Rattle.std.proofs.lemmas.Option.{none-some, same_Some}
use Rattle.tss_base.specs.declared.operand.OpName.{OpName}
use Rattle.tss_base.specs.declared.operand.Mode.{Mode}
use Rattle.tss_base.specs.declared.operand.Mode.TheVariants.{Input, Output, Inout}
use Rattle.tss_base.specs.declared.operand.Operand.{Operand}
use Rattle.tss_base.specs.declared.machine.Machine.{Machine}
use Rattle.tss_base.specs.declared.event.Event.TheVariants as event
use Rattle.tss_maps.proofs.Keys.{nat_order, decide_key}
use Rattle.tss_maps.proofs.Changes.{at_inserted, beside_inserted}
use Rattle.tss_protocol.specs.Mail.{OpenContents, Mail, Ack, taken}
use Rattle.tss_protocol.specs.State.{State, Entry, Version}
use Rattle.tss_protocol.specs.Renaming.{decode_message}
use Rattle.tss_protocol.specs.UnitMachine.{IsEnabled, is_enabled, after_event, can_decode_message}
use Rattle.tss_phases.specs.Orderly.{AreOrderly}
use Rattle.tss_phases.proofs.Tests.{something}
use Rattle.tss_locality.proofs.LeftFields.{Leaves-after_event}
use Rattle.tss_control.specs.Entries.{HasCause, HasEntries, HasRetirement}
use Rattle.tss_names.proofs.AskingLemmas.{decode_aside}
use Rattle.tss_control.proofs.rounds.EntriesNames.{object_of_entry, no_version}
use Rattle.tss_control.proofs.entries.QuietEvents.{nacks_aside}
use Rattle.tss_control.proofs.rounds.EntriesDecodeOpen.{DecodesOpen}
use Rattle.tss_control.proofs.rounds.EntriesDecodeUse.{DecodesUse}
use Rattle.tss_control.proofs.rounds.EntriesDecode.{mail_decoded, sends_first, sends_beside, sends_over, sends_use}
use Rattle.tss_control.proofs.rounds.EntriesDecode.{entry_awake}
use Rattle.tss_control.proofs.rounds.RetirementFrames.{retirement_kept}
use Rattle.tss_control.proofs.rounds.Facts.{Basis}

-- an entry is a cause
abbrev Causes : OpName → ℕ → Entry → Type 0
Causes v count e = (e.latest ≢ v) ⊎ (count < e.sent)

-- where the entry of one base is written over with one that is a cause, causes are kept
pub cause_written : (S T : State) (base : ℕ) (n : Entry) → T.entries ≡ insert S.entries base n → (v : OpName)
    (y : Version) (count : ℕ) → ((e : Entry) → get S.entries base ≡ Some e → Causes v count e → Causes v count n)
    → HasCause S v y count → HasCause T v y count
cause_written S T base n entries v y count why c = elim (decide_key nat_order y.object.base base) [
  | inl same ↦ (
    n,
    ap (λ m. get m y.object.base) entries ∙ ap (get (insert S.entries base n)) same
        ∙ at_inserted nat_order S.entries base n,
    why c.0 (ap (get S.entries) (sym same) ∙ c.1) c.2,
  )
  | inr other ↦ (
    c.0,
    ap (λ m. get m y.object.base) entries ∙ beside_inserted nat_order S.entries base n y.object.base other ∙ c.1,
    c.2,
  )
]

below_more : (a b : ℕ) → a < b → a < suc b
below_more a b h = omega (arith, h)

module _ (m : Machine) (S : State) (basis : Basis m S) (orderly : AreOrderly S) (h : HasEntries basis.ts S)
    (o : OpName) (on : IsEnabled m S (event.Decode o)) where
  abbrev T : State
  T = after_event m S (event.Decode o)

  module _ (p : Operand) (there : get S.mail.decodes o ≡ Some p) (v : OpName) (y : Version) (count : ℕ)
      (version : get S.versions v ≡ Some y) (c : HasCause S v y count) where
    -- the new version isn't one that was refused
    new_apart : o ≢ v
    new_apart same =
        none-some y (sym (no_version m S basis orderly o p there) ∙ ap (get S.versions) same ∙ version)

    cause_open : (d : OpenContents) (n : Entry) → DecodesOpen S T o p d n → HasCause T v y count
    cause_open d n k =
        cause_written S T p.object.base n k.entries v y count
        (λ e at why. inl (λ same. new_apart (sym k.latest ∙ same))) c

    cause_use : (n : Entry) → DecodesUse S T o p n → HasCause T v y count
    cause_use n k =
        cause_written S T p.object.base (record n { sent = suc n.sent }) k.entries v y count
        (λ e at why. more (same_Some e n (sym at ∙ k.there)) why) c
      where
        more : {e : Entry} → e ≡ n → Causes v count e → Causes v count (record n { sent = suc n.sent })
        more is (inl apart) = inl (λ same. apart (ap (λ (e : Entry). e.latest) is ∙ same))
        more is (inr few) = inr (below_more count n.sent (subst (λ (e : Entry). count < e.sent) is few))

    cause_live : (e : Entry) → get S.entries p.object.base ≡ Some e → (mode : Mode) → p.mode ≡ mode
        → HasCause T v y count
    cause_live e at Input is =
        cause_use e
        (sends_use m S o p there e at (object_of_entry m S basis orderly h o p there e at)
        (entry_awake m S o p there on e at) is)
    cause_live e at Output is =
        cause_open _ _
        (sends_beside m S o p there e at (object_of_entry m S basis orderly h o p there e at)
        (entry_awake m S o p there on e at) is)
    cause_live e at Inout is =
        cause_open _ _
        (sends_over m S o p there e at (object_of_entry m S basis orderly h o p there e at)
        (entry_awake m S o p there on e at) is)

    cause_by : (x : Option Entry) → get S.entries p.object.base ≡ x → HasCause T v y count
    cause_by None none = cause_open _ _ (sends_first m S o p there none)
    cause_by (Some e) at = cause_live e at p.mode refl

  module _ (p : Operand) (there : get S.mail.decodes o ≡ Some p) where
    decode_nacks : T.mail.nacks ≡ S.mail.nacks
    decode_nacks =
        let x = get S.entries p.object.base in
        ap (λ (m : Mail). m.nacks) (mail_decoded m S o p there)
        ∙ nacks_aside (taken S.mail (event.Decode o)) (decode_message o p x ∷ Ack o ∷ []) (decode_aside o p x, (tt, tt))

  -- asking and refusing after a decode
  pub HasRetirement-decode : HasRetirement S → HasRetirement T
  unfolding is_enabled
  HasRetirement-decode r =
      let p = something (can_decode_message m S o) (get S.mail.decodes o) refl on in
      retirement_kept S T (λ i. (Leaves-after_event m S (event.Decode o) i).versions) (decode_nacks p.0 p.1)
      (λ v y count version c. cause_by p.0 p.1 v y count version c (get S.entries p.0.object.base) refl) r
