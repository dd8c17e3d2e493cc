-- A buffer is held in the bank of the object of the operand for which it was taken.
use Rattle.std.proofs.Common.{◌≡◌, ℕ, Bool, true, false, List, Option, Some, None, refl, sym, ◌∙◌, subst, inl, inr}
use Rattle.std.specs.FinMap.{get, get-empty}
use Rattle.std.proofs.lemmas.Option.{none-some}
use Rattle.tss_base.specs.declared.operand.OpName.{OpName}
use Rattle.tss_base.specs.declared.operand.Operand.{Operand}
use Rattle.tss_base.specs.declared.operand.Task.{Task}
use Rattle.tss_base.specs.declared.machine.Sizes.{Sizes}
use Rattle.tss_base.specs.declared.machine.Machine.{Machine}
use Rattle.tss_base.specs.declared.event.Event.{Event}
use Rattle.tss_base.specs.declared.event.Event.TheVariants as event
use Rattle.tss_base.specs.Image.{ImageState, IsAccepted}
use Rattle.tss_base.specs.Machine.{IsAdmissible}
use Rattle.tss_base.specs.Names.{Named, name_cmp}
use Rattle.tss_maps.proofs.Keys.{name_order}
use Rattle.tss_maps.proofs.Changes.{from_inserted, from_removed}
use Rattle.tss_model.specs.MainStep.{Call, main_call}
use Rattle.tss_protocol.specs.Names.{bank_of}
use Rattle.tss_protocol.specs.Mail.{GoneContents}
use Rattle.tss_protocol.specs.State.{State}
use Rattle.tss_protocol.specs.Renaming.{takes_buffer, buffers_after_decode, buffers_after_gone}
use Rattle.tss_protocol.specs.MainEvent.{call_next}
use Rattle.tss_protocol.specs.UnitMachine.{after_event, without, decode_message_taken, gone_message_taken}
use Rattle.tss_protocol.specs.Run.{IsRun}
use Rattle.tss_locality.proofs.LeftFields.{Leaves-after_event}
use Rattle.tss_names.specs.Tasks.{IsOperandOf, with_spawned, spawned_by_main, spawned_after_event, spawned_tasks}
use Rattle.tss_names.proofs.NumberLemmas.{still_at}
use Rattle.tss_control.proofs.rounds.Facts.{Basis}
use Rattle.tss_control.proofs.GroundworkControl.{Facts-Run}
use Rattle.tss_values.proofs.ValuesJoin.{values_of_run}

-- it is the bank of such an operand's object
abbrev IsBankOf : Sizes → List Task → OpName → ℕ → Type 0
IsBankOf sizes all b bank = (q : Operand) × IsOperandOf all b q × (bank ≡ bank_of sizes q.object)

-- each held buffer has that bank
abbrev pub HoldsInBanks : Sizes → List Task → Named ℕ → Type 0
HoldsInBanks sizes all buffers = (b : OpName) (bank : ℕ) → get buffers b ≡ Some bank → IsBankOf sizes all b bank

-- ---- every event

-- one more task leaves it so
still_bank : (sizes : Sizes) (all : List Task) (t : Option Task) (buffers : Named ℕ) → HoldsInBanks sizes all buffers
    → HoldsInBanks sizes (with_spawned all t) buffers
still_bank sizes all None buffers held = held
still_bank sizes all (Some t) buffers held = λ b bank at.
    let q = held b bank at in (
      q.0,
      record { task = q.1.task; spawned = still_at t all b.task q.1.task q.1.spawned; place = q.1.place },
      q.2,
    )

module _ (m : Machine) (S : State) (basis : Basis m S) (held : HoldsInBanks m.sizes basis.all S.buffers) where
  open basis use {all, ground}

  main_by : (c : Option Call) → HoldsInBanks m.sizes (spawned_by_main m S all c) S.buffers
  main_by None = held
  main_by (Some call) = still_bank m.sizes all (main_call m.limits S.home S.main call).1 S.buffers held

  decoded_by : (o : OpName) (p : Operand) → get S.mail.decodes o ≡ Some p → (takes : Bool)
      → HoldsInBanks m.sizes all (buffers_after_decode S.buffers o (bank_of m.sizes p.object) takes)
  decoded_by o p there false = held
  decoded_by o p there true = λ b bank at.
      elim (from_inserted name_order S.buffers o (bank_of m.sizes p.object) b bank at) [
        | inl new ↦
            subst (λ b. IsBankOf m.sizes all b bank) (sym new.0) (p, (ground.gateway.decodes o p there).2, new.1)
        | inr old ↦ held b bank old.1
      ]

  decoded : (o : OpName) (p : Option Operand) → get S.mail.decodes o ≡ p
      → HoldsInBanks m.sizes all (decode_message_taken m (without S (event.Decode o)) o p).buffers
  decoded o None e = held
  decoded o (Some p) e = decoded_by o p e (takes_buffer (get S.entries p.object.base) p.mode)

  freed : (n : Option OpName) → HoldsInBanks m.sizes all (buffers_after_gone S.buffers n)
  freed None = held
  freed (Some n) = λ b bank at. held b bank (from_removed name_order S.buffers n b bank at).1

  gone : (v : OpName) (g : Option GoneContents)
      → HoldsInBanks m.sizes all (gone_message_taken (without S (event.Gone v)) v g).buffers
  gone v None = held
  gone v (Some g) = freed g.buffer

  same : (us : List Task) (T : State) → HoldsInBanks m.sizes us S.buffers → T.buffers ≡ S.buffers
      → HoldsInBanks m.sizes us T.buffers
  same us T h e = subst (HoldsInBanks m.sizes us) (sym e) h

  left : (e : Event) → (after_event m S e).buffers ≡ S.buffers
      → HoldsInBanks m.sizes all (after_event m S e).buffers
  left e = same all (after_event m S e) held

  bank_decode : (o : OpName) → HoldsInBanks m.sizes all (after_event m S (event.Decode o)).buffers
  unfolding after_event
  bank_decode o = decoded o (get S.mail.decodes o) refl

  bank_gone : (v : OpName) → HoldsInBanks m.sizes all (after_event m S (event.Gone v)).buffers
  unfolding after_event
  bank_gone v = gone v (get S.mail.gones v)

  held_after : (e : Event) → HoldsInBanks m.sizes (spawned_after_event m S all e) (after_event m S e).buffers
  held_after event.Main =
      same (spawned_by_main m S all (call_next m S)) (after_event m S event.Main) (main_by (call_next m S))
      (λ i. (Leaves-after_event m S event.Main i).buffers)
  held_after (event.Decode o) = bank_decode o
  held_after (event.Gone v) = bank_gone v
  held_after e = left e (λ i. (Leaves-after_event m S e i).buffers)

-- so it is in every run
pub banks_run : (m : Machine) (i : ImageState) (es : List Event) (S : State) → IsAccepted i → IsAdmissible m
    → IsRun m i es S → HoldsInBanks m.sizes (spawned_tasks m i es) S.buffers
banks_run m i es S accepted admissible run =
    values_of_run (λ m i all ts S. HoldsInBanks m.sizes all S.buffers)
    (λ m i es S e accepted admissible run held on. held_after m S (Facts-Run m i es S run).basis held e)
    m i accepted admissible (λ b bank e. absurd (none-some bank (sym (get-empty name_cmp b) ∙ e))) es S run
