-- Asking and refusing after an event that leaves versions, entries and nacks.
use Rattle.std.proofs.Common.{◌≡◌, ℕ, Some, sym, ap, ◌∙◌}
use Rattle.std.specs.FinMap.{get}
use Rattle.tss_base.specs.declared.operand.OpName.{OpName}
use Rattle.tss_protocol.specs.State.{State, Version}
use Rattle.tss_control.specs.Entries.{HasCause, HasRetirement}

-- a refusal keeps its cause where the entries are left
pub cause_same : (S T : State) → T.entries ≡ S.entries → (v : OpName) (y : Version) (count : ℕ) → HasCause S v y count
    → HasCause T v y count
cause_same S T es v y count c = (c.0, ap (λ m. get m y.object.base) es ∙ c.1, c.2)

-- the same versions and nacks, where refusals of registered versions keep their causes
pub retirement_kept : (S T : State) → T.versions ≡ S.versions → T.mail.nacks ≡ S.mail.nacks
    → ((v : OpName) (y : Version) (count : ℕ) → get S.versions v ≡ Some y → HasCause S v y count → HasCause T v y count)
    → HasRetirement S → HasRetirement T
retirement_kept S T vs ns cause h =
    let before : (v : OpName) (y : Version) → get T.versions v ≡ Some y → get S.versions v ≡ Some y =
    λ v y there. ap (λ m. get m v) (sym vs) ∙ there in
    record {
      asked = λ v y count there asks.
          let a = h.asked v y count (before v y there) asks in
          record { produced = a.produced; oldest = a.oldest; released = a.released };
      refused = λ v y count there refused.
          cause v y count (before v y there) (h.refused v y count (before v y there) refused);
      refusing = λ v y count there asks nack.
          cause v y count (before v y there)
          (h.refusing v y count (before v y there) asks (ap (λ m. get m v) (sym ns) ∙ nack));
      settled = λ v y there. h.settled v y (before v y there);
    }

-- a state with the same versions, entries and nacks
pub HasRetirement-same : (S T : State) → T.versions ≡ S.versions → T.entries ≡ S.entries → T.mail.nacks ≡ S.mail.nacks
    → HasRetirement S → HasRetirement T
HasRetirement-same S T vs es ns h = retirement_kept S T vs ns (λ v y count at. cause_same S T es v y count) h
