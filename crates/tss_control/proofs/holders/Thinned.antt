-- What operands hold where versions go that nobody needs, and others get a storage.
use Rattle.std.proofs.Common.{◌≡◌, ◌⊎◌, ◌≤◌, true, List, Some, refl, ◌∙◌, inl, inr}
use Rattle.std.specs.FinMap.{get}
use Rattle.tss_base.specs.declared.operand.OpName.{OpName}
use Rattle.tss_base.specs.declared.operand.Operand.{Operand}
use Rattle.tss_base.specs.declared.operand.Task.{Task}
use Rattle.tss_base.specs.Names.{Named}
use Rattle.tss_model.specs.Access.{writes}
use Rattle.tss_protocol.specs.Mail.{StorageName, Source}
use Rattle.tss_protocol.specs.State.{State, Version}
use Rattle.tss_phases.specs.Phase.{Waiting, look_ups, phase_of}
use Rattle.tss_control.specs.Members.{operand_among}
use Rattle.tss_control.specs.Readers.{Arrivals}
use Rattle.tss_control.specs.Holders.{IsTrue}
use Rattle.tss_control.specs.Control.{IsControlled}
use Rattle.tss_control.proofs.holders.Fits.{Needs, Holding, HasOpened, HasCome, holding_of, holding_mapped}
use Rattle.tss_control.proofs.holders.Needed.{not_needed, none_waits}

-- a version stays, with its object and with its storage, if it has one
abbrev pub StaysHeld : Named Version → OpName → Version → Type 0
StaysHeld vs w y =
    (z : Version) × (get vs w ≡ Some z) × (z.object ≡ y.object)
    × ((s : StorageName) → y.storage ≡ Some s → z.storage ≡ Some s)

-- one that is needed by nobody
abbrev pub IsSpent : Version → Type 0
IsSpent y = (y.produced ≡ true) × (y.registered ≤ y.released)

-- each is one of both
abbrev pub ThinsHeld : Named Version → Named Version → Type 0
ThinsHeld vs us = (w : OpName) (y : Version) → get vs w ≡ Some y → StaysHeld us w y ⊎ IsSpent y

module _ (ts : List Task) (g : Arrivals) (S T : State) (h : IsControlled ts g S)
    (thins : ThinsHeld S.versions T.versions) where
  -- what is needed is still true
  true_still : (o : OpName) (p : Operand) (s : Source) → operand_among ts o ≡ Some p
      → Needs (phase_of S o) (get S.mail.links o) → IsTrue g S o p s → IsTrue g T o p s
  true_still o p s at needs t = elim (thins s.version t.version t.there) [
    | inl stays ↦ record {
      version = stays.0;
      there = stays.1;
      object = stays.2 ∙ t.object;
      storage = stays.3 s.storage t.storage;
      own = t.own;
    }
    | inr spent ↦ absurd (not_needed ts g S h s.version t.version t.there spent.0 spent.1 o p s at needs t refl)
  ]

  -- a reader that waits has still come to its version
  come_still : (o : OpName) → phase_of S o ≡ Waiting → HasCome g S o → HasCome g T o
  come_still o waits c = elim (thins c.0 c.1 c.2) [
    | inl stays ↦ (c.0, stays.0, stays.1, c.3)
    | inr spent ↦ absurd (none_waits ts g S h c.0 c.1 c.2 spent.0 spent.1 o c.3 waits)
  ]

  -- what an operand holds, by what was looked up before
  pub holding_still : (o : OpName) (p : Operand) → operand_among ts o ≡ Some p → (O : Type 0)
      → (writes p.mode ≡ true → phase_of S o ≡ Waiting → HasOpened S o → O)
      → Holding (IsTrue g T o p) O (HasCome g T o) (writes p.mode) (look_ups S o) (get S.mail.links o)
  holding_still o p at O opened =
      holding_mapped (IsTrue g S o p) (IsTrue g T o p) (HasOpened S o) O (HasCome g S o) (HasCome g T o) (writes p.mode)
      (look_ups S o) (get S.mail.links o) (h.orderly o) (λ s needs. true_still o p s at needs) opened
      (λ r waits. come_still o waits) (holding_of ts g S h.holders o p at)
