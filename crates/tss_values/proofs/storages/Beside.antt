-- A writer that holds its version writes beside the buffers of copies, and nothing of an object without an entry, or of
-- one that is on its way home.
use Rattle.std.proofs.Common.{◌≡◌, ◌≢◌, ℕ, true, List, Some, refl, sym, ap, ◌∙◌, subst}
use Rattle.std.specs.FinMap.{get}
use Rattle.tss_base.specs.declared.range.Range.{Range}
use Rattle.tss_base.specs.declared.operand.OpName.{OpName}
use Rattle.tss_base.specs.declared.operand.Operand.{Operand}
use Rattle.tss_base.specs.declared.operand.Task.{Task}
use Rattle.tss_base.specs.declared.machine.Machine.{Machine}
use Rattle.tss_model.specs.Access.{writes}
use Rattle.tss_protocol.specs.Mail.{Home, Buffer, Source}
use Rattle.tss_protocol.specs.State.{State, CopyState}
use Rattle.tss_locality.specs.Rounds.{IsRounded}
use Rattle.tss_values.specs.Buffers.{HasBuffers}
use Rattle.tss_control.specs.Readers.{Arrivals}
use Rattle.tss_control.specs.Holders.{IsOwnOrRead}
use Rattle.tss_control.specs.Entries.{IsGoingHome}
use Rattle.tss_control.specs.Control.{HasGroundwork, IsControlled}
use Rattle.tss_program_order.proofs.StoreFrames.{IsElsewhere}
use Rattle.tss_values.proofs.storages.Homes.{not_going_home}
use Rattle.tss_values.proofs.storages.Shares.{HoldsStorage, version_not_copied}
use Rattle.tss_control.proofs.rounds.Facts.{Facts, facts_of}

module _ (ts : List Task) (g : Arrivals) (S : State) (round : IsRounded S ts) (h : IsControlled ts g S)
    (buffers : HasBuffers ts S) (o : OpName) (p : Operand) (s : Source) (k : HoldsStorage ts g S o p s)
    (w : writes p.mode ≡ true) where
  own : s.version ≡ o
  own = subst (λ b. IsOwnOrRead g o b s.version) w k.told.own

  own_there : get S.versions o ≡ Some k.told.version
  own_there = ap (get S.versions) (sym own) ∙ k.told.there

  module _ (m : Machine) (all : List Task) (ground : HasGroundwork m all ts S) where
    abbrev facts : Facts m S
    facts = facts_of m all ts g S ground h

    -- it doesn't write the buffer of a copy
    pub copy_elsewhere : (bank : ℕ) (c : CopyState) → get S.copies bank ≡ Some c → (a : ℕ)
        → IsElsewhere p.object s.storage (Buffer c.buffer) a
    copy_elsewhere bank c e a = record {
      home = λ i f. absurd (buffer_not_home c.buffer f);
      buffer = λ n i f.
          version_not_copied m all ts S ground.places buffers o c.version n
          (k.told.version, own_there, k.told.storage ∙ ap Some i) (bank, c, e, refl, same_name c.buffer n f);
    }
      where
        buffer_not_home : (n : OpName) → Buffer n ≡ Home → ⊥
        buffer_not_home n e = cc

        same_name : (b n : OpName) → Buffer b ≡ Buffer n → b ≡ n
        same_name b n e = cc

    -- nor is one that is copied home, or whose last version is gone
    pub going_apart : (x : Range) (v : OpName) → IsGoingHome S x v → x ≢ p.object
    going_apart x v going same =
        not_going_home m S facts o k.told.version own_there v
        (subst (λ x. IsGoingHome S x v) (same ∙ sym k.told.object) going)
