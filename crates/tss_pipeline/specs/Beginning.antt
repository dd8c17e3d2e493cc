-- What a task that starts is told of its operands' storages.
use Rattle.std.specs.Prelude.{◌≡◌, ℕ, slice_get, Option, Some, None, IsSome}
use Rattle.std.specs.FinMap.{get}
use Rattle.tss_base.specs.declared.operand.OpName.{OpName}
use Rattle.tss_base.specs.declared.operand.Operand.{Operand}
use Rattle.tss_base.specs.declared.operand.Storage.{Storage}
use Rattle.tss_base.specs.declared.operand.Storage.TheVariants as storage
use Rattle.tss_base.specs.declared.operand.Task.{Task}
use Rattle.tss_base.specs.Names.{Numbered}
use Rattle.tss_model.specs.Access.{operands_of}
use Rattle.tss_events.specs.Events.{storage_name}
use Rattle.tss_protocol.specs.Mail.{StorageName, Home}
use Rattle.tss_protocol.specs.Names.{bank_of, operand_name}
use Rattle.tss_stations.specs.declared.slot.Slot.{Slot}
use Rattle.tss_stations.specs.declared.operand_view.OperandView.{OperandView}
use Rattle.tss_stations.specs.Views.{view_in}
use Rattle.tss_pipeline.specs.declared.bank.Bank.{Bank}
use Rattle.tss_pipeline.specs.Fit.{Ground, HoldsStorage}

-- the name of a storage, and home where none was told
abbrev pub told_name : Option Storage → StorageName
told_name None = Home
told_name (Some s) = storage_name s

-- a buffer that an operand was told is held in the bank of its object
abbrev pub IsHeldFor : Ground → Operand → Option Storage → Type 0
IsHeldFor g o told = (p : ℕ) (n : OpName) (b : Bank) → told ≡ Some (storage.Buffer p n)
    → slice_get g.banks (bank_of g.sizes o.object) ≡ Some b → IsSome (get b.renaming.buffers n)

-- those of the operands of a task, from what its slot knows
abbrev pub AreHeldFor : Ground → Numbered Slot → Task → Type 0
AreHeldFor g slots t = (k : ℕ) (o : Operand) (v : OperandView) → slice_get (operands_of t) k ≡ Some o
    → view_in slots (operand_name t.number k) ≡ Some v → IsHeldFor g o v.storage

-- a storage that is found has the name that was told, and is held in its place
pub record IsStored (g : Ground) (o : Operand) (told found : Option Storage) : Type 0 where
  pub storage : Storage
  pub there : found ≡ Some storage
  pub name : storage_name storage ≡ told_name told
  pub held : HoldsStorage g o storage

-- that of an operand of a task
abbrev pub IsStoredAt : Ground → Numbered Slot → Task → ℕ → Option Storage → Type 0
IsStoredAt g slots t k found = (o : Operand) (v : OperandView) → slice_get (operands_of t) k ≡ Some o
    → view_in slots (operand_name t.number k) ≡ Some v → IsStored g o v.storage found
