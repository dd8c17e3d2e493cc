-- What copy finds of a bank's copy.
use Rattle.std.specs.Prelude.{◌≡◌, ℕ, ◌<◌, ◌≤◌, true, Some}
use Rattle.std.specs.FinMap.{get}
use Rattle.tss_base.specs.declared.machine.Machine.{Machine}
use Rattle.tss_base.specs.Image.{ImageState}
use Rattle.tss_model.specs.Memory.{range_of}
use Rattle.tss_protocol.specs.Names.{bank_of}
use Rattle.tss_protocol.specs.State.{State, CopyState}
use Rattle.tss_conditions.specs.Reached.{Reached}
use Rattle.tss_conditions.specs.Running.{IsSet}

-- a bank copies an object of its own: a place is held there under the version's name, its buffer is held there and set,
-- the object lies in one range of home that can be written, and some of its bytes are still to be moved
pub record IsCopying (m : Machine) (S : State) (b : ℕ) (c : CopyState) : Type 0 where
  pub number : b < m.sizes.banks
  pub bank : bank_of m.sizes c.object ≡ b
  pub place : get S.places c.version ≡ Some b
  pub buffer : get S.buffers c.buffer ≡ Some b
  pub set : IsSet m S c.buffer
  pub within : range_of S.home.ranges c.object ≡ Some true
  pub short : c.object.len ≤ m.limits.object_bytes
  pub moved : c.moved < c.object.len

-- in every reached state
abbrev pub CopyLaw : Type 0
CopyLaw =
    (m : Machine) (i : ImageState) (S : State) (b : ℕ) (c : CopyState)
    → Reached m i S
    → get S.copies b ≡ Some c
    → IsCopying m S b c
