-- What a decode finds in the renaming tables.
use Rattle.std.specs.Prelude.{◌≡◌, ℕ, ◌-◌, ◌^◌, ◌<◌, Some, None}
use Rattle.std.specs.FinMap.{get}
use Rattle.tss_base.specs.declared.operand.OpName.{OpName}
use Rattle.tss_base.specs.declared.operand.Operand.{Operand}
use Rattle.tss_base.specs.declared.machine.Machine.{Machine}
use Rattle.tss_base.specs.Image.{ImageState}
use Rattle.tss_protocol.specs.Names.{bank_of}
use Rattle.tss_protocol.specs.State.{State, Entry}
use Rattle.tss_protocol.specs.Renaming.{line_of}
use Rattle.tss_conditions.specs.Reached.{Reached}

-- an operand that is to be decoded stands in its bank's line, no place and no buffer is held under its name, and an
-- entry at its object's base is of that object, with room for one more reader
pub record IsDecodable (m : Machine) (S : State) (o : OpName) (p : Operand) : Type 0 where
  pub place : get S.places o ≡ None
  pub buffer : get S.buffers o ≡ None
  pub object : (e : Entry) → get S.entries p.object.base ≡ Some e → e.object ≡ p.object
  pub uses : (base : ℕ) (e : Entry) → get S.entries base ≡ Some e → e.sent < 2 ^ 32 - 1
  pub line : get (line_of m.sizes (bank_of m.sizes p.object) S.mail.decodes) o ≡ Some tt

-- in every reached state
abbrev pub DecodingLaw : Type 0
DecodingLaw =
    (m : Machine) (i : ImageState) (S : State) (o : OpName) (p : Operand)
    → Reached m i S
    → get S.mail.decodes o ≡ Some p
    → IsDecodable m S o p
