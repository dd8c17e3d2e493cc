-- What a contract sees of the buffers: how many there are, how many bytes each has, and the bytes of those that are set.
use Rattle.std.specs.Prelude.{ℕ, ◌<◌, ◌==◌, Bool, ◌||◌, List, refl}
use Rattle.std.specs.Coded.{Coded, code_by, coded×, coded_ℕ, coded_list}
use Rattle.tss_base.specs.declared.operand.OpName.{OpName}
use Rattle.tss_base.specs.Names.{Named}
use Rattle.tss_protocol.specs.Codes.{named}

-- the place of a buffer: its bank, and its place in the bank. It is written as a name, so that the contents of buffers
-- under their places have the form that the definitions have under their names
abbrev pub seat : ℕ → ℕ → OpName
seat bank place = record { task = bank; place = place }

-- the banks, the buffers of each, and the bytes of each buffer; under the places of those that are set, their bytes
pub record BuffersState : Type 0 where
  pub banks : ℕ
  pub each : ℕ
  pub object_bytes : ℕ
  pub contents : Named (List ℕ)

abbrev pub buffers_code : Coded BuffersState
buffers_code =
    code_by (ℕ × (ℕ × (ℕ × Named (List ℕ)))) (coded× coded_ℕ (coded× coded_ℕ (coded× coded_ℕ (named (coded_list coded_ℕ)))))
    (λ s. (s.banks, (s.each, (s.object_bytes, s.contents))))
    (λ p. record { banks = p.0; each = p.1.0; object_bytes = p.1.1.0; contents = p.1.1.1 })
    (λ _. refl)

-- there is such a buffer
abbrev pub HasBuffer : BuffersState → ℕ → ℕ → Type 0
HasBuffer s bank place = (bank < s.banks) × (place < s.each)

-- a byte, a half or a word
abbrev pub is_width : ℕ → Bool
is_width n = n == 1 || n == 2 || n == 4
