-- Segments in address order, and the one that has a word.
use Rattle.std.specs.Prelude.{◌≡◌, ℕ, ◌+◌, ◌*◌, ◌≤◌, ◌⊎◌, true, List, length, slice_get, Option, Some, None, AllPairs, find}
use Rattle.tss_base.specs.Image.{SegmentState, segment_end}
use Rattle.tss_base.specs.Range.{contains}
use Rattle.tss_base.specs.declared.addresses.TheConstants.{END_PC}
use Rattle.tss_isa.specs.declared.instr.Instr.{Instr}
use Rattle.tss_isa.specs.declared.instr.Instr.TheVariants.{Ebreak}
use Rattle.tss_isa.specs.InstrTable.{instr_at, fits}
use Rattle.tss_model.specs.Memory.{code_word, segment_range}

-- segments in address order, that share no address
abbrev pub AreApart : List SegmentState → Type 0
AreApart segments = AllPairs (λ s t. segment_end s ≤ t.base) segments

-- the first segment in which the four bytes from an address on lie
abbrev pub segment_with : List SegmentState → ℕ → Option SegmentState
segment_with segments at = find (λ s. contains (segment_range s) (record { base = at; len = 4 })) segments

-- what is kept for a pc with this word, or none: its instruction, or EBREAK
abbrev pub IsKept : Option ℕ → Instr → Type 0
IsKept word i = (i ≡ Ebreak) ⊎ ((instr_at word ≡ Some i) × (fits i ≡ true))

-- an instruction that isn't EBREAK
abbrev pub unless_break : Instr → Option Instr
unless_break Ebreak = None
unless_break i = Some i

-- these are kept for the pcs from an address on, four apart
abbrev pub AreKept : List SegmentState → ℕ → List Instr → Type 0
AreKept segments start kept =
    (k : ℕ) (i : Instr) → slice_get kept k ≡ Some i → IsKept (code_word segments (start + 4 * k)) i

-- segments, and what is kept for their words
pub record IsCode (segments : List SegmentState) (start : ℕ) (kept : List Instr) : Type 0 where
  pub apart : AreApart segments
  pub within : start + 4 * length kept ≤ END_PC
  pub each : AreKept segments start kept
