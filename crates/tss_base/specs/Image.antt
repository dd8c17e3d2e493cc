-- What a contract sees of a segment and of an image, and what an accepted image is.
use Rattle.std.specs.Prelude.{◌≡◌, ℕ, ◌+◌, ◌%◌, ◌<◌, ◌≤◌, Bool, true, List, length, sum_by, All, AllPairs, Any}
use Rattle.tss_base.specs.declared.addresses.TheConstants.{SEGMENTS_END}
use Rattle.tss_base.specs.declared.bounds.TheConstants.{MAX_SEGMENTS, MAX_IMAGE_BYTES}

-- a segment: its bytes from the base on, and its flags
pub record SegmentState : Type 0 where
  pub base : ℕ
  pub bytes : List ℕ
  pub writable : Bool
  pub code : Bool

-- an image: the address of its first instruction, and its segments
pub record ImageState : Type 0 where
  pub entry : ℕ
  pub segments : List SegmentState

-- the address after a segment's last
abbrev pub segment_end : SegmentState → ℕ
segment_end s = s.base + length s.bytes

-- it has a byte, and ends in time
abbrev pub IsSegment : SegmentState → Type 0
IsSegment s = (0 < length s.bytes) × (segment_end s ≤ SEGMENTS_END)

-- the four bytes from an address on lie in this segment, which can be executed
abbrev pub HasCodeAt : ℕ → SegmentState → Type 0
HasCodeAt at s = (s.code ≡ true) × (s.base ≤ at) × (at + 4 ≤ segment_end s)

-- an image that can be run: a few segments in address order that share no address and are not too large together, and
-- an entry in one that can be executed
pub record IsAccepted (i : ImageState) : Type 0 where
  pub some : 0 < length i.segments
  pub few : length i.segments ≤ MAX_SEGMENTS
  pub each : All IsSegment i.segments
  pub ordered : AllPairs (λ s t. segment_end s ≤ t.base) i.segments
  pub small : sum_by (λ s. length s.bytes) i.segments ≤ MAX_IMAGE_BYTES
  pub aligned : i.entry % 4 ≡ 0
  pub entered : Any (HasCodeAt i.entry) i.segments
