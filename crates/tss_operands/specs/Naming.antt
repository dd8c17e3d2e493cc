-- The objects that main has named in an epoch, and which it can name beside them.
use Rattle.std.specs.Prelude.{◌≡◌, ℕ, ◌<◌, ◌≤◌, ◌+◌, Bool, false, not, List, ◌++◌, length, count_by, All}
use Rattle.std.specs.List.{list_any}
use Rattle.tss_base.specs.declared.range.Range.{Range}
use Rattle.tss_base.specs.declared.operand.Operand.{Operand}
use Rattle.tss_model.specs.Spawn.{same_range, overlaps, name_objects}

-- the most objects that may be named, and those that are, in order of naming
pub record EpochState : Type 0 where
  pub limit : ℕ
  pub objects : List Range

-- the object is one of those that are named
abbrev pub is_named : List Range → Range → Bool
is_named named object = list_any (same_range object) named

-- how many objects are named with those of operands, of which no two have the same
abbrev pub count_with : List Range → List Operand → ℕ
count_with named os = length named + count_by (λ o. not (is_named named o.object)) os

-- an object that can be named: it isn't empty, meets no other named object, and is named already or fewer are named
-- than may be
pub record CanName (e : EpochState) (object : Range) : Type 0 where
  pub some : 0 < object.len
  pub apart : overlaps e.objects object ≡ false
  pub room : is_named e.objects object ≡ false → length e.objects < e.limit

-- objects that can all be named where these are: none is empty, none meets another of them or of those named, and all
-- together are no more than the limit
pub record CanNameAll (limit : ℕ) (named objects : List Range) : Type 0 where
  pub some : All (λ r. 0 < r.len) objects
  pub apart : All (λ r. overlaps (named ++ objects) r ≡ false) objects
  pub room : length (name_objects named objects) ≤ limit
