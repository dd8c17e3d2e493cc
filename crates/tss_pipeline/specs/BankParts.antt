-- The parts of a state that stand in one bank.
use Rattle.std.specs.Prelude.{ℕ, ◌==◌, Bool, true, false, List, Option, Some, None, option_map, option_and_then}
use Rattle.std.specs.FinMap.{FinMap, get}
use Rattle.std.specs.declared.cmp.Ordering.{Ordering}
use Rattle.tss_base.specs.declared.range.Range.{Range}
use Rattle.tss_base.specs.declared.operand.OpName.{OpName}
use Rattle.tss_base.specs.declared.machine.Sizes.{Sizes}
use Rattle.tss_base.specs.Names.{Named, Numbered}
use Rattle.tss_maps.specs.Ordered.{key_at}
use Rattle.tss_banks.specs.Collected.{collected}
use Rattle.tss_protocol.specs.Names.{bank_of}
use Rattle.tss_protocol.specs.State.{Entry, Version, CopyState}
use Rattle.tss_events.specs.Events.{storage_name}
use Rattle.tss_versions.specs.declared.version_view.VersionView.{VersionView}
use Rattle.tss_pipeline.specs.declared.bank.Job.{Job}

-- a value where a test passes
abbrev pub value_if : {X : Type 0} → X → Bool → Option X
value_if x true = Some x
value_if x false = None

-- what stands under the key at a place, from 0, in order
abbrev pub value_at : {K X : Type 0} {R : K → K → Ordering} → FinMap R X → ℕ → Option X
value_at m i = option_and_then (get m) (key_at m i)

-- the entries of a bank's objects
abbrev pub entries_at : Sizes → ℕ → Numbered Entry → Numbered Entry
entries_at sizes bank entries = collected (λ base e. value_if e (bank_of sizes e.object == bank)) entries

-- the places, or the buffers, that are held of a bank
abbrev pub names_at : ℕ → Named ℕ → Named ℕ
names_at bank held = collected (λ v b. value_if b (b == bank)) held

-- the contents of a buffer that is held under a name
abbrev pub contents_under : Named ℕ → Named (List ℕ) → OpName → Option (List ℕ)
contents_under held contents name = option_and_then (λ bank. get contents name) (get held name)

-- the versions of a bank's objects
abbrev pub versions_at : Sizes → ℕ → Named Version → Named Version
versions_at sizes bank versions = collected (λ v x. value_if x (bank_of sizes x.object == bank)) versions

-- what is shown of a version, as the definitions have it
abbrev pub version_shown : VersionView → Version
version_shown x = record {
  object = x.object;
  storage = option_map storage_name x.storage;
  produced = x.produced;
  registered = x.registered;
  released = x.released;
  head = x.head;
  tail = x.tail;
  predecessor = x.predecessor;
  successor = x.successor;
  asked = x.asked;
  refused = x.refused;
}

-- the version and the object of a copy, as it is shown, as a bank has it, and as the definitions have it
abbrev pub copy_shown : OpName × Range × ℕ → OpName × Range
copy_shown c = (c.0, c.1)

abbrev pub job_told : Job → OpName × Range
job_told j = (j.version, j.object)

abbrev pub copy_told : CopyState → OpName × Range
copy_told c = (c.version, c.object)
