-- The versions of a map one after another.
use Rattle.std.specs.Prelude.{Bool, true, if◌then◌else◌, Option, Some, None, find}
use Rattle.std.specs.Ordering.{is_lt}
use Rattle.std.specs.FinMap.{entries}
use Rattle.tss_base.specs.declared.operand.OpName.{OpName}
use Rattle.tss_base.specs.Names.{Named, name_cmp}
use Rattle.tss_protocol.specs.State.{Version}
use Rattle.tss_versions.specs.declared.version_view.VersionView.{VersionView}
use Rattle.tss_state_lines.specs.Shown.{version_of}

-- a name is above another, or there is no other
abbrev pub is_above : Option OpName → OpName → Bool
is_above None v = true
is_above (Some last) v = is_lt (name_cmp last v)

-- the first version above a name, or the first of all where there is no name
abbrev pub next_entry : Named Version → Option OpName → Option (OpName × Version)
next_entry vs last = find (λ e. is_above last e.0) (entries vs)

-- what is shown of a version: its name, and the version
abbrev pub shown : VersionView → OpName × Version
shown x = (x.name, version_of x)

-- the earlier of two versions by name, where there are any
abbrev pub earlier : Option VersionView → Option VersionView → Option VersionView
earlier None o = o
earlier (Some a) None = Some a
earlier (Some a) (Some b) = Some (if is_lt (name_cmp b.name a.name) then b else a)
