-- What contracts see of a bank of versions, and the definitions' versions.
use Rattle.std.specs.Prelude.{◌≡◌, ℕ, true, false, Option, Some, None, option_map, refl}
use Rattle.std.specs.Coded.{Coded, code_by, coded×, coded_ℕ}
use Rattle.std.specs.FinMap.{get}
use Rattle.tss_base.specs.declared.range.Range.{Range}
use Rattle.tss_base.specs.declared.operand.OpName.{OpName}
use Rattle.tss_base.specs.declared.operand.Mode.{Mode}
use Rattle.tss_base.specs.declared.operand.Mode.TheVariants.{Input, Output, Inout}
use Rattle.tss_base.specs.declared.operand.Storage.{Storage}
use Rattle.tss_base.specs.declared.operand.Storage.TheVariants as storage
use Rattle.tss_base.specs.declared.marks.Follow.{Follow}
use Rattle.tss_base.specs.Names.{Named}
use Rattle.tss_maps.specs.Mapped.{mapped}
use Rattle.tss_tokens.specs.Pool.{TokenState}
use Rattle.tss_protocol.specs.Codes.{named}
use Rattle.tss_protocol.specs.Mail.{StorageName}
use Rattle.tss_protocol.specs.State.{Version}
use Rattle.tss_events.specs.Events.{storage_name}
use Rattle.tss_events.specs.declared.message.HeldBuffer.{HeldBuffer}
use Rattle.tss_versions.specs.contracts.kept.Kept as kept
use Rattle.tss_versions.specs.declared.kept.Kept.{Kept}
use Rattle.tss_versions.specs.declared.kept.Store.{Store}
use Rattle.tss_versions.specs.declared.kept.Store.TheVariants as store
use Rattle.tss_versions.specs.declared.status.Site.{Site}
use Rattle.tss_versions.specs.declared.status.Next.{Next}
use Rattle.tss_versions.specs.declared.status.Status.{Status}
use Rattle.tss_versions.specs.declared.version_view.VersionView.{VersionView}

-- ---- the bank

-- how many places there are, and the versions under their names
pub record VersionsState : Type 0 where
  pub size : ℕ
  pub versions : Named Kept

abbrev pub versions_code : Coded VersionsState
versions_code =
    code_by (ℕ × Named Kept) (coded× coded_ℕ (named (kept.the_row).coded)) (λ s. (s.size, s.versions))
    (λ p. record { size = p.0; versions = p.1 }) (λ _. refl)

-- ---- storages

-- where a version's value lies, with the place of its buffer
abbrev pub storage_of : Store → Storage
storage_of store.Home = storage.Home
storage_of (store.Buffer held) = storage.Buffer held.token.place held.name

-- if anywhere
abbrev pub storage_in : Option Store → Option Storage
storage_in None = None
storage_in (Some s) = Some (storage_of s)

-- the buffer, if its value lies in one
abbrev pub buffer_in : Option Store → Option HeldBuffer
buffer_in None = None
buffer_in (Some store.Home) = None
buffer_in (Some (store.Buffer held)) = Some held

-- a buffer's token is there exactly where the storage is a buffer, and is of its place
abbrev pub IsHeld : Option Storage → Option TokenState → Type 0
IsHeld (Some (storage.Buffer place name)) (Some token) = token.place ≡ place
IsHeld (Some storage.Home) None = Unit {0}
IsHeld None None = Unit {0}
IsHeld s t = ⊥

-- the storage with its buffer's token
abbrev pub store_by : Option Storage → Option TokenState → Option Store
store_by (Some (storage.Buffer place name)) (Some token) = Some (store.Buffer (record { name = name; token = token }))
store_by (Some storage.Home) None = Some store.Home
store_by s t = None

-- its tokens have the numbers of these pools of places and buffers
pub record HasNumbers (places buffers : ℕ) (x : Kept) : Type 0 where
  pub place : x.place.number ≡ places
  pub buffer : (held : HeldBuffer) → buffer_in x.store ≡ Some held → held.token.number ≡ buffers

-- those of all versions have
abbrev pub AreNumbered : ℕ → ℕ → Named Kept → Type 0
AreNumbered places buffers vs = (v : OpName) (x : Kept) → get vs v ≡ Some x → HasNumbers places buffers x

-- ---- the definitions' versions, which know storages by their names alone

-- the link to the version that follows
abbrev pub follow_of : Next → Follow
follow_of n = record { version = n.site.name; how = n.how; last = n.last }

-- a version with a storage
abbrev pub version_by : Option StorageName → Status → Version
version_by storage x = record {
  object = x.object;
  storage = storage;
  produced = x.produced;
  registered = x.registered;
  released = x.released;
  head = x.head;
  tail = x.tail;
  predecessor = option_map (λ (s : Site). s.name) x.predecessor;
  successor = option_map follow_of x.successor;
  asked = x.asked;
  refused = x.refused;
}

-- a version
abbrev pub version_of : Kept → Version
version_of x = version_by (option_map storage_name (storage_in x.store)) x.status

-- the versions
abbrev pub versions_of : Named Kept → Named Version
versions_of vs = mapped version_of vs

-- ---- what is known of a version

-- of a new version, by the one before it
abbrev pub behind_status : Range → Option Site → Status
behind_status object predecessor = record {
  object = object;
  produced = false;
  registered = 0;
  released = 0;
  head = None;
  tail = None;
  predecessor = predecessor;
  successor = None;
  asked = None;
  refused = None;
}

-- of the first version of an object
abbrev pub first_status : OpName → Range → Mode → Status
first_status o object Input = record {
  object = object;
  produced = true;
  registered = 1;
  released = 0;
  head = None;
  tail = Some o;
  predecessor = None;
  successor = None;
  asked = None;
  refused = None;
}
first_status o object Output = behind_status object None
first_status o object Inout = behind_status object None

-- the same link to another version
abbrev pub linked_to : Site → Option Next → Option Next
linked_to s None = None
linked_to s (Some n) = Some (record n { site = s })

-- one that another version follows
abbrev pub followed_status : Site → Status → Status
followed_status s x = record x { successor = linked_to s x.successor }

-- ---- places

-- a version of this name stands at this place
abbrev pub IsAt : Named Kept → Site → Type 0
IsAt vs at = (x : Kept) × (get vs at.name ≡ Some x) × (x.place.place ≡ at.place)

-- a version of this name, if it is registered, stands at this place
abbrev pub IsRight : Named Kept → Site → Type 0
IsRight vs at = (x : Kept) → get vs at.name ≡ Some x → x.place.place ≡ at.place

-- the versions before and after one stand where its links say
pub record HaveSites (vs : Named Kept) (x : Status) : Type 0 where
  pub before : (s : Site) → x.predecessor ≡ Some s → IsRight vs s
  pub after : (n : Next) → x.successor ≡ Some n → IsRight vs n.site

-- the site of a version
abbrev pub site_of : OpName → Kept → Site
site_of v x = record { name = v; place = x.place.place }

-- ---- what is shown

-- of a version
abbrev pub view_of : OpName → Kept → VersionView
view_of v x = record {
  name = v;
  object = x.status.object;
  storage = storage_in x.store;
  produced = x.status.produced;
  registered = x.status.registered;
  released = x.status.released;
  head = x.status.head;
  tail = x.status.tail;
  predecessor = option_map (λ (s : Site). s.name) x.status.predecessor;
  successor = option_map follow_of x.status.successor;
  asked = x.status.asked;
  refused = x.status.refused;
}

-- by its name
abbrev pub view_in : Named Kept → OpName → Option VersionView
view_in vs v = option_map (view_of v) (get vs v)
