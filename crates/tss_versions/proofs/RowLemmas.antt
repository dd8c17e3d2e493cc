-- The changes and messages of the rows, without their tokens, are those of the definitions.
use Rattle.std.proofs.Common.{◌≡◌, ℕ, suc, Bool, true, false, if◌then◌else◌, List, ◌∷◌, Option, Some, None, refl, sym, ap, ◌∙◌, option_map}
use Rattle.std.specs.FinMap.{get, insert, remove}
use Rattle.std.proofs.lemmas.List.{map-append}
use Rattle.tss_base.specs.declared.operand.OpName.{OpName}
use Rattle.tss_base.specs.declared.operand.Storage.{Storage}
use Rattle.tss_base.specs.Names.{Named}
use Rattle.tss_maps.proofs.Keys.{name_order}
use Rattle.tss_maps.proofs.MappedLemmas.{get-mapped, mapped-insert, mapped-remove}
use Rattle.tss_protocol.specs.State.{Version}
use Rattle.tss_protocol.specs.Versions.{Versioned, Settling, sending, version_changed, change_version, change_named, ready_with, buffer_of, died, may_ask, may_die, followed_by, unlinked, settle_over, settle_how, settle_asking, unchanged, settle_by, settle_at, settle}
use Rattle.tss_events.specs.Events.{storage_name, message_of, messages_of}
use Rattle.tss_events.specs.declared.message.Message.{Message}
use Rattle.tss_events.specs.declared.message.Message.TheVariants as message
use Rattle.tss_versions.specs.declared.kept.Kept.{Kept}
use Rattle.tss_versions.specs.declared.kept.Store.{Store}
use Rattle.tss_versions.specs.declared.kept.Store.TheVariants as store
use Rattle.tss_versions.specs.declared.status.Site.{Site}
use Rattle.tss_versions.specs.declared.status.Next.{Next}
use Rattle.tss_versions.specs.Known.{storage_in, buffer_in, follow_of, version_of, versions_of, linked_to}
use Rattle.tss_versions.specs.Rows.{Left, row_of, sending_first, same, changed_kept, change_kept, change_site, ready_by, gone_by, asked_kept, asking_by, asking_at, asking, bridged_kept, moved_kept, unlinked_kept, stored_kept, taken_over}

-- ---- changes

-- what stands under a name
pub get-versions_of : (vs : Named Kept) (v : OpName) → get (versions_of vs) v ≡ option_map version_of (get vs v)
get-versions_of vs v = get-mapped version_of vs v

-- one that stands there
pub version_there : (vs : Named Kept) (v : OpName) (x : Kept) → get vs v ≡ Some x → get (versions_of vs) v ≡ Some (version_of x)
version_there vs v x e = get-versions_of vs v ∙ ap (option_map version_of) e

-- a version put under a name
pub insert_row : (vs : Named Kept) (v : OpName) (x : Kept) (y : Version) → version_of x ≡ y →
    versions_of (insert vs v x) ≡ insert (versions_of vs) v y
insert_row vs v x y e = mapped-insert name_order version_of vs v x ∙ ap (insert (versions_of vs) v) e

module _ (f : Kept → Kept) (g : Version → Version) (alike : (x : Kept) → version_of (f x) ≡ g (version_of x)) (vs : Named Kept) where
  changed_row : (v : OpName) (o : Option Kept) →
      versions_of (changed_kept vs v f o) ≡ version_changed (versions_of vs) v g (option_map version_of o)
  changed_row v None = refl
  changed_row v (Some x) = insert_row vs v (f x) (g (version_of x)) (alike x)

  -- a version that is changed
  pub change_row : (v : OpName) → versions_of (change_kept vs v f) ≡ change_version (versions_of vs) v g
  change_row v =
      changed_row v (get vs v) ∙ ap (version_changed (versions_of vs) v g) (sym (get-versions_of vs v))

  -- and one that may not be named
  pub site_row : (o : Option Site) →
      versions_of (change_site vs o f) ≡ change_named (versions_of vs) (option_map (λ (s : Site). s.name) o) g
  site_row None = refl
  site_row (Some s) = change_row s.name

linked_row : (next : Site) (o : Option Next) →
    option_map follow_of (linked_to next o) ≡ followed_by next.name (option_map follow_of o)
linked_row next None = refl
linked_row next (Some n) = refl

-- a version that is taken out from between its neighbours
pub unlinked_row : (vs : Named Kept) (v : OpName) (x : Kept) (next : Site) →
    versions_of (unlinked_kept vs v x next) ≡ unlinked (versions_of vs) v (version_of x) next.name
unlinked_row vs v x next =
    change_row (moved_kept x) (λ y. record y { predecessor = (version_of x).predecessor }) (λ y. refl)
    (change_site (remove vs v) x.status.predecessor (bridged_kept next)) next.name
    ∙ ap (λ m. change_version m next.name (λ y. record y { predecessor = (version_of x).predecessor }))
    (site_row (bridged_kept next) (λ q. record q { successor = followed_by next.name q.successor })
    (λ q. ap (λ o. record (version_of q) { successor = o }) (linked_row next q.status.successor))
    (remove vs v) x.status.predecessor
    ∙ ap (λ m. change_named m (version_of x).predecessor (λ q. record q { successor = followed_by next.name q.successor }))
    (mapped-remove name_order version_of vs v))

-- ---- messages

-- a ready
pub ready_row : (o v : OpName) (storage : Option Storage) →
    messages_of (ready_by o v storage) ≡ ready_with o v (option_map storage_name storage)
ready_row o v None = refl
ready_row o v (Some storage) = refl

buffer_row : (s : Option Store) → option_map (λ b. b.name) (buffer_in s) ≡ buffer_of (option_map storage_name (storage_in s))
buffer_row None = refl
buffer_row (Some store.Home) = refl
buffer_row (Some (store.Buffer held)) = refl

-- a gone
pub gone_row : (v : OpName) (x : Kept) →
    message_of (message.Gone (gone_by v x false)) ≡ died v (version_of x).object (buffer_of (version_of x).storage)
gone_row v x = ap (died v x.status.object) (buffer_row x.store)

-- messages before those of a row
pub sending_row : (ms : List Message) (d : Left) → row_of (sending_first ms d) ≡ sending (messages_of ms) (row_of d)
sending_row ms d = λ i. record { part = versions_of d.part; sent = map-append message_of ms d.sent i }

-- ---- asking

module _ (vs : Named Kept) (v : OpName) (x : Kept) where
  -- a version asks
  asked_row : row_of (asked_kept vs v x) ≡ settle_asking (versions_of vs) v (version_of x)
  asked_row = λ i. record {
    part =
        insert_row vs v (record x { status = record (x.status) { asked = Some x.status.registered } })
        (record (version_of x) { asked = Some x.status.registered }) refl i;
    sent = messages_of (asked_kept vs v x).sent;
  }

  asked_if : (b : Bool) → row_of (if b then asked_kept vs v x else same vs) ≡ (if b then settle_asking (versions_of vs) v (version_of x) else unchanged (versions_of vs))
  asked_if true = asked_row
  asked_if false = refl

  -- where no other follows it
  pub asking_last : (go : Settling) → row_of (asking_by vs v x None) ≡ settle_by (versions_of vs) v (version_of x) go None
  asking_last go = asked_if (may_ask (version_of x))

  -- or one does, and it isn't done
  pub asking_row : (go : Settling) (o : Option Next) →
      ((n : Next) → o ≡ Some n → may_die (version_of x) n.last ≡ false) →
      row_of (asking_by vs v x o) ≡ settle_by (versions_of vs) v (version_of x) go (option_map follow_of o)
  asking_row go None calm = asking_last go
  asking_row go (Some n) calm =
      sym (ap (λ b. if b then settle_how_of go n else unchanged (versions_of vs)) (calm n refl))
    where
      settle_how_of : Settling → Next → Versioned
      settle_how_of go n = settle_how (versions_of vs) v (version_of x) (follow_of n) go n.how

-- ---- settle, one version further

-- at a version that is there
pub settle_there : (n : ℕ) (vs : Named Version) (v : OpName) (y : Version) → get vs v ≡ Some y →
    settle (suc n) vs v ≡ settle_by vs v y (settle n) y.successor
unfolding settle
settle_there n vs v y e = ap (settle_at vs v (settle n)) e

pub settle_absent : (n : ℕ) (vs : Named Version) (v : OpName) → get vs v ≡ None → settle (suc n) vs v ≡ unchanged vs
unfolding settle
settle_absent n vs v e = ap (settle_at vs v (settle n)) e

-- a version whose successor isn't done asks or does nothing
asking_by_there : (n : ℕ) (vs : Named Kept) (v : OpName) (o : Option Kept) → get vs v ≡ o →
    ((x : Kept) (m : Next) → get vs v ≡ Some x → x.status.successor ≡ Some m → may_die (version_of x) m.last ≡ false) →
    row_of (asking_at vs v o) ≡ settle (suc n) (versions_of vs) v
asking_by_there n vs v None e calm =
    sym (settle_absent n (versions_of vs) v (get-versions_of vs v ∙ ap (option_map version_of) e))
asking_by_there n vs v (Some x) e calm =
    asking_row vs v x (settle n) x.status.successor (λ m to. calm x m e to)
    ∙ sym (settle_there n (versions_of vs) v (version_of x) (version_there vs v x e))

pub asking_settled : (n : ℕ) (vs : Named Kept) (v : OpName) →
    ((x : Kept) (m : Next) → get vs v ≡ Some x → x.status.successor ≡ Some m → may_die (version_of x) m.last ≡ false) →
    row_of (asking vs v) ≡ settle (suc n) (versions_of vs) v
asking_settled n vs v calm = asking_by_there n vs v (get vs v) refl calm

-- a version that takes another one's storage
pub over_row : (vs : Named Kept) (v : OpName) (x : Kept) (next : Site) →
    row_of (taken_over vs v x next) ≡ settle_over (versions_of vs) v (version_of x) next.name
over_row vs v x next = λ i. record {
  part =
      (change_row (stored_kept x) (λ y. record y { storage = (version_of x).storage }) (λ y. refl)
      (unlinked_kept vs v x next) next.name
      ∙ ap (λ m. change_version m next.name (λ y. record y { storage = (version_of x).storage })) (unlinked_row vs v x next)) i;
  sent = died v x.status.object None ∷ ready_row next.name next.name (storage_in x.store) i;
}
