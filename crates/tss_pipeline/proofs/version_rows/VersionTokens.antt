-- The rows of the versioning tables keep what is known of the tokens of versions, and of messages that say that they
-- are gone.
use Rattle.std.proofs.Common.{◌≡◌, suc, Bool, true, false, List, [], ◌∷◌, ◌++◌, Option, Some, None, refl, sym, subst, inl, inr}
use Rattle.std.specs.Prelude.{if◌then◌else◌}
use Rattle.std.specs.FinMap.{get, insert, remove}
use Rattle.std.proofs.lemmas.Option.{none-some}
use Rattle.tss_base.specs.declared.range.Range.{Range}
use Rattle.tss_base.specs.declared.operand.OpName.{OpName}
use Rattle.tss_base.specs.declared.operand.Mode.{Mode}
use Rattle.tss_base.specs.declared.operand.Mode.TheVariants.{Input, Output, Inout}
use Rattle.tss_base.specs.declared.operand.Storage.{Storage}
use Rattle.tss_base.specs.declared.marks.How.{How}
use Rattle.tss_base.specs.declared.marks.How.TheVariants.{Beside, Over}
use Rattle.tss_base.specs.declared.marks.Follow.{Follow}
use Rattle.tss_base.specs.Names.{Named}
use Rattle.tss_maps.proofs.Keys.{name_order}
use Rattle.tss_maps.proofs.Changes.{from_inserted, from_removed}
use Rattle.tss_tokens.specs.Pool.{TokenState}
use Rattle.tss_protocol.specs.Versions.{may_ask, may_die, tail_without}
use Rattle.tss_events.specs.declared.message.HeldBuffer.{HeldBuffer}
use Rattle.tss_events.specs.declared.message.Opening.{Opening}
use Rattle.tss_events.specs.declared.message.Gone.{Gone}
use Rattle.tss_events.specs.declared.message.Message.{Message}
use Rattle.tss_events.specs.declared.message.Message.TheVariants as message
use Rattle.tss_versions.specs.declared.kept.Kept.{Kept}
use Rattle.tss_versions.specs.declared.status.Site.{Site}
use Rattle.tss_versions.specs.declared.status.Next.{Next}
use Rattle.tss_versions.specs.declared.status.Status.{Status}
use Rattle.tss_versions.specs.Known.{storage_in, buffer_in, store_by, version_of, first_status, behind_status}
use Rattle.tss_versions.specs.Rows.{Left, sending_first, same, with_status, changed_kept, change_kept, change_site, ready_by, gone_by, gone_over, asked_kept, asking_by, asking_at, asking, bridged_kept, moved_kept, unlinked_kept, passed_by, stored_kept, taken_over, gives_way, settled_by, settled_at, settled_kept, opened_kept, first_kept, linked_kept, behind_kept, ready_beside, followed_kept, followed_at, opened_by, kept_after_open, alone_kept, used_kept, used_by, kept_after_use, head_by, leaving_kept, released_by, kept_after_release, refused_kept, nacked_by, kept_after_nack}

-- what is known of the token of a version's place, by its name and object, and of its buffer
module _ (P : OpName → Range → TokenState → Type 0) (Q : HeldBuffer → Type 0) where
  -- of a version
  pub record Knows (v : OpName) (x : Kept) : Type 0 where
    pub place : P v x.status.object x.place
    pub buffer : (h : HeldBuffer) → buffer_in x.store ≡ Some h → Q h

  -- of all versions
  abbrev pub KnowsAll : Named Kept → Type 0
  KnowsAll vs = (v : OpName) (x : Kept) → get vs v ≡ Some x → Knows v x

  -- of a version that is gone
  pub record KnowsGone (g : Gone) : Type 0 where
    pub place : P g.version g.object g.place
    pub buffer : (h : HeldBuffer) → g.buffer ≡ Some h → Q h

  -- of a new version
  pub record KnowsOpening (m : Opening) : Type 0 where
    pub place : P m.o m.operand.object m.place
    pub buffer : (h : HeldBuffer) → buffer_in (store_by m.storage m.buffer) ≡ Some h → Q h

  -- of a message that a bank of versions sends
  abbrev pub KnowsSent : Message → Type 0
  KnowsSent (message.Gone g) = KnowsGone g
  KnowsSent (message.Open x) = ⊥
  KnowsSent (message.Decode o p) = ⊥
  KnowsSent m = Unit {0}

  -- of all messages
  abbrev pub KnowsEach : List Message → Type 0
  KnowsEach [] = Unit {0}
  KnowsEach (m ∷ ms) = KnowsSent m × KnowsEach ms

  -- of the versions that are left, and the messages that are sent
  pub record KnowsLeft (d : Left) : Type 0 where
    pub part : KnowsAll d.part
    pub sent : KnowsEach d.sent

  same_left : (vs : Named Kept) → KnowsAll vs → KnowsLeft (same vs)
  same_left vs n = record { part = n; sent = tt }

  -- ---- changes

  status_known : (v : OpName) (x : Kept) (s : Status) → s.object ≡ x.status.object → Knows v x
      → Knows v (with_status x s)
  status_known v x s object h = record {
    place = subst (λ r. P v r x.place) (sym object) h.place;
    buffer = h.buffer;
  }

  inserted_known : (vs : Named Kept) (v : OpName) (y : Kept) → KnowsAll vs → Knows v y → KnowsAll (insert vs v y)
  inserted_known vs v y n h w x e = elim (from_inserted name_order vs v y w x e) [
    | inl new ↦ subst (λ w. Knows w x) (sym new.0) (subst (Knows v) (sym new.1) h)
    | inr old ↦ n w x old.1
  ]

  pub removed_known : (vs : Named Kept) (v : OpName) → KnowsAll vs → KnowsAll (remove vs v)
  removed_known vs v n w x e = n w x (from_removed name_order vs v w x e).1

  written_known : (vs : Named Kept) (v : OpName) (x : Kept) (s : Status) → KnowsAll vs → get vs v ≡ Some x
      → s.object ≡ x.status.object → KnowsAll (insert vs v (with_status x s))
  written_known vs v x s n e object =
      inserted_known vs v (with_status x s) n (status_known v x s object (n v x e))

  changed_known : (vs : Named Kept) (v : OpName) (f : Kept → Kept) (o : Option Kept) → KnowsAll vs
      → ((x : Kept) → Knows v x → Knows v (f x)) → get vs v ≡ o → KnowsAll (changed_kept vs v f o)
  changed_known vs v f None n keeps e = n
  changed_known vs v f (Some x) n keeps e = inserted_known vs v (f x) n (keeps x (n v x e))

  change_known : (vs : Named Kept) (v : OpName) (f : Kept → Kept) → KnowsAll vs
      → ((x : Kept) → Knows v x → Knows v (f x)) → KnowsAll (change_kept vs v f)
  change_known vs v f n keeps = changed_known vs v f (get vs v) n keeps refl

  site_known : (vs : Named Kept) (o : Option Site) (f : Kept → Kept) → KnowsAll vs
      → ((v : OpName) (x : Kept) → Knows v x → Knows v (f x)) → KnowsAll (change_site vs o f)
  site_known vs None f n keeps = n
  site_known vs (Some s) f n keeps = change_known vs s.name f n (keeps s.name)

  -- ---- messages

  both_known : (ms ns : List Message) → KnowsEach ms → KnowsEach ns → KnowsEach (ms ++ ns)
  both_known [] ns h k = k
  both_known (m ∷ ms) ns h k = (h.0, both_known ms ns h.1 k)

  ready_known : (o v : OpName) (s : Option Storage) → KnowsEach (ready_by o v s)
  ready_known o v None = tt
  ready_known o v (Some s) = (tt, tt)

  pub gone_known : (v : OpName) (x : Kept) (retired : Bool) → Knows v x → KnowsGone (gone_by v x retired)
  gone_known v x retired h = record { place = h.place; buffer = h.buffer }

  over_known : (v : OpName) (x : Kept) → Knows v x → KnowsGone (gone_over v x)
  over_known v x h = record { place = h.place; buffer = λ held e. absurd (none-some held e) }

  first_known : (ms : List Message) (d : Left) → KnowsEach ms → KnowsLeft d → KnowsLeft (sending_first ms d)
  first_known ms d h n = record { part = n.part; sent = both_known ms d.sent h n.sent }

  -- ---- settle

  asked_known : (vs : Named Kept) (v : OpName) (x : Kept) → KnowsAll vs → get vs v ≡ Some x → (c : Bool)
      → KnowsLeft (if c then asked_kept vs v x else same vs)
  asked_known vs v x n e true = record {
    part = written_known vs v x (record (x.status) { asked = Some x.status.registered }) n e refl;
    sent = (tt, tt);
  }
  asked_known vs v x n e false = same_left vs n

  asking_by_known : (vs : Named Kept) (v : OpName) (x : Kept) → KnowsAll vs → get vs v ≡ Some x → (o : Option Next)
      → KnowsLeft (asking_by vs v x o)
  asking_by_known vs v x n e None = asked_known vs v x n e (may_ask (version_of x))
  asking_by_known vs v x n e (Some m) = same_left vs n

  asking_at_known : (vs : Named Kept) (v : OpName) (o : Option Kept) → KnowsAll vs → get vs v ≡ o
      → KnowsLeft (asking_at vs v o)
  asking_at_known vs v None n e = same_left vs n
  asking_at_known vs v (Some x) n e = asking_by_known vs v x n e x.status.successor

  unlinked_known : (vs : Named Kept) (v : OpName) (x : Kept) (next : Site) → KnowsAll vs
      → KnowsAll (unlinked_kept vs v x next)
  unlinked_known vs v x next n =
      change_known (change_site (remove vs v) x.status.predecessor (bridged_kept next)) next.name (moved_kept x)
      (site_known (remove vs v) x.status.predecessor (bridged_kept next) (removed_known vs v n)
      (λ w q h. record { place = h.place; buffer = h.buffer }))
      (λ y h. record { place = h.place; buffer = h.buffer })

  passed_known : (vs : Named Kept) (v : OpName) (x : Kept) (next : Site) → KnowsAll vs → Knows v x
      → KnowsLeft (passed_by vs v x next)
  passed_known vs v x next n h =
      first_known (message.Gone (gone_by v x false) ∷ []) (asking (unlinked_kept vs v x next) next.name)
      (gone_known v x false h, tt)
      (asking_at_known (unlinked_kept vs v x next) next.name (get (unlinked_kept vs v x next) next.name)
      (unlinked_known vs v x next n) refl)

  taken_known : (vs : Named Kept) (v : OpName) (x : Kept) (next : Site) → KnowsAll vs → Knows v x
      → KnowsLeft (taken_over vs v x next)
  taken_known vs v x next n h = record {
    part =
        change_known (unlinked_kept vs v x next) next.name (stored_kept x) (unlinked_known vs v x next n)
        (λ y k. record { place = k.place; buffer = h.buffer });
    sent = (over_known v x h, ready_known next.name next.name (storage_in x.store));
  }

  gives_known : (vs : Named Kept) (v : OpName) (x : Kept) (m : Next) → KnowsAll vs → Knows v x → (h : How)
      → KnowsLeft (gives_way vs v x m h)
  gives_known vs v x m n k Beside = passed_known vs v x m.site n k
  gives_known vs v x m n k Over = taken_known vs v x m.site n k

  done_known : (vs : Named Kept) (v : OpName) (x : Kept) (m : Next) → KnowsAll vs → Knows v x → (c : Bool)
      → KnowsLeft (if c then gives_way vs v x m m.how else same vs)
  done_known vs v x m n k true = gives_known vs v x m n k m.how
  done_known vs v x m n k false = same_left vs n

  settled_by_known : (vs : Named Kept) (v : OpName) (x : Kept) → KnowsAll vs → get vs v ≡ Some x → (o : Option Next)
      → KnowsLeft (settled_by vs v x o)
  settled_by_known vs v x n e None = asking_by_known vs v x n e None
  settled_by_known vs v x n e (Some m) = done_known vs v x m n (n v x e) (may_die (version_of x) m.last)

  settled_at_known : (vs : Named Kept) (v : OpName) (o : Option Kept) → KnowsAll vs → get vs v ≡ o
      → KnowsLeft (settled_at vs v o)
  settled_at_known vs v None n e = same_left vs n
  settled_at_known vs v (Some x) n e = settled_by_known vs v x n e x.status.successor

  settled_known : (vs : Named Kept) (v : OpName) → KnowsAll vs → KnowsLeft (settled_kept vs v)
  settled_known vs v n = settled_at_known vs v (get vs v) n refl

  -- ---- open

  first_object : (o : OpName) (object : Range) (mode : Mode) → (first_status o object mode).object ≡ object
  first_object o object Input = refl
  first_object o object Output = refl
  first_object o object Inout = refl

  module _ (vs : Named Kept) (m : Opening) (n : KnowsAll vs) (h : KnowsOpening m) where
    opened_known : (status : Status) → status.object ≡ m.operand.object → Knows m.o (opened_kept m status)
    opened_known status object = record {
      place = subst (λ r. P m.o r m.place) (sym object) h.place;
      buffer = h.buffer;
    }

    opens_first : KnowsLeft (first_kept vs m)
    opens_first = record {
      part =
          inserted_known vs m.o (opened_kept m (first_status m.o m.operand.object m.operand.mode)) n
          (opened_known (first_status m.o m.operand.object m.operand.mode)
          (first_object m.o m.operand.object m.operand.mode));
      sent = ready_known m.o m.o m.storage;
    }

    behind_known : (f : Follow) (before : Site) → KnowsAll (behind_kept vs m f before)
    behind_known f before =
        change_known (insert vs m.o (opened_kept m (behind_status m.operand.object (Some before)))) before.name
        (linked_kept m f)
        (inserted_known vs m.o (opened_kept m (behind_status m.operand.object (Some before))) n
        (opened_known (behind_status m.operand.object (Some before)) refl))
        (λ x k. record { place = k.place; buffer = k.buffer })

    beside_known : (h : How) → KnowsEach (ready_beside m h)
    beside_known Beside = ready_known m.o m.o m.storage
    beside_known Over = tt

    opens_behind : (f : Follow) (before : Site) → KnowsLeft (followed_kept vs m f before)
    opens_behind f before =
        first_known (ready_beside m f.how) (settled_kept (behind_kept vs m f before) before.name) (beside_known f.how)
        (settled_known (behind_kept vs m f before) before.name (behind_known f before))

    opens_at : (f : Follow) (o : Option Kept) → KnowsLeft (followed_at vs m f o)
    opens_at f None = same_left vs n
    opens_at f (Some x) = opens_behind f (record { name = f.version; place = x.place.place })

    opens_by : (o : Option Follow) → KnowsLeft (opened_by vs m o)
    opens_by None = opens_first
    opens_by (Some f) = opens_at f (get vs f.version)

    -- after an open
    pub open_known : KnowsLeft (kept_after_open vs m)
    open_known = opens_by m.follows

  -- ---- use

  module _ (vs : Named Kept) (o v : OpName) (n : KnowsAll vs) where
    alone_known : (x : Kept) → get vs v ≡ Some x → (c : Bool) → KnowsLeft (alone_kept vs o v x c)
    alone_known x e true = record {
      part = written_known vs v x (record (x.status) { registered = suc x.status.registered; tail = Some o }) n e refl;
      sent = ready_known o v (storage_in x.store);
    }
    alone_known x e false = record {
      part =
          written_known vs v x
          (record (x.status) { registered = suc x.status.registered; tail = Some o; head = Some o }) n e refl;
      sent = tt;
    }

    used_known : (x : Kept) → get vs v ≡ Some x → (t : Option OpName) → KnowsLeft (used_kept vs o v x t)
    used_known x e None = alone_known x e x.status.produced
    used_known x e (Some last) = record {
      part = written_known vs v x (record (x.status) { registered = suc x.status.registered; tail = Some o }) n e refl;
      sent = (tt, tt);
    }

    used_by_known : (k : Option Kept) → get vs v ≡ k → KnowsLeft (used_by vs o v k)
    used_by_known None e = same_left vs n
    used_by_known (Some x) e = used_known x e x.status.tail

    -- after a use
    pub use_known : KnowsLeft (kept_after_use vs o v)
    use_known = used_by_known (get vs v) refl

    -- ---- release

    head_known : (s : Option Storage) (head : Option OpName) → KnowsEach (head_by v s head)
    head_known s None = tt
    head_known s (Some h) = ready_known h v s

    leaving_known : (x : Kept) → get vs v ≡ Some x → (producer : Bool) → KnowsLeft (leaving_kept vs o v x producer)
    leaving_known x e true = record {
      part = written_known vs v x (record (x.status) { produced = true; head = None }) n e refl;
      sent =
          both_known (head_by v (storage_in x.store) x.status.head) (message.Bye o false ∷ [])
          (head_known (storage_in x.store) x.status.head) (tt, tt);
    }
    leaving_known x e false = record {
      part =
          written_known vs v x
          (record (x.status) { released = suc x.status.released; tail = tail_without o x.status.tail }) n e refl;
      sent = (tt, tt);
    }

    released_known : (producer : Bool) (k : Option Kept) → get vs v ≡ k → KnowsLeft (released_by vs o v producer k)
    released_known producer None e = same_left vs n
    released_known producer (Some x) e =
        let d = leaving_known x e producer in
        first_known (leaving_kept vs o v x producer).sent (settled_kept (leaving_kept vs o v x producer).part v) d.sent
        (settled_known (leaving_kept vs o v x producer).part v d.part)

    -- after a release
    pub release_known : (producer : Bool) → KnowsLeft (kept_after_release vs o v producer)
    release_known producer = released_known producer (get vs v) refl

  -- ---- nack

  module _ (vs : Named Kept) (v : OpName) (n : KnowsAll vs) where
    nacked_known : (k : Option Kept) → get vs v ≡ k → KnowsLeft (nacked_by vs v k)
    nacked_known None e = same_left vs n
    nacked_known (Some x) e =
        settled_known (insert vs v (refused_kept x)) v
        (written_known vs v x (record (x.status) { refused = x.status.asked; asked = None }) n e refl)

    -- after a nack
    pub nack_known : KnowsLeft (kept_after_nack vs v)
    nack_known = nacked_known (get vs v) refl
