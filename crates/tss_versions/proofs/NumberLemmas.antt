-- The tokens of versions and of the messages that are sent keep the numbers of their pools.
use Rattle.std.proofs.Common.{◌≡◌, ℕ, suc, Bool, true, false, List, [], ◌∷◌, ◌++◌, Option, Some, None, refl, sym, ap, subst, ◌∙◌, inl, inr}
use Rattle.std.specs.Prelude.{if◌then◌else◌}
use Rattle.std.specs.FinMap.{get, insert, remove}
use Rattle.std.proofs.lemmas.Option.{none-some, same_Some}
use Rattle.tss_base.specs.declared.operand.OpName.{OpName}
use Rattle.tss_base.specs.declared.operand.Storage.{Storage}
use Rattle.tss_base.specs.declared.operand.Storage.TheVariants as storage
use Rattle.tss_base.specs.declared.marks.How.{How}
use Rattle.tss_base.specs.declared.marks.How.TheVariants.{Beside, Over}
use Rattle.tss_base.specs.declared.marks.Follow.{Follow}
use Rattle.tss_base.specs.Names.{Named}
use Rattle.tss_maps.proofs.Keys.{name_order}
use Rattle.tss_maps.proofs.Changes.{from_inserted, from_removed}
use Rattle.tss_tokens.specs.Pool.{TokenState}
use Rattle.tss_protocol.specs.Versions.{may_ask, may_die, tail_without}
use Rattle.tss_events.specs.declared.message.HeldBuffer.{HeldBuffer}
use Rattle.tss_events.specs.declared.message.Opening.{Opening}
use Rattle.tss_events.specs.declared.message.Message.{Message}
use Rattle.tss_events.specs.declared.message.Message.TheVariants as message
use Rattle.tss_versions.specs.declared.kept.Kept.{Kept}
use Rattle.tss_versions.specs.declared.status.Site.{Site}
use Rattle.tss_versions.specs.declared.status.Next.{Next}
use Rattle.tss_versions.specs.declared.status.Status.{Status}
use Rattle.tss_versions.specs.Known.{storage_in, buffer_in, store_by, version_of, HasNumbers, AreNumbered, first_status, behind_status}
use Rattle.tss_versions.specs.Numbers.{OpensNumbered, GoneNumbered, AreSentNumbered}
use Rattle.tss_versions.specs.Rows.{Left, sending_first, same, with_status, changed_kept, change_kept, change_site, ready_by, gone_by, gone_over, asked_kept, asking_by, asking_at, asking, bridged_kept, moved_kept, unlinked_kept, passed_by, stored_kept, taken_over, gives_way, settled_by, settled_at, settled_kept, opened_kept, first_kept, linked_kept, behind_kept, ready_beside, followed_kept, followed_at, opened_by, kept_after_open, alone_kept, used_kept, used_by, kept_after_use, head_by, leaving_kept, released_by, kept_after_release, refused_kept, nacked_by, kept_after_nack}

module _ (p b : ℕ) where
  -- the versions that are left, and the messages that are sent
  pub record IsLeftNumbered (d : Left) : Type 0 where
    pub part : AreNumbered p b d.part
    pub sent : AreSentNumbered p b d.sent

  same_left : (vs : Named Kept) → AreNumbered p b vs → IsLeftNumbered (same vs)
  same_left vs n = record { part = n; sent = tt }

  -- ---- changes

  status_numbers : (x : Kept) (s : Status) → HasNumbers p b x → HasNumbers p b (with_status x s)
  status_numbers x s h = record { place = h.place; buffer = h.buffer }

  inserted_numbers : (vs : Named Kept) (v : OpName) (y : Kept) → AreNumbered p b vs → HasNumbers p b y →
      AreNumbered p b (insert vs v y)
  inserted_numbers vs v y n h w x e = elim (from_inserted name_order vs v y w x e) [
    | inl new ↦ subst (HasNumbers p b) (sym new.1) h
    | inr old ↦ n w x old.1
  ]

  pub removed_numbers : (vs : Named Kept) (v : OpName) → AreNumbered p b vs → AreNumbered p b (remove vs v)
  removed_numbers vs v n w x e = n w x (from_removed name_order vs v w x e).1

  written_numbers : (vs : Named Kept) (v : OpName) (x : Kept) (s : Status) → AreNumbered p b vs → get vs v ≡ Some x →
      AreNumbered p b (insert vs v (with_status x s))
  written_numbers vs v x s n e = inserted_numbers vs v (with_status x s) n (status_numbers x s (n v x e))

  changed_numbers : (vs : Named Kept) (v : OpName) (f : Kept → Kept) (o : Option Kept) → AreNumbered p b vs →
      ((x : Kept) → HasNumbers p b x → HasNumbers p b (f x)) → get vs v ≡ o → AreNumbered p b (changed_kept vs v f o)
  changed_numbers vs v f None n keeps e = n
  changed_numbers vs v f (Some x) n keeps e = inserted_numbers vs v (f x) n (keeps x (n v x e))

  change_numbers : (vs : Named Kept) (v : OpName) (f : Kept → Kept) → AreNumbered p b vs →
      ((x : Kept) → HasNumbers p b x → HasNumbers p b (f x)) → AreNumbered p b (change_kept vs v f)
  change_numbers vs v f n keeps = changed_numbers vs v f (get vs v) n keeps refl

  site_numbers : (vs : Named Kept) (o : Option Site) (f : Kept → Kept) → AreNumbered p b vs →
      ((x : Kept) → HasNumbers p b x → HasNumbers p b (f x)) → AreNumbered p b (change_site vs o f)
  site_numbers vs None f n keeps = n
  site_numbers vs (Some s) f n keeps = change_numbers vs s.name f n keeps

  -- ---- messages

  both_numbers : (ms ns : List Message) → AreSentNumbered p b ms → AreSentNumbered p b ns → AreSentNumbered p b (ms ++ ns)
  both_numbers [] ns h k = k
  both_numbers (m ∷ ms) ns h k = (h.0, both_numbers ms ns h.1 k)

  ready_numbers : (o v : OpName) (s : Option Storage) → AreSentNumbered p b (ready_by o v s)
  ready_numbers o v None = tt
  ready_numbers o v (Some s) = (tt, tt)

  pub gone_numbers : (v : OpName) (x : Kept) (retired : Bool) → HasNumbers p b x → GoneNumbered p b (gone_by v x retired)
  gone_numbers v x retired h = record { place = h.place; buffer = h.buffer }

  over_numbers : (v : OpName) (x : Kept) → HasNumbers p b x → GoneNumbered p b (gone_over v x)
  over_numbers v x h = record { place = h.place; buffer = λ held e. absurd (none-some held e) }

  first_numbers : (ms : List Message) (d : Left) → AreSentNumbered p b ms → IsLeftNumbered d → IsLeftNumbered (sending_first ms d)
  first_numbers ms d h n = record { part = n.part; sent = both_numbers ms d.sent h n.sent }

  -- ---- settle

  asked_numbers : (vs : Named Kept) (v : OpName) (x : Kept) → AreNumbered p b vs → get vs v ≡ Some x → (c : Bool) →
      IsLeftNumbered (if c then asked_kept vs v x else same vs)
  asked_numbers vs v x n e true = record {
    part = written_numbers vs v x (record (x.status) { asked = Some x.status.registered }) n e;
    sent = (tt, tt);
  }
  asked_numbers vs v x n e false = same_left vs n

  asking_by_numbers : (vs : Named Kept) (v : OpName) (x : Kept) → AreNumbered p b vs → get vs v ≡ Some x → (o : Option Next) →
      IsLeftNumbered (asking_by vs v x o)
  asking_by_numbers vs v x n e None = asked_numbers vs v x n e (may_ask (version_of x))
  asking_by_numbers vs v x n e (Some m) = same_left vs n

  asking_at_numbers : (vs : Named Kept) (v : OpName) (o : Option Kept) → AreNumbered p b vs → get vs v ≡ o →
      IsLeftNumbered (asking_at vs v o)
  asking_at_numbers vs v None n e = same_left vs n
  asking_at_numbers vs v (Some x) n e = asking_by_numbers vs v x n e x.status.successor

  unlinked_numbers : (vs : Named Kept) (v : OpName) (x : Kept) (next : Site) → AreNumbered p b vs →
      AreNumbered p b (unlinked_kept vs v x next)
  unlinked_numbers vs v x next n =
      change_numbers (change_site (remove vs v) x.status.predecessor (bridged_kept next)) next.name (moved_kept x)
      (site_numbers (remove vs v) x.status.predecessor (bridged_kept next) (removed_numbers vs v n)
      (λ q h. record { place = h.place; buffer = h.buffer }))
      (λ y h. record { place = h.place; buffer = h.buffer })

  passed_numbers : (vs : Named Kept) (v : OpName) (x : Kept) (next : Site) → AreNumbered p b vs → HasNumbers p b x →
      IsLeftNumbered (passed_by vs v x next)
  passed_numbers vs v x next n h =
      first_numbers (message.Gone (gone_by v x false) ∷ []) (asking (unlinked_kept vs v x next) next.name)
      (gone_numbers v x false h, tt)
      (asking_at_numbers (unlinked_kept vs v x next) next.name (get (unlinked_kept vs v x next) next.name)
      (unlinked_numbers vs v x next n) refl)

  taken_numbers : (vs : Named Kept) (v : OpName) (x : Kept) (next : Site) → AreNumbered p b vs → HasNumbers p b x →
      IsLeftNumbered (taken_over vs v x next)
  taken_numbers vs v x next n h = record {
    part =
        change_numbers (unlinked_kept vs v x next) next.name (stored_kept x) (unlinked_numbers vs v x next n)
        (λ y k. record { place = k.place; buffer = h.buffer });
    sent = (over_numbers v x h, ready_numbers next.name next.name (storage_in x.store));
  }

  gives_numbers : (vs : Named Kept) (v : OpName) (x : Kept) (m : Next) → AreNumbered p b vs → HasNumbers p b x → (h : How) →
      IsLeftNumbered (gives_way vs v x m h)
  gives_numbers vs v x m n k Beside = passed_numbers vs v x m.site n k
  gives_numbers vs v x m n k Over = taken_numbers vs v x m.site n k

  done_numbers : (vs : Named Kept) (v : OpName) (x : Kept) (m : Next) → AreNumbered p b vs → HasNumbers p b x → (c : Bool) →
      IsLeftNumbered (if c then gives_way vs v x m m.how else same vs)
  done_numbers vs v x m n k true = gives_numbers vs v x m n k m.how
  done_numbers vs v x m n k false = same_left vs n

  settled_by_numbers : (vs : Named Kept) (v : OpName) (x : Kept) → AreNumbered p b vs → get vs v ≡ Some x → (o : Option Next) →
      IsLeftNumbered (settled_by vs v x o)
  settled_by_numbers vs v x n e None = asking_by_numbers vs v x n e None
  settled_by_numbers vs v x n e (Some m) = done_numbers vs v x m n (n v x e) (may_die (version_of x) m.last)

  settled_at_numbers : (vs : Named Kept) (v : OpName) (o : Option Kept) → AreNumbered p b vs → get vs v ≡ o →
      IsLeftNumbered (settled_at vs v o)
  settled_at_numbers vs v None n e = same_left vs n
  settled_at_numbers vs v (Some x) n e = settled_by_numbers vs v x n e x.status.successor

  settled_numbers : (vs : Named Kept) (v : OpName) → AreNumbered p b vs → IsLeftNumbered (settled_kept vs v)
  settled_numbers vs v n = settled_at_numbers vs v (get vs v) n refl

  -- ---- open

  store_numbers : (s : Option Storage) (t : Option TokenState) →
      ((token : TokenState) → t ≡ Some token → token.number ≡ b) →
      (held : HeldBuffer) → buffer_in (store_by s t) ≡ Some held → held.token.number ≡ b
  store_numbers (Some (storage.Buffer place name)) (Some token) h held e =
      ap (λ (held : HeldBuffer). held.token.number) (sym (same_Some (record { name = name; token = token }) held e)) ∙ h token refl
  store_numbers (Some (storage.Buffer place name)) None h held e = absurd (none-some held e)
  store_numbers (Some storage.Home) (Some token) h held e = absurd (none-some held e)
  store_numbers (Some storage.Home) None h held e = absurd (none-some held e)
  store_numbers None (Some token) h held e = absurd (none-some held e)
  store_numbers None None h held e = absurd (none-some held e)

  module _ (vs : Named Kept) (m : Opening) (n : AreNumbered p b vs) (h : OpensNumbered p b m) where
    opened_numbers : (status : Status) → HasNumbers p b (opened_kept m status)
    opened_numbers status = record { place = h.place; buffer = store_numbers m.storage m.buffer h.buffer }

    pub opens_first : IsLeftNumbered (first_kept vs m)
    opens_first = record {
      part =
          inserted_numbers vs m.o (opened_kept m (first_status m.o m.operand.object m.operand.mode)) n
          (opened_numbers (first_status m.o m.operand.object m.operand.mode));
      sent = ready_numbers m.o m.o m.storage;
    }

    behind_numbers : (f : Follow) (before : Site) → AreNumbered p b (behind_kept vs m f before)
    behind_numbers f before =
        change_numbers (insert vs m.o (opened_kept m (behind_status m.operand.object (Some before)))) before.name
        (linked_kept m f)
        (inserted_numbers vs m.o (opened_kept m (behind_status m.operand.object (Some before))) n
        (opened_numbers (behind_status m.operand.object (Some before))))
        (λ x k. record { place = k.place; buffer = k.buffer })

    beside_numbers : (h : How) → AreSentNumbered p b (ready_beside m h)
    beside_numbers Beside = ready_numbers m.o m.o m.storage
    beside_numbers Over = tt

    pub opens_behind : (f : Follow) (before : Site) → IsLeftNumbered (followed_kept vs m f before)
    opens_behind f before =
        first_numbers (ready_beside m f.how) (settled_kept (behind_kept vs m f before) before.name) (beside_numbers f.how)
        (settled_numbers (behind_kept vs m f before) before.name (behind_numbers f before))

    opens_at : (f : Follow) (o : Option Kept) → IsLeftNumbered (followed_at vs m f o)
    opens_at f None = same_left vs n
    opens_at f (Some x) = opens_behind f (record { name = f.version; place = x.place.place })

    opens_by : (o : Option Follow) → IsLeftNumbered (opened_by vs m o)
    opens_by None = opens_first
    opens_by (Some f) = opens_at f (get vs f.version)

    -- after an open
    pub open_numbers : IsLeftNumbered (kept_after_open vs m)
    open_numbers = opens_by m.follows

  -- ---- use

  module _ (vs : Named Kept) (o v : OpName) (n : AreNumbered p b vs) where
    alone_numbers : (x : Kept) → get vs v ≡ Some x → (c : Bool) → IsLeftNumbered (alone_kept vs o v x c)
    alone_numbers x e true = record {
      part = written_numbers vs v x (record (x.status) { registered = suc x.status.registered; tail = Some o }) n e;
      sent = ready_numbers o v (storage_in x.store);
    }
    alone_numbers x e false = record {
      part =
          written_numbers vs v x
          (record (x.status) { registered = suc x.status.registered; tail = Some o; head = Some o }) n e;
      sent = tt;
    }

    used_numbers : (x : Kept) → get vs v ≡ Some x → (t : Option OpName) → IsLeftNumbered (used_kept vs o v x t)
    used_numbers x e None = alone_numbers x e x.status.produced
    used_numbers x e (Some last) = record {
      part = written_numbers vs v x (record (x.status) { registered = suc x.status.registered; tail = Some o }) n e;
      sent = (tt, tt);
    }

    used_by_numbers : (k : Option Kept) → get vs v ≡ k → IsLeftNumbered (used_by vs o v k)
    used_by_numbers None e = same_left vs n
    used_by_numbers (Some x) e = used_numbers x e x.status.tail

    -- after a use
    pub use_numbers : IsLeftNumbered (kept_after_use vs o v)
    use_numbers = used_by_numbers (get vs v) refl

  -- ---- release and nack

  module _ (vs : Named Kept) (o v : OpName) (n : AreNumbered p b vs) where
    head_numbers : (s : Option Storage) (head : Option OpName) → AreSentNumbered p b (head_by v s head)
    head_numbers s None = tt
    head_numbers s (Some h) = ready_numbers h v s

    leaving_numbers : (x : Kept) → get vs v ≡ Some x → (producer : Bool) → IsLeftNumbered (leaving_kept vs o v x producer)
    leaving_numbers x e true = record {
      part = written_numbers vs v x (record (x.status) { produced = true; head = None }) n e;
      sent =
          both_numbers (head_by v (storage_in x.store) x.status.head) (message.Bye o false ∷ [])
          (head_numbers (storage_in x.store) x.status.head) (tt, tt);
    }
    leaving_numbers x e false = record {
      part =
          written_numbers vs v x
          (record (x.status) { released = suc x.status.released; tail = tail_without o x.status.tail }) n e;
      sent = (tt, tt);
    }

    released_numbers : (producer : Bool) (k : Option Kept) → get vs v ≡ k → IsLeftNumbered (released_by vs o v producer k)
    released_numbers producer None e = same_left vs n
    released_numbers producer (Some x) e =
        let d = leaving_numbers x e producer in
        first_numbers (leaving_kept vs o v x producer).sent (settled_kept (leaving_kept vs o v x producer).part v) d.sent
        (settled_numbers (leaving_kept vs o v x producer).part v d.part)

    -- after a release
    pub release_numbers : (producer : Bool) → IsLeftNumbered (kept_after_release vs o v producer)
    release_numbers producer = released_numbers producer (get vs v) refl

    nacked_numbers : (k : Option Kept) → get vs v ≡ k → IsLeftNumbered (nacked_by vs v k)
    nacked_numbers None e = same_left vs n
    nacked_numbers (Some x) e =
        settled_numbers (insert vs v (refused_kept x)) v
        (written_numbers vs v x (record (x.status) { refused = x.status.asked; asked = None }) n e)

    -- after a nack
    pub nack_numbers : IsLeftNumbered (kept_after_nack vs v)
    nack_numbers = nacked_numbers (get vs v) refl
