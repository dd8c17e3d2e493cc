-- The versioning tables keep a fact of each name, and send messages of which it holds.
use Rattle.std.proofs.Common.{◌≡◌, ℕ, zero, suc, Bool, true, false, if◌then◌else◌, List, [], ◌∷◌, ◌++◌, Option, Some}
use Rattle.std.proofs.Common.{None, refl}
use Rattle.std.specs.Prelude.{not}
use Rattle.std.specs.FinMap.{get}
use Rattle.tss_base.specs.declared.range.Range.{Range}
use Rattle.tss_base.specs.declared.operand.OpName.{OpName}
use Rattle.tss_base.specs.declared.operand.Mode.{Mode}
use Rattle.tss_base.specs.declared.operand.Mode.TheVariants.{Input, Output, Inout}
use Rattle.tss_base.specs.declared.marks.How.{How}
use Rattle.tss_base.specs.declared.marks.How.TheVariants.{Beside, Over}
use Rattle.tss_base.specs.declared.marks.Follow.{Follow}
use Rattle.tss_base.specs.Names.{Named}
use Rattle.tss_maps.proofs.Keys.{name_order}
use Rattle.tss_protocol.specs.Mail.{StorageName, Home, Buffer, OpenContents, ReleaseContents, Message, Bye}
use Rattle.tss_protocol.specs.State.{Version}
use Rattle.tss_protocol.specs.Versions.{Versioned, Settling, sending, put_version, drop_version, version_changed}
use Rattle.tss_protocol.specs.Versions.{change_version, change_named, ready_with, buffer_of, died, may_die, may_ask}
use Rattle.tss_protocol.specs.Versions.{followed_by, unlinked, settle_over, settle_how, settle_asking, unchanged}
use Rattle.tss_protocol.specs.Versions.{settle_by, settle_at, settle, settled, new_version, first_version, followed}
use Rattle.tss_protocol.specs.Versions.{opened_how, opened_by, after_open, enlisted, used_alone, used_behind, used_at}
use Rattle.tss_protocol.specs.Versions.{after_use, head_ready, produced_now, is_last, tail_without, released_once}
use Rattle.tss_protocol.specs.Versions.{released_by, released_at, after_release, refused_once, nacked_at, after_nack}
use Rattle.tss_protocol.specs.Versions.{after_retire}
use Rattle.tss_names.specs.Names.{WhereThere, EachEntry, StorageNames, VersionNames, MessageNames}
use Rattle.tss_protocol.proofs.SentLemmas.{AllSent, AllSent-append}
use Rattle.tss_names.proofs.NameLemmas.{each_inserted, each_removed}

module _ (P E : OpName → Type 0) where
  -- of each version's name and of the names in it
  abbrev pub VersionsNames : Named Version → Type 0
  VersionsNames vs = EachEntry (λ v x. E v × VersionNames P E x) vs

  -- of what an event leaves and sends
  pub record OutcomeNames (d : Versioned) : Type 0 where
    pub part : VersionsNames d.part
    pub sent : AllSent (MessageNames P E) d.sent

  names_put : (vs : Named Version) (v : OpName) (x : Version) → VersionsNames vs → E v → VersionNames P E x
      → VersionsNames (put_version vs v x)
  names_put vs v x each name new = each_inserted name_order (λ v x. E v × VersionNames P E x) vs v x each (name, new)

  names_drop : (vs : Named Version) (v : OpName) → VersionsNames vs → VersionsNames (drop_version vs v)
  names_drop vs v each = each_removed name_order (λ v x. E v × VersionNames P E x) vs v each

  -- a change that keeps the names in each version
  module _ (f : Version → Version) (keeps : (x : Version) → VersionNames P E x → VersionNames P E (f x)) where
    names_changed_by : (vs : Named Version) (v : OpName) (x : Option Version) → get vs v ≡ x → VersionsNames vs
        → VersionsNames (version_changed vs v f x)
    names_changed_by vs v None e each = each
    names_changed_by vs v (Some x) e each =
        let here = each v x e in names_put vs v (f x) each here.0 (keeps x here.1)

    names_changed : (vs : Named Version) (v : OpName) → VersionsNames vs → VersionsNames (change_version vs v f)
    names_changed vs v each = names_changed_by vs v (get vs v) refl each

    names_changed_named : (vs : Named Version) (v : Option OpName) → VersionsNames vs
        → VersionsNames (change_named vs v f)
    names_changed_named vs None each = each
    names_changed_named vs (Some v) each = names_changed vs v each

  -- ---- messages

  names_ready : (o v : OpName) (s : Option StorageName) → E o → E v → WhereThere (StorageNames P) s
      → AllSent (MessageNames P E) (ready_with o v s)
  names_ready o v None first second storage = tt
  names_ready o v (Some s) first second storage = ((first, (second, storage)), tt)

  names_buffer : (s : Option StorageName) → WhereThere (StorageNames P) s → WhereThere P (buffer_of s)
  names_buffer None storage = tt
  names_buffer (Some Home) storage = tt
  names_buffer (Some (Buffer b)) storage = storage

  names_sending : (ms : List Message) (d : Versioned) → AllSent (MessageNames P E) ms → OutcomeNames d
      → OutcomeNames (sending ms d)
  names_sending ms d sent h =
      record { part = h.part; sent = AllSent-append (MessageNames P E) ms d.sent sent h.sent }

  names_unchanged : (vs : Named Version) → VersionsNames vs → OutcomeNames (unchanged vs)
  names_unchanged vs each = record { part = each; sent = tt }

  -- ---- settle

  names_followed_by : (s : OpName) (f : Option Follow) → E s
      → WhereThere (λ (f : Follow). E f.version) (followed_by s f)
  names_followed_by s None name = tt
  names_followed_by s (Some f) name = name

  module _ (vs : Named Version) (v : OpName) (x : Version) (each : VersionsNames vs) (name : E v)
      (here : VersionNames P E x) where
    names_unlinked : (s : OpName) → E s → VersionsNames (unlinked vs v x s)
    names_unlinked s next =
        names_changed (λ y. record y { predecessor = x.predecessor })
        (λ y h. record {
          storage = h.storage;
          head = h.head;
          tail = h.tail;
          predecessor = here.predecessor;
          successor = h.successor;
        })
        _ s
        (names_changed_named (λ q. record q { successor = followed_by s q.successor })
        (λ y h. record {
          storage = h.storage;
          head = h.head;
          tail = h.tail;
          predecessor = h.predecessor;
          successor = names_followed_by s y.successor next;
        })
        (drop_version vs v) x.predecessor (names_drop vs v each))

    names_settle_over : (s : OpName) → E s → OutcomeNames (settle_over vs v x s)
    names_settle_over s next = record {
      part =
          names_changed (λ y. record y { storage = x.storage })
          (λ y h. record {
            storage = here.storage;
            head = h.head;
            tail = h.tail;
            predecessor = h.predecessor;
            successor = h.successor;
          })
          (unlinked vs v x s) s (names_unlinked s next);
      sent = ((name, tt), names_ready s s x.storage next next here.storage);
    }

    module _ (go : Settling)
        (rest : (ws : Named Version) (w : OpName) → VersionsNames ws → OutcomeNames (go ws w)) where
      names_settle_how : (f : Follow) → E f.version → (how : How) → OutcomeNames (settle_how vs v x f go how)
      names_settle_how f next Beside =
          names_sending (died v x.object (buffer_of x.storage) ∷ []) (go (unlinked vs v x f.version) f.version)
          ((name, names_buffer x.storage here.storage), tt)
          (rest (unlinked vs v x f.version) f.version (names_unlinked f.version next))
      names_settle_how f next Over = names_settle_over f.version next

      names_asking : OutcomeNames (settle_asking vs v x)
      names_asking = record {
        part =
            names_put vs v (record x { asked = Some x.registered }) each name (record {
              storage = here.storage;
              head = here.head;
              tail = here.tail;
              predecessor = here.predecessor;
              successor = here.successor;
            });
        sent = (name, tt);
      }

      names_settle_by : (f : Option Follow) → WhereThere (λ (f : Follow). E f.version) f
          → OutcomeNames (settle_by vs v x go f)
      names_settle_by None next =
          elim (may_ask x) as (λ b. OutcomeNames (if b then settle_asking vs v x else unchanged vs)) [
            | true ↦ names_asking
            | false ↦ names_unchanged vs each
          ]
      names_settle_by (Some f) next =
          elim (may_die x f.last) as (λ b. OutcomeNames (if b then settle_how vs v x f go f.how else unchanged vs)) [
            | true ↦ names_settle_how f next f.how
            | false ↦ names_unchanged vs each
          ]

  names_settle_at : (vs : Named Version) (v : OpName) (go : Settling)
      → ((ws : Named Version) (w : OpName) → VersionsNames ws → OutcomeNames (go ws w)) → (x : Option Version)
      → get vs v ≡ x → VersionsNames vs → OutcomeNames (settle_at vs v go x)
  names_settle_at vs v go rest None e each = names_unchanged vs each
  names_settle_at vs v go rest (Some x) e each =
      let here = each v x e in names_settle_by vs v x each here.0 here.1 go rest x.successor here.1.successor

  names_settle : (n : ℕ) (vs : Named Version) (v : OpName) → VersionsNames vs → OutcomeNames (settle n vs v)
  unfolding settle
  names_settle zero vs v each = names_unchanged vs each
  names_settle (suc n) vs v each = names_settle_at vs v (settle n) (names_settle n) (get vs v) refl each

  names_settled : (vs : Named Version) (v : OpName) → VersionsNames vs → OutcomeNames (settled vs v)
  names_settled vs v each = names_settle _ vs v each

  -- ---- open

  names_new : (object : Range) (s : Option StorageName) → WhereThere (StorageNames P) s
      → VersionNames P E (new_version object s)
  names_new object s storage =
      record { storage = storage; head = tt; tail = tt; predecessor = tt; successor = tt }

  names_first : (o : OpName) (object : Range) (s : Option StorageName) (mode : Mode) → E o
      → WhereThere (StorageNames P) s → VersionNames P E (first_version o object s mode)
  names_first o object s Input name storage =
      record { storage = storage; head = tt; tail = name; predecessor = tt; successor = tt }
  names_first o object s Output name storage = names_new object s storage
  names_first o object s Inout name storage = names_new object s storage

  module _ (vs : Named Version) (o : OpName) (c : OpenContents) (each : VersionsNames vs) (name : E o)
      (storage : WhereThere (StorageNames P) c.storage) where
    names_followed : (f : Follow) → P f.version → VersionsNames (followed vs o c f)
    names_followed f before =
        names_changed (λ p. record p { successor = Some (record f { version = o }) })
        (λ y h. record {
          storage = h.storage;
          head = h.head;
          tail = h.tail;
          predecessor = h.predecessor;
          successor = name;
        })
        _ f.version
        (names_put vs o (record (new_version c.operand.object c.storage) { predecessor = Some f.version }) each name
        (record { storage = storage; head = tt; tail = tt; predecessor = before; successor = tt }))

    names_opened_how : (f : Follow) → P f.version → (how : How) → OutcomeNames (opened_how vs o c f how)
    names_opened_how f before Beside =
        names_sending (ready_with o o c.storage) (settled (followed vs o c f) f.version)
        (names_ready o o c.storage name name storage)
        (names_settled (followed vs o c f) f.version (names_followed f before))
    names_opened_how f before Over =
        names_settled (followed vs o c f) f.version (names_followed f before)

    names_opened_by : (f : Option Follow) → WhereThere (λ (f : Follow). P f.version) f
        → OutcomeNames (opened_by vs o c f)
    names_opened_by None before = record {
      part =
          names_put vs o (first_version o c.operand.object c.storage c.operand.mode) each name
          (names_first o c.operand.object c.storage c.operand.mode name storage);
      sent = names_ready o o c.storage name name storage;
    }
    names_opened_by (Some f) before = names_opened_how f before f.how

  -- what open leaves
  pub names_open : (vs : Named Version) (o : OpName) (c : OpenContents) → VersionsNames vs → E o
      → WhereThere (StorageNames P) c.storage → WhereThere (λ (f : Follow). P f.version) c.follows
      → OutcomeNames (after_open vs o c)
  names_open vs o c each name storage before = names_opened_by vs o c each name storage c.follows before

  -- ---- use

  module _ (vs : Named Version) (o v : OpName) (x : Version) (each : VersionsNames vs) (reader : E o) (name : E v)
      (here : VersionNames P E x) where
    names_used_alone : (produced : Bool) → OutcomeNames (used_alone vs o v x produced)
    names_used_alone true = record {
      part =
          names_put vs v (enlisted x o) each name (record {
            storage = here.storage;
            head = here.head;
            tail = reader;
            predecessor = here.predecessor;
            successor = here.successor;
          });
      sent = names_ready o v x.storage reader name here.storage;
    }
    names_used_alone false = record {
      part =
          names_put vs v (record (enlisted x o) { head = Some o }) each name (record {
            storage = here.storage;
            head = reader;
            tail = reader;
            predecessor = here.predecessor;
            successor = here.successor;
          });
      sent = tt;
    }

    names_used_behind : (tail : Option OpName) → WhereThere E tail → OutcomeNames (used_behind vs o v x tail)
    names_used_behind None last = names_used_alone x.produced
    names_used_behind (Some t) last = record {
      part =
          names_put vs v (enlisted x o) each name (record {
            storage = here.storage;
            head = here.head;
            tail = reader;
            predecessor = here.predecessor;
            successor = here.successor;
          });
      sent = ((last, reader), tt);
    }

  names_used_at : (vs : Named Version) (o v : OpName) (x : Option Version) → get vs v ≡ x → VersionsNames vs → E o
      → OutcomeNames (used_at vs o v x)
  names_used_at vs o v None e each reader = names_unchanged vs each
  names_used_at vs o v (Some x) e each reader =
      let here = each v x e in names_used_behind vs o v x each reader here.0 here.1 x.tail here.1.tail

  -- what use leaves
  pub names_use : (vs : Named Version) (o v : OpName) → VersionsNames vs → E o → OutcomeNames (after_use vs o v)
  names_use vs o v each reader = names_used_at vs o v (get vs v) refl each reader

  -- ---- release

  module _ (vs : Named Version) (o v : OpName) (x : Version) (each : VersionsNames vs) (user : E o) (name : E v)
      (here : VersionNames P E x) where
    names_head : (head : Option OpName) → WhereThere E head → AllSent (MessageNames P E) (head_ready v x head)
    names_head None first = tt
    names_head (Some h) first = names_ready h v x.storage first name here.storage

    names_tail : (tail : Option OpName) → WhereThere E tail → WhereThere E (tail_without o tail)
    names_tail tail last =
        elim (is_last o tail) as (λ b. WhereThere E (if b then None else tail)) [
          | true ↦ tt
          | false ↦ last
        ]

    names_released_by : (producer : Bool) → OutcomeNames (released_by vs o v x producer)
    names_released_by true =
        names_sending (head_ready v x x.head ++ Bye o false ∷ []) (settled (put_version vs v (produced_now x)) v)
        (AllSent-append (MessageNames P E) (head_ready v x x.head) (Bye o false ∷ []) (names_head x.head here.head)
        (user, tt))
        (names_settled (put_version vs v (produced_now x)) v
        (names_put vs v (produced_now x) each name (record {
          storage = here.storage;
          head = tt;
          tail = here.tail;
          predecessor = here.predecessor;
          successor = here.successor;
        })))
    names_released_by false =
        names_sending (Bye o (not (is_last o x.tail)) ∷ []) (settled (put_version vs v (released_once x o)) v)
        (user, tt)
        (names_settled (put_version vs v (released_once x o)) v
        (names_put vs v (released_once x o) each name (record {
          storage = here.storage;
          head = here.head;
          tail = names_tail x.tail here.tail;
          predecessor = here.predecessor;
          successor = here.successor;
        })))

  names_released_at : (vs : Named Version) (o v : OpName) (producer : Bool) (x : Option Version) → get vs v ≡ x
      → VersionsNames vs → E o → OutcomeNames (released_at vs o v producer x)
  names_released_at vs o v producer None e each user = names_unchanged vs each
  names_released_at vs o v producer (Some x) e each user =
      let here = each v x e in names_released_by vs o v x each user here.0 here.1 producer

  -- what release leaves
  pub names_release : (vs : Named Version) (o : OpName) (r : ReleaseContents) → VersionsNames vs → E o
      → OutcomeNames (after_release vs o r)
  names_release vs o r each user = names_released_at vs o r.version r.producer (get vs r.version) refl each user

  -- ---- nack, retire

  names_nacked_at : (vs : Named Version) (v : OpName) (x : Option Version) → get vs v ≡ x → VersionsNames vs
      → OutcomeNames (nacked_at vs v x)
  names_nacked_at vs v None e each = names_unchanged vs each
  names_nacked_at vs v (Some x) e each =
      let here = each v x e in
      names_settled (put_version vs v (refused_once x)) v
      (names_put vs v (refused_once x) each here.0 (record {
        storage = here.1.storage;
        head = here.1.head;
        tail = here.1.tail;
        predecessor = here.1.predecessor;
        successor = here.1.successor;
      }))

  -- what nack leaves
  pub names_nack : (vs : Named Version) (v : OpName) → VersionsNames vs → OutcomeNames (after_nack vs v)
  names_nack vs v each = names_nacked_at vs v (get vs v) refl each

  -- what retire leaves
  pub names_retire : (vs : Named Version) (v : OpName) → VersionsNames vs → VersionsNames (after_retire vs v)
  names_retire vs v each = names_drop vs v each
