-- What the versioning tables do to a version of a scope stays in the scope: changes of versions, and settle with its
-- recursion.
use Rattle.std.proofs.Common.{◌≡◌, ℕ, zero, suc, Bool, true, false, cond, List, [], ◌∷◌, ◌++◌, Option, Some, None, refl}
use Rattle.std.specs.FinMap.{get, insert, remove, len}
use Rattle.tss_base.specs.declared.operand.OpName.{OpName}
use Rattle.tss_base.specs.declared.marks.How.{How}
use Rattle.tss_base.specs.declared.marks.How.TheVariants.{Beside, Over}
use Rattle.tss_base.specs.declared.marks.Follow.{Follow}
use Rattle.tss_base.specs.Names.{Named}
use Rattle.tss_maps.proofs.Keys.{name_order}
use Rattle.tss_protocol.specs.Mail.{StorageName, Home, Buffer, Message}
use Rattle.tss_protocol.specs.State.{Version}
use Rattle.tss_protocol.specs.Versions.{Versioned, Settling, sending, put_version, drop_version, version_changed}
use Rattle.tss_protocol.specs.Versions.{change_version, change_named, ready_with, buffer_of, died, may_die, may_ask}
use Rattle.tss_protocol.specs.Versions.{followed_by, unlinked, settle_how, settle_asking, unchanged, settle_by}
use Rattle.tss_protocol.specs.Versions.{settle_at, settle, settled}
use Rattle.tss_locality.specs.Agreement.{Beyond, AgreeAt}
use Rattle.tss_locality.specs.Scopes.{Scope, NameIn, MaybeStorageIn, FollowIn, VersionIn, MessagesIn, ClosedVersions}
use Rattle.tss_locality.proofs.Agreements.{agree_same, agree_then, agree_inserted, agree_removed, closed_inserted}
use Rattle.tss_locality.proofs.Agreements.{closed_removed}

-- no version beyond the scope is changed, and those of the scope are closed
pub record VersionsOnly (c : Scope) (vs ws : Named Version) : Type 0 where
  pub same : AgreeAt (Beyond c.names) vs ws
  pub closed : ClosedVersions c ws

-- the same, and what is sent is of the scope
pub record StaysIn (c : Scope) (vs : Named Version) (d : Versioned) : Type 0 where
  pub versions : VersionsOnly c vs d.part
  pub sent : MessagesIn c d.sent

-- ---- messages

-- two lists of messages of the scope, one after the other
pub messages_append : (c : Scope) (xs ys : List Message) → MessagesIn c xs → MessagesIn c ys → MessagesIn c (xs ++ ys)
messages_append c [] ys p q = q
messages_append c (x ∷ xs) ys p q = (p.0, messages_append c xs ys p.1 q)

-- an operand is told a version
pub ready_in : (c : Scope) (o v : OpName) (s : Option StorageName) → c.names o → c.names v → MaybeStorageIn c s →
    MessagesIn c (ready_with o v s)
ready_in c o v None p q i = tt
ready_in c o v (Some s) p q i = ((p, (q, i)), tt)

-- the buffer of a storage
buffer_in : (c : Scope) (s : Option StorageName) → MaybeStorageIn c s → NameIn c (buffer_of s)
buffer_in c None i = tt
buffer_in c (Some Home) i = tt
buffer_in c (Some (Buffer b)) i = i

-- messages before an outcome that stays in the scope
pub stays_sending : (c : Scope) (vs : Named Version) (ms : List Message) (d : Versioned) → MessagesIn c ms →
    StaysIn c vs d → StaysIn c vs (sending ms d)
stays_sending c vs ms d p s = record { versions = s.versions; sent = messages_append c ms d.sent p s.sent }

module _ (c : Scope) (vs : Named Version) where
  -- ---- changes after others

  -- none
  pub versions_none : ClosedVersions c vs → VersionsOnly c vs vs
  versions_none closed = record { same = agree_same (Beyond c.names) vs; closed = closed }

  module _ (ws : Named Version) (f : VersionsOnly c vs ws) where
    -- a version of the scope is put under a name of it
    pub versions_put : (v : OpName) (x : Version) → c.names v → VersionIn c x → VersionsOnly c vs (put_version ws v x)
    versions_put v x p i = record {
      same = agree_then (Beyond c.names) vs ws (insert ws v x) f.same (agree_inserted name_order c.names ws v x p);
      closed = closed_inserted name_order c.names (VersionIn c) ws v x f.closed i;
    }

    -- a version of the scope is dropped
    versions_drop : (v : OpName) → c.names v → VersionsOnly c vs (drop_version ws v)
    versions_drop v p = record {
      same = agree_then (Beyond c.names) vs ws (remove ws v) f.same (agree_removed name_order c.names ws v p);
      closed = closed_removed name_order c.names (VersionIn c) ws v f.closed;
    }

    versions_changed : (v : OpName) (g : Version → Version) (o : Option Version) → get ws v ≡ o → c.names v →
        ((x : Version) → VersionIn c x → VersionIn c (g x)) → VersionsOnly c vs (version_changed ws v g o)
    versions_changed v g None there p keeps = f
    versions_changed v g (Some x) there p keeps = versions_put v (g x) p (keeps x (f.closed v x p there))

    -- a version of the scope is changed where it is there
    pub versions_change : (v : OpName) (g : Version → Version) → c.names v →
        ((x : Version) → VersionIn c x → VersionIn c (g x)) → VersionsOnly c vs (change_version ws v g)
    versions_change v g p keeps = versions_changed v g (get ws v) refl p keeps

    -- the same of a version that may not be named
    versions_change_named : (v : Option OpName) (g : Version → Version) → NameIn c v →
        ((x : Version) → VersionIn c x → VersionIn c (g x)) → VersionsOnly c vs (change_named ws v g)
    versions_change_named None g p keeps = f
    versions_change_named (Some v) g p keeps = versions_change v g p keeps

    -- no change and no message
    pub stays_unchanged : StaysIn c vs (unchanged ws)
    stays_unchanged = record { versions = f; sent = tt }

  follow_in : (s : OpName) (o : Option Follow) → c.names s → FollowIn c (followed_by s o)
  follow_in s None p = tt
  follow_in s (Some f) p = p

  -- v is removed from between its predecessor and its successor
  versions_unlinked : (ws : Named Version) → VersionsOnly c vs ws → (v : OpName) (x : Version) (s : OpName) →
      c.names v → VersionIn c x → c.names s → VersionsOnly c vs (unlinked ws v x s)
  versions_unlinked ws f v x s p i q =
      let without = drop_version ws v in
      let bridge : Version → Version = λ y. record y { successor = followed_by s y.successor } in
      versions_change
      (change_named without x.predecessor bridge)
      (versions_change_named without (versions_drop ws f v p) x.predecessor bridge i.predecessor
      (λ y j. record {
        object = j.object;
        storage = j.storage;
        head = j.head;
        tail = j.tail;
        predecessor = j.predecessor;
        successor = follow_in s y.successor q;
      }))
      s
      (λ y. record y { predecessor = x.predecessor })
      q
      (λ y j. record {
        object = j.object;
        storage = j.storage;
        head = j.head;
        tail = j.tail;
        predecessor = i.predecessor;
        successor = j.successor;
      })

  -- ---- settle

  -- what settles a version of the scope stays in it
  abbrev SettlesIn : Settling → Type 0
  SettlesIn go = (ws : Named Version) (v : OpName) → VersionsOnly c vs ws → c.names v → StaysIn c vs (go ws v)

  module _ (ws : Named Version) (f : VersionsOnly c vs ws) (v : OpName) (p : c.names v) (go : Settling)
      (next : SettlesIn go) where
    stays_asking : (x : Version) → VersionIn c x → StaysIn c vs (settle_asking ws v x)
    stays_asking x i = record {
      versions = versions_put ws f v (record x { asked = Some x.registered }) p (record {
        object = i.object;
        storage = i.storage;
        head = i.head;
        tail = i.tail;
        predecessor = i.predecessor;
        successor = i.successor;
      });
      sent = ((p, (x.object, i.object, refl)), tt);
    }

    stays_asking_if : (x : Version) → VersionIn c x → (b : Bool) →
        StaysIn c vs (cond b (settle_asking ws v x) (unchanged ws))
    stays_asking_if x i true = stays_asking x i
    stays_asking_if x i false = stays_unchanged ws f

    stays_how : (x : Version) (s : Follow) (how : How) → VersionIn c x → c.names s.version →
        StaysIn c vs (settle_how ws v x s go how)
    stays_how x s Beside i q =
        stays_sending c vs (died v x.object (buffer_of x.storage) ∷ []) (go (unlinked ws v x s.version) s.version)
        ((p, record { object = i.object; buffer = buffer_in c x.storage i.storage }), tt)
        (next (unlinked ws v x s.version) s.version (versions_unlinked ws f v x s.version p i q) q)
    stays_how x s Over i q = record {
      versions = versions_change (unlinked ws v x s.version) (versions_unlinked ws f v x s.version p i q) s.version
          (λ y. record y { storage = x.storage }) q (λ y j. record {
            object = j.object;
            storage = i.storage;
            head = j.head;
            tail = j.tail;
            predecessor = j.predecessor;
            successor = j.successor;
          });
      sent = ((p, record { object = i.object; buffer = tt }), ready_in c s.version s.version x.storage q q i.storage);
    }

    stays_dying : (x : Version) (s : Follow) → VersionIn c x → c.names s.version → (b : Bool) →
        StaysIn c vs (cond b (settle_how ws v x s go s.how) (unchanged ws))
    stays_dying x s i q true = stays_how x s s.how i q
    stays_dying x s i q false = stays_unchanged ws f

    stays_by : (x : Version) (s : Option Follow) → VersionIn c x → FollowIn c s → StaysIn c vs (settle_by ws v x go s)
    stays_by x None i q = stays_asking_if x i (may_ask x)
    stays_by x (Some s) i q = stays_dying x s i q (may_die x s.last)

    stays_at : (o : Option Version) → get ws v ≡ o → StaysIn c vs (settle_at ws v go o)
    stays_at None there = stays_unchanged ws f
    stays_at (Some x) there = let i = f.closed v x p there in stays_by x x.successor i i.successor

  -- settle stays in the scope
  stays_settle : (n : ℕ) → SettlesIn (settle n)
  unfolding settle
  stays_settle zero ws v f p = stays_unchanged ws f
  stays_settle (suc n) ws v f p = stays_at ws f v p (settle n) (stays_settle n) (get ws v) refl

  -- with fuel for each version
  pub stays_settled : (ws : Named Version) (v : OpName) → VersionsOnly c vs ws → c.names v → StaysIn c vs (settled ws v)
  stays_settled ws v f p = stays_settle (suc (len ws)) ws v f p
