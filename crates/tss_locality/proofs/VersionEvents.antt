-- What each event of the versioning tables does to versions of a scope stays in the scope.
use Rattle.std.proofs.Common.{◌≡◌, Bool, true, false, [], ◌∷◌, ◌++◌, Option, Some, None, refl, cond}
use Rattle.std.specs.Prelude.{not}
use Rattle.std.specs.FinMap.{get}
use Rattle.tss_base.specs.declared.range.Range.{Range}
use Rattle.tss_base.specs.declared.operand.OpName.{OpName}
use Rattle.tss_base.specs.declared.operand.Mode.{Mode}
use Rattle.tss_base.specs.declared.operand.Mode.TheVariants.{Input, Output, Inout}
use Rattle.tss_base.specs.declared.marks.How.{How}
use Rattle.tss_base.specs.declared.marks.How.TheVariants.{Beside, Over}
use Rattle.tss_base.specs.declared.marks.Follow.{Follow}
use Rattle.tss_base.specs.Names.{Named}
use Rattle.tss_protocol.specs.Mail.{StorageName, OpenContents, ReleaseContents, Bye}
use Rattle.tss_protocol.specs.State.{Version}
use Rattle.tss_protocol.specs.Versions.{put_version, ready_with, settled, new_version, first_version, followed}
use Rattle.tss_protocol.specs.Versions.{opened_how, opened_by, after_open, enlisted, used_alone, used_behind, used_at}
use Rattle.tss_protocol.specs.Versions.{after_use, head_ready, produced_now, released_by_producer, is_last}
use Rattle.tss_protocol.specs.Versions.{tail_without, released_once, released_by_reader, released_by, released_at}
use Rattle.tss_protocol.specs.Versions.{after_release, refused_once, nacked_at, after_nack}
use Rattle.tss_locality.specs.Scopes.{Scope, IsOwn, NameIn, MaybeStorageIn, FollowIn, VersionIn, OpeningIn, MessagesIn}
use Rattle.tss_locality.specs.Scopes.{ClosedVersions}
use Rattle.tss_locality.proofs.VersionChanges.{VersionsOnly, StaysIn, messages_append, ready_in, stays_sending}
use Rattle.tss_locality.proofs.VersionChanges.{versions_none, versions_put, versions_change, stays_unchanged}
use Rattle.tss_locality.proofs.VersionChanges.{stays_settled}

module _ (c : Scope) (vs : Named Version) (closed : ClosedVersions c vs) where
  none : VersionsOnly c vs vs
  none = versions_none c vs closed

  -- ---- open

  new_in : (object : Range) (s : Option StorageName) → c.objects object → MaybeStorageIn c s →
      VersionIn c (new_version object s)
  new_in object s i j = record { object = i; storage = j; head = tt; tail = tt; predecessor = tt; successor = tt }

  first_in : (o : OpName) (object : Range) (s : Option StorageName) (m : Mode) → c.names o → c.objects object →
      MaybeStorageIn c s → VersionIn c (first_version o object s m)
  first_in o object s Input p i j =
      record { object = i; storage = j; head = tt; tail = p; predecessor = tt; successor = tt }
  first_in o object s Output p i j = new_in object s i j
  first_in o object s Inout p i j = new_in object s i j

  followed_only : (o : OpName) (x : OpenContents) (f : Follow) → c.names o → OpeningIn c x → c.names f.version →
      VersionsOnly c vs (followed vs o x f)
  followed_only o x f p i q =
      let opened : Version = record (new_version x.operand.object x.storage) { predecessor = Some f.version } in
      versions_change c vs (put_version vs o opened)
      (versions_put c vs vs none o opened p (record {
        object = i.object;
        storage = i.storage;
        head = tt;
        tail = tt;
        predecessor = q;
        successor = tt;
      }))
      f.version
      (λ y. record y { successor = Some (record f { version = o }) })
      q
      (λ y j. record {
        object = j.object;
        storage = j.storage;
        head = j.head;
        tail = j.tail;
        predecessor = j.predecessor;
        successor = p;
      })

  opened_how_in : (o : OpName) (x : OpenContents) (f : Follow) (how : How) → c.names o → OpeningIn c x →
      c.names f.version → StaysIn c vs (opened_how vs o x f how)
  opened_how_in o x f Beside p i q =
      stays_sending c vs (ready_with o o x.storage) (settled (followed vs o x f) f.version)
      (ready_in c o o x.storage p p i.storage)
      (stays_settled c vs (followed vs o x f) f.version (followed_only o x f p i q) q)
  opened_how_in o x f Over p i q = stays_settled c vs (followed vs o x f) f.version (followed_only o x f p i q) q

  opened_by_in : (o : OpName) (x : OpenContents) (f : Option Follow) → c.names o → OpeningIn c x → FollowIn c f →
      StaysIn c vs (opened_by vs o x f)
  opened_by_in o x None p i q = record {
    versions = versions_put c vs vs none o (first_version o x.operand.object x.storage x.operand.mode) p
        (first_in o x.operand.object x.storage x.operand.mode p i.object i.storage);
    sent = ready_in c o o x.storage p p i.storage;
  }
  opened_by_in o x (Some f) p i q = opened_how_in o x f f.how p i q

  -- an open message of the scope
  pub stays_open : (o : OpName) (x : OpenContents) → c.names o → OpeningIn c x → StaysIn c vs (after_open vs o x)
  stays_open o x p i = opened_by_in o x x.follows p i i.follows

  -- ---- use

  enlisted_in : (x : Version) (o : OpName) → VersionIn c x → c.names o → VersionIn c (enlisted x o)
  enlisted_in x o i p = record {
    object = i.object;
    storage = i.storage;
    head = i.head;
    tail = p;
    predecessor = i.predecessor;
    successor = i.successor;
  }

  headed_in : (x : Version) (o : OpName) → VersionIn c x → c.names o →
      VersionIn c (record (enlisted x o) { head = Some o })
  headed_in x o i p = record {
    object = i.object;
    storage = i.storage;
    head = p;
    tail = p;
    predecessor = i.predecessor;
    successor = i.successor;
  }

  used_alone_in : (o v : OpName) (x : Version) (b : Bool) → c.names o → c.names v → VersionIn c x →
      StaysIn c vs (used_alone vs o v x b)
  used_alone_in o v x true p q i = record {
    versions = versions_put c vs vs none v (enlisted x o) q (enlisted_in x o i p);
    sent = ready_in c o v x.storage p q i.storage;
  }
  used_alone_in o v x false p q i = record {
    versions = versions_put c vs vs none v (record (enlisted x o) { head = Some o }) q (headed_in x o i p);
    sent = tt;
  }

  used_behind_in : (o v : OpName) (x : Version) (last : Option OpName) → c.names o → c.names v → VersionIn c x →
      NameIn c last →
      StaysIn c vs (used_behind vs o v x last)
  used_behind_in o v x None p q i l = used_alone_in o v x x.produced p q i
  used_behind_in o v x (Some last) p q i l = record {
    versions = versions_put c vs vs none v (enlisted x o) q (enlisted_in x o i p);
    sent = ((l, p), tt);
  }

  used_at_in : (o v : OpName) (x : Option Version) → get vs v ≡ x → c.names o → c.names v →
      StaysIn c vs (used_at vs o v x)
  used_at_in o v None there p q = stays_unchanged c vs vs none
  used_at_in o v (Some x) there p q = let i = closed v x q there in used_behind_in o v x x.tail p q i i.tail

  -- a use of a version of the scope
  pub stays_use : (o v : OpName) → c.names o → c.names v → StaysIn c vs (after_use vs o v)
  stays_use o v p q = used_at_in o v (get vs v) refl p q

  -- ---- release

  head_ready_in : (v : OpName) (x : Version) (head : Option OpName) → c.names v → VersionIn c x → NameIn c head →
      MessagesIn c (head_ready v x head)
  head_ready_in v x None q i h = tt
  head_ready_in v x (Some o) q i h = ready_in c o v x.storage h q i.storage

  by_producer_in : (o v : OpName) (x : Version) → IsOwn c o → c.names v → VersionIn c x →
      StaysIn c vs (released_by_producer vs o v x)
  by_producer_in o v x p q i =
      stays_sending c vs (head_ready v x x.head ++ Bye o false ∷ []) (settled (put_version vs v (produced_now x)) v)
      (messages_append c (head_ready v x x.head) (Bye o false ∷ []) (head_ready_in v x x.head q i i.head) (p, tt))
      (stays_settled c vs (put_version vs v (produced_now x)) v
      (versions_put c vs vs none v (produced_now x) q (record {
        object = i.object;
        storage = i.storage;
        head = tt;
        tail = i.tail;
        predecessor = i.predecessor;
        successor = i.successor;
      }))
      q)

  tail_in_if : (b : Bool) (tail : Option OpName) → NameIn c tail → NameIn c (cond b None tail)
  tail_in_if true tail t = tt
  tail_in_if false tail t = t

  tail_in : (o : OpName) (tail : Option OpName) → NameIn c tail → NameIn c (tail_without o tail)
  tail_in o tail t = tail_in_if (is_last o tail) tail t

  by_reader_in : (o v : OpName) (x : Version) → IsOwn c o → c.names v → VersionIn c x →
      StaysIn c vs (released_by_reader vs o v x)
  by_reader_in o v x p q i =
      stays_sending c vs (Bye o (not (is_last o x.tail)) ∷ []) (settled (put_version vs v (released_once x o)) v)
      (p, tt)
      (stays_settled c vs (put_version vs v (released_once x o)) v
      (versions_put c vs vs none v (released_once x o) q (record {
        object = i.object;
        storage = i.storage;
        head = i.head;
        tail = tail_in o x.tail i.tail;
        predecessor = i.predecessor;
        successor = i.successor;
      }))
      q)

  released_by_in : (o v : OpName) (x : Version) (producer : Bool) → IsOwn c o → c.names v → VersionIn c x →
      StaysIn c vs (released_by vs o v x producer)
  released_by_in o v x true p q i = by_producer_in o v x p q i
  released_by_in o v x false p q i = by_reader_in o v x p q i

  released_at_in : (o v : OpName) (producer : Bool) (x : Option Version) → get vs v ≡ x → IsOwn c o → c.names v →
      StaysIn c vs (released_at vs o v producer x)
  released_at_in o v producer None there p q = stays_unchanged c vs vs none
  released_at_in o v producer (Some x) there p q = released_by_in o v x producer p q (closed v x q there)

  -- a release of a version of the scope by an operand of its own
  pub stays_release : (o : OpName) (r : ReleaseContents) → IsOwn c o → c.names r.version →
      StaysIn c vs (after_release vs o r)
  stays_release o r p q = released_at_in o r.version r.producer (get vs r.version) refl p q

  -- ---- nack

  nacked_at_in : (v : OpName) (x : Option Version) → get vs v ≡ x → c.names v → StaysIn c vs (nacked_at vs v x)
  nacked_at_in v None there q = stays_unchanged c vs vs none
  nacked_at_in v (Some x) there q =
      let i = closed v x q there in
      stays_settled c vs (put_version vs v (refused_once x)) v
      (versions_put c vs vs none v (refused_once x) q (record {
        object = i.object;
        storage = i.storage;
        head = i.head;
        tail = i.tail;
        predecessor = i.predecessor;
        successor = i.successor;
      }))
      q

  -- a nack for a version of the scope
  pub stays_nack : (v : OpName) → c.names v → StaysIn c vs (after_nack vs v)
  stays_nack v q = nacked_at_in v (get vs v) refl q
