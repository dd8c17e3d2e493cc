-- A scope that is made of closed scopes is closed.
use Rattle.std.proofs.Common.{ℕ, Option, Some, None}
use Rattle.tss_base.specs.declared.range.Range.{Range}
use Rattle.tss_base.specs.declared.operand.OpName.{OpName}
use Rattle.tss_base.specs.declared.marks.LinkState.{LinkState}
use Rattle.tss_base.specs.declared.marks.LinkState.TheVariants as link
use Rattle.tss_base.specs.declared.marks.Follow.{Follow}
use Rattle.tss_protocol.specs.Names.{operand_name}
use Rattle.tss_protocol.specs.Mail.{StorageName, Home, Buffer, Source, OpenContents, GoneContents}
use Rattle.tss_protocol.specs.State.{OperandState, Version, CopyState, State}
use Rattle.tss_locality.specs.Scopes.{Scope, IsBase, NameIn, StorageIn, MaybeStorageIn, FollowIn, SourceIn}
use Rattle.tss_locality.specs.Scopes.{MaybeSourceIn, LinkIn, VersionIn, RecordIn, OpeningIn, GoingIn, CopyIn, Closed}

-- a scope has the names and objects of another
pub record LiesWithin (c d : Scope) : Type 0 where
  pub names : (o : OpName) → c.names o → d.names o
  pub objects : (x : Range) → c.objects x → d.objects x

module _ (c d : Scope) (less : LiesWithin c d) where
  name_more : (o : Option OpName) → NameIn c o → NameIn d o
  name_more None p = tt
  name_more (Some o) p = less.names o p

  -- a storage
  pub storage_more : (s : StorageName) → StorageIn c s → StorageIn d s
  storage_more Home p = tt
  storage_more (Buffer b) p = less.names b p

  maybe_storage_more : (s : Option StorageName) → MaybeStorageIn c s → MaybeStorageIn d s
  maybe_storage_more None p = tt
  maybe_storage_more (Some s) p = storage_more s p

  follow_more : (f : Option Follow) → FollowIn c f → FollowIn d f
  follow_more None p = tt
  follow_more (Some f) p = less.names f.version p

  -- what an operand was told
  pub source_more : (s : Source) → SourceIn c s → SourceIn d s
  source_more s p = (less.names s.version p.0, storage_more s.storage p.1)

  maybe_source_more : (s : Option Source) → MaybeSourceIn c s → MaybeSourceIn d s
  maybe_source_more None p = tt
  maybe_source_more (Some s) p = source_more s p

  link_more : (l : LinkState) → LinkIn c l → LinkIn d l
  link_more link.Nothing p = tt
  link_more (link.Held next) p = less.names next p
  link_more link.Passed p = tt

  -- a base
  pub base_more : (b : ℕ) → IsBase c b → IsBase d b
  base_more b p = (p.0, less.objects p.0 p.1, p.2)

  -- what a version names
  pub version_more : (x : Version) → VersionIn c x → VersionIn d x
  version_more x i = record {
    object = less.objects x.object i.object;
    storage = maybe_storage_more x.storage i.storage;
    head = name_more x.head i.head;
    tail = name_more x.tail i.tail;
    predecessor = name_more x.predecessor i.predecessor;
    successor = follow_more x.successor i.successor;
  }

  -- what a record names
  pub record_more : (r : OperandState) → RecordIn c r → RecordIn d r
  record_more r i = record { source = maybe_source_more r.source i.source; link = link_more r.link i.link }

  -- what an open message names
  pub opening_more : (x : OpenContents) → OpeningIn c x → OpeningIn d x
  opening_more x i = record {
    object = less.objects x.operand.object i.object;
    storage = maybe_storage_more x.storage i.storage;
    follows = follow_more x.follows i.follows;
  }

  -- what a gone message names
  pub going_more : (g : GoneContents) → GoingIn c g → GoingIn d g
  going_more g i = record { object = less.objects g.object i.object; buffer = name_more g.buffer i.buffer }

  -- what a copy names
  pub copy_more : (k : CopyState) → CopyIn c k → CopyIn d k
  copy_more k i = record { version = less.names k.version i.version; buffer = less.names k.buffer i.buffer }

-- a closed scope within another
pub record ClosedWithin (d : Scope) (S : State) (c : Scope) : Type 0 where
  pub closed : Closed c S
  pub within : LiesWithin c d

-- each name and each object of a scope is of a closed scope within it
pub record IsMadeOfClosed (d : Scope) (S : State) : Type 1 where
  pub of_name : (o : OpName) → d.names o → (c : Scope) × ClosedWithin d S c × c.names o
  pub of_object : (x : Range) → d.objects x → (c : Scope) × ClosedWithin d S c × c.objects x

-- then it is closed
pub closed_family : (d : Scope) (S : State) → IsMadeOfClosed d S → Closed d S
closed_family d S made = record {
  arrivals = λ o p in_d e. let t = made.of_name o in_d in t.1.within.objects p.object (t.1.closed.arrivals o p t.2 e);
  flight = λ o r in_d e. let t = made.of_name o in_d in record_more t.0 d t.1.within r (t.1.closed.flight o r t.2 e);
  workers = λ w b there k s in_d e.
      let t = made.of_name (operand_name b.task.number k) in_d in
      storage_more t.0 d t.1.within s (t.1.closed.workers w b there k s t.2 e);
  entries = λ b e there in_d.
      let t = made.of_object e.object in_d in t.1.within.names e.latest (t.1.closed.entries b e there t.2);
  versions = λ v x in_d e. let t = made.of_name v in_d in version_more t.0 d t.1.within x
      (t.1.closed.versions v x t.2 e);
  mail = record {
    decodes = λ o p in_d e.
        let t = made.of_name o in_d in t.1.within.objects p.object (t.1.closed.mail.decodes o p t.2 e);
    opens = λ o x in_d e. let t = made.of_name o in_d in opening_more t.0 d t.1.within x
        (t.1.closed.mail.opens o x t.2 e);
    uses = λ o v in_d e. let t = made.of_name o in_d in t.1.within.names v (t.1.closed.mail.uses o v t.2 e);
    readies = λ o s in_d e. let t = made.of_name o in_d in source_more t.0 d t.1.within s
        (t.1.closed.mail.readies o s t.2 e);
    links = λ o n in_d e. let t = made.of_name o in_d in t.1.within.names n (t.1.closed.mail.links o n t.2 e);
    releases = λ o r in_d e.
        let t = made.of_name o in_d in t.1.within.names r.version (t.1.closed.mail.releases o r t.2 e);
    idles = λ v i in_d e. let t = made.of_name v in_d in base_more t.0 d t.1.within i.base
        (t.1.closed.mail.idles v i t.2 e);
    gones = λ v g in_d e. let t = made.of_name v in_d in going_more t.0 d t.1.within g
        (t.1.closed.mail.gones v g t.2 e);
  };
  copies = λ b k in_d e. let t = made.of_object k.object in_d in copy_more t.0 d t.1.within k
      (t.1.closed.copies b k t.2 e);
}
