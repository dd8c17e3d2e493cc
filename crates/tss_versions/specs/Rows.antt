-- What each row leaves of the versions with their tokens, and the messages with theirs that it sends.
use Rattle.std.specs.Prelude.{suc, Bool, true, false, not, if◌then◌else◌, List, [], ◌∷◌, ◌++◌, Option, Some, None}
use Rattle.std.specs.FinMap.{get, insert, remove}
use Rattle.tss_base.specs.declared.operand.OpName.{OpName}
use Rattle.tss_base.specs.declared.operand.Storage.{Storage}
use Rattle.tss_base.specs.declared.marks.How.{How}
use Rattle.tss_base.specs.declared.marks.How.TheVariants.{Beside, Over}
use Rattle.tss_base.specs.declared.marks.Follow.{Follow}
use Rattle.tss_base.specs.Names.{Named}
use Rattle.tss_protocol.specs.Versions.{may_die, may_ask, is_last, tail_without, Versioned}
use Rattle.tss_events.specs.Events.{messages_of}
use Rattle.tss_events.specs.declared.message.Opening.{Opening}
use Rattle.tss_events.specs.declared.message.Gone.{Gone}
use Rattle.tss_events.specs.declared.message.Message.{Message}
use Rattle.tss_events.specs.declared.message.Message.TheVariants as message
use Rattle.tss_versions.specs.declared.kept.Kept.{Kept}
use Rattle.tss_versions.specs.declared.status.Site.{Site}
use Rattle.tss_versions.specs.declared.status.Next.{Next}
use Rattle.tss_versions.specs.declared.status.Status.{Status}
use Rattle.tss_versions.specs.Known.{storage_in, buffer_in, store_by, version_of, versions_of, first_status, behind_status, followed_status}

-- the versions that a row leaves, and the messages that it sends
pub record Left : Type 0 where
  pub part : Named Kept
  pub sent : List Message

-- the same without tokens
abbrev pub row_of : Left → Versioned
row_of d = record { part = versions_of d.part; sent = messages_of d.sent }

-- messages before those of a row
abbrev pub sending_first : List Message → Left → Left
sending_first ms d = record d { sent = ms ++ d.sent }

-- nothing is done
abbrev pub same : Named Kept → Left
same vs = record { part = vs; sent = [] }

-- ---- changes

-- what is known of a version is something else
abbrev pub with_status : Kept → Status → Kept
with_status x status = record x { status = status }

-- a change of a version, where it is there
abbrev pub changed_kept : Named Kept → OpName → (Kept → Kept) → Option Kept → Named Kept
changed_kept vs v f None = vs
changed_kept vs v f (Some x) = insert vs v (f x)

-- the same by its name
abbrev pub change_kept : Named Kept → OpName → (Kept → Kept) → Named Kept
change_kept vs v f = changed_kept vs v f (get vs v)

-- the same of a version that may not be named
abbrev pub change_site : Named Kept → Option Site → (Kept → Kept) → Named Kept
change_site vs None f = vs
change_site vs (Some s) f = change_kept vs s.name f

-- ---- messages

-- an operand is told a version, where that has a storage
abbrev pub ready_by : OpName → OpName → Option Storage → List Message
ready_by o v None = []
ready_by o v (Some storage) = message.Ready o v storage ∷ []

-- a version is gone, with the tokens of its place and of its buffer
abbrev pub gone_by : OpName → Kept → Bool → Gone
gone_by v x retired = record {
  version = v;
  object = x.status.object;
  place = x.place;
  buffer = buffer_in x.store;
  retired = retired;
}

-- a version is gone whose storage another one has
abbrev pub gone_over : OpName → Kept → Gone
gone_over v x = record (gone_by v x false) { buffer = None }

-- ---- settle

-- a version asks
abbrev pub asked_kept : Named Kept → OpName → Kept → Left
asked_kept vs v x = record {
  part = insert vs v (with_status x (record (x.status) { asked = Some x.status.registered }));
  sent = message.Idle v x.status.object.base x.status.registered ∷ [];
}

-- where it may, and no other follows it
abbrev pub asking_by : Named Kept → OpName → Kept → Option Next → Left
asking_by vs v x None = if may_ask (version_of x) then asked_kept vs v x else same vs
asking_by vs v x (Some n) = same vs

abbrev pub asking_at : Named Kept → OpName → Option Kept → Left
asking_at vs v None = same vs
asking_at vs v (Some x) = asking_by vs v x x.status.successor

abbrev pub asking : Named Kept → OpName → Left
asking vs v = asking_at vs v (get vs v)

-- one that another version follows now
abbrev pub bridged_kept : Site → Kept → Kept
bridged_kept next q = with_status q (followed_status next q.status)

-- one that stands behind another version's predecessor
abbrev pub moved_kept : Kept → Kept → Kept
moved_kept x y = with_status y (record (y.status) { predecessor = x.status.predecessor })

-- v is removed from between its predecessor and its successor
abbrev pub unlinked_kept : Named Kept → OpName → Kept → Site → Named Kept
unlinked_kept vs v x next =
    change_kept (change_site (remove vs v) x.status.predecessor (bridged_kept next)) next.name (moved_kept x)

-- v gives way to the next beside it, which may ask then
abbrev pub passed_by : Named Kept → OpName → Kept → Site → Left
passed_by vs v x next =
    sending_first (message.Gone (gone_by v x false) ∷ []) (asking (unlinked_kept vs v x next) next.name)

-- a version has the storage of v, with its token
abbrev pub stored_kept : Kept → Kept → Kept
stored_kept x y = record y { store = x.store }

-- v gives way to the next over it, which has its storage
abbrev pub taken_over : Named Kept → OpName → Kept → Site → Left
taken_over vs v x next = record {
  part = change_kept (unlinked_kept vs v x next) next.name (stored_kept x);
  sent = message.Gone (gone_over v x) ∷ ready_by next.name next.name (storage_in x.store);
}

-- by how it is followed
abbrev pub gives_way : Named Kept → OpName → Kept → Next → How → Left
gives_way vs v x n Beside = passed_by vs v x n.site
gives_way vs v x n Over = taken_over vs v x n.site

-- by whether it has a successor
abbrev pub settled_by : Named Kept → OpName → Kept → Option Next → Left
settled_by vs v x None = asking_by vs v x None
settled_by vs v x (Some n) = if may_die (version_of x) n.last then gives_way vs v x n n.how else same vs

abbrev pub settled_at : Named Kept → OpName → Option Kept → Left
settled_at vs v None = same vs
settled_at vs v (Some x) = settled_by vs v x x.status.successor

-- a version is settled. One version at most is removed
abbrev pub settled_kept : Named Kept → OpName → Left
settled_kept vs v = settled_at vs v (get vs v)

-- ---- open

-- a new version with the tokens of its message
abbrev pub opened_kept : Opening → Status → Kept
opened_kept m status = record { status = status; store = store_by m.storage m.buffer; place = m.place }

-- one that follows nothing
abbrev pub first_kept : Named Kept → Opening → Left
first_kept vs m = record {
  part = insert vs m.o (opened_kept m (first_status m.o m.operand.object m.operand.mode));
  sent = ready_by m.o m.o m.storage;
}

-- its link from the version that it follows
abbrev pub next_of : Opening → Follow → Next
next_of m f = record { site = record { name = m.o; place = m.place.place }; how = f.how; last = f.last }

-- the version that is followed
abbrev pub linked_kept : Opening → Follow → Kept → Kept
linked_kept m f p = with_status p (record (p.status) { successor = Some (next_of m f) })

-- one behind a version that stands at a place
abbrev pub behind_kept : Named Kept → Opening → Follow → Site → Named Kept
behind_kept vs m f before =
    change_kept (insert vs m.o (opened_kept m (behind_status m.operand.object (Some before)))) before.name (linked_kept m f)

-- ready at once beside the other
abbrev pub ready_beside : Opening → How → List Message
ready_beside m Beside = ready_by m.o m.o m.storage
ready_beside m Over = []

abbrev pub followed_kept : Named Kept → Opening → Follow → Site → Left
followed_kept vs m f before = sending_first (ready_beside m f.how) (settled_kept (behind_kept vs m f before) before.name)

abbrev pub followed_at : Named Kept → Opening → Follow → Option Kept → Left
followed_at vs m f None = same vs
followed_at vs m f (Some p) = followed_kept vs m f (record { name = f.version; place = p.place.place })

-- by what it follows
abbrev pub opened_by : Named Kept → Opening → Option Follow → Left
opened_by vs m None = first_kept vs m
opened_by vs m (Some f) = followed_at vs m f (get vs f.version)

-- the versions and messages after an open that isn't blocked
abbrev pub kept_after_open : Named Kept → Opening → Left
kept_after_open vs m = opened_by vs m m.follows

-- ---- use

-- one more reader, at the end of the chain
abbrev pub enlisted_kept : Kept → OpName → Kept
enlisted_kept x o = with_status x (record (x.status) { registered = suc x.status.registered; tail = Some o })

-- no reader is waiting: that of a produced version is ready, and that of an open one is its head
abbrev pub alone_kept : Named Kept → OpName → OpName → Kept → Bool → Left
alone_kept vs o v x true = record { part = insert vs v (enlisted_kept x o); sent = ready_by o v (storage_in x.store) }
alone_kept vs o v x false = record {
  part = insert vs v (with_status x (record ((enlisted_kept x o).status) { head = Some o }));
  sent = [];
}

-- the last reader is told who comes next
abbrev pub used_kept : Named Kept → OpName → OpName → Kept → Option OpName → Left
used_kept vs o v x None = alone_kept vs o v x x.status.produced
used_kept vs o v x (Some last) = record { part = insert vs v (enlisted_kept x o); sent = message.Link last o ∷ [] }

abbrev pub used_by : Named Kept → OpName → OpName → Option Kept → Left
used_by vs o v None = same vs
used_by vs o v (Some x) = used_kept vs o v x x.status.tail

-- the versions and messages after a use
abbrev pub kept_after_use : Named Kept → OpName → OpName → Left
kept_after_use vs o v = used_by vs o v (get vs v)

-- ---- release

-- the head of a version that is produced now is told so
abbrev pub head_by : OpName → Option Storage → Option OpName → List Message
head_by v storage None = []
head_by v storage (Some o) = ready_by o v storage

-- by its producer, before it is settled
abbrev pub produced_kept : Named Kept → OpName → OpName → Kept → Left
produced_kept vs o v x = record {
  part = insert vs v (with_status x (record (x.status) { produced = true; head = None }));
  sent = head_by v (storage_in x.store) x.status.head ++ message.Bye o false ∷ [];
}

-- by a reader, before it is settled
abbrev pub read_kept : Named Kept → OpName → OpName → Kept → Left
read_kept vs o v x = record {
  part =
      insert vs v
      (with_status x (record (x.status) { released = suc x.status.released; tail = tail_without o x.status.tail }));
  sent = message.Bye o (not (is_last o x.status.tail)) ∷ [];
}

-- by who releases
abbrev pub leaving_kept : Named Kept → OpName → OpName → Kept → Bool → Left
leaving_kept vs o v x true = produced_kept vs o v x
leaving_kept vs o v x false = read_kept vs o v x

-- and settled
abbrev pub settling_after : Left → OpName → Left
settling_after d v = sending_first d.sent (settled_kept d.part v)

abbrev pub released_by : Named Kept → OpName → OpName → Bool → Option Kept → Left
released_by vs o v producer None = same vs
released_by vs o v producer (Some x) = settling_after (leaving_kept vs o v x producer) v

-- the versions and messages after a release
abbrev pub kept_after_release : Named Kept → OpName → OpName → Bool → Left
kept_after_release vs o v producer = released_by vs o v producer (get vs v)

-- ---- nack

-- it was refused with the number for which it asked
abbrev pub refused_kept : Kept → Kept
refused_kept x = with_status x (record (x.status) { refused = x.status.asked; asked = None })

abbrev pub nacked_by : Named Kept → OpName → Option Kept → Left
nacked_by vs v None = same vs
nacked_by vs v (Some x) = settled_kept (insert vs v (refused_kept x)) v

-- the versions and messages after a nack
abbrev pub kept_after_nack : Named Kept → OpName → Left
kept_after_nack vs v = nacked_by vs v (get vs v)
