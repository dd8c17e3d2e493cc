-- The versioning tables: the versions of objects, each with the chain of its readers and the versions before and after
-- it.
use Rattle.std.specs.Prelude.{ℕ, zero, suc, ◌==◌, Bool, true, false, ◌&&◌, not, if◌then◌else◌, List, [], ◌∷◌, ◌++◌}
use Rattle.std.specs.Prelude.{Option, Some, None, is_none}
use Rattle.std.specs.FinMap.{get, insert, remove, len, contains_key}
use Rattle.tss_base.specs.declared.range.Range.{Range}
use Rattle.tss_base.specs.declared.operand.OpName.{OpName}
use Rattle.tss_base.specs.declared.operand.Mode.{Mode}
use Rattle.tss_base.specs.declared.operand.Mode.TheVariants.{Input, Output, Inout}
use Rattle.tss_base.specs.declared.marks.How.{How}
use Rattle.tss_base.specs.declared.marks.How.TheVariants.{Beside, Over}
use Rattle.tss_base.specs.declared.marks.Follow.{Follow}
use Rattle.tss_base.specs.Names.{Named}
use Rattle.tss_protocol.specs.Names.{same_name}
use Rattle.tss_protocol.specs.Mail.{StorageName, Home, Buffer, OpenContents, ReleaseContents, GoneContents, Message}
use Rattle.tss_protocol.specs.Mail.{Ready, Link, Bye, Idle, Gone}
use Rattle.tss_protocol.specs.State.{Version, Outcome}

-- the versions and the messages that an event leaves
abbrev pub Versioned : Type 0
Versioned = Outcome (Named Version)

-- what settles a version
abbrev pub Settling : Type 0
Settling = Named Version → OpName → Versioned

-- messages before those of an outcome
abbrev pub sending : List Message → Versioned → Versioned
sending ms d = record d { sent = ms ++ d.sent }

-- ---- changes of the versions

-- a version stands under its name
abbrev pub put_version : Named Version → OpName → Version → Named Version
put_version vs v x = insert vs v x

-- a version is removed
abbrev pub drop_version : Named Version → OpName → Named Version
drop_version vs v = remove vs v

-- a change of a version, where it is there
abbrev pub version_changed : Named Version → OpName → (Version → Version) → Option Version → Named Version
version_changed vs v f None = vs
version_changed vs v f (Some x) = put_version vs v (f x)

-- the same by its name
abbrev pub change_version : Named Version → OpName → (Version → Version) → Named Version
change_version vs v f = version_changed vs v f (get vs v)

-- the same of a version that may not be named
abbrev pub change_named : Named Version → Option OpName → (Version → Version) → Named Version
change_named vs None f = vs
change_named vs (Some v) f = change_version vs v f

-- ---- messages

-- an operand is told a version, where that has a storage
abbrev pub ready_with : OpName → OpName → Option StorageName → List Message
ready_with o v None = []
ready_with o v (Some s) = Ready o (record { version = v; storage = s }) ∷ []

-- the buffer of a storage
abbrev pub buffer_of : Option StorageName → Option OpName
buffer_of None = None
buffer_of (Some Home) = None
buffer_of (Some (Buffer b)) = Some b

-- a version has died: another one of its object has taken its part
abbrev pub died : OpName → Range → Option OpName → Message
died v object buffer = Gone v (record { object = object; buffer = buffer; retired = false })

-- ---- settle: a version that is done gives way to its successor, or asks whether it may retire

-- it is produced, all its readers have released it, and it doesn't ask
abbrev pub may_die : Version → ℕ → Bool
may_die x last = x.produced && (x.released == last) && is_none x.asked

-- a number is there, and is this one
abbrev pub is_count : Option ℕ → ℕ → Bool
is_count None n = false
is_count (Some k) n = k == n

-- it is produced, all registered readers have released it, it is the oldest of its object, it doesn't ask, and it
-- wasn't refused with as many readers
abbrev pub may_ask : Version → Bool
may_ask x =
    x.produced
    && (x.released == x.registered)
    && is_none x.predecessor
    && is_none x.asked
    && not (is_count x.refused x.registered)

-- the same link to another successor
abbrev pub followed_by : OpName → Option Follow → Option Follow
followed_by s None = None
followed_by s (Some f) = Some (record f { version = s })

-- v is removed from between its predecessor and its successor s
abbrev pub unlinked : Named Version → OpName → Version → OpName → Named Version
unlinked vs v x s =
    change_version
    (change_named (drop_version vs v) x.predecessor (λ q. record q { successor = followed_by s q.successor }))
    s
    (λ y. record y { predecessor = x.predecessor })

-- v gives way to s. Beside: s is settled next. Over: s has v's storage and is told so
abbrev pub settle_beside : Named Version → OpName → Version → OpName → Settling → Versioned
settle_beside vs v x s settle_next =
    sending (died v x.object (buffer_of x.storage) ∷ []) (settle_next (unlinked vs v x s) s)

-- the other way, where s takes the storage
abbrev pub settle_over : Named Version → OpName → Version → OpName → Versioned
settle_over vs v x s = record {
  part = change_version (unlinked vs v x s) s (λ y. record y { storage = x.storage });
  sent = died v x.object None ∷ ready_with s s x.storage;
}

-- v gives way, by how it is followed
abbrev pub settle_how : Named Version → OpName → Version → Follow → Settling → How → Versioned
settle_how vs v x f settle_next Beside = settle_beside vs v x f.version settle_next
settle_how vs v x f settle_next Over = settle_over vs v x f.version

-- v asks
abbrev pub settle_asking : Named Version → OpName → Version → Versioned
settle_asking vs v x = record {
  part = put_version vs v (record x { asked = Some x.registered });
  sent = Idle v (record { base = x.object.base; count = x.registered }) ∷ [];
}

-- nothing is done
abbrev pub unchanged : Named Version → Versioned
unchanged vs = record { part = vs; sent = [] }

-- by whether v has a successor
abbrev pub settle_by : Named Version → OpName → Version → Settling → Option Follow → Versioned
settle_by vs v x settle_next None = if may_ask x then settle_asking vs v x else unchanged vs
settle_by vs v x settle_next (Some f) = if may_die x f.last then settle_how vs v x f settle_next f.how else unchanged vs

-- by whether v is registered
abbrev pub settle_at : Named Version → OpName → Settling → Option Version → Versioned
settle_at vs v settle_next None = unchanged vs
settle_at vs v settle_next (Some x) = settle_by vs v x settle_next x.successor

-- settle, through so many versions at most
unfoldable pub settle : ℕ → Named Version → OpName → Versioned
settle zero vs v = unchanged vs
settle (suc n) vs v = settle_at vs v (settle n) (get vs v)

-- each version that gives way is removed, so one more than there are is enough
abbrev pub settled : Named Version → OpName → Versioned
settled vs v = settle (suc (len vs)) vs v

-- ---- open: a version is registered

-- a version of which nothing is known but its object and its storage
abbrev pub new_version : Range → Option StorageName → Version
new_version object storage = record {
  object = object;
  storage = storage;
  produced = false;
  registered = 0;
  released = 0;
  head = None;
  tail = None;
  predecessor = None;
  successor = None;
  asked = None;
  refused = None;
}

-- the first version of an object: an input opens it as its first reader, and it is produced
abbrev pub first_version : OpName → Range → Option StorageName → Mode → Version
first_version o object storage Input =
    record (new_version object storage) { produced = true; registered = 1; tail = Some o }
first_version o object storage Output = new_version object storage
first_version o object storage Inout = new_version object storage

-- a version that follows nothing
abbrev pub opened_first : Named Version → OpName → OpenContents → Versioned
opened_first vs o opening = record {
  part = put_version vs o (first_version o opening.operand.object opening.storage opening.operand.mode);
  sent = ready_with o o opening.storage;
}

-- a version that follows another, which knows it as its successor
abbrev pub followed : Named Version → OpName → OpenContents → Follow → Named Version
followed vs o opening f =
    change_version
    (put_version vs o (record (new_version opening.operand.object opening.storage) { predecessor = Some f.version }))
    f.version
    (λ p. record p { successor = Some (record f { version = o }) })

-- beside another it is ready at once, and over another only when that gives way
abbrev pub opened_how : Named Version → OpName → OpenContents → Follow → How → Versioned
opened_how vs o opening f Beside =
    sending (ready_with o o opening.storage) (settled (followed vs o opening f) f.version)
opened_how vs o opening f Over = settled (followed vs o opening f) f.version

-- by what it follows
abbrev pub opened_by : Named Version → OpName → OpenContents → Option Follow → Versioned
opened_by vs o opening None = opened_first vs o opening
opened_by vs o opening (Some f) = opened_how vs o opening f f.how

-- the versions and messages after open
abbrev pub after_open : Named Version → OpName → OpenContents → Versioned
after_open vs o opening = opened_by vs o opening opening.follows

-- the version that it follows, if any, is registered
abbrev pub is_followable : Named Version → Option Follow → Bool
is_followable vs None = true
is_followable vs (Some f) = contains_key vs f.version

-- open may happen
abbrev pub can_open : Named Version → OpenContents → Bool
can_open vs opening = is_followable vs opening.follows

-- ---- use: a reader is enlisted at the end of a version's chain

-- use may happen
abbrev pub can_use : Named Version → OpName → Bool
can_use vs v = contains_key vs v

-- one more reader, at the end of the chain
abbrev pub enlisted : Version → OpName → Version
enlisted x o = record x { registered = suc x.registered; tail = Some o }

-- no reader is waiting: that of a produced version is ready, and that of an open one is its head
abbrev pub used_alone : Named Version → OpName → OpName → Version → Bool → Versioned
used_alone vs o v x true = record { part = put_version vs v (enlisted x o); sent = ready_with o v x.storage }
used_alone vs o v x false = record { part = put_version vs v (record (enlisted x o) { head = Some o }); sent = [] }

-- the last reader is told who comes next
abbrev pub used_behind : Named Version → OpName → OpName → Version → Option OpName → Versioned
used_behind vs o v x None = used_alone vs o v x x.produced
used_behind vs o v x (Some last) = record { part = put_version vs v (enlisted x o); sent = Link last o ∷ [] }

-- what a use leaves, by the version
abbrev pub used_at : Named Version → OpName → OpName → Option Version → Versioned
used_at vs o v None = unchanged vs
used_at vs o v (Some x) = used_behind vs o v x x.tail

-- the versions and messages after use
abbrev pub after_use : Named Version → OpName → OpName → Versioned
after_use vs o v = used_at vs o v (get vs v)

-- ---- release: a task has finished with a version

-- the head of a version that is produced now is told so
abbrev pub head_ready : OpName → Version → Option OpName → List Message
head_ready v x None = []
head_ready v x (Some o) = ready_with o v x.storage

-- the version is produced
abbrev pub produced_now : Version → Version
produced_now x = record x { produced = true; head = None }

-- by its producer: it is produced, and no link is to come
abbrev pub released_by_producer : Named Version → OpName → OpName → Version → Versioned
released_by_producer vs o v x =
    sending (head_ready v x x.head ++ Bye o false ∷ []) (settled (put_version vs v (produced_now x)) v)

-- the operand is the last of the chain
abbrev pub is_last : OpName → Option OpName → Bool
is_last o None = false
is_last o (Some last) = same_name last o

-- the tail without a reader
abbrev pub tail_without : OpName → Option OpName → Option OpName
tail_without o tail = if is_last o tail then None else tail

-- one more reader has released it
abbrev pub released_once : Version → OpName → Version
released_once x o = record x { released = suc x.released; tail = tail_without o x.tail }

-- by a reader: a link is promised, or has come, where it isn't the last of the chain
abbrev pub released_by_reader : Named Version → OpName → OpName → Version → Versioned
released_by_reader vs o v x =
    sending (Bye o (not (is_last o x.tail)) ∷ []) (settled (put_version vs v (released_once x o)) v)

-- by who releases
abbrev pub released_by : Named Version → OpName → OpName → Version → Bool → Versioned
released_by vs o v x true = released_by_producer vs o v x
released_by vs o v x false = released_by_reader vs o v x

-- what a release leaves, by the version
abbrev pub released_at : Named Version → OpName → OpName → Bool → Option Version → Versioned
released_at vs o v producer None = unchanged vs
released_at vs o v producer (Some x) = released_by vs o v x producer

-- the versions and messages after release
abbrev pub after_release : Named Version → OpName → ReleaseContents → Versioned
after_release vs o r = released_at vs o r.version r.producer (get vs r.version)

-- ---- nack: a version may not retire

-- it was refused with the number for which it asked
abbrev pub refused_once : Version → Version
refused_once x = record x { refused = x.asked; asked = None }

-- what a nack leaves, by the version
abbrev pub nacked_at : Named Version → OpName → Option Version → Versioned
nacked_at vs v None = unchanged vs
nacked_at vs v (Some x) = settled (put_version vs v (refused_once x)) v

-- the versions and messages after nack
abbrev pub after_nack : Named Version → OpName → Versioned
after_nack vs v = nacked_at vs v (get vs v)

-- ---- retire: a version may retire, and is removed

-- it has retired, as the last of its object
abbrev pub retired : Range → Option OpName → GoneContents
retired object buffer = record { object = object; buffer = buffer; retired = true }

-- the versions after retire
abbrev pub after_retire : Named Version → OpName → Named Version
after_retire vs v = drop_version vs v
