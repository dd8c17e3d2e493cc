-- The messages that an event sends, and that each may be posted.
use Rattle.std.specs.Prelude.{◌≡◌, ℕ, ◌+◌, ◌<◌, ◌≤◌, List, [], ◌∷◌, length, Option, Some, None}
use Rattle.std.specs.FinMap.{get}
use Rattle.tss_base.specs.declared.operand.OpName.{OpName}
use Rattle.tss_base.specs.declared.operand.Operand.{Operand}
use Rattle.tss_base.specs.declared.operand.Task.{Task}
use Rattle.tss_base.specs.declared.machine.Machine.{Machine}
use Rattle.tss_base.specs.declared.event.Event.{Event}
use Rattle.tss_base.specs.declared.event.Event.TheVariants as event
use Rattle.tss_base.specs.Image.{ImageState}
use Rattle.tss_protocol.specs.Mail.{Source, OpenContents, ReleaseContents, IdleContents, Message, Mail, name_of, posted}
use Rattle.tss_protocol.specs.Mail.{posted_all, message_at, taken, message_count}
use Rattle.tss_protocol.specs.State.{State, Busy, Version, CopyState}
use Rattle.tss_protocol.specs.Gateway.{sent_by_take}
use Rattle.tss_protocol.specs.Stations.{after_ready, after_link, flight_after_finish}
use Rattle.tss_protocol.specs.Renaming.{after_decode, after_idle}
use Rattle.tss_protocol.specs.Versions.{after_open, after_use, after_release, after_nack}
use Rattle.tss_protocol.specs.Buffers.{sent_by_retire, is_last_piece, sent_by_copy}
use Rattle.tss_protocol.specs.Counts.{message_limit}
use Rattle.tss_protocol.specs.UnitMachine.{tables_of, IsEnabled, after_event}
use Rattle.tss_conditions.specs.Reached.{Reached}

-- ---- what an event sends, by what it finds

-- take, by the inbox
abbrev pub take_sends : Option Task → List Message
take_sends None = []
take_sends (Some t) = sent_by_take t

-- decode, by its message
abbrev pub decode_sends : Machine → State → OpName → Option Operand → List Message
decode_sends m S o None = []
decode_sends m S o (Some operand) = (after_decode m.sizes (tables_of S) o operand).sent

-- open
abbrev pub open_sends : State → OpName → Option OpenContents → List Message
open_sends S o None = []
open_sends S o (Some opening) = (after_open S.versions o opening).sent

-- use
abbrev pub use_sends : State → OpName → Option OpName → List Message
use_sends S o None = []
use_sends S o (Some v) = (after_use S.versions o v).sent

-- ready
abbrev pub ready_sends : State → OpName → Option Source → List Message
ready_sends S o None = []
ready_sends S o (Some source) = (after_ready S.flight o source).sent

-- link
abbrev pub link_sends : State → OpName → Option OpName → List Message
link_sends S o None = []
link_sends S o (Some next) = (after_link S.flight o next).sent

-- finish, by the worker
abbrev pub finish_sends : State → Option Busy → List Message
finish_sends S None = []
finish_sends S (Some b) = (flight_after_finish S.flight b.task.number).sent

-- release
abbrev pub release_sends : State → OpName → Option ReleaseContents → List Message
release_sends S o None = []
release_sends S o (Some r) = (after_release S.versions o r).sent

-- idle
abbrev pub idle_sends : State → OpName → Option IdleContents → List Message
idle_sends S v None = []
idle_sends S v (Some i) = (after_idle S.entries v i.base i.count).sent

-- retire, by the version
abbrev pub retire_sends : OpName → Option Version → List Message
retire_sends v None = []
retire_sends v (Some x) = sent_by_retire v x.object x.storage

-- copy, by the bank's copy
abbrev pub copy_sends : Option CopyState → List Message
copy_sends None = []
copy_sends (Some c) = sent_by_copy c (is_last_piece c)

-- the messages that an event sends, in order
abbrev pub sent_by_event : Machine → State → Event → List Message
sent_by_event m S event.Main = []
sent_by_event m S event.Take = take_sends S.inbox
sent_by_event m S (event.Decode o) = decode_sends m S o (get S.mail.decodes o)
sent_by_event m S (event.Ack o) = []
sent_by_event m S (event.Open o) = open_sends S o (get S.mail.opens o)
sent_by_event m S (event.Use o) = use_sends S o (get S.mail.uses o)
sent_by_event m S (event.Ready o) = ready_sends S o (get S.mail.readies o)
sent_by_event m S (event.Link o) = link_sends S o (get S.mail.links o)
sent_by_event m S (event.Start w) = []
sent_by_event m S (event.Exec w) = []
sent_by_event m S (event.Finish w) = finish_sends S (get S.workers w)
sent_by_event m S (event.Release o) = release_sends S o (get S.mail.releases o)
sent_by_event m S (event.Bye o) = []
sent_by_event m S (event.Idle v) = idle_sends S v (get S.mail.idles v)
sent_by_event m S (event.Nack v) = (after_nack S.versions v).sent
sent_by_event m S (event.Retire v) = retire_sends v (get S.versions v)
sent_by_event m S (event.Copy b) = copy_sends (get S.copies b)
sent_by_event m S (event.Gone v) = []

-- ---- that they may be posted

-- each has a new name, one after the other
abbrev pub ArePostable : Mail → List Message → Type 0
ArePostable mail [] = Unit {0}
ArePostable mail (x ∷ xs) = (message_at mail (name_of x) ≡ None) × ArePostable (posted mail x) xs

-- what holds before the messages of a list are posted, one after the other: each has a new name and there is room for
-- all
pub record MayPostAll (most : ℕ) (m : Mail) (xs : List Message) : Type 0 where
  pub fresh : ArePostable m xs
  pub room : message_count m + length xs ≤ most

-- the first may be posted, and then the others
pub record MayPostNext (most : ℕ) (m : Mail) (x : Message) (xs : List Message) : Type 0 where
  pub fresh : message_at m (name_of x) ≡ None
  pub room : message_count m < most
  pub rest : MayPostAll most (posted m x) xs

-- the messages of an event: in the mail without the message that the event takes each has a new name, with them it is
-- the mail after the event, and there is room for all of them
pub record MayPost (m : Machine) (S : State) (e : Event) : Type 0 where
  pub fresh : ArePostable (taken S.mail e) (sent_by_event m S e)
  pub mail : (after_event m S e).mail ≡ posted_all (taken S.mail e) (sent_by_event m S e)
  pub room : message_count (taken S.mail e) + length (sent_by_event m S e) ≤ message_limit m

-- every enabled event's
abbrev pub PostingLaw : Type 0
PostingLaw =
    (m : Machine) (i : ImageState) (S : State) (e : Event)
    → Reached m i S
    → IsEnabled m S e
    → MayPost m S e
