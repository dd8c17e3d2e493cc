-- What an event leaves: every field of the state that its kind may not change is the same.
use Rattle.std.specs.Prelude.{◌≡◌, Bool, true, false}
use Rattle.tss_base.specs.declared.event.Event.{Event}
use Rattle.tss_base.specs.declared.fields.Fields.{Fields}
use Rattle.tss_base.specs.Kinds.{kind_of}
use Rattle.tss_base.specs.Changes.{fields_after}
use Rattle.tss_protocol.specs.State.{State}

-- those that an event may change
abbrev pub changes : Event → Fields
changes e = fields_after (kind_of e)

-- a field that may change is the new one, and any other the old one
abbrev pub if_changed : {X : Type 0} → Bool → X → X → X
if_changed true new old = new
if_changed false new old = old

-- all fields but these are left
abbrev pub LeavesBut : Fields → State → State → Type 0
LeavesBut c S T =
    T ≡ record S {
      main = if_changed c.main T.main S.main;
      home = if_changed c.home T.home S.home;
      inbox = if_changed c.inbox T.inbox S.inbox;
      gateway = if_changed c.gateway T.gateway S.gateway;
      flight = if_changed c.flight T.flight S.flight;
      queue = if_changed c.queue T.queue S.queue;
      workers = if_changed c.workers T.workers S.workers;
      entries = if_changed c.entries T.entries S.entries;
      places = if_changed c.places T.places S.places;
      buffers = if_changed c.buffers T.buffers S.buffers;
      contents = if_changed c.contents T.contents S.contents;
      versions = if_changed c.versions T.versions S.versions;
      mail = if_changed c.mail T.mail S.mail;
      copies = if_changed c.copies T.copies S.copies;
      trap = if_changed c.trap T.trap S.trap;
    }

-- an event leaves all fields but its own
abbrev pub Leaves : Event → State → State → Type 0
Leaves e S T = LeavesBut (changes e) S T
