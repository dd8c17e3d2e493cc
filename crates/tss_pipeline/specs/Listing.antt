-- The lists of the names whose events of a kind may happen, which are kept from event to event.
use Rattle.std.specs.Prelude.{◌≡◌, ◌≢◌, Bool, true, false, Option, Some, None, is_some}
use Rattle.std.specs.FinMap.{get, insert, remove}
use Rattle.tss_base.specs.declared.operand.OpName.{OpName}
use Rattle.tss_base.specs.declared.event.Event.{Event}
use Rattle.tss_base.specs.declared.event.Event.TheVariants as event
use Rattle.tss_base.specs.Names.{Named, name_cmp}
use Rattle.tss_tables.specs.Table.{TableState}
use Rattle.tss_protocol.specs.Mail.{Mail}
use Rattle.tss_protocol.specs.Counts.{message_limit}
use Rattle.tss_protocol.specs.UnitMachine.{is_enabled}
use Rattle.tss_mail.specs.declared.kind.Kind.{Kind}
use Rattle.tss_mail.specs.declared.kind.Kind.TheVariants as kind
use Rattle.tss_mail.specs.Kinds.{event_of, address_of}
use Rattle.tss_pipeline.specs.declared.listing.Suspects.{Suspects}
use Rattle.tss_pipeline.specs.declared.listing.Suspects.TheVariants as suspects
use Rattle.tss_pipeline.specs.declared.units.Units.{Units}
use Rattle.tss_pipeline.specs.State.{state_of}
use Rattle.tss_pipeline.specs.Fit.{IsFit}
use Rattle.tss_pipeline.specs.Does.{Does}

-- a set of names
abbrev pub Names : Type 0
Names = TableState name_cmp (Unit {0})

-- messages of these kinds may have to wait, and the names of those that needn't are listed
abbrev pub is_listed : Kind → Bool
is_listed kind.Open = true
is_listed kind.Use = true
is_listed k = false

-- whether a name has a message of such a kind
abbrev pub is_there : Mail → Kind → OpName → Bool
is_there m kind.Open o = is_some (get m.opens o)
is_there m kind.Use o = is_some (get m.uses o)
is_there m k o = false

-- a name is put into a set, or taken out of it
abbrev pub marked : Named (Unit {0}) → OpName → Bool → Named (Unit {0})
marked names o true = insert names o tt
marked names o false = remove names o

-- whether the event of a kind may happen for a name
abbrev pub may_happen : Units → Kind → OpName → Bool
may_happen u k o = is_enabled u.machine (state_of u) (event_of k o)

-- there is room for a name of each message, and each name has a message, but for one that may have none
pub record FitsBeside (u : Units) (k : Kind) (o : OpName) (t : Names) : Type 0 where
  pub size : t.size ≡ message_limit u.machine
  pub others : (q : OpName) → q ≢ o → is_some (get t.entries q) ≡ true → is_there (state_of u).mail k q ≡ true

-- the same of all names
pub record FitsIn (u : Units) (k : Kind) (t : Names) : Type 0 where
  pub size : t.size ≡ message_limit u.machine
  pub each : (q : OpName) → is_some (get t.entries q) ≡ true → is_there (state_of u).mail k q ≡ true

-- the names are those whose event of a kind may happen
pub record AreListed (u : Units) (k : Kind) (t : Names) : Type 0 where
  pub size : t.size ≡ message_limit u.machine
  pub each : (o : OpName) → is_some (get t.entries o) ≡ may_happen u k o

-- they were before an event that the units have done
pub record WereListed (e : Event) (new : Units) (k : Kind) (t : Names) : Type 0 where
  pub old : Units
  pub fit : IsFit old
  pub does : Does e old new
  pub listed : AreListed old k t

-- ---- which names an event may put into a list, or take out of it

-- opens: a decode sends one, and an open may be what others wait for
abbrev pub suspects_of_open : Event → Suspects
suspects_of_open (event.Decode o) = suspects.One o
suspects_of_open (event.Open v) = suspects.All
suspects_of_open e = suspects.Nobody

-- uses: the same, and a use takes its own
abbrev pub suspects_of_use : Event → Suspects
suspects_of_use (event.Decode o) = suspects.One o
suspects_of_use (event.Use o) = suspects.One o
suspects_of_use (event.Open v) = suspects.All
suspects_of_use e = suspects.Nobody

abbrev pub suspects_of : Kind → Event → Suspects
suspects_of kind.Open e = suspects_of_open e
suspects_of kind.Use e = suspects_of_use e
suspects_of k e = suspects.All

-- the name of the message that an event takes
abbrev pub name_taken : Event → Option OpName
name_taken e = name_in (address_of e)
  where
    name_in : Option (Kind × OpName) → Option OpName
    name_in None = None
    name_in (Some a) = Some a.1
