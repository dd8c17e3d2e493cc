-- What idle, nack, retire and gone find.
use Rattle.std.specs.Prelude.{◌≡◌, ℕ, true, Some, None}
use Rattle.std.specs.FinMap.{get}
use Rattle.tss_base.specs.declared.operand.OpName.{OpName}
use Rattle.tss_base.specs.declared.machine.Machine.{Machine}
use Rattle.tss_base.specs.declared.event.Event.TheVariants as event
use Rattle.tss_base.specs.Image.{ImageState}
use Rattle.tss_protocol.specs.Names.{bank_of}
use Rattle.tss_protocol.specs.Mail.{StorageName, Buffer, IdleContents, GoneContents}
use Rattle.tss_protocol.specs.State.{State, Entry, Version}
use Rattle.tss_protocol.specs.UnitMachine.{IsEnabled}
use Rattle.tss_conditions.specs.Reached.{Reached}

-- a registered version has asked with a number of readers
pub record HasAsked (S : State) (v : OpName) (count : ℕ) : Type 0 where
  pub version : Version
  pub there : get S.versions v ≡ Some version
  pub asked : version.asked ≡ Some count

-- a version that asks is registered, has asked with that number, and is of the object of the entry at the base
pub record IsIdle (S : State) (v : OpName) (c : IdleContents) : Type 0 where
  pub asks : HasAsked S v c.count
  pub base : asks.version.object.base ≡ c.base
  pub entry : Entry
  pub there : get S.entries c.base ≡ Some entry
  pub object : entry.object ≡ asks.version.object

-- in every reached state
abbrev pub IdleLaw : Type 0
IdleLaw =
    (m : Machine) (i : ImageState) (S : State) (v : OpName) (c : IdleContents)
    → Reached m i S
    → get S.mail.idles v ≡ Some c
    → IsIdle S v c

-- one that may not retire is registered and has asked
abbrev pub NackLaw : Type 0
NackLaw =
    (m : Machine) (i : ImageState) (S : State) (v : OpName)
    → Reached m i S
    → get S.mail.nacks v ≡ Some tt
    → (count : ℕ) × HasAsked S v count

-- one that may is registered and has asked, has no successor and has a storage
pub record MayLeave (S : State) (v : OpName) : Type 0 where
  pub count : ℕ
  pub asks : HasAsked S v count
  pub last : asks.version.successor ≡ None
  pub storage : StorageName
  pub stored : asks.version.storage ≡ Some storage

-- in every reached state
abbrev pub RetiringLaw : Type 0
RetiringLaw =
    (m : Machine) (i : ImageState) (S : State) (v : OpName)
    → Reached m i S
    → get S.mail.retires v ≡ Some tt
    → MayLeave S v

-- where one that lies in a buffer may be removed, the bank of its object copies nothing
abbrev pub EngineLaw : Type 0
EngineLaw =
    (m : Machine) (S : State) (v n : OpName) (x : Version)
    → IsEnabled m S (event.Retire v)
    → get S.versions v ≡ Some x
    → x.storage ≡ Some (Buffer n)
    → get S.copies (bank_of m.sizes x.object) ≡ None

-- of one that is gone a place is held in the bank of its object, and so is its buffer. Where it was the last of its
-- object, the object has an entry, which is about to leave
pub record HasGone (m : Machine) (S : State) (v : OpName) (g : GoneContents) : Type 0 where
  pub place : get S.places v ≡ Some (bank_of m.sizes g.object)
  pub buffer : (b : OpName) → g.buffer ≡ Some b → get S.buffers b ≡ Some (bank_of m.sizes g.object)
  pub entry : g.retired ≡ true
      → (e : Entry) × (get S.entries g.object.base ≡ Some e) × (e.object ≡ g.object) × (e.retiring ≡ true)

-- in every reached state
abbrev pub GoneLaw : Type 0
GoneLaw =
    (m : Machine) (i : ImageState) (S : State) (v : OpName) (g : GoneContents)
    → Reached m i S
    → get S.mail.gones v ≡ Some g
    → HasGone m S v g
