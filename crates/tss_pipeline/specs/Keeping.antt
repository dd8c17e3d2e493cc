-- What is kept beside the units: how full each table is, and what may happen of the kinds whose events may have to wait,
-- so that what an event leaves alone isn't counted or tested anew.
use Rattle.std.specs.Prelude.{◌≡◌, ℕ, List, length, map}
use Rattle.tss_base.specs.declared.counts.Counts.{Counts}
use Rattle.tss_base.specs.declared.event.Event.{Event}
use Rattle.tss_protocol.specs.Counts.{counts_of}
use Rattle.tss_mail.specs.declared.kind.Kind.TheVariants as kind
use Rattle.tss_pipeline.specs.declared.enabling.Source.{Source}
use Rattle.tss_pipeline.specs.declared.enabling.Source.TheVariants as source
use Rattle.tss_pipeline.specs.declared.enabling.TheConstants.{SOURCES}
use Rattle.tss_pipeline.specs.declared.keeping.Tested.{Tested}
use Rattle.tss_pipeline.specs.declared.keeping.Waiting.{Waiting}
use Rattle.tss_pipeline.specs.declared.units.Units.{Units}
use Rattle.tss_pipeline.specs.Enabling.{enabled_of_kind}
use Rattle.tss_pipeline.specs.State.{state_of}
use Rattle.tss_pipeline.specs.Fit.{IsFit}
use Rattle.tss_pipeline.specs.Does.{Does}
use Rattle.tss_pipeline.specs.Listing.{AreListed}

-- these are the counts of the units
abbrev pub AreCounts : Units → Counts → Type 0
AreCounts u counts = counts ≡ counts_of u.machine (state_of u)

-- these were the counts before an event that the units have done
pub record WereCounts (e : Event) (new : Units) (c : Counts) : Type 0 where
  pub old : Units
  pub does : Does e old new
  pub counts : AreCounts old c

-- so many events of a kind may happen
abbrev pub count_enabled : Units → Source → ℕ
count_enabled u s = length (enabled_of_kind u.machine (state_of u) s)

-- so many might before an event that the units have done
pub record WereEnabled (e : Event) (new : Units) (s : Source) (count : ℕ) : Type 0 where
  pub old : Units
  pub does : Does e old new
  pub same : count ≡ count_enabled old s

-- these are the lists and numbers of the kinds whose events may have to wait
pub record AreWaiting (u : Units) (t : Waiting) : Type 0 where
  pub decodes : t.decodes ≡ count_enabled u (source.Letters kind.Decode)
  pub opens : AreListed u kind.Open t.opens
  pub uses : AreListed u kind.Use t.uses
  pub retires : t.retires ≡ count_enabled u (source.Letters kind.Retire)
  pub starts : t.starts ≡ count_enabled u source.Start
  pub execs : t.execs ≡ count_enabled u source.Exec
  pub finishes : t.finishes ≡ count_enabled u source.Finish
  pub copies : t.copies ≡ count_enabled u source.Copy

-- these were so before an event
pub record WereWaiting (e : Event) (new : Units) (t : Waiting) : Type 0 where
  pub old : Units
  pub fit : IsFit old
  pub does : Does e old new
  pub waiting : AreWaiting old t

-- how many events of each kind may happen, in the order of the kinds
abbrev pub numbers_of : Units → List ℕ
numbers_of u = map (count_enabled u) SOURCES

-- these are those numbers, and what is kept of the kinds whose events may have to wait
pub record AreTested (u : Units) (t : Tested) : Type 0 where
  pub waiting : AreWaiting u t.waiting
  pub numbers : t.numbers ≡ numbers_of u

-- these were so before an event
pub record WereTested (e : Event) (new : Units) (t : Tested) : Type 0 where
  pub old : Units
  pub fit : IsFit old
  pub does : Does e old new
  pub tested : AreTested old t

-- the units fit, and what is kept is theirs
pub record IsKept (u : Units) (c : Counts) (t : Tested) : Type 0 where
  pub fit : IsFit u
  pub counts : AreCounts u c
  pub tested : AreTested u t
