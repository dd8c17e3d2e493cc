-- The units before the first event.
use Rattle.std.specs.Prelude.{◌≡◌, ℕ, List, length, Some, None, slice_get}
use Rattle.std.specs.FinMap.{empty}
use Rattle.tss_base.specs.declared.machine.Machine.{Machine}
use Rattle.tss_base.specs.declared.machine.Sizes.{Sizes}
use Rattle.tss_base.specs.Image.{ImageState}
use Rattle.tss_protocol.specs.State.{initial_state}
use Rattle.tss_renaming.specs.Bank.{no_tables}
use Rattle.tss_pipeline.specs.declared.bank.Bank.{Bank}
use Rattle.tss_pipeline.specs.declared.units.Units.{Units}
use Rattle.tss_pipeline.specs.State.{state_of}
use Rattle.tss_pipeline.specs.Fit.{IsFit}

-- a bank with nothing in it
abbrev pub empty_bank : ℕ → Sizes → Bank
empty_bank n sizes = record {
  renaming = no_tables n sizes;
  versions = record { size = sizes.versions; versions = empty };
  engine = None;
  job = None;
}

-- so many banks, each with nothing in it
pub record AreEmpty (n : ℕ) (sizes : Sizes) (bs : List Bank) : Type 0 where
  pub count : length bs ≡ n
  pub each : (i : ℕ) (b : Bank) → slice_get bs i ≡ Some b → b ≡ empty_bank i sizes

-- the units of a machine before the first event of an image's run
pub record AreOpened (image : ImageState) (m : Machine) (u : Units) : Type 0 where
  pub machine : u.machine ≡ m
  pub state : state_of u ≡ initial_state image
  pub fit : IsFit u
