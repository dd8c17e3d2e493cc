-- What a write of main leaves of all that its view holds.
use Rattle.std.specs.Prelude.{◌≡◌, Option}
use Rattle.tss_model.specs.Core.{Write}
use Rattle.tss_model.specs.MainStep.{flat_written}
use Rattle.tss_steps.specs.declared.mains.MainView.{MainView}

-- main's view after a write, where there is one
pub record MainLeaves (old : MainView) (w : Option Write) (new : MainView) : Type 0 where
  pub memory : new.space.now ≡ flat_written old.space.now w
  pub code : new.code.now ≡ old.code.now
  pub epoch : new.epoch.now ≡ old.epoch.now
  pub reference : new.space.ghost_name ≡ old.space.ghost_name

-- main's view of the same machine
pub record IsSameMain (old new : MainView) : Type 0 where
  pub code : new.code.now ≡ old.code.now
  pub epoch : new.epoch.now ≡ old.epoch.now
  pub reference : new.space.ghost_name ≡ old.space.ghost_name
