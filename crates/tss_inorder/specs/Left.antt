-- What a write of a task leaves of all that its view holds.
use Rattle.std.specs.Prelude.{◌≡◌, Option}
use Rattle.tss_model.specs.Core.{Write}
use Rattle.tss_steps.specs.Tasks.{IsLeft}
use Rattle.tss_inorder.specs.Home.{home_terms}
use Rattle.tss_inorder.specs.declared.views.HomeTask.{HomeTask}

-- the view is of the same task in the same places
pub record IsSameTask (old new : HomeTask) : Type 0 where
  pub ranges : new.space.now.ranges ≡ old.space.now.ranges
  pub reference : new.space.ghost_name ≡ old.space.ghost_name
  pub scratch_reference : new.scratch.ghost_name ≡ old.scratch.ghost_name

-- the view after a write, where there is one
pub record TaskLeaves (old : HomeTask) (w : Option Write) (new : HomeTask) : Type 0 where
  pub left : IsLeft (home_terms old.code.now old.space.now.ranges old.operands.now)
      (home_terms new.code.now new.space.now.ranges new.operands.now) old.scratch.now new.scratch.now old.space.now new.space.now w
  pub same : IsSameTask old new
