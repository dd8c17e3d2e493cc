-- What the calls of the rule of access answer.
use Rattle.std.specs.Prelude.{Bool, false, ◌||◌, List, Option, Result, Ok, Err}
use Rattle.std.specs.List.{list_any}
use Rattle.tss_base.specs.declared.range.Range.{Range}
use Rattle.tss_base.specs.declared.operand.Operand.{Operand}
use Rattle.tss_base.specs.Range.{contains}
use Rattle.tss_model.specs.Memory.{scratch_range}
use Rattle.tss_model.specs.Access as model
use Rattle.tss_model.specs.Access.{Access, Granted, is_fixed, task_may_store}
use Rattle.tss_core.specs.declared.access.Purpose.{Purpose}
use Rattle.tss_core.specs.declared.access.Purpose.TheVariants.{Loads, Stores}
use Rattle.tss_core.specs.declared.access.Deny.{Deny}
use Rattle.tss_core.specs.declared.access.Deny.TheVariants.{Denied, Touch}

-- what an access does, in the definitions' terms
abbrev pub purpose_of : Purpose → model.Purpose
purpose_of Loads = model.Loads
purpose_of Stores = model.Stores

-- an access that is granted, or why it isn't
abbrev pub allowed : Access → Result (Unit {0}) Deny
allowed Granted = Ok tt
allowed model.Denied = Err Denied
allowed model.Touch = Err Touch

-- the bytes of an access lie wholly inside the task's scratch or one of its operands, output or inout for a store
abbrev pub is_owned : Purpose → List Operand → Range → Bool
is_owned Loads operands r = contains scratch_range r || list_any (λ o. contains o.object r) operands
is_owned Stores operands r = task_may_store operands r

-- a load in memory that can't be written
abbrev pub is_fixed_for : Purpose → Option Bool → Bool
is_fixed_for Loads within = is_fixed within
is_fixed_for Stores within = false
