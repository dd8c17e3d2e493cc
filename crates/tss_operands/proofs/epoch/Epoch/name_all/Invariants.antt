-- So far the objects of the first operands are named.
use Rattle.std.proofs.Common.{◌≡◌, take}
use Rattle.tss_model.specs.Access.{operands_of}
use Rattle.tss_model.specs.Spawn.{name_objects, objects_of}
use Rattle.tss_operands.proofs.epoch.Epoch.name_all.Given as goal

abbrev pub invariant-loop-operand : goal.invariant-loop-operand
invariant-loop-operand l =
    l.self ≡ record (l.fn.self) {
      objects = name_objects l.fn.self.objects (take l.operand-index (objects_of (operands_of l.fn.task)));
    }
